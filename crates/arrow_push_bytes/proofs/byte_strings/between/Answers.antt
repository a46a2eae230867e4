use Rattle.std.proofs.Common.{◌-◌, drop, arith}
use Rattle.arrow_views.specs.ViewBytes.{bytes_from, bytes_take, bytes_drop}
use Rattle.arrow_push_bytes.proofs.byte_strings.between.Goals as goal

pub returns-clause-bytes : goal.returns-clause-bytes
returns-clause-bytes c =
    let bs = c.args.bytes.now in
    bytes_take (c.args.end - c.args.start) (drop c.args.start bs)
    (bytes_drop c.args.start bs (bytes_from bs (λ i l. omega (arith, c.type_inv.bytes i))))
