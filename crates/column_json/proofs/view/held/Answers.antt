use Rattle.std.proofs.Common.{◌≡◌, ◌+◌, ◌-◌, ℕ, List, take, drop, ap, arith}
use Rattle.column_json.proofs.ViewParts.{inline_value}
use Rattle.column_json.proofs.view.held.Goals as goal

part : (n : ℕ) (all : List ℕ) → take (4 + n - 4) (drop 4 all) ≡ take n (drop 4 all)
part n all = let count : 4 + n - 4 ≡ n = omega arith in ap (λ k. take k (drop 4 all)) count

pub returns-clause-value : goal.returns-clause-value
returns-clause-value c =
    inline_value c.args.slot.now c.length-length.result c.as_bytes.result.now _ c.requires c.length-length.ensures.placed c.length-length.ensures.value c.as_bytes.ensures.bytes
    (part c.length-length.result c.as_bytes.result.now)
