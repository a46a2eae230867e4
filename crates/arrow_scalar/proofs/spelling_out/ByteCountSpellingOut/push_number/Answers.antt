use Rattle.std.proofs.Common.{◌≡◌, ◌+◌, ◌-◌, ◌^◌, min, OnOk, subst, sym, rules}
use Rattle.arrow_scalar.proofs.Spelled.{number_count}
use Rattle.arrow_scalar.proofs.spelling_out.ByteCountSpellingOut.push_number.Goals as goal

pub returns : goal.returns
returns c =
    subst (λ k. OnOk c.add.result (min c.add.new.self.bytes (2 ^ 64 - 1) ≡ min (c.args.self.now.bytes + k) (2 ^ 64 - 1))) (sym (number_count c.args._number)) (search rules)
