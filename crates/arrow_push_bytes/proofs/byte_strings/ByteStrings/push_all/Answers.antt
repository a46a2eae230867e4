use Rattle.std.proofs.Common.{◌≡◌, ◌+◌, ◌≤◌, [], ◌∷◌, ◌++◌, take, length, ap, sym, ◌∙◌, arith, inl, inr}
use Rattle.std.specs.Prelude.{◌⊎◌}
use Rattle.std.proofs.lemmas.List.{append_assoc}
use Rattle.arrow_types.specs.declared.error.PolarsError.{PolarsError}
use Rattle.arrow_flat.proofs.Masked.{take_at}
use Rattle.arrow_push.proofs.Later.{passed_on}
use Rattle.arrow_push_bytes.specs.Strings.{total_of, IsOverflow}
use Rattle.arrow_push_bytes.proofs.Strings.{total_append, total_push, total_take}
use Rattle.arrow_push_bytes.proofs.byte_strings.ByteStrings.push_all.Goals as goal

pub returns-in_err-try_push-clause-refused : goal.returns-in_err-try_push-clause-refused
returns-in_err-try_push-clause-refused g c =
    passed_on c.from_residual.result _ _ _ c.from_residual.ensures.1 (by _ c.in_err-try_push.ensures.1)
  where
    by : (e : PolarsError) → IsOverflow g.O.Offset.limit (total_of c.loop-i.self + length c.value.result.now) e
        → IsOverflow g.O.Offset.limit (total_of c.args.self.now + total_of c.args.other.now) e
    by e (inl m) = inl m
    by e (inr p) =
        let i = c.loop-i.i in
        let other = c.args.other.now in
        let a = ap total_of c.loop-i.invariant.taken ∙ total_append c.args.self.now (take i other) in
        let b = ap total_of (take_at other i c.value.result.now c.value.ensures.value) ∙ total_push (take i other) c.value.result.now in
        let d = total_take (i + 1) other in
        let l = p.1 in
        inr (p.0, omega arith)

pub loop-i-preserved : goal.loop-i-preserved
loop-i-preserved g c =
    let i = c.loop-i.i in
    let other = c.args.other.now in
    let more = take_at other i c.value.result.now c.value.ensures.value in
    record {
      taken = c.in_ok-try_push.ensures.0 ∙ ap (λ xs. xs ++ c.value.result.now ∷ []) c.loop-i.invariant.taken
          ∙ append_assoc c.args.self.now (take i other) (c.value.result.now ∷ []) ∙ ap (λ xs. c.args.self.now ++ xs) (sym more);
      fits =
          let a = ap total_of c.loop-i.invariant.taken ∙ total_append c.args.self.now (take i other) in
          let b = ap total_of more ∙ total_push (take i other) c.value.result.now in
          let l = c.in_ok-try_push.ensures.1 in
          omega arith;
    }
