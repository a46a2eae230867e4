-- Where the parts of a text are texts.
use Rattle.std.proofs.Common.{◌≡◌, ℕ, ◌+◌, ◌-◌, ◌<◌, ◌≤◌, List, [], length, take, drop, get_or, map, ap, ◌∙◌, subst, arith}
use Rattle.std.specs.Prelude.{IsUtf8}
use Rattle.std.specs.Str.{IsCharBoundary}
use Rattle.std.proofs.lemmas.Str.{IsUtf8-between, IsUtf8-drop, IsCharBoundary-start, IsCharBoundary-from_take, IsCharBoundary-from_rest}
use Rattle.std.proofs.lemmas.List.{length-drop, length-take-le, length-map, get_or-take, get_or-drop}
use Rattle.arrow_flat.specs.Natives.{octets}
use Rattle.arrow_flat.specs.Pieces.{AreTexts}
use Rattle.arrow_flat.proofs.Texts.{text_in}
use Rattle.arrow_views.proofs.Checks.{octets_at}

module _ (bs : List ℕ) (o n : ℕ) where
  pub part_text : IsUtf8 bs → IsCharBoundary bs o → IsCharBoundary bs (o + n) → IsUtf8 (take n (drop o bs))
  part_text u s e = let q : o + n - o ≡ n = omega arith in subst (λ k. IsUtf8 (take k (drop o bs))) q (IsUtf8-between bs o (o + n) u (omega arith) s e)

  first_at : 0 < n → get_or (take n (drop o bs)) 0 0 ≡ get_or bs o 0
  first_at p = let q : o + 0 ≡ o = omega arith in get_or-take n (drop o bs) 0 0 p ∙ get_or-drop o bs 0 0 ∙ ap (λ k. get_or bs k 0) q

  pub part_begins : 0 < n → o + n ≤ length bs → IsUtf8 (take n (drop o bs)) → IsCharBoundary bs o
  part_begins p l u =
      let start = IsCharBoundary-start (take n (drop o bs)) u in
      let many = length-take-le n (drop o bs) (omega (arith, length-drop o bs)) in
      (omega arith, subst (λ b. o < length bs → 128 ≤ b → 192 ≤ b) (first_at p) (λ _. start.1 (omega arith)))

  pub part_ends : 0 < n → o + n ≤ length bs → IsUtf8 bs → IsUtf8 (take n (drop o bs)) → IsCharBoundary bs (o + n)
  part_ends p l u t =
      IsCharBoundary-from_rest bs o n (omega arith)
      (IsCharBoundary-from_take (drop o bs) n (IsUtf8-drop bs o u (part_begins p l t)) (omega (arith, length-drop o bs)) t)

pub text_of : (raw : List (List ℕ)) (b : ℕ) → AreTexts (map octets raw) → b < length raw → IsUtf8 (octets (get_or raw b []))
text_of raw b h l = subst IsUtf8 (octets_at raw b) (text_in (map octets raw) b h (omega (arith, length-map raw octets)))
