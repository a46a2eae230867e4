-- What pushes do to builders of binary values and of strings by offsets.
use Rattle.std.proofs.Common.{◌≡◌, ℕ, ◌+◌, ◌<◌, ◌≤◌, nat_le, ℤ, pos, negsuc, Bool, true, false, cond, List, [], ◌∷◌, ◌++◌, map, length, refl, ap, sym, ◌∙◌, arith, inl, inr, Some, None}
use Rattle.std.specs.Prelude.{◌⊎◌, Result, Ok, Err, MatchResult}
use Rattle.std.proofs.lemmas.List.{append-nil, map-append}
use Rattle.arrow_types.specs.Seen.{seen}
use Rattle.arrow_types.specs.declared.datatype.ArrowDataType.{ArrowDataType}
use Rattle.arrow_types.specs.declared.error.PolarsError.{PolarsError}
use Rattle.arrow_types.specs.declared.error.PolarsError.TheVariants.{ComputeError, OutOfMemory}
use Rattle.arrow_types.specs.declared.error.Reason.TheVariants.{LengthOverflow}
use Rattle.arrow_types.specs.Select.{nat_of}
use Rattle.arrow_buffers.specs.Offsets.{to_nat}
use Rattle.arrow_flat.specs.Slots.{Slot, bytes}
use Rattle.arrow_flat.specs.Built.{Takes, Pushes, IsUnchanged, ExtendsFrom}
use Rattle.arrow_bytes.specs.Binaries.{AreTextsIf as AreOffsetTextsIf}
use Rattle.arrow_views.specs.ViewArrays.{AreTextsIf}
use Rattle.arrow_push_bytes.specs.Strings.{total_of}
use Rattle.arrow_push_bytes.specs.BuiltStrings.{TypedStrings}
use Rattle.arrow_push_bytes.specs.BuiltOffsets.{bytes_refusal, strings_refusal, built_offsets}
use Rattle.arrow_push_bytes.proofs.Strings.{total_append}
use Rattle.arrow_push_bytes.proofs.BuiltStrings.{strings_take, strings_keep}

abbrev overflow : PolarsError
overflow = ComputeError LengthOverflow

-- the two arrays' words for strings
pub offset_texts : (text : Bool) (xs : List (List ℕ)) → AreTextsIf text xs → AreOffsetTextsIf text xs
offset_texts true xs h = h
offset_texts false xs h = tt

-- the two words for the number of an offset
pub same_numbers : (os : List ℤ) → map nat_of os ≡ map to_nat os
same_numbers [] = refl
same_numbers (pos n ∷ os) = ap (λ ns. n ∷ ns) (same_numbers os)
same_numbers (negsuc n ∷ os) = ap (λ ns. 0 ∷ ns) (same_numbers os)

module _ (limit : ℕ) where
  -- strings that fit, and slots after them
  refusal_behind : (n : ℕ) (xs : List (List ℕ)) (ys : List Slot) → n + total_of xs < limit
      → bytes_refusal limit n (map bytes xs ++ ys) ≡ bytes_refusal limit (n + total_of xs) ys
  refusal_behind n [] ys h = let q : n ≡ n + 0 = omega arith in ap (λ k. bytes_refusal limit k ys) q
  refusal_behind n (x ∷ xs) ys h =
      let f : nat_le limit (n + length x) ≡ false = grind arith in
      let q : n + length x + total_of xs ≡ n + (length x + total_of xs) = omega arith in
      ap (λ b. cond b (Some overflow) (bytes_refusal limit (n + length x) (map bytes xs ++ ys))) f
      ∙ refusal_behind (n + length x) xs ys (omega arith) ∙ ap (λ k. bytes_refusal limit k ys) q

  -- strings that fit are not refused
  pub refusal_none : (n : ℕ) (xs : List (List ℕ)) → n + total_of xs < limit → bytes_refusal limit n (map bytes xs) ≡ None
  refusal_none n xs h = ap (bytes_refusal limit n) (sym (append-nil (map bytes xs))) ∙ refusal_behind n xs [] h

  refused_here : (n : ℕ) (x : List ℕ) (ys : List Slot) (b : Bool) → nat_le limit (n + length x) ≡ b
      → (n + length x < limit → bytes_refusal limit (n + length x) ys ≡ Some overflow) → bytes_refusal limit n (bytes x ∷ ys) ≡ Some overflow
  refused_here n x ys true e later = ap (λ b. cond b (Some overflow) (bytes_refusal limit (n + length x) ys)) e
  refused_here n x ys false e later =
      ap (λ b. cond b (Some overflow) (bytes_refusal limit (n + length x) ys)) e ∙ later (grind arith)

  -- others are
  pub refusal_some : (n : ℕ) (xs : List (List ℕ)) → n < limit → limit ≤ n + total_of xs → bytes_refusal limit n (map bytes xs) ≡ Some overflow
  refusal_some n [] h l = absurd (omega arith)
  refusal_some n (x ∷ xs) h l =
      refused_here n x (map bytes xs) (nat_le limit (n + length x)) refl (λ m. refusal_some (n + length x) xs m (omega arith))

  -- strings were appended
  pub took_strings : (b : TypedStrings) (t : ArrowDataType) (ys more : List (List ℕ)) → t ≡ b.dtype → more ≡ b.strings ++ ys → total_of b.strings + total_of ys < limit
      → Takes (built_offsets limit b) (built_offsets limit (record { dtype = t; strings = more })) (map bytes ys)
  took_strings b t ys more k e h =
      let xs = b.strings in
      strings_take (strings_refusal limit) (seen b.dtype) (seen t) xs ys more (ap seen k) e (refusal_none (total_of xs) ys h)
      (λ zs. ap (λ n. bytes_refusal limit n zs) (total_append xs ys) ∙ sym (refusal_behind (total_of xs) ys zs h))

  pub took_string : (b : TypedStrings) (t : ArrowDataType) (x : List ℕ) (more : List (List ℕ)) → t ≡ b.dtype → more ≡ b.strings ++ x ∷ [] → total_of b.strings + length x < limit
      → Takes (built_offsets limit b) (built_offsets limit (record { dtype = t; strings = more })) (bytes x ∷ [])
  took_string b t x more k e h = took_strings b t (x ∷ []) more k e (omega arith)

  pub kept_strings : (b : TypedStrings) (t : ArrowDataType) (ys : List (List ℕ)) → t ≡ b.dtype → ys ≡ b.strings
      → IsUnchanged (built_offsets limit b) (built_offsets limit (record { dtype = t; strings = ys }))
  kept_strings b t ys k e = strings_keep (strings_refusal limit) (seen b.dtype) (seen t) b.strings ys (ap seen k) e

  -- why a string was refused
  pub refused_string : (n : ℕ) (x : List ℕ) (e : PolarsError) → (e ≡ OutOfMemory) ⊎ ((e ≡ overflow) × (limit ≤ n + length x))
      → (e ≡ OutOfMemory) ⊎ ((y : Slot) × (y ≡ bytes x) × (bytes_refusal limit n (y ∷ []) ≡ Some e))
  refused_string n x e (inl m) = inl m
  refused_string n x e (inr p) =
      let t : nat_le limit (n + length x) ≡ true = (let l = p.1 in grind arith) in
      inr (bytes x, refl, ap (λ b. cond b (Some overflow) (bytes_refusal limit (n + length x) [])) t ∙ ap Some (sym p.0))

  pub refused_strings : (n : ℕ) (xs : List (List ℕ)) (e : PolarsError) → n < limit → (e ≡ OutOfMemory) ⊎ ((e ≡ overflow) × (limit ≤ n + total_of xs))
      → (e ≡ OutOfMemory) ⊎ (bytes_refusal limit n (map bytes xs) ≡ Some e)
  refused_strings n xs e h (inl m) = inl m
  refused_strings n xs e h (inr p) = inr (refusal_some n xs h p.1 ∙ ap Some (sym p.0))

  -- a push of one string, and of several, by what the strings themselves answer
  pub pushed : (b : TypedStrings) (ws : List (List ℕ)) (v : List ℕ) (r : Result (Unit {0}) PolarsError)
      → MatchResult r (λ _. (ws ≡ b.strings ++ v ∷ []) × (total_of b.strings + length v < limit))
      (λ e. (ws ≡ b.strings) × ((e ≡ OutOfMemory) ⊎ ((e ≡ overflow) × (limit ≤ total_of b.strings + length v))))
      → Pushes (λ y. y ≡ bytes v) (λ y. y ≡ bytes v) (built_offsets limit b) (built_offsets limit (record { dtype = b.dtype; strings = ws })) r
  pushed b ws v (Ok u) h = (bytes v, refl, took_string b b.dtype v ws refl h.0 h.1)
  pushed b ws v (Err e) h = (kept_strings b b.dtype ws refl h.0, refused_string (total_of b.strings) v e h.1)

  pub extended : (b : TypedStrings) (ws ys : List (List ℕ)) (r : Result (Unit {0}) PolarsError) → total_of b.strings < limit
      → MatchResult r (λ _. (ws ≡ b.strings ++ ys) × (total_of b.strings + total_of ys < limit))
      (λ e. (ws ≡ b.strings) × ((e ≡ OutOfMemory) ⊎ ((e ≡ overflow) × (limit ≤ total_of b.strings + total_of ys))))
      → ExtendsFrom ((built_offsets limit b).refusal (map bytes ys)) (Unit {0}) (built_offsets limit b) (built_offsets limit (record { dtype = b.dtype; strings = ws })) (map bytes ys) r
  extended b ws ys (Ok u) few h = let k = took_strings b b.dtype ys ws refl h.0 h.1 in (k.accepted, k.held, λ _. k)
  extended b ws ys (Err e) few h = (kept_strings b b.dtype ws refl h.0, refused_strings (total_of b.strings) ys e few h.1)
