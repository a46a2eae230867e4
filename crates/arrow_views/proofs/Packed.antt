-- Values that are packed one after the other: how many buffers there are, and what each step leaves.
use Rattle.std.proofs.Common.{◌≡◌, ℕ, zero, suc, ◌+◌, ◌*◌, ◌%◌, ◌^◌, ◌<◌, ◌≤◌, nat_le, Bool, true, false, cond, List, [], ◌∷◌, ◌++◌, length, map, sum, take, slice_get, refl, ap, ap₂, sym, subst, if◌then◌else◌, take_all, ◌∙◌, arith, append-nil, length-append, Some}
use Rattle.std.specs.List.{AllByRecursion}
use Rattle.std.proofs.lemmas.Bool.{leb-false}
use Rattle.std.proofs.lemmas.List.{length-map}
use Rattle.arrow_flat.specs.Natives.{octets}
use Rattle.arrow_flat.specs.Packs.{view_limit, pack_after, pack, packed_views}
use Rattle.arrow_flat.specs.Views.{View, is_short, longs}
use Rattle.arrow_flat.proofs.Lists.{all_take}
use Rattle.arrow_flat.proofs.Masked.{take_at}
use Rattle.arrow_flat.proofs.PackedViews.{total, sum-total}
use Rattle.arrow_views.specs.Packing.{Packing, packed_on, packed_view, packed_after}
use Rattle.arrow_views.proofs.Packing.{pack_push, views_push, longs_push}

-- ---- how many bytes the values have
total_join : (us vs : List (List ℕ)) → total (us ++ vs) ≡ total us + total vs
total_join [] vs = omega arith
total_join (u ∷ us) vs = let q : total (us ++ vs) ≡ total us + total vs = total_join us vs in omega arith

total_first : (n : ℕ) (vs : List (List ℕ)) → total (take n vs) ≤ total vs
total_first zero vs = omega arith
total_first (suc n) [] = omega arith
total_first (suc n) (v ∷ vs) = let q : total (take n vs) ≤ total vs = total_first n vs in omega arith

total_longs : (vs : List (List ℕ)) → total (longs vs) ≤ total vs
total_longs [] = omega arith
total_longs (v ∷ vs) = by (is_short v) (total_longs vs)
  where
    by : (s : Bool) → total (longs vs) ≤ total vs → total (cond s [] (v ∷ []) ++ longs vs) ≤ length v + total vs
    by true h = omega arith
    by false h = omega arith

-- the long values of one value more
pub long_more : (vs : List (List ℕ)) (i : ℕ) (v : List ℕ) → slice_get vs i ≡ Some v
    → total (longs (take (i + 1) vs)) ≡ total (longs (take i vs)) + cond (is_short v) 0 (length v)
long_more vs i v e =
    ap (λ us. total (longs us)) (take_at vs i v e) ∙ ap total (longs_push (take i vs) v) ∙ total_join (longs (take i vs)) (cond (is_short v) [] (v ∷ [])) ∙ by (is_short v)
  where
    by : (s : Bool) → total (longs (take i vs)) + total (cond s [] (v ∷ [])) ≡ total (longs (take i vs)) + cond s 0 (length v)
    by true = refl
    by false = omega arith

pub longs_few : (vs : List (List ℕ)) (i : ℕ) → sum (map length vs) ≤ 2 ^ 62 → total (longs (take i vs)) ≤ 2 ^ 62
longs_few vs i few = omega (arith, total_longs (take i vs), total_first i vs, sum-total vs, few)

-- what a step of the count finds
module _ (vs : List (List ℕ)) (i : ℕ) (raw : List ℕ) (n k : ℕ) (here : slice_get vs i ≡ Some (octets raw)) (so_far : n ≡ total (longs (take i vs)))
    (adds : k ≡ (if is_short (octets raw) then 0 else length raw)) where
  pub long_counted : n + k ≡ total (longs (take (i + 1) vs))
  long_counted =
      ap₂ (λ n k. n + k) so_far (adds ∙ ap (λ m. cond (is_short (octets raw)) 0 m) (sym (length-map raw (λ b. b % 256))))
      ∙ sym (long_more vs i (octets raw) here)

  pub long_fits : sum (map length vs) ≤ 2 ^ 62 → n + k ≤ 2 ^ 62
  long_fits few = omega (arith, long_counted, longs_few vs (i + 1) few)

-- at the end of the count
pub long_total : (vs : List (List ℕ)) (i n : ℕ) → length vs ≤ i → n ≡ total (longs (take i vs)) → n ≡ sum (map length (longs vs))
long_total vs i n l e = e ∙ ap (λ us. total (longs us)) (take_all i vs l) ∙ sym (sum-total (longs vs))

-- ---- how many buffers there are
module _ (limit : ℕ) (high : 4294967296 ≤ suc limit) where
  -- Two neighbours have more bytes than the limit together.
  count_after : (last : List ℕ) (us : List (List ℕ)) (k placed : ℕ) → 4294967296 * k + length last ≤ 2 * placed
      → 4294967296 * (k + length (pack_after limit last us)) ≤ 4294967296 + 2 * (placed + total us)
  count_after last [] k placed h = omega arith
  count_after last (u ∷ us) k placed h =
      by (nat_le (length last + length u) limit) refl (count_after (last ++ u) us k (placed + length u)) (count_after u us (suc k) (placed + length u))
    where
      by : (t : Bool) → nat_le (length last + length u) limit ≡ t
          → (4294967296 * k + length (last ++ u) ≤ 2 * (placed + length u)
          → 4294967296 * (k + length (pack_after limit (last ++ u) us)) ≤ 4294967296 + 2 * ((placed + length u) + total us))
          → (4294967296 * suc k + length u ≤ 2 * (placed + length u)
          → 4294967296 * (suc k + length (pack_after limit u us)) ≤ 4294967296 + 2 * ((placed + length u) + total us))
          → 4294967296 * (k + length (cond t [] (last ∷ []) ++ pack_after limit (cond t (last ++ u) u) us)) ≤ 4294967296 + 2 * (placed + (length u + total us))
      by true e f g = let q = f (omega (arith, length-append last u)) in omega (arith, q)
      by false e f g =
          let past : limit < length last + length u = leb-false (length last + length u) limit e in
          let q = g (omega arith) in
          omega (arith, q)

  pack_count : (us : List (List ℕ)) → 4294967296 * length (pack limit us) ≤ 4294967296 + 2 * total us
  pack_count [] = omega arith
  pack_count (u ∷ us) =
      let q : 4294967296 * (0 + length (pack_after limit u us)) ≤ 4294967296 + 2 * (length u + total us) = count_after u us 0 (length u) (omega arith) in
      omega arith

pub buffers_few : (vs : List (List ℕ)) (i : ℕ) (buffers : List (List ℕ)) → sum (map length vs) ≤ 2 ^ 62 → buffers ≡ pack view_limit (longs (take i vs)) → length buffers < 4294967295
buffers_few vs i buffers few e =
    let us = take i vs in
    let many : 4294967296 * length (pack view_limit (longs us)) ≤ 4294967296 + 2 * total (longs us) = pack_count view_limit (omega arith) (longs us) in
    let q : length (pack view_limit (longs us)) < 4294967295 = omega (arith, many, longs_few vs i few) in
    subst (λ bs. length bs < 4294967295) (sym e) q

-- ---- one value more
all_there : {A : Type 0} (P : A → Type 0) (xs : List A) (i : ℕ) (x : A) → AllByRecursion P xs → slice_get xs i ≡ Some x → P x
all_there P [] i x h e = cc
all_there P (y ∷ ys) zero x h e = let same : y ≡ x = cc in subst P same h.0
all_there P (y ∷ ys) (suc i) x h e = all_there P ys i x h.1 e

abbrev pub IsPacked : List ℕ → Type 0
IsPacked v = length v ≤ view_limit

pub value_fits : (vs : List (List ℕ)) (i : ℕ) (v : List ℕ) → AllByRecursion IsPacked vs → slice_get vs i ≡ Some v → length v ≤ view_limit
value_fits vs i v h e = all_there IsPacked vs i v h e

short_or_long : (limit : ℕ) (us : List (List ℕ)) (v : List ℕ) (s : Bool) → cond s (pack limit us) (packed_on limit (pack limit us) v) ≡ pack limit (us ++ cond s [] (v ∷ []))
short_or_long limit us v true = ap (pack limit) (sym (append-nil us))
short_or_long limit us v false = pack_push limit us v

packed_next : (vs : List (List ℕ)) (i : ℕ) (v : List ℕ) → slice_get vs i ≡ Some v
    → cond (is_short v) (pack view_limit (longs (take i vs))) (packed_on view_limit (pack view_limit (longs (take i vs))) v) ≡ pack view_limit (longs (take (i + 1) vs))
packed_next vs i v e =
    short_or_long view_limit (longs (take i vs)) v (is_short v)
    ∙ ap (pack view_limit) (sym (longs_push (take i vs) v))
    ∙ ap (λ us. pack view_limit (longs us)) (sym (take_at vs i v e))

views_next : (vs : List (List ℕ)) (i : ℕ) (v : List ℕ) → AllByRecursion IsPacked vs → slice_get vs i ≡ Some v
    → packed_views view_limit (take i vs) ++ packed_view view_limit (pack view_limit (longs (take i vs))) v ∷ [] ≡ packed_views view_limit (take (i + 1) vs)
views_next vs i v h e =
    sym (views_push view_limit (take i vs) v (all_take IsPacked i vs h)) ∙ ap (packed_views view_limit) (sym (take_at vs i v e))

-- the packer and the views of the first i values
abbrev pub packed_first : List (List ℕ) → ℕ → Packing
packed_first vs i = record { limit = view_limit; buffers = pack view_limit (longs (take i vs)) }

pub value_packed : (vs : List (List ℕ)) (i : ℕ) (v : List ℕ) (p : Packing) → slice_get vs i ≡ Some v → p ≡ packed_first vs i → packed_after p v ≡ packed_first vs (i + 1)
value_packed vs i v p e h = ap (λ q. packed_after q v) h ∙ ap (λ bs. record { limit = view_limit; buffers = bs }) (packed_next vs i v e)

pub value_viewed : (vs : List (List ℕ)) (i : ℕ) (v : List ℕ) (p : Packing) (us : List View) (u : View) → AllByRecursion IsPacked vs → slice_get vs i ≡ Some v
    → p ≡ packed_first vs i → us ≡ packed_views view_limit (take i vs) → u ≡ packed_view p.limit p.buffers v
    → us ++ u ∷ [] ≡ packed_views view_limit (take (i + 1) vs)
value_viewed vs i v p us u w e h k l =
    ap₂ (λ xs x. xs ++ x ∷ []) k (l ∙ ap (λ q. packed_view q.limit q.buffers v) h) ∙ views_next vs i v w e
