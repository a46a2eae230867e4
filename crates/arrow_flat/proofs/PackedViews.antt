-- The views of packed values are well formed.
use Rattle.std.proofs.Common.{Bool, List, [], ap, append_assoc, ap₂, arith, cond, drop_at, false, fold, get_or, length, length-append, map, nat_le, refl, replicate, subst, suc, sum, sym, take, true, ℕ, ◌*◌, ◌++◌, ◌+◌, ◌-◌, ◌<◌, ◌^◌, ◌∙◌, ◌∷◌, ◌≡◌, ◌≤◌}
use Rattle.std.proofs.lemmas.Bool.{leb-false, leb-true}
use Rattle.std.proofs.lemmas.List.{length-replicate}
use Rattle.std.specs.List.{AllByRecursion}
use Rattle.arrow_flat.specs.Packs.{pack, pack_after, packed_views, place, spot, views_after}
use Rattle.arrow_flat.specs.Views.{IsView, inline_view, is_short, long, longs, view_length}
use Rattle.arrow_flat.specs.Natives.{AreBytes}
use Rattle.arrow_flat.proofs.Lists.{all_join, all_replicate}
use Rattle.arrow_flat.proofs.PackedReads.{first_buffer, get_behind, pack_start, read_at}

abbrev pub total : List (List ℕ) → ℕ
total [] = 0
total (v ∷ vs) = length v + total vs

fold_total : (n : ℕ) (vs : List (List ℕ)) → fold (λ a x. a + x) n (map length vs) ≡ n + total vs
fold_total n [] = sym (omega arith)
fold_total n (v ∷ vs) = fold_total (n + length v) vs ∙ omega arith

pub sum-total : (vs : List (List ℕ)) → sum (map length vs) ≡ total vs
sum-total vs = fold_total 0 vs ∙ omega arith

pub inline_well : (B : List (List ℕ)) (v : List ℕ) → length v ≤ 12 → AreBytes v → IsView B (inline_view v)
inline_well B v h k =
    let zeros : List ℕ = replicate (12 - length v) 0 in (
      h,
      length-append v zeros ∙ (ap (λ n. length v + n) (length-replicate (12 - length v) 0) ∙ omega arith),
      drop_at v zeros (length v) refl,
      all_join (λ b. b < 256) v zeros k (all_replicate (λ b. b < 256) (12 - length v) 0 (omega arith)),
    )

module _ (limit : ℕ) where
  some_buffer : (last : List ℕ) (vs : List (List ℕ)) → 0 < length (pack_after limit last vs)
  some_buffer last [] = omega arith
  some_buffer last (v ∷ vs) = by (nat_le (length last + length v) limit) (some_buffer (last ++ v) vs) where
    by : (t : Bool) → 0 < length (pack_after limit (last ++ v) vs) → 0 < length (cond t [] (last ∷ []) ++ pack_after limit (cond t (last ++ v) v) vs)
    by true h = h
    by false h = omega arith

  -- the view of a value that stands after the last buffer's bytes
  long_well : (older : List (List ℕ)) (last v : List ℕ) (us : List (List ℕ)) (b e : ℕ) → length older ≡ b → length last ≡ e → 12 < length v → length v < 2 ^ 32 → b < 2 ^ 32 → e < 2 ^ 32
      → IsView (older ++ pack_after limit (last ++ v) us) (long (length v) (take 4 v) b e)
  long_well older last v us b e l k n m p q =
      let f = first_buffer limit (last ++ v) us in
      let B = older ++ pack_after limit (last ++ v) us in
      let here : get_or B b [] ≡ (last ++ v) ++ f.0 = ap (λ i. get_or B i []) (sym l) ∙ (get_behind limit older (pack_after limit (last ++ v) us) ∙ f.1) in
      let long_enough : length (get_or B b []) ≡ (length last + length v) + length f.0 = ap length here ∙ (length-append (last ++ v) f.0 ∙ ap (λ i. i + length f.0) (length-append last v)) in (
        n,
        omega (arith, length-append older (pack_after limit (last ++ v) us), some_buffer (last ++ v) us),
        omega arith,
        ap (take 4) (sym (read_at limit older last v us b e l k)),
        m,
        p,
        q,
      )

  -- what the values that are still to come keep
  abbrev WellFrom : List (List ℕ) → Type 0
  WellFrom vs =
      (older : List (List ℕ)) (last : List ℕ) (b e placed : ℕ) → length older ≡ b → length last ≡ e → e ≤ limit → 4294967296 * b + e ≤ 2 * placed → placed + total vs ≤ 2 ^ 62
      → AllByRecursion (IsView (older ++ pack_after limit last (longs vs))) (views_after limit b e vs)

  well_step : (low : limit < 4294967296) (high : 4294967296 ≤ suc limit) (B older : List (List ℕ)) (last v : List ℕ) (b e placed : ℕ) (vs : List (List ℕ)) (s t : Bool)
      → B ≡ older ++ pack_after limit last (cond s [] (v ∷ []) ++ longs vs) → length older ≡ b → length last ≡ e → is_short v ≡ s → nat_le (e + length v) limit ≡ t → e ≤ limit
      → length v ≤ limit → AreBytes v → 4294967296 * b + e ≤ 2 * placed → placed + (length v + total vs) ≤ 2 ^ 62 → WellFrom vs
      → AllByRecursion (IsView B)
      (cond s (inline_view v) (long (length v) (take 4 v) (spot t b e).0 (spot t b e).1)
      ∷ views_after limit (cond {A = ℕ × ℕ} s (b, e) ((spot t b e).0, (spot t b e).1 + length v)).0 (cond {A = ℕ × ℕ} s (b, e) ((spot t b e).0, (spot t b e).1 + length v)).1 vs)
  well_step low high B older last v b e placed vs true t q l k sh h le n by p room ih =
      subst (λ C. AllByRecursion (IsView C) (inline_view v ∷ views_after limit b e vs)) (sym q)
      (inline_well (older ++ pack_after limit last (longs vs)) v (leb-true (length v) 12 sh) by, ih older last b e placed l k le p (omega arith))
  well_step low high B older last v b e placed vs false true q l k sh h le n by p room ih =
      let h' : nat_le (length last + length v) limit ≡ true = subst (λ i. nat_le (i + length v) limit ≡ true) (sym k) h in
      let q' : B ≡ older ++ pack_after limit (last ++ v) (longs vs) = q ∙ ap (λ r. older ++ (cond r [] (last ∷ []) ++ pack_after limit (cond r (last ++ v) v) (longs vs))) h' in
      let within : e + length v ≤ limit = leb-true (e + length v) limit h in
      subst (λ C. AllByRecursion (IsView C) (long (length v) (take 4 v) b e ∷ views_after limit b (e + length v) vs)) (sym q') (
        long_well older last v (longs vs) b e l k (leb-false (length v) 12 sh) (omega arith) (omega arith) (omega arith),
        ih older (last ++ v) b (e + length v) (placed + length v) l (omega (arith, length-append last v)) within (omega arith) (omega arith),
      )
  well_step low high B older last v b e placed vs false false q l k sh h le n by p room ih =
      let h' : nat_le (length last + length v) limit ≡ false = subst (λ i. nat_le (i + length v) limit ≡ false) (sym k) h in
      let q' : B ≡ (older ++ last ∷ []) ++ pack_after limit v (longs vs) =
      q ∙ (ap (λ r. older ++ (cond r [] (last ∷ []) ++ pack_after limit (cond r (last ++ v) v) (longs vs))) h' ∙ sym (append_assoc older (last ∷ []) (pack_after limit v (longs vs)))) in
      let z : length v ≡ 0 + length v = omega arith in
      let m : length (older ++ last ∷ []) ≡ suc b = length-append older (last ∷ []) ∙ omega arith in
      let past : limit < e + length v = leb-false (e + length v) limit h in
      subst (λ C. AllByRecursion (IsView C) (long (length v) (take 4 v) (suc b) 0 ∷ views_after limit (suc b) (0 + length v) vs)) (sym q') (
        long_well (older ++ last ∷ []) [] v (longs vs) (suc b) 0 m refl (leb-false (length v) 12 sh) (omega arith) (omega arith) (omega arith),
        ih (older ++ last ∷ []) v (suc b) (0 + length v) (placed + length v) m z (omega arith) (omega arith) (omega arith),
      )

  well_from : limit < 4294967296 → 4294967296 ≤ suc limit → (vs : List (List ℕ)) → AllByRecursion (λ v. length v ≤ limit) vs → AllByRecursion AreBytes vs → WellFrom vs
  well_from low high [] n by older last b e placed l k le p room = tt
  well_from low high (v ∷ vs) n by older last b e placed l k le p room =
      well_step low high _ older last v b e placed vs (is_short v) (nat_le (e + length v) limit) refl l k refl refl le n.0 by.0 p room (well_from low high vs n.1 by.1)

  short_well : (B : List (List ℕ)) (vs : List (List ℕ)) (b e : ℕ) → longs vs ≡ [] → AllByRecursion AreBytes vs → AllByRecursion (IsView B) (views_after limit b e vs)
  short_well B [] b e n k = tt
  short_well B (v ∷ vs) b e n k = by (is_short v) refl n (λ m. short_well B vs b e m k.1) where
    by : (s : Bool) → is_short v ≡ s → cond s [] (v ∷ []) ++ longs vs ≡ [] → (longs vs ≡ [] → AllByRecursion (IsView B) (views_after limit b e vs))
        → AllByRecursion (IsView B)
        (cond s (inline_view v) (long (length v) (take 4 v) (place limit b e (length v)).0 (place limit b e (length v)).1)
        ∷ views_after limit (cond {A = ℕ × ℕ} s (b, e) ((place limit b e (length v)).0, (place limit b e (length v)).1 + length v)).0
        (cond {A = ℕ × ℕ} s (b, e) ((place limit b e (length v)).0, (place limit b e (length v)).1 + length v)).1 vs)
    by true sh n f = (inline_well B v (leb-true (length v) 12 sh) k.0, f n)
    by false sh n f = let none : suc (length (longs vs)) ≡ 0 = ap length n in absurd (omega arith)

  pub packed_well : limit < 4294967296 → 4294967296 ≤ suc limit → (vs : List (List ℕ)) → AllByRecursion (λ v. length v ≤ limit) vs → AllByRecursion (λ v. length v ≤ limit) (longs vs) → AllByRecursion AreBytes vs
      → total vs ≤ 2 ^ 62 → AllByRecursion (IsView (pack limit (longs vs))) (packed_views limit vs)
  packed_well low high vs n m k room = by (longs vs) refl m where
    by : (us : List (List ℕ)) → longs vs ≡ us → AllByRecursion (λ v. length v ≤ limit) us → AllByRecursion (IsView (pack limit us)) (packed_views limit vs)
    by [] e h = short_well [] vs 0 0 e k
    by (u ∷ us) e h =
        subst (λ B. AllByRecursion (IsView B) (packed_views limit vs)) (ap (pack_after limit []) e ∙ pack_start limit u us h.0)
        (well_from low high vs n k [] [] 0 0 0 refl refl (omega arith) (omega arith) (omega arith))

  buffers_after : (P : List ℕ → Type 0) → ((xs ys : List ℕ) → P xs → P ys → P (xs ++ ys)) → (last : List ℕ) (us : List (List ℕ)) → P last → AllByRecursion P us → AllByRecursion P (pack_after limit last us)
  buffers_after P f last [] h k = (h, tt)
  buffers_after P f last (v ∷ vs) h k = by (nat_le (length last + length v) limit) (buffers_after P f (last ++ v) vs (f last v h k.0) k.1) (buffers_after P f v vs k.0 k.1) where
    by : (t : Bool) → AllByRecursion P (pack_after limit (last ++ v) vs) → AllByRecursion P (pack_after limit v vs) → AllByRecursion P (cond t [] (last ∷ []) ++ pack_after limit (cond t (last ++ v) v) vs)
    by true a b = a
    by false a b = (h, b)

  -- the buffers hold bytes, where the values do
  pub buffers_bytes : (us : List (List ℕ)) → AllByRecursion AreBytes us → AllByRecursion AreBytes (pack limit us)
  buffers_bytes [] h = tt
  buffers_bytes (u ∷ us) h = buffers_after AreBytes (all_join (λ b. b < 256)) u us h.0 h.1

  -- a view has the length of its value
  pub length-views : (vs : List (List ℕ)) (b e : ℕ) → length (views_after limit b e vs) ≡ length vs
  length-views [] b e = refl
  length-views (v ∷ vs) b e = ap suc (length-views vs _ _)

  pub lengths-views : (vs : List (List ℕ)) (b e : ℕ) → map view_length (views_after limit b e vs) ≡ map length vs
  lengths-views [] b e = refl
  lengths-views (v ∷ vs) b e = ap₂ (λ n ns. n ∷ ns) (by (is_short v)) (lengths-views vs _ _) where
    by : (s : Bool) → view_length (cond s (inline_view v) (long (length v) (take 4 v) (place limit b e (length v)).0 (place limit b e (length v)).1)) ≡ length v
    by true = refl
    by false = refl
