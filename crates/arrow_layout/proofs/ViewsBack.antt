-- Views in order are those of the values that they stand for, and their buffers are those of `pack`.
use Rattle.std.proofs.Common.{Bool, List, [], ap, append_assoc, ap₂, arith, cond, drop, false, get_or, length, length-append, length-drop, length-take, length-take-le, map, nat_le, refl, subst, suc, sym, take, take-add, take-append-drop, take_all, true, ℕ, ◌++◌, ◌+◌, ◌<◌, ◌^◌, ◌∙◌, ◌∷◌, ◌≡◌, ◌≤◌}
use Rattle.std.proofs.lemmas.Bool.{false≢true, le-leb, lt-leb}
use Rattle.std.proofs.lemmas.List.{drop_all, drop_more}
use Rattle.std.specs.List.{AllByRecursion}
use Rattle.arrow_flat.specs.Packs.{AreInOrder, FollowFrom, pack, pack_after, packed_views, spot, views_after}
use Rattle.arrow_flat.specs.Views.{IsView, View, inline, inline_view, is_short, long, longs, view_bytes}
use Rattle.arrow_flat.proofs.PackedReads.{get_behind}

inline_back : (B : List (List ℕ)) (n : ℕ) (bs : List ℕ) → IsView B (inline n bs) → inline_view (take n bs) ≡ inline n bs
inline_back B n bs w =
    let l : length (take n bs) ≡ n = length-take-le n bs (omega (arith, w.0, w.1)) in
    rw l (ap (inline n) (ap (λ ys. take n bs ++ ys) (sym w.2) ∙ take-append-drop n bs))

inline_short : (B : List (List ℕ)) (n : ℕ) (bs : List ℕ) → IsView B (inline n bs) → is_short (take n bs) ≡ true
inline_short B n bs w = le-leb (length (take n bs)) 12 (omega (arith, length-take n bs, w.0))

module _ (limit : ℕ) where
  not_short : (v : List ℕ) (n : ℕ) → length v ≡ n → 12 < n → is_short v ≡ false
  not_short v n e h = lt-leb (length v) 12 (omega arith)

  length-range : (xs : List ℕ) (o n : ℕ) → o + n ≤ length xs → length (take n (drop o xs)) ≡ n
  length-range xs o n h = length-take-le n (drop o xs) (omega (arith, length-drop o xs))

  back_views : (B : List (List ℕ)) (b e : ℕ) (vs : List View) → AllByRecursion (IsView B) vs → FollowFrom limit B b e vs → views_after limit b e (map (view_bytes B) vs) ≡ vs
  back_views B b e [] w h = refl
  back_views B b e (inline n bs ∷ vs) w h = rw (inline_short B n bs w.0) (ap₂ (λ u us. u ∷ us) (inline_back B n bs w.0) (back_views B b e vs w.1 h))
  back_views B b e (long n p c o ∷ vs) w h =
      let v = take n (drop o (get_or B c [])) in
      let l : length v ≡ n = length-range (get_or B c []) o n w.0.2 in
      rw (not_short v n l w.0.0, l, ← h.0, ← w.0.3) (ap (λ us. long n p c o ∷ us) (back_views B c (o + n) vs w.1 h.2))

  -- the rest of the buffers, and the values that come after the first e bytes of buffer b
  pack_step : (B : List (List ℕ)) (b e c o n : ℕ) (us : List (List ℕ)) (t : Bool) → nat_le (e + n) limit ≡ t → ((c, o) ≡ spot t b e) → (t ≡ false → length (get_or B b []) ≡ e) → b < length B → e ≤ length (get_or B b [])
      → o + n ≤ length (get_or B c []) → pack_after limit (take (o + n) (get_or B c [])) us ≡ drop c B
      → pack_after limit (take e (get_or B b [])) (take n (drop o (get_or B c [])) ∷ us) ≡ drop b B
  pack_step B b e c o n us true h at full low le within ih =
      let here : c ≡ b = ap (λ p. p.0) at in
      let start : o ≡ e = ap (λ p. p.1) at in
      let l : length (take n (drop o (get_or B c []))) ≡ n = length-range (get_or B c []) o n within in
      let k : length (take e (get_or B b [])) ≡ e = length-take-le e (get_or B b []) le in
      let joined : take e (get_or B b []) ++ take n (drop o (get_or B c [])) ≡ take (o + n) (get_or B c []) =
      rw (here, start) (sym (take-add e n (get_or B b []))) in
      rw (l, k, h, joined) (ih ∙ ap (λ i. drop i B) here)
  pack_step B b e c o n us false h at full low le within ih =
      let here : c ≡ suc b = ap (λ p. p.0) at in
      let start : o ≡ 0 = ap (λ p. p.1) at in
      let l : length (take n (drop o (get_or B c []))) ≡ n = length-range (get_or B c []) o n within in
      let k : length (take e (get_or B b [])) ≡ e = length-take-le e (get_or B b []) le in
      let whole : take e (get_or B b []) ≡ get_or B b [] = take_all e (get_or B b []) (omega (arith, full refl)) in
      let first : take n (drop o (get_or B c [])) ≡ take (o + n) (get_or B c []) = rw start (ap (λ i. take i (get_or B c [])) (sym zero-plus)) in
      let next : suc b ≡ b + 1 = omega arith in
      rw (l, k, h, whole, first, ih, here, next) (sym (drop_more B b [] low)) where
        zero-plus : 0 + n ≡ n
        zero-plus = omega arith

  back_pack : (B : List (List ℕ)) (b e : ℕ) (vs : List View) → b < length B → e ≤ length (get_or B b []) → AllByRecursion (IsView B) vs → FollowFrom limit B b e vs
      → pack_after limit (take e (get_or B b [])) (longs (map (view_bytes B) vs)) ≡ drop b B
  back_pack B b e [] low le w h =
      let whole : take e (get_or B b []) ≡ get_or B b [] = take_all e (get_or B b []) (omega (arith, h.1)) in
      rw (whole, drop_more B b [] low, drop_all (b + 1) B (omega (arith, h.0))) refl
  back_pack B b e (inline n bs ∷ vs) low le w h = rw (inline_short B n bs w.0) (back_pack B b e vs low le w.1 h)
  back_pack B b e (long n p c o ∷ vs) low le w h =
      rw (not_short (take n (drop o (get_or B c []))) n (length-range (get_or B c []) o n w.0.2) w.0.0)
      (pack_step B b e c o n (longs (map (view_bytes B) vs)) (nat_le (e + n) limit) refl h.0 h.1 low le w.0.2 (back_pack B c (o + n) vs w.0.1 w.0.2 w.1 h.2))

  first_goes : (n : ℕ) → n ≤ limit → nat_le (0 + n) limit ≡ true
  first_goes n h = le-leb (0 + n) limit (omega arith)

  -- the views of a column in order are those of its values
  pub views_back : (B : List (List ℕ)) (vs : List View) → 2 ^ 32 ≤ suc limit → AllByRecursion (IsView B) vs → AreInOrder limit B vs → packed_views limit (map (view_bytes B) vs) ≡ vs
  views_back B [] top w h = refl
  views_back B (inline n bs ∷ vs) top w h = rw (inline_short B n bs w.0) (ap₂ (λ u us. u ∷ us) (inline_back B n bs w.0) (views_back B vs top w.1 h))
  views_back B (long n p c o ∷ vs) top w h =
      let v = take n (drop o (get_or B c [])) in
      let l : length v ≡ n = length-range (get_or B c []) o n w.0.2 in
      let start : nat_le (0 + n) limit ≡ true = first_goes n (omega (arith, w.0.4)) in
      let others : views_after limit 0 (0 + n) (map (view_bytes B) vs) ≡ vs = ap (λ i. views_after limit 0 i (map (view_bytes B) vs)) zero-plus ∙ back_views B 0 n vs w.1 h.2 in
      rw (not_short v n l w.0.0, l, start, ← w.0.3) (ap₂ (λ u us. u ∷ us) (ap₂ (λ i j. long n p i j) (sym h.0) (sym h.1)) others) where
        zero-plus : 0 + n ≡ n
        zero-plus = omega arith

  -- the buffers of a column in order are those of its packed values
  pub buffers_back : (B : List (List ℕ)) (vs : List View) → AllByRecursion (IsView B) vs → AreInOrder limit B vs → pack limit (longs (map (view_bytes B) vs)) ≡ B
  buffers_back B [] w h = sym h
  buffers_back B (inline n bs ∷ vs) w h = rw (inline_short B n bs w.0) (buffers_back B vs w.1 h)
  buffers_back B (long n p c o ∷ vs) w h =
      let v = take n (drop o (get_or B c [])) in
      let first : v ≡ take n (get_or B 0 []) = ap₂ (λ i j. take n (drop j (get_or B i []))) h.0 h.1 in
      let within : n ≤ length (get_or B 0 []) = omega (arith, ap (λ i. length (get_or B i [])) h.0, w.0.2, h.1) in
      rw (not_short v n (length-range (get_or B c []) o n w.0.2) w.0.0)
      (ap (λ u. pack_after limit u (longs (map (view_bytes B) vs))) first ∙ back_pack B 0 n vs (omega (arith, w.0.1, h.0)) within w.1 h.2)

  -- ---- packed views are in order

  abbrev FollowsAll : List (List ℕ) → Type 0
  FollowsAll vs =
      (older : List (List ℕ)) (last : List ℕ) (b e : ℕ) → length older ≡ b → length last ≡ e → FollowFrom limit (older ++ pack_after limit last (longs vs)) b e (views_after limit b e vs)

  last_is : (older : List (List ℕ)) (last : List ℕ) (more : List (List ℕ)) (b : ℕ) → length older ≡ b → get_or (older ++ last ∷ more) b [] ≡ last
  last_is older last more b l = ap (λ i. get_or (older ++ last ∷ more) i []) (sym l) ∙ get_behind limit older (last ∷ more)

  follow_step : (B older : List (List ℕ)) (last v : List ℕ) (b e : ℕ) (vs : List (List ℕ)) (s t : Bool)
      → B ≡ older ++ pack_after limit last (cond s [] (v ∷ []) ++ longs vs) → length older ≡ b → length last ≡ e → nat_le (e + length v) limit ≡ t → FollowsAll vs
      → FollowFrom limit B b e
      (cond s (inline_view v) (long (length v) (take 4 v) (spot t b e).0 (spot t b e).1)
      ∷ views_after limit (cond {A = ℕ × ℕ} s (b, e) ((spot t b e).0, (spot t b e).1 + length v)).0 (cond {A = ℕ × ℕ} s (b, e) ((spot t b e).0, (spot t b e).1 + length v)).1 vs)
  follow_step B older last v b e vs true t q l k h ih = subst (λ C. FollowFrom limit C b e (views_after limit b e vs)) (sym q) (ih older last b e l k)
  follow_step B older last v b e vs false true q l k h ih =
      let h' : nat_le (length last + length v) limit ≡ true = subst (λ i. nat_le (i + length v) limit ≡ true) (sym k) h in
      let q' : B ≡ older ++ pack_after limit (last ++ v) (longs vs) = q ∙ ap (λ r. older ++ (cond r [] (last ∷ []) ++ pack_after limit (cond r (last ++ v) v) (longs vs))) h' in (
        ap (λ r. spot r b e) (sym h),
        λ f. absurd (false≢true (sym f ∙ h)),
        subst (λ C. FollowFrom limit C b (e + length v) (views_after limit b (e + length v) vs)) (sym q') (ih older (last ++ v) b (e + length v) l (omega (arith, length-append last v))),
      )
  follow_step B older last v b e vs false false q l k h ih =
      let h' : nat_le (length last + length v) limit ≡ false = subst (λ i. nat_le (i + length v) limit ≡ false) (sym k) h in
      let q0 : B ≡ older ++ last ∷ pack_after limit v (longs vs) = q ∙ ap (λ r. older ++ (cond r [] (last ∷ []) ++ pack_after limit (cond r (last ++ v) v) (longs vs))) h' in
      let q' : B ≡ (older ++ last ∷ []) ++ pack_after limit v (longs vs) = q0 ∙ sym (append_assoc older (last ∷ []) (pack_after limit v (longs vs))) in
      let z : length v ≡ 0 + length v = omega arith in
      let m : length (older ++ last ∷ []) ≡ suc b = length-append older (last ∷ []) ∙ omega arith in (
        ap (λ r. spot r b e) (sym h),
        λ f. ap (λ C. length (get_or C b [])) q0 ∙ (ap length (last_is older last (pack_after limit v (longs vs)) b l) ∙ k),
        subst (λ C. FollowFrom limit C (suc b) (0 + length v) (views_after limit (suc b) (0 + length v) vs)) (sym q') (ih (older ++ last ∷ []) v (suc b) (0 + length v) m z),
      )

  follows : (vs : List (List ℕ)) → FollowsAll vs
  follows [] older last b e l k = (length-append older (last ∷ []) ∙ omega arith, ap length (last_is older last [] b l) ∙ k)
  follows (v ∷ vs) older last b e l k = follow_step _ older last v b e vs (is_short v) (nat_le (e + length v) limit) refl l k refl (follows vs)

  pub packed_in_order : (vs : List (List ℕ)) → AllByRecursion (λ v. length v ≤ limit) vs → AreInOrder limit (pack limit (longs vs)) (packed_views limit vs)
  packed_in_order [] n = refl
  packed_in_order (v ∷ vs) n = by (is_short v) (nat_le (0 + length v) limit) (first_goes (length v) n.0) (packed_in_order vs n.1) where
    by : (s t : Bool) → t ≡ true → AreInOrder limit (pack limit (longs vs)) (packed_views limit vs)
        → AreInOrder limit (pack limit (cond s [] (v ∷ []) ++ longs vs))
        (cond s (inline_view v) (long (length v) (take 4 v) (spot t 0 0).0 (spot t 0 0).1)
        ∷ views_after limit (cond {A = ℕ × ℕ} s (0, 0) ((spot t 0 0).0, (spot t 0 0).1 + length v)).0 (cond {A = ℕ × ℕ} s (0, 0) ((spot t 0 0).0, (spot t 0 0).1 + length v)).1 vs)
    by true t e h = h
    by false true e h =
        let z : 0 + length v ≡ length v = omega arith in
        (refl, refl, subst (λ i. FollowFrom limit (pack_after limit v (longs vs)) 0 (length v) (views_after limit 0 i vs)) (sym z) (follows vs [] v 0 (length v) refl refl))
    by false false e h = absurd (false≢true e)
