-- Values that are packed one after the other are packed together.
use Rattle.std.proofs.Common.{◌≡◌, ℕ, suc, ◌+◌, ◌-◌, ◌<◌, ◌≤◌, nat_le, nat_lt, Bool, true, false, ◌&&◌, cond, List, [], ◌∷◌, ◌++◌, length, get_or, slice_set, refl, ap, sym, ◌∙◌, arith, append_assoc, append-nil, length-append}
use Rattle.std.specs.List.{AllByRecursion}
use Rattle.std.proofs.Math.Seq.{get_or-append_seam}
use Rattle.std.proofs.lemmas.Bool.{le-leb}
use Rattle.std.proofs.lemmas.List.{length-set, get_or-set_same}
use Rattle.arrow_flat.specs.Views.{is_short, longs}
use Rattle.arrow_flat.specs.Packs.{spot, place, pack_after, pack, end_after, view_after, views_after, packed_views}
use Rattle.arrow_views.specs.Packing.{packed_end, packed_on, packed_view}

module _ (limit : ℕ) where
  -- at the last of so many buffers
  on_at : List (List ℕ) → ℕ → List ℕ → List (List ℕ)
  on_at bs k v = cond (nat_le (length (get_or bs k []) + length v) limit) (slice_set bs k (get_or bs k [] ++ v)) (bs ++ v ∷ [])

  on_is : (bs : List (List ℕ)) (k : ℕ) (v : List ℕ) → length bs ≡ suc k → packed_on limit bs v ≡ on_at bs k v
  unfolding on_at
  on_is bs k v e =
      let at : ℕ → ℕ → List (List ℕ) =
      λ n m. cond (nat_lt 0 n && nat_le (length (get_or bs m []) + length v) limit) (slice_set bs m (get_or bs m [] ++ v)) (bs ++ v ∷ []) in
      let q : length bs - 1 ≡ k = omega arith in
      ap (λ m. at (length bs) m) q ∙ ap (λ n. at n k) e
      ∙ ap (λ t. cond (t && nat_le (length (get_or bs k []) + length v) limit) (slice_set bs k (get_or bs k [] ++ v)) (bs ++ v ∷ [])) (le-leb 1 (suc k) (omega arith))

  cons_at : (x : List ℕ) (bs : List (List ℕ)) (k : ℕ) (v : List ℕ) → on_at (x ∷ bs) (suc k) v ≡ x ∷ on_at bs k v
  unfolding on_at
  cons_at x bs k v = by (nat_le (length (get_or bs k []) + length v) limit)
    where
      by : (c : Bool) → cond c (x ∷ slice_set bs k (get_or bs k [] ++ v)) (x ∷ (bs ++ v ∷ [])) ≡ x ∷ cond c (slice_set bs k (get_or bs k [] ++ v)) (bs ++ v ∷ [])
      by true = refl
      by false = refl

  cons_on : (x y : List ℕ) (ys : List (List ℕ)) (v : List ℕ) → packed_on limit (x ∷ y ∷ ys) v ≡ x ∷ packed_on limit (y ∷ ys) v
  cons_on x y ys v =
      on_is (x ∷ y ∷ ys) (suc (length ys)) v refl ∙ cons_at x (y ∷ ys) (length ys) v ∙ ap (λ zs. x ∷ zs) (sym (on_is (y ∷ ys) (length ys) v refl))

  one_on : (x v : List ℕ) → packed_on limit (x ∷ []) v ≡ pack_after limit x (v ∷ [])
  one_on x v = by (nat_le (length x + length v) limit)
    where
      by : (c : Bool) → cond c ((x ++ v) ∷ []) (x ∷ v ∷ []) ≡ cond c [] (x ∷ []) ++ (cond c (x ++ v) v ∷ [])
      by true = refl
      by false = refl

  some_packed : (x : List ℕ) (us : List (List ℕ)) → 0 < length (pack_after limit x us)
  some_packed x [] = omega arith
  some_packed x (u ∷ us) = by (nat_le (length x + length u) limit) (pack_after limit (cond (nat_le (length x + length u) limit) (x ++ u) u) us) (some_packed (cond (nat_le (length x + length u) limit) (x ++ u) u) us)
    where
      by : (c : Bool) (ys : List (List ℕ)) → 0 < length ys → 0 < length (cond c [] (x ∷ []) ++ ys)
      by true ys l = l
      by false ys l = omega arith

  front_on : (c : Bool) (x : List ℕ) (ys : List (List ℕ)) (v : List ℕ) → 0 < length ys
      → packed_on limit (cond c [] (x ∷ []) ++ ys) v ≡ cond c [] (x ∷ []) ++ packed_on limit ys v
  front_on true x ys v l = refl
  front_on false x [] v l = absurd (omega arith)
  front_on false x (y ∷ ys) v l = cons_on x y ys v

  after_push : (x : List ℕ) (us : List (List ℕ)) (v : List ℕ) → packed_on limit (pack_after limit x us) v ≡ pack_after limit x (us ++ v ∷ [])
  after_push x [] v = one_on x v
  after_push x (u ∷ us) v =
      let c = nat_le (length x + length u) limit in
      front_on c x (pack_after limit (cond c (x ++ u) u) us) v (some_packed (cond c (x ++ u) u) us)
      ∙ ap (λ zs. cond c [] (x ∷ []) ++ zs) (after_push (cond c (x ++ u) u) us v)

  -- One value more is packed where it would be packed at first.
  pub pack_push : (vs : List (List ℕ)) (v : List ℕ) → packed_on limit (pack limit vs) v ≡ pack limit (vs ++ v ∷ [])
  pack_push [] v = refl
  pack_push (u ∷ us) v = after_push u us v

  -- ---- where the next value goes
  place_ends : (b e n : ℕ) (s : Bool) (g : Bool) (end : ℕ × ℕ) → s ≡ false → end ≡ cond g (b, e + n) (suc b, n)
      → end ≡ cond s (b, e) ((spot g b e).0, (spot g b e).1 + n)
  place_ends b e n true g end o is = cc
  place_ends b e n false true end o is = is
  place_ends b e n false false end o is = let q : n ≡ 0 + n = omega arith in is ∙ ap (λ k. (suc b, k)) q

  end_of_set : (bs : List (List ℕ)) (k : ℕ) (x : List ℕ) → length bs ≡ suc k → packed_end (slice_set bs k x) ≡ (k, length x)
  end_of_set bs k x e =
      let many : length (slice_set bs k x) - 1 ≡ k = omega (arith, length-set bs k x) in
      ap (λ m. (m, length (get_or (slice_set bs k x) m []))) many ∙ ap (λ y. (k, length y)) (get_or-set_same bs k x [] (omega arith))

  end_of_more : (bs : List (List ℕ)) (x : List ℕ) → packed_end (bs ++ x ∷ []) ≡ (length bs, length x)
  end_of_more bs x =
      let many : length (bs ++ x ∷ []) - 1 ≡ length bs = omega (arith, length-append bs (x ∷ [])) in
      ap (λ m. (m, length (get_or (bs ++ x ∷ []) m []))) many ∙ ap (λ y. (length bs, length y)) (get_or-append_seam bs x [] [])

  end_at : (bs : List (List ℕ)) (k : ℕ) (v : List ℕ) (g : Bool) → length bs ≡ suc k
      → packed_end (cond g (slice_set bs k (get_or bs k [] ++ v)) (bs ++ v ∷ [])) ≡ cond g (k, length (get_or bs k []) + length v) (suc k, length v)
  end_at bs k v true e = end_of_set bs k (get_or bs k [] ++ v) e ∙ ap (λ n. (k, n)) (length-append (get_or bs k []) v)
  end_at bs k v false e = end_of_more bs v ∙ ap (λ n. (n, length v)) e

  end_some : (bs : List (List ℕ)) (k : ℕ) (v : List ℕ) → length bs ≡ suc k → is_short v ≡ false
      → packed_end (packed_on limit bs v) ≡ end_after limit k (length (get_or bs k [])) v
  unfolding on_at
  end_some bs k v e o =
      let g = nat_le (length (get_or bs k []) + length v) limit in
      place_ends k (length (get_or bs k [])) (length v) (is_short v) g (packed_end (packed_on limit bs v)) o (ap packed_end (on_is bs k v e) ∙ end_at bs k v g e)

  -- The end once a long value is packed, one of at most the limit.
  pub end_push : (bs : List (List ℕ)) (v : List ℕ) → is_short v ≡ false → length v ≤ limit
      → packed_end (packed_on limit bs v) ≡ end_after limit (packed_end bs).0 (packed_end bs).1 v
  end_push [] v o l = place_ends 0 0 (length v) (is_short v) (nat_le (0 + length v) limit) (0, length v) o (first (nat_le (0 + length v) limit) (le-leb (0 + length v) limit (omega arith)))
    where
      first : (g : Bool) → g ≡ true → let e : ℕ × ℕ = (0, length v) in e ≡ cond g (0, 0 + length v) (1, length v)
      first true e = let q : length v ≡ 0 + length v = omega arith in ap (λ n. (0, n)) q
      first false e = cc
  end_push (b ∷ bs) v o l =
      let q : length bs ≡ suc (length bs) - 1 = omega arith in
      end_some (b ∷ bs) (length bs) v refl o ∙ ap (λ k. end_after limit k (length (get_or (b ∷ bs) k [])) v) q

  -- ---- many values
  packed_all : List (List ℕ) → List (List ℕ) → List (List ℕ)
  packed_all bs [] = bs
  packed_all bs (v ∷ vs) = packed_all (packed_on limit bs v) vs

  pack_all : (us vs : List (List ℕ)) → pack limit (us ++ vs) ≡ packed_all (pack limit us) vs
  unfolding packed_all
  pack_all us [] = ap (pack limit) (append-nil us)
  pack_all us (v ∷ vs) =
      ap (pack limit) (sym (append_assoc us (v ∷ []) vs)) ∙ pack_all (us ++ v ∷ []) vs ∙ ap (λ bs. packed_all bs vs) (sym (pack_push us v))

  ends : ℕ → ℕ → List (List ℕ) → ℕ × ℕ
  ends b e [] = (b, e)
  ends b e (v ∷ vs) = ends (end_after limit b e v).0 (end_after limit b e v).1 vs

  views_more : (b e : ℕ) (vs : List (List ℕ)) (v : List ℕ)
      → views_after limit b e (vs ++ v ∷ []) ≡ views_after limit b e vs ++ view_after limit (ends b e vs).0 (ends b e vs).1 v ∷ []
  unfolding ends
  views_more b e [] v = refl
  views_more b e (u ∷ us) v = ap (λ ws. view_after limit b e u ∷ ws) (views_more (end_after limit b e u).0 (end_after limit b e u).1 us v)

  ends_short : (b e : ℕ) (v : List ℕ) → is_short v ≡ true → end_after limit b e v ≡ (b, e)
  ends_short b e v s = ap (λ t. cond t (b, e) ((place limit b e (length v)).0, (place limit b e (length v)).1 + length v)) s

  ends_of : (bs : List (List ℕ)) (vs : List (List ℕ)) → AllByRecursion (λ v. length v ≤ limit) vs
      → ends (packed_end bs).0 (packed_end bs).1 vs ≡ packed_end (packed_all bs (longs vs))
  unfolding ends packed_all
  ends_of bs [] h = refl
  ends_of bs (v ∷ vs) h = by (is_short v) refl (ends_of bs vs h.1) (ends_of (packed_on limit bs v) vs h.1)
    where
      by : (s : Bool) → is_short v ≡ s → ends (packed_end bs).0 (packed_end bs).1 vs ≡ packed_end (packed_all bs (longs vs))
          → ends (packed_end (packed_on limit bs v)).0 (packed_end (packed_on limit bs v)).1 vs ≡ packed_end (packed_all (packed_on limit bs v) (longs vs))
          → ends (end_after limit (packed_end bs).0 (packed_end bs).1 v).0 (end_after limit (packed_end bs).0 (packed_end bs).1 v).1 vs ≡ packed_end (packed_all bs (cond s [] (v ∷ []) ++ longs vs))
      by true e same more = ap (λ end. ends end.0 end.1 vs) (ends_short (packed_end bs).0 (packed_end bs).1 v e) ∙ same
      by false e same more = ap (λ end. ends end.0 end.1 vs) (sym (end_push bs v e h.0)) ∙ more

  -- One value more of at most the limit has the view that it has behind the long values before it.
  pub views_push : (vs : List (List ℕ)) (v : List ℕ) → AllByRecursion (λ v. length v ≤ limit) vs
      → packed_views limit (vs ++ v ∷ []) ≡ packed_views limit vs ++ packed_view limit (pack limit (longs vs)) v ∷ []
  views_push vs v h =
      let end : ends 0 0 vs ≡ packed_end (pack limit (longs vs)) = ends_of [] vs h ∙ ap packed_end (sym (pack_all [] (longs vs))) in
      views_more 0 0 vs v ∙ ap (λ end. packed_views limit vs ++ view_after limit end.0 end.1 v ∷ []) end

-- The long values, with one value more.
pub longs_push : (vs : List (List ℕ)) (v : List ℕ) → longs (vs ++ v ∷ []) ≡ longs vs ++ cond (is_short v) [] (v ∷ [])
longs_push [] v = append-nil (cond (is_short v) [] (v ∷ []))
longs_push (u ∷ us) v =
    ap (λ ws. cond (is_short u) [] (u ∷ []) ++ ws) (longs_push us v) ∙ sym (append_assoc (cond (is_short u) [] (u ∷ [])) (longs us) (cond (is_short v) [] (v ∷ [])))
