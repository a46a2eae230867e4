-- One value more is packed, and the views of those before stay what they are.
use Rattle.std.proofs.Common.{◌≡◌, ℕ, suc, ◌+◌, ◌-◌, ◌<◌, ◌≤◌, ◌^◌, nat_le, nat_lt, eqb, ◌&&◌, Bool, true, false, cond, List, [], ◌∷◌, ◌++◌, length, take, drop, get_or, slice_set, refl, ap, sym, ◌∙◌, subst, arith, append-nil, length-append}
use Rattle.std.specs.Prelude.{IfOk, MatchResult, Result, Ok, Err}
use Rattle.std.proofs.lemmas.Bool.{eqb-true, eqb-false, le-leb, leb-true, leb-false, ltb-true, ltb-false}
use Rattle.std.proofs.lemmas.List.{drop_at, drop-append-le, get_or_append_left, get_or_past, get_or_push, get_or-set_other, get_or-set_same, length-drop, length-set, take-append-le, take_all}
use Rattle.arrow_flat.specs.Natives.{AreBytes}
use Rattle.arrow_flat.specs.Packs.{place, spot, view_limit}
use Rattle.arrow_flat.specs.Views.{View, inline, long, IsView, inline_view, is_short, view_bytes}
use Rattle.arrow_flat.proofs.PackedReads.{inline_read}
use Rattle.arrow_flat.proofs.PackedViews.{inline_well}
use Rattle.arrow_views.specs.Packing.{Packing, packed_after, packed_end, packed_on, packed_view}
use Rattle.arrow_grow_flat.specs.SharedViews.{KeepViews}

-- each buffer goes on
pub record GoesOn (bs cs : List (List ℕ)) : Type 0 where
  pub many : length bs ≤ length cs
  pub rest : (b : ℕ) → b < length bs → (more : List ℕ) × (get_or cs b [] ≡ get_or bs b [] ++ more)

cut_same : (o n : ℕ) (xs more : List ℕ) → o + n ≤ length xs → take n (drop o (xs ++ more)) ≡ take n (drop o xs)
cut_same o n xs more h =
    ap (take n) (drop-append-le o xs more (omega (arith, h))) ∙ take-append-le n (drop o xs) more (omega (arith, h, length-drop o xs))

pub views_kept : (bs cs : List (List ℕ)) → GoesOn bs cs → KeepViews bs cs
views_kept bs cs g (inline n xs) h = (h, refl)
views_kept bs cs g (long n p b o) h =
    let r = g.rest b h.1 in
    let more = r.0 in
    let same : take n (drop o (get_or cs b [])) ≡ take n (drop o (get_or bs b [])) = ap (λ xs. take n (drop o xs)) r.1 ∙ cut_same o n (get_or bs b []) more h.2 in (
      (
        h.0,
        omega (arith, h.1, g.many),
        omega (arith, h.2, ap length r.1, length-append (get_or bs b []) more),
        h.3 ∙ ap (take 4) (sym same),
        h.4,
        h.5,
        h.6,
      ),
      same,
    )

pub keep_itself : (bs : List (List ℕ)) → KeepViews bs bs
keep_itself bs v h = (h, refl)

pub keep_again : (bs cs ds : List (List ℕ)) → KeepViews bs cs → KeepViews cs ds → KeepViews bs ds
keep_again bs cs ds f g v h = let q = f v h in let r = g v q.0 in (r.0, r.1 ∙ q.1)

-- the view of a value that stands in a buffer
there : (cs : List (List ℕ)) (v : List ℕ) (b o : ℕ) → 12 < length v → length v < 2 ^ 32 → b < length cs → b < 2 ^ 32 → o < 2 ^ 32 → o + length v ≤ length (get_or cs b [])
    → take (length v) (drop o (get_or cs b [])) ≡ v
    → IsView cs (long (length v) (take 4 v) b o) × (view_bytes cs (long (length v) (take 4 v) b o) ≡ v)
there cs v b o large size named numbered offset within same = ((large, named, within, ap (take 4) (sym same), size, numbered, offset), same)

abbrev Packed : List (List ℕ) → List (List ℕ) → List ℕ → View → Type 0
Packed bs cs v w = KeepViews bs cs × IsView cs w × (view_bytes cs w ≡ v)

-- the value begins a buffer
in_next : (bs : List (List ℕ)) (v : List ℕ) (b : ℕ) → 12 < length v → length v ≤ view_limit → length bs < 4294967295 → b ≡ length bs → Packed bs (bs ++ v ∷ []) v (long (length v) (take 4 v) b 0)
in_next bs v b large size few e =
    let cs = bs ++ v ∷ [] in
    let here : get_or cs b [] ≡ v = get_or_push bs v [] b (sym e) in
    let many = length-append bs (v ∷ []) in
    let w = there cs v b 0 large (omega (arith, size)) (omega (arith, e, many)) (omega (arith, e, few)) (omega arith) (omega (arith, ap length here)) (ap (take (length v)) here ∙ take_all (length v) v (omega arith)) in (
      views_kept bs cs (record { many = omega (arith, many); rest = λ c h. ([], get_or_append_left bs (v ∷ []) [] c h ∙ sym (append-nil (get_or bs c []))) }),
      w.0,
      w.1,
    )

-- the value goes on in the last buffer
in_last : (bs : List (List ℕ)) (v : List ℕ) (k : ℕ) → 12 < length v → length v ≤ view_limit → length bs < 4294967295 → length bs ≡ suc k → length (get_or bs k []) + length v ≤ view_limit
    → Packed bs (slice_set bs k (get_or bs k [] ++ v)) v (long (length v) (take 4 v) k (length (get_or bs k [])))
in_last bs v k large size few e room =
    let last = get_or bs k [] in
    let cs = slice_set bs k (last ++ v) in
    let here : get_or cs k [] ≡ last ++ v = get_or-set_same bs k (last ++ v) [] (omega (arith, e)) in
    let many = length-set bs k (last ++ v) in
    let w = there cs v k (length last) large (omega (arith, size)) (omega (arith, e, many)) (omega (arith, e, few)) (omega (arith, room)) (omega (arith, ap length here, length-append last v))
    (ap (λ xs. take (length v) (drop (length last) xs)) here ∙ ap (take (length v)) (drop_at last v (length last) refl) ∙ take_all (length v) v (omega arith)) in (
      views_kept bs cs (record { many = omega (arith, many); rest = λ c h. rest_of c (eqb c k) refl }),
      w.0,
      w.1,
    )
  where
    rest_of : (c : ℕ) (t : Bool) → eqb c k ≡ t → (more : List ℕ) × (get_or (slice_set bs k (get_or bs k [] ++ v)) c [] ≡ get_or bs c [] ++ more)
    rest_of c true q =
        let same : c ≡ k = eqb-true c k q in
        (v, ap (λ j. get_or (slice_set bs k (get_or bs k [] ++ v)) j []) same ∙ get_or-set_same bs k (get_or bs k [] ++ v) [] (omega (arith, e)) ∙ ap (λ j. get_or bs j [] ++ v) (sym same))
    rest_of c false q = ([], get_or-set_other bs k c (get_or bs k [] ++ v) [] (λ same. eqb-false c k q same) ∙ sym (append-nil (get_or bs c [])))

-- ---- one value more, short or long

module _ (bs : List (List ℕ)) (v : List ℕ) (large : 12 < length v) (size : length v ≤ view_limit) (few : length bs < 4294967295) where
  abbrev k : ℕ
  k = length bs - 1

  abbrev e : ℕ
  e = length (get_or bs k [])

  abbrev at_spot : Bool → View
  at_spot t = long (length v) (take 4 v) (spot t k e).0 (spot t k e).1

  long_by : (g t : Bool) → nat_lt 0 (length bs) ≡ g → nat_le (e + length v) view_limit ≡ t
      → Packed bs (cond (g && t) (slice_set bs k (get_or bs k [] ++ v)) (bs ++ v ∷ [])) v (at_spot t)
  long_by true true p q = in_last bs v k large size few (omega (arith, ltb-true 0 (length bs) p)) (leb-true (e + length v) view_limit q)
  long_by true false p q = in_next bs v (suc k) large size few (omega (arith, ltb-true 0 (length bs) p))
  long_by false t p q =
      let none : length bs ≡ 0 = omega (arith, ltb-false 0 (length bs) p) in
      let past : e ≡ 0 = ap length (get_or_past bs k [] (omega (arith, none))) in
      let fits : t ≡ true = sym q ∙ le-leb (e + length v) view_limit (omega (arith, past, size)) in
      subst (λ b. Packed bs (bs ++ v ∷ []) v (at_spot b)) (sym fits)
      (subst (λ o. Packed bs (bs ++ v ∷ []) v (long (length v) (take 4 v) k o)) (sym past) (in_next bs v k large size few (omega (arith, none))))

  long_packed : Packed bs (packed_on view_limit bs v) v (at_spot (nat_le (e + length v) view_limit))
  long_packed = long_by (nat_lt 0 (length bs)) (nat_le (e + length v) view_limit) refl refl

pub value_packed : (bs : List (List ℕ)) (v : List ℕ) → length v ≤ view_limit → AreBytes v → length bs < 4294967295
    → KeepViews bs (cond (is_short v) bs (packed_on view_limit bs v)) × IsView (cond (is_short v) bs (packed_on view_limit bs v)) (packed_view view_limit bs v)
    × (view_bytes (cond (is_short v) bs (packed_on view_limit bs v)) (packed_view view_limit bs v) ≡ v)
value_packed bs v size small few = by (is_short v) refl
  where
    by : (t : Bool) → is_short v ≡ t
        → Packed bs (cond t bs (packed_on view_limit bs v)) v
        (cond t (inline_view v) (long (length v) (take 4 v) (place view_limit (packed_end bs).0 (packed_end bs).1 (length v)).0 (place view_limit (packed_end bs).0 (packed_end bs).1 (length v)).1))
    by true s = (keep_itself bs, inline_well bs v (leb-true (length v) 12 s) small, inline_read v)
    by false s = long_packed bs v (leb-false (length v) 12 s) size few

-- what the packer leaves
pub value_pushed : {E : Type 0} (p q : Packing) (v : List ℕ) (r : Result View E) → p.limit ≡ view_limit → length v ≤ view_limit → AreBytes v → length p.buffers < 4294967295
    → MatchResult r (λ w. (w ≡ packed_view p.limit p.buffers v) × (q ≡ packed_after p v)) (λ _. q ≡ p)
    → KeepViews p.buffers q.buffers × IfOk r (λ w. IsView q.buffers w × (view_bytes q.buffers w ≡ v))
value_pushed p q v (Ok w) limit size small few h =
    let one = value_packed p.buffers v size small few in
    let all = cond (is_short v) p.buffers (packed_on view_limit p.buffers v) in
    let bs : q.buffers ≡ all = ap (λ (x : Packing). x.buffers) h.1 ∙ ap (λ l. cond (is_short v) p.buffers (packed_on l p.buffers v)) limit in
    let view : w ≡ packed_view view_limit p.buffers v = h.0 ∙ ap (λ l. packed_view l p.buffers v) limit in (
      subst (KeepViews p.buffers) (sym bs) one.0,
      subst (λ u. IsView q.buffers u × (view_bytes q.buffers u ≡ v)) (sym view)
          (subst (λ cs. IsView cs (packed_view view_limit p.buffers v) × (view_bytes cs (packed_view view_limit p.buffers v) ≡ v)) (sym bs) (one.1, one.2)),
    )
value_pushed p q v (Err e) limit size small few h = (subst (λ (x : Packing). KeepViews p.buffers x.buffers) (sym h) (keep_itself p.buffers), tt)
