-- Views that are zeros, and long views in the order of their buffers.
use Rattle.std.proofs.Common.{◌≡◌, ◌↔◌, ℕ, zero, suc, ◌+◌, ◌-◌, ◌^◌, ◌<◌, ◌≤◌, true, false, List, [], ◌∷◌, drop, replicate, nat_le, refl, ap, ap₂, sym, ◌∙◌, subst, arith}
use Rattle.std.proofs.lemmas.Bool.{le-leb, true≢false}
use Rattle.arrow_flat.specs.Packs.{FollowFrom, place, spot, view_limit}
use Rattle.arrow_flat.specs.Views.{IsView, View, inline, long, view_length, zero_view}
use Rattle.arrow_views.specs.ViewParts.{buffer_of, offset_of}
use Rattle.arrow_canonical.specs.OwnForm.{EndsAt, Follows, RestInOrder}

-- ---- zeros

pub zero_is : (B : List (List ℕ)) (v : View) → IsView B v → (view_length v ≡ 0) ↔ (v ≡ zero_view)
zero_is B (inline n bs) h = (
  λ e. ap₂ inline e (subst (λ k. drop k bs ≡ replicate (12 - k) 0) e h.2),
  λ e. ap view_length e,
)
zero_is B (long n p b o) h = (λ e. absurd (omega (arith, e, h.0)), λ e. absurd (omega (arith, ap view_length e, h.0)))

-- ---- the rest of the views

pub rest_none : (B : List (List ℕ)) (b e : ℕ) → RestInOrder B b e [] ↔ EndsAt B b e
rest_none B b zero = (λ h. h, λ h. h)
rest_none B b (suc e) = (λ h. h, λ h. h)

rest_long : (B : List (List ℕ)) (b e : ℕ) (vs : List View) → 0 < e → RestInOrder B b e vs ↔ FollowFrom view_limit B b e vs
rest_long B b zero vs h = absurd (omega (arith, h))
rest_long B b (suc e) vs h = (λ f. f, λ f. f)

-- the view v is long, or short
pub rest_short : (B : List (List ℕ)) (b e : ℕ) (v : View) (vs : List View) → IsView B v → view_length v ≤ 12 → RestInOrder B b e (v ∷ vs) ↔ RestInOrder B b e vs
rest_short B b zero (inline n bs) vs w h = (λ f. f, λ f. f)
rest_short B b (suc e) (inline n bs) vs w h = (λ f. f, λ f. f)
rest_short B b e (long n p c o) vs w h = absurd (omega (arith, h, w.0))

has_room : (n : ℕ) → n < 2 ^ 32 → nat_le (0 + n) view_limit ≡ true
has_room n h = le-leb (0 + n) view_limit (omega (arith, h))

first_place : (n : ℕ) → n < 2 ^ 32 → place view_limit 0 0 n ≡ (0, 0)
first_place n h = ap (λ c. spot c 0 0) (has_room n h)

first_has_room : (n : ℕ) → n < 2 ^ 32 → nat_le (0 + n) view_limit ≡ false → ⊥
first_has_room n h e = true≢false (sym (has_room n h) ∙ e)

pub rest_next : (B : List (List ℕ)) (b e : ℕ) (v : View) (vs : List View) → IsView B v → 12 < view_length v → (e ≡ 0 → b ≡ 0)
    → RestInOrder B b e (v ∷ vs) ↔ (Follows B b e v × RestInOrder B (buffer_of v) (offset_of v + view_length v) vs)
rest_next B b e (inline n bs) vs w h start = absurd (omega (arith, h, w.0))
rest_next B b (suc e) (long n p c o) vs w h start =
    let more = rest_long B c (o + n) vs (omega (arith, h)) in (
      λ f. (((ap (λ q. q.0) f.0, ap (λ q. q.1) f.0), f.1), more.1 f.2),
      λ f. (same_pair c o (place view_limit b (suc e) n) f.0.0.0 f.0.0.1, f.0.1, more.0 f.1),
    )
  where
    same_pair : (c o : ℕ) (p : ℕ × ℕ) → c ≡ p.0 → o ≡ p.1 → (c, o) ≡ p
    same_pair c o (a, d) g h = ap₂ (λ x y. (x, y)) g h
rest_next B b zero (long n p c o) vs w h start =
    let more = rest_long B c (o + n) vs (omega (arith, h)) in
    let small : n < 2 ^ 32 = w.4 in
    let at : place view_limit b 0 n ≡ (0, 0) = ap (λ k. place view_limit k 0 n) (start refl) ∙ first_place n small in (
      λ f. (
        ((f.0 ∙ sym (ap (λ q. q.0) at), f.1 ∙ sym (ap (λ q. q.1) at)), λ r. absurd (first_has_room n small r)),
        more.1 (subst (λ k. FollowFrom view_limit B c k vs) (let q : n ≡ o + n = omega (arith, f.1) in q) (subst (λ k. FollowFrom view_limit B k n vs) (sym f.0) f.2)),
      ),
      λ f. let first : c ≡ 0 = f.0.0.0 ∙ ap (λ q. q.0) at in
          let second : o ≡ 0 = f.0.0.1 ∙ ap (λ q. q.1) at in
          (first, second, subst (λ k. FollowFrom view_limit B k n vs) first (subst (λ k. FollowFrom view_limit B c k vs) (let q : o + n ≡ n = omega (arith, second) in q) (more.0 f.1))),
    )
