-- Values that stand at one place are equal.
use Rattle.std.proofs.Common.{◌≡◌, ◌⊎◌, inl, inr, ⊎_elim, ℕ, zero, suc, ◌<◌, List, [], ◌∷◌, length, take, drop, get_or, refl, ap, sym, ◌∙◌, arith, true}
use Rattle.std.specs.declared.cmp.Ordering.{Ordering}
use Rattle.std.specs.declared.cmp.Ordering.TheVariants.{Less, Equal, Greater}
use Rattle.std.specs.Ordering.{nat_cmp, ordering_then}
use Rattle.std.proofs.lemmas.Map.Lookups.{exact_unsigned}
use Rattle.arrow_flat.specs.Slots.{null, bytes}
use Rattle.arrow_flat.specs.Views.{View, inline, long, view_bytes, zero_view}
use Rattle.arrow_layout.specs.Denote.{view_slots}
use Rattle.arrow_layout.specs.Layouts.{Layout, views, length_of}
use Rattle.arrow_layout.specs.Masks.{valid_in}
use Rattle.arrow_layout.specs.WellFormed.{WellFormed}
use Rattle.arrow_scalar.specs.Spellings.{slot_at}
use Rattle.arrow_scalar.proofs.Slots.{slot_valid}
use Rattle.arrow_gather.specs.Met.{source_of, source_at}
use Rattle.arrow_gather.specs.declared.distinct_values.Source.{Source}
use Rattle.arrow_gather.specs.declared.distinct_values.Source.TheVariants as source
use Rattle.arrow_gather.specs.contracts.distinct_values.SourceOrd.TheImpl as order

-- ---- the order tells them apart

then_parts : (a b : Ordering) → ordering_then a b ≡ Equal → (a ≡ Equal) × (b ≡ Equal)
then_parts Less b h = absurd (less_equal h) where
  less_equal : Less ≡ Equal → ⊥
  less_equal h = cc
then_parts Equal b h = (refl, h)
then_parts Greater b h = absurd (greater_equal h) where
  greater_equal : Greater ≡ Equal → ⊥
  greater_equal h = cc

pub exact : (x y : Source) → order.ghosts.cmp x y ≡ Equal → x ≡ y
exact (source.Slot i) (source.Slot j) h = ap source.Slot (exact_unsigned i j h)
exact (source.Slot i) (source.Bytes b o n) h = cc
exact (source.Bytes b o n) (source.Slot i) h = cc
exact (source.Bytes b o n) (source.Bytes c p m) h =
    let first = then_parts (nat_cmp b c) (ordering_then (nat_cmp o p) (nat_cmp n m)) h in
    let rest = then_parts (nat_cmp o p) (nat_cmp n m) first.1 in
    let e : b ≡ c = exact_unsigned b c first.0 in
    let f : o ≡ p = exact_unsigned o p rest.0 in
    let g : n ≡ m = exact_unsigned n m rest.1 in
    cc

-- ---- values at one place

slots_one : (i j : ℕ) → source.Slot i ≡ source.Slot j → i ≡ j
slots_one i j e = cc

long_bytes : (b c o p n m : ℕ) (buffers : List (List ℕ)) → source.Bytes b o n ≡ source.Bytes c p m
    → take n (drop o (get_or buffers b [])) ≡ take m (drop p (get_or buffers c []))
long_bytes b c o p n m buffers e =
    let f : b ≡ c = cc in
    let g : o ≡ p = cc in
    let h : n ≡ m = cc in
    ap (λ k. take n (drop o (get_or buffers k []))) f ∙ ap (λ k. take n (drop k (get_or buffers c []))) g ∙ ap (λ k. take k (drop p (get_or buffers c []))) h

one_view : (v w : View) (i j : ℕ) (buffers : List (List ℕ)) → source_of v i ≡ source_of w j → (i ≡ j) ⊎ (view_bytes buffers v ≡ view_bytes buffers w)
one_view (inline n bs) (inline m cs) i j buffers e = inl (slots_one i j e)
one_view (inline n bs) (long m q c p) i j buffers e = cc
one_view (long n q b o) (inline m cs) i j buffers e = cc
one_view (long n q b o) (long m r c p) i j buffers e = inr (long_bytes b c o p n m buffers e)

value_there : (buffers : List (List ℕ)) (vs : List View) (i : ℕ) → i < length vs → get_or (view_slots buffers vs) i null ≡ bytes (view_bytes buffers (get_or vs i zero_view))
value_there buffers [] i h = absurd (omega (arith, h))
value_there buffers (v ∷ vs) zero h = refl
value_there buffers (v ∷ vs) (suc i) h = value_there buffers vs i (omega (arith, h))

pub sources_one : (l : Layout) (i j : ℕ) → WellFormed l → i < length_of l → j < length_of l → valid_in l i ≡ true → valid_in l j ≡ true
    → source_at l i ≡ source_at l j → slot_at l i ≡ slot_at l j
sources_one (views t m vs buffers) i j w h k v u e =
    let l = views t m vs buffers in
    let x : slot_at l i ≡ bytes (view_bytes buffers (get_or vs i zero_view)) = slot_valid l l i _ refl w h v (value_there buffers vs i h) in
    let y : slot_at l j ≡ bytes (view_bytes buffers (get_or vs j zero_view)) = slot_valid l l j _ refl w k u (value_there buffers vs j k) in
    ⊎_elim (λ s. ap (slot_at l) s) (λ s. x ∙ ap bytes s ∙ sym y) (one_view (get_or vs i zero_view) (get_or vs j zero_view) i j buffers e)
sources_one l i j w h k v u e = ap (slot_at l) (slots_one i j e)
