-- What the slots of unions are made of.
use Rattle.std.proofs.Common.{◌≡◌, ℕ, zero, suc, ◌<◌, ◌≤◌, List, [], ◌∷◌, length, map, get_or, slice_get, Option, Some, None, refl, ap, sym, ◌∙◌, subst, arith}
use Rattle.std.specs.Prelude.{ℤ, pos, negsuc, ◌≤ℤ◌}
use Rattle.std.proofs.lemmas.Int.{ints}
use Rattle.std.specs.List.{AllByRecursion}
use Rattle.std.specs.Simd.Lanes.{zip2}
use Rattle.arrow_types.specs.Carried.{IsBelow}
use Rattle.arrow_types.specs.Select.{nat_of, select}
use Rattle.arrow_types.specs.TypeData.{TypeData}
use Rattle.arrow_flat.specs.Slots.{Slot, null, chosen}
use Rattle.arrow_choice.proofs.Unions.{children_counted, dense_slots_at, sparse_slots_at}
use Rattle.arrow_choice.specs.Unions.{NamesSlot, child_slot, dense_indices, indices, sparse_indices}
use Rattle.arrow_layout.specs.Forms.{form_of, ids_by}
use Rattle.arrow_layout.specs.Layouts.{Layout, child_count, dense_unions, layouts, length_of, sparse_unions}
use Rattle.arrow_layout.specs.NodeCount.{node_count, node_counts}
use Rattle.arrow_layout.specs.Paths.{children_of, layout_at}
use Rattle.arrow_layout.specs.WellFormed.{WellFormed, type_limit}
use Rattle.arrow_meaning.specs.Nodes.{union_layout}
use Rattle.arrow_types.specs.Seen.{seen}
use Rattle.arrow_types.specs.declared.datatype.ArrowDataType.{ArrowDataType}
use Rattle.arrow_equal.specs.SlotAt.{slot_at}

zip_at : {A B : Type 0} (f : A → B → Slot) (xs : List A) (ys : List B) (i : ℕ) (x : A) (y : B) → slice_get xs i ≡ Some x → slice_get ys i ≡ Some y → get_or (zip2 f xs ys) i null ≡ f x y
zip_at f [] ys i x y e h = cc
zip_at f (a ∷ xs) [] i x y e h = cc
zip_at f (a ∷ xs) (b ∷ ys) zero x y e h =
    let p : a ≡ x = cc in
    let q : b ≡ y = cc in ap (λ z. f z b) p ∙ ap (f x) q
zip_at f (a ∷ xs) (b ∷ ys) (suc i) x y e h = zip_at f xs ys i x y e h

number_at : (ts : List ℤ) (i n : ℕ) → slice_get ts i ≡ Some (pos n) → slice_get (map nat_of ts) i ≡ Some n
number_at [] i n e = cc
number_at (t ∷ ts) zero n e = let h : t ≡ pos n = cc in ap (λ z. Some (nat_of z)) h
number_at (t ∷ ts) (suc i) n e = number_at ts i n e

child_found : (ls : List Layout) (j : ℕ) (c : Layout) → j < length ls → c ≡ get_or ls j c → layout_at j (layouts ls) ≡ c
child_found [] j c h e = absurd (omega (arith, h))
child_found (l ∷ ls) zero c h e = sym e
child_found (l ∷ ls) (suc j) c h e = child_found ls j c (omega (arith, h)) e

child_below : (ls : List Layout) (j : ℕ) → j < length ls → node_count (layout_at j (layouts ls)) ≤ node_counts (layouts ls)
child_below [] j h = absurd (omega (arith, h))
child_below (l ∷ ls) zero h = omega arith
child_below (l ∷ ls) (suc j) h = omega (arith, child_below ls j (omega (arith, h)))

sparse_at : (t : TypeData) (o : ℕ) (ts : List ℤ) (ls : List Layout) (i n : ℕ) (p : ℕ × ℕ) → slice_get ts i ≡ Some (pos n) → slice_get (indices (sparse_unions t o ts (layouts ls))) i ≡ Some p
    → slot_at (sparse_unions t o ts (layouts ls)) i ≡ chosen n (slot_at (layout_at p.0 (layouts ls)) p.1)
unfolding slot_at
sparse_at t o ts ls i n p e h =
    let s = select (ids_by (form_of t)) in
    ap (λ xs. get_or xs i null) (sparse_slots_at s (layouts ls) o (map nat_of ts))
    ∙ zip_at (λ k q. chosen k (child_slot (layouts ls) q)) (map nat_of ts) (sparse_indices o (map s (map nat_of ts))) i n p (number_at ts i n e) h

dense_at : (t : TypeData) (o : ℕ) (ts os : List ℤ) (ls : List Layout) (i n : ℕ) (p : ℕ × ℕ) → slice_get ts i ≡ Some (pos n) → slice_get (indices (dense_unions t o ts os (layouts ls))) i ≡ Some p
    → slot_at (dense_unions t o ts os (layouts ls)) i ≡ chosen n (slot_at (layout_at p.0 (layouts ls)) p.1)
unfolding slot_at
dense_at t o ts os ls i n p e h =
    let s = select (ids_by (form_of t)) in
    ap (λ xs. get_or xs i null) (dense_slots_at s (layouts ls) (map nat_of ts) (map nat_of os))
    ∙ zip_at (λ k q. chosen k (child_slot (layouts ls) q)) (map nat_of ts) (dense_indices (map s (map nat_of ts)) (map nat_of os)) i n p (number_at ts i n e) h

-- over the children of a union node
pub chosen_made : (l : Layout) (t : ArrowDataType) (ts : List ℤ) (os : Option (List ℤ)) (ls : List Layout) (shift i n : ℕ) (p : ℕ × ℕ) (c : Layout) → l ≡ union_layout t ts os (layouts ls) shift
    → slice_get ts i ≡ Some (pos n) → slice_get (indices l) i ≡ Some p → NamesSlot (children_of l) p → p.0 < length ls → c ≡ get_or ls p.0 c
    → (p.1 < length_of c) × (node_count c < node_count l) × (slot_at l i ≡ chosen n (slot_at c p.1))
chosen_made l t ts os ls shift i n p c is e h names below found = by os is
  where
    by : (os : Option (List ℤ)) → l ≡ union_layout t ts os (layouts ls) shift → (p.1 < length_of c) × (node_count c < node_count l) × (slot_at l i ≡ chosen n (slot_at c p.1))
    by None is = (
      subst (λ a. p.1 < length_of a) (child_found ls p.0 c below found) (subst (λ k. NamesSlot (children_of k) p) is names).1,
      omega (arith, ap node_count is, child_below ls p.0 below, ap node_count (child_found ls p.0 c below found)),
      ap (λ k. slot_at k i) is ∙ sparse_at (seen t) shift ts ls i n p e (subst (λ k. slice_get (indices k) i ≡ Some p) is h) ∙ ap (λ a. chosen n (slot_at a p.1)) (child_found ls p.0 c below found),
    )
    by (Some qs) is = (
      subst (λ a. p.1 < length_of a) (child_found ls p.0 c below found) (subst (λ k. NamesSlot (children_of k) p) is names).1,
      omega (arith, ap node_count is, child_below ls p.0 below, ap node_count (child_found ls p.0 c below found)),
      ap (λ k. slot_at k i) is ∙ dense_at (seen t) shift ts qs ls i n p e (subst (λ k. slice_get (indices k) i ≡ Some p) is h) ∙ ap (λ a. chosen n (slot_at a p.1)) (child_found ls p.0 c below found),
    )

number_below : (n : ℕ) (ts : List ℤ) (i : ℕ) → AllByRecursion (IsBelow n) ts → i < length ts → IsBelow n (get_or ts i (pos 0))
number_below n [] i a h = absurd (omega (arith, h))
number_below n (t ∷ ts) zero a h = a.0
number_below n (t ∷ ts) (suc i) a h = number_below n ts i a.1 (omega (arith, h))

number_positive : (n : ℕ) (z : ℤ) → IsBelow n z → pos 0 ≤ℤ z
number_positive n (pos k) b = omega (arith, ints)
number_positive n (negsuc k) b = absurd b

module _ (l : Layout) (t : ArrowDataType) (ts : List ℤ) (os : Option (List ℤ)) (ls : List Layout) (shift i : ℕ) (is : l ≡ union_layout t ts os (layouts ls) shift) (h : i < length_of l) where
  numbers_many : (os : Option (List ℤ)) → length_of (union_layout t ts os (layouts ls) shift) ≡ length ts
  numbers_many None = refl
  numbers_many (Some qs) = refl

  pub number_within : i < length ts
  number_within = omega (arith, h, ap length_of is, numbers_many os)

  pub number_fits : WellFormed l → pos 0 ≤ℤ get_or ts i (pos 0)
  number_fits w = by os (subst WellFormed is w)
    where
      below : (n : ℕ) → AllByRecursion (IsBelow n) ts → pos 0 ≤ℤ get_or ts i (pos 0)
      below n a = number_positive n (get_or ts i (pos 0)) (number_below n ts i a number_within)

      by : (os : Option (List ℤ)) → WellFormed (union_layout t ts os (layouts ls) shift) → pos 0 ≤ℤ get_or ts i (pos 0)
      by None w = below (type_limit (seen t)) w.1
      by (Some qs) w = below (type_limit (seen t)) w.1

  children_are : (os : Option (List ℤ)) → children_of (union_layout t ts os (layouts ls) shift) ≡ layouts ls
  children_are None = refl
  children_are (Some qs) = refl

  pub field_within : (p : ℕ × ℕ) → NamesSlot (children_of l) p → p.0 < length ls
  field_within p names = omega (arith, names.0, ap child_count (ap children_of is ∙ children_are os), children_counted ls)
