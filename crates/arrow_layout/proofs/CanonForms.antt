-- The canonical layout is well formed, where it fits and its dictionaries are small.
use Rattle.std.proofs.Common.{Bool, List, None, Some, [], ap, ap₂, arith, cond, false, flat_map, get_or, length, map, pos, refl, replicate, subst, suc, sym, true, zero, ℕ, ℤ, ⊎_elim, ◌*◌, ◌+◌, ◌<◌, ◌^◌, ◌∙◌, ◌∷◌, ◌≡◌, ◌≤◌}
use Rattle.std.proofs.lemmas.Bool.{and_parts, false≢true, or_cases}
use Rattle.std.proofs.lemmas.List.{length-map}
use Rattle.std.specs.List.{AllByRecursion, list_all}
use Rattle.arrow_types.specs.Capacity.{key_capacity}
use Rattle.arrow_types.specs.Carried.{AreCarried, IsBelow, IsCarried, count_fields}
use Rattle.arrow_types.specs.Select.{number_limit, select, nat_of}
use Rattle.arrow_types.specs.TypeData.{FieldList, TypeData, and_field, no_fields}
use Rattle.arrow_types.specs.Types.{integer_type, logical_of}
use Rattle.arrow_types.specs.declared.datatype.IntegerType.{IntegerType}
use Rattle.arrow_types.specs.declared.datatype.UnionMode.TheVariants.{Dense, Sparse}
use Rattle.arrow_buffers.specs.Bits.{plain}
use Rattle.arrow_flat.specs.Numbers.{InRange, Range}
use Rattle.arrow_flat.specs.Slots.{Slot, Slots, chosen, is_valid, slot_eq}
use Rattle.arrow_layout.specs.Canon.{canon, canon_chosen, canon_dense, canon_parts, counts_after, dense_offsets, distinct, first_or, first_place, inner_if, inner_or, items_or, key_canon, key_in, list_canon, mask_of, number_chosen, numbers, parts_or, after_first}
use Rattle.arrow_layout.specs.Fits.{AllFit, AllSmall, Fits, Small}
use Rattle.arrow_layout.specs.Forms.{dictionaries_of, fixed_size_lists_of, form_of, key_by, key_range, large_by, lists_of, offset_limit, value_by}
use Rattle.arrow_layout.specs.Layouts.{length_of, lengths_of, type_of}
use Rattle.arrow_layout.specs.SlotsOf.{AreParts, HasSlots, IsPart, IsSlot, IsUnionSlot, fill, fills}
use Rattle.arrow_layout.specs.WellFormed.{AllNamed, AllSet, AreWellFormed, IsColumnOf, WellFormed, mask_bits, type_limit}
use Rattle.arrow_layout.proofs.ByForm.{type-canon}
use Rattle.arrow_layout.proofs.CanonColumns.{column_bare, column_canon, fixed_joined, offsets_are}
use Rattle.arrow_layout.proofs.CanonLengths.{length-canon, length-numbers, length-offsets, types-chosen, types-dense, types-parts}
use Rattle.arrow_layout.proofs.Denotes.{dictionary_value, first_of_more, fixed_items, fixed_length, list_items, of_fields, rest_of_more, struct_parts, to_nat-numbers}
use Rattle.arrow_layout.proofs.Dense.{IsUnion, named_after, places}
use Rattle.arrow_layout.proofs.Distinct.{IsIn, all_distinct, all_taken}
use Rattle.arrow_layout.proofs.Fills.{fill_is_slot, fills_are_parts}
use Rattle.arrow_layout.proofs.FlatForms.{carried_here, flat_well_formed}
use Rattle.arrow_flat.proofs.Lists.{all_flat_map, all_map, all_weaker}
use Rattle.arrow_layout.proofs.Pieces.{to_nat-pos}
use Rattle.arrow_layout.proofs.Retyped.{fits-retyped, small-retyped, well_formed_under}
use Rattle.arrow_layout.proofs.Unions.{IsFrom, IsOfFields, dense_inner, from_next, from_start, inner_has}
use Rattle.arrow_types.specs.TypeData as T
use Rattle.arrow_types.specs.declared.datatype.IntegerType.TheVariants as integer

below_by : (x y : Slot) (ys : List Slot) (b : Bool) → slot_eq x y ≡ b → (b ≡ false → first_place x ys < length ys) → cond b 0 (suc (first_place x ys)) < suc (length ys)
below_by x y ys true e h = omega arith
below_by x y ys false e h = omega (arith, h refl)

pub place_below : (x : Slot) (d : List Slot) → IsIn d x → first_place x d < length d
place_below x [] h = absurd (false≢true h)
place_below x (y ∷ ys) h = below_by x y ys (slot_eq x y) refl (λ e. place_below x ys (⊎_elim (λ t. absurd (false≢true (sym e ∙ t))) (λ t. t) (or_cases _ _ h)))

key_fits : (r : Range) (d : List Slot) (x : Slot) (v : Bool) → length d ≤ r.others → 0 < r.others → (v ≡ true → first_place x d < length d) → InRange r (cond v (pos (first_place x d)) (pos 0))
key_fits r d x true l z h = omega (arith, h refl)
key_fits r d x false l z h = z

named_by : (d : List Slot) (x : Slot) (bits : List Bool) (ks : List ℤ) (v : Bool) → (v ≡ true → first_place x d < length d) → AllSet (IsBelow (length d)) bits ks
    → AllSet (IsBelow (length d)) (v ∷ bits) (cond v (pos (first_place x d)) (pos 0) ∷ ks)
named_by d x bits ks true f h = (f refl, h)
named_by d x bits ks false f h = h

keys_named : (d s : List Slot) → AllByRecursion (λ x. is_valid x ≡ true → first_place x d < length d) s → AllSet (IsBelow (length d)) (map is_valid s) (map (key_in d) s)
keys_named d [] h = tt
keys_named d (x ∷ xs) h = named_by d x (map is_valid xs) (map (key_in d) xs) (is_valid x) h.0 (keys_named d xs h.1)

all_valid_bits : (s : List Slot) → list_all is_valid s ≡ true → replicate (length s) true ≡ map is_valid s
all_valid_bits [] e = refl
all_valid_bits (x ∷ xs) e = let both = and_parts (is_valid x) (list_all is_valid xs) e in ap₂ (λ b bs. b ∷ bs) (sym both.0) (all_valid_bits xs both.1)

bits_by : (s : List Slot) (b : Bool) → list_all is_valid s ≡ b → mask_bits (cond b None (Some (plain (map is_valid s)))) (length s) ≡ map is_valid s
bits_by s true e = all_valid_bits s e
bits_by s false e = refl

-- the bits of the canonical mask say which slots are valid
pub bits-mask : (s : List Slot) (n : ℕ) → length s ≡ n → mask_bits (mask_of s) n ≡ map is_valid s
bits-mask s n l = rw (← l) (bits_by s (list_all is_valid s) refl)

pub some_keys : (k : IntegerType) → 0 < key_capacity k
some_keys integer.Int8 = omega arith
some_keys integer.Int16 = omega arith
some_keys integer.Int32 = omega arith
some_keys integer.Int64 = omega arith
some_keys integer.Int128 = omega arith
some_keys integer.UInt8 = omega arith
some_keys integer.UInt16 = omega arith
some_keys integer.UInt32 = omega arith
some_keys integer.UInt64 = omega arith

-- ---- each kind with children

lists_form : (t u : TypeData) (large : Bool) (s inner : List Slot) → form_of t ≡ lists_of large u → IsCarried t → inner ≡ flat_map (items_or []) s → Fits (list_canon t s (canon u inner)) → WellFormed (canon u inner) → WellFormed (list_canon t s (canon u inner))
lists_form t u large s inner e c i f w =
    let same : form_of t ≡ lists_of (large_by (form_of t)) (type_of (canon u inner)) = e ∙ (ap (λ g. lists_of (large_by g) u) (sym e) ∙ ap (lists_of (large_by (form_of t))) (sym (type-canon u inner))) in (
      column_canon t _ s _ same c (sym (length-offsets (items_or []) s)) f.0,
      offsets_are (items_or []) s (offset_limit (form_of t)) (length_of (canon u inner)) (ap length (sym i) ∙ sym (length-canon u inner)) f.1,
      w,
    )

fixed_lists_form : (t u : TypeData) (k : ℕ) (s inner : List Slot) → form_of t ≡ fixed_size_lists_of k u → IsCarried t → length inner ≡ length s * k → length s < 2 ^ 64
    → IsColumnOf t (fixed_size_lists_of k (type_of (canon u inner))) (mask_of s) (length s) × (length_of (canon u inner) ≡ length s * k)
fixed_lists_form t u k s inner e c l n = (column_canon t _ s (length s) (e ∙ ap (fixed_size_lists_of k) (sym (type-canon u inner))) c refl n, length-canon u inner ∙ l)

keys_form : (t u : TypeData) (k : IntegerType) (s : List Slot) → form_of t ≡ dictionaries_of k u → IsCarried t → Fits (key_canon t (integer_type k) s (canon u (distinct s))) → Small (key_canon t (integer_type k) s (canon u (distinct s)))
    → WellFormed (canon u (distinct s)) → WellFormed (key_canon t (integer_type k) s (canon u (distinct s)))
keys_form t u k s e c f m w =
    let d = distinct s in
    let ks = map (key_in d) s in
    let small : length d ≤ key_capacity k = subst (λ n. n ≤ key_capacity k) (length-canon u d) (subst (λ g. length_of (canon u d) ≤ key_capacity (key_by g)) e m.0) in
    let below : AllByRecursion (λ x. is_valid x ≡ true → first_place x d < length d) s = all_weaker _ _ (λ x q v. place_below x d (q v)) s (all_taken [] s) in (
      column_canon t _ s _ (e ∙ ap (λ g. dictionaries_of (key_by g) (value_by g)) (sym e)) c (sym (length-map s (key_in d))) f.0,
      ap (λ g. integer_type (key_by g)) (sym e),
      subst (λ g. AllByRecursion (InRange (key_range (key_by g))) ks) (sym e) (all_map _ _ _ (λ x h. key_fits (key_range k) d x (is_valid x) small (some_keys k) h) s below),
      rw (bits-mask s (length ks) (sym (length-map s (key_in d))), length-canon u d) (keys_named d s below),
      ap (λ g. logical_of (value_by g)) e ∙ ap logical_of (sym (type-canon u d)),
      w,
    )

-- the type numbers of a union are legal
number_legal : (limit : ℕ) (P : ℕ → Slot → Type 0) (x : Slot) → IsUnionSlot (λ t y. (t < limit) × P t y) x → IsBelow limit (pos (number_chosen x))
number_legal limit P (chosen t y) h = h.0
number_legal limit P _ h = absurd h

numbers_legal : (t : TypeData) (limit : ℕ) (P : ℕ → Slot → Type 0) (s : List Slot) → type_limit t ≡ limit → AllByRecursion (IsUnionSlot (λ t y. (t < limit) × P t y)) s → AllByRecursion (IsBelow (type_limit t)) (numbers s)
numbers_legal t limit P s e h = subst (λ n. AllByRecursion (IsBelow n) (numbers s)) (sym e) (all_map _ _ _ (number_legal limit P) s h)

dense_length : (select_field : ℕ → ℕ) (fs : FieldList) (j i : ℕ) (y : Slot) (s : List Slot) → IsPart fs i y → get_or (lengths_of (canon_dense select_field fs j s)) i 0 ≡ length (flat_map (inner_if select_field (j + i)) s)
dense_length select_field no_fields j i y s h = absurd h
dense_length select_field (and_field (T.field n t b m) fs) j zero y s h =
    let e : j ≡ j + 0 = omega arith in length-canon t (flat_map (inner_if select_field j) s) ∙ ap (λ k. length (flat_map (inner_if select_field k) s)) e
dense_length select_field (and_field (T.field n t b m) fs) j (suc i) y s h =
    let e : suc j + i ≡ j + suc i = omega arith in dense_length select_field fs (suc j) i y s h ∙ ap (λ k. length (flat_map (inner_if select_field k) s)) e

dense_long : (select_field : ℕ → ℕ) (fs : FieldList) (all : List Slot) (x : Slot) → IsOfFields select_field fs x
    → IsUnionSlot (λ t y. get_or (lengths_of (canon_dense select_field fs 0 all)) (select_field t) 0 ≡ length (flat_map (inner_if select_field (select_field t)) all)) x
dense_long select_field fs all (chosen t y) h =
    let e : 0 + select_field t ≡ select_field t = omega arith in dense_length select_field fs 0 (select_field t) y all h ∙ ap (λ k. length (flat_map (inner_if select_field k) all)) e
dense_long select_field fs all _ h = absurd h

is_union : (P : ℕ → Slot → Type 0) (x : Slot) → IsUnionSlot P x → IsUnion x
is_union P (chosen t y) h = tt
is_union P _ h = absurd h

pub are_union : (P : ℕ → Slot → Type 0) (s : List Slot) → AllByRecursion (IsUnionSlot P) s → AllByRecursion IsUnion s
are_union P s h = all_weaker (IsUnionSlot P) IsUnion (is_union P) s h

dense_named : (select_field : ℕ → ℕ) (fs : FieldList) (s : List Slot) → AllByRecursion (IsOfFields select_field fs) s
    → AllNamed (lengths_of (canon_dense select_field fs 0 s)) (map select_field (map nat_of (numbers s))) (map nat_of (dense_offsets select_field s))
dense_named select_field fs s h =
    rw (to_nat-numbers s, to_nat-pos (counts_after [] (places select_field s)))
    (named_after select_field (lengths_of (canon_dense select_field fs 0 s)) [] s tt (all_weaker _ _ (dense_long select_field fs s) s h))

mutual
  pub canon_well_formed : (t : TypeData) (s : List Slot) → IsCarried t → HasSlots t s → Fits (canon t s) → Small (canon t s) → WellFormed (canon t s)
  canon_well_formed (T.list (T.field n t b md)) s c h f m =
      lists_form _ t false s (flat_map (items_or []) s) refl c refl f (canon_well_formed t (flat_map (items_or []) s) c (all_flat_map _ _ _ (list_items (IsSlot t)) s h) f.2 m)
  canon_well_formed (T.large_list (T.field n t b md)) s c h f m =
      lists_form _ t true s (flat_map (items_or []) s) refl c refl f (canon_well_formed t (flat_map (items_or []) s) c (all_flat_map _ _ _ (list_items (IsSlot t)) s h) f.2 m)
  canon_well_formed (T.map (T.field n t b md) o) s c h f m =
      lists_form _ t false s (flat_map (items_or []) s) refl c refl f (canon_well_formed t (flat_map (items_or []) s) c.1 (all_flat_map _ _ _ (list_items (IsSlot t)) s h) f.2 m)
  canon_well_formed (T.fixed_size_list (T.field n t b md) k) s c h f m =
      let d = replicate k (fill t) in
      let w = canon_well_formed t (flat_map (items_or d) s) c.1 (all_flat_map _ _ _ (fixed_items k (IsSlot t) (fill t) (fill_is_slot t c.1)) s h) f.1 m in
      let both = fixed_lists_form _ t k s (flat_map (items_or d) s) refl c (fixed_joined k (items_or d) s (all_weaker _ _ (fixed_length k (IsSlot t) (fill t)) s h)) f.0 in
      (both.0, both.1, w)
  canon_well_formed (T.struct fs) s c h f m = (
    column_canon (T.struct fs) _ s (length s) refl c refl f.0,
    types-parts fs (map (parts_or (fills fs)) s),
    parts_well_formed fs (length s) (map (parts_or (fills fs)) s) (length-map s (parts_or (fills fs))) c (all_map _ _ _ (struct_parts (AreParts fs) (fills fs) (fills_are_parts fs c)) s h) f.1 m,
  )
  canon_well_formed (T.union fs ids Sparse) s c h f m =
      let of = of_fields (number_limit ids (count_fields fs)) (select ids) fs s h in (
        column_bare (T.union fs ids Sparse) _ _ refl c f.0,
        numbers_legal (T.union fs ids Sparse) (number_limit ids (count_fields fs)) (λ t x. IsPart fs (select ids t) x) s refl h,
        omega arith,
        types-chosen (select ids) fs 0 s,
        chosen_well_formed (select ids) fs 0 s _ (omega (arith, length-numbers s)) c.3 (all_weaker _ _ (from_start (select ids) fs) s of) f.1 m,
      )
  canon_well_formed (T.union fs ids Dense) s c h f m =
      let of = of_fields (number_limit ids (count_fields fs)) (select ids) fs s h in (
        column_bare (T.union fs ids Dense) _ _ refl c f.0,
        numbers_legal (T.union fs ids Dense) (number_limit ids (count_fields fs)) (λ t x. IsPart fs (select ids t) x) s refl h,
        refl,
        f.1,
        dense_named (select ids) fs s of,
        types-dense (select ids) fs 0 s,
        dense_well_formed (select ids) fs 0 s c.3 (all_weaker _ _ (from_start (select ids) fs) s of) f.2 m,
      )
  canon_well_formed (T.dictionary k t o) s c h f m =
      keys_form (T.dictionary k t o) t k s refl c f m (canon_well_formed t (distinct s) c (all_distinct (IsSlot t) [] s tt (all_weaker _ _ (dictionary_value (IsSlot t)) s h)) f.1 m.1)
  canon_well_formed (T.extension n t md) s c h f m =
      well_formed_under (T.extension n t md) (canon t s) (ap form_of (sym (type-canon t s))) c
      (canon_well_formed t s c h (fits-retyped (T.extension n t md) (canon t s) (ap form_of (sym (type-canon t s))) f) (small-retyped (T.extension n t md) (canon t s) (ap form_of (sym (type-canon t s))) m))
  canon_well_formed T.unknown s c h f m = absurd c
  canon_well_formed t s c h f m = flat_well_formed t (form_of t) s refl tt (carried_here t c) c h f

  parts_well_formed : (fs : FieldList) (n : ℕ) (rs : List Slots) → length rs ≡ n → AreCarried fs → AllByRecursion (AreParts fs) rs → AllFit (canon_parts fs rs) → AllSmall (canon_parts fs rs) → AreWellFormed (λ i. i ≡ n) (canon_parts fs rs)
  parts_well_formed no_fields n rs e c h f m = tt
  parts_well_formed (and_field (T.field name t b md) fs) n rs e c h f m = (
    length-canon t _ ∙ (length-map rs (first_or (fill t)) ∙ e),
    canon_well_formed t (map (first_or (fill t)) rs) c.0 (all_map _ _ _ (first_of_more (fill t) (IsSlot t) (AreParts fs)) rs h) f.0 m.0,
    parts_well_formed fs n (map after_first rs) (length-map rs after_first ∙ e) c.1 (all_map _ _ _ (rest_of_more (IsSlot t) (AreParts fs)) rs h) f.1 m.1,
  )

  chosen_well_formed : (select_field : ℕ → ℕ) (fs : FieldList) (j : ℕ) (s : List Slot) (n : ℕ) → n ≤ length s → AreCarried fs → AllByRecursion (IsFrom select_field fs j) s
      → AllFit (canon_chosen select_field fs j s) → AllSmall (canon_chosen select_field fs j s) → AreWellFormed (λ i. 0 + n ≤ i) (canon_chosen select_field fs j s)
  chosen_well_formed select_field no_fields j s n e c h f m = tt
  chosen_well_formed select_field (and_field (T.field name t b md) fs) j s n e c h f m = (
    omega (arith, length-canon t (map (inner_or select_field (fill t) j) s), length-map s (inner_or select_field (fill t) j)),
    canon_well_formed t (map (inner_or select_field (fill t) j) s) c.0 (all_map _ _ _ (inner_has select_field name t b md fs j (fill_is_slot t c.0)) s h) f.0 m.0,
    chosen_well_formed select_field fs (suc j) s n e c.1 (all_weaker _ _ (from_next select_field name t b md fs j) s h) f.1 m.1,
  )

  dense_well_formed : (select_field : ℕ → ℕ) (fs : FieldList) (j : ℕ) (s : List Slot) → AreCarried fs → AllByRecursion (IsFrom select_field fs j) s
      → AllFit (canon_dense select_field fs j s) → AllSmall (canon_dense select_field fs j s) → AreWellFormed (λ i. 0 ≤ i) (canon_dense select_field fs j s)
  dense_well_formed select_field no_fields j s c h f m = tt
  dense_well_formed select_field (and_field (T.field name t b md) fs) j s c h f m = (
    omega arith,
    canon_well_formed t (flat_map (inner_if select_field j) s) c.0 (all_flat_map _ _ _ (dense_inner select_field name t b md fs j) s h) f.0 m.0,
    dense_well_formed select_field fs (suc j) s c.1 (all_weaker _ _ (from_next select_field name t b md fs j) s h) f.1 m.1,
  )
