-- Layouts of slots that say nothing: their types, their lengths and their slots.
use Rattle.std.proofs.Common.{List, None, Some, [], ap, ap₂, arith, cond, drop, false, get_or, length, map, pos, pred, refl, replicate, subst, suc, sym, zero, ℕ, ℤ, ◌*◌, ◌+◌, ◌<◌, ◌∙◌, ◌∷◌, ◌≡◌, ◌≤◌}
use Rattle.std.proofs.lemmas.List.{length-map, length-replicate}
use Rattle.arrow_types.specs.Select.{first_number, nat_of, select}
use Rattle.arrow_types.specs.TypeData.{FieldList, TypeData, and_field, no_fields}
use Rattle.arrow_types.specs.TypeData as T
use Rattle.arrow_types.specs.declared.datatype.UnionMode.TheVariants.{Dense, Sparse}
use Rattle.arrow_flat.proofs.Lists.{drop_none, map-map}
use Rattle.arrow_flat.specs.Numbers.{zeros}
use Rattle.arrow_flat.specs.Pieces.{chunks, pieces}
use Rattle.arrow_flat.specs.Slots.{Slot, Slots, bool, bytes, chosen, items, list_of_slots, no_slots, null, num, parts, slots_of}
use Rattle.arrow_flat.specs.Views.{view_bytes, zero_view}
use Rattle.arrow_layout.specs.Denote.{columns, dense_slots, denote, first_slot, masked, masked_by, rows, sparse_slots}
use Rattle.arrow_layout.specs.Forms.{Form, binaries_of, booleans_of, fixed_size_binaries_of, form_of, primitives_of, views_of}
use Rattle.arrow_layout.specs.Layouts.{length_of, type_of}
use Rattle.arrow_layout.specs.NullLayout.{count_from, flat_nulls, null_layout, null_layouts, null_mask, null_offsets, null_selected, one_if_any}
use Rattle.arrow_layout.specs.SlotsOf.{fill, fills}
use Rattle.arrow_layout.specs.WellFormed.{HaveTypes}
use Rattle.arrow_layout.proofs.Lengths.{length-chunks, length-pieces, length-with_column}
use Rattle.arrow_layout.proofs.Retyped.{denote-retyped, length-retyped, type-retyped}

-- ---- types and lengths

pub type-null : (t : TypeData) (n : ℕ) → type_of (null_layout t n) ≡ t
type-null (T.union fs ids Sparse) n = refl
type-null (T.union fs ids Dense) n = refl
type-null (T.extension e t m) n = type-retyped (T.extension e t m) (null_layout t n)
type-null (T.list (T.field a t b m)) n = refl
type-null (T.large_list (T.field a t b m)) n = refl
type-null (T.map (T.field a t b m) o) n = refl
type-null (T.fixed_size_list (T.field a t b m) k) n = refl
type-null _ n = refl

pub types-null : (fs : FieldList) (n : ℕ) → HaveTypes fs (null_layouts fs n)
types-null no_fields n = tt
types-null (and_field (T.field a t b m) fs) n = (sym (type-null t n), types-null fs n)

pub types-selected : (fs : FieldList) (i n : ℕ) → HaveTypes fs (null_selected fs i n)
types-selected no_fields i n = tt
types-selected (and_field (T.field a t b m) fs) zero n = (sym (type-null t n), types-null fs 0)
types-selected (and_field (T.field a t b m) fs) (suc i) n = (sym (type-null t 0), types-selected fs i n)

pub length-flat_nulls : (t : TypeData) (f : Form) (n : ℕ) → length_of (flat_nulls t f n) ≡ n
length-flat_nulls t booleans_of n = length-replicate n false
length-flat_nulls t (primitives_of p) n = length-replicate n (zeros p)
length-flat_nulls t (binaries_of large text) n = length-replicate n (pos 0)
length-flat_nulls t (fixed_size_binaries_of k) n = refl
length-flat_nulls t (views_of text) n = length-replicate n zero_view
length-flat_nulls t _ n = refl

pub length-null : (t : TypeData) (n : ℕ) → length_of (null_layout t n) ≡ n
length-null (T.union fs ids Sparse) n = length-replicate n (pos (first_number ids))
length-null (T.union fs ids Dense) n = length-replicate n (pos (first_number ids))
length-null (T.extension e t m) n = length-retyped (T.extension e t m) (null_layout t n) ∙ length-null t n
length-null (T.list (T.field a t b m)) n = length-replicate n (pos 0)
length-null (T.large_list (T.field a t b m)) n = length-replicate n (pos 0)
length-null (T.map (T.field a t b m) o) n = length-replicate n (pos 0)
length-null (T.fixed_size_list (T.field a t b m) k) n = refl
length-null (T.struct fs) n = refl
length-null (T.dictionary k t o) n = length-replicate n (pos 0)
length-null t n = length-flat_nulls t (form_of t) n

-- ---- slots

unset_nulls : (n : ℕ) (xs : List Slot) → length xs ≡ n → masked_by (replicate n false) xs ≡ replicate n null
unset_nulls zero [] e = refl
unset_nulls zero (x ∷ xs) e = absurd (omega (arith, e))
unset_nulls (suc n) [] e = absurd (omega (arith, e))
unset_nulls (suc n) (x ∷ xs) e = ap (λ ys. null ∷ ys) (unset_nulls n xs (omega (arith, e)))

-- whatever stands under the mask
pub all_null : (n : ℕ) (xs : List Slot) → length xs ≡ n → masked (null_mask n) xs ≡ replicate n null
all_null zero [] e = refl
all_null zero (x ∷ xs) e = absurd (omega (arith, e))
all_null (suc n) xs e = unset_nulls (suc n) xs e

pub map-replicate : {A B : Type 0} (f : A → B) (n : ℕ) (x : A) → map f (replicate n x) ≡ replicate n (f x)
map-replicate f zero x = refl
map-replicate f (suc n) x = ap (λ ys. f x ∷ ys) (map-replicate f n x)

offset_slots : {A : Type 0} (f : List A → Slot) (n : ℕ) (xs : List A) → length (map f (pieces (map nat_of (null_offsets n)) xs)) ≡ n
offset_slots f n xs = length-map (pieces (map nat_of (null_offsets n)) xs) f ∙ (length-pieces (null_offsets n) xs ∙ length-replicate n (pos 0))

chunk_slots : {A : Type 0} (f : List A → Slot) (k n : ℕ) (xs : List A) → length (map f (chunks k n xs)) ≡ n
chunk_slots f k n xs = length-map (chunks k n xs) f ∙ length-chunks k n xs

denote-flat_nulls : (t : TypeData) (f : Form) (n : ℕ) → denote (flat_nulls t f n) ≡ replicate n null
denote-flat_nulls t booleans_of n = all_null n _ (length-map (replicate n false) bool ∙ length-replicate n false)
denote-flat_nulls t (primitives_of p) n = all_null n _ (length-map (replicate n (zeros p)) num ∙ length-replicate n (zeros p))
denote-flat_nulls t (binaries_of large text) n = all_null n _ (offset_slots bytes n [])
denote-flat_nulls t (fixed_size_binaries_of k) n = all_null n _ (chunk_slots bytes k n (replicate (n * k) 0))
denote-flat_nulls t (views_of text) n =
    all_null n _ (length-map (map (view_bytes []) (replicate n zero_view)) bytes ∙ (length-map (replicate n zero_view) (view_bytes []) ∙ length-replicate n zero_view))
denote-flat_nulls t _ n = refl

-- each row of equal columns has the slot that each column repeats
first_at : (n : ℕ) (xs : List Slot) (i : ℕ) → first_slot (get_or (map (replicate (suc n)) xs) i []) ≡ get_or xs i null
first_at n [] i = refl
first_at n (x ∷ xs) zero = refl
first_at n (x ∷ xs) (suc i) = first_at n xs i

sparse_fillings : (select_field : ℕ → ℕ) (i : ℕ) (xs : List Slot) (n : ℕ)
    → sparse_slots select_field (replicate n i) (map (replicate n) xs) ≡ replicate n (chosen i (get_or xs (select_field i) null))
sparse_fillings select_field i xs zero = refl
sparse_fillings select_field i xs (suc n) =
    ap₂ (λ x ys. chosen i x ∷ ys) (first_at n xs (select_field i))
    (ap (sparse_slots select_field (replicate n i)) (map-map (drop 1) (replicate (suc n)) xs) ∙ sparse_fillings select_field i xs n)

dense_fillings : (select_field : ℕ → ℕ) (i top : ℕ) (cs : List (List Slot)) (x : Slot)
    → ((o : ℕ) → o < top → get_or (get_or cs (select_field i) []) o null ≡ x) → (n a : ℕ) → a + n ≤ top
    → dense_slots select_field (replicate n i) (map nat_of (count_from a n)) cs ≡ replicate n (chosen i x)
dense_fillings select_field i top cs x h zero a l = refl
dense_fillings select_field i top cs x h (suc n) a l =
    ap₂ (λ y ys. chosen i y ∷ ys) (h a (omega (arith, l))) (dense_fillings select_field i top cs x h n (suc a) (omega (arith, l)))

get_replicated : (n o : ℕ) (x : Slot) → o < n → get_or (replicate n x) o null ≡ x
get_replicated zero o x h = absurd (omega (arith, h))
get_replicated (suc n) zero x h = refl
get_replicated (suc n) (suc o) x h = get_replicated n o x (omega (arith, h))

mutual
  pub denote-null : (t : TypeData) (n : ℕ) → denote (null_layout t n) ≡ replicate n (fill t)
  denote-null (T.union fs ids Sparse) n =
      let i = first_number ids in
      ap₂ (sparse_slots (select ids)) (map-replicate nat_of n (pos i)) (drop_none (columns (null_layouts fs n)) ∙ columns-null fs n)
      ∙ sparse_fillings (select ids) i (list_of_slots (fills fs)) n
  denote-null (T.union fs ids Dense) n =
      let i = first_number ids in
      let cs = columns (null_selected fs (select ids i) n) in
      ap (λ ts. dense_slots (select ids) ts (map nat_of (count_from 0 n)) cs) (map-replicate nat_of n (pos i))
      ∙ dense_fillings (select ids) i n cs (get_or (list_of_slots (fills fs)) (select ids i) null) (selected-null fs (select ids i) n) n 0 (omega arith)
  denote-null (T.extension e t m) n =
      denote-retyped (T.extension e t m) (null_layout t n) (ap form_of (sym (type-null t n))) ∙ denote-null t n
  denote-null (T.list (T.field a t b m)) n = all_null n _ (offset_slots (λ xs. items (slots_of xs)) n (denote (null_layout t 0)))
  denote-null (T.large_list (T.field a t b m)) n = all_null n _ (offset_slots (λ xs. items (slots_of xs)) n (denote (null_layout t 0)))
  denote-null (T.map (T.field a t b m) o) n = all_null n _ (offset_slots (λ xs. items (slots_of xs)) n (denote (null_layout t 0)))
  denote-null (T.fixed_size_list (T.field a t b m) k) n = all_null n _ (chunk_slots (λ xs. items (slots_of xs)) k n (denote (null_layout t (n * k))))
  denote-null (T.struct fs) n = all_null n _ (length-map (rows n (null_layouts fs n)) parts ∙ length-rows_null fs n)
  denote-null (T.dictionary k t o) n =
      all_null n _ (length-map (replicate n (pos 0)) (λ z. get_or (denote (null_layout t (one_if_any n))) (nat_of z) null) ∙ length-replicate n (pos 0))
  denote-null t n = denote-flat_nulls t (form_of t) n

  pub length-rows_null : (fs : FieldList) (n : ℕ) → length (rows n (null_layouts fs n)) ≡ n
  length-rows_null no_fields n = length-replicate n no_slots
  length-rows_null (and_field (T.field a t b m) fs) n =
      let below = length-rows_null fs n in
      length-with_column (denote (null_layout t n)) (rows n (null_layouts fs n)) (ap length (denote-null t n) ∙ (length-replicate n (fill t) ∙ sym below)) ∙ below

  pub columns-null : (fs : FieldList) (n : ℕ) → columns (null_layouts fs n) ≡ map (replicate n) (list_of_slots (fills fs))
  columns-null no_fields n = refl
  columns-null (and_field (T.field a t b m) fs) n = ap₂ (λ c cs. c ∷ cs) (denote-null t n) (columns-null fs n)

  pub selected-null : (fs : FieldList) (i n o : ℕ) → o < n → get_or (get_or (columns (null_selected fs i n)) i []) o null ≡ get_or (list_of_slots (fills fs)) i null
  selected-null no_fields i n o h = refl
  selected-null (and_field (T.field a t b m) fs) zero n o h = ap (λ c. get_or c o null) (denote-null t n) ∙ get_replicated n o (fill t) h
  selected-null (and_field (T.field a t b m) fs) (suc i) n o h = selected-null fs i n o h
