-- A layout under another type at its root.
use Rattle.std.proofs.Common.{None, Option, [], ap, drop, length, map, refl, subst, sym, ℕ, ◌∙◌, ◌≡◌, ◌≤◌}
use Rattle.std.specs.List.{AllByRecursion}
use Rattle.arrow_types.specs.Capacity.{key_capacity}
use Rattle.arrow_types.specs.Carried.{IsBelow, IsCarried, count_fields}
use Rattle.arrow_types.specs.Select.{number_limit, select, nat_of}
use Rattle.arrow_types.specs.TypeData.{TypeData}
use Rattle.arrow_types.specs.Types.{integer_type, logical_of}
use Rattle.arrow_types.specs.declared.datatype.UnionMode.TheVariants.{Dense, Sparse}
use Rattle.arrow_buffers.specs.Bits.{Bits}
use Rattle.arrow_flat.specs.Numbers.{AreInRange, InRange, ranges_of, zeros}
use Rattle.arrow_flat.specs.Views.{view_bytes}
use Rattle.arrow_layout.specs.Canon.{counts_after}
use Rattle.arrow_layout.specs.Canonical.{AllUnset, AreCounted, AreSelected, Canonical}
use Rattle.arrow_layout.specs.Denote.{columns, denote, dense_slots, rows, sparse_slots}
use Rattle.arrow_flat.specs.Pieces.{pieces}
use Rattle.arrow_layout.specs.Fits.{Fits, Small}
use Rattle.arrow_layout.specs.Forms.{Form, binaries_of, dictionaries_of, fields_by, form_of, ids_by, key_by, key_range, large_by, lists_of, offset_limit, primitive_by, primitives_of, structs_of, text_by, unions_of, value_by, views_of}
use Rattle.arrow_layout.specs.Layouts.{Layout, binaries, booleans, dense_unions, dictionaries, fixed_size_binaries, fixed_size_lists, length_of, lengths_of, lists, nulls, primitives, retyped, sparse_unions, structs, type_of, views}
use Rattle.arrow_layout.specs.SlotsOf.{IsTextIf, fills}
use Rattle.arrow_layout.specs.WellFormed.{AllNamed, AreOffsetsWithin, HaveTypes, IsColumnOf, WellFormed, mask_bits}

pub denote-retyped : (u : TypeData) (l : Layout) → form_of u ≡ form_of (type_of l) → denote (retyped u l) ≡ denote l
denote-retyped u (sparse_unions t o ts ls) e = ap (λ f. sparse_slots (select (ids_by f)) (map nat_of ts) (map (drop o) (columns ls))) e
denote-retyped u (dense_unions t o ts os ls) e = ap (λ f. dense_slots (select (ids_by f)) (map nat_of ts) (map nat_of os) (columns ls)) e
denote-retyped u _ e = refl

pub type-retyped : (u : TypeData) (l : Layout) → type_of (retyped u l) ≡ u
type-retyped u (nulls t n) = refl
type-retyped u _ = refl

pub length-retyped : (u : TypeData) (l : Layout) → length_of (retyped u l) ≡ length_of l
length-retyped u (nulls t n) = refl
length-retyped u _ = refl

pub fits-retyped : (u : TypeData) (l : Layout) → form_of u ≡ form_of (type_of l) → Fits (retyped u l) → Fits l
fits-retyped u (binaries t m os bs) e h = (h.0, subst (λ f. AllByRecursion (IsBelow (offset_limit f)) os) e h.1)
fits-retyped u (lists t m os l) e h = (h.0, subst (λ f. AllByRecursion (IsBelow (offset_limit f)) os) e h.1, h.2)
fits-retyped u _ e h = h

pub small-retyped : (u : TypeData) (l : Layout) → form_of u ≡ form_of (type_of l) → Small (retyped u l) → Small l
small-retyped u (dictionaries t k m ks l) e h = (subst (λ f. length_of l ≤ key_capacity (key_by f)) e h.0, h.1)
small-retyped u _ e h = h

pub small_under : (u : TypeData) (l : Layout) → form_of u ≡ form_of (type_of l) → Small l → Small (retyped u l)
small_under u (dictionaries t k m ks l) e h = (subst (λ f. length_of l ≤ key_capacity (key_by f)) (sym e) h.0, h.1)
small_under u _ e h = h

pub canonical_under : (u : TypeData) (l : Layout) → form_of u ≡ form_of (type_of l) → Canonical l → Canonical (retyped u l)
canonical_under u (primitives t m vs) e h = (h.0, subst (λ f. AllUnset (λ v. v ≡ zeros (primitive_by f)) (mask_bits m (length vs)) vs) (sym e) h.1)
canonical_under u (structs t m n ls) e h = (h.0, subst (λ f. AllUnset (λ r. r ≡ fills (fields_by f)) (mask_bits m n) (rows n ls)) (sym e) h.1, h.2)
canonical_under u (sparse_unions t o ts ls) e h = (h.0, subst (λ f. AreSelected 0 (map (select (ids_by f)) (map nat_of ts)) ls) (sym e) h.1)
canonical_under u (dense_unions t o ts os ls) e h =
    subst (λ f. (map nat_of os ≡ counts_after [] (map (select (ids_by f)) (map nat_of ts))) × AreCounted 0 (map (select (ids_by f)) (map nat_of ts)) ls) (sym e) h
canonical_under u (dictionaries t k m ks l) e h = (h.0, h.1, h.2, h.3, h.4, subst (λ f. value_by f ≡ type_of l) (sym e) h.5, h.6)
canonical_under u _ e h = h

column_under : (t u : TypeData) (f g : Form) (m : Option Bits) (n : ℕ) → form_of u ≡ form_of t → f ≡ g → IsCarried u → IsColumnOf t f m n → IsColumnOf u g m n
column_under t u f g m n e i c w = record { carried = c; of_form = e ∙ (w.of_form ∙ i); mask = w.mask; count = w.count }

-- a well-formed layout under a type of the same form
pub well_formed_under : (u : TypeData) (l : Layout) → form_of u ≡ form_of (type_of l) → IsCarried u → WellFormed l → WellFormed (retyped u l)
well_formed_under u (nulls t n) e c w = column_under t u _ _ None n e refl c w
well_formed_under u (booleans t m vs) e c w = (column_under t u _ _ m _ e refl c w.0, w.1)
well_formed_under u (primitives t m vs) e c w =
    (column_under t u _ _ m _ e (ap (λ f. primitives_of (primitive_by f)) (sym e)) c w.0, subst (λ f. AllByRecursion (AreInRange (ranges_of (primitive_by f))) vs) (sym e) w.1)
well_formed_under u (binaries t m os bs) e c w = (
  column_under t u _ _ m _ e (ap (λ f. binaries_of (large_by f) (text_by f)) (sym e)) c w.0,
  subst (λ f. AreOffsetsWithin (offset_limit f) (length bs) os) (sym e) w.1,
  w.2,
  w.3,
  subst (λ f. AllByRecursion (IsTextIf (text_by f)) (pieces (map nat_of os) bs)) (sym e) w.4,
)
well_formed_under u (fixed_size_binaries t m k n bs) e c w = (column_under t u _ _ m _ e refl c w.0, w.1, w.2, w.3)
well_formed_under u (views t m vs buffers) e c w = (
  column_under t u _ _ m _ e (ap (λ f. views_of (text_by f)) (sym e)) c w.0,
  w.1,
  w.2,
  subst (λ f. AllByRecursion (IsTextIf (text_by f)) (map (view_bytes buffers) vs)) (sym e) w.3,
)
well_formed_under u (lists t m os l) e c w = (
  column_under t u _ _ m _ e (ap (λ f. lists_of (large_by f) (type_of l)) (sym e)) c w.0,
  subst (λ f. AreOffsetsWithin (offset_limit f) (length_of l) os) (sym e) w.1,
  w.2,
)
well_formed_under u (fixed_size_lists t m k n l) e c w = (column_under t u _ _ m _ e refl c w.0, w.1, w.2)
well_formed_under u (structs t m n ls) e c w = (
  column_under t u _ _ m _ e (ap (λ f. structs_of (fields_by f)) (sym e)) c w.0,
  subst (λ f. HaveTypes (fields_by f) ls) (sym e) w.1,
  w.2,
)
well_formed_under u (sparse_unions t o ts ls) e c w = (
  column_under t u _ _ None _ e (ap (λ f. unions_of Sparse (ids_by f) (fields_by f)) (sym e)) c w.0,
  subst (λ f. AllByRecursion (IsBelow (number_limit (ids_by f) (count_fields (fields_by f)))) ts) (sym e) w.1,
  w.2,
  subst (λ f. HaveTypes (fields_by f) ls) (sym e) w.3,
  w.4,
)
well_formed_under u (dense_unions t o ts os ls) e c w = (
  column_under t u _ _ None _ e (ap (λ f. unions_of Dense (ids_by f) (fields_by f)) (sym e)) c w.0,
  subst (λ f. AllByRecursion (IsBelow (number_limit (ids_by f) (count_fields (fields_by f)))) ts) (sym e) w.1,
  w.2,
  w.3,
  subst (λ f. AllNamed (lengths_of ls) (map (select (ids_by f)) (map nat_of ts)) (map nat_of os)) (sym e) w.4,
  subst (λ f. HaveTypes (fields_by f) ls) (sym e) w.5,
  w.6,
)
well_formed_under u (dictionaries t k m ks l) e c w = (
  column_under t u _ _ m _ e (ap (λ f. dictionaries_of (key_by f) (value_by f)) (sym e)) c w.0,
  w.1 ∙ ap (λ f. integer_type (key_by f)) (sym e),
  subst (λ f. AllByRecursion (InRange (key_range (key_by f))) ks) (sym e) w.2,
  w.3,
  ap (λ f. logical_of (value_by f)) e ∙ w.4,
  w.5,
)
