-- Structs: types and their forms, and the children one after the other.
use Rattle.std.proofs.Common.{◌≡◌, ℕ, zero, suc, ◌^◌, ◌<◌, List, [], ◌∷◌, length, take, get_or, Option, Some, None, refl, ap, sym, subst, ◌∙◌, arith}
use Rattle.arrow_buffers.specs.Bits.{Bits}
use Rattle.arrow_types.specs.Carried.{AreCarried, IsCarried, count_fields}
use Rattle.arrow_types.specs.Seen.{back, back_fields, seen, seen_fields}
use Rattle.arrow_types.specs.TypeData.{FieldList, TypeData, and_field, field_type, no_fields}
use Rattle.arrow_types.specs.TypeData as T
use Rattle.arrow_types.specs.Types.{physical_of}
use Rattle.arrow_types.specs.declared.datatype.ArrowDataType.{ArrowDataType}
use Rattle.arrow_types.specs.declared.datatype.ArrowDataType as A
use Rattle.arrow_types.specs.declared.datatype.ExtensionType.{ExtensionType}
use Rattle.arrow_types.specs.declared.datatype.Field.{Field}
use Rattle.arrow_types.specs.declared.datatype.PhysicalType.TheVariants as physical
use Rattle.arrow_types.proofs.SeenFrom.{is_extension, is_struct}
use Rattle.arrow_flat.specs.Primitives.{IsLed, MaskHasLength}
use Rattle.arrow_layout.specs.FitsHere.{AllWellFormed, FitsHere, HaveLengths}
use Rattle.arrow_layout.specs.Forms.{fields_by, form_of, structs_of}
use Rattle.arrow_layout.specs.Layouts.{Layout, Layouts, child, child_count, layouts, length_of, no_layouts, structs, type_of}
use Rattle.arrow_layout.specs.WellFormed.{HaveTypes, MaskFits, WellFormed}
use Rattle.arrow_layout.proofs.FromParts.{fits_here}
use Rattle.arrow_layout.proofs.Physical.{physical_by, physical-by}
use Rattle.arrow_layout.proofs.Unique.{carried_of}
use Rattle.arrow_meaning.proofs.NodeParts.{mask_fits_led}
use Rattle.arrow_meaning.specs.declared.node.Node.{Node}
use Rattle.arrow_meaning.specs.declared.node.Node.TheVariants as node
use Rattle.arrow_meaning.specs.Nodes.{node_physical}
use Rattle.arrow_nested.specs.Structs.{AreStructs, PartsFit}

-- ---- types

carried_structs : (t : TypeData) (fs : FieldList) → form_of t ≡ structs_of fs → AreCarried fs → IsCarried t
carried_structs (T.struct gs) fs e c = let same : gs ≡ fs = cc in subst AreCarried (sym same) c
carried_structs (T.extension n t m) fs e c = carried_structs t fs e c
carried_structs (T.list (T.field n t b m)) fs e c = cc
carried_structs (T.large_list (T.field n t b m)) fs e c = cc
carried_structs (T.fixed_size_list (T.field n t b m) k) fs e c = cc
carried_structs (T.map (T.field n t b m) o) fs e c = cc
carried_structs _ fs e c = cc

carried_fields : (fs : FieldList) (ls : Layouts) → HaveTypes fs ls → AllWellFormed ls → AreCarried fs
carried_fields no_fields ls h w = tt
carried_fields (and_field f fs) no_layouts h w = absurd h
carried_fields (and_field (T.field n t b m) fs) (child l ls) h w = (subst IsCarried (sym h.0) (carried_of l w.0), carried_fields fs ls h.1 w.1)

no_structs : (s : TypeData) → ((fs : FieldList) → s ≡ T.struct fs → ⊥) → ((n : List ℕ) (t : TypeData) (m : Option (List ℕ)) → s ≡ T.extension n t m → ⊥) → AreStructs (form_of s) → ⊥
no_structs (T.struct fs) no_struct no_extension h = no_struct fs refl
no_structs (T.extension n t m) no_struct no_extension h = no_extension n t m refl
no_structs (T.list (T.field n t b m)) no_struct no_extension h = h
no_structs (T.large_list (T.field n t b m)) no_struct no_extension h = h
no_structs (T.fixed_size_list (T.field n t b m) k) no_struct no_extension h = h
no_structs (T.map (T.field n t b m) o) no_struct no_extension h = h
no_structs _ no_struct no_extension h = h

pub other_types : (t : ArrowDataType) → ((fs : List Field) → t ≡ A.Struct fs → ⊥) → ((x : ExtensionType) → t ≡ A.Extension x → ⊥) → AreStructs (form_of (seen t)) → ⊥
other_types t no_struct no_extension =
    no_structs (seen t) (λ fs is. no_struct (back_fields fs) (is_struct t fs is)) (λ n s m is. no_extension record { name = n; inner = back s; metadata = m } (is_extension t n s m is))

-- ---- nodes

pub struct_node : (n : Node) → node_physical n ≡ physical.Struct → ((t : _) (c : ℕ) (ls : _) (m : _) → n ≡ node.Struct t c ls m → ⊥) → ⊥
struct_node (node.Struct t c ls m) e no_struct = no_struct t c ls m refl
struct_node _ e no_struct = cc

-- what the node of parts that fit owes
pub parts_fit_here : (t : TypeData) (m : Option Bits) (n : ℕ) (ls : Layouts) → n < 2 ^ 64 → PartsFit t n ls m → IsLed m → AllWellFormed ls → FitsHere (structs t m n ls)
parts_fit_here t m n ls few h led w = (
  record {
    carried = carried_structs t (fields_by (form_of t)) h.kind (carried_fields (fields_by (form_of t)) ls h.types w);
    of_form = h.kind;
    mask = mask_fits_led m n h.fits led;
    count = few;
  },
  h.types,
  h.lengths,
)

pub stored_structs : (t : TypeData) (n : ℕ) (ls : Layouts) (m : Option Bits) → PartsFit t n ls m → physical_of t ≡ Some physical.Struct
stored_structs t n ls m h = physical-by t ∙ ap (physical_by t) h.kind

pub well_formed_fit : (t : TypeData) (m : Option Bits) (n : ℕ) (ls : Layouts) → WellFormed (structs t m n ls) → PartsFit t n ls m
well_formed_fit t m n ls w =
    record {
      kind = w.0.of_form;
      types = w.1;
      lengths = (fits_here (structs t m n ls) w).2;
      fits = covers m n w.0.mask;
    }
  where
    covers : (m : Option Bits) (n : ℕ) → MaskFits m n → MaskHasLength m n
    covers None n h = tt
    covers (Some b) n h = h.0

-- ---- children

pub fields_count : (fs : List Field) → count_fields (seen_fields fs) ≡ length fs
fields_count [] = refl
fields_count (f ∷ fs) = ap suc (fields_count fs)

pub children_count : (ls : List Layout) → child_count (layouts ls) ≡ length ls
children_count [] = refl
children_count (l ∷ ls) = ap suc (children_count ls)

pub lengths_step : (n : ℕ) (ls : List Layout) (i : ℕ) (l : Layout) → i < length ls → length_of (get_or ls i l) ≡ n → HaveLengths (λ k. k ≡ n) (layouts (take i ls))
    → HaveLengths (λ k. k ≡ n) (layouts (take (suc i) ls))
lengths_step n [] i l p e h = absurd (omega (arith, p))
lengths_step n (k ∷ ls) zero l p e h = (e, tt)
lengths_step n (k ∷ ls) (suc i) l p e h = (h.0, lengths_step n ls i l (omega (arith, p)) e h.1)

pub length_at : (n : ℕ) (ls : List Layout) (i : ℕ) (l : Layout) → i < length ls → HaveLengths (λ k. k ≡ n) (layouts ls) → length_of (get_or ls i l) ≡ n
length_at n [] i l p h = absurd (omega (arith, p))
length_at n (k ∷ ls) zero l p h = h.0
length_at n (k ∷ ls) (suc i) l p h = length_at n ls i l (omega (arith, p)) h.1
