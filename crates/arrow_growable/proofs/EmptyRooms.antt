-- No slots always have room.
use Rattle.std.proofs.Common.{◌≡◌, ℕ, suc, pred, ◌+◌, ◌<◌, ◌≤◌, ◌^◌, Bool, true, false, cond, List, [], ◌∷◌, length, map, ap, sym, subst, arith}
use Rattle.std.specs.Prelude.{⊤}
use Rattle.std.specs.List.{AllByRecursion}
use Rattle.arrow_types.specs.Carried.{IsBelow}
use Rattle.arrow_types.specs.Select.{select}
use Rattle.arrow_types.specs.TypeData.{TypeData, FieldList, no_fields, and_field}
use Rattle.arrow_types.specs.TypeData as T
use Rattle.arrow_types.specs.declared.datatype.UnionMode.TheVariants.{Dense, Sparse}
use Rattle.arrow_flat.specs.Slots.{Slot}
use Rattle.arrow_layout.specs.Canon.{canon, canon_chosen, canon_dense, canon_parts, flat_canon, mask_of}
use Rattle.arrow_layout.specs.Fits.{AllFit, Fits}
use Rattle.arrow_layout.specs.Forms.{Form, binaries_of, booleans_of, fixed_size_binaries_of, primitives_of, views_of, lists_of, fixed_size_lists_of, structs_of, unions_of, form_of, large_by, offset_limit}
use Rattle.arrow_layout.specs.Layouts.{retyped}
use Rattle.arrow_layout.proofs.ByForm.{type-canon}
use Rattle.arrow_layout.proofs.NullForms.{fits_under}
use Rattle.arrow_grow_flat.specs.Grown.{Room}
use Rattle.arrow_growable.specs.Columns.{canon_columns, child_types, columns_by}
use Rattle.arrow_growable.specs.Parts.{HasParts, PartsFit}
use Rattle.arrow_growable.specs.declared.parts.NestedParts.{NestedParts}
use Rattle.arrow_growable.specs.declared.parts.NestedParts.TheVariants as parts_of
use Rattle.arrow_growable.proofs.PartLayouts.{canon_with, fits_parts}

some_limit : (b : Bool) → 0 < cond b (2 ^ 63) (2 ^ 31)
some_limit true = omega arith
some_limit false = omega arith

none_flat : (t : TypeData) (f : Form) → Fits (flat_canon t f [])
none_flat t (binaries_of large text) = (omega arith, (some_limit (large_by (form_of t)), tt))
none_flat t (fixed_size_binaries_of k) = (omega arith, omega arith)
none_flat t (views_of text) = (omega arith, omega arith)
none_flat t booleans_of = omega arith
none_flat t (primitives_of p) = omega arith
none_flat t _ = omega arith

mutual
  pub none_fits : (t : TypeData) → Fits (canon t [])
  none_fits (T.list (T.field n t b m)) = (omega arith, (omega arith, tt), none_fits t)
  none_fits (T.large_list (T.field n t b m)) = (omega arith, (omega arith, tt), none_fits t)
  none_fits (T.map (T.field n t b m) o) = (omega arith, (omega arith, tt), none_fits t)
  none_fits (T.fixed_size_list (T.field n t b m) k) = (omega arith, none_fits t)
  none_fits (T.struct fs) = (omega arith, none_parts fs)
  none_fits (T.union fs ids Sparse) = (omega arith, none_chosen (select ids) fs 0)
  none_fits (T.union fs ids Dense) = (omega arith, tt, none_dealt (select ids) fs 0)
  none_fits (T.dictionary k t o) = (omega arith, none_fits t)
  none_fits (T.extension n t m) = fits_under (T.extension n t m) (canon t []) (ap form_of (sym (type-canon t []))) (none_fits t)
  none_fits t = none_flat t (form_of t)

  none_parts : (fs : FieldList) → AllFit (canon_parts fs [])
  none_parts no_fields = tt
  none_parts (and_field (T.field n t b m) fs) = (none_fits t, none_parts fs)

  none_chosen : (sel : ℕ → ℕ) (fs : FieldList) (j : ℕ) → AllFit (canon_chosen sel fs j [])
  none_chosen sel no_fields j = tt
  none_chosen sel (and_field (T.field n t b m) fs) j = (none_fits t, none_chosen sel fs (suc j))

  none_dealt : (sel : ℕ → ℕ) (fs : FieldList) (j : ℕ) → AllFit (canon_dense sel fs j [])
  none_dealt sel no_fields j = tt
  none_dealt sel (and_field (T.field n t b m) fs) j = (none_fits t, none_dealt sel fs (suc j))

-- parts of no slots are in their ranges
pub fresh_fit : (t : TypeData) (f : Form) (p : NestedParts) → form_of t ≡ f → HasParts f [] p → PartsFit t p
fresh_fit t f p e h = (fits_parts t (mask_of []) f [] p h (subst Fits (canon_with t f [] p e h) (none_fits t))).0
