-- The fields that slots of a union select.
use Rattle.std.proofs.Common.{◌≡◌, ℕ, ◌<◌, ℤ, pos, negsuc, List, [], ◌∷◌, length, map, ap, sym, ◌∙◌, subst, Option, Some}
use Rattle.std.specs.List.{AllByRecursion}
use Rattle.std.proofs.lemmas.List.{length-map}
use Rattle.arrow_types.specs.Carried.{IsBelow, IsCarried, count_fields}
use Rattle.arrow_types.specs.Select.{first_number, nat_of, select}
use Rattle.arrow_types.specs.TypeData.{TypeData}
use Rattle.arrow_types.specs.Types.{physical_of}
use Rattle.arrow_types.specs.declared.datatype.PhysicalType.TheVariants as physical
use Rattle.arrow_layout.specs.Forms.{fields_by, form_of, ids_by, mode_by, unions_of}
use Rattle.arrow_layout.specs.WellFormed.{positions, type_limit}
use Rattle.arrow_layout.proofs.ByForm.{carried_form}
use Rattle.arrow_layout.proofs.Conforms.{selects}
use Rattle.arrow_layout.proofs.Fills.{first_legal, select_below}
use Rattle.arrow_layout.proofs.Lengths.{length-positions}
use Rattle.arrow_layout.proofs.Pieces.{to_nat-pos}
use Rattle.arrow_choice.proofs.Unions.{union_form}
use Rattle.arrow_canon.specs.Picks.{pick, ArePlaces}
use Rattle.arrow_canon.proofs.Picked.{picks_mapped}
use Rattle.arrow_items.specs.Unions.{fields_picked, fill_field, fill_number, numbers_picked}
use Rattle.arrow_gather.proofs.Sound.{all_picked}

pub positions-picked : (t : TypeData) (ts : List ℤ) (ps : List (Option ℕ)) → positions t (numbers_picked t ts ps) ≡ fields_picked t (positions t ts) ps
positions-picked t ts ps =
    let field = select (ids_by (form_of t)) in
    ap (map field) (to_nat-pos (map (pick (fill_number t) (map nat_of ts)) ps)) ∙ sym (picks_mapped field (fill_number t) (map nat_of ts) ps)

pub numbers_count : (t : TypeData) (ts : List ℤ) (ps : List (Option ℕ)) → length (numbers_picked t ts ps) ≡ length ps
numbers_count t ts ps = length-map (map (pick (fill_number t) (map nat_of ts)) ps) pos ∙ length-map ps (pick (fill_number t) (map nat_of ts))

module _ (t : TypeData) (stored : physical_of t ≡ Some physical.Union) (c : IsCarried t) where
  form : form_of t ≡ unions_of (mode_by (form_of t)) (ids_by (form_of t)) (fields_by (form_of t))
  form = union_form t stored

  pub fill_below : fill_field t < count_fields (fields_by (form_of t))
  fill_below =
      let ids = ids_by (form_of t) in
      let n = count_fields (fields_by (form_of t)) in
      let w = carried_form t (unions_of (mode_by (form_of t)) ids (fields_by (form_of t))) form c in
      select_below ids n (first_number ids) w.0 w.2 (first_legal ids n w.0 w.2)

  pub fields_below : (ts : List ℤ) → AllByRecursion (IsBelow (type_limit t)) ts → AllByRecursion (λ j. j < count_fields (fields_by (form_of t))) (positions t ts)
  fields_below [] h = tt
  fields_below (pos n ∷ ts) h = (selects t (mode_by (form_of t)) c form n h.0, fields_below ts h.1)
  fields_below (negsuc n ∷ ts) h = absurd h.0

  pub picked_below : (ts : List ℤ) (ps : List (Option ℕ)) → AllByRecursion (IsBelow (type_limit t)) ts → ArePlaces (length ts) ps
      → AllByRecursion (λ j. j < count_fields (fields_by (form_of t))) (positions t (numbers_picked t ts ps))
  picked_below ts ps h within =
      let P : ℕ → Type 0 = λ j. j < count_fields (fields_by (form_of t)) in
      subst (AllByRecursion P) (sym (positions-picked t ts ps))
      (all_picked P (fill_field t) fill_below (positions t ts) ps (subst (λ n. ArePlaces n ps) (sym (length-positions t ts)) within) (fields_below ts h))
