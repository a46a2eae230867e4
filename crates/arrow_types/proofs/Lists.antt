-- What the definitions say of a list of fields.
use Rattle.std.proofs.Common.{◌≡◌, ℕ, List, [], ◌∷◌, ◌++◌, length, drop, fold, ◌+◌, Option, Some, None, refl, sym, suc, ap, ◌∙◌}
use Rattle.std.specs.Prelude.{option_map}
use Rattle.arrow_types.specs.TypeData.{FieldList, no_fields, and_field, chained}
use Rattle.std.specs.Hash.{le_bytes}
use Rattle.arrow_types.specs.TypeWrites.{field_count, all_writes, fields_writes}
use Rattle.arrow_types.specs.Seen.{seen_field, seen_fields}
use Rattle.arrow_types.specs.Types.{more_fields, underlying_field, underlying_fields}
use Rattle.arrow_types.specs.declared.datatype.Field.{Field}

pub count_seen : (fs : List Field) → field_count (seen_fields fs) ≡ length fs
count_seen [] = refl
count_seen (f ∷ fs) = ap (λ n. suc n) (count_seen fs)

-- what a hasher has taken once no field is left
pub hashed : {S : Type 0} (write : S → List ℕ → S) (fs rest : List Field) (start counted end : S) → rest ≡ [] → fold write end (all_writes (seen_fields rest)) ≡ fold write counted (all_writes (seen_fields fs)) → counted ≡ write start (le_bytes 8 (length fs)) → end ≡ fold write start (fields_writes (seen_fields fs))
hashed write fs rest start counted end none same first =
    ap (λ d. fold write end (all_writes (seen_fields d))) (sym none)
    ∙ same
    ∙ ap (λ s. fold write s (all_writes (seen_fields fs))) first
    ∙ ap (λ n. fold write (write start (le_bytes 8 n)) (all_writes (seen_fields fs))) (sym (count_seen fs))

pub chained_none : (fs : FieldList) → chained fs no_fields ≡ fs
chained_none no_fields = refl
chained_none (and_field f fs) = ap (and_field f) (chained_none fs)

pub chained-one : (fs : List Field) (g : Field) (gs : FieldList) → chained (seen_fields (fs ++ g ∷ [])) gs ≡ chained (seen_fields fs) (and_field (seen_field g) gs)
chained-one [] g gs = refl
chained-one (f ∷ fs) g gs = ap (and_field (seen_field f)) (chained-one fs g gs)

pub more_done : (fs : List Field) (g : Field) (o : Option FieldList) → option_map (λ r. chained (seen_fields fs) r) (more_fields (Some (seen_field g)) o) ≡ option_map (λ r. chained (seen_fields (fs ++ g ∷ [])) r) o
more_done fs g None = refl
more_done fs g (Some r) = λ i. Some (sym (chained-one fs g r) i)

module _ (U : Option FieldList) (fs all : List Field) (i : ℕ) where
  pub kept : (f g : Field) → drop i fs ≡ f ∷ drop (i + 1) fs → option_map seen_field (Some g) ≡ underlying_field (seen_field f) → U ≡ option_map (λ r. chained (seen_fields all) r) (underlying_fields (seen_fields (drop i fs))) → U ≡ option_map (λ r. chained (seen_fields (all ++ g ∷ [])) r) (underlying_fields (seen_fields (drop (i + 1) fs)))
  kept f g d e h =
      h ∙ ap (λ l. option_map (λ r. chained (seen_fields all) r) (underlying_fields (seen_fields l))) d
      ∙ ap (λ o. option_map (λ r. chained (seen_fields all) r) (more_fields o (underlying_fields (seen_fields (drop (i + 1) fs))))) (sym e)
      ∙ more_done all g (underlying_fields (seen_fields (drop (i + 1) fs)))

  pub done : drop i fs ≡ [] → U ≡ option_map (λ r. chained (seen_fields all) r) (underlying_fields (seen_fields (drop i fs))) → Some (seen_fields all) ≡ U
  done d h = sym (h ∙ ap (λ l. option_map (λ r. chained (seen_fields all) r) (underlying_fields (seen_fields l))) d ∙ ap (λ l. Some l) (chained_none (seen_fields all)))

pub ruleset list_rules = (more_done, chained_none)
