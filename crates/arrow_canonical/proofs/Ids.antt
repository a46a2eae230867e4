-- The ids of types, and the fields that type numbers select by them.
use Rattle.std.proofs.Common.{◌≡◌, ℕ, zero, suc, ◌+◌, ◌<◌, List, [], ◌∷◌, ◌++◌, length, map, take, get_or, None, refl, ap, sym, subst, ◌∙◌, arith}
use Rattle.std.specs.Prelude.{ℤ, pos, ⊤}
use Rattle.std.specs.List.{range_with_len}
use Rattle.std.proofs.lemmas.List.{map-append, take_more}
use Rattle.arrow_types.specs.Select.{nat_of}
use Rattle.arrow_types.specs.TypeData.{TypeData}
use Rattle.arrow_types.specs.TypeData as T
use Rattle.arrow_types.specs.Seen.{back, back_fields, seen}
use Rattle.arrow_types.specs.Types.{logical_of}
use Rattle.arrow_types.specs.declared.datatype.ArrowDataType.{ArrowDataType}
use Rattle.arrow_types.specs.declared.datatype.ArrowDataType as A
use Rattle.arrow_types.specs.declared.datatype.UnionType.{UnionType, roll-UnionType}
use Rattle.arrow_types.proofs.Back.{back-seen}
use Rattle.arrow_layout.specs.Forms.{form_of, ids_by}
use Rattle.arrow_meaning.proofs.NullArrays.{form-logical}

-- ---- types that are no unions have none

abbrev IsLogical : TypeData → Type 0
IsLogical (T.extension n t m) = ⊥
IsLogical _ = ⊤

is_logical : (t : TypeData) → IsLogical (logical_of t)
is_logical (T.extension n t m) = is_logical t
is_logical _ = tt

module _ (t : ArrowDataType) (union : (u : UnionType) → t ≡ A.Union u → ⊥) where
  none_by : (s : TypeData) → back s ≡ t → IsLogical s → ids_by (form_of s) ≡ None
  none_by (T.union fs ids mode) e l = absurd (union (roll-UnionType record { fields = back_fields fs; ids = ids; mode = mode }) (sym e))
  none_by (T.extension n u m) e l = absurd l
  none_by (T.list (T.field n u b m)) e l = refl
  none_by (T.large_list (T.field n u b m)) e l = refl
  none_by (T.map (T.field n u b m) o) e l = refl
  none_by (T.fixed_size_list (T.field n u b m) k) e l = refl
  none_by _ e l = refl

  pub no_ids : (d : TypeData) → seen t ≡ logical_of d → ids_by (form_of d) ≡ None
  no_ids d e =
      ap ids_by (form-logical d) ∙ ap (λ s. ids_by (form_of s)) (sym e)
      ∙ none_by (seen t) (back-seen t) (subst IsLogical (sym e) (is_logical d))

-- ---- a table of fields

from_table : (f : ℕ → ℕ) (a n i d : ℕ) → i < n → get_or (map f (range_with_len a n)) i d ≡ f (a + i)
from_table f a zero i d h = absurd (omega (arith, h))
from_table f a (suc n) zero d h = let e : a ≡ a + 0 = omega arith in ap f e
from_table f a (suc n) (suc i) d h = let e : a + 1 + i ≡ a + suc i = omega arith in from_table f (a + 1) n i d (omega (arith, h)) ∙ ap f e

pub table_at : (f : ℕ → ℕ) (n i d : ℕ) → i < n → get_or (map f (range_with_len 0 n)) i d ≡ f i
table_at f n i d h = let e : 0 + i ≡ i = omega arith in from_table f 0 n i d h ∙ ap f e

pub selected_more : (f : ℕ → ℕ) (ts : List ℤ) (i : ℕ) → i < length ts → map f (map nat_of (take i ts)) ++ f (nat_of (get_or ts i (pos 0))) ∷ [] ≡ map f (map nat_of (take (i + 1) ts))
selected_more f ts i h =
    sym (map-append f (map nat_of (take i ts)) (nat_of (get_or ts i (pos 0)) ∷ []))
    ∙ ap (map f) (sym (map-append nat_of (take i ts) (get_or ts i (pos 0) ∷ [])) ∙ ap (map nat_of) (sym (take_more ts i (pos 0) h)))
