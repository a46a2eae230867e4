-- Layouts over what was read of their children.
use Rattle.std.proofs.Common.{◌≡◌, ℕ, List, refl, sym, ap, ap₂, subst, ◌∙◌, Option, Some, None}
use Rattle.std.specs.Prelude.{ℤ, option_map}
use Rattle.std.specs.Option.{option_zip}
use Rattle.arrow_buffers.specs.Bits.{Bits}
use Rattle.arrow_types.specs.TypeData.{TypeData}
use Rattle.arrow_types.specs.Types.{integer_type}
use Rattle.arrow_types.specs.declared.datatype.IntegerType.{IntegerType}
use Rattle.arrow_layout.specs.FitsHere.{AllWellFormed}
use Rattle.arrow_layout.specs.Layouts.{Layout, Layouts, layouts, lists, fixed_size_lists, structs, dictionaries}
use Rattle.arrow_layout.specs.WellFormed.{WellFormed}
use Rattle.column_grammar.specs.Reads.{union_of}
use Rattle.column_read.specs.Arrays.{IsArrayOf, IsReadOf, AreArraysOf, AreReadOf}
use Rattle.column_read.proofs.BadChildren.{bad_list_child, bad_sized_child, bad_struct_children, bad_union_children, bad_values}

pub zip_first : {A B : Type 0} (a : Option A) (b : Option B) → a ≡ None → option_zip a b ≡ None
zip_first None b e = refl
zip_first (Some x) b e = let no : ⊥ = cc in absurd no

pub zip_second : {A B : Type 0} (a : Option A) (b : Option B) → b ≡ None → option_zip a b ≡ None
zip_second None b e = refl
zip_second (Some x) b e = ap (option_zip (Some x)) e

pub zip_both : {A B : Type 0} (a : Option A) (b : Option B) (x : A) (y : B) → a ≡ Some x → b ≡ Some y → option_zip a b ≡ Some (x, y)
zip_both a b x y e f = ap₂ option_zip e f

-- ---- a layout made of what was read of its children and of its other parts

module _ {L P : Type 0} (make : L → P → Layout) where
  abbrev pub over : Option L → Option P → Option Layout
  over found parts = option_map (λ q. make q.0 q.1) (option_zip found parts)

  pub none_over : (found : Option L) (parts : Option P) → parts ≡ None → over found parts ≡ None
  none_over found parts e = ap (option_map (λ q. make q.0 q.1)) (zip_second found parts e)

  pub read_over : (found : Option L) (parts : Option P) (l : L) (p : P) (a : Option Layout) → found ≡ Some l → parts ≡ Some p → IsArrayOf a (make l p) → IsReadOf (over found parts) a
  read_over found parts l p a e f h = record { layout = make l p; is = ap₂ over e f; array = h }

abbrev pub make_lists : TypeData → Layout → Option Bits × List ℤ → Layout
make_lists t l p = lists t p.0 p.1 l

abbrev pub make_sized : TypeData → ℕ → Layout → ℕ × Option Bits → Layout
make_sized t k l p = fixed_size_lists t p.1 k p.0 l

abbrev pub make_structs : TypeData → Layouts → ℕ × Option Bits → Layout
make_structs t ls p = structs t p.1 p.0 ls

abbrev pub make_unions : TypeData → Layouts → Option (List ℤ) × List ℤ → Layout
make_unions t ls p = union_of t ls p.0 p.1

-- Of a child.
module _ {P : Type 0} (make : Layout → P → Layout) (found : Option Layout) (parts : Option P) (p : P) (e : parts ≡ Some p) where
  pub over_bad : (child : Option Layout) → child ≡ None → ((l : Layout) → (WellFormed l → ⊥) → WellFormed (make l p) → ⊥) → IsReadOf found child → IsReadOf (over make found parts) None
  over_bad child none bad k =
      let never : IsArrayOf None k.layout = subst (λ o. IsArrayOf o k.layout) none k.array in
      read_over make found parts k.layout p None k.is e (bad k.layout never)

  pub over_good : (child : Option Layout) (l : Layout) (a : Option Layout) → child ≡ Some l → IsArrayOf a (make l p) → IsReadOf found child → IsReadOf (over make found parts) a
  over_good child l a some h k =
      let same : IsArrayOf (Some l) k.layout = subst (λ o. IsArrayOf o k.layout) some k.array in
      read_over make found parts k.layout p a k.is e (subst (λ x. IsArrayOf a (make x p)) same.0 h)

-- Of several.
module _ {P : Type 0} (make : Layouts → P → Layout) (found : Option Layouts) (parts : Option P) (p : P) (e : parts ≡ Some p) where
  pub all_bad : (arrays : Option (List Layout)) → arrays ≡ None → ((ls : Layouts) → (AllWellFormed ls → ⊥) → WellFormed (make ls p) → ⊥) → AreReadOf found arrays
      → IsReadOf (over make found parts) None
  all_bad arrays none bad k =
      let never : AreArraysOf None k.children = subst (λ o. AreArraysOf o k.children) none k.made in
      read_over make found parts k.children p None k.are e (bad k.children never)

  pub all_good : (arrays : Option (List Layout)) (ls : List Layout) (a : Option Layout) → arrays ≡ Some ls → IsArrayOf a (make (layouts ls) p) → AreReadOf found arrays
      → IsReadOf (over make found parts) a
  all_good arrays ls a some h k =
      let same : AreArraysOf (Some ls) k.children = subst (λ o. AreArraysOf o k.children) some k.made in
      read_over make found parts k.children p a k.are e (subst (λ x. IsArrayOf a (make x p)) same.0 h)

-- ---- dictionaries, whose values are read last

abbrev dictionary_from : TypeData → IntegerType → Option (List ℤ) → Option (Option Bits) → Option Layout → Option Layout
dictionary_from t k keys mask found = option_map (λ q. dictionaries t (integer_type k) q.1.0 q.0 q.1.1) (option_zip keys (option_zip mask found))

pub keys_none : (t : TypeData) (k : IntegerType) (keys : Option (List ℤ)) (mask : Option (Option Bits)) (found : Option Layout) → option_zip keys mask ≡ None
    → dictionary_from t k keys mask found ≡ None
keys_none t k None mask found e = refl
keys_none t k (Some ks) None found e = refl
keys_none t k (Some ks) (Some m) found e = let no : ⊥ = cc in absurd no

of_some : {A : Type 0} (x y : A) → Some x ≡ Some y → x ≡ y
of_some x y e = cc

keys_read : (t : TypeData) (k : IntegerType) (keys : Option (List ℤ)) (mask : Option (Option Bits)) (found : Option Layout) (ks : List ℤ) (m : Option Bits) (l : Layout) → option_zip keys mask ≡ Some (ks, m)
    → found ≡ Some l → dictionary_from t k keys mask found ≡ Some (dictionaries t (integer_type k) m ks l)
keys_read t k None mask found ks m l e f = let no : ⊥ = cc in absurd no
keys_read t k (Some js) None found ks m l e f = let no : ⊥ = cc in absurd no
keys_read t k (Some js) (Some n) found ks m l e f =
    let both = of_some (js, n) (ks, m) e in
    ap (λ o. dictionary_from t k (Some js) (Some n) o) f ∙ ap₂ (λ xs o. Some (dictionaries t (integer_type k) o xs l)) (ap (λ p. p.0) both) (ap (λ p. p.1) both)

module _ (t : TypeData) (k : IntegerType) (keys : Option (List ℤ)) (mask : Option (Option Bits)) (found : Option Layout) (ks : List ℤ) (m : Option Bits) (e : option_zip keys mask ≡ Some (ks, m)) where
  pub keys_bad : (values : Option Layout) → values ≡ None → IsReadOf found values → IsReadOf (dictionary_from t k keys mask found) None
  keys_bad values none h =
      let never : IsArrayOf None h.layout = subst (λ o. IsArrayOf o h.layout) none h.array in
      record { layout = dictionaries t (integer_type k) m ks h.layout; is = keys_read t k keys mask found ks m h.layout e h.is; array = bad_values t (integer_type k) m ks h.layout never }

  pub keys_good : (values : Option Layout) (l : Layout) (a : Option Layout) → values ≡ Some l → IsArrayOf a (dictionaries t (integer_type k) m ks l) → IsReadOf found values
      → IsReadOf (dictionary_from t k keys mask found) a
  keys_good values l a some array h =
      let same : IsArrayOf (Some l) h.layout = subst (λ o. IsArrayOf o h.layout) some h.array in
      record {
        layout = dictionaries t (integer_type k) m ks h.layout;
        is = keys_read t k keys mask found ks m h.layout e h.is;
        array = subst (λ x. IsArrayOf a (dictionaries t (integer_type k) m ks x)) same.0 array;
      }
