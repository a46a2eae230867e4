-- Children that are read one after another.
use Rattle.std.proofs.Common.{◌≡◌, ℕ, ◌+◌, ◌<◌, zero, suc, List, [], ◌∷◌, ◌++◌, length, get_or, take, drop, refl, sym, subst, ap, ap₂, ◌∙◌, Option, Some, None, arith}
use Rattle.std.specs.Prelude.{map, min, option_map}
use Rattle.std.proofs.lemmas.List.{length-map, length-take, map-append, take-append-drop, take_more}
use Rattle.serde_json.specs.View.{view}
use Rattle.serde_json.specs.declared.value.Value.{Value}
use Rattle.std.specs.Option.{option_zip}
use Rattle.serde_json.specs.Data.{Data}
use Rattle.arrow_types.specs.Seen.{seen, seen_fields}
use Rattle.arrow_types.specs.declared.datatype.Field.{Field}
use Rattle.arrow_layout.specs.FitsHere.{AllWellFormed}
use Rattle.arrow_layout.specs.Layouts.{Layout, Layouts, no_layouts, child, layouts}
use Rattle.arrow_layout.specs.WellFormed.{WellFormed}
use Rattle.type_json.specs.TypeJson.{AreSpelled, IsSpelled}
use Rattle.column_grammar.specs.Reads.{data_in, children_in}
use Rattle.column_read.specs.Arrays.{IsReadOf, AreReadOf, and_array}

-- One layout behind the others.
abbrev with_last : Layouts → Layout → Layouts
with_last no_layouts l = child l no_layouts
with_last (child k ls) l = child k (with_last ls l)

-- The children that were read, and one more.
abbrev and_child : Option Layouts → Option Layout → Option Layouts
and_child before found = option_map (λ p. with_last p.0 p.1) (option_zip before found)

-- ---- one more layout

pub layouts-last : (ls : List Layout) (l : Layout) → layouts (ls ++ l ∷ []) ≡ with_last (layouts ls) l
layouts-last [] l = refl
layouts-last (k ∷ ls) l = ap (child k) (layouts-last ls l)

all_last : (ls : Layouts) (l : Layout) → AllWellFormed ls → WellFormed l → AllWellFormed (with_last ls l)
all_last no_layouts l h w = (w, tt)
all_last (child k ls) l h w = (h.0, all_last ls l h.1 w)

all_first : (ls : Layouts) (l : Layout) → AllWellFormed (with_last ls l) → AllWellFormed ls × WellFormed l
all_first no_layouts l h = (tt, h.0)
all_first (child k ls) l h = let rest = all_first ls l h.1 in ((h.0, rest.0), rest.1)

-- ---- what is read of one more field

one_child : (o : Option Layout) → option_map (λ p. child p.0 p.1) (option_zip o (Some no_layouts)) ≡ and_child (Some no_layouts) o
one_child None = refl
one_child (Some l) = refl

later_child : (a c : Option Layout) (b : Option Layouts) → option_map (λ p. child p.0 p.1) (option_zip a (and_child b c)) ≡ and_child (option_map (λ p. child p.0 p.1) (option_zip a b)) c
later_child None c b = refl
later_child (Some l) c None = refl
later_child (Some l) None (Some ls) = refl
later_child (Some l) (Some k) (Some ls) = refl

children_last : (fs : List Field) (ds : List Data) (f : Field) (d : Data) → length ds ≡ length fs
    → children_in (seen_fields (fs ++ f ∷ [])) (ds ++ d ∷ []) ≡ and_child (children_in (seen_fields fs) ds) (data_in (seen f.dtype) d)
children_last [] [] f d e = one_child (data_in (seen f.dtype) d)
children_last [] (x ∷ ds) f d e = let no : ⊥ = cc in absurd no
children_last (g ∷ fs) [] f d e = let no : ⊥ = cc in absurd no
children_last (g ∷ fs) (x ∷ ds) f d e =
    ap (λ o. option_map (λ p. child p.0 p.1) (option_zip (data_in (seen g.dtype) x) o)) (children_last fs ds f d (omega (arith, e)))
    ∙ later_child (data_in (seen g.dtype) x) (data_in (seen f.dtype) d) (children_in (seen_fields fs) ds)

no_first : (o : Option Layout) → option_map (λ p. child p.0 p.1) (option_zip o None) ≡ None
no_first None = refl
no_first (Some l) = refl

still_none : (a : Option Layout) (b c : Option Layouts) → (b ≡ None → c ≡ None) → option_map (λ p. child p.0 p.1) (option_zip a b) ≡ None → option_map (λ p. child p.0 p.1) (option_zip a c) ≡ None
still_none None b c f h = refl
still_none (Some l) None c f h = ap (λ o. option_map (λ p. child p.0 p.1) (option_zip (Some l) o)) (f refl)
still_none (Some l) (Some ls) c f h = let no : ⊥ = cc in absurd no

none_after : (fs gs : List Field) (ds es : List Data) → length ds ≡ length fs → children_in (seen_fields fs) ds ≡ None → children_in (seen_fields (fs ++ gs)) (ds ++ es) ≡ None
none_after [] gs [] es e h = let no : ⊥ = cc in absurd no
none_after [] gs (x ∷ ds) es e h = let no : ⊥ = cc in absurd no
none_after (g ∷ fs) gs [] es e h = let no : ⊥ = cc in absurd no
none_after (g ∷ fs) gs (x ∷ ds) es e h =
    still_none (data_in (seen g.dtype) x) (children_in (seen_fields fs) ds) (children_in (seen_fields (fs ++ gs)) (ds ++ es)) (none_after fs gs ds es (omega (arith, e))) h

-- as many values as fields are read, or none
pub other_count : (fs : List Field) (ds : List Data) → (length ds ≡ length fs → ⊥) → children_in (seen_fields fs) ds ≡ None
other_count [] [] h = absurd (h refl)
other_count [] (x ∷ ds) h = refl
other_count (g ∷ fs) [] h = refl
other_count (g ∷ fs) (x ∷ ds) h =
    ap (λ o. option_map (λ p. child p.0 p.1) (option_zip (data_in (seen g.dtype) x) o)) (other_count fs ds (λ e. h (ap suc e))) ∙ no_first (data_in (seen g.dtype) x)

-- ---- a turn of the loop over fields

module _ (fs : List Field) (vs : List Value) (i : ℕ) (f : Field) (v : Value) (below : i < length fs) (many : length vs ≡ length fs) (at : f ≡ get_or fs i f) (is : v ≡ get_or vs i v) where
  abbrev before : Option Layouts
  before = children_in (seen_fields (take i fs)) (map view (take i vs))

  counts : length (map view (take i vs)) ≡ length (take i fs)
  counts = length-map (take i vs) view ∙ (length-take i vs ∙ ap (λ n. min i n) many ∙ sym (length-take i fs))

  fields_more : take (i + 1) fs ≡ take i fs ++ f ∷ []
  fields_more = take_more fs i f below ∙ ap (λ x. take i fs ++ x ∷ []) (sym at)

  values_more : map view (take (i + 1) vs) ≡ map view (take i vs) ++ view v ∷ []
  values_more = ap (map view) (take_more vs i v (omega (arith, below, many)) ∙ ap (λ x. take i vs ++ x ∷ []) (sym is)) ∙ map-append view (take i vs) (v ∷ [])

  pub one_more : children_in (seen_fields (take (i + 1) fs)) (map view (take (i + 1) vs)) ≡ and_child before (data_in (seen f.dtype) (view v))
  one_more = ap₂ (λ gs ds. children_in (seen_fields gs) ds) fields_more values_more ∙ children_last (take i fs) (map view (take i vs)) f (view v) counts

  no_last : (o : Option Layouts) → and_child o None ≡ None
  no_last None = refl
  no_last (Some ls) = refl

  pub none_read : data_in (seen f.dtype) (view v) ≡ None → children_in (seen_fields fs) (map view vs) ≡ None
  none_read e =
      ap₂ (λ gs ds. children_in (seen_fields gs) ds) (sym (take-append-drop (i + 1) fs)) (ap (map view) (sym (take-append-drop (i + 1) vs)) ∙ map-append view (take (i + 1) vs) (drop (i + 1) vs))
      ∙ none_after (take (i + 1) fs) (drop (i + 1) fs) (map view (take (i + 1) vs)) (map view (drop (i + 1) vs))
      (length-map (take (i + 1) vs) view ∙ (length-take (i + 1) vs ∙ ap (λ n. min (i + 1) n) many ∙ sym (length-take (i + 1) fs)))
      (one_more ∙ ap (and_child before) e ∙ no_last before)

-- ---- a child behind the others

module _ (before : Option Layouts) (found : Option Layout) where
  bad_child : (us : Option (List Layout)) → AreReadOf before us → IsReadOf found None → AreReadOf (and_child before found) None
  bad_child us h k = record {
    children = with_last h.children k.layout;
    are = ap₂ and_child h.are k.is;
    made = λ w. k.array (all_first h.children k.layout w).1;
  }

  still_bad : (a : Option Layout) → AreReadOf before None → IsReadOf found a → AreReadOf (and_child before found) None
  still_bad a h k = record {
    children = with_last h.children k.layout;
    are = ap₂ and_child h.are k.is;
    made = λ w. h.made (all_first h.children k.layout w).0;
  }

  good_child : (us more : List Layout) (a : Layout) → more ≡ us ++ a ∷ [] → AreReadOf before (Some us) → IsReadOf found (Some a) → AreReadOf (and_child before found) (Some more)
  good_child us more a e h k = record {
    children = with_last h.children k.layout;
    are = ap₂ and_child h.are k.is;
    made = (ap layouts e ∙ layouts-last us a ∙ ap₂ with_last h.made.0 k.array.0, all_last h.children k.layout h.made.1 k.array.1);
  }

  pub child_more : (a : Option Layout) (us : Option (List Layout)) → AreReadOf before us → IsReadOf found a → AreReadOf (and_child before found) (and_array a us)
  child_more None us h k = bad_child us h k
  child_more (Some a) None h k = still_bad (Some a) h k
  child_more (Some a) (Some us) h k = good_child us (us ++ a ∷ []) a refl h k

-- ---- the loop over fields

pub no_children : AreReadOf (Some no_layouts) (Some [])
no_children = record { children = no_layouts; are = refl; made = (refl, tt) }

pub spelled_at : (fs : List Field) (i : ℕ) (f : Field) → AreSpelled (seen_fields fs) → i < length fs → f ≡ get_or fs i f → IsSpelled (seen f.dtype)
spelled_at [] i f h below is = absurd (omega (arith, below))
spelled_at (g ∷ fs) zero f h below is = subst (λ x. IsSpelled (seen x.dtype)) (sym is) h.0.0
spelled_at (g ∷ fs) (suc i) f h below is = spelled_at fs i f h.1 (omega (arith, below)) is

pub next_child : (fs : List Field) (vs : List Value) (i : ℕ) (f : Field) (v : Value) → i < length fs → length vs ≡ length fs → f ≡ get_or fs i f → v ≡ get_or vs i v
    → (a : Option Layout) (us more : Option (List Layout)) → more ≡ and_array a us → AreReadOf (children_in (seen_fields (take i fs)) (map view (take i vs))) us
    → IsReadOf (data_in (seen f.dtype) (view v)) a → AreReadOf (children_in (seen_fields (take (i + 1) fs)) (map view (take (i + 1) vs))) more
next_child fs vs i f v below many at is a us more e h k =
    subst (AreReadOf (children_in (seen_fields (take (i + 1) fs)) (map view (take (i + 1) vs)))) (sym e)
    (subst (λ o. AreReadOf o (and_array a us)) (sym (one_more fs vs i f v below many at is))
    (child_more (children_in (seen_fields (take i fs)) (map view (take i vs))) (data_in (seen f.dtype) (view v)) a us h k))
