-- What is canonical, by a layout's mask, its children and its own form.
use Rattle.std.proofs.Common.{◌≡◌, ◌↔◌, ℕ, zero, suc, ◌+◌, ◌^◌, ◌<◌, Bool, IsTrue, List, [], ◌∷◌, length, map, get_or, Option, Some, None, refl, ap, sym, ◌∙◌, subst, arith}
use Rattle.std.specs.Prelude.{ℤ, IfSome}
use Rattle.std.specs.List.{AllByRecursion}
use Rattle.std.proofs.lemmas.List.{length-map}
use Rattle.arrow_types.specs.Carried.{IsBelow}
use Rattle.arrow_types.specs.Select.{nat_of}
use Rattle.arrow_types.specs.Seen.{seen}
use Rattle.arrow_types.specs.TypeData.{TypeData}
use Rattle.arrow_types.specs.Types.{physical_of}
use Rattle.arrow_types.specs.declared.datatype.ArrowDataType.{ArrowDataType}
use Rattle.arrow_types.specs.declared.datatype.PhysicalType.TheVariants as physical
use Rattle.arrow_buffers.specs.Bits.{Bits}
use Rattle.arrow_layout.specs.Canon.{counts_after, occurrences}
use Rattle.arrow_layout.specs.Canonical.{AreCanonical, AreCounted, AreSelected, Canonical, FillElsewhere, MaskIsNeeded}
use Rattle.arrow_layout.specs.Denote.{denote, validity_of}
use Rattle.arrow_layout.specs.Forms.{fields_by, form_of}
use Rattle.arrow_layout.specs.Layouts.{Layout, nulls, booleans, primitives, binaries, fixed_size_binaries, views, lists, fixed_size_lists, structs, sparse_unions, dense_unions, dictionaries, Layouts, no_layouts, child, layouts, length_of, lengths_of, type_of}
use Rattle.arrow_layout.specs.Paths.{children_of}
use Rattle.arrow_layout.specs.SlotsOf.{fill}
use Rattle.arrow_layout.specs.WellFormed.{AllNamed, AreWellFormed, WellFormed, positions}
use Rattle.arrow_layout.proofs.Physical.{physical-by, physical_by}
use Rattle.arrow_meaning.specs.Nodes.{union_layout}
use Rattle.arrow_canonical.specs.Counted.{AllCounted, AllElsewhere}
use Rattle.arrow_canonical.specs.Filled.{AllFilled, NullsAreFilled}
use Rattle.arrow_canonical.specs.OwnForm.{HasOwnForm}
use Rattle.arrow_canonical.proofs.Fillings.{lists_filled, structs_filled}
use Rattle.arrow_canonical.proofs.Nulls.{fits_long}

-- ---- the three parts

selected_children : (j : ℕ) (is : List ℕ) (ls : Layouts) → AreSelected j is ls → AreCanonical ls
selected_children j is no_layouts h = tt
selected_children j is (child l ls) h = (h.1, selected_children (suc j) is ls h.2)

counted_children : (j : ℕ) (is : List ℕ) (ls : Layouts) → AreCounted j is ls → AreCanonical ls
counted_children j is no_layouts h = tt
counted_children j is (child l ls) h = (h.1, counted_children (suc j) is ls h.2)

pub parts_of : (l : Layout) → Canonical l → MaskIsNeeded (validity_of l) × AreCanonical (children_of l) × HasOwnForm l
parts_of (nulls t n) h = (tt, tt, tt)
parts_of (booleans t m vs) h = (h.0, tt, (h.1, h.2))
parts_of (primitives t m vs) h = (h.0, tt, h.1)
parts_of (binaries t m os bs) h = (h.0, tt, h.1)
parts_of (fixed_size_binaries t m k n bs) h = (h.0, tt, h.1)
parts_of (views t m vs buffers) h = (h.0, tt, (h.1, h.2))
parts_of (lists t m os l) h = (h.0, (h.2, tt), h.1)
parts_of (fixed_size_lists t m k n l) h = (h.0, (h.2, tt), h.1)
parts_of (structs t m n ls) h = (h.0, h.2, h.1)
parts_of (sparse_unions t o ts ls) h = (tt, selected_children 0 (positions t ts) ls h.1, h)
parts_of (dense_unions t o ts os ls) h = (tt, counted_children 0 (positions t ts) ls h.1, h)
parts_of (dictionaries t u m ks l) h = (h.0, (h.6, tt), (h.1, h.2, h.3, h.4, h.5))

pub of_parts : (l : Layout) → MaskIsNeeded (validity_of l) → AreCanonical (children_of l) → HasOwnForm l → Canonical l
of_parts (nulls t n) m c h = tt
of_parts (booleans t v vs) m c h = (m, h.0, h.1)
of_parts (primitives t v vs) m c h = (m, h)
of_parts (binaries t v os bs) m c h = (m, h)
of_parts (fixed_size_binaries t v k n bs) m c h = (m, h)
of_parts (views t v vs buffers) m c h = (m, h.0, h.1)
of_parts (lists t v os l) m c h = (m, h, c.0)
of_parts (fixed_size_lists t v k n l) m c h = (m, h, c.0)
of_parts (structs t v n ls) m c h = (m, h, c)
of_parts (sparse_unions t o ts ls) m c h = h
of_parts (dense_unions t o ts os ls) m c h = h
of_parts (dictionaries t u v ks l) m c h = (m, h.0, h.1, h.2, h.3, h.4, c.0)

pub answered : (P : Type 0) (o : Option Bool) (b : Bool) → IfSome o (λ a. IsTrue a ↔ P) → o ≡ Some b → IsTrue b ↔ P
answered P o b h e = subst (λ p. IfSome p (λ a. IsTrue a ↔ P)) e h

pub some_then : (o : Option Bool) (P Q : Type 0) → (P → Q) → (Q → P) → IfSome o (λ b. IsTrue b ↔ P) → IfSome o (λ b. IsTrue b ↔ Q)
some_then None P Q f g h = h
some_then (Some b) P Q f g h = (λ t. f (h.0 t), λ q. h.1 (g q))

-- ---- children

pub all_canonical : (ls : List Layout) → ((k : ℕ) → k < length ls → (c : Layout) → c ≡ get_or ls k c → Canonical c) → AreCanonical (layouts ls)
all_canonical [] h = tt
all_canonical (l ∷ ls) h = (h zero (omega arith) l refl, all_canonical ls (λ k w c e. h (suc k) (omega (arith, w)) c e))

pub canonical_at : (ls : List Layout) (k : ℕ) (c : Layout) → AreCanonical (layouts ls) → k < length ls → c ≡ get_or ls k c → Canonical c
canonical_at [] k c h w e = absurd (omega (arith, w))
canonical_at (l ∷ ls) zero c h w e = subst Canonical (sym e) h.0
canonical_at (l ∷ ls) (suc k) c h w e = canonical_at ls k c h.1 (omega (arith, w)) e

-- ---- sparse unions

selected_from : (a : ℕ) (fs : List ℕ) (ls : List Layout) → AreCanonical (layouts ls)
    → ((k : ℕ) (l : Layout) → k < length ls → l ≡ get_or ls k l → FillElsewhere (fill (type_of l)) (a + k) fs (denote l)) → AreSelected a fs (layouts ls)
selected_from a fs [] c h = tt
selected_from a fs (l ∷ ls) c h =
    let e : a + 0 ≡ a = omega arith in (
      subst (λ j. FillElsewhere (fill (type_of l)) j fs (denote l)) e (h zero l (omega arith) refl),
      c.0,
      selected_from (suc a) fs ls c.1 (λ k d w q. let f : a + suc k ≡ suc a + k = omega arith in subst (λ j. FillElsewhere (fill (type_of d)) j fs (denote d)) f (h (suc k) d (omega (arith, w)) q)),
    )

selected_at : (a : ℕ) (fs : List ℕ) (ls : List Layout) → AreSelected a fs (layouts ls)
    → (k : ℕ) (l : Layout) → k < length ls → l ≡ get_or ls k l → FillElsewhere (fill (type_of l)) (a + k) fs (denote l)
selected_at a fs [] h k l w e = absurd (omega (arith, w))
selected_at a fs (c ∷ ls) h zero l w e =
    let f : a ≡ a + 0 = omega arith in
    subst (λ d. FillElsewhere (fill (type_of d)) (a + 0) fs (denote d)) (sym e) (subst (λ j. FillElsewhere (fill (type_of c)) j fs (denote c)) f h.0)
selected_at a fs (c ∷ ls) h (suc k) l w e =
    let f : suc a + k ≡ a + suc k = omega arith in subst (λ j. FillElsewhere (fill (type_of l)) j fs (denote l)) f (selected_at (suc a) fs ls h.2 k l (omega (arith, w)) e)

pub selected_is : (fs : List ℕ) (ls : List Layout) → AreCanonical (layouts ls) → AllElsewhere fs ls ↔ AreSelected 0 fs (layouts ls)
selected_is fs ls c = (
  λ h. selected_from 0 fs ls c (λ k l w e. let f : k ≡ 0 + k = omega arith in subst (λ j. FillElsewhere (fill (type_of l)) j fs (denote l)) f (h k l w e)),
  λ h k l w e. let f : 0 + k ≡ k = omega arith in subst (λ j. FillElsewhere (fill (type_of l)) j fs (denote l)) f (selected_at 0 fs ls h k l w e),
)

-- ---- dense unions

counted_from : (a : ℕ) (fs : List ℕ) (ls : List Layout) → AreCanonical (layouts ls)
    → ((k : ℕ) (l : Layout) → k < length ls → l ≡ get_or ls k l → length_of l ≡ occurrences (a + k) fs) → AreCounted a fs (layouts ls)
counted_from a fs [] c h = tt
counted_from a fs (l ∷ ls) c h =
    let e : a + 0 ≡ a = omega arith in (
      h zero l (omega arith) refl ∙ ap (λ j. occurrences j fs) e,
      c.0,
      counted_from (suc a) fs ls c.1 (λ k d w q. let f : a + suc k ≡ suc a + k = omega arith in h (suc k) d (omega (arith, w)) q ∙ ap (λ j. occurrences j fs) f),
    )

counted_at : (a : ℕ) (fs : List ℕ) (ls : List Layout) → AreCounted a fs (layouts ls)
    → (k : ℕ) (l : Layout) → k < length ls → l ≡ get_or ls k l → length_of l ≡ occurrences (a + k) fs
counted_at a fs [] h k l w e = absurd (omega (arith, w))
counted_at a fs (c ∷ ls) h zero l w e = let f : a ≡ a + 0 = omega arith in ap length_of e ∙ h.0 ∙ ap (λ j. occurrences j fs) f
counted_at a fs (c ∷ ls) h (suc k) l w e =
    let f : suc a + k ≡ a + suc k = omega arith in counted_at (suc a) fs ls h.2 k l (omega (arith, w)) e ∙ ap (λ j. occurrences j fs) f

pub counted_is : (fs : List ℕ) (ls : List Layout) → AreCanonical (layouts ls) → AllCounted fs ls ↔ AreCounted 0 fs (layouts ls)
counted_is fs ls c = (
  λ h. counted_from 0 fs ls c (λ k l w e. let f : k ≡ 0 + k = omega arith in h k l w e ∙ ap (λ j. occurrences j fs) f),
  λ h k l w e. let f : 0 + k ≡ k = omega arith in counted_at 0 fs ls h k l w e ∙ ap (λ j. occurrences j fs) f,
)

length-lengths : (ls : List Layout) → length (lengths_of (layouts ls)) ≡ length ls
length-lengths [] = refl
length-lengths (l ∷ ls) = omega (arith, length-lengths ls)

named_here : (lengths : List ℕ) (i o : ℕ) → o < get_or lengths i 0 → i < length lengths
named_here [] i o h = absurd (omega (arith, h))
named_here (n ∷ lengths) zero o h = omega arith
named_here (n ∷ lengths) (suc i) o h = omega (arith, named_here lengths i o h)

named_low : (lengths is os : List ℕ) → AllNamed lengths is os → AllByRecursion (λ j. j < length lengths) is
named_low lengths [] os h = tt
named_low lengths (i ∷ is) [] h = absurd h
named_low lengths (i ∷ is) (o ∷ os) h = (named_here lengths i o h.0, named_low lengths is os h.1)

named_long : (lengths is os : List ℕ) → AllNamed lengths is os → length os ≡ length is
named_long lengths [] [] h = refl
named_long lengths [] (o ∷ os) h = absurd h
named_long lengths (i ∷ is) [] h = absurd h
named_long lengths (i ∷ is) (o ∷ os) h = omega (arith, named_long lengths is os h.1)

module _ (t : ArrowDataType) (ts : List ℤ) (ls : List Layout) (shift : ℕ) where
  pub union_stored : (os : Option (List ℤ)) → WellFormed (union_layout t ts os (layouts ls) shift) → physical_of (seen t) ≡ Some physical.Union
  union_stored None w = physical-by (seen t) ∙ ap (physical_by (seen t)) w.0.of_form
  union_stored (Some os) w = physical-by (seen t) ∙ ap (physical_by (seen t)) w.0.of_form

  module _ (m : Option (List ℤ)) (os : List ℤ) (is : m ≡ Some os) (w : WellFormed (union_layout t ts m (layouts ls) shift)) where
    whole : WellFormed (dense_unions (seen t) shift ts os (layouts ls))
    whole = subst (λ o. WellFormed (union_layout t ts o (layouts ls) shift)) is w

    pub dense_low : AllByRecursion (λ j. j < length ls) (positions (seen t) ts)
    dense_low =
        subst (λ n. AllByRecursion (λ j. j < n) (positions (seen t) ts)) (length-lengths ls)
        (named_low (lengths_of (layouts ls)) (positions (seen t) ts) (map nat_of os) whole.4)

    pub dense_long : length os ≡ length (positions (seen t) ts)
    dense_long = sym (length-map os nat_of) ∙ named_long (lengths_of (layouts ls)) (positions (seen t) ts) (map nat_of os) whole.4

    pub dense_range : AllByRecursion (IsBelow (2 ^ 31)) os
    dense_range = whole.3

  pub dense_own : (m : Option (List ℤ)) (os : List ℤ) (fs : List ℕ) (b : Bool) → m ≡ Some os → fs ≡ positions (seen t) ts → AreCanonical (layouts ls)
      → IsTrue b ↔ ((map nat_of os ≡ counts_after [] fs) × AllCounted fs ls) → IsTrue b ↔ HasOwnForm (union_layout t ts m (layouts ls) shift)
  dense_own m os fs b is e c h =
      let both = counted_is (positions (seen t) ts) ls c in
      let k = subst (λ gs. IsTrue b ↔ ((map nat_of os ≡ counts_after [] gs) × AllCounted gs ls)) e h in
      subst (λ o. IsTrue b ↔ HasOwnForm (union_layout t ts o (layouts ls) shift)) (sym is)
      (λ q. let r = k.0 q in (r.0, both.0 r.1), λ q. k.1 (q.0, both.1 q.1))

  pub sparse_own : (m : Option (List ℤ)) (fs : List ℕ) (b : Bool) → m ≡ None → fs ≡ positions (seen t) ts
      → IsTrue b ↔ ((shift ≡ 0) × AreSelected 0 fs (layouts ls)) → IsTrue b ↔ HasOwnForm (union_layout t ts m (layouts ls) shift)
  sparse_own m fs b is e h =
      subst (λ o. IsTrue b ↔ HasOwnForm (union_layout t ts o (layouts ls) shift)) (sym is) (subst (λ gs. IsTrue b ↔ ((shift ≡ 0) × AreSelected 0 gs (layouts ls))) e h)

-- ---- lists of one size and structs

pub list_own : (l : Layout) (t : TypeData) (m : Option Bits) (k n : ℕ) (c : Layout) (b : Bool) → l ≡ fixed_size_lists t m k n c → WellFormed l
    → IsTrue b ↔ NullsAreFilled m k n c → IsTrue b ↔ HasOwnForm l
list_own l t m k n c b is w h =
    let f : WellFormed (fixed_size_lists t m k n c) = subst WellFormed is w in
    let both = lists_filled m k n c (fits_long m n f.0.mask) f.2 (omega (arith, f.1)) in
    subst (λ d. IsTrue b ↔ HasOwnForm d) (sym is) (λ q. both.0 (h.0 q), λ q. h.1 (both.1 q))

pub struct_children : (l : Layout) (t : TypeData) (m : Option Bits) (n : ℕ) (ls : List Layout) → l ≡ structs t m n (layouts ls) → WellFormed l → AreWellFormed (λ i. i ≡ n) (layouts ls)
struct_children l t m n ls is w = let f : WellFormed (structs t m n (layouts ls)) = subst WellFormed is w in f.2

pub struct_own : (l : Layout) (t : TypeData) (m : Option Bits) (n : ℕ) (ls : List Layout) (b : Bool) → l ≡ structs t m n (layouts ls) → WellFormed l
    → IsTrue b ↔ AllFilled m n ls → IsTrue b ↔ HasOwnForm l
struct_own l t m n ls b is w h =
    let f : WellFormed (structs t m n (layouts ls)) = subst WellFormed is w in
    let both = structs_filled m n (fields_by (form_of t)) ls (fits_long m n f.0.mask) f.1 f.2 in
    subst (λ d. IsTrue b ↔ HasOwnForm d) (sym is) (λ q. both.0 (h.0 q), λ q. h.1 (both.1 q))
