-- The dictionaries of the canonical layout of what a well-formed layout denotes have as few values as its keys can name.
-- the slot is one that the layout denotes, or the fill
use Rattle.std.proofs.Common.{Bool, List, Option, [], ap, arith, cond, drop, false, flat_map, get_or, inl, inr, length, length-drop, map, nat_eq, negsuc, pos, refl, replicate, subst, suc, sym, take, true, zero, ℕ, ℤ, ⊎_elim, ◌+◌, ◌<◌, ◌∙◌, ◌∷◌, ◌≡◌, ◌≤◌, ◌⊎◌}
use Rattle.std.proofs.lemmas.Bool.{eqb-true, false≢true, or_cases, or_left, or_right}
use Rattle.std.proofs.lemmas.List.{length-map}
use Rattle.std.specs.List.{AllByRecursion}
use Rattle.arrow_types.specs.Capacity.{key_capacity}
use Rattle.arrow_types.specs.Select.{select, nat_of}
use Rattle.arrow_types.specs.TypeData.{FieldList, TypeData, and_field, no_fields}
use Rattle.arrow_types.specs.Types.{logical_of}
use Rattle.arrow_types.specs.declared.datatype.IntegerType.{IntegerType}
use Rattle.arrow_buffers.specs.Bits.{Bits}
use Rattle.arrow_flat.specs.Numbers.{InRange}
use Rattle.arrow_flat.specs.Slots.{Slot, Slots, chosen, is_valid, items, no_slots, null, slots_of, parts, list_of_slots}
use Rattle.arrow_layout.specs.Canon.{canon, canon_chosen, canon_dense, canon_parts, distinct, first_or, inner_if, inner_or, items_or, parts_or, after_first}
use Rattle.arrow_layout.specs.Denote.{columns, denote, dense_slots, dictionary_slots, first_slot, item_slots, masked, rows, sparse_slots, with_column}
use Rattle.arrow_flat.specs.Pieces.{chunks}
use Rattle.arrow_layout.specs.Fits.{AllSmall, Small}
use Rattle.arrow_layout.specs.Forms.{Form, fields_by, form_of, ids_by, key_by, key_range, value_by}
use Rattle.arrow_layout.specs.Layouts.{Layout, Layouts, binaries, booleans, child, dense_unions, dictionaries, fixed_size_binaries, fixed_size_lists, lengths_of, lists, no_layouts, nulls, primitives, sparse_unions, structs, type_of, views}
use Rattle.arrow_layout.specs.SlotsOf.{fill, fills}
use Rattle.arrow_layout.specs.WellFormed.{AllNamed, AreWellFormed, HaveTypes, WellFormed}
use Rattle.arrow_layout.proofs.Back.{get_dropped, zero_on}
use Rattle.arrow_layout.proofs.ByForm.{canon-form, canon_by, fill-form, fill_by, type-canon}
use Rattle.arrow_layout.proofs.CanonForms.{some_keys}
use Rattle.arrow_layout.proofs.CanonLengths.{length-canon}
use Rattle.arrow_layout.proofs.Conforms.{all_masked, all_pieces}
use Rattle.arrow_layout.proofs.Distinct.{IsIn, all_distinct}
use Rattle.arrow_layout.proofs.Few.{few_taken, from_take, in_take}
use Rattle.arrow_layout.proofs.Lengths.{length-denote}
use Rattle.arrow_flat.proofs.Lists.{all_any, all_both, all_drop, all_flat_map, all_map, all_replicate, all_take, all_weaker, unpacked-packed}
use Rattle.arrow_layout.proofs.Made.{none_twice}
use Rattle.arrow_layout.proofs.Retyped.{small-retyped, small_under}
use Rattle.arrow_layout.proofs.SlotSame.{slot_itself, slot_same}
use Rattle.arrow_types.specs.TypeData as T

abbrev pub From : Layout → Slot → Type 0
From l x = IsIn (denote l) x ⊎ (x ≡ fill (type_of l))

among_all : (Q : Slot → Type 0) (xs : List Slot) (x : Slot) → AllByRecursion Q xs → IsIn xs x → Q x
among_all Q [] x h k = absurd (false≢true k)
among_all Q (y ∷ xs) x h k = ⊎_elim (λ e. subst Q (sym (slot_same x y e)) h.0) (λ e. among_all Q xs x h.1 e) (or_cases _ _ k)

from_all : (Q : Slot → Type 0) (l : Layout) → AllByRecursion Q (denote l) → Q (fill (type_of l)) → (x : Slot) → From l x → Q x
from_all Q l h f x k = ⊎_elim (λ e. among_all Q (denote l) x h e) (λ e. subst Q (sym e) f) k

all_in : (d xs : List Slot) → ((x : Slot) → IsIn xs x → IsIn d x) → AllByRecursion (IsIn d) xs
all_in d [] f = tt
all_in d (x ∷ xs) f = (f x (or_left _ _ (slot_itself x)), all_in d xs (λ y h. f y (or_right _ _ h)))

pub all_from : (l : Layout) → AllByRecursion (From l) (denote l)
all_from l = all_weaker (IsIn (denote l)) (From l) (λ x h. inl h) (denote l) (all_in (denote l) (denote l) (λ x h. h))

-- ---- from the form of a type

small_form : (t : TypeData) (f : Form) (s : List Slot) → form_of t ≡ f → Small (canon_by t f s) → Small (canon t s)
small_form t f s e h = subst Small (sym (canon-form t f s e)) h

filled : (Q : Slot → Type 0) (t : TypeData) (f : Form) → form_of t ≡ f → Q (fill_by f) → Q (fill t)
filled Q t f e h = subst Q (sym (fill-form t f e)) h

small-to_logical : (t : TypeData) (s : List Slot) → Small (canon t s) → Small (canon (logical_of t) s)
small-to_logical (T.extension n t m) s h = small-to_logical t s (small-retyped (T.extension n t m) (canon t s) (ap form_of (sym (type-canon t s))) h)
small-to_logical _ s h = h

small-from_logical : (t : TypeData) (s : List Slot) → Small (canon (logical_of t) s) → Small (canon t s)
small-from_logical (T.extension n t m) s h = small_under (T.extension n t m) (canon t s) (ap form_of (sym (type-canon t s))) (small-from_logical t s h)
small-from_logical _ s h = h

small_logical : (t u : TypeData) (s : List Slot) → logical_of t ≡ logical_of u → Small (canon u s) → Small (canon t s)
small_logical t u s e h = small-from_logical t s (subst (λ v. Small (canon v s)) (sym e) (small-to_logical u s h))

-- ---- dictionaries

keys_from : (cap : ℕ) (ks : List ℤ) (vals : List Slot) → AllByRecursion (λ k. nat_of k < cap) ks → AllByRecursion (λ x. is_valid x ≡ true → IsIn (take cap vals) x) (dictionary_slots ks vals)
keys_from cap [] vals h = tt
keys_from cap (k ∷ ks) vals h = (λ v. in_take cap (nat_of k) vals h.0 v, keys_from cap ks vals h.1)

low_key : (k : IntegerType) (z : ℤ) → InRange (key_range k) z → nat_of z < key_capacity k
low_key k (pos n) h = h
low_key k (negsuc n) h = some_keys k

all_chunk : (P : Slot → Type 0) (k n : ℕ) (xs : List Slot) → AllByRecursion P xs → AllByRecursion (AllByRecursion P) (chunks k n xs)
all_chunk P k zero xs h = tt
all_chunk P k (suc n) xs h = (all_take P k xs h, all_chunk P k n (drop k xs) (all_drop P k xs h))

items_from : (P : Slot → Type 0) (d : List Slot) → AllByRecursion P d → (m : Option Bits) (xss : List (List Slot)) → AllByRecursion (AllByRecursion P) xss → AllByRecursion (λ x. AllByRecursion P (items_or d x)) (masked m (item_slots xss))
items_from P d f m xss h =
    all_masked (λ x. AllByRecursion P (items_or d x)) f m (item_slots xss)
    (all_map (AllByRecursion P) (λ x. AllByRecursion P (items_or d x)) (λ xs. items (slots_of xs)) (λ xs k. subst (AllByRecursion P) (sym (unpacked-packed xs)) k) xss h)

-- ---- structs

-- the parts come from the children
abbrev AreFrom : Layouts → Slots → Type 0
AreFrom no_layouts r = Unit {0}
AreFrom (child l ls) r = From l (first_or (fill (type_of l)) r) × AreFrom ls (after_first r)

fills_from : (fs : FieldList) (ls : Layouts) → HaveTypes fs ls → AreFrom ls (fills fs)
fills_from no_fields no_layouts h = tt
fills_from no_fields (child l ls) h = absurd h
fills_from (and_field f fs) no_layouts h = absurd h
fills_from (and_field (T.field n t b m) fs) (child l ls) h = (inr (ap fill h.0), fills_from fs ls h.1)

column_from : (l : Layout) (ls : Layouts) (xs : List Slot) (rs : List Slots) → AllByRecursion (From l) xs → AllByRecursion (AreFrom ls) rs → AllByRecursion (AreFrom (child l ls)) (with_column xs rs)
column_from l ls [] rs h k = tt
column_from l ls (x ∷ xs) [] h k = tt
column_from l ls (x ∷ xs) (r ∷ rs) h k = ((h.0, k.0), column_from l ls xs rs h.1 k.1)

rows_from : (n : ℕ) (ls : Layouts) → AllByRecursion (AreFrom ls) (rows n ls)
rows_from n no_layouts = all_replicate (AreFrom no_layouts) n no_slots tt
rows_from n (child l ls) = column_from l ls (denote l) (rows n ls) (all_from l) (rows_from n ls)

-- ---- sparse unions

-- the inner slots come from the children, the first of them that of field j
abbrev IsInner : (ℕ → ℕ) → Layouts → ℕ → Slot → Type 0
IsInner select_field no_layouts j x = Unit {0}
IsInner select_field (child l ls) j x = From l (inner_or select_field (fill (type_of l)) j x) × IsInner select_field ls (suc j) x

first_from : (l : Layout) (c : List Slot) (n : ℕ) → suc n ≤ length c → AllByRecursion (From l) c → From l (first_slot c)
first_from l [] n e h = absurd (omega arith)
first_from l (x ∷ c) n e h = h.0

inner_from : (l : Layout) (j i n : ℕ) (b : Bool) (cs : List (List Slot)) (c : List Slot) → nat_eq i j ≡ b → get_or cs j [] ≡ c → suc n ≤ length c → AllByRecursion (From l) c → From l (cond b (first_slot (get_or cs i [])) (fill (type_of l)))
inner_from l j i n true cs c e at many h = subst (λ d. From l (first_slot d)) (sym (ap (λ k. get_or cs k []) (eqb-true i j e) ∙ at)) (first_from l c n many h)
inner_from l j i n false cs c e at many h = inr refl

selected_from : (select_field : ℕ → ℕ) (l : Layout) (j : ℕ) (ns : List ℕ) (cs : List (List Slot)) (c : List Slot) → get_or cs j [] ≡ c → length ns ≤ length c → AllByRecursion (From l) c
    → AllByRecursion (λ x. From l (inner_or select_field (fill (type_of l)) j x)) (sparse_slots select_field ns cs)
selected_from select_field l j [] cs c at many h = tt
selected_from select_field l j (t ∷ ns) cs c at many h = (
  inner_from l j (select_field t) (length ns) (nat_eq (select_field t) j) cs c refl at many h,
  selected_from select_field l j ns (map (drop 1) cs) (drop 1 c) (get_dropped cs j ∙ ap (drop 1) at) (omega (arith, length-drop 1 c)) (all_drop (From l) 1 c h),
)

inners_from : (select_field : ℕ → ℕ) (ls : Layouts) (o j : ℕ) (ns : List ℕ) (cols : List (List Slot)) → ((i : ℕ) → get_or cols (j + i) [] ≡ drop o (get_or (columns ls) i [])) → AreWellFormed (λ i. o + length ns ≤ i) ls
    → AllByRecursion (IsInner select_field ls j) (sparse_slots select_field ns cols)
inners_from select_field no_layouts o j ns cols at w = all_any _ (λ x. tt) (sparse_slots select_field ns cols)
inners_from select_field (child l ls) o j ns cols at w =
    let here : get_or cols j [] ≡ drop o (denote l) = ap (λ i. get_or cols i []) (omega arith) ∙ at 0 in
    all_both (λ x. From l (inner_or select_field (fill (type_of l)) j x)) (IsInner select_field ls (suc j)) (sparse_slots select_field ns cols)
    (selected_from select_field l j ns cols (drop o (denote l)) here (omega (arith, length-drop o (denote l), length-denote l w.1, w.0)) (all_drop (From l) o (denote l) (all_from l)))
    (inners_from select_field ls o (suc j) ns cols (λ i. ap (λ k. get_or cols k []) (omega arith) ∙ at (suc i)) w.2)

-- the filling of a union selects the filling of its field
fill_by_case : (l : Layout) (j i : ℕ) (b : Bool) (y : Slot) → nat_eq i j ≡ b → (i ≡ j → y ≡ fill (type_of l)) → From l (cond b y (fill (type_of l)))
fill_by_case l j i true y e f = inr (f (eqb-true i j e))
fill_by_case l j i false y e f = inr refl

fill_inner : (select_field : ℕ → ℕ) (fs : FieldList) (ls : Layouts) (j n : ℕ) (y : Slot) → HaveTypes fs ls → ((i : ℕ) → select_field n ≡ j + i → y ≡ get_or (list_of_slots (fills fs)) i null) → IsInner select_field ls j (chosen n y)
fill_inner select_field no_fields no_layouts j n y h f = tt
fill_inner select_field no_fields (child l ls) j n y h f = absurd h
fill_inner select_field (and_field g fs) no_layouts j n y h f = absurd h
fill_inner select_field (and_field (T.field name t b m) fs) (child l ls) j n y h f = (
  fill_by_case l j (select_field n) (nat_eq (select_field n) j) y refl (λ e. f 0 (e ∙ omega arith) ∙ ap fill h.0),
  fill_inner select_field fs ls (suc j) n y h.1 (λ i e. f (suc i) (e ∙ omega arith)),
)

get_dropped_by : (o : ℕ) (cs : List (List Slot)) (i : ℕ) → get_or (map (drop o) cs) (0 + i) [] ≡ drop o (get_or cs i [])
get_dropped_by o cs i = let e : 0 + i ≡ i = omega arith in ap (λ k. get_or (map (drop o) cs) k []) e ∙ by o cs i where
  none : (o : ℕ) → ◌≡◌ {A = List Slot} [] (drop o [])
  none zero = refl
  none (suc o) = refl

  by : (o : ℕ) (cs : List (List Slot)) (i : ℕ) → get_or (map (drop o) cs) i [] ≡ drop o (get_or cs i [])
  by o [] i = none o
  by o (c ∷ cs) zero = refl
  by o (c ∷ cs) (suc i) = by o cs i

-- ---- dense unions

-- the inner slots come from the children, the first of them that of field j
abbrev IsDenseInner : (ℕ → ℕ) → Layouts → ℕ → Slot → Type 0
IsDenseInner select_field no_layouts j x = Unit {0}
IsDenseInner select_field (child l ls) j x = AllByRecursion (From l) (inner_if select_field j x) × IsDenseInner select_field ls (suc j) x

slot_from : (l : Layout) (c : List Slot) (o : ℕ) → o < length c → AllByRecursion (From l) c → From l (get_or c o null)
slot_from l [] o e h = absurd (omega arith)
slot_from l (x ∷ c) zero e h = h.0
slot_from l (x ∷ c) (suc o) e h = slot_from l c o (omega arith) h.1

dense_from_by : (l : Layout) (j i o : ℕ) (b : Bool) (cs : List (List Slot)) (c : List Slot) → nat_eq i j ≡ b → get_or cs j [] ≡ c → (i ≡ j → o < length c) → AllByRecursion (From l) c
    → AllByRecursion (From l) (cond b (get_or (get_or cs i []) o null ∷ []) [])
dense_from_by l j i o true cs c e at low h =
    let one : i ≡ j = eqb-true i j e in
    (subst (λ d. From l (get_or d o null)) (sym (ap (λ k. get_or cs k []) one ∙ at)) (slot_from l c o (low one) h), tt)
dense_from_by l j i o false cs c e at low h = tt

dense_from : (select_field : ℕ → ℕ) (l : Layout) (j : ℕ) (lens ts os : List ℕ) (cs : List (List Slot)) (c : List Slot) → get_or cs j [] ≡ c → get_or lens j 0 ≡ length c → AllNamed lens (map select_field ts) os → AllByRecursion (From l) c
    → AllByRecursion (λ x. AllByRecursion (From l) (inner_if select_field j x)) (dense_slots select_field ts os cs)
dense_from select_field l j lens [] os cs c at many n h = tt
dense_from select_field l j lens (t ∷ ts) [] cs c at many n h = tt
dense_from select_field l j lens (t ∷ ts) (o ∷ os) cs c at many n h = (
  dense_from_by l j (select_field t) o (nat_eq (select_field t) j) cs c refl at (λ e. let f : get_or lens (select_field t) 0 ≡ length c = ap (λ i. get_or lens i 0) e ∙ many in omega (arith, n.0)) h,
  dense_from select_field l j lens ts os cs c at many n.1 h,
)

denses_from : (select_field : ℕ → ℕ) (ls : Layouts) (j : ℕ) (lens ts os : List ℕ) (cols : List (List Slot)) → ((i : ℕ) → get_or cols (j + i) [] ≡ get_or (columns ls) i []) → ((i : ℕ) → get_or lens (j + i) 0 ≡ get_or (lengths_of ls) i 0)
    → AllNamed lens (map select_field ts) os → AreWellFormed (λ i. 0 ≤ i) ls → AllByRecursion (IsDenseInner select_field ls j) (dense_slots select_field ts os cols)
denses_from select_field no_layouts j lens ts os cols at many n w = all_any _ (λ x. tt) (dense_slots select_field ts os cols)
denses_from select_field (child l ls) j lens ts os cols at many n w =
    let here : get_or cols j [] ≡ denote l = ap (λ i. get_or cols i []) (omega arith) ∙ at 0 in
    let size : get_or lens j 0 ≡ length (denote l) = ap (λ i. get_or lens i 0) (omega arith) ∙ (many 0 ∙ sym (length-denote l w.1)) in
    all_both (λ x. AllByRecursion (From l) (inner_if select_field j x)) (IsDenseInner select_field ls (suc j)) (dense_slots select_field ts os cols)
    (dense_from select_field l j lens ts os cols (denote l) here size n (all_from l))
    (denses_from select_field ls (suc j) lens ts os cols (λ i. ap (λ k. get_or cols k []) (omega arith) ∙ at (suc i)) (λ i. ap (λ k. get_or lens k 0) (omega arith) ∙ many (suc i)) n w.2)

dense_fill_case : (l : Layout) (j i : ℕ) (b : Bool) (y : Slot) → nat_eq i j ≡ b → (i ≡ j → y ≡ fill (type_of l)) → AllByRecursion (From l) (cond b (y ∷ []) [])
dense_fill_case l j i true y e f = (inr (f (eqb-true i j e)), tt)
dense_fill_case l j i false y e f = tt

dense_fill : (select_field : ℕ → ℕ) (fs : FieldList) (ls : Layouts) (j n : ℕ) (y : Slot) → HaveTypes fs ls → ((i : ℕ) → select_field n ≡ j + i → y ≡ get_or (list_of_slots (fills fs)) i null) → IsDenseInner select_field ls j (chosen n y)
dense_fill select_field no_fields no_layouts j n y h f = tt
dense_fill select_field no_fields (child l ls) j n y h f = absurd h
dense_fill select_field (and_field g fs) no_layouts j n y h f = absurd h
dense_fill select_field (and_field (T.field name t b m) fs) (child l ls) j n y h f = (
  dense_fill_case l j (select_field n) (nat_eq (select_field n) j) y refl (λ e. f 0 (e ∙ omega arith) ∙ ap fill h.0),
  dense_fill select_field fs ls (suc j) n y h.1 (λ i e. f (suc i) (e ∙ omega arith)),
)

lens_on : (ns : List ℕ) (i : ℕ) → get_or ns (0 + i) 0 ≡ get_or ns i 0
lens_on ns i = let e : 0 + i ≡ i = omega arith in ap (λ k. get_or ns k 0) e

-- the filling of a union as its own type has it
union_filling : (fs : FieldList) (k i : ℕ) → k ≡ 0 + i → get_or (list_of_slots (fills fs)) k null ≡ get_or (list_of_slots (fills fs)) i null
union_filling fs k i e = let f : k ≡ i = omega arith in ap (λ n. get_or (list_of_slots (fills fs)) n null) f

mutual
  pub small_from : (l : Layout) → WellFormed l → (s : List Slot) → AllByRecursion (From l) s → Small (canon (type_of l) s)
  small_from (nulls t n) w s h = small_form t _ s w.of_form tt
  small_from (booleans t m vs) w s h = small_form t _ s w.0.of_form tt
  small_from (primitives t m vs) w s h = small_form t _ s w.0.of_form tt
  small_from (binaries t m os bs) w s h = small_form t _ s w.0.of_form tt
  small_from (fixed_size_binaries t m k n bs) w s h = small_form t _ s w.0.of_form tt
  small_from (views t m vs buffers) w s h = small_form t _ s w.0.of_form tt
  small_from (lists t m os l) w s h =
      let d : List Slot = [] in
      let q : AllByRecursion (λ x. AllByRecursion (From l) (items_or d x)) s =
      all_weaker (From (lists t m os l)) (λ x. AllByRecursion (From l) (items_or d x))
      (from_all (λ x. AllByRecursion (From l) (items_or d x)) (lists t m os l)
      (items_from (From l) d tt m _ (all_pieces (From l) (map nat_of os) (denote l) (all_from l)))
      (filled (λ y. AllByRecursion (From l) (items_or d y)) t _ w.0.of_form tt)) s h in
      small_form t _ s w.0.of_form (small_from l w.2 (flat_map (items_or d) s) (all_flat_map (λ x. AllByRecursion (From l) (items_or d x)) (From l) (items_or d) (λ x k. k) s q))
  small_from (fixed_size_lists t m k n l) w s h =
      let d : List Slot = replicate k (fill (type_of l)) in
      let df : AllByRecursion (From l) d = all_replicate (From l) k (fill (type_of l)) (inr refl) in
      let q : AllByRecursion (λ x. AllByRecursion (From l) (items_or d x)) s =
      all_weaker (From (fixed_size_lists t m k n l)) (λ x. AllByRecursion (From l) (items_or d x))
      (from_all (λ x. AllByRecursion (From l) (items_or d x)) (fixed_size_lists t m k n l)
      (items_from (From l) d df m _ (all_chunk (From l) k n (denote l) (all_from l)))
      (filled (λ y. AllByRecursion (From l) (items_or d y)) t _ w.0.of_form df)) s h in
      small_form t _ s w.0.of_form (small_from l w.2 (flat_map (items_or d) s) (all_flat_map (λ x. AllByRecursion (From l) (items_or d x)) (From l) (items_or d) (λ x z. z) s q))
  small_from (structs t m n ls) w s h =
      let fs = fields_by (form_of t) in
      let d = fills fs in
      let q : AllByRecursion (λ x. AreFrom ls (parts_or d x)) s =
      all_weaker (From (structs t m n ls)) (λ x. AreFrom ls (parts_or d x))
      (from_all (λ x. AreFrom ls (parts_or d x)) (structs t m n ls)
      (all_masked (λ x. AreFrom ls (parts_or d x)) (fills_from fs ls w.1) m _ (all_map (AreFrom ls) (λ x. AreFrom ls (parts_or d x)) parts (λ r z. z) (rows n ls) (rows_from n ls)))
      (filled (λ y. AreFrom ls (parts_or d y)) t _ w.0.of_form (fills_from fs ls w.1))) s h in
      small_form t _ s w.0.of_form (parts_small fs n ls w.1 w.2 (map (parts_or d) s) (all_map (λ x. AreFrom ls (parts_or d x)) (AreFrom ls) (parts_or d) (λ x z. z) s q))
  small_from (sparse_unions t o ts ls) w s h =
      let select_field = select (ids_by (form_of t)) in
      let fs = fields_by (form_of t) in
      let q : AllByRecursion (IsInner select_field ls 0) s =
      all_weaker (From (sparse_unions t o ts ls)) (IsInner select_field ls 0)
      (from_all (IsInner select_field ls 0) (sparse_unions t o ts ls)
      (inners_from select_field ls o 0 (map nat_of ts) (map (drop o) (columns ls)) (get_dropped_by o (columns ls)) (subst (λ n. AreWellFormed (λ i. o + n ≤ i) ls) (sym (length-map ts nat_of)) w.4))
      (filled (λ y. IsInner select_field ls 0 y) t _ w.0.of_form (fill_inner select_field fs ls 0 _ _ w.3 (λ i e. union_filling fs _ i e)))) s h in
      small_form t _ s w.0.of_form (chosen_small select_field fs (o + length ts) ls w.3 w.4 0 s q)
  small_from (dense_unions t o ts os ls) w s h =
      let select_field = select (ids_by (form_of t)) in
      let fs = fields_by (form_of t) in
      let q : AllByRecursion (IsDenseInner select_field ls 0) s =
      all_weaker (From (dense_unions t o ts os ls)) (IsDenseInner select_field ls 0)
      (from_all (IsDenseInner select_field ls 0) (dense_unions t o ts os ls)
      (denses_from select_field ls 0 (lengths_of ls) (map nat_of ts) (map nat_of os) (columns ls) (zero_on (columns ls)) (lens_on (lengths_of ls)) w.4 w.6)
      (filled (λ y. IsDenseInner select_field ls 0 y) t _ w.0.of_form (dense_fill select_field fs ls 0 _ _ w.5 (λ i e. union_filling fs _ i e)))) s h in
      small_form t _ s w.0.of_form (dense_small select_field fs ls w.5 w.6 0 s q)
  small_from (dictionaries t u m ks l) w s h =
      let k = key_by (form_of t) in
      let v = value_by (form_of t) in
      let cap = key_capacity k in
      let P : Slot → Type 0 = λ x. is_valid x ≡ true → IsIn (take cap (denote l)) x in
      let q : AllByRecursion P s =
      all_weaker (From (dictionaries t u m ks l)) P
      (from_all P (dictionaries t u m ks l)
      (all_masked P (λ z. absurd (false≢true z)) m _ (keys_from cap ks (denote l) (all_weaker (InRange (key_range k)) (λ z. nat_of z < cap) (low_key k) ks w.2)))
      (filled P t _ w.0.of_form (λ z. absurd (false≢true z)))) s h in
      let few_values : length (distinct s) ≤ cap = few_taken cap (distinct s) (denote l) (none_twice [] s tt) (all_distinct (IsIn (take cap (denote l))) [] s tt q) in
      let values_from : AllByRecursion (From l) (distinct s) = all_distinct (From l) [] s tt (all_weaker P (λ x. is_valid x ≡ true → From l x) (λ x z y. inl (from_take cap (denote l) x (z y))) s q) in
      small_form t _ s w.0.of_form
      (subst (λ n. n ≤ cap) (sym (length-canon v (distinct s))) few_values, small_logical v (type_of l) (distinct s) w.4 (small_from l w.5 (distinct s) values_from))

  parts_small : (fs : FieldList) (n : ℕ) (ls : Layouts) → HaveTypes fs ls → AreWellFormed (λ i. i ≡ n) ls → (rs : List Slots) → AllByRecursion (AreFrom ls) rs → AllSmall (canon_parts fs rs)
  parts_small no_fields n no_layouts h w rs k = tt
  parts_small no_fields n (child l ls) h w rs k = absurd h
  parts_small (and_field f fs) n no_layouts h w rs k = absurd h
  parts_small (and_field (T.field name t b m) fs) n (child l ls) h w rs k = (
    subst (λ u. Small (canon u (map (first_or (fill u)) rs))) (sym h.0)
        (small_from l w.1 (map (first_or (fill (type_of l))) rs) (all_map (AreFrom (child l ls)) (From l) (first_or (fill (type_of l))) (λ r z. z.0) rs k)),
    parts_small fs n ls h.1 w.2 (map after_first rs) (all_map (AreFrom (child l ls)) (AreFrom ls) after_first (λ r z. z.1) rs k),
  )

  chosen_small : (select_field : ℕ → ℕ) (fs : FieldList) (n : ℕ) (ls : Layouts) → HaveTypes fs ls → AreWellFormed (λ i. n ≤ i) ls → (j : ℕ) (s : List Slot) → AllByRecursion (IsInner select_field ls j) s → AllSmall (canon_chosen select_field fs j s)
  chosen_small select_field no_fields n no_layouts h w j s k = tt
  chosen_small select_field no_fields n (child l ls) h w j s k = absurd h
  chosen_small select_field (and_field f fs) n no_layouts h w j s k = absurd h
  chosen_small select_field (and_field (T.field name t b m) fs) n (child l ls) h w j s k = (
    subst (λ u. Small (canon u (map (inner_or select_field (fill u) j) s))) (sym h.0)
        (small_from l w.1 (map (inner_or select_field (fill (type_of l)) j) s) (all_map (IsInner select_field (child l ls) j) (From l) (inner_or select_field (fill (type_of l)) j) (λ r z. z.0) s k)),
    chosen_small select_field fs n ls h.1 w.2 (suc j) s (all_weaker (IsInner select_field (child l ls) j) (IsInner select_field ls (suc j)) (λ x z. z.1) s k),
  )

  dense_small : (select_field : ℕ → ℕ) (fs : FieldList) (ls : Layouts) → HaveTypes fs ls → AreWellFormed (λ i. 0 ≤ i) ls → (j : ℕ) (s : List Slot) → AllByRecursion (IsDenseInner select_field ls j) s → AllSmall (canon_dense select_field fs j s)
  dense_small select_field no_fields no_layouts h w j s k = tt
  dense_small select_field no_fields (child l ls) h w j s k = absurd h
  dense_small select_field (and_field f fs) no_layouts h w j s k = absurd h
  dense_small select_field (and_field (T.field name t b m) fs) (child l ls) h w j s k = (
    subst (λ u. Small (canon u (flat_map (inner_if select_field j) s))) (sym h.0)
        (small_from l w.1 (flat_map (inner_if select_field j) s) (all_flat_map (IsDenseInner select_field (child l ls) j) (From l) (inner_if select_field j) (λ r z. z.0) s k)),
    dense_small select_field fs ls h.1 w.2 (suc j) s (all_weaker (IsDenseInner select_field (child l ls) j) (IsDenseInner select_field ls (suc j)) (λ x z. z.1) s k),
  )

pub small-denote : (l : Layout) → WellFormed l → Small (canon (type_of l) (denote l))
small-denote l w = small_from l w (denote l) (all_from l)
