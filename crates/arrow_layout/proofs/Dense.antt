-- Dense unions denote what they are made from, and are what their slots make.
use Rattle.std.proofs.Common.{Bool, List, [], ap, append_assoc, ap₂, arith, cond, drop, drop_of_length-le, false, flat_map, get_or, length, length-append, map, nat_eq, refl, subst, suc, sym, take, true, zero, ℕ, ◌++◌, ◌+◌, ◌<◌, ◌∙◌, ◌∷◌, ◌≡◌}
use Rattle.std.proofs.lemmas.Bool.{eq-eqb, eqb-true}
use Rattle.std.proofs.lemmas.List.{drop_more}
use Rattle.std.proofs.lemmas.List.Concat.{flat_map-append}
use Rattle.std.specs.List.{AllByRecursion}
use Rattle.arrow_types.specs.TypeData.{FieldList, and_field, no_fields}
use Rattle.arrow_flat.specs.Slots.{Slot, bool, bytes, chosen, items, null, num, parts}
use Rattle.arrow_layout.specs.Canon.{occurrences, counts_after, inner_if, number_chosen}
use Rattle.arrow_layout.specs.Denote.{dense_slots}
use Rattle.arrow_layout.specs.SlotsOf.{IsPart, IsUnionSlot}
use Rattle.arrow_layout.specs.WellFormed.{AllNamed}
use Rattle.arrow_flat.proofs.Lists.{all_weaker}
use Rattle.arrow_layout.proofs.Unions.{IsOfFields, dense_columns}
use Rattle.arrow_types.specs.TypeData as T

get_after : {A : Type 0} (front more : List A) (x d : A) (n : ℕ) → length front ≡ n → get_or (front ++ x ∷ more) n d ≡ x
get_after [] more x d zero e = refl
get_after [] more x d (suc n) e = absurd (omega arith)
get_after (y ∷ front) more x d zero e = absurd (omega arith)
get_after (y ∷ front) more x d (suc n) e = get_after front more x d n (omega arith)

count_one : (t u : ℕ) (x : Slot) (b : Bool) (n : ℕ) (front : List Slot) → n ≡ length front → cond b (suc n) n ≡ length (cond b (x ∷ []) [] ++ front)
count_one t u x true n front e = ap suc e
count_one t u x false n front e = e

count_snoc : (j t : ℕ) (us : List ℕ) → occurrences j (us ++ t ∷ []) ≡ occurrences j us + occurrences j (t ∷ [])
count_snoc j t [] = sym (omega arith)
count_snoc j t (u ∷ us) = by (nat_eq u j) (count_snoc j t us) where
  by : (b : Bool) → occurrences j (us ++ t ∷ []) ≡ occurrences j us + occurrences j (t ∷ []) → cond b (suc (occurrences j (us ++ t ∷ []))) (occurrences j (us ++ t ∷ [])) ≡ cond b (suc (occurrences j us)) (occurrences j us) + occurrences j (t ∷ [])
  by true e = omega arith
  by false e = e

count_append : (j : ℕ) (us vs : List ℕ) → occurrences j (us ++ vs) ≡ occurrences j us + occurrences j vs
count_append j [] vs = sym (omega arith)
count_append j (u ∷ us) vs = by (nat_eq u j) (count_append j us vs) where
  by : (b : Bool) → occurrences j (us ++ vs) ≡ occurrences j us + occurrences j vs → cond b (suc (occurrences j (us ++ vs))) (occurrences j (us ++ vs)) ≡ cond b (suc (occurrences j us)) (occurrences j us) + occurrences j vs
  by true e = omega arith
  by false e = e

count_here : (j t : ℕ) (us : List ℕ) (b : Bool) → nat_eq t j ≡ b → occurrences j (t ∷ us) ≡ cond b (suc (occurrences j us)) (occurrences j us)
count_here j t us b e = ap (λ c. cond c (suc (occurrences j us)) (occurrences j us)) e

map-snoc : {A B : Type 0} (f : A → B) (xs : List A) (x : A) → map f xs ++ f x ∷ [] ≡ map f (xs ++ x ∷ [])
map-snoc f [] x = refl
map-snoc f (y ∷ xs) x = ap (λ ys. f y ∷ ys) (map-snoc f xs x)

all_snoc : (P : Slot → Type 0) (xs : List Slot) (x : Slot) → AllByRecursion P xs → P x → AllByRecursion P (xs ++ x ∷ [])
all_snoc P [] x h k = (k, tt)
all_snoc P (y ∷ xs) x h k = (h.0, all_snoc P xs x h.1 k)

pub length-counts : (before ts : List ℕ) → length (counts_after before ts) ≡ length ts
length-counts before [] = refl
length-counts before (t ∷ ts) = ap suc (length-counts (before ++ t ∷ []) ts)

pub length-named : (lens is os : List ℕ) → AllNamed lens is os → length os ≡ length is
length-named lens [] [] h = refl
length-named lens [] (o ∷ os) h = absurd h
length-named lens (t ∷ ts) [] h = absurd h
length-named lens (t ∷ ts) (o ∷ os) h = ap suc (length-named lens ts os h.1)

abbrev pub IsUnion : Slot → Type 0
IsUnion x = IsUnionSlot (λ t y. Unit {0}) x

module _ (select_field : ℕ → ℕ) where
  -- the positions of the fields that slots select
  abbrev pub places : List Slot → List ℕ
  places s = map select_field (map number_chosen s)

  -- the positions that are i are as many as the inner slots
  pub count_inner : (i : ℕ) (s : List Slot) → AllByRecursion IsUnion s → occurrences i (places s) ≡ length (flat_map (inner_if select_field i) s)
  count_inner i [] h = refl
  count_inner i (chosen u x ∷ s) h = count_one i (select_field u) x (nat_eq (select_field u) i) (occurrences i (places s)) (flat_map (inner_if select_field i) s) (count_inner i s h.1)
  count_inner i (null ∷ s) h = absurd h.0
  count_inner i (bool z ∷ s) h = absurd h.0
  count_inner i (num z ∷ s) h = absurd h.0
  count_inner i (bytes z ∷ s) h = absurd h.0
  count_inner i (items z ∷ s) h = absurd h.0
  count_inner i (parts z ∷ s) h = absurd h.0

  place-snoc : (xs : List Slot) (x : Slot) → places xs ++ select_field (number_chosen x) ∷ [] ≡ places (xs ++ x ∷ [])
  place-snoc xs x = map-snoc select_field (map number_chosen xs) (number_chosen x) ∙ ap (map select_field) (map-snoc number_chosen xs x)

  itself : (t : ℕ) (x : Slot) → inner_if select_field (select_field t) (chosen t x) ≡ x ∷ []
  itself t x = rw (eq-eqb (select_field t) (select_field t) refl) refl

  -- the columns hold the inner slots of the whole list
  abbrev pub Holds : List (List Slot) → List Slot → Slot → Type 0
  Holds cs all x = IsUnionSlot (λ t y. get_or cs (select_field t) [] ≡ flat_map (inner_if select_field (select_field t)) all) x

  dense_after : (front s : List Slot) (cs : List (List Slot)) → AllByRecursion IsUnion front → AllByRecursion (Holds cs (front ++ s)) s
      → dense_slots select_field (map number_chosen s) (counts_after (places front) (places s)) cs ≡ s
  dense_after front [] cs f h = refl
  dense_after front (chosen t y ∷ s) cs f h =
      let i = select_field t in
      let whole : flat_map (inner_if select_field i) (front ++ chosen t y ∷ s) ≡ flat_map (inner_if select_field i) front ++ y ∷ flat_map (inner_if select_field i) s =
      flat_map-append (inner_if select_field i) front (chosen t y ∷ s) ∙ ap (λ ys. flat_map (inner_if select_field i) front ++ (ys ++ flat_map (inner_if select_field i) s)) (itself t y) in
      let here : get_or (get_or cs i []) (occurrences i (places front)) null ≡ y =
      ap (λ c. get_or c (occurrences i (places front)) null) (h.0 ∙ whole) ∙ get_after (flat_map (inner_if select_field i) front) (flat_map (inner_if select_field i) s) y null _ (sym (count_inner i front f)) in
      let next : front ++ chosen t y ∷ s ≡ (front ++ chosen t y ∷ []) ++ s = sym (append_assoc front (chosen t y ∷ []) s) in
      ap₂ (λ x xs. x ∷ xs) (ap (chosen t) here)
      (rw (place-snoc front (chosen t y)) (dense_after (front ++ chosen t y ∷ []) s cs (all_snoc IsUnion front (chosen t y) f tt) (subst (λ all. AllByRecursion (Holds cs all) s) next h.1)))
  dense_after front (null ∷ s) cs f h = absurd h.0
  dense_after front (bool z ∷ s) cs f h = absurd h.0
  dense_after front (num z ∷ s) cs f h = absurd h.0
  dense_after front (bytes z ∷ s) cs f h = absurd h.0
  dense_after front (items z ∷ s) cs f h = absurd h.0
  dense_after front (parts z ∷ s) cs f h = absurd h.0

  get_column : (fs : FieldList) (j i : ℕ) (y : Slot) (s : List Slot) → IsPart fs i y → get_or (dense_columns select_field fs j s) i [] ≡ flat_map (inner_if select_field (j + i)) s
  get_column no_fields j i y s h = absurd h
  get_column (and_field (T.field n t b m) fs) j zero y s h = let e : j ≡ j + 0 = omega arith in ap (λ k. flat_map (inner_if select_field k) s) e
  get_column (and_field (T.field n t b m) fs) j (suc i) y s h = let e : suc j + i ≡ j + suc i = omega arith in get_column fs (suc j) i y s h ∙ ap (λ k. flat_map (inner_if select_field k) s) e

  holds : (fs : FieldList) (all : List Slot) (x : Slot) → IsOfFields select_field fs x → Holds (dense_columns select_field fs 0 all) all x
  holds fs all (chosen t y) h = let e : 0 + select_field t ≡ select_field t = omega arith in get_column fs 0 (select_field t) y all h ∙ ap (λ k. flat_map (inner_if select_field k) all) e
  holds fs all _ h = absurd h

  -- the case of `denote_canon`, once the children denote the columns
  pub dense_case : (fs : FieldList) (s : List Slot) → AllByRecursion (IsOfFields select_field fs) s
      → dense_slots select_field (map number_chosen s) (counts_after [] (places s)) (dense_columns select_field fs 0 s) ≡ s
  dense_case fs s h = dense_after [] s (dense_columns select_field fs 0 s) tt (all_weaker (IsOfFields select_field fs) (Holds (dense_columns select_field fs 0 s) s) (holds fs s) s h)

  column_step : (j t : ℕ) (before is : List ℕ) (cs : List (List Slot)) (col others : List Slot) (b : Bool) → nat_eq (select_field t) j ≡ b → get_or cs j [] ≡ col
      → length col ≡ occurrences j (before ++ select_field t ∷ is) → others ≡ drop (occurrences j (before ++ select_field t ∷ [])) col
      → cond b (get_or (get_or cs (select_field t) []) (occurrences (select_field t) before) null ∷ []) [] ++ others ≡ drop (occurrences j before) col
  column_step j t before is cs col others true e at l k =
      let i = select_field t in
      let same : i ≡ j = eqb-true i j e in
      let n : length col ≡ occurrences j before + suc (occurrences j is) = l ∙ (count_append j before (i ∷ is) ∙ ap (λ m. occurrences j before + m) (count_here j i is true e)) in
      let next : occurrences j (before ++ i ∷ []) ≡ occurrences j before + 1 = count_append j before (i ∷ []) ∙ ap (λ m. occurrences j before + m) (count_here j i [] true e) in
      let within : occurrences j before < length col = omega arith in
      ap₂ (λ x xs. x ∷ xs) (ap₂ (λ c m. get_or c m null) (ap (λ m. get_or cs m []) same ∙ at) (ap (λ m. occurrences m before) same)) (k ∙ ap (λ m. drop m col) next)
      ∙ sym (drop_more col (occurrences j before) null within)
  column_step j t before is cs col others false e at l k =
      let i = select_field t in
      let next : occurrences j (before ++ i ∷ []) ≡ occurrences j before = count_append j before (i ∷ []) ∙ (ap (λ m. occurrences j before + m) (count_here j i [] false e) ∙ omega arith) in
      k ∙ ap (λ m. drop m col) next

  -- the inner slots that select j are the column, from those that came before on
  column_after : (j : ℕ) (before ts : List ℕ) (cs : List (List Slot)) (col : List Slot) → get_or cs j [] ≡ col → length col ≡ occurrences j (before ++ map select_field ts)
      → flat_map (inner_if select_field j) (dense_slots select_field ts (counts_after before (map select_field ts)) cs) ≡ drop (occurrences j before) col
  column_after j before [] cs col at e = sym (drop_of_length-le col (omega (arith, e, count_append j before [])))
  column_after j before (t ∷ ts) cs col at e =
      column_step j t before (map select_field ts) cs col _ (nat_eq (select_field t) j) refl at e
      (column_after j (before ++ select_field t ∷ []) ts cs col at (e ∙ ap (occurrences j) (sym (append_assoc before (select_field t ∷ []) (map select_field ts)))))

  -- a column is what the slots of the union that select it hold
  pub column_is : (j : ℕ) (ts : List ℕ) (cs : List (List Slot)) (col : List Slot) → get_or cs j [] ≡ col → length col ≡ occurrences j (map select_field ts)
      → flat_map (inner_if select_field j) (dense_slots select_field ts (counts_after [] (map select_field ts)) cs) ≡ col
  column_is j ts cs col at e = column_after j [] ts cs col at e

  pub dense_numbers : (ts os : List ℕ) (cs : List (List Slot)) → length os ≡ length ts → map number_chosen (dense_slots select_field ts os cs) ≡ ts
  dense_numbers [] os cs e = refl
  dense_numbers (t ∷ ts) [] cs e = absurd (omega arith)
  dense_numbers (t ∷ ts) (o ∷ os) cs e = ap (λ us. t ∷ us) (dense_numbers ts os cs (omega arith))

  pub length-dense : (ts os : List ℕ) (cs : List (List Slot)) → length os ≡ length ts → length (dense_slots select_field ts os cs) ≡ length ts
  length-dense [] os cs e = refl
  length-dense (t ∷ ts) [] cs e = absurd (omega arith)
  length-dense (t ∷ ts) (o ∷ os) cs e = ap suc (length-dense ts os cs (omega arith))

  -- each offset is below the length of its column
  pub named_after : (lens : List ℕ) (front s : List Slot) → AllByRecursion IsUnion front
      → AllByRecursion (λ x. IsUnionSlot (λ t y. get_or lens (select_field t) 0 ≡ length (flat_map (inner_if select_field (select_field t)) (front ++ s))) x) s
      → AllNamed lens (places s) (counts_after (places front) (places s))
  named_after lens front [] f h = tt
  named_after lens front (chosen t y ∷ s) f h =
      let i = select_field t in
      let whole : flat_map (inner_if select_field i) (front ++ chosen t y ∷ s) ≡ flat_map (inner_if select_field i) front ++ y ∷ flat_map (inner_if select_field i) s =
      flat_map-append (inner_if select_field i) front (chosen t y ∷ s) ∙ ap (λ ys. flat_map (inner_if select_field i) front ++ (ys ++ flat_map (inner_if select_field i) s)) (itself t y) in
      let many : length (flat_map (inner_if select_field i) (front ++ chosen t y ∷ s)) ≡ length (flat_map (inner_if select_field i) front) + suc (length (flat_map (inner_if select_field i) s)) =
      ap length whole ∙ length-append (flat_map (inner_if select_field i) front) (y ∷ flat_map (inner_if select_field i) s) in
      let next : front ++ chosen t y ∷ s ≡ (front ++ chosen t y ∷ []) ++ s = sym (append_assoc front (chosen t y ∷ []) s) in (
        omega (arith, count_inner i front f, h.0, many),
        rw (place-snoc front (chosen t y)) (named_after lens (front ++ chosen t y ∷ []) s (all_snoc IsUnion front (chosen t y) f tt)
            (subst (λ all. AllByRecursion (λ x. IsUnionSlot (λ u z. get_or lens (select_field u) 0 ≡ length (flat_map (inner_if select_field (select_field u)) all)) x) s) next h.1)),
      )
  named_after lens front (null ∷ s) f h = absurd h.0
  named_after lens front (bool z ∷ s) f h = absurd h.0
  named_after lens front (num z ∷ s) f h = absurd h.0
  named_after lens front (bytes z ∷ s) f h = absurd h.0
  named_after lens front (items z ∷ s) f h = absurd h.0
  named_after lens front (parts z ∷ s) f h = absurd h.0

  pub take-dense : (n : ℕ) (ts os : List ℕ) (cs : List (List Slot)) → dense_slots select_field (take n ts) (take n os) cs ≡ take n (dense_slots select_field ts os cs)
  take-dense zero ts os cs = refl
  take-dense (suc n) [] os cs = refl
  take-dense (suc n) (t ∷ ts) [] cs = refl
  take-dense (suc n) (t ∷ ts) (o ∷ os) cs = ap (λ xs. chosen t (get_or (get_or cs (select_field t) []) o null) ∷ xs) (take-dense n ts os cs)

  pub drop-dense : (n : ℕ) (ts os : List ℕ) (cs : List (List Slot)) → length os ≡ length ts → dense_slots select_field (drop n ts) (drop n os) cs ≡ drop n (dense_slots select_field ts os cs)
  drop-dense zero ts os cs e = refl
  drop-dense (suc n) [] os cs e = refl
  drop-dense (suc n) (t ∷ ts) [] cs e = absurd (omega arith)
  drop-dense (suc n) (t ∷ ts) (o ∷ os) cs e = drop-dense n ts os cs (omega arith)
