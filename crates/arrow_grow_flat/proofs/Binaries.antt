-- The values of a growable of binary values or of strings.
use Rattle.std.proofs.Common.{◌≡◌, ℕ, zero, suc, ◌+◌, ◌<◌, ◌≤◌, ◌^◌, ◌%◌, ℤ, Bool, true, false, cond, List, [], ◌∷◌, ◌++◌, map, length, sum, replicate, Ok, Err, Option, Some, None, refl, ap, ap₂, sym, ◌∙◌, subst, arith, length-append}
use Rattle.std.specs.List.{concat}
use Rattle.std.specs.Prelude.{⊤, pred, Result, IsErrAnd}
use Rattle.std.proofs.lemmas.List.{map-append, length-map}
use Rattle.std.proofs.lemmas.List.Sums.{sum_by-cons}
use Rattle.arrow_buffers.specs.Bits.{Bits}
use Rattle.arrow_buffers.specs.Offsets.{AreOffsets, to_nat}
use Rattle.arrow_types.specs.Seen.{seen}
use Rattle.arrow_types.specs.Select.{nat_of}
use Rattle.arrow_types.specs.TypeData.{TypeData}
use Rattle.arrow_types.specs.Types.{physical_of}
use Rattle.arrow_types.specs.declared.error.GrowError.{GrowError}
use Rattle.arrow_types.specs.declared.error.GrowError.TheVariants as error
use Rattle.arrow_bytes.specs.Binaries.{Binaries, layout_in, values_between, values_of}
use Rattle.arrow_flat.specs.Natives.{octets}
use Rattle.arrow_flat.specs.Pieces.{pieces, AreTextsIf}
use Rattle.arrow_flat.specs.Slots.{Slot, null, bool, num, bytes, items, parts, chosen, is_valid}
use Rattle.arrow_layout.specs.Canon.{bytes_or, offsets}
use Rattle.arrow_layout.specs.Canonical.{AllUnset}
use Rattle.arrow_layout.specs.Cut.{part}
use Rattle.arrow_layout.specs.Denote.{denote, masked, masked_by, binary_slots}
use Rattle.arrow_layout.specs.Forms.{form_of, binaries_of}
use Rattle.arrow_layout.specs.Plain.{IsPlainMask}
use Rattle.arrow_layout.specs.WellFormed.{mask_bits}
use Rattle.arrow_layout.proofs.Lengths.{length-pieces}
use Rattle.arrow_meaning.specs.Nodes.{binary_layout}
use Rattle.arrow_meaning.proofs.FlatKinds.{flat_form}
use Rattle.arrow_meaning.proofs.Octets.{octets_count, pieces_map}
use Rattle.arrow_grow_flat.specs.Kinds.{binary_values, AreBinaryValues}
use Rattle.arrow_grow_flat.specs.Spans.{AppendsValues, AreJoined, empty_at_nulls, empty_at_unset, EndRefused, slot_values}
use Rattle.arrow_grow_flat.specs.Values.{GrowsValues, IsOf, StatesNulls, StandsFor, StandFor, Values}
use Rattle.arrow_grow_flat.proofs.JoinedSpans.{end_below, end_is, join_texts, length-joined}
use Rattle.arrow_grow_flat.proofs.Rooms.{room_to, room_from, weight}
use Rattle.arrow_grow_flat.proofs.SourceSlots.{part-map}
use Rattle.arrow_grow_flat.proofs.Stands.{stand_join, stand_length, stand_part}

-- nothing stands under a null
abbrev pub Empty : Slot → Type 0
Empty x = x ≡ bytes []

abbrev pub value_slots : List (List ℕ) → List Slot
value_slots xs = map bytes (map octets xs)

-- ---- how many bytes slots have

sum_cons : (n : ℕ) (ns : List ℕ) → sum (n ∷ ns) ≡ n + sum ns
sum_cons n ns = sum_by-cons (λ x. x) n ns

abbrev size : Slot → ℕ
size x = length (bytes_or [] x)

weight_cons : (x : Slot) (s : List Slot) → weight (x ∷ s) ≡ size x + weight s
weight_cons x s = sum_cons (size x) (map size s)

one_size : (v x : Slot) → StandsFor Empty v x → size x ≡ size v
one_size v null s = let e : v ≡ bytes [] = s.blank refl in sym (ap size e)
one_size v (bool b) s = ap size (sym (s.same refl))
one_size v (num zs) s = ap size (sym (s.same refl))
one_size v (bytes bs) s = ap size (sym (s.same refl))
one_size v (items xs) s = ap size (sym (s.same refl))
one_size v (parts xs) s = ap size (sym (s.same refl))
one_size v (chosen t x) s = ap size (sym (s.same refl))

weight_stand : (vs s : List Slot) → StandFor Empty vs s → weight s ≡ weight vs
weight_stand [] [] h = refl
weight_stand [] (x ∷ s) h = absurd h
weight_stand (v ∷ vs) [] h = absurd h
weight_stand (v ∷ vs) (x ∷ s) h = weight_cons x s ∙ ap₂ (λ m n. m + n) (one_size v x h.0) (weight_stand vs s h.1) ∙ sym (weight_cons v vs)

weight_values : (xs : List (List ℕ)) → weight (value_slots xs) ≡ length (concat xs)
weight_values [] = refl
weight_values (x ∷ xs) =
    weight_cons (bytes (octets x)) (value_slots xs) ∙ ap₂ (λ m n. m + n) (octets_count x) (weight_values xs)
    ∙ sym (length-append x (concat xs))

-- ---- the values of an array stand for its slots

one_stands : (b : Bool) (x : List ℕ) → StandsFor Empty (bytes (octets (cond b x []))) (cond b (bytes (octets x)) null)
one_stands true x = record { same = λ h. refl; blank = λ h. absurd (cc) }
one_stands false x = record { same = λ h. absurd (cc); blank = λ h. refl }

values_stand : (xs : List (List ℕ)) → StandFor Empty (value_slots xs) (value_slots xs)
values_stand [] = tt
values_stand (x ∷ xs) = (record { same = λ h. refl; blank = λ h. absurd (cc) }, values_stand xs)

emptied_stand : (bits : List Bool) (xs : List (List ℕ)) → StandFor Empty (value_slots (empty_at_unset bits xs)) (masked_by bits (value_slots xs))
emptied_stand [] xs = values_stand xs
emptied_stand (b ∷ bits) [] = tt
emptied_stand (b ∷ bits) (x ∷ xs) = (one_stands b x, emptied_stand bits xs)

masked_stand : (m : Option Bits) (xs : List (List ℕ)) → StandFor Empty (value_slots (empty_at_nulls m xs)) (masked m (value_slots xs))
masked_stand None xs = values_stand xs
masked_stand (Some b) xs = emptied_stand b.bits xs

slots_are : {O : Type 0} (number : O → ℤ) (os : List O) (bs : List ℕ) → binary_slots (map number os) (octets bs) ≡ value_slots (values_between number os bs)
slots_are number os bs = ap (map bytes) (pieces_map (λ b. b % 256) (map nat_of (map number os)) bs)

pub run_stands : {O : Type 0} (number : O → ℤ) (a : Binaries O) (o n : ℕ) → StandFor Empty (value_slots (part o n (slot_values number a))) (part o n (denote (binary_layout number a)))
run_stands number a o n =
    let all = masked_stand a.mask (values_of number a) in
    let whole = subst (λ ys. StandFor Empty (value_slots (slot_values number a)) (masked a.mask ys)) (sym (slots_are number a.offsets a.values)) all in
    subst (λ ys. StandFor Empty ys (part o n (denote (binary_layout number a))))
    (part-map bytes o n (map octets (slot_values number a)) ∙ ap (map bytes) (part-map octets o n (slot_values number a)))
    (stand_part Empty o n (value_slots (slot_values number a)) (denote (binary_layout number a)) whole)

pub nulls_stand : (n : ℕ) → StandFor Empty (value_slots (replicate n [])) (replicate n null)
nulls_stand zero = tt
nulls_stand (suc n) = (record { same = λ h. absurd (cc); blank = λ h. refl }, nulls_stand n)

pub count_values : {O : Type 0} (number : O → ℤ) (os : List O) (bs : List ℕ) → length (binary_slots (map number os) (octets bs)) ≡ pred (length os)
count_values number os bs =
    length-map (pieces (map nat_of (map number os)) (octets bs)) bytes ∙ length-pieces (map number os) (octets bs) ∙ ap pred (length-map os number)

pub pred_of : (n m : ℕ) → n + 1 ≡ m → n ≡ pred m
pred_of n m e = let q : suc n ≡ n + 1 = omega arith in ap pred (q ∙ e)

pub joined_below : {O : Type 0} (number : O → ℤ) (limit : ℕ) (os : List O) (bs : List ℕ) → AreJoined number os bs → AreOffsets limit (map number os) → length bs < limit
joined_below number limit os bs f h = omega (arith, end_is number os bs f, end_below limit (map number os) h)

-- ---- the array of the values

one_tidy : (z : List ℕ) (x : Slot) (b : Bool) (zs : List (List ℕ)) (bits : List Bool) → is_valid x ≡ b → StandsFor Empty (bytes z) x → AllUnset (λ v. v ≡ []) bits zs → AllUnset (λ v. v ≡ []) (b ∷ bits) (z ∷ zs)
one_tidy z x true zs bits e s h = h
one_tidy z x false zs bits e s h = (let q : bytes z ≡ bytes [] = s.blank e in ap (bytes_or []) q, h)

some_tidy : (zs : List (List ℕ)) (s : List Slot) → StandFor Empty (map bytes zs) s → AllUnset (λ v. v ≡ []) (map is_valid s) zs
some_tidy [] [] h = tt
some_tidy [] (x ∷ s) h = absurd h
some_tidy (z ∷ zs) [] h = absurd h
some_tidy (z ∷ zs) (x ∷ s) h = one_tidy z x (is_valid x) zs (map is_valid s) refl h.0 (some_tidy zs s h.1)

all_tidy : (n : ℕ) (zs : List (List ℕ)) → AllUnset (λ v. v ≡ []) (replicate n true) zs
all_tidy zero zs = tt
all_tidy (suc n) [] = tt
all_tidy (suc n) (z ∷ zs) = all_tidy n zs

tidy_by : (m : Option Bits) (n : ℕ) (zs : List (List ℕ)) (s : List Slot) → StandFor Empty (map bytes zs) s → StatesNulls m s → AllUnset (λ v. v ≡ []) (mask_bits m n) zs
tidy_by None n zs s st h = all_tidy n zs
tidy_by (Some b) n zs s st h = subst (λ bits. AllUnset (λ v. v ≡ []) bits zs) (sym h) (some_tidy zs s st)

pub made : {O : Type 0} (number : O → ℤ) (t : TypeData) (arrays : List (Binaries O)) (os : List O) (bs : List ℕ) (m : Option Bits) (b : Binaries O)
    → seen b.dtype ≡ t → b.offsets ≡ os → b.values ≡ bs → b.mask ≡ m → IsOf Empty m (binary_values number t arrays os bs) (binary_layout number b)
made number t arrays os bs m b dtype offsets values mask =
    let same : binary_slots (map number b.offsets) (octets b.values) ≡ binary_slots (map number os) (octets bs) = ap₂ (λ ps cs. binary_slots (map number ps) (octets cs)) offsets values in
    record {
      of_type = dtype;
      values = same;
      mask = mask;
      plain = λ p. subst IsPlainMask (sym mask) p;
      tidy = λ s st h.
          tidy_by b.mask (pred (length (map number b.offsets))) (pieces (map nat_of (map number b.offsets)) (octets b.values)) s
          (subst (λ vs. StandFor Empty vs s) (sym same) st) (subst (λ k. StatesNulls k s) (sym mask) h);
    }

-- ---- where the values have room

pub form_in : (text large : Bool) (t : TypeData) → physical_of t ≡ Some (layout_in text large) → form_of t ≡ binaries_of large text
form_in true true t e = flat_form t (layout_in true true) e tt
form_in true false t e = flat_form t (layout_in true false) e tt
form_in false true t e = flat_form t (layout_in false true) e tt
form_in false false t e = flat_form t (layout_in false false) e tt

module _ (text large : Bool) {O : Type 0} (number : O → ℤ) (limit : ℕ) (by_size : limit ≡ cond large (2 ^ 63) (2 ^ 31)) (t : TypeData) (arrays : List (Binaries O)) (os : List O) (bs : List ℕ)
    (are : AreBinaryValues text large number t arrays os bs) where
  abbrev grown : List O → List ℕ → Values
  grown ps cs = binary_values number t arrays ps cs

  form : form_of t ≡ binaries_of large text
  form = form_in text large t are.stored

  weight_all : (ps : List O) (cs : List ℕ) (s : List Slot) → AreJoined number ps cs → StandFor Empty (grown ps cs).slots s → weight s ≡ length cs
  weight_all ps cs s f st =
      weight_stand (grown ps cs).slots s st ∙ ap weight (slots_are number ps cs) ∙ weight_values (values_between number ps cs) ∙ ap length (sym f.bytes)

  module _ (ys : List (List ℕ)) (xs : List Slot) (stand : StandFor Empty (value_slots ys) xs) where
    pub values_more : (ps : List O) (cs : List ℕ) → AppendsValues number os bs ys ps cs → length ps ≤ 2 ^ 64 → length cs < limit → GrowsValues Empty (grown os bs) xs (grown ps cs) (Ok tt)
    values_more ps cs a few small = record {
      same_type = refl;
      same_arrays = refl;
      outcome = λ s st.
          let joined_slots : (grown ps cs).slots ≡ (grown os bs).slots ++ value_slots ys =
          slots_are number ps cs ∙ ap value_slots a.values ∙ ap (map bytes) (map-append octets (values_between number os bs) ys)
          ∙ map-append bytes (map octets (values_between number os bs)) (map octets ys) ∙ ap (λ zs. zs ++ value_slots ys) (sym (slots_are number os bs)) in
          let all = subst (λ vs. StandFor Empty vs (s ++ xs)) (sym joined_slots) (stand_join Empty (grown os bs).slots s (value_slots ys) xs st stand) in
          let count : length (s ++ xs) ≡ pred (length ps) = stand_length Empty (grown ps cs).slots (s ++ xs) all ∙ count_values number ps cs in
          let bytes_all = weight_all ps cs (s ++ xs) a.follow all in
          record {
            stand = all;
            room = room_from t (binaries_of large text) (s ++ xs) tt form
                (slots_few (length ps) (length (s ++ xs)) count few, subst (λ n. weight (s ++ xs) < n) by_size (omega (arith, bytes_all, small)));
          };
    }
      where
        slots_few : (n m : ℕ) → m ≡ pred n → n ≤ 2 ^ 64 → m < 2 ^ 64
        slots_few zero m e h = omega (arith, e)
        slots_few (suc n) m e h = omega (arith, e, h)

    pub values_refused : (ps : List O) (e : GrowError) → map number ps ≡ map number os → EndRefused limit (length bs + length (concat ys)) e → GrowsValues Empty (grown os bs) xs (grown ps bs) (Err e)
    values_refused ps error.OutOfMemory same h = record { same_type = refl; same_arrays = refl; outcome = λ s st. tt }
    values_refused ps error.Overflow same h = record {
      same_type = refl;
      same_arrays = refl;
      outcome = λ s st r.
          let zs = (grown os bs).slots in
          let all = stand_join Empty zs s (value_slots ys) xs st stand in
          let sum_all : weight (s ++ xs) ≡ length (concat (values_between number os bs ++ ys)) =
          weight_stand (zs ++ value_slots ys) (s ++ xs) all
          ∙ ap weight
          (ap (λ vs. vs ++ value_slots ys) (slots_are number os bs) ∙ sym (map-append bytes (map octets (values_between number os bs)) (map octets ys))
          ∙ ap (map bytes) (sym (map-append octets (values_between number os bs) ys)))
          ∙ weight_values (values_between number os bs ++ ys) in
          let below = subst (λ n. weight (s ++ xs) < n) (sym by_size) (room_to t (binaries_of large text) (s ++ xs) tt form r).1 in
          omega (arith, h, below, sum_all, length-joined (values_between number os bs) ys, ap length are.follow.bytes);
    }

    pub refused_values : (ps : List O) (cs : List ℕ) (e : GrowError) (r : Result ⊤ GrowError) → IsErrAnd r (λ y. y ≡ e) → map number ps ≡ map number os → cs ≡ bs
        → EndRefused limit (length bs + length (concat ys)) e → GrowsValues Empty (grown os bs) xs (grown ps cs) r
    refused_values ps cs e (Ok u) h same values k = absurd h
    refused_values ps cs e (Err y) h same values k =
        subst (λ z. GrowsValues Empty (grown os bs) xs (grown ps cs) (Err z)) (sym h)
        (subst (λ ds. GrowsValues Empty (grown os bs) xs (grown ps ds) (Err e)) (sym values) (values_refused ps e same k))

  pub still_binaries : (ps : List O) (cs : List ℕ) (ys : List (List ℕ)) → AppendsValues number os bs ys ps cs → AreTextsIf text ys → AreBinaryValues text large number t arrays ps cs
  still_binaries ps cs ys a texts = record {
    stored = are.stored;
    follow = a.follow;
    texts = subst (AreTextsIf text) (sym a.values) (join_texts text (values_between number os bs) ys are.texts texts);
    sound = record { form = are.sound.form; typed = are.sound.typed; few = are.sound.few };
  }

  -- with the same numbers
  pub same_binaries : (ps : List O) → map number ps ≡ map number os → AreBinaryValues text large number t arrays ps bs
  same_binaries ps e =
      let v : values_between number ps bs ≡ values_between number os bs = ap (λ zs. pieces (map to_nat zs) bs) e in
      record {
        stored = are.stored;
        follow = record {
          ends = e ∙ are.follow.ends ∙ ap (λ zs. offsets (map length zs)) (sym v);
          bytes = are.follow.bytes ∙ ap concat (sym v);
        };
        texts = subst (AreTextsIf text) (sym v) are.texts;
        sound = record { form = are.sound.form; typed = are.sound.typed; few = are.sound.few };
      }
