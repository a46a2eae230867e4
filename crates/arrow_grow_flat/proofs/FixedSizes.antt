-- The values of a growable of binary values of one size.
use Rattle.std.proofs.Common.{◌≡◌, ℕ, zero, suc, ◌+◌, ◌*◌, ◌/◌, ◌%◌, ◌<◌, ◌≤◌, ◌^◌, List, [], ◌∷◌, ◌++◌, map, length, take, drop, flat_map, replicate, Ok, Err, refl, ap, ap₂, sym, ◌∙◌, subst, arith, length-append}
use Rattle.std.specs.List.{AllByRecursion}
use Rattle.std.proofs.lemmas.List.{map-append, length-map, length-replicate, length-drop, length-take-le, take-append-le, drop-append-le, take_all}
use Rattle.std.proofs.Math.Nat.{div-mul-le_self, mod-add-div}
use Rattle.arrow_types.specs.TypeData.{TypeData}
use Rattle.arrow_types.specs.declared.error.GrowError.TheVariants as error
use Rattle.arrow_bytes.specs.FixedSizeBinaries.{FixedSizeBinaries}
use Rattle.arrow_flat.specs.Natives.{octets}
use Rattle.arrow_flat.specs.Pieces.{chunks}
use Rattle.arrow_flat.specs.Slots.{Slot, null, bool, num, bytes, items, parts, chosen}
use Rattle.arrow_flat.proofs.Pieces.{span_within, whole_count, whole_multiple}
use Rattle.arrow_layout.specs.Canon.{bytes_or}
use Rattle.arrow_layout.specs.Cut.{part}
use Rattle.arrow_layout.specs.Denote.{denote, under, fixed_binary_slots}
use Rattle.arrow_layout.specs.Forms.{form_of, fixed_size_binaries_of}
use Rattle.arrow_layout.specs.Layouts.{length_of, type_of}
use Rattle.arrow_layout.specs.WellFormed.{WellFormed}
use Rattle.arrow_layout.proofs.CutForms.{length-part}
use Rattle.arrow_layout.proofs.Cuts.{part-chunks}
use Rattle.arrow_layout.proofs.Lengths.{length-chunks}
use Rattle.arrow_meaning.specs.Nodes.{fixed_size_binary_layout}
use Rattle.arrow_meaning.proofs.FlatKinds.{sized_form}
use Rattle.arrow_meaning.proofs.Octets.{octets_count}
use Rattle.arrow_grow_flat.specs.Grown.{layout_at}
use Rattle.arrow_grow_flat.specs.Kinds.{sized_values, AreSizedValues}
use Rattle.arrow_grow_flat.specs.Values.{GrowsValues, StandsFor, StandFor, Values}
use Rattle.arrow_grow_flat.proofs.Counts.{stand_copied}
use Rattle.arrow_grow_flat.proofs.Numbers.{Any, map-replicate}
use Rattle.arrow_grow_flat.proofs.Rooms.{room_to, room_from}
use Rattle.arrow_grow_flat.proofs.SourceSlots.{part-map, source_at}
use Rattle.arrow_grow_flat.proofs.Stands.{stand_join, stand_length, stand_nulls}

-- ---- chunks of lists that are concat

chunks_append : (k n m : ℕ) (bs cs : List ℕ) → length bs ≡ n * k → chunks k (n + m) (bs ++ cs) ≡ chunks k n bs ++ chunks k m cs
chunks_append k zero m [] cs e = let q : 0 + m ≡ m = omega arith in ap (λ j. chunks k j cs) q
chunks_append k zero m (b ∷ bs) cs e = absurd (omega (arith, e))
chunks_append k (suc n) m bs cs e =
    let q : suc n + m ≡ suc (n + m) = omega arith in
    let size : suc n * k ≡ k + n * k = omega arith in
    let h : k ≤ length bs = omega (arith, e, size) in
    ap (λ j. chunks k j (bs ++ cs)) q
    ∙ ap (λ x. x ∷ chunks k (n + m) (drop k (bs ++ cs))) (take-append-le k bs cs h)
    ∙ ap (λ ys. take k bs ∷ chunks k (n + m) ys) (drop-append-le k bs cs h)
    ∙ ap (λ ys. take k bs ∷ ys) (chunks_append k n m (drop k bs) cs (omega (arith, e, size, length-drop k bs)))

pub multiple_is : (n k : ℕ) → n % k ≡ 0 → n ≡ n / k * k
multiple_is n k e = let d = mod-add-div n k in let c : k * (n / k) ≡ n / k * k = omega arith in omega (arith, c, d, e)

chunks_same : (k n : ℕ) (x : ℕ) → chunks k n (replicate (n * k) x) ≡ replicate n (replicate k x)
chunks_same k zero x = refl
chunks_same k (suc n) x =
    let size : suc n * k ≡ k + n * k = omega arith in
    ap (λ j. chunks k (suc n) (replicate j x)) size
    ∙ ap₂ (λ y ys. y ∷ ys) (front k (n * k)) (ap (chunks k n) (rest k (n * k)) ∙ chunks_same k n x)
  where
    front : (k m : ℕ) → take k (replicate (k + m) x) ≡ replicate k x
    front zero m = refl
    front (suc k) m = let q : suc k + m ≡ suc (k + m) = omega arith in ap (λ j. take (suc k) (replicate j x)) q ∙ ap (λ ys. x ∷ ys) (front k m)

    rest : (k m : ℕ) → drop k (replicate (k + m) x) ≡ replicate m x
    rest zero m = let q : 0 + m ≡ m = omega arith in ap (λ j. replicate j x) q
    rest (suc k) m = let q : suc k + m ≡ suc (k + m) = omega arith in ap (λ j. drop (suc k) (replicate j x)) q ∙ rest k m

-- ---- how many bytes slots have together

abbrev HasSize : ℕ → Slot → Type 0
HasSize k x = length (bytes_or (replicate k 0) x) ≡ k

weight_is : (k : ℕ) (s : List Slot) → AllByRecursion (HasSize k) s → length (flat_map (bytes_or (replicate k 0)) s) ≡ length s * k
weight_is k [] h = omega arith
weight_is k (x ∷ s) h =
    let g = bytes_or (replicate k 0) in
    let size : suc (length s) * k ≡ k + length s * k = omega arith in
    length-append (g x) (flat_map g s) ∙ ap₂ (λ m n. m + n) h.0 (weight_is k s h.1) ∙ sym size

null_sized : (k : ℕ) → HasSize k null
null_sized k = length-replicate k 0

one_sized : (k : ℕ) (v x : Slot) → StandsFor Any v x → HasSize k v → HasSize k x
one_sized k v null s h = null_sized k
one_sized k v (bool b) s h = subst (HasSize k) (s.same refl) h
one_sized k v (num zs) s h = subst (HasSize k) (s.same refl) h
one_sized k v (bytes bs) s h = subst (HasSize k) (s.same refl) h
one_sized k v (items xs) s h = subst (HasSize k) (s.same refl) h
one_sized k v (parts xs) s h = subst (HasSize k) (s.same refl) h
one_sized k v (chosen t x) s h = subst (HasSize k) (s.same refl) h

all_sized : (k : ℕ) (vs s : List Slot) → StandFor Any vs s → AllByRecursion (HasSize k) vs → AllByRecursion (HasSize k) s
all_sized k [] [] st h = tt
all_sized k [] (x ∷ s) st h = absurd st
all_sized k (v ∷ vs) [] st h = tt
all_sized k (v ∷ vs) (x ∷ s) st h = (one_sized k v x st.0 h.0, all_sized k vs s st.1 h.1)

chunks_sized : (k n : ℕ) (bs : List ℕ) → n * k ≤ length bs → AllByRecursion (HasSize k) (fixed_binary_slots k n bs)
chunks_sized k zero bs h = tt
chunks_sized k (suc n) bs h =
    let size : suc n * k ≡ k + n * k = omega arith in
    (length-take-le k bs (omega (arith, h, size)), chunks_sized k n (drop k bs) (omega (arith, h, size, length-drop k bs)))

le_mul : (n k : ℕ) → 0 < k → n ≤ n * k
le_mul n zero h = absurd (omega (arith, h))
le_mul n (suc k) h = let e : n * suc k ≡ n + n * k = omega arith in omega (arith, e)

pub slots_of_values : (k : ℕ) (vs : List ℕ) → length (fixed_binary_slots k (length vs / k) (octets vs)) ≡ length vs / k
slots_of_values k vs = length-map (chunks k (length vs / k) (octets vs)) bytes ∙ length-chunks k (length vs / k) (octets vs)

-- ---- the size of an array that it takes from

same_size : (i j : ℕ) → fixed_size_binaries_of i ≡ fixed_size_binaries_of j → i ≡ j
same_size i j e = cc

module _ (t : TypeData) (arrays : List FixedSizeBinaries) (k : ℕ) (vs : List ℕ) (are : AreSizedValues t arrays k vs) where
  abbrev grown_to : List ℕ → Values
  grown_to ws = sized_values t arrays k ws

  form : form_of t ≡ fixed_size_binaries_of k
  form = sized_form t k are.sized

  pub source_size : (a : FixedSizeBinaries) (i : ℕ) → layout_at (map fixed_size_binary_layout arrays) i ≡ fixed_size_binary_layout a → i < length (map fixed_size_binary_layout arrays) → a.size ≡ k
  source_size a i is named =
      let s = source_at (grown_to vs) i are.sound named in
      let w = subst (λ l. WellFormed l) is s.well_formed in
      let of_type = sym (ap type_of is) ∙ s.of_type in
      same_size a.size k (sym w.0.of_form ∙ ap form_of of_type ∙ form)

  kept : (ws : List ℕ) → length ws % k ≡ 0 → AreSizedValues t arrays k ws
  kept ws m = record {
    sized = are.sized;
    positive = are.positive;
    multiple = m;
    sound = record { form = are.sound.form; typed = are.sound.typed; few = are.sound.few };
  }

  module _ (n : ℕ) (tail : List ℕ) (size : length tail ≡ n * k) where
    abbrev ws : List ℕ
    ws = vs ++ tail

    bytes_here : length vs ≡ length vs / k * k
    bytes_here = multiple_is (length vs) k are.multiple

    bytes_all : length ws ≡ (length vs / k + n) * k
    bytes_all =
        let q : (length vs / k + n) * k ≡ length vs / k * k + n * k = omega arith in
        omega (arith, q, bytes_here, size, length-append vs tail)

    slots_all : length ws / k ≡ length vs / k + n
    slots_all = ap (λ m. m / k) bytes_all ∙ whole_count (length vs / k + n) k are.positive

    concat : fixed_binary_slots k (length ws / k) (octets ws) ≡ fixed_binary_slots k (length vs / k) (octets vs) ++ fixed_binary_slots k n (octets tail)
    concat =
        ap (λ m. fixed_binary_slots k m (octets ws)) slots_all
        ∙ ap (fixed_binary_slots k (length vs / k + n)) (map-append (λ b. b % 256) vs tail)
        ∙ ap (map bytes) (chunks_append k (length vs / k) n (octets vs) (octets tail) (octets_count vs ∙ bytes_here))
        ∙ map-append bytes (chunks k (length vs / k) (octets vs)) (chunks k n (octets tail))

    pub multiple_more : length ws % k ≡ 0
    multiple_more = ap (λ m. m % k) bytes_all ∙ whole_multiple (length vs / k + n) k are.positive

    all_size : AllByRecursion (HasSize k) (grown_to ws).slots
    all_size = chunks_sized k (length ws / k) (octets ws) (omega (arith, div-mul-le_self (length ws) k, octets_count ws))

    pub more : (xs : List Slot) → length ws < 2 ^ 64 → StandFor Any (fixed_binary_slots k n (octets tail)) xs → GrowsValues Any (grown_to vs) xs (grown_to ws) (Ok tt)
    more xs small stand = record {
      same_type = refl;
      same_arrays = refl;
      outcome = λ s st.
          let all = subst (λ ys. StandFor Any ys (s ++ xs)) (sym concat) (stand_join Any (grown_to vs).slots s (fixed_binary_slots k n (octets tail)) xs st stand) in
          let count : length (s ++ xs) ≡ length vs / k + n =
          stand_length Any (grown_to ws).slots (s ++ xs) all ∙ slots_of_values k ws ∙ slots_all in
          let weight = weight_is k (s ++ xs) (all_sized k (grown_to ws).slots (s ++ xs) all all_size) in
          let many = le_mul (length vs / k + n) k are.positive in
          record {
            stand = all;
            room = room_from t (fixed_size_binaries_of k) (s ++ xs) tt form
                (omega (arith, count, many, bytes_all, small), omega (arith, weight, ap (λ m. m * k) count, bytes_all, small));
          };
    }

  pub run_more : (ws : List ℕ) (a : FixedSizeBinaries) (i o n : ℕ) → layout_at (map fixed_size_binary_layout arrays) i ≡ fixed_size_binary_layout a
      → i < length (map fixed_size_binary_layout arrays) → o + n ≤ length_of (layout_at (map fixed_size_binary_layout arrays) i)
      → ws ≡ vs ++ part (o * a.size) (n * a.size) a.values → length ws < 2 ^ 64
      → GrowsValues Any (grown_to vs) (part o n (denote (layout_at (map fixed_size_binary_layout arrays) i))) (grown_to ws) (Ok tt)
  run_more ws a i o n is named reached h small =
      let l = fixed_size_binary_layout a in
      let z : a.size ≡ k = source_size a i is named in
      let tail = part (o * k) (n * k) a.values in
      let all : ws ≡ vs ++ tail = h ∙ ap (λ j. vs ++ part (o * j) (n * j) a.values) z in
      let r : o + n ≤ length a.values / k = subst (λ j. o + n ≤ length a.values / j) z (subst (λ m. o + n ≤ length_of m) is reached) in
      let size : length tail ≡ n * k = length-part (o * k) (n * k) a.values (span_within (length a.values) k o n r) in
      let same : part o n (under l) ≡ fixed_binary_slots k n (octets tail) =
      ap (λ j. part o n (fixed_binary_slots j (length a.values / j) (octets a.values))) z
      ∙ part-map bytes o n (chunks k (length a.values / k) (octets a.values))
      ∙ ap (map bytes) (sym (part-chunks o n k (length a.values / k) (octets a.values) r) ∙ ap (chunks k n) (part-map (λ b. b % 256) (o * k) (n * k) a.values)) in
      let stand = subst (λ ys. StandFor Any ys (part o n (denote l))) same (stand_copied Any (λ x. tt) l o n tt) in
      let there = subst (λ m. StandFor Any (fixed_binary_slots k n (octets tail)) (part o n (denote m))) (sym is) stand in
      subst (λ ys. GrowsValues Any (grown_to vs) (part o n (denote (layout_at (map fixed_size_binary_layout arrays) i))) (grown_to ys) (Ok tt)) (sym all)
      (more n tail size (part o n (denote (layout_at (map fixed_size_binary_layout arrays) i))) (subst (λ (ys : List ℕ). length ys < 2 ^ 64) all small) there)

  pub run_multiple : (ws : List ℕ) (a : FixedSizeBinaries) (i o n : ℕ) → layout_at (map fixed_size_binary_layout arrays) i ≡ fixed_size_binary_layout a
      → i < length (map fixed_size_binary_layout arrays) → o + n ≤ length_of (layout_at (map fixed_size_binary_layout arrays) i)
      → ws ≡ vs ++ part (o * a.size) (n * a.size) a.values → AreSizedValues t arrays k ws
  run_multiple ws a i o n is named reached h =
      let z : a.size ≡ k = source_size a i is named in
      let tail = part (o * k) (n * k) a.values in
      let all : ws ≡ vs ++ tail = h ∙ ap (λ j. vs ++ part (o * j) (n * j) a.values) z in
      let r : o + n ≤ length a.values / k = subst (λ j. o + n ≤ length a.values / j) z (subst (λ m. o + n ≤ length_of m) is reached) in
      let size : length tail ≡ n * k = length-part (o * k) (n * k) a.values (span_within (length a.values) k o n r) in
      kept ws (ap (λ (ys : List ℕ). length ys % k) all ∙ multiple_more n tail size)

  pub nulls_more : (ws : List ℕ) (m j n : ℕ) → ws ≡ take m vs ++ replicate j 0 → length vs ≤ m → j ≡ n * k → length ws < 2 ^ 64
      → GrowsValues Any (grown_to vs) (replicate n null) (grown_to ws) (Ok tt)
  nulls_more ws m j n h l e small =
      let zs : List ℕ = replicate (n * k) 0 in
      let all : ws ≡ vs ++ zs = h ∙ ap₂ (λ ys i. ys ++ replicate i 0) (take_all m vs l) e in
      let same : replicate n (bytes (replicate k 0)) ≡ fixed_binary_slots k n (octets zs) =
      sym (ap (fixed_binary_slots k n) (map-replicate (λ b. b % 256) (n * k) 0) ∙ ap (map bytes) (chunks_same k n 0) ∙ map-replicate bytes n (replicate k 0)) in
      subst (λ ys. GrowsValues Any (grown_to vs) (replicate n null) (grown_to ys) (Ok tt)) (sym all)
      (more n zs (length-replicate (n * k) 0) (replicate n null) (subst (λ (ys : List ℕ). length ys < 2 ^ 64) all small)
      (subst (λ ys. StandFor Any ys (replicate n null)) same (stand_nulls Any (bytes (replicate k 0)) n tt)))

  pub nulls_multiple : (ws : List ℕ) (m j n : ℕ) → ws ≡ take m vs ++ replicate j 0 → length vs ≤ m → j ≡ n * k → AreSizedValues t arrays k ws
  nulls_multiple ws m j n h l e =
      let all : ws ≡ vs ++ replicate (n * k) 0 = h ∙ ap₂ (λ ys i. ys ++ replicate i 0) (take_all m vs l) e in
      kept ws (ap (λ (ys : List ℕ). length ys % k) all ∙ multiple_more n (replicate (n * k) 0) (length-replicate (n * k) 0))

  nulls_sized : (n : ℕ) → AllByRecursion (HasSize k) (replicate n null)
  nulls_sized zero = tt
  nulls_sized (suc n) = (null_sized k, nulls_sized n)

  all_join : (s xs : List Slot) → AllByRecursion (HasSize k) s → AllByRecursion (HasSize k) xs → AllByRecursion (HasSize k) (s ++ xs)
  all_join [] xs h q = q
  all_join (x ∷ s) xs h q = (h.0, all_join s xs h.1 q)

  -- no room for the bytes of so many nulls
  pub nulls_full : (n : ℕ) → 2 ^ 64 ≤ length vs + n * k → GrowsValues Any (grown_to vs) (replicate n null) (grown_to vs) (Err error.Overflow)
  nulls_full n h = record {
    same_type = refl;
    same_arrays = refl;
    outcome = λ s st r.
        let own = chunks_sized k (length vs / k) (octets vs) (omega (arith, div-mul-le_self (length vs) k, octets_count vs)) in
        let weight = weight_is k (s ++ replicate n null) (all_join s (replicate n null) (all_sized k (grown_to vs).slots s st own) (nulls_sized n)) in
        let count : length s ≡ length vs / k =
        stand_length Any (grown_to vs).slots s st ∙ slots_of_values k vs in
        let all : length (s ++ replicate n null) ≡ length vs / k + n = length-append s (replicate n null) ∙ ap₂ (λ i j. i + j) count (length-replicate n null) in
        let q : (length vs / k + n) * k ≡ length vs / k * k + n * k = omega arith in
        omega (arith, h, (room_to t (fixed_size_binaries_of k) (s ++ replicate n null) tt form r).1, weight, ap (λ m. m * k) all, q, multiple_is (length vs) k are.multiple);
  }
