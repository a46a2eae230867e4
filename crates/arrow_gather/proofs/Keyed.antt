-- The canonical dictionary of picked slots, by its keys and values.
use Rattle.std.proofs.Common.{◌≡◌, ℕ, ◌<◌, ◌≤◌, ℤ, pos, Bool, true, false, cond, List, [], ◌∷◌, length, map, refl, ap, sym, ◌∙◌, subst, arith, Option, Some, None}
use Rattle.std.specs.List.{AllByRecursion, list_all}
use Rattle.std.proofs.lemmas.List.{length-map}
use Rattle.arrow_buffers.specs.Bits.{Bits, plain}
use Rattle.arrow_flat.proofs.Lists.{all_weaker}
use Rattle.arrow_flat.specs.Primitives.{MaskHasLength}
use Rattle.arrow_flat.specs.Slots.{Slot, null, is_valid}
use Rattle.arrow_types.specs.Capacity.{key_capacity}
use Rattle.arrow_types.specs.Seen.{seen}
use Rattle.arrow_types.specs.TypeData.{TypeData}
use Rattle.arrow_types.specs.Types.{logical_of}
use Rattle.arrow_types.specs.declared.datatype.ArrowDataType.{ArrowDataType}
use Rattle.arrow_types.specs.declared.datatype.IntegerType.{IntegerType}
use Rattle.arrow_types.specs.declared.datatype.PhysicalType.TheVariants as physical
use Rattle.arrow_layout.specs.Canon.{canon, distinct, first_place, key_in, mask_of}
use Rattle.arrow_layout.specs.Denote.{denote, masked, dictionary_slots, validity_of}
use Rattle.arrow_layout.specs.Fits.{Small}
use Rattle.arrow_layout.specs.Forms.{dictionaries_of, form_of, key_by, value_by}
use Rattle.arrow_layout.specs.Layouts.{Layout, type_of, length_of}
use Rattle.arrow_layout.specs.SlotsOf.{fill}
use Rattle.arrow_layout.specs.WellFormed.{WellFormed}
use Rattle.arrow_layout.proofs.ByForm.{canon-form, fill-form}
use Rattle.arrow_layout.proofs.CanonForms.{place_below, some_keys}
use Rattle.arrow_layout.proofs.CanonLengths.{length-canon}
use Rattle.arrow_layout.proofs.Distinct.{all_taken}
use Rattle.arrow_meaning.specs.Nodes.{AreKeysBelow, IsStoredAs, dictionary_layout, key_layout, key_number, key_numbers, key_type_of}
use Rattle.arrow_meaning.specs.declared.keys.KeyNode.{KeyNode}
use Rattle.arrow_meaning.specs.declared.keys.KeyNode.TheVariants as keys
use Rattle.arrow_meaning.proofs.NullArrays.{same_form, same_physical}
use Rattle.arrow_choice.proofs.DictionaryNodes.{dictionary_form}
use Rattle.arrow_canon.specs.Picks.{pick, picks, picked}
use Rattle.arrow_canon.specs.Runs.{AreWithin, canon_of_runs, places}
use Rattle.arrow_canon.specs.declared.run.Run.{Run}
use Rattle.arrow_canon.proofs.Places.{places_within}
use Rattle.arrow_gather.specs.Distincts.{dictionaries_picked, picked_values}
use Rattle.arrow_gather.specs.Types.{HasTypeOf}
use Rattle.arrow_gather.proofs.Sound.{picked_small}

rows_count : (rows : List (List ℤ)) → length (map key_number rows) ≡ length rows
rows_count rows = length-map rows key_number

key_count : (ks : KeyNode) → length (key_numbers (key_layout ks)) ≡ length_of (key_layout ks)
key_count (keys.Int8 a) = rows_count _
key_count (keys.Int16 a) = rows_count _
key_count (keys.Int32 a) = rows_count _
key_count (keys.Int64 a) = rows_count _
key_count (keys.Int128 a) = rows_count _
key_count (keys.UInt8 a) = rows_count _
key_count (keys.UInt16 a) = rows_count _
key_count (keys.UInt32 a) = rows_count _
key_count (keys.UInt64 a) = rows_count _

module _ (t : TypeData) (l : Layout) (rs : List Run) (w : WellFormed l) (of_type : HasTypeOf t l) (within : AreWithin (length_of l) rs) where
  pub dictionary_arm : (d : ArrowDataType) (ks : KeyNode) (c : Layout) → dictionary_layout d (key_layout ks) c ≡ l → IsStoredAs (physical.Dictionary (key_type_of ks)) l
      → (form_of t ≡ dictionaries_of (key_type_of ks) (value_by (form_of t))) × HasTypeOf (value_by (form_of t)) c × AreKeysBelow (length_of c) (validity_of (key_layout ks)) (key_layout ks)
      × AreWithin (length_of (key_layout ks)) rs × (length (distinct (picked_values (key_layout ks) c (places rs))) ≤ key_capacity (key_type_of ks))
      × (canon_of_runs t l rs ≡ dictionaries_picked t (key_type_of ks) (key_layout ks) c (places rs))
  dictionary_arm d ks c e stored =
      let k = key_type_of ks in
      let kl = key_layout ks in
      let here : WellFormed (dictionary_layout d kl c) = subst WellFormed (sym e) w in
      let v = value_by (form_of t) in
      let f : form_of t ≡ dictionaries_of k v = dictionary_form t k (same_physical t (type_of l) of_type ∙ stored) in
      let root : form_of (seen d) ≡ form_of t = ap (λ x. form_of (type_of x)) e ∙ sym (same_form t (type_of l) of_type) in
      let s = picked_values kl c (places rs) in
      let slots : picked t l (places rs) ≡ s =
      ap (λ x. picks (fill t) (denote x) (places rs)) (sym e) ∙ ap (λ x. picks x (masked (validity_of kl) (dictionary_slots (key_numbers kl) (denote c))) (places rs)) (fill-form t (dictionaries_of k v) f) in
      let same : canon_of_runs t l rs ≡ dictionaries_picked t k kl c (places rs) = ap (canon t) slots ∙ canon-form t (dictionaries_of k v) s f in
      let small : Small (dictionaries_picked t k kl c (places rs)) = subst Small same (picked_small t l (places rs) w of_type (places_within (length_of l) rs within)) in
      let few : length (distinct s) ≤ key_capacity k =
      subst (λ n. n ≤ key_capacity k) (length-canon v (distinct s)) (subst (λ g. length_of (canon v (distinct s)) ≤ key_capacity (key_by g)) f small.0) in
      let many : length (key_numbers kl) ≡ length_of kl = key_count ks in (
        f,
        ap (λ g. logical_of (value_by g)) (sym root) ∙ here.4,
        here.3,
        subst (λ n. AreWithin n rs) many (subst (λ x. AreWithin (length_of x) rs) (sym e) within),
        few,
        same,
      )

-- ---- the keys

key_small : (cap : ℕ) (d : List Slot) (x : Slot) (n : ℕ) (b : Bool) → length d ≤ cap → 0 < cap → (b ≡ true → first_place x d < length d) → pos n ≡ cond b (pos (first_place x d)) (pos 0) → n < cap
key_small cap d x n true few some h e = let q : n ≡ first_place x d = cc in omega (arith, q, few, h refl)
key_small cap d x n false few some h e = let q : n ≡ 0 = cc in omega (arith, q, some)

keys_below : (cap : ℕ) (d s : List Slot) (ns : List ℕ) → length d ≤ cap → 0 < cap → AllByRecursion (λ x. is_valid x ≡ true → first_place x d < length d) s → map pos ns ≡ map (key_in d) s
    → AllByRecursion (λ n. n < cap) ns
keys_below cap d s [] few some h e = tt
keys_below cap d [] (n ∷ ns) few some h e = absurd cc
keys_below cap d (x ∷ s) (n ∷ ns) few some h e =
    let first : pos n ≡ key_in d x = cc in
    let rest : map pos ns ≡ map (key_in d) s = cc in
    (key_small cap d x n (is_valid x) few some h.0 first, keys_below cap d s ns few some h.1 rest)

pub keys_small : (k : IntegerType) (s : List Slot) (ns : List ℕ) → length (distinct s) ≤ key_capacity k → map pos ns ≡ map (key_in (distinct s)) s → AllByRecursion (λ n. n < key_capacity k) ns
keys_small k s ns few e =
    let below : AllByRecursion (λ x. is_valid x ≡ true → first_place x (distinct s) < length (distinct s)) s = all_weaker _ _ (λ x q v. place_below x (distinct s) (q v)) s (all_taken [] s) in
    keys_below (key_capacity k) (distinct s) s ns few (some_keys k) below e

pub keys_count : (s : List Slot) (ns : List ℕ) → map pos ns ≡ map (key_in (distinct s)) s → length ns ≡ length s
keys_count s ns e = sym (length-map ns pos) ∙ (ap length e ∙ length-map s (key_in (distinct s)))

mask_by : (s : List Slot) (b : Bool) → MaskHasLength (cond b None (Some (plain (map is_valid s)))) (length s)
mask_by s true = tt
mask_by s false = length-map s is_valid

pub keys_mask : (s : List Slot) (ns : List ℕ) (m : Option Bits) → map pos ns ≡ map (key_in (distinct s)) s → m ≡ mask_of s → MaskHasLength m (length ns)
keys_mask s ns m e h = subst (λ x. MaskHasLength x (length ns)) (sym h) (subst (MaskHasLength (mask_of s)) (sym (keys_count s ns e)) (mask_by s (list_all is_valid s)))

pub slots_count : (kl c : Layout) (rs : List Run) → length (picked_values kl c (places rs)) ≡ length (places rs)
slots_count kl c rs = length-map (places rs) (pick null (masked (validity_of kl) (dictionary_slots (key_numbers kl) (denote c))))
