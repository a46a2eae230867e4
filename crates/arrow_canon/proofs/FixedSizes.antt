-- The canonical array of picked binary values of one size.
use Rattle.std.proofs.Common.{◌≡◌, ℕ, zero, suc, ◌+◌, ◌*◌, ◌/◌, ◌%◌, ◌^◌, ◌<◌, ◌≤◌, Bool, true, false, cond, List, [], ◌∷◌, length, map, drop, get_or, flat_map, replicate, refl, ap, ap₂, sym, subst, ◌∙◌, arith, length-append, Option, Some, None}
use Rattle.std.specs.Prelude.{unwrap_or}
use Rattle.std.specs.List.{AllByRecursion}
use Rattle.std.specs.Simd.Lanes.{zip2}
use Rattle.std.proofs.lemmas.List.{take-map, drop-map, length-map, length-take-le, length-drop, length-replicate}
use Rattle.std.proofs.lemmas.List.Folds.{flat_map-map}
use Rattle.std.proofs.Math.Nat.{div-mul-le_self}
use Rattle.arrow_buffers.specs.Bits.{Bits}
use Rattle.arrow_bytes.specs.FixedSizeBinaries.{FixedSizeBinaries, IsSound, declared_size, size_or_zero, slot_count, values_of, slots}
use Rattle.arrow_types.specs.Seen.{seen}
use Rattle.arrow_types.specs.TypeData.{TypeData}
use Rattle.arrow_types.specs.TypeData as T
use Rattle.arrow_flat.specs.Natives.{octets}
use Rattle.arrow_flat.specs.Pieces.{chunks}
use Rattle.arrow_flat.specs.Primitives.{MaskHasLength, masked_values as option_masked}
use Rattle.arrow_flat.specs.Slots.{Slot, bytes}
use Rattle.arrow_flat.proofs.Pieces.{chunk_count, whole_count, whole_multiple}
use Rattle.arrow_flat.proofs.Lists.{map-map}
use Rattle.arrow_layout.specs.Canon.{canon, bytes_or}
use Rattle.arrow_layout.specs.Denote.{masked}
use Rattle.arrow_layout.specs.Fits.{Fits}
use Rattle.arrow_layout.specs.Forms.{Form, fixed_size_binaries_of, form_of}
use Rattle.arrow_layout.specs.Layouts.{fixed_size_binaries}
use Rattle.arrow_layout.specs.SlotsOf.{fill}
use Rattle.arrow_meaning.specs.Nodes.{fixed_size_binary_layout}
use Rattle.arrow_layout.proofs.ByForm.{canon-form, fill-form}
use Rattle.arrow_canon.specs.Picks.{pick, picks, IsTypeFor, picked_mask}
use Rattle.arrow_canon.specs.Runs.{places, AreWithin, canon_of_runs}
use Rattle.arrow_canon.specs.Steps.{concatenated}
use Rattle.arrow_canon.specs.declared.run.Run.{Run}
use Rattle.arrow_canon.proofs.Forms.{sized_form}
use Rattle.arrow_canon.proofs.MaskedSlots.{slot_of, flat_map-same}
use Rattle.arrow_canon.proofs.Octets.{octets_joined, octets_zeros, string}
use Rattle.arrow_canon.proofs.Picked.{picked_slots, mask_picked, mask_fits}
use Rattle.arrow_canon.proofs.Places.{places_within}

octets_chunks : (k n : ℕ) (bs : List ℕ) → chunks k n (octets bs) ≡ map octets (chunks k n bs)
octets_chunks k zero bs = refl
octets_chunks k (suc n) bs =
    ap₂ (λ y ys. y ∷ ys) (take-map (λ b. b % 256) k bs) (ap (chunks k n) (drop-map (λ b. b % 256) k bs) ∙ octets_chunks k n (drop k bs))

-- ---- how many bytes there are

abbrev IsSized : ℕ → List ℕ → Type 0
IsSized k x = length x ≡ k

chunks_sized : (k n : ℕ) (bs : List ℕ) → n * k ≤ length bs → AllByRecursion (IsSized k) (chunks k n bs)
chunks_sized k zero bs h = tt
chunks_sized k (suc n) bs h =
    let q : k + n * k ≤ length bs = omega arith in
    (length-take-le k bs (omega arith), chunks_sized k n (drop k bs) (omega (arith, length-drop k bs)))

abbrev value_or : ℕ → Option (List ℕ) → List ℕ
value_or k x = unwrap_or x (replicate k 0)

one_sized : (k : ℕ) (bit : Bool) (x : List ℕ) → length x ≡ k → length (value_or k (cond bit (Some x) None)) ≡ k
one_sized k true x h = h
one_sized k false x h = length-replicate k 0

masked_sized : (k : ℕ) (m : Option Bits) (ps : List (List ℕ)) → AllByRecursion (IsSized k) ps → AllByRecursion (λ x. length (value_or k x) ≡ k) (option_masked m ps)
masked_sized k None [] h = tt
masked_sized k None (p ∷ ps) h = (h.0, masked_sized k None ps h.1)
masked_sized k (Some b) ps h = by b.bits ps h
  where
    by : (bits : List Bool) (ps : List (List ℕ)) → AllByRecursion (IsSized k) ps
        → AllByRecursion (λ x. length (value_or k x) ≡ k) (zip2 (λ bit x. cond bit (Some x) None) bits ps)
    by [] ps h = tt
    by (bit ∷ bits) [] h = tt
    by (bit ∷ bits) (p ∷ ps) h = (one_sized k bit p h.0, by bits ps h.1)

joined_sized : (k : ℕ) (s : List (Option (List ℕ))) → AllByRecursion (λ x. length (value_or k x) ≡ k) s → length (concatenated k s) ≡ length s * k
joined_sized k [] h = omega arith
joined_sized k (x ∷ s) h =
    let q : length (concatenated k s) ≡ length s * k = joined_sized k s h.1 in
    let e : k + length s * k ≡ suc (length s) * k = omega arith in
    length-append (value_or k x) (concatenated k s) ∙ ap₂ (λ m n. m + n) h.0 q ∙ e

pieces_count : (a : FixedSizeBinaries) → length (values_of a) ≡ slot_count a
pieces_count a = chunk_count a.size (slot_count a) a.values

pieces_fit : (a : FixedSizeBinaries) → MaskHasLength a.mask (slot_count a) → MaskHasLength a.mask (length (values_of a))
pieces_fit a fits = subst (MaskHasLength a.mask) (sym (pieces_count a)) fits

all_at : {A : Type 0} (P : A → Type 0) (d : A) → P d → (xs : List A) (i : ℕ) → AllByRecursion P xs → P (get_or xs i d)
all_at P d e [] i h = e
all_at P d e (x ∷ xs) zero h = h.0
all_at P d e (x ∷ xs) (suc i) h = all_at P d e xs i h.1

all_pick : {A : Type 0} (P : A → Type 0) (d : A) → P d → (xs : List A) (p : Option ℕ) → AllByRecursion P xs → P (pick d xs p)
all_pick P d e xs None h = e
all_pick P d e xs (Some i) h = all_at P d e xs i h

pub all_picks : {A : Type 0} (P : A → Type 0) (d : A) → P d → (xs : List A) (ps : List (Option ℕ)) → AllByRecursion P xs → AllByRecursion P (picks d xs ps)
all_picks P d e xs [] h = tt
all_picks P d e xs (p ∷ ps) h = (all_pick P d e xs p h, all_picks P d e xs ps h)

-- ---- the bytes of picked slots

string_bytes : (k : ℕ) (x : Option (List ℕ)) → bytes_or (replicate k 0) (slot_of string x) ≡ octets (unwrap_or x (replicate k 0))
string_bytes k None = octets_zeros k
string_bytes k (Some x) = refl

joined_octets : (k : ℕ) (ys : List (Option (List ℕ))) → flat_map (bytes_or (replicate k 0)) (map (slot_of string) ys) ≡ octets (concatenated k ys)
joined_octets k ys =
    flat_map-map (bytes_or (replicate k 0)) (slot_of string) ys
    ∙ flat_map-same (λ x. bytes_or (replicate k 0) (slot_of string x)) (λ x. octets (unwrap_or x (replicate k 0))) (string_bytes k) ys
    ∙ octets_joined (λ x. unwrap_or x (replicate k 0)) ys

abbrev size_by : Form → Option ℕ
size_by (fixed_size_binaries_of k) = Some k
size_by _ = None

size-by : (t : TypeData) → declared_size t ≡ size_by (form_of t)
size-by (T.extension n t m) = size-by t
size-by (T.list (T.field n t b m)) = refl
size-by (T.large_list (T.field n t b m)) = refl
size-by (T.map (T.field n t b m) o) = refl
size-by (T.fixed_size_list (T.field n t b m) k) = refl
size-by _ = refl

module _ (a : FixedSizeBinaries) (sound : IsSound a) (t : TypeData) (of_type : IsTypeFor t (fixed_size_binary_layout a)) where
  form_for : form_of t ≡ fixed_size_binaries_of a.size
  form_for = of_type ∙ sized_form (seen a.dtype) a.size sound.sized

  pub size_for : size_or_zero t ≡ a.size
  size_for = ap (λ o. unwrap_or o 0) (size-by t ∙ ap size_by form_for)

  module _ (rs : List Run) (within : AreWithin (slot_count a) rs) where
    picked_count : length (picks None (slots a) (places rs)) ≡ length (places rs)
    picked_count = length-map (places rs) (pick None (slots a))

    pub joined_length : length (concatenated a.size (picks None (slots a) (places rs))) ≡ length (places rs) * a.size
    joined_length =
        let sized = masked_sized a.size a.mask (values_of a) (chunks_sized a.size (slot_count a) a.values (div-mul-le_self (length a.values) a.size)) in
        joined_sized a.size (picks None (slots a) (places rs)) (all_picks (λ x. length (value_or a.size x) ≡ a.size) None (length-replicate a.size 0) (slots a) (places rs) sized)
        ∙ ap (λ n. n * a.size) picked_count

    pub pieces_within : AreWithin (length (values_of a)) rs
    pieces_within = subst (λ n. AreWithin n rs) (sym (pieces_count a)) within

    same_canon : canon_of_runs t (fixed_size_binary_layout a) rs ≡ fixed_size_binaries t (picked_mask a.mask (places rs)) a.size (length (places rs)) (octets (concatenated a.size (picks None (slots a) (places rs))))
    same_canon =
        let k = a.size in
        let m = a.mask in
        let ps = places rs in
        let ys = picks None (slots a) ps in
        let s : List Slot = map (slot_of string) ys in
        ap (λ zs. canon t (picks (fill t) (masked m (map bytes zs)) ps)) (octets_chunks k (slot_count a) a.values)
        ∙ ap (λ zs. canon t (picks (fill t) (masked m zs) ps)) (map-map bytes octets (values_of a))
        ∙ ap (canon t) (picked_slots string t m (values_of a) ps (fill-form t (fixed_size_binaries_of k) form_for) (pieces_fit a sound.fits))
        ∙ canon-form t (fixed_size_binaries_of k) s form_for
        ∙ ap (λ b. fixed_size_binaries t b k (length s) (flat_map (bytes_or (replicate k 0)) s))
        (mask_picked string (λ x. refl) m (values_of a) ps (pieces_fit a sound.fits) (places_within (length (values_of a)) rs pieces_within))
        ∙ ap (λ n. fixed_size_binaries t (picked_mask m ps) k n (flat_map (bytes_or (replicate k 0)) s)) (length-map ys (slot_of string) ∙ picked_count)
        ∙ ap (fixed_size_binaries t (picked_mask m ps) k (length ps)) (joined_octets k ys)

    bytes_count : length (octets (concatenated a.size (picks None (slots a) (places rs)))) ≡ length (places rs) * a.size
    bytes_count = length-map (concatenated a.size (picks None (slots a) (places rs))) (λ b. b % 256) ∙ joined_length

    many : length (places rs) ≤ length (places rs) * a.size
    many = le-mul (length (places rs)) a.size sound.positive
      where
        le-mul : (n k : ℕ) → 0 < k → n ≤ n * k
        le-mul n zero h = absurd (omega (arith, h))
        le-mul n (suc k) h = let e : n * suc k ≡ n + n * k = omega arith in omega (arith, e)

    pub fits_if : length (places rs) * a.size < 2 ^ 64 → Fits (canon_of_runs t (fixed_size_binary_layout a) rs)
    fits_if h = subst Fits (sym same_canon) (omega (arith, h, many), omega (arith, h, bytes_count))

    pub few_if : Fits (canon_of_runs t (fixed_size_binary_layout a) rs) → length (places rs) * a.size < 2 ^ 64
    few_if f = let q = subst Fits same_canon f in omega (arith, q.1, bytes_count)

    joined_count : length (concatenated a.size (picks None (slots a) (places rs))) / a.size ≡ length (places rs)
    joined_count = ap (λ n. n / a.size) joined_length ∙ whole_count (length (places rs)) a.size sound.positive

    -- an array of canonical parts is canonical
    pub canonical_sized : (b : FixedSizeBinaries) → seen b.dtype ≡ t → b.size ≡ a.size → b.values ≡ concatenated a.size (picks None (slots a) (places rs)) → b.mask ≡ picked_mask a.mask (places rs)
        → fixed_size_binary_layout b ≡ canon_of_runs t (fixed_size_binary_layout a) rs
    canonical_sized b dtype size values mask =
        let bs = concatenated a.size (picks None (slots a) (places rs)) in
        let m = picked_mask a.mask (places rs) in
        ap (λ d. fixed_size_binaries d b.mask b.size (length b.values / b.size) (octets b.values)) dtype
        ∙ ap (λ m. fixed_size_binaries t m b.size (length b.values / b.size) (octets b.values)) mask
        ∙ ap (λ j. fixed_size_binaries t m j (length b.values / j) (octets b.values)) size
        ∙ ap (λ vs. fixed_size_binaries t m a.size (length vs / a.size) (octets vs)) values
        ∙ ap (λ n. fixed_size_binaries t m a.size n (octets bs)) joined_count
        ∙ sym same_canon

    -- the parts fit together
    pub multiple_of_parts : (vs : List ℕ) → vs ≡ concatenated a.size (picks None (slots a) (places rs)) → length vs % a.size ≡ 0
    multiple_of_parts vs e =
        ap (λ (bs : List ℕ). length bs % a.size) e ∙ ap (λ n. n % a.size) joined_length ∙ whole_multiple (length (places rs)) a.size sound.positive

    pub mask_of_parts : (m : Option Bits) (vs : List ℕ) → m ≡ picked_mask a.mask (places rs) → vs ≡ concatenated a.size (picks None (slots a) (places rs)) → MaskHasLength m (length vs / a.size)
    mask_of_parts m vs e f =
        let n : length vs / a.size ≡ length (places rs) = ap (λ (bs : List ℕ). length bs / a.size) f ∙ joined_count in
        subst (λ k. MaskHasLength k (length vs / a.size)) (sym e) (mask_fits a.mask (places rs) (length vs / a.size) n)
