-- Values of one size that are zeros.
use Rattle.std.proofs.Common.{◌≡◌, ◌↔◌, ℕ, zero, suc, ◌+◌, ◌*◌, ◌%◌, ◌<◌, ◌≤◌, Bool, IsTrue, List, [], ◌∷◌, length, map, get_or, slice_get, take, drop, replicate, Some, ap, sym, ◌∙◌, arith}
use Rattle.std.proofs.lemmas.List.{length-map, length-drop, length-take-le}
use Rattle.std.specs.Prelude.{ℤ}
use Rattle.arrow_types.specs.declared.datatype.PrimitiveType.{PrimitiveType}
use Rattle.arrow_flat.specs.Natives.{octets}
use Rattle.arrow_flat.specs.Numbers.{zeros}
use Rattle.arrow_flat.specs.Pieces.{chunks}
use Rattle.arrow_bytes.specs.FixedSizeBinaries.{FixedSizeBinaries, slot_count, values_of}
use Rattle.arrow_layout.specs.WellFormed.{WellFormed}
use Rattle.arrow_meaning.proofs.Octets.{chunks_map}
use Rattle.arrow_meaning.specs.Nodes.{fixed_size_binary_layout}
use Rattle.arrow_canonical.specs.OwnForm.{IsZeroAt}

mapped_at : {A B : Type 0} (f : A → B) (d : B) (xs : List A) (i : ℕ) (x : A) → slice_get xs i ≡ Some x → get_or (map f xs) i d ≡ f x
mapped_at f d [] i x e = cc
mapped_at f d (y ∷ xs) zero x e = let h : y ≡ x = cc in ap f h
mapped_at f d (y ∷ xs) (suc i) x e = mapped_at f d xs i x e

chunk_long : {A : Type 0} (k n : ℕ) (xs : List A) (i : ℕ) (ys : List A) → n * k ≤ length xs → slice_get (chunks k n xs) i ≡ Some ys → length ys ≡ k
chunk_long k zero xs i ys h e = cc
chunk_long k (suc n) xs zero ys h e =
    let same : take k xs ≡ ys = cc in
    let room : k ≤ length xs = let q : suc n * k ≡ k + n * k = omega arith in omega (arith, q, h) in
    sym (ap length same) ∙ length-take-le k xs room
chunk_long k (suc n) xs (suc i) ys h e =
    chunk_long k n (drop k xs) i ys (let q : suc n * k ≡ k + n * k = omega arith in omega (arith, q, h, length-drop k xs)) e

pub chunk_zero : (a : FixedSizeBinaries) (i : ℕ) (bs : List ℕ) (b : Bool) → WellFormed (fixed_size_binary_layout a) → slice_get (values_of a) i ≡ Some bs
    → IsTrue b ↔ (octets bs ≡ replicate (length bs) 0) → IsTrue b ↔ IsZeroAt (fixed_size_binary_layout a) i
chunk_zero a i bs b w e h =
    let long : length bs ≡ a.size =
    chunk_long a.size (slot_count a) a.values i bs (omega (arith, w.1, length-map a.values (λ b. b % 256))) e in
    let is : get_or (chunks a.size (slot_count a) (octets a.values)) i [] ≡ octets bs =
    ap (λ xs. get_or xs i []) (chunks_map (λ b. b % 256) a.size (slot_count a) a.values) ∙ mapped_at octets [] (values_of a) i bs e in
    (λ t. is ∙ h.0 t ∙ ap (λ n. replicate n 0) long, λ z. h.1 (sym is ∙ z ∙ ap (λ n. replicate n 0) (sym long)))

-- ---- a byte that isn't 0

pub zero_at : (bs : List ℕ) (i : ℕ) → octets bs ≡ replicate (length bs) 0 → i < length bs → get_or bs i 0 % 256 ≡ 0
zero_at [] i e h = absurd (omega (arith, h))
zero_at (b ∷ bs) zero e h = cc
zero_at (b ∷ bs) (suc i) e h = let f : octets bs ≡ replicate (length bs) 0 = cc in zero_at bs i f (omega (arith, h))

-- ---- values of fixed width

pub number_zero : {T : Type 0} (parts : T → List ℤ) (xs : List T) (i : ℕ) (x : T) (b : Bool) (p q : PrimitiveType) → slice_get xs i ≡ Some x → q ≡ p
    → IsTrue b ↔ (parts x ≡ zeros p) → IsTrue b ↔ (get_or (map parts xs) i [] ≡ zeros q)
number_zero parts xs i x b p q e s h =
    let is = mapped_at parts [] xs i x e in
    (λ t. is ∙ h.0 t ∙ ap zeros (sym s), λ z. h.1 (sym is ∙ z ∙ ap zeros s))
