-- When a view stands for a value.
use Rattle.std.proofs.Common.{◌≡◌, ℕ, zero, suc, ◌+◌, ◌-◌, ◌%◌, ◌<◌, ◌≤◌, Bool, List, [], ◌∷◌, ◌++◌, map, length, take, drop, get_or, replicate, refl, ap, sym, ◌∙◌, arith}
use Rattle.std.specs.Prelude.{Decides}
use Rattle.std.proofs.Math.Seq.{take-append_seam, take-length}
use Rattle.std.specs.List.{AllByRecursion}
use Rattle.std.proofs.lemmas.List.{length-map, length-append, take-map, drop-map, length-drop, drop-drop}
use Rattle.arrow_flat.specs.Natives.{octets}
use Rattle.arrow_flat.specs.Views.{View, inline, long, view_length, view_bytes, IsView}
use Rattle.arrow_views.specs.ViewBytes.{octets_same, bytes_take}
use Rattle.arrow_views.specs.ViewParts.{le_bytes, bytes_of, buffer_of, offset_of, prefix_of, IsPlaced}

-- ---- lists of bytes under `octets`
pub octets_at : (bs : List (List ℕ)) (i : ℕ) → get_or (map octets bs) i [] ≡ octets (get_or bs i [])
octets_at [] i = refl
octets_at (b ∷ bs) zero = refl
octets_at (b ∷ bs) (suc i) = octets_at bs i

pub octets_part : (n o : ℕ) (bs : List ℕ) → octets (take n (drop o bs)) ≡ take n (drop o (octets bs))
octets_part n o bs = sym (take-map (λ b. b % 256) n (drop o bs)) ∙ ap (take n) (sym (drop-map (λ b. b % 256) o bs))

-- ---- zeros
pub zeros_from : (bs : List ℕ) → ((k : ℕ) → k < length bs → get_or bs k 0 ≡ 0) → bs ≡ replicate (length bs) 0
zeros_from [] h = refl
zeros_from (b ∷ bs) h = ap (λ c. c ∷ bs) (h 0 (omega arith)) ∙ ap (λ cs. 0 ∷ cs) (zeros_from bs (λ k l. h (suc k) (omega arith)))

pub zero_at : (n k : ℕ) (bs : List ℕ) → bs ≡ replicate n 0 → get_or bs k 0 ≡ 0
zero_at n k bs e = ap (λ bs. get_or bs k 0) e ∙ zero_in n k
  where
    zero_in : (n k : ℕ) → let z : ℕ = 0 in get_or (replicate n z) k z ≡ z
    zero_in zero k = refl
    zero_in (suc n) zero = refl
    zero_in (suc n) (suc k) = zero_in n k

-- ---- a view that holds its value
pub sixteen : (v : View) → IsPlaced v → length (bytes_of v) ≡ 16
sixteen (inline m bs) h = ap (λ k. suc (suc (suc (suc k)))) h.1
sixteen (long m p b o) h =
    let many : length (p ++ (le_bytes b ++ le_bytes o)) ≡ 12 = length-append p (le_bytes b ++ le_bytes o) ∙ ap (λ k. k + 8) h.1 in
    ap (λ k. suc (suc (suc (suc k)))) many

pub all_rest : (n k : ℕ) (xs : List ℕ) → length xs ≡ k → take (k - n) (drop n xs) ≡ drop n xs
all_rest n k xs e = ap (λ m. take m (drop n xs)) (ap (λ k. k - n) (sym e) ∙ sym (length-drop n xs)) ∙ take-length (drop n xs)

pub padded : (r : Bool) (v : View) (n : ℕ) (rest : List ℕ) (buffers : List (List ℕ)) → IsPlaced v → view_length v ≤ 12 → n ≡ view_length v → rest ≡ drop (4 + n) (bytes_of v)
    → Decides r (rest ≡ replicate (length rest) 0) → Decides r (IsView buffers v)
padded r (inline m bs) n rest buffers h l e is d =
    let at : rest ≡ drop m bs = is ∙ ap (λ n. drop (4 + n) (bytes_of (inline m bs))) e ∙ sym (drop-drop m 4 (bytes_of (inline m bs))) in
    let many : length rest ≡ 12 - m = ap length at ∙ length-drop m bs ∙ ap (λ k. k - m) h.1 in
    (λ t. (h.0, h.1, sym at ∙ d.0 t ∙ ap (λ k. replicate k 0) many, h.2), λ p. d.1 (at ∙ p.2 ∙ ap (λ k. replicate k 0) (sym many)))
padded r (long m p b o) n rest buffers h l e is d = absurd (let big = h.0 in omega arith)

pub inline_octets : (v : View) (n : ℕ) (buffers : List (List ℕ)) → IsPlaced v → view_length v ≤ 12 → n ≡ view_length v → octets (take (4 + n - 4) (drop 4 (bytes_of v))) ≡ view_bytes buffers v
inline_octets (inline m bs) n buffers h l e =
    let q : 4 + n - 4 ≡ m = omega arith in
    ap (λ k. octets (take k bs)) q ∙ octets_same (take m bs) (bytes_take m bs h.2)
inline_octets (long m p b o) n buffers h l e = absurd (let big = h.0 in omega arith)

-- ---- a view that names its value
module _ (raw : List (List ℕ)) where
  pub no_buffer : (v : View) → 12 < view_length v → length raw ≤ buffer_of v → IsView (map octets raw) v → ⊥
  no_buffer (inline m bs) l e h = let small = h.0 in omega arith
  no_buffer (long m p b o) l e h = let within = h.1 in omega (arith, length-map raw octets)

  room : (b : ℕ) → length (get_or (map octets raw) b []) ≡ length (get_or raw b [])
  room b = ap length (octets_at raw b) ∙ length-map (get_or raw b []) (λ b. b % 256)

  pub past_end : (v : View) → 12 < view_length v → length (get_or raw (buffer_of v) []) < offset_of v + view_length v → IsView (map octets raw) v → ⊥
  past_end (inline m bs) l e h = let small = h.0 in omega arith
  past_end (long m p b o) l e h = let within = h.2 in omega (arith, room b)

  pub stands : (r : Bool) (v : View) (value : List ℕ) → IsPlaced v → 12 < view_length v → buffer_of v < length raw → offset_of v + view_length v ≤ length (get_or raw (buffer_of v) [])
      → value ≡ take (view_length v) (drop (offset_of v) (get_or raw (buffer_of v) [])) → Decides r (prefix_of v ≡ take 4 (octets value)) → Decides r (IsView (map octets raw) v)
  stands r (inline m bs) value h l b e is d = absurd (let small = h.0 in omega arith)
  stands r (long m p b o) value h l at e is d =
      let same : take 4 (octets value) ≡ take 4 (take m (drop o (get_or (map octets raw) b []))) =
      ap (take 4) (ap octets is ∙ octets_part m o (get_or raw b []) ∙ ap (λ bs. take m (drop o bs)) (sym (octets_at raw b))) in
      (λ t. (l, omega (arith, length-map raw octets), omega (arith, room b), d.0 t ∙ same, h.3, h.4, h.5), λ p. d.1 (p.3 ∙ sym same))

  -- where the value of a view that names it stands
  pub named_within : (v : View) → 12 < view_length v → IsView (map octets raw) v → (buffer_of v < length raw) × (offset_of v + view_length v ≤ length (get_or raw (buffer_of v) []))
  named_within (inline m bs) l h = absurd (let small = h.0 in omega arith)
  named_within (long m p b o) l h = let at = h.1 in let end = h.2 in (omega (arith, length-map raw octets), omega (arith, room b))

  pub named_bytes : (v : View) → 12 < view_length v → IsView (map octets raw) v
      → view_bytes (map octets raw) v ≡ take (view_length v) (drop (offset_of v) (octets (get_or raw (buffer_of v) [])))
  named_bytes (inline m bs) l h = absurd (let small = h.0 in omega arith)
  named_bytes (long m p b o) l h = ap (λ bs. take m (drop o bs)) (octets_at raw b)

pub part_at : (s n o m : ℕ) (xs ys : List ℕ) → s ≡ o → n ≡ m → xs ≡ ys → take (s + n - s) (drop s xs) ≡ take m (drop o ys)
part_at s n o m xs ys e f g =
    let q : s + n - s ≡ m = omega arith in
    ap (λ k. take k (drop s xs)) q ∙ ap (λ k. take m (drop k xs)) e ∙ ap (λ zs. take m (drop o zs)) g

pub any_default : {A : Type 0} (xs : List A) (i : ℕ) (d e : A) → i < length xs → get_or xs i d ≡ get_or xs i e
any_default [] i d e l = absurd (omega arith)
any_default (x ∷ xs) zero d e l = refl
any_default (x ∷ xs) (suc i) d e l = any_default xs i d e (omega arith)

-- ---- the prefix
pub prefix_at : (v : View) → IsPlaced v → take 4 (drop 4 (bytes_of v)) ≡ prefix_of v
prefix_at (inline m bs) h = refl
prefix_at (long m p b o) h = take-append_at p (le_bytes b ++ le_bytes o) h.1
  where
    take-append_at : (xs ys : List ℕ) → length xs ≡ 4 → take 4 (xs ++ ys) ≡ xs
    take-append_at xs ys l = ap (λ n. take n (xs ++ ys)) (sym l) ∙ take-append_seam xs ys

-- ---- each view
pub views_from : {A : Type 0} (P : A → Type 0) (d : A) (xs : List A) → ((k : ℕ) → k < length xs → P (get_or xs k d)) → AllByRecursion P xs
views_from P d [] h = tt
views_from P d (x ∷ xs) h = (h 0 (omega arith), views_from P d xs (λ k l. h (suc k) (omega arith)))

pub view_in : {A : Type 0} (P : A → Type 0) (d : A) (xs : List A) (k : ℕ) → AllByRecursion P xs → k < length xs → P (get_or xs k d)
view_in P d [] k h l = absurd (omega arith)
view_in P d (x ∷ xs) zero h l = h.0
view_in P d (x ∷ xs) (suc k) h l = view_in P d xs k h.1 (omega arith)

pub mapped_from : {A B : Type 0} (P : B → Type 0) (f : A → B) (d : A) (xs : List A) → ((k : ℕ) → k < length xs → P (f (get_or xs k d))) → AllByRecursion P (map f xs)
mapped_from P f d [] h = tt
mapped_from P f d (x ∷ xs) h = (h 0 (omega arith), mapped_from P f d xs (λ k l. h (suc k) (omega arith)))

pub mapped_in : {A B : Type 0} (P : B → Type 0) (f : A → B) (d : A) (xs : List A) (k : ℕ) → AllByRecursion P (map f xs) → k < length xs → P (f (get_or xs k d))
mapped_in P f d [] k h l = absurd (omega arith)
mapped_in P f d (x ∷ xs) zero h l = h.0
mapped_in P f d (x ∷ xs) (suc k) h l = mapped_in P f d xs k h.1 (omega arith)
