-- Views of the same sixteen bytes are equal.
use Rattle.std.proofs.Common.{◌≡◌, ℕ, ◌^◌, ◌<◌, List, ◌++◌, length, take, drop, sym, ap, ◌∙◌, arith}
use Rattle.std.proofs.Math.Seq.{drop-append_seam}
use Rattle.std.proofs.lemmas.Nat.{from_le_bytes-to_le_bytes_4}
use Rattle.arrow_flat.specs.Views.{View, inline, long}
use Rattle.arrow_views.proofs.Checks.{prefix_at}
use Rattle.arrow_views.specs.ViewParts.{IsPlaced, bytes_of, le_bytes, number_at}

drop_four : (xs ys : List ℕ) → length xs ≡ 4 → drop 4 (xs ++ ys) ≡ ys
drop_four xs ys l = ap (λ n. drop n (xs ++ ys)) (sym l) ∙ drop-append_seam xs ys

number_back : (n : ℕ) (bs : List ℕ) → n < 2 ^ 32 → number_at 0 (le_bytes n ++ bs) ≡ n
number_back n bs h = from_le_bytes-to_le_bytes_4 n h

number_one : (m n : ℕ) (bs cs : List ℕ) → m < 2 ^ 32 → n < 2 ^ 32 → le_bytes m ++ bs ≡ le_bytes n ++ cs → m ≡ n
number_one m n bs cs h k e = sym (number_back m bs h) ∙ ap (number_at 0) e ∙ number_back n cs k

long_parts : (n : ℕ) (p q : List ℕ) (b c o s : ℕ) → p ≡ q → b ≡ c → o ≡ s → long n p b o ≡ long n q c s
long_parts n p q b c o s e f g = cc

pub views_one : (v w : View) → IsPlaced v → IsPlaced w → bytes_of v ≡ bytes_of w → v ≡ w
views_one (inline n bs) (inline m cs) h k e =
    let same : n ≡ m = number_one n m bs cs (omega (arith, h.0)) (omega (arith, k.0)) e in
    ap (λ i. inline i bs) same ∙ ap (inline m) (ap (drop 4) e)
views_one (inline n bs) (long m p b o) h k e =
    let same : n ≡ m = number_one n m bs (p ++ (le_bytes b ++ le_bytes o)) (omega (arith, h.0)) k.3 e in
    absurd (omega (arith, same, h.0, k.0))
views_one (long n p b o) (inline m cs) h k e =
    let same : n ≡ m = number_one n m (p ++ (le_bytes b ++ le_bytes o)) cs h.3 (omega (arith, k.0)) e in
    absurd (omega (arith, same, h.0, k.0))
views_one (long n p b o) (long m q c s) h k e =
    let same : n ≡ m = number_one n m (p ++ (le_bytes b ++ le_bytes o)) (q ++ (le_bytes c ++ le_bytes s)) h.3 k.3 e in
    let prefixes : p ≡ q = sym (prefix_at (long n p b o) h) ∙ ap (λ bs. take 4 (drop 4 bs)) e ∙ prefix_at (long m q c s) k in
    let rest : le_bytes b ++ le_bytes o ≡ le_bytes c ++ le_bytes s =
    sym (drop_four p (le_bytes b ++ le_bytes o) h.1) ∙ ap (λ bs. drop 4 (drop 4 bs)) e ∙ drop_four q (le_bytes c ++ le_bytes s) k.1 in
    let buffers : b ≡ c = number_one b c (le_bytes o) (le_bytes s) h.4 k.4 rest in
    let ends : le_bytes o ≡ le_bytes s = ap (drop 4) rest in
    let offsets : o ≡ s = sym (from_le_bytes-to_le_bytes_4 o h.5) ∙ ap (number_at 0) ends ∙ from_le_bytes-to_le_bytes_4 s k.5 in
    ap (λ i. long i p b o) same ∙ long_parts m p q b c o s prefixes buffers offsets
