-- A list appended many times.
use Rattle.std.proofs.Common.{◌≡◌, ℕ, zero, suc, ◌+◌, ◌-◌, ◌*◌, ◌<◌, ◌≤◌, ◌^◌, true, false, List, [], ◌++◌, length, flat_map, replicate, Ok, Err, refl, ap, sym, ◌∙◌, subst, arith, length-append}
use Rattle.std.specs.Prelude.{⊤, Result, IsErrAnd}
use Rattle.std.proofs.Common.{◌⊎◌, inl, inr, Option, Bool}
use Rattle.std.proofs.lemmas.List.{append-nil, replicate-append-replicate}
use Rattle.std.proofs.lemmas.Grind.{flat_map-append}
use Rattle.arrow_types.specs.declared.error.GrowError.{GrowError}
use Rattle.arrow_types.specs.declared.error.GrowError.TheVariants as error
use Rattle.arrow_flat.specs.Slots.{Slot}
use Rattle.arrow_layout.specs.Cut.{part}
use Rattle.arrow_layout.specs.Forms.{form_of}
use Rattle.arrow_layout.proofs.CutForms.{length-part}
use Rattle.arrow_grow_flat.specs.Grown.{Grown, Keeps, HasMore, HasFailed, Grows, IsSound, IsWithin, Room, copied, source, sources_of, source_of}
use Rattle.arrow_grow_flat.specs.Values.{IsValuesForm, Values, grown_of}
use Rattle.arrow_grow_flat.proofs.Rooms.{room_count}
use Rattle.arrow_grow_flat.proofs.Growths.{keeps_again, keeps_itself, failed_later}

pub copied_split : (i k : ℕ) (xs : List Slot) → copied (i + k) xs ≡ copied i xs ++ copied k xs
copied_split i k xs = ap (flat_map (λ ys. ys)) (sym (replicate-append-replicate i k xs)) ∙ flat_map-append (λ ys. ys) (replicate i xs) (replicate k xs)

copied_one : (xs : List Slot) → copied 1 xs ≡ xs
copied_one xs = append-nil xs

pub copied_more : (i : ℕ) (xs : List Slot) → copied i xs ++ xs ≡ copied (i + 1) xs
copied_more i xs = sym (copied_split i 1 xs ∙ ap (λ ys. copied i xs ++ ys) (copied_one xs))

pub copied_nothing : (n : ℕ) → ◌≡◌ {A = List Slot} (copied n []) []
copied_nothing zero = refl
copied_nothing (suc n) = copied_nothing n

pub length-copied : (n : ℕ) (xs : List Slot) → length (copied n xs) ≡ length xs * n
length-copied zero xs = omega arith
length-copied (suc n) xs = let q = length-copied n xs in let r = length-append xs (copied n xs) in grind arith

pub nothing_grows : (g : Grown) (xs : List Slot) → IsSound g → g.failed ≡ false → xs ≡ [] → Grows g xs g (Ok tt)
nothing_grows g xs s alive e =
    let same : g.slots ≡ g.slots ++ xs = sym (ap (λ ys. g.slots ++ ys) e ∙ append-nil g.slots) in
    record { keeps = keeps_itself g; outcome = record { alive = alive; slots = same; room = subst (Room g.dtype) same (s.room alive) } }

pub within_again : (a b : Grown) (i s n : ℕ) → Keeps a b → b.failed ≡ false → IsWithin a i s n → IsWithin b i s n
within_again a b i s n k alive w = record {
  alive = alive;
  named = subst (λ ks. i < sources_of (form_of b.dtype) ks) (sym k.same_arrays) (subst (λ t. i < sources_of (form_of t) a.arrays) (sym k.same_type) w.named);
  reached = subst (λ ks. s + n ≤ length (source_of (form_of b.dtype) ks i)) (sym k.same_arrays) (subst (λ t. s + n ≤ length (source_of (form_of t) a.arrays i)) (sym k.same_type) w.reached);
}

pub source_again : (a b : Grown) (i : ℕ) → Keeps a b → source b i ≡ source a i
source_again a b i k = ap (λ t. source_of (form_of t) b.arrays i) k.same_type ∙ ap (λ ks. source_of (form_of a.dtype) ks i) k.same_arrays

pub copies_fail : (a b c : Grown) (xs : List Slot) (i n : ℕ) (e : GrowError) → IsValuesForm (form_of a.dtype) → Keeps a b → HasMore a (copied i xs) b → i < n → Keeps b c
    → HasFailed b.dtype (b.slots ++ xs) e c → Grows a (copied n xs) c (Err e)
copies_fail a b c xs i n e v k m h k2 f =
    let rest = n - (i + 1) in
    let len : i + (1 + rest) ≡ n = omega (arith, h) in
    let all : copied i xs ++ (xs ++ copied rest xs) ≡ copied n xs =
    ap (λ ys. copied i xs ++ ys) (sym (copied_split 1 rest xs ∙ ap (λ ys. ys ++ copied rest xs) (copied_one xs))) ∙ (sym (copied_split i (1 + rest) xs) ∙ ap (λ j. copied j xs) len) in
    record { keeps = keeps_again a b c k k2; outcome = subst (λ ys. HasFailed a.dtype (a.slots ++ ys) e c) all (failed_later a b c (copied i xs) xs (copied rest xs) e v k m f) }

-- a refusal is handed on as it is
pub fails_as : (a b : Grown) (xs : List Slot) (e : GrowError) (r : Result ⊤ GrowError) → IsErrAnd r (λ y. y ≡ e) → Grows a xs b (Err e) → Grows a xs b r
fails_as a b xs e (Ok u) h g = absurd h
fails_as a b xs e (Err y) h g = subst (λ z. Grows a xs b (Err z)) (sym h) g

pub none_copied : (o n k : ℕ) (s : List Slot) → (n ≡ 0) ⊎ ((n ≡ 0 → ⊥) × (k ≡ 0)) → copied k (part o n s) ≡ []
none_copied o n k s (inl e) = ap (λ j. copied k (part o j s)) e ∙ copied_nothing k
none_copied o n k s (inr e) = ap (λ j. copied j (part o n s)) e.1

-- more copies than a usize counts
pub too_many : (v : Values) (m : Option (List Bool)) (f : Bool) (g : Grown) → grown_of v m f ≡ g → (o n k : ℕ) (s : List Slot) → IsValuesForm (form_of g.dtype)
    → o + n ≤ length s → 2 ^ 64 ≤ length g.slots + n * k → Grows g (copied k (part o n s)) (grown_of v m true) (Err error.Overflow)
too_many v m f g view o n k s form reached h =
    let xs = copied k (part o n s) in
    let size : length xs ≡ n * k = length-copied k (part o n s) ∙ ap (λ j. j * k) (length-part o n s reached) in
    record {
      keeps = record {
        same_type = ap (λ (w : Grown). w.dtype) view;
        same_arrays = ap (λ (w : Grown). w.arrays) view;
        same_nulls = ap (λ (w : Grown). w.takes_nulls) view;
      };
      outcome = record { failed = refl; why = λ r. omega (arith, h, size, length-append g.slots xs, room_count g.dtype (g.slots ++ xs) form r) };
    }
