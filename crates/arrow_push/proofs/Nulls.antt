-- What a mask says of the slots under it.
use Rattle.std.proofs.Common.{◌≡◌, ℕ, ◌<◌, zero, suc, Bool, true, false, List, [], ◌∷◌, length, map, slice_get, get_or, refl, ap, sym, ◌∙◌, arith, Option, Some, None, IfSome, IfNone}
use Rattle.arrow_flat.specs.Slots.{Slot, is_valid}
use Rattle.arrow_push.specs.Nulls.{AreValid, StatesNulls}
use Rattle.arrow_push.specs.Masks.{with_nulls, count_or}
use Rattle.arrow_push.specs.Laws.{under_length}

valid_zip : (bs : List Bool) (ys : List Slot) → length bs ≡ length ys → AreValid ys → bs ≡ map is_valid (with_nulls (Some bs) ys)
valid_zip [] [] e h = refl
valid_zip [] (y ∷ ys) e h = absurd (omega arith)
valid_zip (true ∷ bs) [] e h = absurd (omega arith)
valid_zip (false ∷ bs) [] e h = absurd (omega arith)
valid_zip (true ∷ bs) (y ∷ ys) e h = ap (λ c. c ∷ bs) (sym h.0) ∙ ap (λ cs. is_valid y ∷ cs) (valid_zip bs ys (omega arith) h.1)
valid_zip (false ∷ bs) (y ∷ ys) e h = ap (λ cs. false ∷ cs) (valid_zip bs ys (omega arith) h.1)

pub states : (m : Option (List Bool)) (ys : List Slot) → count_or m (length ys) ≡ length ys → AreValid ys → StatesNulls m (with_nulls m ys)
states None ys e h = h
states (Some bs) ys e h = valid_zip bs ys e h

valid_at : (ys : List Slot) (i : ℕ) → AreValid ys → i < length ys → slice_get (map is_valid ys) i ≡ Some true
valid_at [] i h l = absurd (omega arith)
valid_at (y ∷ ys) zero h l = ap Some h.0
valid_at (y ∷ ys) (suc i) h l = valid_at ys i h.1 (omega arith)

bit_of : (bs : List Bool) (i : ℕ) (d : Bool) → i < length bs → slice_get bs i ≡ Some (get_or bs i d)
bit_of [] i d l = absurd (omega arith)
bit_of (b ∷ bs) zero d l = refl
bit_of (b ∷ bs) (suc i) d l = bit_of bs i d (omega arith)

abbrev pub bit_in : Option (List Bool) → ℕ → Bool
bit_in None i = true
bit_in (Some bs) i = get_or bs i false

pub valid_in : (m : Option (List Bool)) (ys : List Slot) (i : ℕ) → count_or m (length ys) ≡ length ys → AreValid ys → i < length (with_nulls m ys)
    → slice_get (map is_valid (with_nulls m ys)) i ≡ Some (bit_in m i)
valid_in None ys i e h l = valid_at ys i h l
valid_in (Some bs) ys i e h l =
    let n : length (with_nulls (Some bs) ys) ≡ length ys = under_length (Some bs) ys e in
    ap (λ cs. slice_get cs i) (sym (valid_zip bs ys e h)) ∙ bit_of bs i false (omega arith)

pub states_some : (m : Option (List Bool)) (ys : List Slot) → StatesNulls m ys → IfSome m (λ bits. bits ≡ map is_valid ys)
states_some None ys h = tt
states_some (Some bits) ys h = h

pub states_none : (m : Option (List Bool)) (ys : List Slot) → StatesNulls m ys → IfNone m (AreValid ys)
states_none None ys h = h
states_none (Some bits) ys h = tt
