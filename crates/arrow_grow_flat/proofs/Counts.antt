-- Values that are copied with those under nulls, and whose count alone has to fit.
use Rattle.std.proofs.Common.{◌≡◌, ℕ, ◌+◌, ◌<◌, ◌≤◌, ◌^◌, Bool, true, false, cond, List, [], ◌∷◌, ◌++◌, length, Option, Some, None, refl, sym, subst, arith, length-append}
use Rattle.std.specs.Prelude.{⊤, is_some}
use Rattle.std.specs.Option.{SomeIff}
use Rattle.std.specs.List.{AllByRecursion}
use Rattle.arrow_buffers.specs.Bits.{Bits}
use Rattle.arrow_types.specs.TypeData.{TypeData}
use Rattle.arrow_flat.specs.Slots.{Slot, null, is_valid}
use Rattle.arrow_layout.specs.Cut.{part}
use Rattle.arrow_layout.specs.Denote.{denote, masked, masked_by, under, validity_of}
use Rattle.arrow_layout.specs.Forms.{Form, booleans_of, primitives_of, form_of}
use Rattle.arrow_layout.specs.Layouts.{Layout}
use Rattle.arrow_layout.specs.OfValues.{IsOfValues}
use Rattle.arrow_layout.proofs.Remasked.{denote-under}
use Rattle.arrow_grow_flat.specs.Grown.{Room}
use Rattle.arrow_grow_flat.specs.Values.{StandsFor, StandFor, StandForMore, Values}
use Rattle.arrow_grow_flat.proofs.Rooms.{room_to, room_from}
use Rattle.arrow_grow_flat.proofs.SourceSlots.{under_valid}
use Rattle.arrow_grow_flat.proofs.Stands.{IsValid, stand_join, stand_length, stand_part}

module _ (P : Slot → Type 0) (any : (x : Slot) → P x) where
  one_masked : (b : Bool) (v : Slot) → is_valid v ≡ true → StandsFor P v (cond b v null)
  one_masked true v e = record { same = λ h. refl; blank = λ h. any v }
  one_masked false v e = record { same = λ h. absurd (cc); blank = λ h. any v }

  stand_itself : (vs : List Slot) → StandFor P vs vs
  stand_itself [] = tt
  stand_itself (v ∷ vs) = (record { same = λ h. refl; blank = λ h. any v }, stand_itself vs)

  stand_by : (bits : List Bool) (vs : List Slot) → AllByRecursion IsValid vs → StandFor P vs (masked_by bits vs)
  stand_by [] vs h = stand_itself vs
  stand_by (b ∷ bits) [] h = tt
  stand_by (b ∷ bits) (v ∷ vs) h = (one_masked b v h.0, stand_by bits vs h.1)

  stand_masked : (m : Option Bits) (vs : List Slot) → AllByRecursion IsValid vs → StandFor P vs (masked m vs)
  stand_masked None vs h = stand_itself vs
  stand_masked (Some b) vs h = stand_by b.bits vs h

  -- the values of an array, those under nulls too, stand for its slots
  pub stand_copied : (l : Layout) (o n : ℕ) → IsOfValues l → StandFor P (part o n (under l)) (part o n (denote l))
  stand_copied l o n v =
      stand_part P o n (under l) (denote l)
      (subst (StandFor P (under l)) (sym (denote-under l)) (stand_masked (validity_of l) (under l) (under_valid l v)))

-- the count of slots alone has to fit
abbrev pub IsCounted : Form → Type 0
IsCounted booleans_of = ⊤
IsCounted (primitives_of p) = ⊤
IsCounted _ = ⊥

counted_to : (f : Form) (t : TypeData) (s : List Slot) → IsCounted f → form_of t ≡ f → Room t s → length s < 2 ^ 64
counted_to booleans_of t s c e h = room_to t booleans_of s tt e h
counted_to (primitives_of p) t s c e h = room_to t (primitives_of p) s tt e h
counted_to _ t s c e h = absurd c

counted_from : (f : Form) (t : TypeData) (s : List Slot) → IsCounted f → form_of t ≡ f → length s < 2 ^ 64 → Room t s
counted_from booleans_of t s c e h = room_from t booleans_of s tt e h
counted_from (primitives_of p) t s c e h = room_from t (primitives_of p) s tt e h
counted_from _ t s c e h = absurd c

module _ (P : Slot → Type 0) (a : Values) (f : Form) (c : IsCounted f) (e : form_of a.dtype ≡ f) (s xs : List Slot) (stand : StandFor P a.slots s) where
  pub counted_more : (b : Values) (tail : List Slot) → b.slots ≡ a.slots ++ tail → StandFor P tail xs → length b.slots < 2 ^ 64 → StandForMore P a xs b s
  counted_more b tail h k small =
      let all = subst (λ vs. StandFor P vs (s ++ xs)) (sym h) (stand_join P a.slots s tail xs stand k) in
      record { stand = all; room = counted_from f a.dtype (s ++ xs) c e (omega (arith, stand_length P b.slots (s ++ xs) all, small)) }

  pub counted_full : 2 ^ 64 ≤ length a.slots + length xs → Room a.dtype (s ++ xs) → ⊥
  counted_full h r = omega (arith, h, counted_to f a.dtype (s ++ xs) c e r, length-append s xs, stand_length P a.slots s stand)

-- ---- sums that a usize holds

pub none_where : {P : Type 0} (r : Option ℕ) (x : ℕ) → SomeIff r P x → is_some r ≡ false → P → ⊥
none_where None x h e = h
none_where (Some y) x h e = absurd (cc)

pub some_where : {P : Type 0} (r : Option ℕ) (x : ℕ) → SomeIff r P x → is_some r ≡ true → P
some_where None x h e = absurd (cc)
some_where (Some y) x h e = h.0

pub at_least : (m : ℕ) → (m < 2 ^ 64 → ⊥) → 2 ^ 64 ≤ m
at_least m h = omega (arith, h)
