-- One list grown after another.
use Rattle.std.proofs.Common.{◌≡◌, List, ◌++◌, refl, ap, ◌∙◌, subst, append_assoc}
use Rattle.arrow_types.specs.TypeData.{TypeData}
use Rattle.arrow_types.specs.declared.error.GrowError.{GrowError}
use Rattle.arrow_types.specs.declared.error.GrowError.TheVariants as error
use Rattle.arrow_flat.specs.Slots.{Slot}
use Rattle.arrow_layout.specs.Forms.{form_of}
use Rattle.arrow_grow_flat.specs.Grown.{Grown, Keeps, HasMore, HasFailed, Refuses, Room}
use Rattle.arrow_grow_flat.specs.Values.{IsValuesForm}
use Rattle.arrow_grow_flat.proofs.Rooms.{room_front}

pub keeps_again : (a b c : Grown) → Keeps a b → Keeps b c → Keeps a c
keeps_again a b c h k = record {
  same_type = k.same_type ∙ h.same_type;
  same_arrays = k.same_arrays ∙ h.same_arrays;
  same_nulls = k.same_nulls ∙ h.same_nulls;
}

pub keeps_itself : (a : Grown) → Keeps a a
keeps_itself a = record { same_type = refl; same_arrays = refl; same_nulls = refl }

pub more_again : (a b c : Grown) (xs ys : List Slot) → Keeps a b → HasMore a xs b → HasMore b ys c → HasMore a (xs ++ ys) c
more_again a b c xs ys k h i =
    let e = ap (λ s. s ++ ys) h.slots ∙ append_assoc a.slots xs ys in
    record {
      alive = i.alive;
      slots = i.slots ∙ e;
      room = subst (Room a.dtype) e (subst (λ t. Room t (b.slots ++ ys)) k.same_type i.room);
    }

-- a failure after some slots is one of all
pub why_again : (t : TypeData) (s ys zs : List Slot) (e : GrowError) → IsValuesForm (form_of t) → Refuses t (s ++ ys) e → Refuses t ((s ++ ys) ++ zs) e
why_again t s ys zs error.Overflow v h = λ r. h (room_front t (s ++ ys) zs v r)
why_again t s ys zs error.OutOfMemory v h = tt

pub failed_later : (a b c : Grown) (xs ys zs : List Slot) (e : GrowError) → IsValuesForm (form_of a.dtype) → Keeps a b → HasMore a xs b → HasFailed b.dtype (b.slots ++ ys) e c
    → HasFailed a.dtype (a.slots ++ (xs ++ (ys ++ zs))) e c
failed_later a b c xs ys zs e v k h f =
    let eq = ap (λ s. s ++ ys) h.slots in
    let w = subst (λ t. Refuses t ((a.slots ++ xs) ++ ys) e) k.same_type (subst (λ s. Refuses b.dtype s e) eq f.why) in
    let all : ((a.slots ++ xs) ++ ys) ++ zs ≡ a.slots ++ (xs ++ (ys ++ zs)) = append_assoc (a.slots ++ xs) ys zs ∙ append_assoc a.slots xs (ys ++ zs) in
    record { failed = f.failed; why = subst (λ s. Refuses a.dtype s e) all (why_again a.dtype (a.slots ++ xs) ys zs e v w) }
