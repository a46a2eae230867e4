-- Runs that growables of arrays without children take, one after another.
use Rattle.std.proofs.Common.{◌≡◌, ℕ, zero, suc, ◌+◌, ◌-◌, ◌*◌, ◌<◌, ◌≤◌, ◌^◌, true, false, List, [], ◌∷◌, ◌++◌, length, map, take, replicate, get_or, refl, ap, ap₂, sym, ◌∙◌, subst, arith, Option, Some, None, Ok, Err, append_assoc, length-append}
use Rattle.std.proofs.Common.{◌⊎◌, inl, inr, Bool, Result}
use Rattle.std.specs.Prelude.{⊤, IsErrAnd}
use Rattle.std.proofs.lemmas.Bool.{false≢true}
use Rattle.std.proofs.Common.{drop, flat_map}
use Rattle.std.proofs.lemmas.Grind.{flat_map-append}
use Rattle.std.proofs.lemmas.List.{append-nil, map-append, length-map, take_all}
use Rattle.std.proofs.lemmas.List.{take-append-drop}
use Rattle.arrow_types.specs.TypeData.{TypeData}
use Rattle.arrow_types.specs.declared.error.GrowError.{GrowError}
use Rattle.arrow_types.specs.declared.error.GrowError.TheVariants as error
use Rattle.arrow_flat.specs.Slots.{Slot}
use Rattle.arrow_layout.specs.Cut.{part}
use Rattle.arrow_layout.specs.Fits.{Fits}
use Rattle.arrow_layout.specs.Forms.{Form, nulls_of, form_of}
use Rattle.arrow_layout.specs.SlotsOf.{fill}
use Rattle.arrow_layout.proofs.ByForm.{canon-form}
use Rattle.arrow_canon.specs.Picks.{pick, picks, span}
use Rattle.arrow_canon.specs.Runs as runs
use Rattle.arrow_canon.specs.Runs.{AreWithin, places, places_of}
use Rattle.arrow_canon.specs.declared.run.Run.{Run}
use Rattle.arrow_canon.specs.declared.run.Run.TheVariants.{Slots, Fill}
use Rattle.arrow_canon.proofs.Places.{picks_fill, picks_part, places_step, within_at}
use Rattle.arrow_grow_flat.specs.Grown.{Grown, Grows, HasFailed, HasMore, IsSound, IsWithin, Keeps, Refuses, Room, copied, source, source_count, source_of, sources_of}
use Rattle.arrow_grow_flat.specs.Values.{IsValuesForm}
use Rattle.arrow_grow_flat.proofs.Copies.{copied_more, copied_split, source_again}
use Rattle.arrow_grow_flat.proofs.Growths.{keeps_again, keeps_itself}
use Rattle.arrow_grow_flat.proofs.Rooms as values
use Rattle.arrow_growable.specs.NestedGrown.{IsFlat, MayTake, taken_of}
use Rattle.arrow_growable.specs.ChildRuns.{AreSlots, IsPosition}

-- ---- one run

pub slots_taken : (g : Grown) (i a n : ℕ) → a + n ≤ length (source g i) → part a n (source g i) ≡ taken_of g i (Slots a n ∷ [])
slots_taken g i a n h = picks_part (fill g.dtype) (source g i) a n h ∙ ap (picks (fill g.dtype) (source g i)) (sym (append-nil (span a n)))

pub fill_taken : (g : Grown) (i n : ℕ) → replicate n (fill g.dtype) ≡ taken_of g i (Fill n ∷ [])
fill_taken g i n = picks_fill (fill g.dtype) (source g i) n ∙ ap (picks (fill g.dtype) (source g i)) (sym (append-nil (replicate n None)))

no_fillings : (n : ℕ) → AreSlots (replicate n None ++ []) → n ≡ 0
no_fillings zero h = refl
no_fillings (suc n) h = absurd h.0

fills_by : (b : Bool) (n : ℕ) → (b ≡ false → AreSlots (replicate n None ++ [])) → (n ≡ 0) ⊎ (b ≡ true)
fills_by true n h = inr refl
fills_by false n h = inl (no_fillings n (h refl))

pub fills_there : (g : Grown) (i n : ℕ) → MayTake g i (Fill n ∷ []) → (n ≡ 0) ⊎ (g.takes_nulls ≡ true)
fills_there g i n h = fills_by g.takes_nulls n h.nulls

pub slots_there : (g : Grown) (i a n : ℕ) → MayTake g i (Slots a n ∷ []) → IsWithin g i a n
slots_there g i a n h = record { alive = h.alive; named = h.named; reached = h.within.0 }

-- ---- some runs after others

pub taken_step : (g : Grown) (i : ℕ) (rs : List Run) (j : ℕ) (d : Run) → j < length rs → taken_of g i (take (j + 1) rs) ≡ taken_of g i (take j rs) ++ taken_of g i (get_or rs j d ∷ [])
taken_step g i rs j d h =
    let pk = pick (fill g.dtype) (source g i) in
    ap (map pk) (places_step rs j d h) ∙ map-append pk (places (take j rs)) (places_of (get_or rs j d))
    ∙ ap (λ ps. map pk (places (take j rs)) ++ map pk ps) (sym (append-nil (places_of (get_or rs j d))))

slots_front : (ps qs : List (Option ℕ)) → AreSlots (ps ++ qs) → AreSlots ps × AreSlots qs
slots_front [] qs h = (tt, h)
slots_front (p ∷ ps) qs h = let more = slots_front ps qs h.1 in ((h.0, more.0), more.1)

slots_at : (rs : List Run) (j : ℕ) (d : Run) → j < length rs → AreSlots (places rs) → AreSlots (places_of (get_or rs j d))
slots_at [] j d h s = absurd (omega (arith, h))
slots_at (r ∷ rs) zero d h s = (slots_front (places_of r) (places rs) s).0
slots_at (r ∷ rs) (suc j) d h s = slots_at rs j d (omega (arith, h)) (slots_front (places_of r) (places rs) s).1

-- what a growable may take it may take one after another
pub may_one : (g b : Grown) (i : ℕ) (rs : List Run) (j : ℕ) (d : Run) → MayTake g i rs → Keeps g b → b.failed ≡ false → j < length rs → MayTake b i (get_or rs j d ∷ [])
may_one g b i rs j d h k alive n =
    record {
      alive = alive;
      named = subst (λ t. i < sources_of (form_of t) b.arrays) (sym k.same_type) (subst (λ ks. i < sources_of (form_of g.dtype) ks) (sym k.same_arrays) h.named);
      within = (subst (λ xs. runs.IsWithin (length xs) (get_or rs j d)) (sym (source_again g b i k)) (within_at (length (source g i)) rs j d n h.within), tt);
      nulls = λ e. subst AreSlots (sym (append-nil (places_of (get_or rs j d)))) (slots_at rs j d n (h.nulls (sym k.same_nulls ∙ e)));
    }

pub may_again : (g b : Grown) (i : ℕ) (rs : List Run) → MayTake g i rs → Keeps g b → b.failed ≡ false → MayTake b i rs
may_again g b i rs h k alive =
    record {
      alive = alive;
      named = subst (λ t. i < sources_of (form_of t) b.arrays) (sym k.same_type) (subst (λ ks. i < sources_of (form_of g.dtype) ks) (sym k.same_arrays) h.named);
      within = subst (λ xs. AreWithin (length xs) rs) (sym (source_again g b i k)) h.within;
      nulls = λ e. h.nulls (sym k.same_nulls ∙ e);
    }

pub taken_again : (g b : Grown) (i : ℕ) (rs : List Run) → Keeps g b → taken_of b i rs ≡ taken_of g i rs
taken_again g b i rs k = ap₂ (λ t xs. picks (fill t) xs (places rs)) k.same_type (source_again g b i k)

-- ---- room

null_front : (t : TypeData) (s r : List Slot) → form_of t ≡ nulls_of → Room t (s ++ r) → Room t s
null_front t s r e h =
    let all : length (s ++ r) < 2 ^ 64 = subst Fits (canon-form t nulls_of (s ++ r) e) h in
    subst Fits (sym (canon-form t nulls_of s e)) (omega (arith, all, length-append s r))

front_by : (t : TypeData) (f : Form) (s r : List Slot) → form_of t ≡ f → IsFlat f → Room t (s ++ r) → Room t s
front_by t nulls_of s r e v h = null_front t s r e h
front_by t _ s r e v h = values.room_front t s r (subst IsValuesForm (sym e) v) h

pub flat_front : (t : TypeData) (s r : List Slot) → IsFlat (form_of t) → Room t (s ++ r) → Room t s
flat_front t s r v h = front_by t (form_of t) s r refl v h

-- ---- growing again

pub grows_more : (a b d : Grown) (xs ys : List Slot) → Keeps a b → HasMore a xs b → HasMore b ys d → HasMore a (xs ++ ys) d
grows_more a b d xs ys k h i =
    let e = ap (λ s. s ++ ys) h.slots ∙ append_assoc a.slots xs ys in
    record { alive = i.alive; slots = i.slots ∙ e; room = subst (Room a.dtype) e (subst (λ t. Room t (b.slots ++ ys)) k.same_type i.room) }

why_later : (t : TypeData) (s zs : List Slot) (e : GrowError) → IsFlat (form_of t) → Refuses t s e → Refuses t (s ++ zs) e
why_later t s zs error.Overflow v h = λ r. h (flat_front t s zs v r)
why_later t s zs error.OutOfMemory v h = tt

-- a refusal after some of the slots is one of all
pub fails_later : (a b d : Grown) (xs ys zs all : List Slot) (e : GrowError) → IsFlat (form_of a.dtype) → Keeps a b → HasMore a xs b → HasFailed b.dtype (b.slots ++ ys) e d → xs ++ (ys ++ zs) ≡ all
    → HasFailed a.dtype (a.slots ++ all) e d
fails_later a b d xs ys zs all e v k h f same =
    let eq = ap (λ s. s ++ ys) h.slots in
    let w = subst (λ t. Refuses t ((a.slots ++ xs) ++ ys) e) k.same_type (subst (λ s. Refuses b.dtype s e) eq f.why) in
    let whole : ((a.slots ++ xs) ++ ys) ++ zs ≡ a.slots ++ all =
    append_assoc (a.slots ++ xs) ys zs ∙ append_assoc a.slots xs (ys ++ zs) ∙ ap (λ s. a.slots ++ s) same in
    record { failed = f.failed; why = subst (λ s. Refuses a.dtype s e) whole (why_later a.dtype ((a.slots ++ xs) ++ ys) zs e v w) }

pub taken_rest : (g : Grown) (i : ℕ) (rs : List Run) (j : ℕ) (d : Run) → j < length rs
    → taken_of g i (take j rs) ++ (taken_of g i (get_or rs j d ∷ []) ++ taken_of g i (drop (j + 1) rs)) ≡ taken_of g i rs
taken_rest g i rs j d h =
    let pk = pick (fill g.dtype) (source g i) in
    sym (append_assoc (taken_of g i (take j rs)) (taken_of g i (get_or rs j d ∷ [])) (taken_of g i (drop (j + 1) rs)))
    ∙ ap (λ ys. ys ++ taken_of g i (drop (j + 1) rs)) (sym (taken_step g i rs j d h))
    ∙ sym (map-append pk (places (take (j + 1) rs)) (places (drop (j + 1) rs)))
    ∙ ap (map pk) (sym (flat_map-append places_of (take (j + 1) rs) (drop (j + 1) rs)) ∙ ap places (take-append-drop (j + 1) rs))

pub runs_done : (g : Grown) (i : ℕ) (rs : List Run) (j : ℕ) → length rs ≤ j → taken_of g i (take j rs) ≡ taken_of g i rs
runs_done g i rs j h = ap (taken_of g i) (take_all j rs h)

-- nothing grows out of no slots
pub none_grown : (g : Grown) (xs : List Slot) → IsSound g → g.failed ≡ false → xs ≡ [] → HasMore g xs g
none_grown g xs s alive e =
    let same : g.slots ≡ g.slots ++ xs = sym (ap (λ ys. g.slots ++ ys) e ∙ append-nil g.slots) in
    record { alive = alive; slots = same; room = subst (Room g.dtype) same (s.room alive) }

-- copies, of which the one at i is refused
pub copies_rest : (i n : ℕ) (xs : List Slot) → i < n → copied i xs ++ (xs ++ copied (n - (i + 1)) xs) ≡ copied n xs
copies_rest i n xs h =
    let rest = n - (i + 1) in
    let len : i + (1 + rest) ≡ n = omega (arith, h) in
    ap (λ ys. copied i xs ++ ys) (sym (copied_split 1 rest xs ∙ ap (λ ys. ys ++ copied rest xs) (append-nil xs))) ∙ (sym (copied_split i (1 + rest) xs) ∙ ap (λ j. copied j xs) len)
