-- Children that grow, and end in arrays, one after another.
use Rattle.std.proofs.Common.{◌≡◌, ℕ, zero, suc, ◌+◌, ◌*◌, ◌<◌, ◌≤◌, ◌++◌, true, false, List, [], ◌∷◌, length, map, get_or, refl, ap, ap₂, sym, ◌∙◌, subst, arith}
use Rattle.std.specs.Prelude.{⊤}
use Rattle.std.proofs.Math.ListN.{set}
use Rattle.std.specs.List.{AllByRecursion}
use Rattle.arrow_types.specs.TypeData.{TypeData}
use Rattle.arrow_types.specs.declared.error.GrowError.{GrowError}
use Rattle.arrow_types.specs.declared.error.GrowError.TheVariants as error
use Rattle.arrow_flat.specs.Slots.{Slot}
use Rattle.arrow_layout.specs.Layouts.{Layout}
use Rattle.arrow_layout.specs.WellFormed.{WellFormed}
use Rattle.arrow_grow_flat.specs.Grown.{Grown, HasFailed, HasMore, IsBoxed, Keeps, Room}
use Rattle.arrow_grow_flat.proofs.Growths.{keeps_itself}
use Rattle.arrow_growable.specs.NestedGrown.{AllBoxed, AllKeep, AllMayTake, AllMore, AllRefuse, MayTake, PartBoxed, PartDone, RoomsWith, taken_by, taken_of, types_in}
use Rattle.arrow_growable.specs.TypeNodes.{type_nodes, types_nodes}
use Rattle.arrow_growable.specs.ChildRuns.{runs_for}
use Rattle.arrow_growable.specs.declared.child_runs.ItemRuns.{ItemRuns}

pub map-set : {A B : Type 0} (f : A → B) (xs : List A) (i : ℕ) (x : A) → map f (set xs i x) ≡ set (map f xs) i (f x)
map-set f [] i x = refl
map-set f (y ∷ ys) zero x = refl
map-set f (y ∷ ys) (suc i) x = ap (λ zs. f y ∷ zs) (map-set f ys i x)

keep_all : (cs : List Grown) → AllKeep cs cs
keep_all [] = tt
keep_all (c ∷ cs) = (keeps_itself c, keep_all cs)

-- ---- growing; xs are the slots of each

pub done_at : (xs : List (List Slot)) (i : ℕ) (cs ds : List Grown) (x : Grown) → PartDone xs i cs ds → get_or ds i x ≡ get_or cs i x
done_at xs zero cs ds x h = ap (λ es. get_or es 0 x) h
done_at [] (suc i) [] [] x h = refl
done_at [] (suc i) [] (d ∷ ds) x h = absurd h
done_at [] (suc i) (c ∷ cs) ds x h = absurd h
done_at (y ∷ xs) (suc i) [] ds x h = absurd h
done_at (y ∷ xs) (suc i) (c ∷ cs) [] x h = absurd h
done_at (y ∷ xs) (suc i) (c ∷ cs) (d ∷ ds) x h = done_at xs i cs ds x h.2

pub done_length : (xs : List (List Slot)) (i : ℕ) (cs ds : List Grown) → PartDone xs i cs ds → length ds ≡ length cs
done_length xs zero cs ds h = ap length h
done_length [] (suc i) [] [] h = refl
done_length [] (suc i) [] (d ∷ ds) h = absurd h
done_length [] (suc i) (c ∷ cs) ds h = absurd h
done_length (y ∷ xs) (suc i) [] ds h = absurd h
done_length (y ∷ xs) (suc i) (c ∷ cs) [] h = absurd h
done_length (y ∷ xs) (suc i) (c ∷ cs) (d ∷ ds) h = ap suc (done_length xs i cs ds h.2)

pub done_step : (xs : List (List Slot)) (i : ℕ) (cs ds : List Grown) (c d : Grown) → PartDone xs i cs ds → length xs ≡ length cs → i < length cs → get_or cs i c ≡ c → Keeps c d → HasMore c (get_or xs i []) d
    → PartDone xs (suc i) cs (set ds i d)
done_step xs i [] ds c d h l n e k m = absurd (omega (arith, n))
done_step [] i (b ∷ cs) ds c d h l n e k m = absurd (omega (arith, l))
done_step (y ∷ xs) zero (b ∷ cs) ds c d h l n e k m =
    subst (λ es. PartDone (y ∷ xs) 1 (b ∷ cs) (set es 0 d)) (sym h) (subst (λ q. Keeps q d) (sym e) k, subst (λ q. HasMore q y d) (sym e) m, refl)
done_step (y ∷ xs) (suc i) (b ∷ cs) [] c d h l n e k m = absurd h
done_step (y ∷ xs) (suc i) (b ∷ cs) (q ∷ ds) c d h l n e k m = (h.0, h.1, done_step xs i cs ds c d h.2 (omega (arith, l)) (omega (arith, n)) e k m)

pub done_keep : (xs : List (List Slot)) (i : ℕ) (cs ds : List Grown) (c d : Grown) → PartDone xs i cs ds → i < length cs → get_or cs i c ≡ c → Keeps c d → AllKeep cs (set ds i d)
done_keep xs i [] ds c d h n e k = absurd (omega (arith, n))
done_keep xs zero (b ∷ cs) ds c d h n e k = subst (λ es. AllKeep (b ∷ cs) (set es 0 d)) (sym h) (subst (λ q. Keeps q d) (sym e) k, keep_all cs)
done_keep [] (suc i) (b ∷ cs) ds c d h n e k = absurd h
done_keep (y ∷ xs) (suc i) (b ∷ cs) [] c d h n e k = absurd h
done_keep (y ∷ xs) (suc i) (b ∷ cs) (q ∷ ds) c d h n e k = (h.0, done_keep xs i cs ds c d h.2 (omega (arith, n)) e k)

pub done_all : (xs : List (List Slot)) (i : ℕ) (cs ds : List Grown) → PartDone xs i cs ds → length xs ≡ length cs → length cs ≤ i → AllKeep cs ds × AllMore xs cs ds
done_all xs zero (c ∷ cs) ds h l n = absurd (omega (arith, n))
done_all (y ∷ xs) i [] ds h l n = absurd (omega (arith, l))
done_all [] zero [] [] h l n = (tt, tt)
done_all [] zero [] (d ∷ ds) h l n = absurd (cc)
done_all [] (suc i) [] [] h l n = (tt, tt)
done_all [] (suc i) [] (d ∷ ds) h l n = absurd h
done_all [] (suc i) (c ∷ cs) ds h l n = absurd h
done_all (y ∷ xs) (suc i) (c ∷ cs) [] h l n = absurd h
done_all (y ∷ xs) (suc i) (c ∷ cs) (d ∷ ds) h l n = let more = done_all xs i cs ds h.2 (omega (arith, l)) (omega (arith, n)) in ((h.0, more.0), (h.1, more.1))

room_at : (xs : List (List Slot)) (i : ℕ) (cs : List Grown) (c : Grown) → length xs ≡ length cs → i < length cs → get_or cs i c ≡ c → RoomsWith xs cs → Room c.dtype (c.slots ++ get_or xs i [])
room_at xs i [] c l n e h = absurd (omega (arith, n))
room_at [] i (b ∷ cs) c l n e h = absurd (omega (arith, l))
room_at (y ∷ xs) zero (b ∷ cs) c l n e h = subst (λ (q : Grown). Room q.dtype (q.slots ++ y)) e h.0
room_at (y ∷ xs) (suc i) (b ∷ cs) c l n e h = room_at xs i cs c (omega (arith, l)) (omega (arith, n)) e h.1

pub all_refuse : (xs : List (List Slot)) (i : ℕ) (cs : List Grown) (c d : Grown) (e : GrowError) → length xs ≡ length cs → i < length cs → get_or cs i c ≡ c → HasFailed c.dtype (c.slots ++ get_or xs i []) e d → AllRefuse xs cs e
all_refuse xs i cs c d error.Overflow l n is h = λ rooms. h.why (room_at xs i cs c l n is rooms)
all_refuse xs i cs c d error.OutOfMemory l n is h = tt

pub nodes_at : (i : ℕ) (cs : List Grown) (c : Grown) → i < length cs → get_or cs i c ≡ c → type_nodes c.dtype ≤ types_nodes (types_in cs)
nodes_at i [] c n e = absurd (omega (arith, n))
nodes_at zero (b ∷ cs) c n e = let k = ap (λ (q : Grown). type_nodes q.dtype) e in omega (arith, k)
nodes_at (suc i) (b ∷ cs) c n e = let k = nodes_at i cs c (omega (arith, n)) e in omega (arith, k)

-- ---- what each takes

pub taken_count : (i : ℕ) (items : ItemRuns) (j : ℕ) (cs : List Grown) → length (taken_by i items j cs) ≡ length cs
taken_count i items j [] = refl
taken_count i items j (c ∷ cs) = ap suc (taken_count i items (suc j) cs)

pub may_at : (n : ℕ) (items : ItemRuns) (j i : ℕ) (cs : List Grown) (c : Grown) → i < length cs → get_or cs i c ≡ c → AllMayTake n items j cs → MayTake c n (runs_for items (j + i))
may_at n items j i [] c h e a = absurd (omega (arith, h))
may_at n items j zero (b ∷ cs) c h e a = let z : j + 0 ≡ j = omega arith in subst (λ k. MayTake c n (runs_for items k)) (sym z) (subst (λ q. MayTake q n (runs_for items j)) e a.0)
may_at n items j (suc i) (b ∷ cs) c h e a =
    let z : suc j + i ≡ j + suc i = omega arith in subst (λ k. MayTake c n (runs_for items k)) z (may_at n items (suc j) i cs c (omega (arith, h)) e a.1)

pub taken_at : (n : ℕ) (items : ItemRuns) (j i : ℕ) (cs : List Grown) (c : Grown) → i < length cs → get_or cs i c ≡ c → get_or (taken_by n items j cs) i [] ≡ taken_of c n (runs_for items (j + i))
taken_at n items j i [] c h e = absurd (omega (arith, h))
taken_at n items j zero (b ∷ cs) c h e =
    let z : j ≡ j + 0 = omega arith in ap (λ (q : Grown). taken_of q n (runs_for items j)) e ∙ ap (λ k. taken_of c n (runs_for items k)) z
taken_at n items j (suc i) (b ∷ cs) c h e = let z : suc j + i ≡ j + suc i = omega arith in taken_at n items (suc j) i cs c (omega (arith, h)) e ∙ ap (λ k. taken_of c n (runs_for items k)) z

-- ---- boxes

pub boxed_at : (i : ℕ) (cs : List Grown) (ls : List Layout) (ds : List Grown) (x : Grown) → PartBoxed i cs ls ds → i < length cs → get_or ds i x ≡ get_or cs i x
boxed_at zero cs [] ds x h n = ap (λ es. get_or es 0 x) h
boxed_at zero cs (l ∷ ls) ds x h n = absurd h
boxed_at (suc i) [] ls ds x h n = absurd (omega (arith, n))
boxed_at (suc i) (c ∷ cs) [] [] x h n = absurd h
boxed_at (suc i) (c ∷ cs) [] (d ∷ ds) x h n = absurd h
boxed_at (suc i) (c ∷ cs) (l ∷ ls) [] x h n = absurd h
boxed_at (suc i) (c ∷ cs) (l ∷ ls) (d ∷ ds) x h n = boxed_at i cs ls ds x h.3 (omega (arith, n))

pub boxed_step : (i : ℕ) (cs : List Grown) (ls : List Layout) (ds : List Grown) (c d : Grown) (l : Layout) → PartBoxed i cs ls ds → i < length cs → get_or cs i c ≡ c → Keeps c d → IsBoxed c l d → WellFormed l → PartBoxed (suc i) cs (ls ++ l ∷ []) (set ds i d)
boxed_step zero [] ls ds c d l h n e k b w = absurd (omega (arith, n))
boxed_step zero (q ∷ cs) [] ds c d l h n e k b w =
    subst (λ es. PartBoxed 1 (q ∷ cs) (l ∷ []) (set es 0 d)) (sym h) (subst (λ x. Keeps x d) (sym e) k, subst (λ x. IsBoxed x l d) (sym e) b, w, refl)
boxed_step zero (q ∷ cs) (m ∷ ls) ds c d l h n e k b w = absurd h
boxed_step (suc i) [] ls ds c d l h n e k b w = absurd (omega (arith, n))
boxed_step (suc i) (q ∷ cs) [] [] c d l h n e k b w = absurd h
boxed_step (suc i) (q ∷ cs) [] (x ∷ ds) c d l h n e k b w = absurd h
boxed_step (suc i) (q ∷ cs) (m ∷ ls) [] c d l h n e k b w = absurd h
boxed_step (suc i) (q ∷ cs) (m ∷ ls) (x ∷ ds) c d l h n e k b w = (h.0, h.1, h.2, boxed_step i cs ls ds c d l h.3 (omega (arith, n)) e k b w)

pub boxed_keep : (i : ℕ) (cs : List Grown) (ls : List Layout) (ds : List Grown) (c d : Grown) → PartBoxed i cs ls ds → i < length cs → get_or cs i c ≡ c → Keeps c d → AllKeep cs (set ds i d)
boxed_keep zero [] ls ds c d h n e k = absurd (omega (arith, n))
boxed_keep zero (q ∷ cs) [] ds c d h n e k = subst (λ es. AllKeep (q ∷ cs) (set es 0 d)) (sym h) (subst (λ x. Keeps x d) (sym e) k, keep_all cs)
boxed_keep zero (q ∷ cs) (m ∷ ls) ds c d h n e k = absurd h
boxed_keep (suc i) [] ls ds c d h n e k = absurd (omega (arith, n))
boxed_keep (suc i) (q ∷ cs) [] [] c d h n e k = absurd h
boxed_keep (suc i) (q ∷ cs) [] (x ∷ ds) c d h n e k = absurd h
boxed_keep (suc i) (q ∷ cs) (m ∷ ls) [] c d h n e k = absurd h
boxed_keep (suc i) (q ∷ cs) (m ∷ ls) (x ∷ ds) c d h n e k = (h.0, boxed_keep i cs ls ds c d h.3 (omega (arith, n)) e k)

pub boxed_all : (i : ℕ) (cs : List Grown) (ls : List Layout) (ds : List Grown) → PartBoxed i cs ls ds → length cs ≤ i → AllKeep cs ds × AllBoxed cs ls ds
boxed_all zero [] [] [] h n = (tt, tt)
boxed_all zero [] [] (d ∷ ds) h n = absurd (cc)
boxed_all zero [] (l ∷ ls) ds h n = absurd h
boxed_all zero (c ∷ cs) ls ds h n = absurd (omega (arith, n))
boxed_all (suc i) [] [] [] h n = (tt, tt)
boxed_all (suc i) [] [] (d ∷ ds) h n = absurd h
boxed_all (suc i) [] (l ∷ ls) ds h n = absurd h
boxed_all (suc i) (c ∷ cs) [] [] h n = absurd h
boxed_all (suc i) (c ∷ cs) [] (d ∷ ds) h n = absurd h
boxed_all (suc i) (c ∷ cs) (l ∷ ls) [] h n = absurd h
boxed_all (suc i) (c ∷ cs) (l ∷ ls) (d ∷ ds) h n = let more = boxed_all i cs ls ds h.3 (omega (arith, n)) in ((h.0, more.0), (h.1, h.2, more.1))
