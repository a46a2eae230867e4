-- The distinct values that were met, after one slot more.
use Rattle.std.proofs.Common.{◌≡◌, ℕ, zero, suc, ◌+◌, ◌<◌, Bool, true, false, cond, List, [], ◌∷◌, ◌++◌, length, get_or, Option, Some, None, ◌⊎◌, inl, inr, ⊎_elim, replicate, set, refl, ap, ap₂, sym, ◌∙◌, subst, arith}
use Rattle.std.specs.Prelude.{not, unwrap_or, is_some, nat_eq}
use Rattle.std.specs.BTreeMap.{btree_map_len, get_by, insert_entry, is_at}
use Rattle.std.specs.Cmp.Lexicographic.{pointwise, slice_cmp}
use Rattle.std.specs.List.{AllByRecursion}
use Rattle.std.specs.Map.{lookup}
use Rattle.std.specs.Ordering.{is_eq, nat_cmp}
use Rattle.std.proofs.lemmas.Bool.{false≢true}
use Rattle.std.proofs.lemmas.Grind.{flat_map-append}
use Rattle.std.proofs.lemmas.List.{map-append, length-append}
use Rattle.arrow_flat.specs.Slots.{Slot, null, bool, num, bytes, items, parts, chosen, is_valid, slot_eq}
use Rattle.arrow_flat.proofs.Lists.{all_weaker, all_join}
use Rattle.arrow_layout.specs.Canon.{is_among, seen_with, distinct}
use Rattle.arrow_layout.specs.Denote.{denote}
use Rattle.arrow_layout.specs.Layouts.{Layout, length_of}
use Rattle.arrow_layout.specs.Masks.{valid_in}
use Rattle.arrow_layout.specs.Spelling.{slot_bytes}
use Rattle.arrow_layout.specs.WellFormed.{WellFormed}
use Rattle.arrow_layout.proofs.Lengths.{length-denote}
use Rattle.arrow_layout.proofs.SlotSame.{slot_itself, slot_same}
use Rattle.arrow_scalar.specs.Spellings.{slot_at}
use Rattle.arrow_scalar.proofs.Short.{slots_told}
use Rattle.arrow_canon.specs.Picks.{pick, picks}
use Rattle.arrow_canon.specs.Runs.{places, places_of, AreWithin, IsWithin}
use Rattle.arrow_canon.specs.declared.run.Run.{Run}
use Rattle.arrow_canon.specs.declared.run.Run.TheVariants.{Slots}
use Rattle.arrow_gather.specs.Met.{AreKeyed, AreKeysOf, AreMet, IsKeyAt, IsKeyOf, place_among, source_at}
use Rattle.arrow_gather.specs.declared.distinct_values.DistinctValues.{DistinctValues}
use Rattle.arrow_gather.specs.declared.distinct_values.KeyedSlots.{KeyedSlots}
use Rattle.arrow_gather.specs.declared.distinct_values.Source.{Source}
use Rattle.arrow_gather.specs.declared.position_table.PositionTable.{PositionTable}
use Rattle.arrow_gather.specs.contracts.distinct_values.SourceOrd.TheImpl as order
use Rattle.arrow_gather.proofs.MapEntries.{found, inserted, is_key, is_other}
use Rattle.arrow_gather.proofs.Seen.{distinct_more, is_new, key_seen, key_stays, keys_more, bits_more, place_last, place_nowhere, place_other, place_there}
use Rattle.arrow_gather.proofs.Sources.{exact, sources_one}

-- a null is spelled in one way
pub null_spelled : (x : Slot) → pointwise nat_eq (slot_bytes x) (0 ∷ []) ≡ not (is_valid x)
null_spelled null = refl
null_spelled (bool b) = refl
null_spelled (num zs) = refl
null_spelled (bytes bs) = refl
null_spelled (items xs) = refl
null_spelled (parts xs) = refl
null_spelled (chosen t x) = refl

-- ---- nothing yet

pub none_met : (l : Layout) (v : DistinctValues) → v.firsts.items ≡ [] → v.spelled.entries ≡ [] → v.known.entries ≡ [] → AreMet l [] v
none_met l v f s k = record {
  values = λ e. ap (λ rs. picks e (denote l) (places rs)) f;
  within = subst (AreWithin (length_of l)) (sym f) tt;
  count = ap length s;
  spelled = λ i h. ap (λ es. lookup (is_at (λ k. slice_cmp nat_cmp (slot_bytes (slot_at l i)) k.items)) es) s;
  known = subst (AllByRecursion (λ e. IsKeyAt l [] e.0 e.1)) (sym k) tt;
}

-- ---- what was met before

pub met_same : (l : Layout) (d : List Slot) (x : Slot) (k : Option ℕ) (v : DistinctValues) → IsKeyOf d x k → AreMet l d v → AreMet l (seen_with d x) v
met_same l d x k v h m = subst (λ d. AreMet l d v) (sym (key_seen d x k h)) m

pub met_key : (l : Layout) (d : List Slot) (v : DistinctValues) (i : ℕ) (s : Source) (k : Option ℕ) → AreMet l d v → i < length_of l → valid_in l i ≡ true → s ≡ source_at l i
    → get_by (order.ghosts.cmp s) v.known ≡ Some k → IsKeyOf d (slot_at l i) k
met_key l d v i s k m h u e g = found order.ghosts.cmp exact (IsKeyAt l d) s k v.known.entries g m.known i h u (sym e)

module _ (l : Layout) (d : List Slot) (v : DistinctValues) (i : ℕ) (bs : List ℕ) (m : AreMet l d v) (h : i < length_of l) (b : bs ≡ slot_bytes (slot_at l i)) where
  spelled_place : (r : Option ℕ) → r ≡ get_by (λ k. slice_cmp nat_cmp bs k.items) v.spelled → place_among d (slot_at l i) ≡ r
  spelled_place r g = sym (g ∙ ap (λ cs. get_by (λ k. slice_cmp nat_cmp cs k.items) v.spelled) b ∙ m.spelled i h)

  pub met_spelled : (k : ℕ) → Some k ≡ get_by (λ k. slice_cmp nat_cmp bs k.items) v.spelled → is_valid (slot_at l i) ≡ true → IsKeyOf d (slot_at l i) (Some k)
  met_spelled k g u = let at = place_there (slot_at l i) d k (spelled_place (Some k) g) in (u, at.0, at.1)

  pub not_met : None ≡ get_by (λ k. slice_cmp nat_cmp bs k.items) v.spelled → is_among (slot_at l i) d ≡ false
  not_met g = place_nowhere (slot_at l i) d (spelled_place None g)

-- ---- a value more

pick_last : (e : Slot) (xs : List Slot) (i : ℕ) → i < length xs → get_or xs i e ≡ get_or xs i null
pick_last e [] i h = absurd (omega (arith, h))
pick_last e (x ∷ xs) zero h = refl
pick_last e (x ∷ xs) (suc i) h = pick_last e xs i (omega (arith, h))

slot_there : (e : Slot) (l : Layout) (i : ℕ) → WellFormed l → i < length_of l → get_or (denote l) i e ≡ slot_at l i
unfolding slot_at
slot_there e l i w h = pick_last e (denote l) i (omega (arith, h, length-denote l w))

first_more : (e : Slot) (l : Layout) (d : List Slot) (rs : List Run) (i : ℕ) → WellFormed l → i < length_of l → picks e (denote l) (places rs) ≡ d
    → picks e (denote l) (places (rs ++ Slots i 1 ∷ [])) ≡ d ++ slot_at l i ∷ []
first_more e l d rs i w h f =
    ap (picks e (denote l)) (flat_map-append places_of rs (Slots i 1 ∷ []))
    ∙ map-append (pick e (denote l)) (places rs) (Some i ∷ [])
    ∙ ap₂ (λ xs x. xs ++ x ∷ []) f (slot_there e l i w h)

told_apart : (l : Layout) (i j : ℕ) → WellFormed l → i < length_of l → j < length_of l → slot_eq (slot_at l j) (slot_at l i) ≡ false
    → slot_bytes (slot_at l j) ≡ slot_bytes (slot_at l i) → ⊥
told_apart l i j w h k e s =
    let same : slot_at l j ≡ slot_at l i = (slots_told l l j i w w refl k h).0 s in
    false≢true (sym e ∙ ap (λ x. slot_eq (slot_at l j) x) (sym same) ∙ slot_itself (slot_at l j))

module _ (l : Layout) (d : List Slot) (i : ℕ) (w : WellFormed l) (h : i < length_of l) (new : is_among (slot_at l i) d ≡ false) where
  one_spelled : (j : ℕ) (old : Option ℕ) (b : Bool) → slot_eq (slot_at l j) (slot_at l i) ≡ b → j < length_of l → old ≡ place_among d (slot_at l j)
      → cond (is_eq (slice_cmp nat_cmp (slot_bytes (slot_at l j)) (slot_bytes (slot_at l i)))) (Some (length d)) old ≡ place_among (d ++ slot_at l i ∷ []) (slot_at l j)
  one_spelled j old true e k o =
      let same : slot_at l j ≡ slot_at l i = slot_same (slot_at l j) (slot_at l i) e in
      ap (λ b. cond b (Some (length d)) old) (is_key (slot_bytes (slot_at l j)) (slot_bytes (slot_at l i)) (ap slot_bytes same))
      ∙ sym (place_last (slot_at l i) d new) ∙ ap (place_among (d ++ slot_at l i ∷ [])) (sym same)
  one_spelled j old false e k o =
      ap (λ b. cond b (Some (length d)) old) (is_other (slot_bytes (slot_at l j)) (slot_bytes (slot_at l i)) (told_apart l i j w h k e))
      ∙ o ∙ sym (place_other (slot_at l i) (slot_at l j) d e)

module _ (l : Layout) (d : List Slot) where
  keys_stay : (x : Slot) (es : List (Source × Option ℕ)) → AllByRecursion (λ e. IsKeyAt l d e.0 e.1) es → AllByRecursion (λ e. IsKeyAt l (seen_with d x) e.0 e.1) es
  keys_stay x es f =
      all_weaker (λ e. IsKeyAt l d e.0 e.1) (λ e. IsKeyAt l (seen_with d x) e.0 e.1) (λ e g j h v s. key_stays d x (slot_at l j) e.1 (g j h v s)) es f

  -- with the slot at i, whose place is the last
  pub met_new : (v u : DistinctValues) (i : ℕ) → AreMet l d v → WellFormed l → i < length_of l → is_valid (slot_at l i) ≡ true → is_among (slot_at l i) d ≡ false
      → u.firsts.items ≡ v.firsts.items ++ Slots i 1 ∷ [] → btree_map_len u.spelled ≡ btree_map_len v.spelled + 1
      → ((bs : List ℕ) → get_by (λ k. slice_cmp nat_cmp bs k.items) u.spelled
      ≡ cond (is_eq (slice_cmp nat_cmp bs (slot_bytes (slot_at l i)))) (Some (length d)) (get_by (λ k. slice_cmp nat_cmp bs k.items) v.spelled))
      → u.known.entries ≡ v.known.entries → AreMet l (seen_with d (slot_at l i)) u
  met_new v u i m w h valid new f n s k =
      let x = slot_at l i in
      let more : d ++ x ∷ [] ≡ seen_with d x = sym (is_new d x valid new) in
      record {
        values = λ e. ap (λ rs. picks e (denote l) (places rs)) f ∙ first_more e l d v.firsts.items i w h (m.values e) ∙ more;
        within = subst (AreWithin (length_of l)) (sym f) (all_join (IsWithin (length_of l)) v.firsts.items (Slots i 1 ∷ []) m.within (omega (arith, h), tt));
        count = n ∙ ap (λ n. n + 1) m.count ∙ sym (length-append d (x ∷ [])) ∙ ap length more;
        spelled = λ j g. s (slot_bytes (slot_at l j)) ∙ one_spelled l d i w h new j _ (slot_eq (slot_at l j) x) refl g (m.spelled j g) ∙ ap (λ d. place_among d (slot_at l j)) more;
        known = subst (AllByRecursion (λ e. IsKeyAt l (seen_with d x) e.0 e.1)) (sym k) (keys_stay x v.known.entries m.known);
      }

  -- with what became of the place of the slot at i
  pub met_known : (v u : DistinctValues) (i : ℕ) (s : Source) (k : Option ℕ) → AreMet l d v → WellFormed l → i < length_of l → valid_in l i ≡ true → s ≡ source_at l i
      → IsKeyOf d (slot_at l i) k → u.firsts ≡ v.firsts → u.spelled ≡ v.spelled → u.known.entries ≡ insert_entry order.ghosts.cmp v.known.entries s k → AreMet l d u
  met_known v u i s k m w h valid e key f p q =
      let here : IsKeyAt l d s k = λ j g t same. subst (λ x. IsKeyOf d x k) (sources_one l i j w h g valid t (sym e ∙ sym same)) key in
      record {
        values = λ e. ap (λ rs. picks e (denote l) (places rs.items)) f ∙ m.values e;
        within = subst (λ rs. AreWithin (length_of l) rs.items) (sym f) m.within;
        count = ap (λ t. btree_map_len t) p ∙ m.count;
        spelled = λ j g. ap (λ t. get_by (λ k. slice_cmp nat_cmp (slot_bytes (slot_at l j)) k.items) t) p ∙ m.spelled j g;
        known = subst (AllByRecursion (λ e. IsKeyAt l d e.0 e.1)) (sym q) (inserted order.ghosts.cmp exact (IsKeyAt l d) s k v.known.entries m.known here);
      }

-- ---- the keys that are known of positions

get_or-none : {X : Type 0} (n i : ℕ) → get_or {A = Option X} (replicate n None) i None ≡ None
get_or-none zero i = refl
get_or-none (suc n) zero = refl
get_or-none (suc n) (suc i) = get_or-none n i

pub none_known : (l : Layout) (d : List Slot) (t : PositionTable (Option ℕ)) (n : ℕ) → t.known.items ≡ replicate n None → AreKeysOf l d t
none_known l d t n e i k h g = absurd (none (sym (get_or-none n i) ∙ sym (ap (λ ks. get_or ks i None) e) ∙ g)) where
  none : None ≡ Some k → ⊥
  none e = cc

pub known_stay : (l : Layout) (d : List Slot) (x : Slot) (t : PositionTable (Option ℕ)) → AreKeysOf l d t → AreKeysOf l (seen_with d x) t
known_stay l d x t f i k h g = key_stays d x (slot_at l i) k (f i k h g)

-- what is known after a key is set was set or was known
set_known : {X : Type 0} (xs : List (Option X)) (i j : ℕ) (x y : X) → get_or (set xs i (Some x)) j None ≡ Some y → ((j ≡ i) × (x ≡ y)) ⊎ (get_or xs j None ≡ Some y)
set_known [] i j x y h = inr h
set_known (z ∷ zs) zero zero x y h = inl (refl, some h) where
  some : Some x ≡ Some y → x ≡ y
  some h = cc
set_known (z ∷ zs) zero (suc j) x y h = inr h
set_known (z ∷ zs) (suc i) zero x y h = inr h
set_known (z ∷ zs) (suc i) (suc j) x y h = ⊎_elim (λ p. inl (ap suc p.0, p.1)) (λ g. inr g) (set_known zs i j x y h)

pub known_more : (l : Layout) (d : List Slot) (t u : PositionTable (Option ℕ)) (i : ℕ) (k : Option ℕ) → AreKeysOf l d t → IsKeyOf d (slot_at l i) k
    → u.known.items ≡ set t.known.items i (Some k) → AreKeysOf l d u
known_more l d t u i k f key e j m h g =
    ⊎_elim
    (λ (p : (j ≡ i) × (k ≡ m)). subst (λ n. IsKeyOf d (slot_at l j) n) p.1 (subst (λ n. IsKeyOf d (slot_at l n) k) (sym p.0) key))
    (λ (q : get_or t.known.items j None ≡ Some m). f j m h q)
    (set_known t.known.items i j k m (sym (ap (λ ks. get_or ks j None) e) ∙ g))

-- ---- the keys of slots

pub none_keyed : (l : Layout) (b : KeyedSlots) → AreMet l [] b.values → b.keys.items ≡ [] → b.validity ≡ [] → AreKeyed l [] b
none_keyed l b m k v = record { values = m; keys = k; bits = v }

-- with one slot more
pub keyed_more : (l : Layout) (s : List Slot) (x : Slot) (k : Option ℕ) (b c : KeyedSlots) → AreKeyed l s b → AreMet l (seen_with (distinct s) x) c.values
    → IsKeyOf (seen_with (distinct s) x) x k → c.keys.items ≡ b.keys.items ++ unwrap_or k 0 ∷ [] → c.validity ≡ b.validity ++ is_some k ∷ [] → AreKeyed l (s ++ x ∷ []) c
keyed_more l s x k b c h m key f g = record {
  values = subst (λ d. AreMet l d c.values) (sym (distinct_more s x)) m;
  keys = f ∙ keys_more s x b.keys.items k h.keys key;
  bits = g ∙ bits_more s (seen_with (distinct s) x) x b.validity k h.bits key;
}

-- ---- what the tests say

pub not_null : (r b : Bool) → r ≡ not b → r ≡ false → b ≡ true
not_null r true e h = refl
not_null r false e h = absurd (false≢true (sym h ∙ e))

pub was_null : (r b : Bool) → r ≡ not b → r ≡ true → b ≡ false
was_null r true e h = absurd (false≢true (sym e ∙ h))
was_null r false e h = refl
