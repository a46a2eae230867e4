-- What pushes do to builders of binary values and of strings by views.
use Rattle.std.proofs.Common.{◌≡◌, ℕ, zero, suc, ◌+◌, ◌<◌, ◌≤◌, nat_le, Bool, true, false, cond, List, [], ◌∷◌, ◌++◌, map, length, take, refl, ap, sym, ◌∙◌, subst, arith, inl, inr, Option, Some, None}
use Rattle.std.specs.Prelude.{◌&&◌, ◌⊎◌, ◌↔◌, IsTrue, IsUtf8, Result, Ok, Err, MatchResult}
use Rattle.std.specs.List.{AllByRecursion}
use Rattle.std.proofs.lemmas.Bool.{le-leb, lt-leb, leb-true, leb-false}
use Rattle.std.proofs.lemmas.List.{map-append}
use Rattle.arrow_types.specs.Seen.{seen}
use Rattle.arrow_types.specs.declared.datatype.ArrowDataType.{ArrowDataType}
use Rattle.arrow_types.specs.declared.error.PolarsError.{PolarsError}
use Rattle.arrow_types.specs.declared.error.PolarsError.TheVariants.{ComputeError, OutOfMemory}
use Rattle.arrow_types.specs.declared.error.Reason.TheVariants.{LengthOverflow}
use Rattle.arrow_flat.specs.Slots.{Slot, bytes}
use Rattle.arrow_flat.specs.Packs.{view_limit}
use Rattle.arrow_flat.specs.Built.{Takes, IsUnchanged, IsCutTo, Pushes, ExtendsFrom}
use Rattle.arrow_views.specs.ViewArrays.{AreTextsIf}
use Rattle.arrow_flat.specs.Natives.{AreBytes}
use Rattle.arrow_flat.proofs.Lists.{all_join, all_take}
use Rattle.arrow_push_bytes.specs.Strings.{total_of}
use Rattle.arrow_push_bytes.proofs.Strings.{total_append, total_take}
use Rattle.arrow_push_bytes.proofs.BuiltStrings.{strings_take, strings_keep, strings_cut}
use Rattle.arrow_push_bytes.specs.BuiltStrings.{TypedStrings}
use Rattle.arrow_push_bytes.specs.BuiltViews.{most_bytes, has_room, views_refusal, built_views, IsPacked, ArePacked}

-- ---- room

pub room_is : (n k : ℕ) → k ≤ view_limit → n + k ≤ most_bytes → has_room n k ≡ true
room_is n k h l = ap (λ c. c && nat_le (n + k) most_bytes) (le-leb k view_limit h) ∙ le-leb (n + k) most_bytes l

pub too_long : (n k : ℕ) → view_limit < k → has_room n k ≡ false
too_long n k h = ap (λ c. c && nat_le (n + k) most_bytes) (lt-leb k view_limit h)

pub too_many : (n k : ℕ) → most_bytes < n + k → has_room n k ≡ false
too_many n k h = ap (λ c. nat_le k view_limit && c) (lt-leb (n + k) most_bytes h) ∙ by (nat_le k view_limit)
  where
    by : (c : Bool) → c && false ≡ false
    by true = refl
    by false = refl

-- what a test denied
pub beyond : (r : Bool) (a b : ℕ) → (IsTrue r ↔ (a ≤ b)) → r ≡ false → b < a
beyond r a b e f = by (nat_le a b) refl f
  where
    by : (c : Bool) → nat_le a b ≡ c → r ≡ false → b < a
    by true g f = let t : r ≡ true = e.1 (leb-true a b g) in cc
    by false g f = leb-false a b g

pub one_refused : (n : ℕ) (v : List ℕ) → has_room n (length v) ≡ false → views_refusal n (bytes v ∷ []) ≡ Some (ComputeError LengthOverflow)
one_refused n v e = ap (λ c. cond c None (Some (ComputeError LengthOverflow))) e

pub one_goes : (n : ℕ) (v : List ℕ) → has_room n (length v) ≡ true → views_refusal n (bytes v ∷ []) ≡ None
one_goes n v e = ap (λ c. cond c None (Some (ComputeError LengthOverflow))) e

-- values of which none is too long
pub all_go : (n : ℕ) (vs : List (List ℕ)) → AllByRecursion IsPacked vs → n + total_of vs ≤ most_bytes → views_refusal n (map bytes vs) ≡ None
all_go n [] h l = refl
all_go n (v ∷ vs) h l =
    ap (λ c. cond c (views_refusal (n + length v) (map bytes vs)) (Some (ComputeError LengthOverflow))) (room_is n (length v) h.0 (omega arith))
    ∙ all_go (n + length v) vs h.1 (omega arith)

pub room_fits : (n k : ℕ) → has_room n k ≡ true → (k ≤ view_limit) × (n + k ≤ most_bytes)
room_fits n k e = by (nat_le k view_limit) (nat_le (n + k) most_bytes) refl refl e
  where
    by : (c d : Bool) → nat_le k view_limit ≡ c → nat_le (n + k) most_bytes ≡ d → c && d ≡ true → (k ≤ view_limit) × (n + k ≤ most_bytes)
    by true true f g e = (leb-true k view_limit f, leb-true (n + k) most_bytes g)
    by true false f g e = cc
    by false d f g e = cc

pub some_refused : (n : ℕ) (vs : List (List ℕ)) → n ≤ most_bytes → most_bytes < n + total_of vs → views_refusal n (map bytes vs) ≡ Some (ComputeError LengthOverflow)
some_refused n [] h l = absurd (omega arith)
some_refused n (v ∷ vs) h l = by (has_room n (length v)) refl (λ k. some_refused (n + length v) vs k (omega arith))
  where
    by : (c : Bool) → has_room n (length v) ≡ c → (n + length v ≤ most_bytes → views_refusal (n + length v) (map bytes vs) ≡ Some (ComputeError LengthOverflow))
        → cond c (views_refusal (n + length v) (map bytes vs)) (Some (ComputeError LengthOverflow)) ≡ Some (ComputeError LengthOverflow)
    by true e f = f (room_fits n (length v) e).1
    by false e f = refl

-- ---- pushes

after : (n : ℕ) (zs : List (List ℕ)) (ys : List Slot) → views_refusal n (map bytes zs) ≡ None → views_refusal (n + total_of zs) ys ≡ views_refusal n (map bytes zs ++ ys)
after n [] ys e = let q : n + 0 ≡ n = omega arith in ap (λ m. views_refusal m ys) q
after n (z ∷ zs) ys e = by (has_room n (length z)) e (λ k. after (n + length z) zs ys k)
  where
    by : (c : Bool) → cond c (views_refusal (n + length z) (map bytes zs)) (Some (ComputeError LengthOverflow)) ≡ None
        → (views_refusal (n + length z) (map bytes zs) ≡ None → views_refusal (n + length z + total_of zs) ys ≡ views_refusal (n + length z) (map bytes zs ++ ys))
        → views_refusal (n + (length z + total_of zs)) ys ≡ cond c (views_refusal (n + length z) (map bytes zs ++ ys)) (Some (ComputeError LengthOverflow))
    by true e f = let q : n + (length z + total_of zs) ≡ n + length z + total_of zs = omega arith in ap (λ m. views_refusal m ys) q ∙ f e
    by false e f = cc

abbrev R : List (List ℕ) → List Slot → Option PolarsError
R xs ys = views_refusal (total_of xs) ys

pub views_take : (b : TypedStrings) (t : ArrowDataType) (zs ws : List (List ℕ)) → t ≡ b.dtype → ws ≡ b.strings ++ zs → views_refusal (total_of b.strings) (map bytes zs) ≡ None
    → Takes (built_views b) (built_views (record { dtype = t; strings = ws })) (map bytes zs)
views_take b t zs ws d e r =
    strings_take R (seen b.dtype) (seen t) b.strings zs ws (ap seen d) e r
    (λ ys. ap (λ n. views_refusal n ys) (total_append b.strings zs) ∙ after (total_of b.strings) zs ys r)

pub views_keep : (b : TypedStrings) (t : ArrowDataType) (ws : List (List ℕ)) → t ≡ b.dtype → ws ≡ b.strings
    → IsUnchanged (built_views b) (built_views (record { dtype = t; strings = ws }))
views_keep b t ws d e = strings_keep R (seen b.dtype) (seen t) b.strings ws (ap seen d) e

pub views_cut : (b : TypedStrings) (ws : List (List ℕ)) (n : ℕ) → ws ≡ take n b.strings
    → IsCutTo n (built_views b) (built_views (record { dtype = b.dtype; strings = ws }))
views_cut b ws n e = strings_cut R (seen b.dtype) (seen b.dtype) b.strings ws n refl e

-- ---- what the values keep

pub packed_none : (text : Bool) → ArePacked text []
packed_none true = record { small = tt; fit = tt; few = omega arith; texts = tt }
packed_none false = record { small = tt; fit = tt; few = omega arith; texts = tt }

pub texts_join : (text : Bool) (xs ys : List (List ℕ)) → AreTextsIf text xs → AreTextsIf text ys → AreTextsIf text (xs ++ ys)
texts_join true xs ys h k = all_join IsUtf8 xs ys h k
texts_join false xs ys h k = tt

pub texts_first : (text : Bool) (n : ℕ) (xs : List (List ℕ)) → AreTextsIf text xs → AreTextsIf text (take n xs)
texts_first true n xs h = all_take IsUtf8 n xs h
texts_first false n xs h = tt

pub packed_join : (text : Bool) (xs ys : List (List ℕ)) → ArePacked text xs → AllByRecursion AreBytes ys → AllByRecursion IsPacked ys → AreTextsIf text ys → total_of xs + total_of ys ≤ most_bytes → ArePacked text (xs ++ ys)
packed_join text xs ys h small fit texts few = record {
  small = all_join AreBytes xs ys h.small small;
  fit = all_join IsPacked xs ys h.fit fit;
  few = omega (arith, total_append xs ys, few);
  texts = texts_join text xs ys h.texts texts;
}

pub packed_more : (text : Bool) (xs : List (List ℕ)) (v : List ℕ) → ArePacked text xs → AreBytes v → has_room (total_of xs) (length v) ≡ true → AreTextsIf text (v ∷ []) → ArePacked text (xs ++ v ∷ [])
packed_more text xs v h small room texts =
    let fits = room_fits (total_of xs) (length v) room in
    packed_join text xs (v ∷ []) h (small, tt) (fits.0, tt) texts (omega (arith, fits.1))

pub packed_first : (text : Bool) (n : ℕ) (xs : List (List ℕ)) → ArePacked text xs → ArePacked text (take n xs)
packed_first text n xs h = record {
  small = all_take AreBytes n xs h.small;
  fit = all_take IsPacked n xs h.fit;
  few = omega (arith, total_take n xs, h.few);
  texts = texts_first text n xs h.texts;
}

pub none_text : (text : Bool) → AreTextsIf text ([] ∷ [])
none_text true = (([], (refl, refl)), tt)
none_text false = tt

pub none_goes : (text : Bool) (xs : List (List ℕ)) → ArePacked text xs → has_room (total_of xs) 0 ≡ true
none_goes text xs h = room_is (total_of xs) 0 (omega arith) (omega (arith, h.few))

-- ---- what a call leaves, whatever its answer

pub either_way : {A : Type 0} (P : A → Type 0) (r : Result (Unit {0}) PolarsError) (old more new : A) (R : Type 0) (S : PolarsError → Type 0)
    → MatchResult r (λ _. (new ≡ more) × R) (λ e. (new ≡ old) × S e) → P more → P old → P new
either_way P (Ok u) old more new R S h a b = subst P (sym h.0) a
either_way P (Err e) old more new R S h a b = subst P (sym h.0) b

module _ (limit : ℕ) (large : most_bytes < limit) (b : TypedStrings) (ws : List (List ℕ)) where
  pub views_pushed : (v : List ℕ) (r : Result (Unit {0}) PolarsError) → has_room (total_of b.strings) (length v) ≡ true
      → MatchResult r (λ _. (ws ≡ b.strings ++ v ∷ []) × (total_of b.strings + length v < limit))
      (λ e. (ws ≡ b.strings) × ((e ≡ OutOfMemory) ⊎ ((e ≡ ComputeError LengthOverflow) × (limit ≤ total_of b.strings + length v))))
      → Pushes (λ y. y ≡ bytes v) (λ y. y ≡ bytes v) (built_views b) (built_views (record { dtype = b.dtype; strings = ws })) r
  views_pushed v (Ok u) room h = (bytes v, refl, views_take b b.dtype (v ∷ []) ws refl h.0 (one_goes (total_of b.strings) v room))
  views_pushed v (Err e) room h = (views_keep b b.dtype ws refl h.0, why h.1)
    where
      why : (e ≡ OutOfMemory) ⊎ ((e ≡ ComputeError LengthOverflow) × (limit ≤ total_of b.strings + length v))
          → (e ≡ OutOfMemory) ⊎ ((y : Slot) × (y ≡ bytes v) × ((built_views b).refusal (y ∷ []) ≡ Some e))
      why (inl m) = inl m
      why (inr p) = absurd (omega (arith, large, p.1, (room_fits (total_of b.strings) (length v) room).1))

  pub views_extended : (ys : List (List ℕ)) (r : Result (Unit {0}) PolarsError) → AllByRecursion IsPacked ys → total_of b.strings + total_of ys ≤ most_bytes
      → MatchResult r (λ _. (ws ≡ b.strings ++ ys) × (total_of b.strings + total_of ys < limit))
      (λ e. (ws ≡ b.strings) × ((e ≡ OutOfMemory) ⊎ ((e ≡ ComputeError LengthOverflow) × (limit ≤ total_of b.strings + total_of ys))))
      → ExtendsFrom ((built_views b).refusal (map bytes ys)) (Unit {0}) (built_views b) (built_views (record { dtype = b.dtype; strings = ws })) (map bytes ys) r
  views_extended ys (Ok u) fit few h =
      let goes : views_refusal (total_of b.strings) (map bytes ys) ≡ None = all_go (total_of b.strings) ys fit few in
      let k = views_take b b.dtype ys ws refl h.0 goes in (goes, k.held, λ _. k)
  views_extended ys (Err e) fit few h = (views_keep b b.dtype ws refl h.0, why h.1)
    where
      why : (e ≡ OutOfMemory) ⊎ ((e ≡ ComputeError LengthOverflow) × (limit ≤ total_of b.strings + total_of ys))
          → (e ≡ OutOfMemory) ⊎ (views_refusal (total_of b.strings) (map bytes ys) ≡ Some e)
      why (inl m) = inl m
      why (inr p) = absurd (omega (arith, large, p.1, few))
