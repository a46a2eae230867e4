-- Lists that are read item by item, and objects of two members.
use Rattle.std.proofs.Common.{◌≡◌, ℕ, ◌+◌, ◌<◌, List, [], ◌∷◌, ◌++◌, length, get_or, take, suc, zero, refl, ap, sym, ◌∙◌, arith, Option, Some, None, add-one}
use Rattle.std.proofs.Math.Seq.{take-suc}
use Rattle.std.proofs.lemmas.List.{get_or-map, length-map}
use Rattle.std.specs.List.{take-map}
use Rattle.std.specs.Prelude.{option_map, option_and_then, map, ◌==◌, if◌then◌else◌, unwrap_or}
use Rattle.std.specs.Option.{option_zip}
use Rattle.std.proofs.lemmas.Bool.{ne_eqb}
use Rattle.serde_json.specs.Data.{Data, Members}
use Rattle.serde_json.specs.Find.{as_object, get}
use Rattle.serde_json.specs.Events.{members_len}
use Rattle.serde_json.specs.View.{items_of}
use Rattle.type_json.specs.Values.{traverse, list_of, two_members}

pub list_of-items_of : (ds : List Data) → list_of (items_of ds) ≡ ds
list_of-items_of [] = refl
list_of-items_of (d ∷ ds) = ap (λ l. d ∷ l) (list_of-items_of ds)

module _ {A B : Type 0} (f : A → Option B) where
  abbrev add : B → Option (List B) → Option (List B)
  add y o = option_map (λ ys. y ∷ ys) o

  abbrev with : Option (List B) → Option B → Option (List B)
  with o p = option_and_then (λ y. add y o) p

  abbrev snoc : Option (List B) → Option B → Option (List B)
  snoc o p = option_and_then (λ ys. option_map (λ y. ys ++ y ∷ []) p) o

  with-none : (p : Option B) → with None p ≡ None
  with-none None = refl
  with-none (Some y) = refl

  first : (p : Option B) → with (Some []) p ≡ snoc (Some []) p
  first None = refl
  first (Some y) = refl

  nested : (o : Option (List B)) (a p : Option B) → with (snoc o p) a ≡ snoc (with o a) p
  nested o None p = refl
  nested None (Some y) p = refl
  nested (Some ys) (Some y) None = refl
  nested (Some ys) (Some y) (Some z) = refl

  -- one that gives nothing
  pub traverse-none : (xs : List A) (i : ℕ) (d : A) → i < length xs → f (get_or xs i d) ≡ None → traverse f xs ≡ None
  traverse-none [] i d h e = absurd (omega (arith, h))
  traverse-none (x ∷ xs) zero d h e = ap (with (traverse f xs)) e
  traverse-none (x ∷ xs) (suc i) d h e = ap (λ o. with o (f x)) (traverse-none xs i d (omega (arith, h)) e) ∙ with-none (f x)

  traverse-snoc : (xs : List A) (x : A) → traverse f (xs ++ x ∷ []) ≡ snoc (traverse f xs) (f x)
  traverse-snoc [] x = first (f x)
  traverse-snoc (z ∷ xs) x = ap (λ o. with o (f z)) (traverse-snoc xs x) ∙ nested (traverse f xs) (f z) (f x)

  -- one more
  pub traverse-more : (xs : List A) (i : ℕ) (d : A) (ys : List B) (y : B) → i < length xs → traverse f (take i xs) ≡ Some ys → f (get_or xs i d) ≡ Some y
      → traverse f (take (i + 1) xs) ≡ Some (ys ++ y ∷ [])
  traverse-more xs i d ys y h e one =
      ap (traverse f) (ap (λ n. take n xs) (add-one i) ∙ take-suc xs i d h)
      ∙ traverse-snoc (take i xs) (get_or xs i d)
      ∙ ap (λ o. snoc o (f (get_or xs i d))) e
      ∙ ap (snoc (Some ys)) one

-- the same of what g makes of each
module _ {C A B : Type 0} (g : C → A) (f : A → Option B) where
  pub traverse_map-none : (xs : List C) (i : ℕ) (d : C) → i < length xs → f (g (get_or xs i d)) ≡ None → traverse f (map g xs) ≡ None
  traverse_map-none xs i d h e = traverse-none f (map g xs) i (g d) (omega (arith, h, length-map xs g)) (ap f (get_or-map g xs i d (g d) h) ∙ e)

  pub traverse_map-more : (xs : List C) (i : ℕ) (d : C) (ys : List B) (y : B) → i < length xs → traverse f (map g (take i xs)) ≡ Some ys → f (g (get_or xs i d)) ≡ Some y
      → traverse f (map g (take (i + 1) xs)) ≡ Some (ys ++ y ∷ [])
  traverse_map-more xs i d ys y h e one =
      ap (traverse f) (sym (take-map g (i + 1) xs))
      ∙ traverse-more f (map g xs) i (g d) ys y (omega (arith, h, length-map xs g)) (ap (traverse f) (take-map g i xs) ∙ e) (ap f (get_or-map g xs i d (g d) h) ∙ one)

-- ---- objects of two members

module _ (k l : List ℕ) (d : Data) (ms : Members) (is : as_object d ≡ Some ms) where
  abbrev by_len : ℕ → Option (Data × Data)
  by_len n = if n == 2 then option_zip (get k d) (get l d) else None

  by_count : two_members k l d ≡ by_len (members_len ms)
  by_count = ap (λ o. by_len (unwrap_or (option_map members_len o) 0)) is

  pub two_members-other : (members_len ms ≡ 2 → ⊥) → two_members k l d ≡ None
  two_members-other ne = by_count ∙ ap (λ b. if b then option_zip (get k d) (get l d) else None) (ne_eqb _ _ ne)

  pub two_members-found : (a b : Data) → members_len ms ≡ 2 → get k d ≡ Some a → get l d ≡ Some b → two_members k l d ≡ Some (a, b)
  two_members-found a b two e f = by_count ∙ ap by_len two ∙ ap (λ o. option_zip o (get l d)) e ∙ ap (option_zip (Some a)) f
