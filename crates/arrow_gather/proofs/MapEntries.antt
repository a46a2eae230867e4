-- What stands under a key of an ordered map, and what does after one entry more.
use Rattle.std.proofs.Common.{◌≡◌, ℕ, Bool, true, false, cond, List, [], ◌∷◌, Option, Some, refl, ap, sym, ◌∙◌, subst}
use Rattle.std.specs.BTreeMap.{insert_entry, is_at}
use Rattle.std.specs.Cmp.Lexicographic.{slice_cmp}
use Rattle.std.specs.List.{AllByRecursion}
use Rattle.std.specs.Map.{lookup}
use Rattle.std.specs.Ordering.{is_eq, match_ordering, nat_cmp}
use Rattle.std.specs.declared.cmp.Ordering.{Ordering}
use Rattle.std.specs.declared.cmp.Ordering.TheVariants.{Less, Equal, Greater}
use Rattle.std.proofs.lemmas.Bool.{false≢true}
use Rattle.std.proofs.lemmas.Cmp.{nat_list_cmp_total, tied_itself}
use Rattle.std.proofs.lemmas.Map.Lookups.{exact_bytes}

equal_by : (o : Ordering) → is_eq o ≡ true → o ≡ Equal
equal_by Less h = absurd (false≢true h)
equal_by Equal h = refl
equal_by Greater h = absurd (false≢true h)

-- ---- what holds of each entry

module _ {K X : Type 0} (cmp : K → K → Ordering) (exact : (x y : K) → cmp x y ≡ Equal → x ≡ y) (P : K → X → Type 0) where
  abbrev AllHold : List (K × X) → Type 0
  AllHold es = AllByRecursion (λ e. P e.0 e.1) es

  found_by : (k q : K) (v w : X) (rest : Option X) (b : Bool) → (b ≡ true → k ≡ q) → cond b (Some w) rest ≡ Some v → P q w → (rest ≡ Some v → P k v) → P k v
  found_by k q v w rest true e h p f = let same : w ≡ v = cc in subst (λ x. P x v) (sym (e refl)) (subst (P q) same p)
  found_by k q v w rest false e h p f = f h

  -- what is found
  pub found : (k : K) (v : X) (es : List (K × X)) → lookup (is_at (cmp k)) es ≡ Some v → AllHold es → P k v
  found k v [] h p = cc
  found k v (e ∷ es) h p =
      found_by k e.0 v e.1 (lookup (is_at (cmp k)) es) (is_eq (cmp k e.0)) (λ t. exact k e.0 (equal_by (cmp k e.0) t)) h p.0 (λ g. found k v es g p.1)

  inserted_by : (k q : K) (v w : X) (es fs : List (K × X)) (o : Ordering) → (o ≡ Equal → k ≡ q) → P q w → AllHold es → P k v → AllHold fs
      → AllHold (match_ordering o ((k, v) ∷ (q, w) ∷ es) ((q, v) ∷ es) ((q, w) ∷ fs))
  inserted_by k q v w es fs Less e p ps n f = (n, (p, ps))
  inserted_by k q v w es fs Equal e p ps n f = (subst (λ x. P x v) (e refl) n, ps)
  inserted_by k q v w es fs Greater e p ps n f = (p, f)

  -- one more
  pub inserted : (k : K) (v : X) (es : List (K × X)) → AllHold es → P k v → AllHold (insert_entry cmp es k v)
  inserted k v [] ps n = (n, tt)
  inserted k v (e ∷ es) ps n = inserted_by k e.0 v e.1 es (insert_entry cmp es k v) (cmp k e.0) (exact k e.0) ps.0 ps.1 n (inserted k v es ps.1 n)

-- ---- keys that are lists of bytes

swap : {X : Type 0} (a b : Bool) (v w : X) (rest : Option X) → (a ≡ true → b ≡ true → ⊥) → cond b (Some w) (cond a (Some v) rest) ≡ cond a (Some v) (cond b (Some w) rest)
swap true true v w rest h = absurd (h refl refl)
swap true false v w rest h = refl
swap false b v w rest h = refl

twice : {X : Type 0} (a b : Bool) (v w : X) (rest : Option X) → a ≡ b → cond b (Some v) rest ≡ cond a (Some v) (cond b (Some w) rest)
twice true true v w rest h = refl
twice true false v w rest h = absurd (false≢true (sym h))
twice false true v w rest h = absurd (false≢true h)
twice false false v w rest h = refl

module _ {K : Type 0} (bytes : K → List ℕ) where
  abbrev order : K → K → Ordering
  order x y = slice_cmp nat_cmp (bytes x) (bytes y)

  abbrev at : List ℕ → K → Bool
  at bs k = is_eq (slice_cmp nat_cmp bs (bytes k))

  bytes_by : (bs : List ℕ) (k : K) → at bs k ≡ true → bs ≡ bytes k
  bytes_by bs k h = exact_bytes bs (bytes k) (equal_by (slice_cmp nat_cmp bs (bytes k)) h)

  apart : (bs : List ℕ) (k q : K) → order k q ≡ Greater → at bs k ≡ true → at bs q ≡ true → ⊥
  apart bs k q g h j =
      let same : bytes k ≡ bytes q = sym (bytes_by bs k h) ∙ bytes_by bs q j in
      let equal : order k q ≡ Equal = ap (λ cs. slice_cmp nat_cmp (bytes k) cs) (sym same) ∙ tied_itself nat_list_cmp_total (bytes k) in
      differ (sym g ∙ equal)
    where
      differ : Greater ≡ Equal → ⊥
      differ e = cc

  module _ {X : Type 0} where
    looked_by : (bs : List ℕ) (k q : K) (v w : X) (es fs : List (K × X)) (o : Ordering) → order k q ≡ o
        → lookup (at bs) fs ≡ cond (at bs k) (Some v) (lookup (at bs) es)
        → lookup (at bs) (match_ordering o ((k, v) ∷ (q, w) ∷ es) ((q, v) ∷ es) ((q, w) ∷ fs)) ≡ cond (at bs k) (Some v) (cond (at bs q) (Some w) (lookup (at bs) es))
    looked_by bs k q v w es fs Less e h = refl
    looked_by bs k q v w es fs Equal e h =
        twice (at bs k) (at bs q) v w (lookup (at bs) es) (ap (λ cs. is_eq (slice_cmp nat_cmp bs cs)) (exact_bytes (bytes k) (bytes q) e))
    looked_by bs k q v w es fs Greater e h =
        ap (λ o. cond (at bs q) (Some w) o) h ∙ swap (at bs k) (at bs q) v w (lookup (at bs) es) (apart bs k q e)

    -- what stands under these bytes after one entry more
    pub looked_up : (bs : List ℕ) (k : K) (v : X) (es : List (K × X)) → lookup (at bs) (insert_entry order es k v) ≡ cond (at bs k) (Some v) (lookup (at bs) es)
    looked_up bs k v [] = refl
    looked_up bs k v (e ∷ es) = looked_by bs k e.0 v e.1 es (insert_entry order es k v) (order k e.0) refl (looked_up bs k v es)

-- whether bytes are a key's
pub is_key : (bs cs : List ℕ) → bs ≡ cs → is_eq (slice_cmp nat_cmp bs cs) ≡ true
is_key bs cs e = ap (λ ds. is_eq (slice_cmp nat_cmp bs ds)) (sym e) ∙ ap is_eq (tied_itself nat_list_cmp_total bs)

not_by : (b : Bool) → (b ≡ true → ⊥) → b ≡ false
not_by true h = absurd (h refl)
not_by false h = refl

pub is_other : (bs cs : List ℕ) → (bs ≡ cs → ⊥) → is_eq (slice_cmp nat_cmp bs cs) ≡ false
is_other bs cs h = not_by (is_eq (slice_cmp nat_cmp bs cs)) (λ t. h (exact_bytes bs cs (equal_by (slice_cmp nat_cmp bs cs) t)))
