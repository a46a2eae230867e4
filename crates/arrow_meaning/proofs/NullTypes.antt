-- Types that columns can store, that are carried, and of which slots that say nothing fit, at each variant.
use Rattle.std.proofs.Common.{Bool, IsTrue, List, None, Option, Some, [], ap, arith, false, get_or, inl, inr, length, refl, subst, suc, sym, take, true, zero, ℕ, ℤ, ◌*◌, ◌<◌, ◌^◌, ◌∙◌, ◌∷◌, ◌≡◌, ◌≤◌, ◌↔◌, ◌⊎◌}
use Rattle.std.specs.Prelude.{SomeIff, not, nat_eq, slice_get, ⊤}
use Rattle.std.specs.Option.{is_some}
use Rattle.std.proofs.lemmas.Bool.Decides.{nat_tests}
use Rattle.std.specs.List.{AllByRecursion}
use Rattle.std.proofs.lemmas.Bool.{false≢true}
use Rattle.arrow_types.specs.Carried.{AreCarried, AreIds, IsCarried, IsPair, count_fields}
use Rattle.arrow_types.specs.Seen.{seen, seen_fields, seen_union, back, back_field, back_fields}
use Rattle.arrow_types.specs.SeenAt as at
use Rattle.arrow_types.specs.TypeData.{TypeData, FieldList, no_fields, and_field}
use Rattle.arrow_types.specs.TypeData as T
use Rattle.arrow_types.proofs.Back.{back-seen}
use Rattle.arrow_types.specs.declared.datatype.ArrowDataType.{ArrowDataType}
use Rattle.arrow_types.specs.declared.datatype.ArrowDataType as A
use Rattle.arrow_types.specs.declared.datatype.ExtensionType.{ExtensionType}
use Rattle.arrow_types.specs.declared.datatype.Field.{Field}
use Rattle.arrow_types.specs.declared.datatype.IntegerType.{IntegerType}
use Rattle.arrow_types.specs.declared.datatype.UnionType.{UnionType, out-UnionType, roll-UnionType}
use Rattle.arrow_layout.specs.NullsFit.{AllNullsFit, NullsFit, SelectedNullsFit}
use Rattle.arrow_layout.specs.Forms.{form_of}
use Rattle.arrow_types.specs.Select.{first_number, select}
use Rattle.arrow_types.specs.declared.datatype.IntervalUnit.{IntervalUnit}
use Rattle.arrow_types.specs.declared.datatype.IntervalUnit.TheVariants.{DayTime, MonthDayNano, YearMonth}
use Rattle.arrow_types.specs.declared.datatype.UnionMode.{UnionMode}
use Rattle.arrow_types.specs.declared.datatype.UnionMode.TheVariants.{Dense, Sparse}
use Rattle.arrow_meaning.specs.NullParts.{HasLegalFields, IsSimple}
use Rattle.arrow_meaning.specs.Storable.{AreStorable, IsStorable}

-- what is told of a type, at the variant that it is
pub told : (P : TypeData → Type 0) (r : Bool) {t v : ArrowDataType} {d : TypeData} → seen v ≡ d → t ≡ v → IsTrue r ↔ P d → IsTrue r ↔ P (seen t)
told P r e is h = subst (λ x. IsTrue r ↔ P x) (sym (ap seen is ∙ e)) h

pub back_from : (P : TypeData → Type 0) {t v : ArrowDataType} {d : TypeData} → seen v ≡ d → t ≡ v → P (seen t) → P d
back_from P e is h = subst P (ap seen is ∙ e) h

pub no : {P : Type 0} → (P → ⊥) → IsTrue false ↔ P
no h = (λ e. absurd (false≢true e), λ p. absurd (h p))

pub yes : {P : Type 0} → P → IsTrue true ↔ P
yes p = (λ e. p, λ h. refl)

-- ---- the fields of a type, one after the other

abbrev pub EachField : (TypeData → Type 0) → List Field → Type 0
EachField P [] = ⊤
EachField P (f ∷ fs) = P (seen f.dtype) × EachField P fs

module _ (P : TypeData → Type 0) where
  pub each_step : (fs : List Field) (i : ℕ) (f : Field) → i < length fs → f ≡ get_or fs i f → P (seen f.dtype) → EachField P (take i fs) → EachField P (take (suc i) fs)
  each_step [] i f l e p h = absurd (omega (arith, l))
  each_step (g ∷ fs) zero f l e p h = (subst (λ x. P (seen x.dtype)) e p, tt)
  each_step (g ∷ fs) (suc i) f l e p h = (h.0, each_step fs i f (omega (arith, l)) e p h.1)

  pub each_at : (fs : List Field) (i : ℕ) (f : Field) → i < length fs → f ≡ get_or fs i f → EachField P fs → P (seen f.dtype)
  each_at [] i f l e h = absurd (omega (arith, l))
  each_at (g ∷ fs) zero f l e h = subst (λ x. P (seen x.dtype)) (sym e) h.0
  each_at (g ∷ fs) (suc i) f l e h = each_at fs i f (omega (arith, l)) e h.1

  pub each_whole : (fs : List Field) (i : ℕ) → length fs ≤ i → EachField P (take i fs) → EachField P fs
  each_whole [] i l h = tt
  each_whole (g ∷ fs) zero l h = absurd (omega (arith, l))
  each_whole (g ∷ fs) (suc i) l h = (h.0, each_whole fs i (omega (arith, l)) h.1)

pub each_storable : (fs : List Field) → EachField IsStorable fs ↔ AreStorable (seen_fields fs)
each_storable [] = (λ h. tt, λ h. tt)
each_storable (f ∷ fs) = (λ h. (h.0, (each_storable fs).0 h.1), λ h. (h.0, (each_storable fs).1 h.1))

pub each_carried : (fs : List Field) → EachField IsCarried fs ↔ AreCarried (seen_fields fs)
each_carried [] = (λ h. tt, λ h. tt)
each_carried (f ∷ fs) = (λ h. (h.0, (each_carried fs).0 h.1), λ h. (h.0, (each_carried fs).1 h.1))

pub each_fits : (n : ℕ) (fs : List Field) → EachField (λ t. NullsFit t n) fs ↔ AllNullsFit (seen_fields fs) n
each_fits n [] = (λ h. tt, λ h. tt)
each_fits n (f ∷ fs) = (λ h. (h.0, (each_fits n fs).0 h.1), λ h. (h.0, (each_fits n fs).1 h.1))

pub count_seen : (fs : List Field) → count_fields (seen_fields fs) ≡ length fs
count_seen [] = refl
count_seen (f ∷ fs) = ap suc (count_seen fs)

-- ---- several variants at once

pub storable_item : (r : Bool) (t : ArrowDataType) (f : Field) → (t ≡ A.List f) ⊎ ((t ≡ A.LargeList f) ⊎ (((k : ℕ) × (t ≡ A.FixedSizeList f k)) ⊎ ((o : Bool) × (t ≡ A.Map f o))))
    → IsTrue r ↔ IsStorable (seen f.dtype) → IsTrue r ↔ IsStorable (seen t)
storable_item r t f (inl e) h = told IsStorable r (at.seen-List f) e h
storable_item r t f (inr (inl e)) h = told IsStorable r (at.seen-LargeList f) e h
storable_item r t f (inr (inr (inl w))) h = told IsStorable r (at.seen-FixedSizeList f w.0) w.1 h
storable_item r t f (inr (inr (inr w))) h = told IsStorable r (at.seen-Map f w.0) w.1 h

pub carried_item : (r : Bool) (t : ArrowDataType) (f : Field) → (t ≡ A.List f) ⊎ (t ≡ A.LargeList f) → IsTrue r ↔ IsCarried (seen f.dtype) → IsTrue r ↔ IsCarried (seen t)
carried_item r t f (inl e) h = told IsCarried r (at.seen-List f) e h
carried_item r t f (inr e) h = told IsCarried r (at.seen-LargeList f) e h

equal_two : (n : ℕ) → IsTrue (nat_eq n 2) → n ≡ 2
equal_two n h = grind (arith, nat_tests)

two_equal : (n : ℕ) → n ≡ 2 → IsTrue (nat_eq n 2)
two_equal n h = grind (arith, nat_tests)

not_zero : (n : ℕ) → IsTrue (not (nat_eq n 0)) → 0 < n
not_zero n h = grind (arith, nat_tests)

zero_not : (n : ℕ) → 0 < n → IsTrue (not (nat_eq n 0))
zero_not n h = grind (arith, nat_tests)

pub positive_told : (n : ℕ) → n ≤ 18446744073709551615 → IsTrue (not (nat_eq n 0)) ↔ IsCarried (T.fixed_size_binary n)
positive_told n l = (λ h. (not_zero n h, omega (arith, l)), λ c. zero_not n c.0)

pub product_told : (o : Option ℕ) (n k : ℕ) (P : Type 0) → SomeIff o P (n * k) → IsTrue (is_some o) ↔ P
product_told None n k P h = no h
product_told (Some x) n k P h = yes h.0

pub legal_told : (fs : List Field) (ids : Option (List ℤ)) (m : UnionMode) (n : ℕ) (r : Bool) → n ≡ length fs → 0 < n → n ≤ 127 → IsTrue r ↔ AreIds ids n
    → IsTrue r ↔ HasLegalFields (T.union (seen_fields fs) ids m)
legal_told fs ids m n r e p l h =
    let c : n ≡ count_fields (seen_fields fs) = e ∙ sym (count_seen fs) in
    (λ q. subst (λ x. (0 < x) × (x ≤ 127) × AreIds ids x) c (p, l, h.0 q), λ q. h.1 (subst (AreIds ids) (sym c) q.2))

pub legal_count : (fs : List Field) (ids : Option (List ℤ)) (m : UnionMode) (n : ℕ) → n ≡ length fs → HasLegalFields (T.union (seen_fields fs) ids m) → (0 < n) × (n ≤ 127)
legal_count fs ids m n e h =
    let c : n ≡ count_fields (seen_fields fs) = e ∙ sym (count_seen fs) in
    (subst (λ x. 0 < x) (sym c) h.0, subst (λ x. x ≤ 127) (sym c) h.1)

pub both_told : {P Q : Type 0} (r : Bool) → P → IsTrue r ↔ Q → IsTrue r ↔ (P × Q)
both_told r p h = (λ e. (p, h.0 e), λ q. h.1 q.1)

pub union_told : (u : UnionType) (r : Bool) → HasLegalFields (seen_union u) → IsTrue r ↔ AreCarried (seen_fields (out-UnionType u).fields) → IsTrue r ↔ IsCarried (seen_union u)
union_told u r p h = (λ e. (p.0, p.1, p.2, h.0 e), λ q. h.1 q.3)

pub union_illegal : (u : UnionType) → (HasLegalFields (seen_union u) → ⊥) → IsCarried (seen_union u) → ⊥
union_illegal u n c = n (c.0, c.1, c.2)

pub pair_is : (fs : List Field) → (length fs ≡ 2) ↔ IsPair (T.struct (seen_fields fs))
pair_is [] = (λ e. absurd (omega (arith, e)), λ h. absurd h)
pair_is (f ∷ []) = (λ e. absurd (omega (arith, e)), λ h. absurd h)
pair_is (f ∷ g ∷ []) = (λ e. tt, λ h. refl)
pair_is (f ∷ g ∷ k ∷ fs) = (λ e. absurd (omega (arith, e)), λ h. absurd h)

pub pair_told : (fs : List Field) (n : ℕ) → n ≡ length fs → IsTrue (nat_eq n 2) ↔ IsPair (T.struct (seen_fields fs))
pair_told fs n e = (λ h. (pair_is fs).0 (sym e ∙ equal_two n h), λ p. two_equal n (e ∙ (pair_is fs).1 p))

pair_by : (t : ArrowDataType) (s : TypeData) → ((fs : List Field) → t ≡ A.Struct fs → ⊥) → back s ≡ t → IsPair s → ⊥
pair_by t (T.struct fs) struct e h = struct (back_fields fs) (sym e)
pair_by t _ struct e h = h

pub pair_other : (t : ArrowDataType) → ((fs : List Field) → t ≡ A.Struct fs → ⊥) → IsPair (seen t) → ⊥
pair_other t struct = pair_by t (seen t) struct (back-seen t)

-- ---- unions

pub mode_dense : (m : UnionMode) → (m ≡ Sparse → ⊥) → m ≡ Dense
mode_dense Dense h = refl
mode_dense Sparse h = absurd (h refl)

pub sparse_told : (fs : FieldList) (ids : Option (List ℤ)) (m : UnionMode) (n : ℕ) (r : Bool) → m ≡ Sparse → IsTrue r ↔ AllNullsFit fs n → IsTrue r ↔ NullsFit (T.union fs ids m) n
sparse_told fs ids m n r e h = subst (λ x. IsTrue r ↔ NullsFit (T.union fs ids x) n) (sym e) h

pub dense_told : (fs : FieldList) (ids : Option (List ℤ)) (m : UnionMode) (n : ℕ) (r : Bool) → (m ≡ Sparse → ⊥) → n ≤ 2 ^ 31
    → IsTrue r ↔ SelectedNullsFit fs (select ids (first_number ids)) n → IsTrue r ↔ NullsFit (T.union fs ids m) n
dense_told fs ids Dense n r s l h = (λ e. (l, h.0 e), λ k. h.1 k.1)
dense_told fs ids Sparse n r s l h = absurd (s refl)

pub dense_long : (fs : FieldList) (ids : Option (List ℤ)) (m : UnionMode) (n : ℕ) → (m ≡ Sparse → ⊥) → 2 ^ 31 < n → NullsFit (T.union fs ids m) n → ⊥
dense_long fs ids Dense n s l h = let p = h.0 in omega (arith, l, p)
dense_long fs ids Sparse n s l h = s refl

pub selected_is : (fs : List Field) (i n : ℕ) (f : Field) (r : Bool) → Some f ≡ slice_get fs i → IsTrue r ↔ NullsFit (seen f.dtype) n → IsTrue r ↔ SelectedNullsFit (seen_fields fs) i n
selected_is [] i n f r e h = cc
selected_is (g ∷ fs) zero n f r e h = let same : f ≡ g = cc in subst (λ x. IsTrue r ↔ NullsFit (seen x.dtype) n) same h
selected_is (g ∷ fs) (suc i) n f r e h = selected_is fs i n f r e h

pub selected_none : (fs : List Field) (i n : ℕ) → None ≡ slice_get fs i → SelectedNullsFit (seen_fields fs) i n
selected_none [] i n e = tt
selected_none (g ∷ fs) zero n e = cc
selected_none (g ∷ fs) (suc i) n e = selected_none fs i n e

-- ---- ids

module _ {X : Type 0} (P : X → Type 0) where
  pub all_step : (xs : List X) (i : ℕ) (x : X) → slice_get xs i ≡ Some x → P x → AllByRecursion P (take i xs) → AllByRecursion P (take (suc i) xs)
  all_step [] i x e p h = tt
  all_step (y ∷ xs) zero x e p h = let same : y ≡ x = cc in (subst P (sym same) p, tt)
  all_step (y ∷ xs) (suc i) x e p h = (h.0, all_step xs i x e p h.1)

  pub all_at : (xs : List X) (i : ℕ) (x : X) → slice_get xs i ≡ Some x → AllByRecursion P xs → P x
  all_at [] i x e h = cc
  all_at (y ∷ xs) zero x e h = let same : y ≡ x = cc in subst P same h.0
  all_at (y ∷ xs) (suc i) x e h = all_at xs i x e h.1

  pub all_whole : (xs : List X) (i : ℕ) → length xs ≤ i → AllByRecursion P (take i xs) → AllByRecursion P xs
  all_whole [] i l h = tt
  all_whole (y ∷ xs) zero l h = absurd (omega (arith, l))
  all_whole (y ∷ xs) (suc i) l h = (h.0, all_whole xs i (omega (arith, l)) h.1)

simple_interval : (i : IntervalUnit) → IsSimple (form_of (T.interval i))
simple_interval YearMonth = tt
simple_interval DayTime = tt
simple_interval MonthDayNano = tt

module _
    (t : ArrowDataType) (list : (f : Field) → t ≡ A.List f → ⊥) (large : (f : Field) → t ≡ A.LargeList f → ⊥) (fixed : (f : Field) (k : ℕ) → t ≡ A.FixedSizeList f k → ⊥)
    (map : (f : Field) (o : Bool) → t ≡ A.Map f o → ⊥) (struct : (fs : List Field) → t ≡ A.Struct fs → ⊥) (union : (u : UnionType) → t ≡ A.Union u → ⊥)
    (dictionary : (k : IntegerType) (v : ArrowDataType) (o : Bool) → t ≡ A.Dictionary k v o → ⊥) (extension : (e : ExtensionType) → t ≡ A.Extension e → ⊥)
  where
    module _ (float16 : t ≡ A.Float16 → ⊥) (float32 : t ≡ A.Float32 → ⊥) (float64 : t ≡ A.Float64 → ⊥) (decimal256 : (p s : ℕ) → t ≡ A.Decimal256 p s → ⊥) (unknown : t ≡ A.Unknown → ⊥) where
      storable_by : (s : TypeData) → back s ≡ t → IsStorable s
      storable_by T.float16 e = absurd (float16 (sym e))
      storable_by T.float32 e = absurd (float32 (sym e))
      storable_by T.float64 e = absurd (float64 (sym e))
      storable_by (T.decimal256 p s) e = absurd (decimal256 p s (sym e))
      storable_by T.unknown e = absurd (unknown (sym e))
      storable_by (T.list f) e = absurd (list (back_field f) (sym e))
      storable_by (T.large_list f) e = absurd (large (back_field f) (sym e))
      storable_by (T.fixed_size_list f k) e = absurd (fixed (back_field f) k (sym e))
      storable_by (T.struct fs) e = absurd (struct (back_fields fs) (sym e))
      storable_by (T.map f o) e = absurd (map (back_field f) o (sym e))
      storable_by (T.union fs is d) e = absurd (union (roll-UnionType record { fields = back_fields fs; ids = is; mode = d }) (sym e))
      storable_by (T.dictionary k v o) e = absurd (dictionary k (back v) o (sym e))
      storable_by (T.extension n v m) e = absurd (extension record { name = n; inner = back v; metadata = m } (sym e))
      storable_by _ e = tt

      pub storable_other : IsStorable (seen t)
      storable_other = storable_by (seen t) (back-seen t)

    module _ (sized : (k : ℕ) → t ≡ A.FixedSizeBinary k → ⊥) where
      module _ (decimal : (p s : ℕ) → t ≡ A.Decimal p s → ⊥) where
        carried_by : (s : TypeData) → back s ≡ t → IsStorable s ↔ IsCarried s
        carried_by T.float16 e = (λ h. h, λ h. h)
        carried_by T.float32 e = (λ h. h, λ h. h)
        carried_by T.float64 e = (λ h. h, λ h. h)
        carried_by (T.decimal256 p s) e = (λ h. h, λ h. h)
        carried_by T.unknown e = (λ h. h, λ h. h)
        carried_by (T.decimal p s) e = absurd (decimal p s (sym e))
        carried_by (T.fixed_size_binary k) e = absurd (sized k (sym e))
        carried_by (T.list f) e = absurd (list (back_field f) (sym e))
        carried_by (T.large_list f) e = absurd (large (back_field f) (sym e))
        carried_by (T.fixed_size_list f k) e = absurd (fixed (back_field f) k (sym e))
        carried_by (T.struct fs) e = absurd (struct (back_fields fs) (sym e))
        carried_by (T.map f o) e = absurd (map (back_field f) o (sym e))
        carried_by (T.union fs is d) e = absurd (union (roll-UnionType record { fields = back_fields fs; ids = is; mode = d }) (sym e))
        carried_by (T.dictionary k v o) e = absurd (dictionary k (back v) o (sym e))
        carried_by (T.extension n v m) e = absurd (extension record { name = n; inner = back v; metadata = m } (sym e))
        carried_by _ e = (λ h. tt, λ h. tt)

        pub carried_other : (r : Bool) → IsTrue r ↔ IsStorable (seen t) → IsTrue r ↔ IsCarried (seen t)
        carried_other r h = (λ e. (carried_by (seen t) (back-seen t)).0 (h.0 e), λ c. h.1 ((carried_by (seen t) (back-seen t)).1 c))

      -- without children, and not of one size
      simple_by : (s : TypeData) → back s ≡ t → IsCarried s → IsSimple (form_of s)
      simple_by T.float16 e h = absurd h
      simple_by T.float32 e h = absurd h
      simple_by T.float64 e h = absurd h
      simple_by (T.decimal256 p s) e h = absurd h
      simple_by T.unknown e h = absurd h
      simple_by (T.interval i) e h = simple_interval i
      simple_by (T.fixed_size_binary k) e h = absurd (sized k (sym e))
      simple_by (T.list f) e h = absurd (list (back_field f) (sym e))
      simple_by (T.large_list f) e h = absurd (large (back_field f) (sym e))
      simple_by (T.fixed_size_list f k) e h = absurd (fixed (back_field f) k (sym e))
      simple_by (T.struct fs) e h = absurd (struct (back_fields fs) (sym e))
      simple_by (T.map f o) e h = absurd (map (back_field f) o (sym e))
      simple_by (T.union fs is d) e h = absurd (union (roll-UnionType record { fields = back_fields fs; ids = is; mode = d }) (sym e))
      simple_by (T.dictionary k v o) e h = absurd (dictionary k (back v) o (sym e))
      simple_by (T.extension n v m) e h = absurd (extension record { name = n; inner = back v; metadata = m } (sym e))
      simple_by _ e h = tt

      pub simple_other : IsCarried (seen t) → IsSimple (form_of (seen t))
      simple_other = simple_by (seen t) (back-seen t)

module _
    (t : ArrowDataType) (sized : (k : ℕ) → t ≡ A.FixedSizeBinary k → ⊥) (fixed : (f : Field) (k : ℕ) → t ≡ A.FixedSizeList f k → ⊥) (struct : (fs : List Field) → t ≡ A.Struct fs → ⊥)
    (union : (u : UnionType) → t ≡ A.Union u → ⊥) (dictionary : (k : IntegerType) (v : ArrowDataType) (o : Bool) → t ≡ A.Dictionary k v o → ⊥)
    (extension : (e : ExtensionType) → t ≡ A.Extension e → ⊥)
  where
    fit_by : (s : TypeData) → back s ≡ t → (n : ℕ) → NullsFit s n
    fit_by (T.fixed_size_binary k) e n = absurd (sized k (sym e))
    fit_by (T.fixed_size_list f k) e n = absurd (fixed (back_field f) k (sym e))
    fit_by (T.struct fs) e n = absurd (struct (back_fields fs) (sym e))
    fit_by (T.union fs is d) e n = absurd (union (roll-UnionType record { fields = back_fields fs; ids = is; mode = d }) (sym e))
    fit_by (T.dictionary k v o) e n = absurd (dictionary k (back v) o (sym e))
    fit_by (T.extension a v m) e n = absurd (extension record { name = a; inner = back v; metadata = m } (sym e))
    fit_by _ e n = tt

    pub fit_other : (n : ℕ) → NullsFit (seen t) n
    fit_other = fit_by (seen t) (back-seen t)
