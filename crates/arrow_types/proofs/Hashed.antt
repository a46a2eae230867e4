-- What a hasher has taken of a type.
use Rattle.std.proofs.Common.{◌≡◌, ◌⊎◌, inl, inr, ℕ, false, List, [], ◌++◌, Option, fold, refl, sym, ap, ◌∙◌}
use Rattle.std.proofs.lemmas.Bool.{false≢true}
use Rattle.std.proofs.lemmas.List.Sums.{fold-append}
use Rattle.std.specs.Hash.{u8, usize}
use Rattle.arrow_types.specs.TypeData.{TypeData}
use Rattle.arrow_types.specs.TypeData as T
use Rattle.arrow_types.specs.TypeEq.{unit_number}
use Rattle.arrow_types.specs.Seen.{seen, seen_field, back}
use Rattle.arrow_types.specs.SeenAt as at
use Rattle.arrow_types.specs.TypeWrites.{parts_writes, field_writes}
use Rattle.arrow_types.specs.Types.{is_nested}
use Rattle.arrow_types.proofs.AtVariant.{at_variant}
use Rattle.arrow_types.proofs.Back.{back-seen}
use Rattle.arrow_types.specs.declared.datatype.ArrowDataType.{ArrowDataType}
use Rattle.arrow_types.specs.declared.datatype.ArrowDataType as A
use Rattle.arrow_types.specs.declared.datatype.Field.{Field}
use Rattle.arrow_types.specs.declared.datatype.IntervalUnit.{IntervalUnit}
use Rattle.arrow_types.specs.declared.datatype.TimeUnit.{TimeUnit}

module _ {S : Type 0} (write : S → List ℕ → S) (start : S) where
  pub number_taken : (n m : ℕ) {end : S} → end ≡ fold write start (u8 n) → n ≡ m → end ≡ fold write start (u8 m)
  number_taken n m h e = h ∙ ap (λ k. fold write start (u8 k)) e

  pub both_taken : (xs ys : List (List ℕ)) {middle end : S} → middle ≡ fold write start xs → end ≡ fold write middle ys → end ≡ fold write start (xs ++ ys)
  both_taken xs ys p q = q ∙ ap (λ s. fold write s ys) p ∙ sym (fold-append write start xs ys)

  -- what was taken of a borrowed part is taken of the part
  pub borrow_taken : {X : Type 0} (writes : X → List (List ℕ)) (borrowed part : X) {end : S} → borrowed ≡ part → end ≡ fold write start (writes borrowed) → end ≡ fold write start (writes part)
  borrow_taken writes borrowed part e h = h ∙ ap (λ x. fold write start (writes x)) e

  pub parts_taken : {end : S} (t : ArrowDataType) {writes : List (List ℕ)} → writes ≡ parts_writes (seen t) → end ≡ fold write start writes → end ≡ fold write start (parts_writes (seen t))
  parts_taken t e h = h ∙ ap (fold write start) e

pub unit_parts : (t : ArrowDataType) (u : TimeUnit) → (t ≡ A.Time32 u) ⊎ ((t ≡ A.Time64 u) ⊎ (t ≡ A.Duration u)) → u8 (unit_number u) ≡ parts_writes (seen t)
unit_parts t u (inl e) = at_variant parts_writes (at.seen-Time32 u) e
unit_parts t u (inr (inl e)) = at_variant parts_writes (at.seen-Time64 u) e
unit_parts t u (inr (inr e)) = at_variant parts_writes (at.seen-Duration u) e

pub decimal_parts : (t : ArrowDataType) (p s : ℕ) → (t ≡ A.Decimal p s) ⊎ (t ≡ A.Decimal256 p s) → usize p ++ usize s ≡ parts_writes (seen t)
decimal_parts t p s (inl e) = at_variant parts_writes (at.seen-Decimal p s) e
decimal_parts t p s (inr e) = at_variant parts_writes (at.seen-Decimal256 p s) e

pub list_parts : (t : ArrowDataType) (f : Field) → (t ≡ A.List f) ⊎ (t ≡ A.LargeList f) → field_writes (seen_field f) ≡ parts_writes (seen t)
list_parts t f (inl e) = at_variant parts_writes (at.seen-List f) e
list_parts t f (inr e) = at_variant parts_writes (at.seen-LargeList f) e

-- what is neither nested nor one of these has no parts
module _ (t : ArrowDataType) (timestamp : (u : TimeUnit) (z : Option (List ℕ)) → t ≡ A.Timestamp u z → ⊥) (time32 : (u : TimeUnit) → t ≡ A.Time32 u → ⊥) (time64 : (u : TimeUnit) → t ≡ A.Time64 u → ⊥) (duration : (u : TimeUnit) → t ≡ A.Duration u → ⊥) (interval : (i : IntervalUnit) → t ≡ A.Interval i → ⊥) (fixed : (k : ℕ) → t ≡ A.FixedSizeBinary k → ⊥) (decimal : (p s : ℕ) → t ≡ A.Decimal p s → ⊥) (decimal256 : (p s : ℕ) → t ≡ A.Decimal256 p s → ⊥) where
  plain_by : (s : TypeData) → back s ≡ t → is_nested s ≡ false → [] ≡ parts_writes s
  plain_by (T.timestamp u z) e n = absurd (timestamp u z (sym e))
  plain_by (T.time32 u) e n = absurd (time32 u (sym e))
  plain_by (T.time64 u) e n = absurd (time64 u (sym e))
  plain_by (T.duration u) e n = absurd (duration u (sym e))
  plain_by (T.interval i) e n = absurd (interval i (sym e))
  plain_by (T.fixed_size_binary k) e n = absurd (fixed k (sym e))
  plain_by (T.decimal p d) e n = absurd (decimal p d (sym e))
  plain_by (T.decimal256 p d) e n = absurd (decimal256 p d (sym e))
  plain_by (T.list f) e n = absurd (false≢true (sym n))
  plain_by (T.large_list f) e n = absurd (false≢true (sym n))
  plain_by (T.fixed_size_list f k) e n = absurd (false≢true (sym n))
  plain_by (T.struct fs) e n = absurd (false≢true (sym n))
  plain_by (T.map f o) e n = absurd (false≢true (sym n))
  plain_by (T.union fs is d) e n = absurd (false≢true (sym n))
  plain_by (T.dictionary k v o) e n = absurd (false≢true (sym n))
  plain_by (T.extension m v d) e n = absurd (false≢true (sym n))
  plain_by _ e n = refl

  pub no_parts : is_nested (seen t) ≡ false → [] ≡ parts_writes (seen t)
  no_parts = plain_by (seen t) (back-seen t)
