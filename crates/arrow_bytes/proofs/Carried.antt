-- Columns have the types of binary values and strings, and those of one size that isn't 0.
use Rattle.std.proofs.Common.{◌≡◌, Bool, true, false, ℕ, ◌^◌, ◌<◌, List, Option, Some, None, refl, arith}
use Rattle.arrow_types.specs.Carried.{IsCarried}
use Rattle.arrow_types.specs.Seen.{seen, back}
use Rattle.arrow_types.specs.TypeData.{TypeData}
use Rattle.arrow_types.specs.TypeData as T
use Rattle.arrow_types.specs.declared.datatype.ArrowDataType.{ArrowDataType}
use Rattle.arrow_types.specs.declared.datatype.ArrowDataType as A
use Rattle.arrow_types.specs.declared.datatype.ExtensionType.{ExtensionType}
use Rattle.arrow_types.specs.Types.{physical_of}
use Rattle.arrow_types.proofs.SeenFrom.{is_fixed_size_binary, is_extension}
use Rattle.arrow_bytes.specs.Binaries.{layout_in}
use Rattle.arrow_bytes.specs.FixedSizeBinaries.{declared_size}

pub sized_carried : (s : TypeData) (k : ℕ) → declared_size s ≡ Some k → 0 < k → k < 2 ^ 64 → IsCarried s
sized_carried (T.fixed_size_binary j) k e p l =
    let same : j ≡ k = cc in
    (omega arith, omega arith)
sized_carried (T.extension n t m) k e p l = sized_carried t k e p l
sized_carried _ k e p l = cc

pub stored_carried : (text large : Bool) (s : TypeData) → physical_of s ≡ Some (layout_in text large) → IsCarried s
stored_carried text large (T.extension n t m) e = stored_carried text large t e
stored_carried text large T.binary e = tt
stored_carried text large T.large_binary e = tt
stored_carried text large T.utf8 e = tt
stored_carried text large T.large_utf8 e = tt
stored_carried true true _ e = cc
stored_carried true false _ e = cc
stored_carried false true _ e = cc
stored_carried false false _ e = cc

-- any other type
no_size : (s : TypeData) → ((k : ℕ) → s ≡ T.fixed_size_binary k → ⊥) → ((n : List ℕ) (t : TypeData) (m : Option (List ℕ)) → s ≡ T.extension n t m → ⊥) → None ≡ declared_size s
no_size (T.fixed_size_binary k) f e = absurd (f k refl)
no_size (T.extension n t m) f e = absurd (e n t m refl)
no_size _ f e = refl

pub others_unsized : (t : ArrowDataType) → ((k : ℕ) → t ≡ A.FixedSizeBinary k → ⊥) → ((x : ExtensionType) → t ≡ A.Extension x → ⊥) → None ≡ declared_size (seen t)
others_unsized t f e =
    no_size (seen t) (λ k is. f k (is_fixed_size_binary t k is)) (λ n s m is. e record { name = n; inner = back s; metadata = m } (is_extension t n s m is))
