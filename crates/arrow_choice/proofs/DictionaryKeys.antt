-- The numbers of one key.
use Rattle.std.proofs.Common.{◌≡◌, ◌<◌, ℕ, List, [], ◌∷◌, ap, refl, subst, sym, ◌∙◌}
use Rattle.std.specs.Prelude.{ℤ, pos}
use Rattle.arrow_types.specs.Capacity.{key_capacity}
use Rattle.arrow_types.specs.declared.datatype.IntegerType.{IntegerType}
use Rattle.arrow_types.specs.declared.datatype.IntegerType.TheVariants as integer
use Rattle.arrow_flat.specs.Numbers.{AreInRange, InRange, IsNumber, Range}
use Rattle.arrow_layout.specs.Forms.{key_range}
use Rattle.arrow_meaning.specs.Nodes.{key_number, key_primitive}

one_of : (r : Range) (zs : List ℤ) → AreInRange (r ∷ []) zs → InRange r (key_number zs)
one_of r [] h = absurd h
one_of r (z ∷ []) h = h.0
one_of r (z ∷ y ∷ zs) h = absurd h.1

alone : (r : Range) (zs : List ℤ) → AreInRange (r ∷ []) zs → zs ≡ key_number zs ∷ []
alone r [] h = absurd h
alone r (z ∷ []) h = refl
alone r (z ∷ y ∷ zs) h = absurd h.1

key_is_one : (k : IntegerType) (zs : List ℤ) → IsNumber (key_primitive k) zs → AreInRange (key_range k ∷ []) zs
key_is_one integer.Int8 zs h = h
key_is_one integer.Int16 zs h = h
key_is_one integer.Int32 zs h = h
key_is_one integer.Int64 zs h = h
key_is_one integer.Int128 zs h = h
key_is_one integer.UInt8 zs h = h
key_is_one integer.UInt16 zs h = h
key_is_one integer.UInt32 zs h = h
key_is_one integer.UInt64 zs h = h

-- a key has one number, in the range of the type
pub key_in_range : (k : IntegerType) (zs : List ℤ) → IsNumber (key_primitive k) zs → InRange (key_range k) (key_number zs)
key_in_range k zs h = one_of (key_range k) zs (key_is_one k zs h)

pub key_alone : (k : IntegerType) (zs : List ℤ) → IsNumber (key_primitive k) zs → zs ≡ key_number zs ∷ []
key_alone k zs h = alone (key_range k) zs (key_is_one k zs h)

-- a key that is a position is below the capacity
pub position_below : (k : IntegerType) (zs : List ℤ) (n : ℕ) → IsNumber (key_primitive k) zs → key_number zs ≡ pos n → n < key_capacity k
position_below k zs n h e = subst (InRange (key_range k)) e (key_in_range k zs h)

-- keys of one number are one
pub key_same : (k : IntegerType) (ys zs : List ℤ) → IsNumber (key_primitive k) ys → IsNumber (key_primitive k) zs → key_number ys ≡ key_number zs → ys ≡ zs
key_same k ys zs h g e = key_alone k ys h ∙ (ap (λ z. z ∷ []) e ∙ sym (key_alone k zs g))
