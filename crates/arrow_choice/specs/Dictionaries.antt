-- What contracts say of arrays of dictionaries.
use Rattle.std.specs.Prelude.{◌≡◌, ◌⊎◌, ◌^◌, ℕ, ℤ, Bool, false, cond, nat_lt, List, [], length, map, get_or, None, ⊤}
use Rattle.arrow_types.specs.Seen.{seen}
use Rattle.arrow_types.specs.Select.{nat_of}
use Rattle.arrow_types.specs.TypeData.{TypeData}
use Rattle.arrow_types.specs.TypeData as T
use Rattle.arrow_types.specs.Types.{integer_type, logical_of}
use Rattle.arrow_types.specs.declared.datatype.IntegerType.{IntegerType}
use Rattle.arrow_types.specs.declared.error.PolarsError.{PolarsError}
use Rattle.arrow_types.specs.declared.error.PolarsError.TheVariants.{ComputeError, OutOfMemory}
use Rattle.arrow_types.specs.declared.error.Reason.{Reason}
use Rattle.arrow_types.specs.declared.error.Reason.TheVariants.{KeyRange, KeyType, ValueType, WrongLogicalType}
use Rattle.arrow_flat.specs.Primitives.{Primitives, unset_in}
use Rattle.arrow_layout.specs.Forms.{dictionaries_of, form_of, key_by, value_by}
use Rattle.arrow_layout.specs.Layouts.{Layout, dictionaries, type_of}
use Rattle.arrow_layout.specs.Masks.{KeysInRange}
use Rattle.arrow_meaning.specs.Nodes.{key_number, key_numbers, primitive_layout}

-- ---- the parts of a dictionary

-- The dictionary of these keys and values, given the numbers of a key.
abbrev pub dictionary_of : {K : Type 0} → (K → List ℤ) → TypeData → Primitives K → Layout → Layout
dictionary_of parts t keys l = dictionaries t (seen keys.dtype) keys.mask (key_numbers (primitive_layout parts keys)) l

-- The numbers of the keys, those under nulls too.
abbrev pub keys_of : Layout → List ℤ
keys_of (dictionaries t u m ks l) = ks
keys_of _ = []

-- The layout of the values that the keys name.
abbrev pub values_of : Layout → Layout
values_of (dictionaries t u m ks l) = l
values_of l = l

-- Whether a type of dictionaries says that the values are ordered.
abbrev pub order_of : TypeData → Bool
order_of (T.dictionary k t o) = o
order_of (T.extension n t m) = order_of t
order_of _ = false

-- ---- the tests of the parts

-- A type of dictionaries, where the extensions around it are looked through.
abbrev pub IsDictionary : TypeData → Type 0
IsDictionary t = form_of t ≡ dictionaries_of (key_by (form_of t)) (value_by (form_of t))

-- The declared keys are of type k, and the type of the keys is that type, plainly.
abbrev pub HasKeyType : IntegerType → TypeData → TypeData → Type 0
HasKeyType k t u = (key_by (form_of t) ≡ k) × (u ≡ integer_type k)

-- The declared type of the values and their own are equal without outer extensions.
abbrev pub HasValueType : TypeData → TypeData → Type 0
HasValueType t v = logical_of (value_by (form_of t)) ≡ logical_of v

-- Each key names a value, those under nulls too, or each key is null.
abbrev pub KeysNameValues : Layout → Type 0
KeysNameValues (dictionaries t u m ks l) = (unset_in m ≡ length ks) ⊎ KeysInRange None (dictionaries t u m ks l)
KeysNameValues _ = ⊤

-- The parts pass all tests of a dictionary with keys of type k.
abbrev pub IsAccepted : IntegerType → Layout → Type 0
IsAccepted k (dictionaries t u m ks l) =
    IsDictionary t × HasKeyType k t u × HasValueType t (type_of l) × KeysNameValues (dictionaries t u m ks l)
IsAccepted k _ = ⊥

-- Why the types are refused, of the dictionary, of its keys and of its values: the first test that fails.
abbrev pub TypesRefusedFor : Reason → IntegerType → TypeData → TypeData → TypeData → Type 0
TypesRefusedFor WrongLogicalType k t u v = IsDictionary t → ⊥
TypesRefusedFor KeyType k t u v = IsDictionary t × (HasKeyType k t u → ⊥)
TypesRefusedFor ValueType k t u v = IsDictionary t × HasKeyType k t u × (HasValueType t v → ⊥)
TypesRefusedFor _ k t u v = ⊥

-- Why the parts are refused: the keys are tested last.
abbrev pub RefusedFor : Reason → IntegerType → Layout → Type 0
RefusedFor KeyRange k (dictionaries t u m ks l) =
    IsDictionary t × HasKeyType k t u × HasValueType t (type_of l) × (KeysNameValues (dictionaries t u m ks l) → ⊥)
RefusedFor reason k (dictionaries t u m ks l) = TypesRefusedFor reason k t u (type_of l)
RefusedFor reason k _ = ⊥

abbrev pub Refused : PolarsError → IntegerType → Layout → Type 0
Refused (ComputeError reason) k l = RefusedFor reason k l
Refused OutOfMemory k l = ⊤
Refused _ k l = ⊥

-- ---- what is read

-- A key as a position, and 0 for a key that is none.
abbrev pub position_of : ℤ → ℕ
position_of z = cond (nat_lt (nat_of z) (2 ^ 64)) (nat_of z) 0

abbrev pub positions_of : {K : Type 0} → (K → List ℤ) → Primitives K → List ℕ
positions_of parts keys = map (λ k. position_of (key_number (parts k))) keys.values

-- The texts that keys name, and the empty text for a key that names none.
abbrev pub texts_at : {K : Type 0} → (K → List ℤ) → List (List ℕ) → Primitives K → List (List ℕ)
texts_at parts texts keys = map (λ n. get_or texts n []) (positions_of parts keys)
