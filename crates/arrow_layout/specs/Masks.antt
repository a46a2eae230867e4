-- A layout under another mask.
use Rattle.std.specs.Prelude.{ℕ, Bool, false, length, Option, ⊤}
use Rattle.arrow_types.specs.Carried.{IsBelow}
use Rattle.arrow_buffers.specs.Bits.{Bits}
use Rattle.arrow_layout.specs.Layouts.{Layout, nulls, booleans, primitives, binaries, fixed_size_binaries, views, lists, fixed_size_lists, structs, sparse_unions, dense_unions, dictionaries, length_of}
use Rattle.arrow_flat.specs.Primitives.{unset_in, valid_at}
use Rattle.arrow_layout.specs.Denote.{validity_of}
use Rattle.arrow_layout.specs.WellFormed.{mask_bits, AllSet}

-- A null array and a union have no mask, and stay as they are.
abbrev pub HasMask : Layout → Type 0
HasMask (nulls t n) = ⊥
HasMask (sparse_unions t o ts ls) = ⊥
HasMask (dense_unions t o ts os ls) = ⊥
HasMask _ = ⊤

abbrev pub with_mask : Option Bits → Layout → Layout
with_mask m (nulls t n) = nulls t n
with_mask m (booleans t old vs) = booleans t m vs
with_mask m (primitives t old vs) = primitives t m vs
with_mask m (binaries t old os bs) = binaries t m os bs
with_mask m (fixed_size_binaries t old k n bs) = fixed_size_binaries t m k n bs
with_mask m (views t old vs buffers) = views t m vs buffers
with_mask m (lists t old os l) = lists t m os l
with_mask m (fixed_size_lists t old k n l) = fixed_size_lists t m k n l
with_mask m (structs t old n ls) = structs t m n ls
with_mask m (sparse_unions t o ts ls) = sparse_unions t o ts ls
with_mask m (dense_unions t o ts os ls) = dense_unions t o ts os ls
with_mask m (dictionaries t u old ks l) = dictionaries t u m ks l

-- Each key that is valid under the mask names a value.
abbrev pub KeysInRange : Option Bits → Layout → Type 0
KeysInRange m (dictionaries t u old ks l) = AllSet (IsBelow (length_of l)) (mask_bits m (length ks)) ks
KeysInRange m _ = ⊤

-- How many nulls the mask tells; all slots of a null array are null.
abbrev pub null_count_of : Layout → ℕ
null_count_of (nulls t n) = n
null_count_of l = unset_in (validity_of l)

-- Whether slot i isn't null by the mask.
abbrev pub valid_in : Layout → ℕ → Bool
valid_in (nulls t n) i = false
valid_in l i = valid_at (validity_of l) i
