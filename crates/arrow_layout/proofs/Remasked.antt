-- A layout under another mask denotes what stands under that mask.
use Rattle.std.proofs.Common.{Option, refl, ℕ, ◌≡◌}
use Rattle.arrow_types.specs.TypeData.{TypeData}
use Rattle.arrow_buffers.specs.Bits.{Bits}
use Rattle.arrow_layout.specs.Denote.{denote, masked, under, validity_of}
use Rattle.arrow_layout.specs.Forms.{Form}
use Rattle.arrow_layout.specs.Layouts.{Layout, binaries, booleans, dense_unions, dictionaries, fixed_size_binaries, fixed_size_lists, length_of, lists, nulls, primitives, sparse_unions, structs, type_of, views}
use Rattle.arrow_layout.specs.Masks.{HasMask, KeysInRange, with_mask}
use Rattle.arrow_layout.specs.WellFormed.{IsColumnOf, MaskFits, WellFormed}

pub denote-under : (l : Layout) → denote l ≡ masked (validity_of l) (under l)
denote-under (nulls t n) = refl
denote-under _ = refl

pub denote-with_mask : (m : Option Bits) (l : Layout) → HasMask l → denote (with_mask m l) ≡ masked m (under l)
denote-with_mask m (nulls t n) h = absurd h
denote-with_mask m (sparse_unions t o ts ls) h = absurd h
denote-with_mask m (dense_unions t o ts os ls) h = absurd h
denote-with_mask m _ h = refl

column_with : (t : TypeData) (f : Form) (old m : Option Bits) (n : ℕ) → MaskFits m n → IsColumnOf t f old n → IsColumnOf t f m n
column_with t f old m n h w = record { carried = w.carried; of_form = w.of_form; mask = h; count = w.count }

pub well_formed-with_mask : (m : Option Bits) (l : Layout) → WellFormed l → MaskFits m (length_of l) → KeysInRange m l → WellFormed (with_mask m l)
well_formed-with_mask m (nulls t n) w h k = w
well_formed-with_mask m (booleans t old vs) w h k = (column_with t _ old m _ h w.0, w.1)
well_formed-with_mask m (primitives t old vs) w h k = (column_with t _ old m _ h w.0, w.1)
well_formed-with_mask m (binaries t old os bs) w h k = (column_with t _ old m _ h w.0, w.1, w.2, w.3, w.4)
well_formed-with_mask m (fixed_size_binaries t old k n bs) w h i = (column_with t _ old m _ h w.0, w.1, w.2, w.3)
well_formed-with_mask m (views t old vs buffers) w h k = (column_with t _ old m _ h w.0, w.1, w.2, w.3)
well_formed-with_mask m (lists t old os l) w h k = (column_with t _ old m _ h w.0, w.1, w.2)
well_formed-with_mask m (fixed_size_lists t old k n l) w h i = (column_with t _ old m _ h w.0, w.1, w.2)
well_formed-with_mask m (structs t old n ls) w h k = (column_with t _ old m _ h w.0, w.1, w.2)
well_formed-with_mask m (sparse_unions t o ts ls) w h k = w
well_formed-with_mask m (dense_unions t o ts os ls) w h k = w
well_formed-with_mask m (dictionaries t u old ks l) w h k = (column_with t _ old m _ h w.0, w.1, w.2, k, w.4, w.5)

pub type-with_mask : (m : Option Bits) (l : Layout) → type_of (with_mask m l) ≡ type_of l
type-with_mask m (nulls t n) = refl
type-with_mask m _ = refl

pub length-with_mask : (m : Option Bits) (l : Layout) → length_of (with_mask m l) ≡ length_of l
length-with_mask m (nulls t n) = refl
length-with_mask m _ = refl
