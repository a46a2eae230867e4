-- Which layouts can be written as text: no bits before those of a bitmap, no shift, and values of the declared type.
use Rattle.std.specs.Prelude.{◌≡◌, Option, Some, None, ⊤}
use Rattle.arrow_buffers.specs.Bits.{Bits}
use Rattle.arrow_layout.specs.Forms.{form_of, value_by}
use Rattle.arrow_layout.specs.Layouts.{Layout, nulls, booleans, primitives, binaries, fixed_size_binaries, views, lists, fixed_size_lists, structs, sparse_unions, dense_unions, dictionaries, Layouts, no_layouts, child, type_of}

abbrev pub IsPlainMask : Option Bits → Type 0
IsPlainMask None = ⊤
IsPlainMask (Some b) = b.lead ≡ 0

abbrev mutual
  pub IsPlain : Layout → Type 0
  IsPlain (nulls t n) = ⊤
  IsPlain (booleans t m vs) = IsPlainMask m × (vs.lead ≡ 0)
  IsPlain (primitives t m vs) = IsPlainMask m
  IsPlain (binaries t m os bs) = IsPlainMask m
  IsPlain (fixed_size_binaries t m k n bs) = IsPlainMask m
  IsPlain (views t m vs buffers) = IsPlainMask m
  IsPlain (lists t m os l) = IsPlainMask m × IsPlain l
  IsPlain (fixed_size_lists t m k n l) = IsPlainMask m × IsPlain l
  IsPlain (structs t m n ls) = IsPlainMask m × ArePlain ls
  IsPlain (sparse_unions t o ts ls) = (o ≡ 0) × ArePlain ls
  IsPlain (dense_unions t o ts os ls) = (o ≡ 0) × ArePlain ls
  IsPlain (dictionaries t u m ks l) = IsPlainMask m × (value_by (form_of t) ≡ type_of l) × IsPlain l

  pub ArePlain : Layouts → Type 0
  ArePlain no_layouts = ⊤
  ArePlain (child l ls) = IsPlain l × ArePlain ls
