-- Where the counts and offsets of a layout are in their ranges, and where its dictionaries are small enough for their keys.
use Rattle.std.specs.Prelude.{pred, ◌^◌, ◌<◌, ◌≤◌, map, length, sum, ⊤}
use Rattle.std.specs.List.{AllByRecursion}
use Rattle.arrow_types.specs.Carried.{IsBelow}
use Rattle.arrow_types.specs.Capacity.{key_capacity}
use Rattle.arrow_flat.specs.Views.{view_length}
use Rattle.arrow_layout.specs.Forms.{form_of, key_by, offset_limit}
use Rattle.arrow_layout.specs.Layouts.{Layout, nulls, booleans, primitives, binaries, fixed_size_binaries, views, lists, fixed_size_lists, structs, sparse_unions, dense_unions, dictionaries, Layouts, no_layouts, child, length_of}

-- At every depth the count of slots and of fixed-size bytes is one of a usize, each offset is one of its type, and the
-- lengths of a column of views sum to at most 2 ^ 62.
abbrev mutual
  pub Fits : Layout → Type 0
  Fits (nulls t n) = n < 2 ^ 64
  Fits (booleans t m vs) = length vs.bits < 2 ^ 64
  Fits (primitives t m vs) = length vs < 2 ^ 64
  Fits (binaries t m os bs) = (pred (length os) < 2 ^ 64) × AllByRecursion (IsBelow (offset_limit (form_of t))) os
  Fits (fixed_size_binaries t m k n bs) = (n < 2 ^ 64) × (length bs < 2 ^ 64)
  Fits (views t m vs buffers) = (length vs < 2 ^ 64) × (sum (map view_length vs) ≤ 2 ^ 62)
  Fits (lists t m os l) = (pred (length os) < 2 ^ 64) × AllByRecursion (IsBelow (offset_limit (form_of t))) os × Fits l
  Fits (fixed_size_lists t m k n l) = (n < 2 ^ 64) × Fits l
  Fits (structs t m n ls) = (n < 2 ^ 64) × AllFit ls
  Fits (sparse_unions t o ts ls) = (length ts < 2 ^ 64) × AllFit ls
  Fits (dense_unions t o ts os ls) = (length ts < 2 ^ 64) × AllByRecursion (IsBelow (2 ^ 31)) os × AllFit ls
  Fits (dictionaries t u m ks l) = (length ks < 2 ^ 64) × Fits l

  pub AllFit : Layouts → Type 0
  AllFit no_layouts = ⊤
  AllFit (child l ls) = Fits l × AllFit ls

-- At every depth a dictionary has at most as many values as its keys can name.
abbrev mutual
  pub Small : Layout → Type 0
  Small (lists t m os l) = Small l
  Small (fixed_size_lists t m k n l) = Small l
  Small (structs t m n ls) = AllSmall ls
  Small (sparse_unions t o ts ls) = AllSmall ls
  Small (dense_unions t o ts os ls) = AllSmall ls
  Small (dictionaries t u m ks l) = (length_of l ≤ key_capacity (key_by (form_of t))) × Small l
  Small _ = ⊤

  pub AllSmall : Layouts → Type 0
  AllSmall no_layouts = ⊤
  AllSmall (child l ls) = Small l × AllSmall ls
