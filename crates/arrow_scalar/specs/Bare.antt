-- Layouts with their types, masks and children left aside.
use Rattle.std.specs.Prelude.{◌≡◌, ℕ, ℤ, List, Option, Some, None}
use Rattle.arrow_layout.specs.Denote.{validity_of}
use Rattle.arrow_layout.specs.Layouts.{Layout, nulls, booleans, primitives, binaries, fixed_size_binaries, views, lists, fixed_size_lists, structs, sparse_unions, dense_unions, dictionaries, no_layouts, type_of}
use Rattle.arrow_meaning.specs.Nodes.{key_numbers}
use Rattle.arrow_types.specs.TypeData as T

-- What stands in the place of a child that is left aside.
abbrev pub no_child : Layout
no_child = nulls T.null 0

-- What a layout has in its own buffers, with its length, its size and its shift.
abbrev pub bare : Layout → Layout
bare (nulls t n) = nulls T.null n
bare (booleans t m vs) = booleans T.null None vs
bare (primitives t m vs) = primitives T.null None vs
bare (binaries t m os bs) = binaries T.null None os bs
bare (fixed_size_binaries t m k n bs) = fixed_size_binaries T.null None k n bs
bare (views t m vs buffers) = views T.null None vs buffers
bare (lists t m os l) = lists T.null None os no_child
bare (fixed_size_lists t m k n l) = fixed_size_lists T.null None k n no_child
bare (structs t m n ls) = structs T.null None n no_layouts
bare (sparse_unions t o ts ls) = sparse_unions T.null o ts no_layouts
bare (dense_unions t o ts os ls) = dense_unions T.null o ts os no_layouts
bare (dictionaries t u m ks l) = dictionaries T.null u None ks no_child

-- The same of a union, dense where it has offsets.
abbrev pub bare_union : List ℤ → Option (List ℤ) → ℕ → Layout
bare_union ts None shift = sparse_unions T.null shift ts no_layouts
bare_union ts (Some os) shift = dense_unions T.null shift ts os no_layouts

-- The same of a dictionary, from its keys.
abbrev pub bare_keys : Layout → Layout
bare_keys keys = dictionaries T.null (type_of keys) None (key_numbers keys) no_child

-- Equal in all but their children.
pub record AreSameButChildren (l r : Layout) : Type 0 where
  pub types : type_of l ≡ type_of r
  pub masks : validity_of l ≡ validity_of r
  pub own : bare l ≡ bare r
