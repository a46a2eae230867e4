-- A part of a layout.
use Rattle.std.specs.Prelude.{ℕ, suc, ◌+◌, ◌*◌, List, take, drop}
use Rattle.arrow_buffers.specs.Bits.{cut_bits}
use Rattle.arrow_flat.specs.Primitives.{cut_mask}
use Rattle.arrow_layout.specs.Layouts.{Layout, nulls, booleans, primitives, binaries, fixed_size_binaries, views, lists, fixed_size_lists, structs, sparse_unions, dense_unions, dictionaries, Layouts, no_layouts, child}

-- The n items from o on.
abbrev pub part : {A : Type 0} → ℕ → ℕ → List A → List A
part o n xs = take n (drop o xs)

-- The layout of the n slots from o on. Bytes, buffers, the children of lists, maps and unions, and the values of
-- dictionaries stay as they are.
abbrev mutual
  pub cut : Layout → ℕ → ℕ → Layout
  cut (nulls t len) o n = nulls t n
  cut (booleans t m vs) o n = booleans t (cut_mask o n m) (cut_bits vs o n)
  cut (primitives t m vs) o n = primitives t (cut_mask o n m) (part o n vs)
  cut (binaries t m os bs) o n = binaries t (cut_mask o n m) (part o (suc n) os) bs
  cut (fixed_size_binaries t m k len bs) o n = fixed_size_binaries t (cut_mask o n m) k n (part (o * k) (n * k) bs)
  cut (views t m vs buffers) o n = views t (cut_mask o n m) (part o n vs) buffers
  cut (lists t m os l) o n = lists t (cut_mask o n m) (part o (suc n) os) l
  cut (fixed_size_lists t m k len l) o n = fixed_size_lists t (cut_mask o n m) k n (cut l (o * k) (n * k))
  cut (structs t m len ls) o n = structs t (cut_mask o n m) n (cut_each ls o n)
  cut (sparse_unions t shift ts ls) o n = sparse_unions t (shift + o) (part o n ts) ls
  cut (dense_unions t shift ts os ls) o n = dense_unions t shift (part o n ts) (part o n os) ls
  cut (dictionaries t u m ks l) o n = dictionaries t u (cut_mask o n m) (part o n ks) l

  pub cut_each : Layouts → ℕ → ℕ → Layouts
  cut_each no_layouts o n = no_layouts
  cut_each (child l ls) o n = child (cut l o n) (cut_each ls o n)
