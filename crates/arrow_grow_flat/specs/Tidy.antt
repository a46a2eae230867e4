-- Layouts in which nothing lies under a null.
use Rattle.std.specs.Prelude.{◌≡◌, pred, pos, [], length, map, ⊤}
use Rattle.arrow_types.specs.Select.{nat_of}
use Rattle.arrow_flat.specs.Pieces.{pieces}
use Rattle.arrow_flat.specs.Views.{zero_view}
use Rattle.arrow_layout.specs.Canonical.{AllUnset}
use Rattle.arrow_layout.specs.Denote.{denote}
use Rattle.arrow_layout.specs.Layouts.{Layout, nulls, booleans, primitives, binaries, fixed_size_binaries, views, lists, fixed_size_lists, structs, sparse_unions, dense_unions, dictionaries, Layouts, no_layouts, child}
use Rattle.arrow_layout.specs.WellFormed.{mask_bits}

-- At every depth the span of a null is empty, its view is that of sixteen zero bytes, and its key is 0.
abbrev mutual
  pub IsTidy : Layout → Type 0
  IsTidy (nulls t n) = ⊤
  IsTidy (booleans t m vs) = ⊤
  IsTidy (primitives t m vs) = ⊤
  IsTidy (binaries t m os bs) = AllUnset (λ v. v ≡ []) (mask_bits m (pred (length os))) (pieces (map nat_of os) bs)
  IsTidy (fixed_size_binaries t m k n bs) = ⊤
  IsTidy (views t m vs buffers) = AllUnset (λ v. v ≡ zero_view) (mask_bits m (length vs)) vs
  IsTidy (lists t m os l) = AllUnset (λ v. v ≡ []) (mask_bits m (pred (length os))) (pieces (map nat_of os) (denote l)) × IsTidy l
  IsTidy (fixed_size_lists t m k n l) = IsTidy l
  IsTidy (structs t m n ls) = AreTidy ls
  IsTidy (sparse_unions t o ts ls) = AreTidy ls
  IsTidy (dense_unions t o ts os ls) = AreTidy ls
  IsTidy (dictionaries t u m ks l) = AllUnset (λ k. k ≡ pos 0) (mask_bits m (length ks)) ks × IsTidy l

  pub AreTidy : Layouts → Type 0
  AreTidy no_layouts = ⊤
  AreTidy (child l ls) = IsTidy l × AreTidy ls
