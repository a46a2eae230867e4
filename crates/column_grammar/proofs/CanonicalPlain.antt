-- A canonical layout can be written as text.
use Rattle.std.proofs.Common.{◌≡◌, Option, Some, None}
use Rattle.arrow_buffers.specs.Bits.{Bits}
use Rattle.arrow_layout.specs.Canonical.{MaskIsNeeded, Canonical, AreCanonical, AreSelected, AreCounted}
use Rattle.arrow_layout.specs.FitsHere.{AllWellFormed}
use Rattle.arrow_layout.specs.Layouts.{Layout, nulls, booleans, primitives, binaries, fixed_size_binaries, views, lists, fixed_size_lists, structs, sparse_unions, dense_unions, dictionaries, Layouts, no_layouts, child}
use Rattle.arrow_layout.specs.Plain.{IsPlainMask, IsPlain, ArePlain}
use Rattle.arrow_layout.specs.WellFormed.{WellFormed}
use Rattle.arrow_layout.proofs.FromParts.{all_well}
use Rattle.std.specs.Prelude.{ℕ, suc, List}

plain_mask : (m : Option Bits) → MaskIsNeeded m → IsPlainMask m
plain_mask None h = tt
plain_mask (Some b) h = h.0

mutual
  pub canonical_plain : (l : Layout) → WellFormed l → Canonical l → IsPlain l
  canonical_plain (nulls t n) w h = tt
  canonical_plain (booleans t m vs) w h = (plain_mask m h.0, h.1)
  canonical_plain (primitives t m vs) w h = plain_mask m h.0
  canonical_plain (binaries t m os bs) w h = plain_mask m h.0
  canonical_plain (fixed_size_binaries t m k n bs) w h = plain_mask m h.0
  canonical_plain (views t m vs buffers) w h = plain_mask m h.0
  canonical_plain (lists t m os l) w h = (plain_mask m h.0, canonical_plain l w.2 h.2)
  canonical_plain (fixed_size_lists t m k n l) w h = (plain_mask m h.0, canonical_plain l w.2 h.2)
  canonical_plain (structs t m n ls) w h = (plain_mask m h.0, all_plain ls (all_well (structs t m n ls) w) h.2)
  canonical_plain (sparse_unions t o ts ls) w h = (h.0, selected_plain ls 0 _ (all_well (sparse_unions t o ts ls) w) h.1)
  canonical_plain (dense_unions t o ts os ls) w h = (w.2, counted_plain ls 0 _ (all_well (dense_unions t o ts os ls) w) h.1)
  canonical_plain (dictionaries t u m ks l) w h = (plain_mask m h.0, h.5, canonical_plain l w.5 h.6)

  all_plain : (ls : Layouts) → AllWellFormed ls → AreCanonical ls → ArePlain ls
  all_plain no_layouts w h = tt
  all_plain (child l ls) w h = (canonical_plain l w.0 h.0, all_plain ls w.1 h.1)

  selected_plain : (ls : Layouts) (j : ℕ) (is : List ℕ) → AllWellFormed ls → AreSelected j is ls → ArePlain ls
  selected_plain no_layouts j is w h = tt
  selected_plain (child l ls) j is w h = (canonical_plain l w.0 h.1, selected_plain ls (suc j) is w.1 h.2)

  counted_plain : (ls : Layouts) (j : ℕ) (is : List ℕ) → AllWellFormed ls → AreCounted j is ls → ArePlain ls
  counted_plain no_layouts j is w h = tt
  counted_plain (child l ls) j is w h = (canonical_plain l w.0 h.1, counted_plain ls (suc j) is w.1 h.2)
