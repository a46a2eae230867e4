-- A layout is well formed exactly where it fits here and its children are well formed.
use Rattle.std.proofs.Common.{arith, length, ℕ, ◌+◌, ◌≡◌, ◌≤◌}
use Rattle.arrow_layout.specs.FitsHere.{AllWellFormed, FitsHere, HaveLengths}
use Rattle.arrow_layout.specs.Layouts.{Layout, Layouts, binaries, booleans, child, dense_unions, dictionaries, fixed_size_binaries, fixed_size_lists, lists, no_layouts, nulls, primitives, sparse_unions, structs, views}
use Rattle.arrow_layout.specs.Paths.{children_of}
use Rattle.arrow_layout.specs.WellFormed.{AreWellFormed, WellFormed}

pub join_children : (P : ℕ → Type 0) (ls : Layouts) → HaveLengths P ls → AllWellFormed ls → AreWellFormed P ls
join_children P no_layouts h w = tt
join_children P (child l ls) h w = (h.0, w.0, join_children P ls h.1 w.1)

pub any_lengths : (ls : Layouts) → HaveLengths (λ i. 0 ≤ i) ls
any_lengths no_layouts = tt
any_lengths (child l ls) = (omega arith, any_lengths ls)

children_lengths : (P : ℕ → Type 0) (ls : Layouts) → AreWellFormed P ls → HaveLengths P ls
children_lengths P no_layouts w = tt
children_lengths P (child l ls) w = (w.0, children_lengths P ls w.2)

children_well : (P : ℕ → Type 0) (ls : Layouts) → AreWellFormed P ls → AllWellFormed ls
children_well P no_layouts w = tt
children_well P (child l ls) w = (w.1, children_well P ls w.2)

pub well_formed-parts : (l : Layout) → FitsHere l → AllWellFormed (children_of l) → WellFormed l
well_formed-parts (lists t m os l) h w = (h.0, h.1, w.0)
well_formed-parts (fixed_size_lists t m k n l) h w = (h.0, h.1, w.0)
well_formed-parts (structs t m n ls) h w = (h.0, h.1, join_children (λ i. i ≡ n) ls h.2 w)
well_formed-parts (sparse_unions t o ts ls) h w = (h.0, h.1, h.2, h.3, join_children (λ i. o + length ts ≤ i) ls h.4 w)
well_formed-parts (dense_unions t o ts os ls) h w = (h.0, h.1, h.2, h.3, h.4, h.5, join_children (λ i. 0 ≤ i) ls (any_lengths ls) w)
well_formed-parts (dictionaries t u m ks l) h w = (h.0, h.1, h.2, h.3, h.4, w.0)
well_formed-parts (nulls t n) h w = h
well_formed-parts (booleans t m vs) h w = h
well_formed-parts (primitives t m vs) h w = h
well_formed-parts (binaries t m os bs) h w = h
well_formed-parts (fixed_size_binaries t m k n bs) h w = h
well_formed-parts (views t m vs buffers) h w = h

pub fits_here : (l : Layout) → WellFormed l → FitsHere l
fits_here (lists t m os l) w = (w.0, w.1)
fits_here (fixed_size_lists t m k n l) w = (w.0, w.1)
fits_here (structs t m n ls) w = (w.0, w.1, children_lengths (λ i. i ≡ n) ls w.2)
fits_here (sparse_unions t o ts ls) w = (w.0, w.1, w.2, w.3, children_lengths (λ i. o + length ts ≤ i) ls w.4)
fits_here (dense_unions t o ts os ls) w = (w.0, w.1, w.2, w.3, w.4, w.5)
fits_here (dictionaries t u m ks l) w = (w.0, w.1, w.2, w.3, w.4)
fits_here (nulls t n) w = w
fits_here (booleans t m vs) w = w
fits_here (primitives t m vs) w = w
fits_here (binaries t m os bs) w = w
fits_here (fixed_size_binaries t m k n bs) w = w
fits_here (views t m vs buffers) w = w

pub all_well : (l : Layout) → WellFormed l → AllWellFormed (children_of l)
all_well (lists t m os l) w = (w.2, tt)
all_well (fixed_size_lists t m k n l) w = (w.2, tt)
all_well (structs t m n ls) w = children_well (λ i. i ≡ n) ls w.2
all_well (sparse_unions t o ts ls) w = children_well (λ i. o + length ts ≤ i) ls w.4
all_well (dense_unions t o ts os ls) w = children_well (λ i. 0 ≤ i) ls w.6
all_well (dictionaries t u m ks l) w = (w.5, tt)
all_well _ w = tt
