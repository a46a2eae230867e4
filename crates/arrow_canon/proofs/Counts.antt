-- A layout that fits has a count of slots that a usize holds.
use Rattle.std.proofs.Common.{◌≡◌, ◌^◌, ◌<◌, List, length, ◌∙◌, subst}
use Rattle.std.proofs.lemmas.List.{length-map}
use Rattle.arrow_types.specs.TypeData.{TypeData}
use Rattle.arrow_layout.specs.Denote.{denote}
use Rattle.arrow_layout.specs.Fits.{Fits}
use Rattle.arrow_layout.specs.Layouts.{Layout, nulls, booleans, primitives, binaries, fixed_size_binaries, views, lists, fixed_size_lists, structs, sparse_unions, dense_unions, dictionaries, length_of}
use Rattle.arrow_layout.specs.SlotsOf.{fill}
use Rattle.arrow_layout.proofs.CanonLengths.{length-canon}
use Rattle.arrow_canon.specs.Picks.{pick, picked}
use Rattle.arrow_canon.specs.Runs.{places, canon_of_runs}
use Rattle.arrow_canon.specs.declared.run.Run.{Run}

pub count_fits : (l : Layout) → Fits l → length_of l < 2 ^ 64
count_fits (nulls t n) f = f
count_fits (booleans t m vs) f = f
count_fits (primitives t m vs) f = f
count_fits (binaries t m os bs) f = f.0
count_fits (fixed_size_binaries t m k n bs) f = f.0
count_fits (views t m vs buffers) f = f.0
count_fits (lists t m os l) f = f.0
count_fits (fixed_size_lists t m k n l) f = f.0
count_fits (structs t m n ls) f = f.0
count_fits (sparse_unions t o ts ls) f = f.0
count_fits (dense_unions t o ts os ls) f = f.0
count_fits (dictionaries t u m ks l) f = f.0

pub length-runs : (t : TypeData) (l : Layout) (rs : List Run) → length_of (canon_of_runs t l rs) ≡ length (places rs)
length-runs t l rs = length-canon t (picked t l (places rs)) ∙ length-map (places rs) (pick (fill t) (denote l))

pub runs_fit : (t : TypeData) (l : Layout) (rs : List Run) → Fits (canon_of_runs t l rs) → length (places rs) < 2 ^ 64
runs_fit t l rs f = subst (λ n. n < 2 ^ 64) (length-runs t l rs) (count_fits (canon_of_runs t l rs) f)
