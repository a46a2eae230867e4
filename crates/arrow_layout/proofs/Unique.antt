-- A well-formed layout is canonical exactly where it is the one that its slots make.
use Rattle.std.proofs.Common.{subst, sym, ◌↔◌, ◌≡◌}
use Rattle.arrow_types.specs.Carried.{IsCarried}
use Rattle.arrow_layout.specs.Canon.{canon}
use Rattle.arrow_layout.specs.Canonical.{Canonical}
use Rattle.arrow_layout.specs.Denote.{denote}
use Rattle.arrow_layout.specs.Layouts.{Layout, binaries, booleans, dense_unions, dictionaries, fixed_size_binaries, fixed_size_lists, lists, nulls, primitives, sparse_unions, structs, type_of, views}
use Rattle.arrow_layout.specs.WellFormed.{WellFormed}
use Rattle.arrow_layout.proofs.Back.{canonical_back}
use Rattle.arrow_layout.proofs.Conforms.{conforms}
use Rattle.arrow_layout.proofs.Made.{canon_canonical}

pub carried_of : (l : Layout) → WellFormed l → IsCarried (type_of l)
carried_of (nulls t n) w = w.carried
carried_of (booleans t m vs) w = w.0.carried
carried_of (primitives t m vs) w = w.0.carried
carried_of (binaries t m os bs) w = w.0.carried
carried_of (fixed_size_binaries t m k n bs) w = w.0.carried
carried_of (views t m vs buffers) w = w.0.carried
carried_of (lists t m os l) w = w.0.carried
carried_of (fixed_size_lists t m k n l) w = w.0.carried
carried_of (structs t m n ls) w = w.0.carried
carried_of (sparse_unions t o ts ls) w = w.0.carried
carried_of (dense_unions t o ts os ls) w = w.0.carried
carried_of (dictionaries t u m ks l) w = w.0.carried

pub canonical-is_canon : (l : Layout) → WellFormed l → Canonical l ↔ (l ≡ canon (type_of l) (denote l))
canonical-is_canon l w =
    (canonical_back l w, λ e. subst Canonical (sym e) (canon_canonical (type_of l) (denote l) (carried_of l w) (conforms l w)))
