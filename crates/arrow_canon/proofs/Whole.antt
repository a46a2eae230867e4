-- One run over all slots of a layout.
use Rattle.std.proofs.Common.{◌≡◌, ℕ, ◌+◌, ◌≤◌, List, [], ◌∷◌, length, append-nil, take_all, ap, sym, ◌∙◌, arith}
use Rattle.arrow_types.specs.TypeData.{TypeData}
use Rattle.arrow_layout.specs.Canon.{canon}
use Rattle.arrow_layout.specs.Denote.{denote}
use Rattle.arrow_layout.specs.Layouts.{Layout, type_of, length_of}
use Rattle.arrow_layout.specs.SlotsOf.{fill}
use Rattle.arrow_layout.specs.WellFormed.{WellFormed}
use Rattle.arrow_layout.proofs.Lengths.{length-denote}
use Rattle.arrow_canon.specs.Canonical.{canonical_of}
use Rattle.arrow_canon.specs.Picks.{picks, span}
use Rattle.arrow_canon.specs.Runs.{canon_of_runs}
use Rattle.arrow_canon.specs.declared.run.Run.TheVariants.{Slots}
use Rattle.arrow_canon.proofs.Places.{picks_part}

all_picked : {A : Type 0} (d : A) (xs : List A) (n : ℕ) → n ≡ length xs → picks d xs (span 0 n) ≡ xs
all_picked d xs n e =
    let within : 0 + n ≤ length xs = omega (arith, e) in
    sym (picks_part d xs 0 n within) ∙ take_all n xs (omega (arith, e))

pub whole_canon : (t : TypeData) (l : Layout) (n : ℕ) → t ≡ type_of l → n ≡ length_of l → WellFormed l → canon_of_runs t l (Slots 0 n ∷ []) ≡ canonical_of l
whole_canon t l n e h w =
    ap (λ ps. canon t (picks (fill t) (denote l) ps)) (append-nil (span 0 n))
    ∙ ap (canon t) (all_picked (fill t) (denote l) n (h ∙ sym (length-denote l w)))
    ∙ ap (λ u. canon u (denote l)) e
