use Rattle.std.proofs.Common.{◌≡◌, ap₂, sym}
use Rattle.arrow_layout.specs.Canon.{canon}
use Rattle.arrow_layout.specs.Layouts.{Layout}
use Rattle.arrow_layout.specs.WellFormed.{WellFormed}
use Rattle.arrow_canon.specs.Canonical.{canonical_of}
use Rattle.arrow_gather.proofs.laws.normalized_twice.Goals as goal

pub returns : goal.returns
returns c =
    let same : (l : Layout) → WellFormed l → canonical_of (canonical_of l) ≡ canonical_of l =
    λ l w. ap₂ canon (c.normalized_denotes.ensures.of_type l) (c.normalized_denotes.ensures.slots l w) in
    record {
      once = same;
      canonical = λ l w f. (c.canonical_is_normalized.ensures (canonical_of l) (c.normalized_denotes.ensures.well_formed l w f)).1 (sym (same l w));
    }
