use Rattle.std.proofs.Common.{ap, sym, ◌∙◌}
use Rattle.std.specs.Option.{option_copied}
use Rattle.arrow_canon.specs.Runs.{places}
use Rattle.arrow_items.specs.Items.{kept_places}
use Rattle.arrow_items.proofs.KeptPlaces.{kept_all, kept_none}
use Rattle.arrow_items.proofs.struct_.runs_under.Goals as goal

pub returns-then-not-has_unset-clause-places : goal.returns-then-not-has_unset-clause-places
returns-then-not-has_unset-clause-places c =
    ap places c.in_ok-from_slice.ensures.items
    ∙ sym (kept_all (option_copied c.args.validity) (places c.args.runs.now) (sym c.requires.set ∙ c.if-not-has_unset.true))

pub returns-in_ok-from_slice-in-None-clause-places : goal.returns-in_ok-from_slice-in-None-clause-places
returns-in_ok-from_slice-in-None-clause-places c =
    ap places c.in_ok-from_slice-in-None.ensures.items ∙ sym (kept_none (places c.args.runs.now))
    ∙ ap (λ v. kept_places (option_copied v) (places c.args.runs.now)) (sym c.in-None.is)
