use Rattle.std.proofs.Common.{◌∙◌}
use Rattle.arrow_meaning.proofs.NullParts.{ends_within, no_texts, offsets_fit}
use Rattle.arrow_meaning.proofs.null_flat.null_offset_array.Goals as goal

pub new-requires-2-clause-within : goal.new-requires-2-clause-within
new-requires-2-clause-within g c = ends_within g.O.Offset.number c.in_ok-offsets.offsets c.args.length c.in_ok-offsets.ensures c.in_ok-values.values

pub new-requires-2-clause-fits : goal.new-requires-2-clause-fits
new-requires-2-clause-fits g c = offsets_fit g.O.Offset.number c.in_ok-offsets.offsets c.args.length c.in_ok-offsets.ensures c.in_ok-validity.validity c.in_ok-validity.ensures.covers

pub new-requires-2-clause-texts : goal.new-requires-2-clause-texts
new-requires-2-clause-texts g c =
    no_texts g.O.Offset.number c.in_ok-offsets.offsets c.args.length c.in_ok-offsets.ensures g.K.ViewType.IS_TEXT c.in_ok-values.values (c.in_ok-values.ensures ∙ c.new.ensures.items)
