use Rattle.std.proofs.Common.{◌∙◌}
use Rattle.arrow_layout.specs.Denote.{validity_of}
use Rattle.arrow_layout.specs.Layouts.{length_of}
use Rattle.arrow_layout.proofs.CutForms.{count_below}
use Rattle.arrow_meaning.specs.Nodes.{key_layout}
use Rattle.arrow_canon.specs.Runs.{places}
use Rattle.arrow_gather.specs.Distincts.{picked_values}
use Rattle.arrow_gather.proofs.KeyPlaces.{named_weaker}
use Rattle.arrow_gather.proofs.KeyedParts.{keyed_there, parts_firsts, parts_keys, parts_mask, parts_within, positions_there}
use Rattle.arrow_gather.proofs.dictionary.dictionary_parts.Goals as goal

pub value_positions-requires-clause-named : goal.value_positions-requires-clause-named
value_positions-requires-clause-named c =
    let ks = key_layout c.args.keys.now in
    named_weaker ks (validity_of ks) (length_of c.args.child.now) (count_below c.args.child.now c.invariant-2.ensures) c.requires.keys

pub of_positions-requires : goal.of_positions-requires
of_positions-requires c =
    positions_there c.args.keys.now c.args.child.now c.args.runs.now c.invariant.ensures.sound c.requires.within c.requires.keys c.as_slice.result.now (c.as_slice.ensures.value ∙ c.in_ok-positions.ensures)

pub returns-clause-inside : goal.returns-clause-inside
returns-clause-inside c =
    let keyed = keyed_there c.args.keys.now c.args.child.now c.args.runs.now c.invariant.ensures.sound c.requires.within c.in_ok-slots.slots c.as_slice.result.now (c.as_slice.ensures.value ∙ c.in_ok-positions.ensures) c.in_ok-slots.ensures in
    parts_within c.args.child.now (picked_values (key_layout c.args.keys.now) c.args.child.now (places c.args.runs.now)) c.in_ok-slots.slots c.in_ok-into_parts.field-0 keyed c.in_ok-into_parts.ensures.firsts

pub returns-clause-firsts : goal.returns-clause-firsts
returns-clause-firsts c =
    let keyed = keyed_there c.args.keys.now c.args.child.now c.args.runs.now c.invariant.ensures.sound c.requires.within c.in_ok-slots.slots c.as_slice.result.now (c.as_slice.ensures.value ∙ c.in_ok-positions.ensures) c.in_ok-slots.ensures in
    parts_firsts c.args.child.now (picked_values (key_layout c.args.keys.now) c.args.child.now (places c.args.runs.now)) c.in_ok-slots.slots c.in_ok-into_parts.field-0 keyed c.in_ok-into_parts.ensures.firsts

pub returns-clause-keys : goal.returns-clause-keys
returns-clause-keys c =
    let keyed = keyed_there c.args.keys.now c.args.child.now c.args.runs.now c.invariant.ensures.sound c.requires.within c.in_ok-slots.slots c.as_slice.result.now (c.as_slice.ensures.value ∙ c.in_ok-positions.ensures) c.in_ok-slots.ensures in
    parts_keys c.args.child.now (picked_values (key_layout c.args.keys.now) c.args.child.now (places c.args.runs.now)) c.in_ok-slots.slots c.in_ok-into_parts.field-0 keyed c.in_ok-into_parts.ensures.keys

pub returns-clause-mask : goal.returns-clause-mask
returns-clause-mask c =
    let keyed = keyed_there c.args.keys.now c.args.child.now c.args.runs.now c.invariant.ensures.sound c.requires.within c.in_ok-slots.slots c.as_slice.result.now (c.as_slice.ensures.value ∙ c.in_ok-positions.ensures) c.in_ok-slots.ensures in
    parts_mask c.args.child.now (picked_values (key_layout c.args.keys.now) c.args.child.now (places c.args.runs.now)) c.in_ok-slots.slots c.in_ok-into_parts.field-0 keyed c.in_ok-into_parts.ensures.mask
