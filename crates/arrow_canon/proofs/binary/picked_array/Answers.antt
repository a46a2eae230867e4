use Rattle.std.proofs.Common.{refl, map, ap, sym, subst, ◌∙◌}
use Rattle.std.specs.Prelude.{pred}
use Rattle.std.proofs.lemmas.List.{length-map}
use Rattle.arrow_types.specs.Seen.{seen}
use Rattle.arrow_types.specs.Types.{physical_of}
use Rattle.arrow_bytes.specs.Binaries.{slot_count}
use Rattle.arrow_flat.specs.Primitives.{MaskHasLength}
use Rattle.arrow_meaning.specs.Nodes.{binary_layout}
use Rattle.arrow_canon.specs.Picks.{picked_mask}
use Rattle.arrow_canon.specs.Runs.{places, AreWithinMask}
use Rattle.arrow_canon.proofs.Places.{within_mask}
use Rattle.arrow_canon.proofs.Binaries.{stored_for, values_within, canonical_binaries, end_of_parts, mask_of_parts, texts_of_parts}
use Rattle.arrow_canon.proofs.binary.picked_array.Goals as goal

pub joined_bytes-requires : goal.joined_bytes-requires
joined_bytes-requires g c = λ k. ((refl, tt), (refl, values_within g.K.ViewType.IS_TEXT g.O.Offset.IS_LARGE g.O.Offset.number c.args.array.now c.invariant.ensures.sound (seen c.args.dtype.now) c.requires.of_type c.args.runs.now c.requires.within))

pub mask_of_runs-requires : goal.mask_of_runs-requires
mask_of_runs-requires g c =
    let a = c.args.array.now in
    subst (λ m. AreWithinMask m c.args.runs.now) (sym c.validity.ensures) (within_mask a.mask (slot_count a) c.args.runs.now c.invariant.ensures.sound.array.fits c.requires.within)

pub new-requires-clause-within : goal.new-requires-clause-within
new-requires-clause-within g c =
    end_of_parts g.K.ViewType.IS_TEXT g.O.Offset.IS_LARGE g.O.Offset.number c.args.array.now c.invariant.ensures.sound (seen c.args.dtype.now) c.requires.of_type c.args.runs.now c.requires.within
    (map g.O.Offset.number c.args.offsets) c.requires.offsets c.in_ok-values-2.values (c.in_ok-values-2.ensures ∙ c.in_ok-values.ensures)

pub new-requires-clause-fits : goal.new-requires-clause-fits
new-requires-clause-fits g c =
    let number = g.O.Offset.number in
    let os = c.args.offsets in
    let m = c.in_ok-validity.validity in
    subst (λ n. MaskHasLength m (pred n)) (length-map os number)
    (mask_of_parts g.K.ViewType.IS_TEXT g.O.Offset.IS_LARGE number c.args.array.now c.invariant.ensures.sound (seen c.args.dtype.now) c.requires.of_type c.args.runs.now c.requires.within
    (map number os) c.requires.offsets m (c.in_ok-validity.ensures ∙ ap (λ m. picked_mask m (places c.args.runs.now)) c.validity.ensures))

pub new-requires-clause-stored : goal.new-requires-clause-stored
new-requires-clause-stored g c =
    ap (λ d. physical_of (seen d)) c.in_ok-dtype.ensures
    ∙ stored_for g.K.ViewType.IS_TEXT g.O.Offset.IS_LARGE g.O.Offset.number c.args.array.now c.invariant.ensures.sound (seen c.args.dtype.now) c.requires.of_type

pub new-requires-clause-texts : goal.new-requires-clause-texts
new-requires-clause-texts g c =
    texts_of_parts g.K.ViewType.IS_TEXT g.O.Offset.IS_LARGE g.O.Offset.number c.args.array.now c.invariant.ensures.sound (seen c.args.dtype.now) c.requires.of_type c.args.runs.now c.requires.within
    (map g.O.Offset.number c.args.offsets) c.requires.offsets c.in_ok-values-2.values (c.in_ok-values-2.ensures ∙ c.in_ok-values.ensures)

pub returns : goal.returns
returns g c =
    let number = g.O.Offset.number in
    ap (binary_layout number) c.new.ensures
    ∙ canonical_binaries g.K.ViewType.IS_TEXT g.O.Offset.IS_LARGE number c.args.array.now c.invariant.ensures.sound (seen c.args.dtype.now) c.requires.of_type c.args.runs.now c.requires.within
    (record { dtype = c.in_ok-dtype.dtype; offsets = c.args.offsets; values = c.in_ok-values-2.values; mask = c.in_ok-validity.validity })
    (ap seen c.in_ok-dtype.ensures) c.requires.offsets (c.in_ok-values-2.ensures ∙ c.in_ok-values.ensures)
    (c.in_ok-validity.ensures ∙ ap (λ m. picked_mask m (places c.args.runs.now)) c.validity.ensures)
