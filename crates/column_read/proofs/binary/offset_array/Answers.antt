use Rattle.std.proofs.Common.{◌≡◌, subst}
use Rattle.std.specs.Prelude.{map, IsSome, MatchOption}
use Rattle.arrow_types.specs.Seen.{seen}
use Rattle.arrow_buffers.specs.Offsets.{offsets_refusal}
use Rattle.arrow_flat.specs.Natives.{octets}
use Rattle.arrow_bytes.specs.Binaries.{Refused}
use Rattle.column_read.proofs.BadParts.{bad_offsets, bad_binaries}
use Rattle.column_read.proofs.binary.offset_array.Goals as goal

pub returns-in_default : goal.returns-in_default
returns-in_default g c = λ _ w.
    let os = map g.O.Offset.number c.args.parts.offsets.items in
    bad_offsets (seen c.args.dtype) c.args.parts.validity os (octets c.args.parts.values)
    (subst (λ o. MatchOption o (IsSome (offsets_refusal os)) (λ b. b ≡ c.args.parts.offsets.items)) c.in_default.is c.in_ok-offsets.ensures) w

pub returns-in-Err : goal.returns-in-Err
returns-in-Err g c = λ _ w.
    let number = g.O.Offset.number in
    let text = g.K.ViewType.IS_TEXT in
    let large = g.O.Offset.IS_LARGE in
    let p = c.args.parts in
    let os = map number p.offsets.items in
    let same : c.in-Some.offsets ≡ p.offsets.items =
    subst (λ o. MatchOption o (IsSome (offsets_refusal os)) (λ b. b ≡ p.offsets.items)) c.in-Some.is c.in_ok-offsets.ensures in
    bad_binaries number text large c.args.dtype p.validity p.offsets.items p.values c.in-Err.field-0 c.requires.stored c.requires.octets
    (subst (λ xs. Refused text large number c.in-Err.field-0 record { dtype = c.args.dtype; offsets = xs; values = p.values; mask = p.validity }) same c.in-Err.ensures) w
