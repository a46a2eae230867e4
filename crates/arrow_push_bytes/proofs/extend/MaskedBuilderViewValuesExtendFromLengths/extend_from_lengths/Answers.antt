use Rattle.std.proofs.Common.{rules, ◌≡◌, ◌+◌, ◌<◌, ◌≤◌, ◌⊎◌, length, map, refl, ap, subst, arith, inr, Some, []}
use Rattle.arrow_types.specs.declared.error.PolarsError.TheVariants.{OutOfMemory}
use Rattle.arrow_flat.specs.Slots.{bytes}
use Rattle.arrow_flat.specs.Built.{Built, IsUnchanged}
use Rattle.arrow_push.specs.Laws.{masked_starts}
use Rattle.arrow_push.specs.State.{state}
use Rattle.arrow_push.proofs.Later.{same_unchanged, cut_unchanged}
use Rattle.arrow_push_bytes.specs.BuiltStrings.{TypedStrings}
use Rattle.arrow_push_bytes.specs.BuiltViews.{most_bytes, built_views}
use Rattle.arrow_push_bytes.specs.Laws.{views_start}
use Rattle.arrow_push_bytes.specs.Parts.{parts}
use Rattle.arrow_push_bytes.specs.Strings.{total_of}
use Rattle.arrow_push_bytes.proofs.BuiltViews.{beyond}
use Rattle.arrow_push_bytes.proofs.PartsPushed.{parts_refused}
use Rattle.arrow_push_bytes.proofs.extend.MaskedBuilderViewValuesExtendFromLengths.extend_from_lengths.Goals as goal

pub returns-then-not-has_room_for : goal.returns-then-not-has_room_for
returns-then-not-has_room_for g c =
    let b = c.args.self.now in
    let now = c.values.result.now in
    let more = length c.args.bytes.now in
    let e : total_of now.strings ≡ total_of b.values.strings = ap (λ (p : TypedStrings). total_of p.strings) c.values.ensures in
    let m : most_bytes < total_of now.strings + more =
    beyond c.has_room_for.result (total_of now.strings + more) most_bytes c.has_room_for.ensures.value c.if-not-has_room_for.true in
    let few : total_of b.values.strings ≤ most_bytes = omega (arith, e, c.has_room_for.ensures.few) in
    let many : most_bytes < total_of b.values.strings + more = omega (arith, e, m) in
    (same_unchanged (state b) (state b) refl refl, inr (parts_refused b.values b.validity c.args.lengths.now c.args.bytes.now c.requires.lengths few many))

pub returns-in_err-reserve_bytes : goal.returns-in_err-reserve_bytes
returns-in_err-reserve_bytes g c =
    let k : IsUnchanged (state c.args.self.now) (state c.reserve_bytes.new.self) =
    same_unchanged (state c.args.self.now) (state c.reserve_bytes.new.self) refl c.reserve_bytes.ensures.slots in
    search (rules, k)

pub returns-in-Err : goal.returns-in-Err
returns-in-Err g c =
    let room = c.reserve_bytes.new.self in
    let p = c.in-Err.ensures in (
      subst (λ (b : Built). IsUnchanged b (state c.truncate.new.self)) c.reserve_bytes.ensures.slots
          (cut_unchanged (state room) (state c.push_parts.new.builder) (state c.truncate.new.self) p.0.0 c.len-before.result
          (masked_starts (λ t. bytes []) (built_views room.values) room.validity (views_start room.values) room.fits) p.0.1 c.len-before.ensures c.truncate.ensures.cut),
      subst (λ (b : Built). (c.in-Err.error ≡ OutOfMemory) ⊎ (b.refusal (map bytes (parts c.args.lengths.now c.args.bytes.now)) ≡ Some c.in-Err.error))
          c.reserve_bytes.ensures.slots p.1,
    )
