use Rattle.std.proofs.Common.{fold, ap, ◌∙◌}
use Rattle.std.specs.Hash.{u8, str, option, le_bytes}
use Rattle.arrow_types.specs.SeenAt as at
use Rattle.arrow_types.specs.TypeEq.{unit_number}
use Rattle.arrow_types.specs.TypeWrites.{parts_writes}
use Rattle.arrow_types.proofs.AtVariant.{at_variant}
use Rattle.arrow_types.proofs.Hashed.{number_taken, both_taken, parts_taken, unit_parts, decimal_parts, no_parts}
use Rattle.arrow_types.proofs.hashing.hash_plain.Goals as goal

pub returns-in-Timestamp : goal.returns-in-Timestamp
returns-in-Timestamp g c =
    let write = g.H.Hasher.write in
    let start = c.args.state.now in
    let unit = c.in-Timestamp.unit in
    let zone = c.in-Timestamp.zone in
    λ _. parts_taken write start c.args.t.now (at_variant parts_writes (at.seen-Timestamp unit zone) c.in-Timestamp.is) (both_taken write start (u8 (unit_number unit)) (option str zone) (number_taken write start c.unit_number.result _ c.write_u8.ensures c.unit_number.ensures) c.hash.ensures)

pub returns-in-Time32 : goal.returns-in-Time32
returns-in-Time32 g c =
    let write = g.H.Hasher.write in
    let start = c.args.state.now in
    λ _. parts_taken write start c.args.t.now (unit_parts c.args.t.now c.in-Time32.unit c.in-Time32.is) (number_taken write start c.unit_number-in-Time32.result _ c.write_u8-in-Time32.ensures c.unit_number-in-Time32.ensures)

pub returns-in-Interval : goal.returns-in-Interval
returns-in-Interval g c =
    let write = g.H.Hasher.write in
    let start = c.args.state.now in
    λ _. parts_taken write start c.args.t.now (at_variant parts_writes (at.seen-Interval c.in-Interval.interval) c.in-Interval.is) (number_taken write start c.interval_number.result _ c.write_u8-in-Interval.ensures c.interval_number.ensures)

pub returns-in-FixedSizeBinary : goal.returns-in-FixedSizeBinary
returns-in-FixedSizeBinary g c = λ _. parts_taken g.H.Hasher.write c.args.state.now c.args.t.now (at_variant parts_writes (at.seen-FixedSizeBinary c.in-FixedSizeBinary.size) c.in-FixedSizeBinary.is) c.hash-in-FixedSizeBinary.ensures

pub returns-in-Decimal : goal.returns-in-Decimal
returns-in-Decimal g c =
    let write = g.H.Hasher.write in
    λ _. parts_taken write c.args.state.now c.args.t.now (decimal_parts c.args.t.now _ _ c.in-Decimal.is) (c.hash-in-Decimal-2.ensures ∙ ap (λ s. write s (le_bytes 8 c.in-Decimal.scale)) c.hash-in-Decimal.ensures)

pub returns-in_default : goal.returns-in_default
returns-in_default g c =
    let d = c.in_default in
    λ n. ap (fold g.H.Hasher.write c.args.state.now) (no_parts c.args.t.now d.not-Timestamp d.not-Time32 d.not-Time64 d.not-Duration d.not-Interval d.not-FixedSizeBinary d.not-Decimal d.not-Decimal256 n)
