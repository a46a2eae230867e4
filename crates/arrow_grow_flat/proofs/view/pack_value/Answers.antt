use Rattle.std.proofs.Common.{arith}
use Rattle.arrow_flat.specs.Natives.{octets}
use Rattle.arrow_meaning.proofs.Octets.{are_octets, octets_count}
use Rattle.arrow_grow_flat.proofs.PackedValues.{value_pushed}
use Rattle.arrow_grow_flat.proofs.view.pack_value.Goals as goal

pub returns-clause-keep : goal.returns-clause-keep
returns-clause-keep c =
    let v = c.args.value.now in
    (value_pushed c.args.packer.now c.push_value.new.self (octets v) c.push_value.result c.requires.limit (omega (arith, octets_count v, c.requires.fits)) (are_octets v)
    (omega (arith, c.buffer_count.ensures, c.if-buffer_count.false)) c.push_value.ensures).0

pub returns-clause-view : goal.returns-clause-view
returns-clause-view c =
    let v = c.args.value.now in
    (value_pushed c.args.packer.now c.push_value.new.self (octets v) c.push_value.result c.requires.limit (omega (arith, octets_count v, c.requires.fits)) (are_octets v)
    (omega (arith, c.buffer_count.ensures, c.if-buffer_count.false)) c.push_value.ensures).1
