use Rattle.std.proofs.Common.{◌≡◌, map}
use Rattle.arrow_flat.specs.Natives.{octets}
use Rattle.arrow_views.proofs.packer.ViewPacker.finish.Given as goal

abbrev pub invariant-loop-buffer : goal.invariant-loop-buffer
invariant-loop-buffer l = map octets l.buffers.items ≡ l.yielded
