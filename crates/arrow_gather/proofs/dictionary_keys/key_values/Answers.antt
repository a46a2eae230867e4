use Rattle.std.proofs.Common.{◌<◌}
use Rattle.arrow_types.specs.Capacity.{key_capacity}
use Rattle.arrow_gather.proofs.KeyPlaces.{all_at}
use Rattle.arrow_gather.proofs.dictionary_keys.key_values.Goals as goal

pub key_at-requires : goal.key_at-requires
key_at-requires g c = all_at (λ k. k < key_capacity g.K.NodeKey.KEY_TYPE) c.args.positions.now c.loop-position.position-index 0 c.loop-position-test.true c.requires
