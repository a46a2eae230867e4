-- What a type of the program is as data, level by level.
use Rattle.arrow_types.proofs.SeenAt.{seen_rules}

pub ruleset at = (seen_rules)
