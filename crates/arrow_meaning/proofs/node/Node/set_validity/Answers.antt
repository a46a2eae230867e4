use Rattle.std.proofs.Common.{ap, ◌∙◌, sym}
use Rattle.arrow_meaning.specs.Nodes.{key_type_of, node_physical}
use Rattle.arrow_meaning.proofs.NodeParts.{same_keys}
use Rattle.arrow_meaning.proofs.node.Node.set_validity.Goals as goal

pub returns-in-Dictionary-clause-kind : goal.returns-in-Dictionary-clause-kind
returns-in-Dictionary-clause-kind c =
    same_keys (key_type_of c.set_validity-in-Dictionary.new.self) (key_type_of c.in-Dictionary.keys) c.set_validity-in-Dictionary.ensures.kind ∙ ap node_physical (sym c.in-Dictionary.is)
