use Rattle.arrow_choice.proofs.DictionaryNodes.{others_are_none}
use Rattle.arrow_gather.proofs.dictionary.+declared_type.Goals as goal

pub returns-in_default : goal.returns-in_default
returns-in_default t c = others_are_none c.args.dtype.now c.in_default.not-Dictionary c.in_default.not-Extension
