use Rattle.arrow_choice.proofs.DictionaryParts.{well_formed_accepted, well_formed_refused}
use Rattle.arrow_choice.proofs.dictionary_laws.well_formed_dictionaries_are_accepted.Goals as goal

pub returns-clause-accepted : goal.returns-clause-accepted
returns-clause-accepted c = well_formed_accepted

pub returns-clause-refused : goal.returns-clause-refused
returns-clause-refused c = well_formed_refused
