-- The words of the commands.
use Rattle.std.specs.Prelude.{ℕ, List, [], ◌∷◌, codes, bytes_eq, if◌then◌else◌, Option, Some, None}
use Rattle.jobs.specs.declared.command.Command.{Command}
use Rattle.jobs.specs.declared.command.Command.TheVariants.{Canon, Check}

-- the command of a word
abbrev pub command_of_word : List ℕ → Option Command
command_of_word word = if bytes_eq word (codes "canon") then Some Canon else if bytes_eq word (codes "check") then Some Check else None

-- the command that the words are, None where they are none
abbrev pub command_of : List (List ℕ) → Option Command
command_of (word ∷ []) = command_of_word word
command_of _ = None
