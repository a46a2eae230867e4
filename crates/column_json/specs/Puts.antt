-- A value written as JSON tokens.
use Rattle.std.specs.Prelude.{◌≡◌, List, [], ◌∷◌, ◌++◌, codes}
use Rattle.json.specs.Token.{Token}
use Rattle.json.specs.Tree.{json_tokens}
use Rattle.json.specs.Written.{Written}
use Rattle.serde_json.specs.Data.{Data}
use Rattle.serde_json.specs.Written.{outline}

abbrev pub value_tokens : Data → List Token
value_tokens d = json_tokens (outline d)

-- These tokens are appended, and what stood before them stays.
pub record Grows (old new : Written) (ts : List Token) : Type 0 where
  pub tokens : new.tokens ≡ old.tokens ++ ts
  pub before : new.before ≡ old.before

abbrev pub Puts : Written → Written → Data → Type 0
Puts old new d = Grows old new (value_tokens d)

-- The tokens of a column before those of its type.
abbrev pub column_start : Data → List Token
column_start d = Token.begin_object ∷ Token.key (codes "data") ∷ (value_tokens d ++ Token.key (codes "type") ∷ [])
