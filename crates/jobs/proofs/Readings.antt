-- The reading of bytes.
use Rattle.std.proofs.Common.{◌≡◌, ℕ, List, refl, ap, sym, ◌∙◌, Some, None, true, false}
use Rattle.std.specs.Prelude.{Bool, IsUtf8, if◌then◌else◌}
use Rattle.std.specs.Str.{is_utf8}
use Rattle.std.proofs.lemmas.Str.{IsUtf8-from_is_utf8, is_utf8-from_IsUtf8}
use Rattle.serde_json.specs.Data.{Data}
use Rattle.serde_json.specs.Read.{read}
use Rattle.jobs.specs.Job.{reading}

pub reading_some : (bytes : List ℕ) (d : Data) → IsUtf8 bytes → read bytes ≡ Some d → reading bytes ≡ Some d
unfolding reading
reading_some bytes d utf8 e = ap (λ b. if b then read bytes else None) (is_utf8-from_IsUtf8 bytes utf8) ∙ e

reading_by : (bytes : List ℕ) (b : Bool) → b ≡ is_utf8 bytes → (IsUtf8 bytes → read bytes ≡ None) → (if b then read bytes else None) ≡ None
reading_by bytes true e h = h (IsUtf8-from_is_utf8 bytes (sym e))
reading_by bytes false e h = refl

pub reading_none : (bytes : List ℕ) → (IsUtf8 bytes → read bytes ≡ None) → reading bytes ≡ None
unfolding reading
reading_none bytes h = reading_by bytes (is_utf8 bytes) refl h
