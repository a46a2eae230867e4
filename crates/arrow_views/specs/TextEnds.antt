-- Where the UTF-8 strings end that bytes hold.
use Rattle.std.specs.Prelude.{IsUtf8, ◌≡◌, ℕ, suc, ◌-◌, ◌<◌, ◌≤◌, List, [], length, take, drop, get_or}
use Rattle.arrow_flat.specs.Natives.{octets}

-- The first n bytes are UTF-8, and no more bytes of the first on are.
pub record IsTextLength (bs : List ℕ) (n : ℕ) : Type 0 where
  pub within : n ≤ length bs
  pub text : IsUtf8 (take n bs)
  pub longest : (m : ℕ) → n < m → m ≤ length bs → IsUtf8 (take m bs) → ⊥

-- The longest UTF-8 string that begins at `start`, which is position i or before it, ends at `end`, which is i or after it.
pub record EndsAround (bs : List ℕ) (i end : ℕ) : Type 0 where
  pub start : ℕ
  pub before : start ≤ i
  pub after : i ≤ end
  pub string : IsTextLength (drop start bs) (end - start)

-- Such an end for each position, the one past the last byte too.
pub record AreTextEnds (bs ends : List ℕ) : Type 0 where
  pub many : length ends ≡ suc (length bs)
  pub around : (i : ℕ) → i ≤ length bs → EndsAround bs i (get_or ends i 0)

-- The ends in each buffer.
pub record AreEndsOf (buffers ends : List (List ℕ)) : Type 0 where
  pub count : length ends ≡ length buffers
  pub each : (k : ℕ) → k < length buffers → AreTextEnds (octets (get_or buffers k [])) (get_or ends k [])
