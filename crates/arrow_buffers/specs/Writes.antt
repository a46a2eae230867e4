-- What writes of bits leave in bytes.
use Rattle.std.specs.Prelude.{ℕ, ◌+◌, ◌*◌, ◌<◌, ◌≤◌, ◌≡◌, Bool, cond, nat_eq, List, ◌++◌, length}
use Rattle.arrow_buffers.specs.Bits.{bit_of, bits_of}

-- Bit i is `bit`, and the others stay.
abbrev pub WritesBit : List ℕ → List ℕ → ℕ → Bool → Type 0
WritesBit old new i bit = (k : ℕ) → bit_of new k ≡ cond (nat_eq k i) bit (bit_of old k)

-- From `place` on stand the `len` bits of `source` from `start` on; the bits before `place` stay.
pub record CopiesBits
    (old new : List ℕ) (place : ℕ) (source : List ℕ) (start len : ℕ) : Type 0 where
  pub bytes : length new ≡ length old
  pub before : (k : ℕ) → k < place → bit_of new k ≡ bit_of old k
  pub copied : (k : ℕ) → k < len → bit_of new (place + k) ≡ bit_of source (start + k)

-- After the first `slots` bits, which stay, stand these n, and all lie in the bytes.
abbrev pub AppendsBits : List ℕ → List ℕ → ℕ → ℕ → List Bool → Type 0
AppendsBits old new slots n bits =
    (bits_of new 0 (slots + n) ≡ bits_of old 0 slots ++ bits) × (slots + n ≤ 8 * length new)

-- The bits from `start` up to `end` are `bit`, and the others stay.
pub record FillsBits (old new : List ℕ) (start end : ℕ) (bit : Bool) : Type 0 where
  pub bytes : length new ≡ length old
  pub before : (k : ℕ) → k < start → bit_of new k ≡ bit_of old k
  pub filled : (k : ℕ) → start ≤ k → k < end → bit_of new k ≡ bit
  pub after : (k : ℕ) → end ≤ k → bit_of new k ≡ bit_of old k
