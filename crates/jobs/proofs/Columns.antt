-- Columns as they are read: their types, and their depths.
use Rattle.std.proofs.Common.{◌≡◌, ◌<◌, ◌≤◌, ℕ, refl, sym, subst, true, false, leb-true, leb-false}
use Rattle.std.specs.Prelude.{Bool, nat_le, Decides}
use Rattle.arrow_types.specs.Depth.{depth_of}
use Rattle.arrow_types.specs.TypeData.{TypeData}

past : (n limit : ℕ) → (n ≤ limit → ⊥) → limit < n
past n limit h = by (nat_le n limit) refl
  where
    by : (b : Bool) → nat_le n limit ≡ b → limit < n
    by true e = absurd (h (leb-true n limit e))
    by false e = leb-false n limit e

deeper : (b : Bool) (n limit : ℕ) → Decides b (n ≤ limit) → b ≡ false → limit < n
deeper true n limit d e = let no : ⊥ = cc in absurd no
deeper false n limit d e = past n limit (λ h. absurd (never (d.1 h)))
  where
    never : false ≡ true → ⊥
    never e = cc

-- the type of what was read is as deep as the type was found to be
pub read_deeper : (t u : TypeData) (b : Bool) (limit : ℕ) → u ≡ t → Decides b (depth_of t ≤ limit) → b ≡ false → limit < depth_of u
read_deeper t u b limit same h e = subst (λ v. limit < depth_of v) (sym same) (deeper b (depth_of t) limit h e)

pub read_within : (t u : TypeData) (b : Bool) (limit : ℕ) → u ≡ t → Decides b (depth_of t ≤ limit) → b ≡ true → depth_of u ≤ limit
read_within t u b limit same h e = subst (λ v. depth_of v ≤ limit) (sym same) (h.0 e)
