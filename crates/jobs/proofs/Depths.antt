-- The depth of a type, by its parts.
use Rattle.std.proofs.Common.{◌≡◌, ◌<◌, ℕ, Bool, refl, sym, arith}
use Rattle.arrow_types.specs.TypeData.{TypeData}
use Rattle.arrow_types.specs.TypeData as T
use Rattle.arrow_types.specs.Depth.{depth_of}
use Rattle.arrow_types.specs.Seen.{seen, back, back_field, back_fields}
use Rattle.arrow_types.proofs.Back.{back-seen}
use Rattle.arrow_types.proofs.SeenAt.{seen_rules}
use Rattle.arrow_types.specs.declared.datatype.ArrowDataType.{ArrowDataType}
use Rattle.arrow_types.specs.declared.datatype.ArrowDataType as A
use Rattle.arrow_types.specs.declared.datatype.ExtensionType.{ExtensionType}
use Rattle.arrow_types.specs.declared.datatype.Field.{Field}
use Rattle.arrow_types.specs.declared.datatype.UnionType.{UnionType, roll-UnionType}
use Rattle.arrow_types.specs.declared.datatype.IntegerType.{IntegerType}
use Rattle.std.specs.Prelude.{List}

pub ruleset depths = (seen_rules)

-- each type has at least one level
pub depth_above : (s : TypeData) → 0 < depth_of s
depth_above (T.list f) = omega arith
depth_above (T.large_list f) = omega arith
depth_above (T.fixed_size_list f k) = omega arith
depth_above (T.struct fs) = omega arith
depth_above (T.map f o) = omega arith
depth_above (T.union fs is d) = omega arith
depth_above (T.dictionary k t o) = omega arith
depth_above (T.extension n t m) = omega arith
depth_above _ = omega arith

module _
    (t : ArrowDataType) (list : (f : Field) → t ≡ A.List f → ⊥) (large : (f : Field) → t ≡ A.LargeList f → ⊥) (fixed : (f : Field) (k : ℕ) → t ≡ A.FixedSizeList f k → ⊥)
    (map : (f : Field) (o : Bool) → t ≡ A.Map f o → ⊥) (struct : (fs : List Field) → t ≡ A.Struct fs → ⊥) (union : (u : UnionType) → t ≡ A.Union u → ⊥)
    (dictionary : (k : IntegerType) (v : ArrowDataType) (o : Bool) → t ≡ A.Dictionary k v o → ⊥) (extension : (e : ExtensionType) → t ≡ A.Extension e → ⊥)
  where
    depth_by : (s : TypeData) → back s ≡ t → depth_of s ≡ 1
    depth_by (T.list f) e = absurd (list (back_field f) (sym e))
    depth_by (T.large_list f) e = absurd (large (back_field f) (sym e))
    depth_by (T.fixed_size_list f k) e = absurd (fixed (back_field f) k (sym e))
    depth_by (T.struct fs) e = absurd (struct (back_fields fs) (sym e))
    depth_by (T.map f o) e = absurd (map (back_field f) o (sym e))
    depth_by (T.union fs is d) e = absurd (union (roll-UnionType record { fields = back_fields fs; ids = is; mode = d }) (sym e))
    depth_by (T.dictionary k v o) e = absurd (dictionary k (back v) o (sym e))
    depth_by (T.extension n v m) e = absurd (extension record { name = n; inner = back v; metadata = m } (sym e))
    depth_by _ e = refl

    pub depth_other : depth_of (seen t) ≡ 1
    depth_other = depth_by (seen t) (back-seen t)
