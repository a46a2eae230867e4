-- Values that their text tells: without floats, and as JSON holds them.
use Rattle.std.specs.Prelude.{◌≡◌, ℕ, ◌<◌, ◌^◌, pos, negsuc, List, IsUtf8, ⊤}
use Rattle.std.specs.Ordering.{nat_cmp}
use Rattle.std.specs.Cmp.Lexicographic.{slice_cmp}
use Rattle.std.specs.declared.cmp.Ordering.TheVariants.{Greater}
use Rattle.serde_json.specs.Data.{Data, null, boolean, number, string, array, object, Num, unsigned, negative, float, Items, no_items, item, Members, no_members, member}

-- a whole number of 64 bits, with a sign where it is negative
abbrev pub IsWhole : Num → Type 0
IsWhole (unsigned n) = n < 2 ^ 64
IsWhole (negative (pos n)) = ⊥
IsWhole (negative (negsuc n)) = n < 2 ^ 63
IsWhole (float x) = ⊥

abbrev pub snoc : Members → List ℕ → Data → Members
snoc no_members k d = member k d no_members
snoc (member l e ms) k d = member l e (snoc ms k d)

-- every key of these is below k
abbrev pub AreBelow : Members → List ℕ → Type 0
AreBelow no_members k = ⊤
AreBelow (member l e ms) k = (slice_cmp nat_cmp k l ≡ Greater) × AreBelow ms k

-- no float, whole numbers of 64 bits, texts and keys that are UTF-8, and the keys of an object in order
abbrev mutual
  pub IsTold : Data → Type 0
  IsTold null = ⊤
  IsTold (boolean b) = ⊤
  IsTold (number n) = IsWhole n
  IsTold (string s) = IsUtf8 s
  IsTold (array ds) = AreTold ds
  IsTold (object ms) = MembersAreTold no_members ms

  pub AreTold : Items → Type 0
  AreTold no_items = ⊤
  AreTold (item d ds) = IsTold d × AreTold ds

  -- behind those found
  pub MembersAreTold : Members → Members → Type 0
  MembersAreTold found no_members = ⊤
  MembersAreTold found (member k d ms) = AreBelow found k × IsUtf8 k × IsTold d × MembersAreTold (snoc found k d) ms
