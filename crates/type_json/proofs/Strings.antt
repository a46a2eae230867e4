-- The strings of a value that the program holds are UTF-8.
use Rattle.std.proofs.Common.{◌≡◌, List, [], ◌∷◌, map, subst, sym, String, BTreeMap, Global}
use Rattle.std.specs.Prelude.{IsUtf8, ⊤}
use Rattle.std.proofs.lemmas.Str.{IsUtf8-string_bytes}
use Rattle.serde_json.specs.Data.{Data, null, boolean, number, string, array, object, Items, no_items, item, Members, no_members, member}
use Rattle.serde_json.specs.View.{view, view_step, items_view, members_view}
use Rattle.serde_json.specs.declared.value.Value.{Value}
use Rattle.serde_json.specs.declared.value.Value as V
use Rattle.serde_json.specs.declared.value.Value.TheOpen.{Value-F}
use Rattle.serde_json.specs.declared.value.Value.TheOpen as layer
use Rattle.serde_json.specs.declared.value.Value.TheFolds as folds

abbrev mutual
  pub HasStrings : Data → Type 0
  HasStrings null = ⊤
  HasStrings (boolean b) = ⊤
  HasStrings (number n) = ⊤
  HasStrings (string s) = IsUtf8 s
  HasStrings (array ds) = ItemsHaveStrings ds
  HasStrings (object ms) = MembersHaveStrings ms

  pub ItemsHaveStrings : Items → Type 0
  ItemsHaveStrings no_items = ⊤
  ItemsHaveStrings (item d ds) = HasStrings d × ItemsHaveStrings ds

  pub MembersHaveStrings : Members → Type 0
  MembersHaveStrings no_members = ⊤
  MembersHaveStrings (member k d ms) = IsUtf8 k × HasStrings d × MembersHaveStrings ms

abbrev ValueHas : Value → Type 0
ValueHas v = HasStrings (view v)

abbrev AValue : Type 0
AValue = (v : Value) × ValueHas v

items_have : (vs : List AValue) → ItemsHaveStrings (items_view (map (λ e. e.0) vs))
items_have [] = tt
items_have (v ∷ vs) = (v.1, items_have vs)

members_have : (ms : List (String Global × AValue)) → MembersHaveStrings (members_view (map (λ m. (m.0, m.1.0)) ms))
members_have [] = tt
members_have (m ∷ ms) = (IsUtf8-string_bytes m.0, m.1.1, members_have ms)

abbrev bare : Value-F AValue → Value-F Value
bare = V.map-Value AValue Value (λ e. e.0)

at_value : (y : Value-F AValue) → ValueHas (V.roll-Value (bare y))
at_value layer.Null = subst HasStrings (sym (folds.fold-roll-Value Data view_step (bare layer.Null))) tt
at_value (layer.Bool b) = subst HasStrings (sym (folds.fold-roll-Value Data view_step (bare (layer.Bool b)))) tt
at_value (layer.Number n) = subst HasStrings (sym (folds.fold-roll-Value Data view_step (bare (layer.Number n)))) tt
at_value (layer.String s) = subst HasStrings (sym (folds.fold-roll-Value Data view_step (bare (layer.String s)))) (IsUtf8-string_bytes s)
at_value (layer.Array vs) = subst HasStrings (sym (folds.fold-roll-Value Data view_step (bare (layer.Array vs)))) (items_have vs.items)
at_value (layer.Object ms) = subst HasStrings (sym (folds.fold-roll-Value Data view_step (bare (layer.Object ms)))) (members_have ms.entries)

pub view_strings : (v : Value) → HasStrings (view v)
view_strings = folds.ind-Value ValueHas (λ x y is. subst (λ z. ValueHas (V.roll-Value z)) is (at_value y))
