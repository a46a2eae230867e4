-- A value with sound numbers and its keys in order is read back from its outline, whatever its keys are.
use Rattle.std.proofs.Common.{◌≡◌, ℕ, List, refl, ap, ◌∙◌, Some}
use Rattle.std.specs.Prelude.{option_map, option_and_then, ⊤}
use Rattle.std.specs.Ordering.{match_ordering}
use Rattle.serde_json.specs.Data.{Data, null, boolean, number, string, array, object, Items, no_items, item, Members, no_members, member, put}
use Rattle.serde_json.specs.Read.{number_of, of_json, of_items, of_members}
use Rattle.serde_json.specs.Written.{number_text, outline, items_outline, members_outline}
use Rattle.type_json.specs.Texts.{snoc, AreBelow}

abbrev pub join : Members → Members → Members
join no_members ms = ms
join (member l e found) ms = member l e (join found ms)

abbrev mutual
  pub IsSound : Data → Type 0
  IsSound null = ⊤
  IsSound (boolean b) = ⊤
  IsSound (number n) = number_of (number_text n) ≡ Some n
  IsSound (string s) = ⊤
  IsSound (array ds) = AreSound ds
  IsSound (object ms) = MembersAreSound no_members ms

  pub AreSound : Items → Type 0
  AreSound no_items = ⊤
  AreSound (item d ds) = IsSound d × AreSound ds

  -- behind those found
  pub MembersAreSound : Members → Members → Type 0
  MembersAreSound found no_members = ⊤
  MembersAreSound found (member k d ms) = AreBelow found k × IsSound d × MembersAreSound (snoc found k d) ms

put_last : (found : Members) (k : List ℕ) (d : Data) → AreBelow found k → put k d found ≡ snoc found k d
put_last no_members k d h = refl
put_last (member l e ms) k d h =
    ap (λ o. match_ordering o (member k d (member l e ms)) (member l d ms) (member l e (put k d ms))) h.0 ∙ ap (member l e) (put_last ms k d h.1)

join_snoc : (found : Members) (k : List ℕ) (d : Data) (ms : Members) → join (snoc found k d) ms ≡ join found (member k d ms)
join_snoc no_members k d ms = refl
join_snoc (member l e found) k d ms = ap (member l e) (join_snoc found k d ms)

join_none : (found : Members) → found ≡ join found no_members
join_none no_members = refl
join_none (member l e found) = ap (member l e) (join_none found)

mutual
  pub outline_back : (d : Data) → IsSound d → of_json (outline d) ≡ Some d
  outline_back null h = refl
  outline_back (boolean b) h = refl
  outline_back (number n) h = ap (option_map number) h
  outline_back (string s) h = refl
  outline_back (array ds) h = ap (option_map array) (items_back ds h)
  outline_back (object ms) h = ap (option_map object) (members_back no_members ms h)

  items_back : (ds : Items) → AreSound ds → of_items (items_outline ds) ≡ Some ds
  items_back no_items h = refl
  items_back (item d ds) h =
      ap (λ o. option_and_then (λ e. option_map (item e) (of_items (items_outline ds))) o) (outline_back d h.0) ∙ ap (option_map (item d)) (items_back ds h.1)

  members_back : (found ms : Members) → MembersAreSound found ms → of_members (members_outline ms) found ≡ Some (join found ms)
  members_back found no_members h = ap Some (join_none found)
  members_back found (member k d ms) h =
      ap (λ o. option_and_then (λ e. of_members (members_outline ms) (put k e found)) o) (outline_back d h.1)
      ∙ ap (of_members (members_outline ms)) (put_last found k d h.0)
      ∙ members_back (snoc found k d) ms h.2
      ∙ ap Some (join_snoc found k d ms)
