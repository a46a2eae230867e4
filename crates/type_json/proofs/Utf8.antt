-- The text of a value whose strings are UTF-8 is UTF-8.
use Rattle.std.proofs.Common.{ℕ, List, [], ◌∷◌, refl, true, false}
use Rattle.std.specs.Prelude.{Bool, IsUtf8, ⊤}
use Rattle.std.proofs.lemmas.Str.{IsUtf8-append, IsUtf8-nil}
use Rattle.json.specs.Print.{quoted, token_text}
use Rattle.json.specs.Token.{Token}
use Rattle.json.proofs.Printed.Utf8.{IsUtf8-quoted, IsUtf8-are_ascii}
use Rattle.serde_json.specs.Data.{Data, null, boolean, number, string, array, object, Items, no_items, item, Members, no_members, member}
use Rattle.serde_json.specs.Written.{number_text, comma_if, compact_text, items_text, members_text}

-- strings, keys and numbers have UTF-8 texts
abbrev mutual
  pub HasUtf8 : Data → Type 0
  HasUtf8 null = ⊤
  HasUtf8 (boolean b) = ⊤
  HasUtf8 (number n) = IsUtf8 (number_text n)
  HasUtf8 (string s) = IsUtf8 s
  HasUtf8 (array ds) = ItemsHaveUtf8 ds
  HasUtf8 (object ms) = MembersHaveUtf8 ms

  pub ItemsHaveUtf8 : Items → Type 0
  ItemsHaveUtf8 no_items = ⊤
  ItemsHaveUtf8 (item d ds) = HasUtf8 d × ItemsHaveUtf8 ds

  pub MembersHaveUtf8 : Members → Type 0
  MembersHaveUtf8 no_members = ⊤
  MembersHaveUtf8 (member k d ms) = IsUtf8 k × HasUtf8 d × MembersHaveUtf8 ms

pub one : (x : ℕ) (bs : List ℕ) → IsUtf8 (x ∷ []) → IsUtf8 bs → IsUtf8 (x ∷ bs)
one x bs h k = IsUtf8-append (x ∷ []) bs h k

comma_utf8 : (b : Bool) → IsUtf8 (comma_if b)
comma_utf8 true = IsUtf8-are_ascii (44 ∷ []) refl
comma_utf8 false = IsUtf8-nil

mutual
  pub text_utf8 : (d : Data) → HasUtf8 d → IsUtf8 (compact_text d)
  text_utf8 null h = IsUtf8-are_ascii (token_text Token.null) refl
  text_utf8 (boolean true) h = IsUtf8-are_ascii (token_text (Token.boolean true)) refl
  text_utf8 (boolean false) h = IsUtf8-are_ascii (token_text (Token.boolean false)) refl
  text_utf8 (number n) h = h
  text_utf8 (string s) h = IsUtf8-quoted s h
  text_utf8 (array ds) h = one 91 _ (IsUtf8-are_ascii (91 ∷ []) refl) (items_utf8 false ds h)
  text_utf8 (object ms) h = one 123 _ (IsUtf8-are_ascii (123 ∷ []) refl) (members_utf8 false ms h)

  items_utf8 : (b : Bool) (ds : Items) → ItemsHaveUtf8 ds → IsUtf8 (items_text b ds)
  items_utf8 b no_items h = IsUtf8-are_ascii (93 ∷ []) refl
  items_utf8 b (item d ds) h = IsUtf8-append (comma_if b) _ (comma_utf8 b) (IsUtf8-append (compact_text d) _ (text_utf8 d h.0) (items_utf8 true ds h.1))

  members_utf8 : (b : Bool) (ms : Members) → MembersHaveUtf8 ms → IsUtf8 (members_text b ms)
  members_utf8 b no_members h = IsUtf8-are_ascii (125 ∷ []) refl
  members_utf8 b (member k d ms) h =
      IsUtf8-append (comma_if b) _ (comma_utf8 b)
      (IsUtf8-append (quoted k) _ (IsUtf8-quoted k h.0) (one 58 _ (IsUtf8-are_ascii (58 ∷ []) refl) (IsUtf8-append (compact_text d) _ (text_utf8 d h.1) (members_utf8 true ms h.2))))
