-- A value that its text tells owes nothing more.
use Rattle.std.proofs.Common.{◌≡◌, ◌<◌, ◌^◌, ℕ, refl, ap, ◌∙◌, arith, false}
use Rattle.std.specs.Prelude.{pos, negsuc, ◌||◌}
use Rattle.std.proofs.lemmas.Str.{IsUtf8-from_ascii}
use Rattle.std.proofs.lemmas.Fmt.{IsAscii-signed}
use Rattle.json.specs.Tree as tree
use Rattle.json.proofs.Printed.Decimals.{IsNumber-signed_decimal}
use Rattle.serde_json.specs.Data.{Data, null, boolean, number, string, array, object, unsigned, negative, float, Items, no_items, item, Members, no_members, member}
use Rattle.serde_json.specs.Written.{members_outline, members_have_float}
use Rattle.serde_json.proofs.Numbers.{number_of-negative}
use Rattle.type_json.specs.Texts.{snoc, IsTold, AreTold, MembersAreTold}
use Rattle.type_json.proofs.Sound.{MembersAreSound}
use Rattle.type_json.proofs.Utf8.{MembersHaveUtf8}
use Rattle.type_json.proofs.Written.{IsWritten, AreWritten, null_written, boolean_written, string_written, whole_written, none_written, item_written, array_written}

record MembersAreWritten (found ms : Members) : Type 0 where
  no_float : members_have_float ms ≡ false
  sound : MembersAreSound found ms
  numbers : tree.MembersHaveNumbers (members_outline ms)
  utf8 : MembersHaveUtf8 ms

negative_written : (n : ℕ) → n < 2 ^ 63 → IsWritten (number (negative (negsuc n)))
negative_written n h = record {
  no_float = refl;
  sound = number_of-negative n h;
  numbers = IsNumber-signed_decimal (negsuc n) (omega (arith, h));
  utf8 = IsUtf8-from_ascii _ (IsAscii-signed (negsuc n) (omega (arith, h)));
}

mutual
  pub told_written : (d : Data) → IsTold d → IsWritten d
  told_written null h = null_written
  told_written (boolean b) h = boolean_written b
  told_written (number (unsigned n)) h = whole_written n h
  told_written (number (negative (pos n))) h = absurd h
  told_written (number (negative (negsuc n))) h = negative_written n h
  told_written (number (float x)) h = absurd h
  told_written (string s) h = string_written s h
  told_written (array ds) h = array_written ds (items_written ds h)
  told_written (object ms) h =
      let w = members_written no_members ms h in
      record { no_float = w.no_float; sound = w.sound; numbers = w.numbers; utf8 = w.utf8 }

  items_written : (ds : Items) → AreTold ds → AreWritten ds
  items_written no_items h = none_written
  items_written (item d ds) h = item_written d ds (told_written d h.0) (items_written ds h.1)

  members_written : (found ms : Members) → MembersAreTold found ms → MembersAreWritten found ms
  members_written found no_members h = record { no_float = refl; sound = tt; numbers = tt; utf8 = tt }
  members_written found (member k d ms) h =
      let first = told_written d h.2 in
      let rest = members_written (snoc found k d) ms h.3 in
      record {
        no_float = ap (λ x. x || members_have_float ms) first.no_float ∙ rest.no_float;
        sound = (h.0, first.sound, rest.sound);
        numbers = (first.numbers, rest.numbers);
        utf8 = (h.1, first.utf8, rest.utf8);
      }
