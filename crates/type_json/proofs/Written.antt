-- What a value owes so that its text is UTF-8 and is read back as the value.
use Rattle.std.proofs.Common.{◌≡◌, ◌<◌, ◌≤◌, ◌^◌, ℕ, List, [], ◌∷◌, ◌++◌, refl, ap, ◌∙◌, arith, Some, false}
use Rattle.std.specs.Prelude.{ℤ, pos, negsuc, Bool, IsUtf8, ◌||◌, map}
use Rattle.std.specs.List.{AllByRecursion}
use Rattle.std.proofs.lemmas.Str.{IsUtf8-append, IsUtf8-from_ascii}
use Rattle.std.proofs.lemmas.Fmt.{IsAscii-decimal, IsAscii-signed}
use Rattle.json.specs.Tree as tree
use Rattle.json.proofs.Printed.Decimals.{IsNumber-decimal, IsNumber-signed_decimal}
use Rattle.json.proofs.Printed.Utf8.{IsUtf8-are_ascii}
use Rattle.serde_json.specs.Data.{Data, null, boolean, number, unsigned, string, array, Items, no_items, item, depth}
use Rattle.serde_json.specs.Find.{of_integer}
use Rattle.serde_json.specs.Read.{read}
use Rattle.serde_json.specs.View.{items_of}
use Rattle.serde_json.specs.Written.{outline, items_outline, has_float, items_have_float, compact_text}
use Rattle.serde_json.proofs.Numbers.{number_of-decimal, number_of-negative}
use Rattle.type_json.specs.TypeJson.{IsInt32}
use Rattle.type_json.proofs.ReadBack.{line_back}
use Rattle.type_json.proofs.Sound.{IsSound, AreSound, outline_back}
use Rattle.type_json.proofs.Utf8.{HasUtf8, ItemsHaveUtf8, text_utf8}

pub record IsWritten (d : Data) : Type 0 where
  pub no_float : has_float d ≡ false
  pub sound : IsSound d
  pub numbers : tree.HasNumbers (outline d)
  pub utf8 : HasUtf8 d

pub record AreWritten (ds : Items) : Type 0 where
  pub no_float : items_have_float ds ≡ false
  pub sound : AreSound ds
  pub numbers : tree.ItemsHaveNumbers (items_outline ds)
  pub utf8 : ItemsHaveUtf8 ds

-- the text of such a value, with a line feed, is UTF-8 and read as the value
pub line_reads : (d : Data) → IsWritten d → depth d ≤ 127 → read (compact_text d ++ 10 ∷ []) ≡ Some d
line_reads d h shallow = line_back d h.numbers shallow (outline_back d h.sound)

pub line_utf8 : (d : Data) → IsWritten d → IsUtf8 (compact_text d ++ 10 ∷ [])
line_utf8 d h = IsUtf8-append _ (10 ∷ []) (text_utf8 d h.utf8) (IsUtf8-are_ascii (10 ∷ []) refl)

pub null_written : IsWritten null
null_written = record { no_float = refl; sound = tt; numbers = tt; utf8 = tt }

pub boolean_written : (b : Bool) → IsWritten (boolean b)
boolean_written b = record { no_float = refl; sound = tt; numbers = tt; utf8 = tt }

pub string_written : (s : List ℕ) → IsUtf8 s → IsWritten (string s)
string_written s h = record { no_float = refl; sound = tt; numbers = tt; utf8 = h }

pub whole_written : (n : ℕ) → n < 2 ^ 64 → IsWritten (number (unsigned n))
whole_written n h = record {
  no_float = refl;
  sound = number_of-decimal n h;
  numbers = IsNumber-decimal n (omega (arith, h));
  utf8 = IsUtf8-from_ascii _ (IsAscii-decimal n (omega (arith, h)));
}

pub int32_written : (z : ℤ) → IsInt32 z → IsWritten (number (of_integer z))
int32_written (pos n) h = whole_written n (omega (arith, h))
int32_written (negsuc n) h = record {
  no_float = refl;
  sound = number_of-negative n (omega (arith, h));
  numbers = IsNumber-signed_decimal (negsuc n) (omega (arith, h));
  utf8 = IsUtf8-from_ascii _ (IsAscii-signed (negsuc n) (omega (arith, h)));
}

pub none_written : AreWritten no_items
none_written = record { no_float = refl; sound = tt; numbers = tt; utf8 = tt }

pub item_written : (d : Data) (ds : Items) → IsWritten d → AreWritten ds → AreWritten (item d ds)
item_written d ds a b = record {
  no_float = ap (λ x. x || items_have_float ds) a.no_float ∙ b.no_float;
  sound = (a.sound, b.sound);
  numbers = (a.numbers, b.numbers);
  utf8 = (a.utf8, b.utf8);
}

pub array_written : (ds : Items) → AreWritten ds → IsWritten (array ds)
array_written ds h = record { no_float = h.no_float; sound = h.sound; numbers = h.numbers; utf8 = h.utf8 }

pub int32s_written : (zs : List ℤ) → AllByRecursion IsInt32 zs → AreWritten (items_of (map (λ z. number (of_integer z)) zs))
int32s_written [] h = none_written
int32s_written (z ∷ zs) h = item_written (number (of_integer z)) (items_of (map (λ y. number (of_integer y)) zs)) (int32_written z h.0) (int32s_written zs h.1)
