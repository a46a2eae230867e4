-- Values written token by token.
use Rattle.std.proofs.Common.{◌≡◌, ℕ, ◌+◌, ◌<◌, ◌≤◌, List, [], ◌∷◌, ◌++◌, length, get_or, take, refl, ap, sym, ◌∙◌, append_assoc, append-nil, ltb-true, Result, Ok, Err}
use Rattle.std.specs.Prelude.{Bool, false, true, map, flat_map, fold, ℤ, pos, negsuc, codes, OnOk, IsUtf8}
use Rattle.std.specs.Fmt.{signed_decimal}
use Rattle.std.specs.Str.{IsAscii}
use Rattle.std.proofs.lemmas.Bool.{and_parts}
use Rattle.std.proofs.lemmas.Grind.{fold-append}
use Rattle.std.proofs.lemmas.List.{take_all, take_more, map-append, flat_map_more}
use Rattle.std.proofs.lemmas.Str.{IsUtf8-from_ascii}
use Rattle.std.proofs.lemmas.Str.Ascii.{IsAscii-nil, IsAscii-cons}
use Rattle.json.specs.Token.{Token}
use Rattle.json.specs.Tree.{items_tokens}
use Rattle.json.specs.Print.{print, print_from, ends}
use Rattle.json.specs.Written.{Written, Writes}
use Rattle.json.proofs.Printed.Tokens.{print_from-append}
use Rattle.json.proofs.Printed.Utf8.{are_ascii}
use Rattle.hex.specs.Hex.{encode_lower, lower_digits}
use Rattle.hex.proofs.HexLemmas.{IsAscii-encode_with}
use Rattle.serde_json.specs.Data.{Data, string}
use Rattle.serde_json.specs.Find.{of_integer}
use Rattle.serde_json.specs.View.{items_of}
use Rattle.serde_json.specs.Written.{items_outline, number_text, compact_text, has_float}
use Rattle.serde_json.proofs.Texts.{print-outline}
use Rattle.type_json.specs.TypeJson.{type_value}
use Rattle.type_json.proofs.NoFloats.{type_no_float}
use Rattle.arrow_layout.specs.Layouts.{Layout, type_of}
use Rattle.column_grammar.specs.Values.{list_value, integer_value}
use Rattle.column_grammar.specs.Writes.{object2, data_value, column_text}
use Rattle.column_json.specs.Puts.{Grows, Puts, value_tokens, column_start}

-- ---- numbers

pub integer_text : (z : ℤ) → number_text (of_integer z) ≡ signed_decimal z
integer_text (pos n) = refl
integer_text (negsuc n) = refl

pub integer_tokens : (z : ℤ) → value_tokens (integer_value z) ≡ Token.number (signed_decimal z) ∷ []
integer_tokens z = ap (λ s. Token.number s ∷ []) (integer_text z)

-- ---- lists

items_written : (ds : List Data) → items_tokens (items_outline (items_of ds)) ≡ flat_map value_tokens ds ++ Token.end_array ∷ []
items_written [] = refl
items_written (d ∷ ds) = ap (λ ts. value_tokens d ++ ts) (items_written ds) ∙ sym (append_assoc (value_tokens d) (flat_map value_tokens ds) (Token.end_array ∷ []))

pub list_tokens : (ds : List Data) → value_tokens (list_value ds) ≡ Token.begin_array ∷ (flat_map value_tokens ds ++ Token.end_array ∷ [])
list_tokens ds = ap (λ ts. Token.begin_array ∷ ts) (items_written ds)

pub map-map : {A B C : Type 0} (f : A → B) (h : B → C) (xs : List A) → map h (map f xs) ≡ map (λ x. h (f x)) xs
map-map f h [] = refl
map-map f h (x ∷ xs) = ap (λ ys. h (f x) ∷ ys) (map-map f h xs)

-- The values of the first items are written.
abbrev pub Begun : Written → Written → List Data → Type 0
Begun old new ds = Grows old new (flat_map value_tokens ds)

pub list_begun : (old : Written) → Begun old old []
list_begun old = record { tokens = sym (append-nil old.tokens); before = refl }

taken : {A : Type 0} (xs : List A) (i : ℕ) (x : A) → i < length xs → x ≡ get_or xs i x → take (i + 1) xs ≡ take i xs ++ x ∷ []
taken xs i x h is = take_more xs i x h ∙ ap (λ y. take i xs ++ y ∷ []) (sym is)

pub list_more : {A : Type 0} (f : A → Data) (xs : List A) (i : ℕ) (x : A) (old now new : Written) → i < length xs → x ≡ get_or xs i x → Begun old now (map f (take i xs)) → Puts now new (f x)
    → Begun old new (map f (take (i + 1) xs))
list_more f xs i x old now new h is b p =
    let all : map f (take (i + 1) xs) ≡ map f (take i xs) ++ f x ∷ [] = ap (map f) (taken xs i x h is) ∙ map-append f (take i xs) (x ∷ []) in
    record {
      tokens = p.tokens ∙ ap (λ ts. ts ++ value_tokens (f x)) b.tokens ∙ flat_map_more value_tokens old.tokens (map f (take i xs)) (f x) ∙ ap (λ ds. old.tokens ++ flat_map value_tokens ds) (sym all);
      before = p.before ∙ b.before;
    }

-- a list whose items are all written, with its brackets
pub list_put : {A E : Type 0} (f : A → Data) (xs : List A) (i : ℕ) (ds : List Data) (r : Result Unit E) (out old now new : Written) → old.tokens ≡ out.tokens ++ Token.begin_array ∷ [] → old.before ≡ out.before
    → length xs ≤ i → Begun old now (map f (take i xs)) → Writes r now new Token.end_array → map f xs ≡ ds → OnOk r (Puts out new (list_value ds))
list_put f xs i ds (Ok u) out old now new e eb h b w same =
    let all : map f (take i xs) ≡ ds = ap (map f) (take_all i xs h) ∙ same in
    let items = flat_map value_tokens (map f (take i xs)) in
    let begun : now.tokens ≡ out.tokens ++ Token.begin_array ∷ items = b.tokens ∙ ap (λ ts. ts ++ items) e ∙ append_assoc out.tokens (Token.begin_array ∷ []) items in
    record {
      tokens = w.ok ∙ ap (λ ts. ts ++ Token.end_array ∷ []) begun ∙ append_assoc out.tokens (Token.begin_array ∷ items) (Token.end_array ∷ [])
          ∙ ap (λ es. out.tokens ++ Token.begin_array ∷ (flat_map value_tokens es ++ Token.end_array ∷ [])) all ∙ ap (λ ts. out.tokens ++ ts) (sym (list_tokens ds));
      before = w.room.0 ∙ b.before ∙ eb;
    }
list_put f xs i ds (Err error) out old now new e eb h b w same = tt

-- ---- what follows one part by another, from the last

pub ended : {E : Type 0} (r : Result Unit E) (old new : Written) (t : Token) → Writes r old new t → OnOk r (Grows old new (t ∷ []))
ended (Ok u) old new t w = record { tokens = w.ok; before = w.room.0 }
ended (Err error) old new t w = tt

pub then_token : {E : Type 0} (r : Result Unit E) (old now new : Written) (t : Token) (ts : List Token) → now.tokens ≡ old.tokens ++ t ∷ [] → now.before ≡ old.before
    → OnOk r (Grows now new ts) → OnOk r (Grows old new (t ∷ ts))
then_token (Ok u) old now new t ts e b g = record { tokens = g.tokens ∙ ap (λ us. us ++ ts) e ∙ append_assoc old.tokens (t ∷ []) ts; before = g.before ∙ b }
then_token (Err error) old now new t ts e b g = tt

pub then_part : {E : Type 0} (r : Result Unit E) (old now new : Written) (us ts : List Token) → Grows old now us → OnOk r (Grows now new ts) → OnOk r (Grows old new (us ++ ts))
then_part (Ok u) old now new us ts a g = record { tokens = g.tokens ∙ ap (λ vs. vs ++ ts) a.tokens ∙ append_assoc old.tokens us ts; before = g.before ∙ a.before }
then_part (Err error) old now new us ts a g = tt

-- ---- texts

pub string_put : {E : Type 0} (r : Result Unit E) (old new : Written) (s t : List ℕ) → Writes r old new (Token.string s) → s ≡ t → OnOk r (Puts old new (string t))
string_put (Ok u) old new s t w e = record { tokens = w.ok ∙ ap (λ x. old.tokens ++ Token.string x ∷ []) e; before = w.room.0 }
string_put (Err error) old new s t w e = tt

ascii_from : (s : List ℕ) → are_ascii s ≡ true → IsAscii s
ascii_from [] e = IsAscii-nil
ascii_from (x ∷ s) e = let p = and_parts _ _ e in IsAscii-cons x s (ltb-true _ _ p.0) (ascii_from s p.1)

pub encoded_utf8 : (bs : List ℕ) → IsUtf8 (encode_lower bs)
encoded_utf8 bs = IsUtf8-from_ascii _ (IsAscii-encode_with lower_digits bs (ascii_from lower_digits refl))

-- ---- the text of a column

close : (c : Bool) → print_from c (Token.end_object ∷ []) ≡ 125 ∷ []
unfolding print_from
close true = refl
close false = refl

print_closed : (d : Data) → print (value_tokens d ++ Token.end_object ∷ []) ≡ compact_text d ++ 125 ∷ []
print_closed d =
    print_from-append false (value_tokens d) (Token.end_object ∷ []) ∙ ap (λ s. print (value_tokens d) ++ s) (close (fold (λ _ u. ends u) false (value_tokens d)))
    ∙ ap (λ s. s ++ 125 ∷ []) (print-outline d)

last_key : (d : Data) → fold (λ _ u. ends u) false (column_start d) ≡ false
last_key d = fold-append (λ _ u. ends u) false (value_tokens d) (Token.key (codes "type") ∷ [])

print_column : (d e : Data) → print (column_start d) ++ (compact_text e ++ 125 ∷ []) ≡ compact_text (object2 (codes "data") d (codes "type") e)
print_column d e =
    let rest = value_tokens e ++ Token.end_object ∷ [] in
    let split : value_tokens (object2 (codes "data") d (codes "type") e) ≡ column_start d ++ rest =
    ap (λ ts. Token.begin_object ∷ Token.key (codes "data") ∷ ts) (sym (append_assoc (value_tokens d) (Token.key (codes "type") ∷ []) rest)) in
    sym
    (sym (print-outline (object2 (codes "data") d (codes "type") e)) ∙ ap print split ∙ print_from-append false (column_start d) rest
    ∙ ap (λ c. print (column_start d) ++ print_from c rest) (last_key d) ∙ ap (λ s. print (column_start d) ++ s) (print_closed e))

-- the text of the data, that of the type, and the end
pub column_text_of : (l : Layout) (d : Data) (start spelling two all : List ℕ) → d ≡ type_value (type_of l) → (has_float d ≡ false → spelling ≡ compact_text d)
    → start ≡ print (column_start (data_value l)) → two ≡ start ++ spelling → all ≡ two ++ 125 ∷ 10 ∷ [] → all ≡ column_text l
unfolding column_text
column_text_of l d start spelling two all is text begun more last =
    let e = type_value (type_of l) in
    let spelled : spelling ≡ compact_text e = text (ap has_float is ∙ type_no_float (type_of l)) ∙ ap compact_text is in
    let first = print (column_start (data_value l)) in
    let whole : two ≡ first ++ compact_text e = more ∙ ap (λ s. s ++ spelling) begun ∙ ap (λ s. first ++ s) spelled in
    last ∙ ap (λ s. s ++ 125 ∷ 10 ∷ []) whole ∙ regroup first (compact_text e) ∙ ap (λ s. s ++ 10 ∷ []) (print_column (data_value l) e)
  where
    regroup : (a b : List ℕ) → (a ++ b) ++ 125 ∷ 10 ∷ [] ≡ (a ++ (b ++ 125 ∷ [])) ++ 10 ∷ []
    regroup a b = simp append_assoc
