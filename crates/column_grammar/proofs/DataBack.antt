-- The data of a layout is read as the layout.
use Rattle.std.proofs.Common.{◌≡◌, ◌≤◌, ◌<◌, ◌^◌, ◌+◌, ◌-◌, ◌*◌, ◌/◌, ℕ, List, [], ◌∷◌, ◌++◌, length, get_or, take, drop, replicate, refl, ap, sym, ◌∙◌, Option, Some, None, true, false, arith, lt-ltb, le-leb}
use Rattle.std.specs.Prelude.{ℤ, pos, negsuc, Bool, nat_le, ◌&&◌, if◌then◌else◌, map, option_map, option_and_then}
use Rattle.std.specs.Option.{option_zip}
use Rattle.std.specs.List.{AllByRecursion}
use Rattle.std.proofs.lemmas.List.{length-take-le, take-append-drop, take-take}
use Rattle.std.proofs.Math.Nat.{mul-div_cancel}
use Rattle.serde_json.specs.Data.{Data}
use Rattle.arrow_buffers.specs.Bits.{Bits}
use Rattle.arrow_types.specs.TypeData.{TypeData}
use Rattle.arrow_types.specs.Carried.{IsBelow}
use Rattle.arrow_types.specs.declared.datatype.PrimitiveType.{PrimitiveType}
use Rattle.arrow_flat.specs.Numbers.{InRange, signed_range, unsigned_range, IsNumber}
use Rattle.arrow_flat.specs.Views.{View, inline, long, inline_view, IsView}
use Rattle.type_json.specs.Values.{traverse}
use Rattle.type_json.proofs.Walks.{list_of-items_of}
use Rattle.arrow_layout.specs.Layouts.{booleans, primitives, binaries, fixed_size_binaries, views}
use Rattle.arrow_layout.specs.Plain.{IsPlainMask}
use Rattle.arrow_flat.specs.Natives.{AreBytes}
use Rattle.arrow_flat.proofs.Lists.{all_take}
use Rattle.column_grammar.specs.Values.{bit_of_digit, bit_char, bits_in_json, bits_value, mask_in, mask_value, bytes_in, bytes_value, signed_in, unsigned_in, integer_value, list_in, list_value, number_in, number_value}
use Rattle.column_grammar.specs.Reads.{booleans_in, primitives_in, binaries_in, fixed_size_binaries_in, views_in, view_in, views_of_parts, long_of, inline_of, offset_bits, prefix_in}
use Rattle.column_grammar.specs.Writes.{booleans_value, primitives_value, binaries_value, fixed_size_binaries_value, views_value, view_value}
use Rattle.column_grammar.proofs.NumbersBack.{signed_back, unsigned_back, bytes_back, number_back}

-- ---- bits

bits_again : (bits : List Bool) → traverse bit_of_digit (map bit_char bits) ≡ Some bits
bits_again [] = refl
bits_again (true ∷ bits) = ap (option_map (λ bs. true ∷ bs)) (bits_again bits)
bits_again (false ∷ bits) = ap (option_map (λ bs. false ∷ bs)) (bits_again bits)

pub bits_back : (b : Bits) → b.lead ≡ 0 → bits_in_json (bits_value b) ≡ Some b
unfolding bits_in_json
bits_back b e = ap (option_map (λ bits. record { bits = bits; lead = 0 })) (bits_again b.bits) ∙ ap (λ n. Some (record { bits = b.bits; lead = n })) (sym e)

pub mask_back : (m : Option Bits) → IsPlainMask m → mask_in (mask_value m) ≡ Some m
unfolding mask_in
mask_back None h = refl
mask_back (Some b) h = ap (option_map Some) (bits_back b h)

-- ---- lists

module _ {A : Type 0} (f : Data → Option A) (g : A → Data) (P : A → Type 0) (back : (x : A) → P x → f (g x) ≡ Some x) where
  each_back : (xs : List A) → AllByRecursion P xs → traverse f (map g xs) ≡ Some xs
  each_back [] h = refl
  each_back (x ∷ xs) h =
      ap (option_and_then (λ y. option_map (λ ys. y ∷ ys) (traverse f (map g xs)))) (back x h.0) ∙ ap (option_map (λ ys. x ∷ ys)) (each_back xs h.1)

  pub list_back : (xs : List A) → AllByRecursion P xs → list_in f (list_value (map g xs)) ≡ Some xs
  unfolding list_in
  list_back xs h = ap (traverse f) (list_of-items_of (map g xs)) ∙ each_back xs h

-- ---- offsets

offset_range : (large : Bool) (limit : ℕ) (z : ℤ) → limit ≡ 2 ^ offset_bits large → IsBelow limit z → InRange (signed_range (offset_bits large)) z
offset_range large limit (pos n) e h = omega (arith, e, h)
offset_range large limit (negsuc n) e h = absurd h

offset_wide : (large : Bool) → 2 ^ offset_bits large ≤ 2 ^ 63
offset_wide true = omega arith
offset_wide false = omega arith

pub offset_back : (large : Bool) (limit : ℕ) → limit ≡ 2 ^ offset_bits large → (z : ℤ) → IsBelow limit z → signed_in (offset_bits large) (integer_value z) ≡ Some z
offset_back large limit e z h = signed_back (offset_bits large) z (offset_wide large) (offset_range large limit z e h)

-- ---- views

inline_back : (bs : List ℕ) (n : ℕ) → n ≤ 12 → length bs ≡ 12 → drop n bs ≡ replicate (12 - n) 0 → inline_of (take n bs) ≡ Some (inline n bs)
inline_back bs n few all zeros =
    let count : length (take n bs) ≡ n = length-take-le n bs (omega (arith, few, all)) in
    let short : length (take n bs) ≤ 12 = omega (arith, count, few) in
    let padded : take n bs ++ replicate (12 - length (take n bs)) 0 ≡ bs = ap (λ k. take n bs ++ replicate (12 - k) 0) count ∙ ap (λ r. take n bs ++ r) (sym zeros) ∙ take-append-drop n bs in
    ap (λ b. if b then Some (inline_view (take n bs)) else None) (le-leb _ _ short)
    ∙ ap (λ v. Some v) (ap (λ k. inline k (take n bs ++ replicate (12 - length (take n bs)) 0)) count ∙ ap (inline n) padded)

prefix_is : (buffers : List (List ℕ)) (n b o : ℕ) → 12 < n → b < length buffers → o + n ≤ length (get_or buffers b [])
    → prefix_in buffers n b o ≡ take 4 (take n (drop o (get_or buffers b [])))
prefix_is buffers n b o many named within =
    ap (λ c. if c && nat_le (o + n) (length (get_or buffers b [])) then take 4 (drop o (get_or buffers b [])) else replicate 4 0) (lt-ltb _ _ named)
    ∙ ap (λ c. if c then take 4 (drop o (get_or buffers b [])) else replicate 4 0) (le-leb _ _ within)
    ∙ sym (take-take 4 n (drop o (get_or buffers b [])) (omega (arith, many)))

long_back : (buffers : List (List ℕ)) (n : ℕ) (p : List ℕ) (b o : ℕ) → 12 < n → prefix_in buffers n b o ≡ p → long_of buffers (pos n, (pos b, pos o)) ≡ Some (long n p b o)
long_back buffers n p b o many e =
    ap (λ c. if c then Some (long n (prefix_in buffers n b o) b o) else None) (lt-ltb _ _ many) ∙ ap (λ q. Some (long n q b o)) e

three_back : (x y z : ℤ) → InRange (unsigned_range 32) x → InRange (unsigned_range 32) y → InRange (unsigned_range 32) z
    → option_zip (unsigned_in 32 (integer_value x)) (option_zip (unsigned_in 32 (integer_value y)) (unsigned_in 32 (integer_value z))) ≡ Some (x, (y, z))
three_back x y z hx hy hz =
    ap (λ o. option_zip o (option_zip (unsigned_in 32 (integer_value y)) (unsigned_in 32 (integer_value z)))) (unsigned_back 32 x hx)
    ∙ ap (λ o. option_zip (Some x) (option_zip o (unsigned_in 32 (integer_value z)))) (unsigned_back 32 y hy)
    ∙ ap (λ o. option_zip (Some x) (option_zip (Some y) o)) (unsigned_back 32 z hz)

pub view_back : (buffers : List (List ℕ)) (v : View) → IsView buffers v → view_in buffers (view_value v) ≡ Some v
unfolding view_in
view_back buffers (inline n bs) h =
    ap (option_and_then inline_of) (bytes_back (take n bs) (all_take (λ b. b < 256) n bs h.3)) ∙ inline_back bs n h.0 h.1 h.2
view_back buffers (long n p b o) h =
    ap (option_and_then (long_of buffers)) (three_back (pos n) (pos b) (pos o) h.4 h.5 h.6)
    ∙ long_back buffers n p b o h.0 (prefix_is buffers n b o h.0 h.1 h.2 ∙ sym h.3)

-- ---- the data of each kind

pub booleans_back : (t : TypeData) (m : Option Bits) (vs : Bits) → IsPlainMask m → vs.lead ≡ 0 → booleans_in t (booleans_value m vs) ≡ Some (booleans t m vs)
unfolding booleans_in
booleans_back t m vs plain flat =
    ap (λ o. option_map (λ p. booleans t p.0 p.1) (option_zip o (bits_in_json (bits_value vs)))) (mask_back m plain)
    ∙ ap (λ o. option_map (λ p. booleans t p.0 p.1) (option_zip (Some m) o)) (bits_back vs flat)

pub primitives_back : (t : TypeData) (p : PrimitiveType) (m : Option Bits) (xs : List (List ℤ)) → IsPlainMask m → AllByRecursion (IsNumber p) xs
    → primitives_in t p (primitives_value p m xs) ≡ Some (primitives t m xs)
unfolding primitives_in
primitives_back t p m xs plain all =
    ap (λ o. option_map (λ q. primitives t q.0 q.1) (option_zip o (list_in (number_in p) (list_value (map (number_value p) xs))))) (mask_back m plain)
    ∙ ap (λ o. option_map (λ q. primitives t q.0 q.1) (option_zip (Some m) o)) (list_back (number_in p) (number_value p) (IsNumber p) (number_back p) xs all)

pub binaries_back : (t : TypeData) (large : Bool) (limit : ℕ) (m : Option Bits) (os : List ℤ) (bs : List ℕ) → limit ≡ 2 ^ offset_bits large → IsPlainMask m
    → AllByRecursion (IsBelow limit) os → AreBytes bs → binaries_in t large (binaries_value m os bs) ≡ Some (binaries t m os bs)
unfolding binaries_in
binaries_back t large limit m os bs e plain offsets bytes =
    let number = signed_in (offset_bits large) in
    ap (λ o. option_map (λ q. binaries t q.1.0 q.1.1 q.0) (option_zip o (option_zip (mask_in (mask_value m)) (list_in number (list_value (map integer_value os)))))) (bytes_back bs bytes)
    ∙ ap (λ o. option_map (λ q. binaries t q.1.0 q.1.1 q.0) (option_zip (Some bs) (option_zip o (list_in number (list_value (map integer_value os)))))) (mask_back m plain)
    ∙ ap (λ o. option_map (λ q. binaries t q.1.0 q.1.1 q.0) (option_zip (Some bs) (option_zip (Some m) o))) (list_back number integer_value (IsBelow limit) (offset_back large limit e) os offsets)

pub fixed_size_binaries_back : (t : TypeData) (m : Option Bits) (k n : ℕ) (bs : List ℕ) → IsPlainMask m → 0 < k → length bs ≡ n * k → AreBytes bs
    → fixed_size_binaries_in t k (fixed_size_binaries_value m bs) ≡ Some (fixed_size_binaries t m k n bs)
unfolding fixed_size_binaries_in
fixed_size_binaries_back t m k n bs plain some all bytes =
    ap (λ o. option_map (λ q. fixed_size_binaries t q.1 k (length q.0 / k) q.0) (option_zip o (mask_in (mask_value m)))) (bytes_back bs bytes)
    ∙ ap (λ o. option_map (λ q. fixed_size_binaries t q.1 k (length q.0 / k) q.0) (option_zip (Some bs) o)) (mask_back m plain)
    ∙ ap (λ c. Some (fixed_size_binaries t m k c bs)) (ap (λ c. c / k) all ∙ mul-div_cancel n some)

pub views_back : (t : TypeData) (m : Option Bits) (vs : List View) (buffers : List (List ℕ)) → IsPlainMask m → AllByRecursion (IsView buffers) vs → AllByRecursion AreBytes buffers
    → views_in t (views_value m vs buffers) ≡ Some (views t m vs buffers)
unfolding views_in
views_back t m vs buffers plain all bytes =
    ap (λ o. option_and_then (λ q. views_of_parts t (list_value (map view_value vs)) q.1 q.0) (option_zip o (mask_in (mask_value m)))) (list_back bytes_in bytes_value AreBytes bytes_back buffers bytes)
    ∙ ap (λ o. option_and_then (λ q. views_of_parts t (list_value (map view_value vs)) q.1 q.0) (option_zip (Some buffers) o)) (mask_back m plain)
    ∙ ap (option_map (λ ws. views t m ws buffers)) (list_back (view_in buffers) view_value (IsView buffers) (view_back buffers) vs all)
