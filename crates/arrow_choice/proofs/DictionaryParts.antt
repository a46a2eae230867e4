-- The parts of a dictionary that pass the tests make a well-formed one, and the other way round.
use Rattle.std.proofs.Common.{◌≡◌, ◌⊎◌, ◌<◌, ◌^◌, ◌+◌, Bool, true, false, cond, not, List, [], ◌∷◌, length, map, replicate, Option, Some, None, ap, arith, refl, subst, sym, ◌∙◌, inl, inr}
use Rattle.std.specs.Prelude.{ℤ}
use Rattle.std.specs.List.{AllByRecursion}
use Rattle.std.proofs.lemmas.List.{length-map}
use Rattle.std.proofs.lemmas.List.Sums.{count_by-le-length, sum_by-cons}
use Rattle.arrow_buffers.specs.Bits.{Bits, count_unset}
use Rattle.arrow_types.specs.Carried.{IsBelow}
use Rattle.arrow_types.specs.TypeData.{TypeData}
use Rattle.arrow_types.specs.Types.{integer_type, physical_of}
use Rattle.arrow_types.specs.declared.datatype.IntegerType.{IntegerType}
use Rattle.arrow_types.specs.declared.datatype.IntegerType.TheVariants as integer
use Rattle.arrow_types.specs.declared.datatype.PhysicalType.TheVariants as physical
use Rattle.arrow_types.specs.declared.error.Reason.{Reason}
use Rattle.arrow_types.specs.declared.error.Reason.TheVariants.{KeyRange}
use Rattle.arrow_flat.specs.Numbers.{InRange, IsNumber}
use Rattle.arrow_flat.specs.Primitives.{unset_in}
use Rattle.arrow_flat.proofs.Lists.{all_map}
use Rattle.arrow_layout.specs.FitsHere.{FitsHere}
use Rattle.arrow_layout.specs.Forms.{Form, dictionaries_of, form_of, key_by, key_range, primitive_by, value_by}
use Rattle.arrow_layout.specs.Layouts.{Layout, nulls, booleans, primitives, binaries, fixed_size_binaries, views, lists, fixed_size_lists, structs, sparse_unions, dense_unions, dictionaries, length_of, type_of}
use Rattle.arrow_layout.specs.WellFormed.{AllSet, MaskFits, WellFormed, mask_bits}
use Rattle.arrow_meaning.specs.Nodes.{IsStoredAs, key_number, key_primitive}
use Rattle.arrow_choice.specs.Dictionaries.{HasKeyType, HasValueType, IsAccepted, IsDictionary, KeysNameValues, RefusedFor, TypesRefusedFor}
use Rattle.arrow_choice.proofs.DictionaryKeys.{key_in_range}
use Rattle.arrow_choice.proofs.DictionaryNodes.{dictionary_carried, dictionary_form, well_formed_carried}

-- ---- keys of the plain integer type

plain_primitive : (k : IntegerType) → primitive_by (form_of (integer_type k)) ≡ key_primitive k
plain_primitive integer.Int8 = refl
plain_primitive integer.Int16 = refl
plain_primitive integer.Int32 = refl
plain_primitive integer.Int64 = refl
plain_primitive integer.Int128 = refl
plain_primitive integer.UInt8 = refl
plain_primitive integer.UInt16 = refl
plain_primitive integer.UInt32 = refl
plain_primitive integer.UInt64 = refl

keys_in_range : (k : IntegerType) (u : TypeData) (vs : List (List ℤ)) → u ≡ integer_type k → AllByRecursion (IsNumber (primitive_by (form_of u))) vs
    → AllByRecursion (InRange (key_range k)) (map key_number vs)
keys_in_range k u vs e h =
    let same : primitive_by (form_of u) ≡ key_primitive k = ap (λ t. primitive_by (form_of t)) e ∙ plain_primitive k in
    all_map (IsNumber (key_primitive k)) (InRange (key_range k)) key_number (key_in_range k) vs (subst (λ p. AllByRecursion (IsNumber p) vs) same h)

-- ---- which keys name a value

pub unset_cons : (b : Bool) (bits : List Bool) → count_unset (b ∷ bits) ≡ cond (not b) 1 0 + count_unset bits
unset_cons b bits = sum_by-cons (λ x. cond (not x) 1 0) b bits

module _ {A : Type 0} (P : A → Type 0) where
  none_set : (bits : List Bool) (xs : List A) → count_unset bits ≡ length bits → AllSet P bits xs
  none_set [] xs e = tt
  none_set (b ∷ bits) [] e = tt
  none_set (true ∷ bits) (x ∷ xs) e = absurd (omega (arith, e, unset_cons true bits, count_by-le-length not bits))
  none_set (false ∷ bits) (x ∷ xs) e = none_set bits xs (omega (arith, e, unset_cons false bits))

  each_set : (bits : List Bool) (xs : List A) → AllSet P (replicate (length xs) true) xs → AllSet P bits xs
  each_set [] xs h = tt
  each_set (b ∷ bits) [] h = tt
  each_set (true ∷ bits) (x ∷ xs) h = (h.0, each_set bits xs h.1)
  each_set (false ∷ bits) (x ∷ xs) h = each_set bits xs h.1

  no_items : (xs : List A) → 0 ≡ length xs → AllSet P (replicate (length xs) true) xs
  no_items [] e = tt
  no_items (x ∷ xs) e = absurd (omega (arith, e))

  -- every item is null, or it holds of every item
  pub valid_hold : (m : Option Bits) (xs : List A) → MaskFits m (length xs) → (unset_in m ≡ length xs) ⊎ AllSet P (mask_bits None (length xs)) xs
      → AllSet P (mask_bits m (length xs)) xs
  valid_hold None xs f (inl e) = no_items xs e
  valid_hold None xs f (inr h) = h
  valid_hold (Some b) xs f (inl e) = none_set b.bits xs (e ∙ sym f.0)
  valid_hold (Some b) xs f (inr h) = each_set b.bits xs h

-- ---- accepted parts fit

pub accepted_fits : (k : IntegerType) (t u : TypeData) (m : Option Bits) (vs : List (List ℤ)) (l : Layout) → WellFormed (primitives u m vs) → WellFormed l
    → IsAccepted k (dictionaries t u m (map key_number vs) l) → FitsHere (dictionaries t u m (map key_number vs) l)
accepted_fits k t u m vs l w wl a =
    let same : key_by (form_of t) ≡ k = a.1.0 in
    let count : length (map key_number vs) ≡ length vs = length-map vs key_number in
    let mask : MaskFits m (length (map key_number vs)) = subst (MaskFits m) (sym count) w.0.mask in
    let plain : u ≡ integer_type (key_by (form_of t)) = a.1.1 ∙ ap integer_type (sym same) in
    let short : length vs < 2 ^ 64 = w.0.count in (
      record { carried = dictionary_carried t (type_of l) (key_by (form_of t)) (value_by (form_of t)) a.0 a.2 (well_formed_carried l wl); of_form = a.0; mask = mask; count = omega (arith, count, short) },
      plain,
      keys_in_range (key_by (form_of t)) u vs plain w.1,
      valid_hold (IsBelow (length_of l)) m (map key_number vs) mask a.3,
      a.2,
    )

-- ---- well-formed dictionaries are accepted

other_form : (t : TypeData) (k : IntegerType) (f : Form) → form_of t ≡ f → physical_of t ≡ Some (physical.Dictionary k) → f ≡ dictionaries_of k (value_by (form_of t))
other_form t k f e s = sym e ∙ dictionary_form t k s

abbrev Fits3 : IntegerType → Layout → Type 0
Fits3 k (dictionaries t u m ks l) = IsDictionary t × HasKeyType k t u × HasValueType t (type_of l)
Fits3 k _ = ⊥

types_fit : (k : IntegerType) (l : Layout) → WellFormed l → IsStoredAs (physical.Dictionary k) l → Fits3 k l
types_fit k (dictionaries t u m ks l) w s =
    let same : key_by (form_of t) ≡ k = ap key_by (dictionary_form t k s) in
    (w.0.of_form, (same, w.1 ∙ ap integer_type same), w.4)
types_fit k (nulls t n) w s = let e = other_form t k _ w.of_form s in cc
types_fit k (booleans t m vs) w s = let e = other_form t k _ w.0.of_form s in cc
types_fit k (primitives t m vs) w s = let e = other_form t k _ w.0.of_form s in cc
types_fit k (binaries t m os bs) w s = let e = other_form t k _ w.0.of_form s in cc
types_fit k (fixed_size_binaries t m j n bs) w s = let e = other_form t k _ w.0.of_form s in cc
types_fit k (views t m vs buffers) w s = let e = other_form t k _ w.0.of_form s in cc
types_fit k (lists t m os l) w s = let e = other_form t k _ w.0.of_form s in cc
types_fit k (fixed_size_lists t m j n l) w s = let e = other_form t k _ w.0.of_form s in cc
types_fit k (structs t m n ls) w s = let e = other_form t k _ w.0.of_form s in cc
types_fit k (sparse_unions t o ts ls) w s = let e = other_form t k _ w.0.of_form s in cc
types_fit k (dense_unions t o ts os ls) w s = let e = other_form t k _ w.0.of_form s in cc

accepted_by : (k : IntegerType) (l : Layout) → Fits3 k l → KeysNameValues l → IsAccepted k l
accepted_by k (dictionaries t u m ks l) f h = (f.0, f.1, f.2, h)
accepted_by k (nulls t n) f h = f
accepted_by k (booleans t m vs) f h = f
accepted_by k (primitives t m vs) f h = f
accepted_by k (binaries t m os bs) f h = f
accepted_by k (fixed_size_binaries t m j n bs) f h = f
accepted_by k (views t m vs buffers) f h = f
accepted_by k (lists t m os l) f h = f
accepted_by k (fixed_size_lists t m j n l) f h = f
accepted_by k (structs t m n ls) f h = f
accepted_by k (sparse_unions t o ts ls) f h = f
accepted_by k (dense_unions t o ts os ls) f h = f

refused_by : (k : IntegerType) (l : Layout) → Fits3 k l → (KeysNameValues l → ⊥) → RefusedFor KeyRange k l
refused_by k (dictionaries t u m ks l) f h = (f.0, f.1, f.2, h)
refused_by k (nulls t n) f h = absurd f
refused_by k (booleans t m vs) f h = absurd f
refused_by k (primitives t m vs) f h = absurd f
refused_by k (binaries t m os bs) f h = absurd f
refused_by k (fixed_size_binaries t m j n bs) f h = absurd f
refused_by k (views t m vs buffers) f h = absurd f
refused_by k (lists t m os l) f h = absurd f
refused_by k (fixed_size_lists t m j n l) f h = absurd f
refused_by k (structs t m n ls) f h = absurd f
refused_by k (sparse_unions t o ts ls) f h = absurd f
refused_by k (dense_unions t o ts os ls) f h = absurd f

pub well_formed_accepted : (k : IntegerType) (l : Layout) → WellFormed l → IsStoredAs (physical.Dictionary k) l → KeysNameValues l → IsAccepted k l
well_formed_accepted k l w s h = accepted_by k l (types_fit k l w s) h

pub well_formed_refused : (k : IntegerType) (l : Layout) → WellFormed l → IsStoredAs (physical.Dictionary k) l → (KeysNameValues l → ⊥) → RefusedFor KeyRange k l
well_formed_refused k l w s h = refused_by k l (types_fit k l w s) h

-- types that are refused, are so with the keys
pub refused_types : (r : Reason) (k : IntegerType) (t u : TypeData) (m : Option Bits) (ks : List ℤ) (l : Layout) → TypesRefusedFor r k t u (type_of l) → RefusedFor r k (dictionaries t u m ks l)
refused_types KeyRange k t u m ks l h = absurd h
refused_types _ k t u m ks l h = h
