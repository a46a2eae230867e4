-- `type_eq` tells whether two types are one.
use Rattle.std.proofs.Common.{◌≡◌, ℕ, zero, suc, ℤ, Bool, true, false, ◌&&◌, List, Option, Some, None, refl, sym, ap, ◌∙◌, subst, Decides}
use Rattle.std.specs.Prelude.{nat_eq}
use Rattle.std.specs.Cmp.Lexicographic.{bytes_decides, pointwise_decides}
use Rattle.std.specs.Cmp.{unsigned_Decides, signed_Decides, booleans_Decides}
use mathlib.Core.Bool.{beq, true≢false}
use Rattle.arrow_types.specs.TypeData.{TypeData, FieldData, FieldList, no_fields, and_field, Entries}
use Rattle.arrow_types.specs.TypeData as T
use Rattle.arrow_types.specs.TypeEq.{unit_number, unit_eq, interval_number, interval_eq, integer_number, integer_eq, mode_number, mode_eq, text_eq, optional, texts_eq, ids_eq, entries_eq, is_field, is_no_fields, is_and_field, type_eq, field_eq, fields_eq}
use Rattle.arrow_types.specs.TypeEq as E
use Rattle.arrow_types.specs.declared.datatype.TimeUnit.{TimeUnit}
use Rattle.arrow_types.specs.declared.datatype.IntervalUnit.{IntervalUnit}
use Rattle.arrow_types.specs.declared.datatype.IntegerType.{IntegerType}
use Rattle.arrow_types.specs.declared.datatype.UnionMode.{UnionMode}
use Rattle.arrow_types.specs.declared.datatype.TimeUnit.TheVariants as unit
use Rattle.arrow_types.specs.declared.datatype.IntervalUnit.TheVariants as interval
use Rattle.arrow_types.specs.declared.datatype.IntegerType.TheVariants as integer
use Rattle.arrow_types.specs.declared.datatype.UnionMode.TheVariants as mode

no : {P : Type 0} → false ≡ true → P
no e = absurd (true≢false (sym e))

both : (a b : Bool) → (a && b) ≡ true → (a ≡ true) × (b ≡ true)
both true b e = (refl, e)
both false b e = no e

joined : {a b : Bool} → a ≡ true → b ≡ true → (a && b) ≡ true
joined p q = λ i. p i && q i

unit_at : ℕ → TimeUnit
unit_at zero = unit.Second
unit_at (suc zero) = unit.Millisecond
unit_at (suc (suc zero)) = unit.Microsecond
unit_at _ = unit.Nanosecond

unit_back : (x : TimeUnit) → unit_at (unit_number x) ≡ x
unfolding unit_at
unit_back unit.Second = refl
unit_back unit.Millisecond = refl
unit_back unit.Microsecond = refl
unit_back unit.Nanosecond = refl

units_decide : (x y : TimeUnit) → Decides (unit_eq x y) (x ≡ y)
units_decide x y = (λ e. sym (unit_back x) ∙ ap unit_at ((unsigned_Decides (unit_number x) (unit_number y)).0 e) ∙ unit_back y, λ e. (unsigned_Decides (unit_number x) (unit_number y)).1 (ap unit_number e))

interval_at : ℕ → IntervalUnit
interval_at zero = interval.YearMonth
interval_at (suc zero) = interval.DayTime
interval_at _ = interval.MonthDayNano

interval_back : (x : IntervalUnit) → interval_at (interval_number x) ≡ x
unfolding interval_at
interval_back interval.YearMonth = refl
interval_back interval.DayTime = refl
interval_back interval.MonthDayNano = refl

intervals_decide : (x y : IntervalUnit) → Decides (interval_eq x y) (x ≡ y)
intervals_decide x y = (λ e. sym (interval_back x) ∙ ap interval_at ((unsigned_Decides (interval_number x) (interval_number y)).0 e) ∙ interval_back y, λ e. (unsigned_Decides (interval_number x) (interval_number y)).1 (ap interval_number e))

integer_at : ℕ → IntegerType
integer_at zero = integer.Int8
integer_at (suc zero) = integer.Int16
integer_at (suc (suc zero)) = integer.Int32
integer_at (suc (suc (suc zero))) = integer.Int64
integer_at (suc (suc (suc (suc zero)))) = integer.Int128
integer_at (suc (suc (suc (suc (suc zero))))) = integer.UInt8
integer_at (suc (suc (suc (suc (suc (suc zero)))))) = integer.UInt16
integer_at (suc (suc (suc (suc (suc (suc (suc zero))))))) = integer.UInt32
integer_at _ = integer.UInt64

integer_back : (x : IntegerType) → integer_at (integer_number x) ≡ x
unfolding integer_at
integer_back integer.Int8 = refl
integer_back integer.Int16 = refl
integer_back integer.Int32 = refl
integer_back integer.Int64 = refl
integer_back integer.Int128 = refl
integer_back integer.UInt8 = refl
integer_back integer.UInt16 = refl
integer_back integer.UInt32 = refl
integer_back integer.UInt64 = refl

integers_decide : (x y : IntegerType) → Decides (integer_eq x y) (x ≡ y)
integers_decide x y = (λ e. sym (integer_back x) ∙ ap integer_at ((unsigned_Decides (integer_number x) (integer_number y)).0 e) ∙ integer_back y, λ e. (unsigned_Decides (integer_number x) (integer_number y)).1 (ap integer_number e))

mode_at : ℕ → UnionMode
mode_at zero = mode.Dense
mode_at _ = mode.Sparse

mode_back : (x : UnionMode) → mode_at (mode_number x) ≡ x
unfolding mode_at
mode_back mode.Dense = refl
mode_back mode.Sparse = refl

modes_decide : (x y : UnionMode) → Decides (mode_eq x y) (x ≡ y)
modes_decide x y = (λ e. sym (mode_back x) ∙ ap mode_at ((unsigned_Decides (mode_number x) (mode_number y)).0 e) ∙ mode_back y, λ e. (unsigned_Decides (mode_number x) (mode_number y)).1 (ap mode_number e))

module _ {X : Type 0} {E : X → X → Bool} (decide : (x y : X) → Decides (E x y) (x ≡ y)) where
  optional_same : (o p : Option X) → optional E o p ≡ true → o ≡ p
  optional_same None None e = refl
  optional_same None (Some y) e = no e
  optional_same (Some x) None e = no e
  optional_same (Some x) (Some y) e = ap (λ z. Some z) ((decide x y).0 e)

  optional_itself : (o : Option X) → optional E o o ≡ true
  optional_itself None = refl
  optional_itself (Some x) = (decide x x).1 refl

  pub optional_decide : (o p : Option X) → Decides (optional E o p) (o ≡ p)
  optional_decide o p = (optional_same o p, λ e. subst (λ q. optional E o q ≡ true) e (optional_itself o))

texts_decide : (o p : Option (List ℕ)) → Decides (texts_eq o p) (o ≡ p)
texts_decide = optional_decide bytes_decides

ids_decide : (o p : Option (List ℤ)) → Decides (ids_eq o p) (o ≡ p)
ids_decide = optional_decide (pointwise_decides signed_Decides)

abbrev entry_eq : List ℕ × List ℕ → List ℕ × List ℕ → Bool
entry_eq p q = text_eq p.0 q.0 && text_eq p.1 q.1

pub entry_decide : (p q : List ℕ × List ℕ) → Decides (entry_eq p q) (p ≡ q)
entry_decide p q = (λ e. let w = both (text_eq p.0 q.0) (text_eq p.1 q.1) e in λ i. ((bytes_decides p.0 q.0).0 w.0 i, (bytes_decides p.1 q.1).0 w.1 i), λ e. joined ((bytes_decides p.0 q.0).1 (ap (λ w. w.0) e)) ((bytes_decides p.1 q.1).1 (ap (λ w. w.1) e)))

pub entries_decide : (o p : Option Entries) → Decides (entries_eq o p) (o ≡ p)
entries_decide = optional_decide (pointwise_decides entry_decide)

null_same : (b : TypeData) → E.is_null_type b ≡ true → T.null ≡ b
null_same T.null e = refl
null_same _ e = no e

boolean_same : (b : TypeData) → E.is_boolean b ≡ true → T.boolean ≡ b
boolean_same T.boolean e = refl
boolean_same _ e = no e

int8_same : (b : TypeData) → E.is_int8 b ≡ true → T.int8 ≡ b
int8_same T.int8 e = refl
int8_same _ e = no e

int16_same : (b : TypeData) → E.is_int16 b ≡ true → T.int16 ≡ b
int16_same T.int16 e = refl
int16_same _ e = no e

int32_same : (b : TypeData) → E.is_int32 b ≡ true → T.int32 ≡ b
int32_same T.int32 e = refl
int32_same _ e = no e

int64_same : (b : TypeData) → E.is_int64 b ≡ true → T.int64 ≡ b
int64_same T.int64 e = refl
int64_same _ e = no e

int128_same : (b : TypeData) → E.is_int128 b ≡ true → T.int128 ≡ b
int128_same T.int128 e = refl
int128_same _ e = no e

uint8_same : (b : TypeData) → E.is_uint8 b ≡ true → T.uint8 ≡ b
uint8_same T.uint8 e = refl
uint8_same _ e = no e

uint16_same : (b : TypeData) → E.is_uint16 b ≡ true → T.uint16 ≡ b
uint16_same T.uint16 e = refl
uint16_same _ e = no e

uint32_same : (b : TypeData) → E.is_uint32 b ≡ true → T.uint32 ≡ b
uint32_same T.uint32 e = refl
uint32_same _ e = no e

uint64_same : (b : TypeData) → E.is_uint64 b ≡ true → T.uint64 ≡ b
uint64_same T.uint64 e = refl
uint64_same _ e = no e

float16_same : (b : TypeData) → E.is_float16 b ≡ true → T.float16 ≡ b
float16_same T.float16 e = refl
float16_same _ e = no e

float32_same : (b : TypeData) → E.is_float32 b ≡ true → T.float32 ≡ b
float32_same T.float32 e = refl
float32_same _ e = no e

float64_same : (b : TypeData) → E.is_float64 b ≡ true → T.float64 ≡ b
float64_same T.float64 e = refl
float64_same _ e = no e

timestamp_same : (u : TimeUnit) (z : Option (List ℕ)) (b : TypeData) → E.is_timestamp u z b ≡ true → (T.timestamp u z) ≡ b
timestamp_same u z (T.timestamp u2 z2) e = λ i. T.timestamp (((units_decide u u2).0 (both (unit_eq u u2) (texts_eq z z2) e).0) i) (((texts_decide z z2).0 (both (unit_eq u u2) (texts_eq z z2) e).1) i)
timestamp_same u z _ e = no e

date32_same : (b : TypeData) → E.is_date32 b ≡ true → T.date32 ≡ b
date32_same T.date32 e = refl
date32_same _ e = no e

date64_same : (b : TypeData) → E.is_date64 b ≡ true → T.date64 ≡ b
date64_same T.date64 e = refl
date64_same _ e = no e

time32_same : (u : TimeUnit) (b : TypeData) → E.is_time32 u b ≡ true → (T.time32 u) ≡ b
time32_same u (T.time32 u2) e = ap T.time32 ((units_decide u u2).0 e)
time32_same u _ e = no e

time64_same : (u : TimeUnit) (b : TypeData) → E.is_time64 u b ≡ true → (T.time64 u) ≡ b
time64_same u (T.time64 u2) e = ap T.time64 ((units_decide u u2).0 e)
time64_same u _ e = no e

duration_same : (u : TimeUnit) (b : TypeData) → E.is_duration u b ≡ true → (T.duration u) ≡ b
duration_same u (T.duration u2) e = ap T.duration ((units_decide u u2).0 e)
duration_same u _ e = no e

interval_same : (i : IntervalUnit) (b : TypeData) → E.is_interval i b ≡ true → (T.interval i) ≡ b
interval_same i (T.interval i2) e = ap T.interval ((intervals_decide i i2).0 e)
interval_same i _ e = no e

binary_same : (b : TypeData) → E.is_binary b ≡ true → T.binary ≡ b
binary_same T.binary e = refl
binary_same _ e = no e

fixed_size_binary_same : (k : ℕ) (b : TypeData) → E.is_fixed_size_binary k b ≡ true → (T.fixed_size_binary k) ≡ b
fixed_size_binary_same k (T.fixed_size_binary k2) e = ap T.fixed_size_binary ((unsigned_Decides k k2).0 e)
fixed_size_binary_same k _ e = no e

large_binary_same : (b : TypeData) → E.is_large_binary b ≡ true → T.large_binary ≡ b
large_binary_same T.large_binary e = refl
large_binary_same _ e = no e

utf8_same : (b : TypeData) → E.is_utf8 b ≡ true → T.utf8 ≡ b
utf8_same T.utf8 e = refl
utf8_same _ e = no e

large_utf8_same : (b : TypeData) → E.is_large_utf8 b ≡ true → T.large_utf8 ≡ b
large_utf8_same T.large_utf8 e = refl
large_utf8_same _ e = no e

binary_view_same : (b : TypeData) → E.is_binary_view b ≡ true → T.binary_view ≡ b
binary_view_same T.binary_view e = refl
binary_view_same _ e = no e

utf8_view_same : (b : TypeData) → E.is_utf8_view b ≡ true → T.utf8_view ≡ b
utf8_view_same T.utf8_view e = refl
utf8_view_same _ e = no e

list_same : (p : FieldData → Bool) (f : FieldData) (h : (y : FieldData) → p y ≡ true → f ≡ y) (b : TypeData) → E.is_list p b ≡ true → (T.list f) ≡ b
list_same p f h (T.list f2) e = ap T.list (h f2 e)
list_same p f h _ e = no e

large_list_same : (p : FieldData → Bool) (f : FieldData) (h : (y : FieldData) → p y ≡ true → f ≡ y) (b : TypeData) → E.is_large_list p b ≡ true → (T.large_list f) ≡ b
large_list_same p f h (T.large_list f2) e = ap T.large_list (h f2 e)
large_list_same p f h _ e = no e

fixed_size_list_same : (p : FieldData → Bool) (f : FieldData) (h : (y : FieldData) → p y ≡ true → f ≡ y) (k : ℕ) (b : TypeData) → E.is_fixed_size_list p k b ≡ true → (T.fixed_size_list f k) ≡ b
fixed_size_list_same p f h k (T.fixed_size_list f2 k2) e = λ i. T.fixed_size_list ((h f2 (both (p f2) (nat_eq k k2) e).0) i) (((unsigned_Decides k k2).0 (both (p f2) (nat_eq k k2) e).1) i)
fixed_size_list_same p f h k _ e = no e

struct_same : (p : FieldList → Bool) (fs : FieldList) (h : (y : FieldList) → p y ≡ true → fs ≡ y) (b : TypeData) → E.is_struct p b ≡ true → (T.struct fs) ≡ b
struct_same p fs h (T.struct fs2) e = ap T.struct (h fs2 e)
struct_same p fs h _ e = no e

map_same : (p : FieldData → Bool) (f : FieldData) (h : (y : FieldData) → p y ≡ true → f ≡ y) (o : Bool) (b : TypeData) → E.is_map p o b ≡ true → (T.map f o) ≡ b
map_same p f h o (T.map f2 o2) e = λ i. T.map ((h f2 (both (p f2) (beq o o2) e).0) i) (((booleans_Decides o o2).0 (both (p f2) (beq o o2) e).1) i)
map_same p f h o _ e = no e

union_same : (p : FieldList → Bool) (fs : FieldList) (h : (y : FieldList) → p y ≡ true → fs ≡ y) (is : Option (List ℤ)) (d : UnionMode) (b : TypeData) → E.is_union p is d b ≡ true → (T.union fs is d) ≡ b
union_same p fs h is d (T.union fs2 is2 d2) e = λ i. T.union ((h fs2 (both (p fs2) (ids_eq is is2 && (mode_eq d d2)) e).0) i) (((ids_decide is is2).0 (both (ids_eq is is2) (mode_eq d d2) (both (p fs2) (ids_eq is is2 && (mode_eq d d2)) e).1).0) i) (((modes_decide d d2).0 (both (ids_eq is is2) (mode_eq d d2) (both (p fs2) (ids_eq is is2 && (mode_eq d d2)) e).1).1) i)
union_same p fs h is d _ e = no e

dictionary_same : (k : IntegerType) (p : TypeData → Bool) (t : TypeData) (h : (y : TypeData) → p y ≡ true → t ≡ y) (o : Bool) (b : TypeData) → E.is_dictionary k p o b ≡ true → (T.dictionary k t o) ≡ b
dictionary_same k p t h o (T.dictionary k2 t2 o2) e = λ i. T.dictionary (((integers_decide k k2).0 (both (integer_eq k k2) (p t2 && (beq o o2)) e).0) i) ((h t2 (both (p t2) (beq o o2) (both (integer_eq k k2) (p t2 && (beq o o2)) e).1).0) i) (((booleans_Decides o o2).0 (both (p t2) (beq o o2) (both (integer_eq k k2) (p t2 && (beq o o2)) e).1).1) i)
dictionary_same k p t h o _ e = no e

decimal_same : (p : ℕ) (s : ℕ) (b : TypeData) → E.is_decimal p s b ≡ true → (T.decimal p s) ≡ b
decimal_same p s (T.decimal p2 s2) e = λ i. T.decimal (((unsigned_Decides p p2).0 (both (nat_eq p p2) (nat_eq s s2) e).0) i) (((unsigned_Decides s s2).0 (both (nat_eq p p2) (nat_eq s s2) e).1) i)
decimal_same p s _ e = no e

decimal256_same : (p : ℕ) (s : ℕ) (b : TypeData) → E.is_decimal256 p s b ≡ true → (T.decimal256 p s) ≡ b
decimal256_same p s (T.decimal256 p2 s2) e = λ i. T.decimal256 (((unsigned_Decides p p2).0 (both (nat_eq p p2) (nat_eq s s2) e).0) i) (((unsigned_Decides s s2).0 (both (nat_eq p p2) (nat_eq s s2) e).1) i)
decimal256_same p s _ e = no e

extension_same : (n : List ℕ) (p : TypeData → Bool) (t : TypeData) (h : (y : TypeData) → p y ≡ true → t ≡ y) (m : Option (List ℕ)) (b : TypeData) → E.is_extension n p m b ≡ true → (T.extension n t m) ≡ b
extension_same n p t h m (T.extension n2 t2 m2) e = λ i. T.extension (((bytes_decides n n2).0 (both (text_eq n n2) (p t2 && (texts_eq m m2)) e).0) i) ((h t2 (both (p t2) (texts_eq m m2) (both (text_eq n n2) (p t2 && (texts_eq m m2)) e).1).0) i) (((texts_decide m m2).0 (both (p t2) (texts_eq m m2) (both (text_eq n n2) (p t2 && (texts_eq m m2)) e).1).1) i)
extension_same n p t h m _ e = no e

unknown_same : (b : TypeData) → E.is_unknown b ≡ true → T.unknown ≡ b
unknown_same T.unknown e = refl
unknown_same _ e = no e

field-same : (n : List ℕ) (p : TypeData → Bool) (t : TypeData) (h : (y : TypeData) → p y ≡ true → t ≡ y) (b : Bool) (m : Option Entries) (g : FieldData) → is_field n p b m g ≡ true → T.field n t b m ≡ g
field-same n p t h b m (T.field n2 t2 b2 m2) e =
    let v = both (text_eq n n2) (p t2 && (beq b b2 && entries_eq m m2)) e in
    let w = both (p t2) (beq b b2 && entries_eq m m2) v.1 in
    let x = both (beq b b2) (entries_eq m m2) w.1 in
    λ i. T.field ((bytes_decides n n2).0 v.0 i) (h t2 w.0 i) ((booleans_Decides b b2).0 x.0 i) ((entries_decide m m2).0 x.1 i)

no_fields-same : (gs : FieldList) → is_no_fields gs ≡ true → no_fields ≡ gs
no_fields-same no_fields e = refl
no_fields-same (and_field g gs) e = no e

and_field-same : (p : FieldData → Bool) (f : FieldData) (h : (y : FieldData) → p y ≡ true → f ≡ y) (q : FieldList → Bool) (fs : FieldList) (k : (y : FieldList) → q y ≡ true → fs ≡ y) (gs : FieldList) → is_and_field p q gs ≡ true → and_field f fs ≡ gs
and_field-same p f h q fs k no_fields e = no e
and_field-same p f h q fs k (and_field g gs) e =
    let w = both (p g) (q gs) e in
    λ i. and_field (h g w.0 i) (k gs w.1 i)

mutual
  unfolding type_eq

  pub type_same : (a b : TypeData) → type_eq a b ≡ true → a ≡ b
  type_same T.null b e = null_same b e
  type_same T.boolean b e = boolean_same b e
  type_same T.int8 b e = int8_same b e
  type_same T.int16 b e = int16_same b e
  type_same T.int32 b e = int32_same b e
  type_same T.int64 b e = int64_same b e
  type_same T.int128 b e = int128_same b e
  type_same T.uint8 b e = uint8_same b e
  type_same T.uint16 b e = uint16_same b e
  type_same T.uint32 b e = uint32_same b e
  type_same T.uint64 b e = uint64_same b e
  type_same T.float16 b e = float16_same b e
  type_same T.float32 b e = float32_same b e
  type_same T.float64 b e = float64_same b e
  type_same (T.timestamp u z) b e = timestamp_same u z b e
  type_same T.date32 b e = date32_same b e
  type_same T.date64 b e = date64_same b e
  type_same (T.time32 u) b e = time32_same u b e
  type_same (T.time64 u) b e = time64_same u b e
  type_same (T.duration u) b e = duration_same u b e
  type_same (T.interval i) b e = interval_same i b e
  type_same T.binary b e = binary_same b e
  type_same (T.fixed_size_binary k) b e = fixed_size_binary_same k b e
  type_same T.large_binary b e = large_binary_same b e
  type_same T.utf8 b e = utf8_same b e
  type_same T.large_utf8 b e = large_utf8_same b e
  type_same T.binary_view b e = binary_view_same b e
  type_same T.utf8_view b e = utf8_view_same b e
  type_same (T.list f) b e = list_same (field_eq f) f (field_same f) b e
  type_same (T.large_list f) b e = large_list_same (field_eq f) f (field_same f) b e
  type_same (T.fixed_size_list f k) b e = fixed_size_list_same (field_eq f) f (field_same f) k b e
  type_same (T.struct fs) b e = struct_same (fields_eq fs) fs (fields_same fs) b e
  type_same (T.map f o) b e = map_same (field_eq f) f (field_same f) o b e
  type_same (T.union fs is d) b e = union_same (fields_eq fs) fs (fields_same fs) is d b e
  type_same (T.dictionary k t o) b e = dictionary_same k (type_eq t) t (type_same t) o b e
  type_same (T.decimal p s) b e = decimal_same p s b e
  type_same (T.decimal256 p s) b e = decimal256_same p s b e
  type_same (T.extension n t m) b e = extension_same n (type_eq t) t (type_same t) m b e
  type_same T.unknown b e = unknown_same b e

  pub field_same : (f g : FieldData) → field_eq f g ≡ true → f ≡ g
  field_same (T.field n t b m) g e = field-same n (type_eq t) t (type_same t) b m g e

  pub fields_same : (fs gs : FieldList) → fields_eq fs gs ≡ true → fs ≡ gs
  fields_same no_fields gs e = no_fields-same gs e
  fields_same (and_field f fs) gs e = and_field-same (field_eq f) f (field_same f) (fields_eq fs) fs (fields_same fs) gs e

mutual
  unfolding type_eq

  pub type_itself : (a : TypeData) → type_eq a a ≡ true
  type_itself T.null = refl
  type_itself T.boolean = refl
  type_itself T.int8 = refl
  type_itself T.int16 = refl
  type_itself T.int32 = refl
  type_itself T.int64 = refl
  type_itself T.int128 = refl
  type_itself T.uint8 = refl
  type_itself T.uint16 = refl
  type_itself T.uint32 = refl
  type_itself T.uint64 = refl
  type_itself T.float16 = refl
  type_itself T.float32 = refl
  type_itself T.float64 = refl
  type_itself (T.timestamp u z) = joined ((units_decide u u).1 refl) ((texts_decide z z).1 refl)
  type_itself T.date32 = refl
  type_itself T.date64 = refl
  type_itself (T.time32 u) = (units_decide u u).1 refl
  type_itself (T.time64 u) = (units_decide u u).1 refl
  type_itself (T.duration u) = (units_decide u u).1 refl
  type_itself (T.interval i) = (intervals_decide i i).1 refl
  type_itself T.binary = refl
  type_itself (T.fixed_size_binary k) = (unsigned_Decides k k).1 refl
  type_itself T.large_binary = refl
  type_itself T.utf8 = refl
  type_itself T.large_utf8 = refl
  type_itself T.binary_view = refl
  type_itself T.utf8_view = refl
  type_itself (T.list f) = field_itself f
  type_itself (T.large_list f) = field_itself f
  type_itself (T.fixed_size_list f k) = joined (field_itself f) ((unsigned_Decides k k).1 refl)
  type_itself (T.struct fs) = fields_itself fs
  type_itself (T.map f o) = joined (field_itself f) ((booleans_Decides o o).1 refl)
  type_itself (T.union fs is d) = joined (fields_itself fs) (joined ((ids_decide is is).1 refl) ((modes_decide d d).1 refl))
  type_itself (T.dictionary k t o) = joined ((integers_decide k k).1 refl) (joined (type_itself t) ((booleans_Decides o o).1 refl))
  type_itself (T.decimal p s) = joined ((unsigned_Decides p p).1 refl) ((unsigned_Decides s s).1 refl)
  type_itself (T.decimal256 p s) = joined ((unsigned_Decides p p).1 refl) ((unsigned_Decides s s).1 refl)
  type_itself (T.extension n t m) = joined ((bytes_decides n n).1 refl) (joined (type_itself t) ((texts_decide m m).1 refl))
  type_itself T.unknown = refl

  pub field_itself : (f : FieldData) → field_eq f f ≡ true
  field_itself (T.field n t b m) = joined ((bytes_decides n n).1 refl) (joined (type_itself t) (joined ((booleans_Decides b b).1 refl) ((entries_decide m m).1 refl)))

  pub fields_itself : (fs : FieldList) → fields_eq fs fs ≡ true
  fields_itself no_fields = refl
  fields_itself (and_field f fs) = joined (field_itself f) (fields_itself fs)

pub types_decide : (a b : TypeData) → Decides (type_eq a b) (a ≡ b)
types_decide a b = (type_same a b, λ e. subst (λ z. type_eq a z ≡ true) e (type_itself a))

pub fields_decide : (f g : FieldData) → Decides (field_eq f g) (f ≡ g)
fields_decide f g = (field_same f g, λ e. subst (λ z. field_eq f z ≡ true) e (field_itself f))

pub field_lists_decide : (fs gs : FieldList) → Decides (fields_eq fs gs) (fs ≡ gs)
field_lists_decide fs gs = (fields_same fs gs, λ e. subst (λ z. fields_eq fs z ≡ true) e (fields_itself fs))
