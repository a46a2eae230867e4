-- What the data of a type are read as, by the form of the type.
use Rattle.std.proofs.Common.{◌≡◌, refl, ap, ◌∙◌, Option, Some, None, sym}
use Rattle.std.specs.Prelude.{ℕ, ℤ, List, option_map, option_and_then, length, ◌/◌}
use Rattle.serde_json.specs.Data.{Data}
use Rattle.arrow_buffers.specs.Bits.{Bits}
use Rattle.arrow_types.specs.TypeData.{TypeData}
use Rattle.arrow_types.specs.TypeData as T
use Rattle.arrow_types.specs.Types.{integer_type}
use Rattle.arrow_flat.specs.Views.{View}
use Rattle.arrow_layout.specs.Forms.{Form, nulls_of, booleans_of, primitives_of, binaries_of, fixed_size_binaries_of, views_of, lists_of, fixed_size_lists_of, structs_of, unions_of, dictionaries_of, no_form, form_of}
use Rattle.arrow_layout.specs.Layouts.{Layout, nulls, booleans, primitives, binaries, fixed_size_binaries, views, lists, fixed_size_lists, structs, dictionaries, Layouts, retyped, type_of}
use Rattle.arrow_layout.proofs.Retyped.{type-retyped}
use Rattle.column_grammar.specs.Values.{items_in}
use Rattle.column_grammar.specs.Reads.{nulls_in, booleans_in, primitives_in, binaries_in, fixed_size_binaries_in, views_in, booleans_from, primitives_from, binaries_from, fixed_size_binaries_from, views_from, views_of_parts, lists_from, fixed_size_lists_from, structs_from, unions_from, union_of, dictionaries_from, data_by, data_in, children_in}

module _ {A B C : Type 0} where
  mapped_twice : (g : B → C) (f : A → B) (h : A → C) → ((x : A) → g (f x) ≡ h x) → (o : Option A) → option_map g (option_map f o) ≡ option_map h o
  mapped_twice g f h e None = refl
  mapped_twice g f h e (Some x) = ap Some (e x)

  mapped_after : (g : B → C) (f : A → Option B) (h : A → Option C) → ((x : A) → option_map g (f x) ≡ h x) → (o : Option A) → option_map g (option_and_then f o) ≡ option_and_then h o
  mapped_after g f h e None = refl
  mapped_after g f h e (Some x) = e x

retyped-union : (v t : TypeData) (ls : Layouts) (os : Option (List ℤ)) (ts : List ℤ) → retyped v (union_of t ls os ts) ≡ union_of v ls os ts
retyped-union v t ls None ts = refl
retyped-union v t ls (Some os) ts = refl

-- Another type at the root is another type of the same data.
retyped_by : (f : Form) (v t : TypeData) (d : Data) → option_map (retyped v) (data_by f t d) ≡ data_by f v d
unfolding nulls_in booleans_in primitives_in binaries_in fixed_size_binaries_in views_in
retyped_by nulls_of v t d = mapped_twice (retyped v) (nulls t) (nulls v) (λ n. refl) _
retyped_by booleans_of v t d = mapped_after (retyped v) (booleans_from t) (booleans_from v) (λ x. mapped_twice (retyped v) (λ (p : Option Bits × Bits). booleans t p.0 p.1) (λ p. booleans v p.0 p.1) (λ p. refl) _) _
retyped_by (primitives_of p) v t d =
    mapped_after (retyped v) (primitives_from t p) (primitives_from v p) (λ x. mapped_twice (retyped v) (λ (q : Option Bits × List (List ℤ)). primitives t q.0 q.1) (λ q. primitives v q.0 q.1) (λ q. refl) _) _
retyped_by (binaries_of large text) v t d =
    mapped_after (retyped v) (binaries_from t large) (binaries_from v large) (λ x. mapped_twice (retyped v) (λ (q : List ℕ × (Option Bits × List ℤ)). binaries t q.1.0 q.1.1 q.0) (λ q. binaries v q.1.0 q.1.1 q.0) (λ q. refl) _) _
retyped_by (fixed_size_binaries_of k) v t d =
    mapped_after (retyped v) (fixed_size_binaries_from t k) (fixed_size_binaries_from v k)
    (λ x. mapped_twice (retyped v) (λ (q : List ℕ × Option Bits). fixed_size_binaries t q.1 k (length q.0 / k) q.0) (λ q. fixed_size_binaries v q.1 k (length q.0 / k) q.0) (λ q. refl) _) _
retyped_by (views_of text) v t d =
    mapped_after (retyped v) (views_from t) (views_from v)
    (λ (x : Data × (Data × Data)). mapped_after (retyped v) (λ (q : List (List ℕ) × Option Bits). views_of_parts t x.1.1 q.1 q.0) (λ q. views_of_parts v x.1.1 q.1 q.0) (λ q. mapped_twice (retyped v) (λ (vs : List View). views t q.1 vs q.0) (λ vs. views v q.1 vs q.0) (λ vs. refl) _) _) _
retyped_by (lists_of large u) v t d =
    mapped_after (retyped v) (λ (p : Data × (Data × Data)). lists_from t large (data_in u p.0) p.1) (λ p. lists_from v large (data_in u p.0) p.1)
    (λ p. mapped_twice (retyped v) (λ (q : Layout × (Option Bits × List ℤ)). lists t q.1.0 q.1.1 q.0) (λ q. lists v q.1.0 q.1.1 q.0) (λ q. refl) _) _
retyped_by (fixed_size_lists_of k u) v t d =
    mapped_after (retyped v) (λ (p : Data × (Data × Data)). fixed_size_lists_from t k (data_in u p.0) p.1) (λ p. fixed_size_lists_from v k (data_in u p.0) p.1)
    (λ p. mapped_twice (retyped v) (λ (q : Layout × (ℕ × Option Bits)). fixed_size_lists t q.1.1 k q.1.0 q.0) (λ q. fixed_size_lists v q.1.1 k q.1.0 q.0) (λ q. refl) _) _
retyped_by (structs_of fs) v t d =
    mapped_after (retyped v) (λ (p : Data × (Data × Data)). structs_from t (option_and_then (λ ds. children_in fs ds) (items_in p.0)) p.1)
    (λ p. structs_from v (option_and_then (λ ds. children_in fs ds) (items_in p.0)) p.1) (λ p. mapped_twice (retyped v) (λ (q : Layouts × (ℕ × Option Bits)). structs t q.1.1 q.1.0 q.0) (λ q. structs v q.1.1 q.1.0 q.0) (λ q. refl) _) _
retyped_by (unions_of mode ids fs) v t d =
    mapped_after (retyped v) (λ (p : Data × (Data × Data)). unions_from t (option_and_then (λ ds. children_in fs ds) (items_in p.0)) p.1)
    (λ p. unions_from v (option_and_then (λ ds. children_in fs ds) (items_in p.0)) p.1) (λ p. mapped_twice (retyped v) (λ (q : Layouts × (Option (List ℤ) × List ℤ)). union_of t q.0 q.1.0 q.1.1) (λ q. union_of v q.0 q.1.0 q.1.1) (λ q. retyped-union v t q.0 q.1.0 q.1.1) _) _
retyped_by (dictionaries_of k u) v t d =
    mapped_after (retyped v) (λ (p : Data × (Data × Data)). dictionaries_from t k (p.0, p.1.0) (data_in u p.1.1)) (λ p. dictionaries_from v k (p.0, p.1.0) (data_in u p.1.1))
    (λ p. mapped_twice (retyped v) (λ (q : List ℤ × (Option Bits × Layout)). dictionaries t (integer_type k) q.1.0 q.0 q.1.1) (λ q. dictionaries v (integer_type k) q.1.0 q.0 q.1.1) (λ q. refl) _) _
retyped_by no_form v t d = refl

pub data_form : (t : TypeData) (d : Data) → data_in t d ≡ data_by (form_of t) t d
data_form (T.extension n t m) d = ap (option_map (retyped (T.extension n t m))) (data_form t d) ∙ retyped_by (form_of t) (T.extension n t m) t d
data_form (T.list (T.field n t b m)) d = refl
data_form (T.large_list (T.field n t b m)) d = refl
data_form (T.fixed_size_list (T.field n t b m) k) d = refl
data_form (T.struct fs) d = refl
data_form (T.map (T.field n t b m) o) d = refl
data_form (T.union fs ids mode) d = refl
data_form (T.dictionary k t o) d = refl
data_form T.null d = refl
data_form T.boolean d = refl
data_form T.int8 d = refl
data_form T.int16 d = refl
data_form T.int32 d = refl
data_form T.int64 d = refl
data_form T.int128 d = refl
data_form T.uint8 d = refl
data_form T.uint16 d = refl
data_form T.uint32 d = refl
data_form T.uint64 d = refl
data_form T.float16 d = refl
data_form T.float32 d = refl
data_form T.float64 d = refl
data_form (T.timestamp u z) d = refl
data_form T.date32 d = refl
data_form T.date64 d = refl
data_form (T.time32 u) d = refl
data_form (T.time64 u) d = refl
data_form (T.duration u) d = refl
data_form (T.interval i) d = refl
data_form T.binary d = refl
data_form (T.fixed_size_binary n) d = refl
data_form T.large_binary d = refl
data_form T.utf8 d = refl
data_form T.large_utf8 d = refl
data_form T.binary_view d = refl
data_form T.utf8_view d = refl
data_form (T.decimal p s) d = refl
data_form (T.decimal256 p s) d = refl
data_form T.unknown d = refl

-- What is read has the type.
pub data_typed : (t : TypeData) (d : Data) (l : Layout) → data_in t d ≡ Some l → type_of l ≡ t
data_typed t d l e =
    let again : Some (retyped t l) ≡ Some l = ap (option_map (retyped t)) (sym e ∙ data_form t d) ∙ retyped_by (form_of t) t t d ∙ sym (data_form t d) ∙ e in
    let same : retyped t l ≡ l = cc in
    sym (ap type_of same) ∙ type-retyped t l
