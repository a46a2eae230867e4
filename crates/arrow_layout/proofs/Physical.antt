-- The physical type of a type that columns have is that of its form.
use Rattle.std.proofs.Common.{Bool, List, None, Option, Some, ap, cond, false, refl, true, ℕ, ◌∙◌, ◌≡◌}
use Rattle.arrow_types.specs.TypeData.{TypeData}
use Rattle.arrow_types.specs.Types.{physical_interval, physical_of}
use Rattle.arrow_types.specs.declared.datatype.IntervalUnit.{IntervalUnit}
use Rattle.arrow_types.specs.declared.datatype.IntervalUnit.TheVariants.{DayTime, MonthDayNano, YearMonth}
use Rattle.arrow_types.specs.declared.datatype.PhysicalType.{PhysicalType}
use Rattle.arrow_layout.specs.Forms.{Form, binaries_of, booleans_of, dictionaries_of, fixed_size_binaries_of, fixed_size_lists_of, form_of, interval_primitive, lists_of, no_form, nulls_of, primitives_of, structs_of, unions_of, views_of}
use Rattle.arrow_types.specs.TypeData as T
use Rattle.arrow_types.specs.declared.datatype.PhysicalType.TheVariants as physical

-- a map is laid out as a list and has a physical type of its own
abbrev pub list_kind : TypeData → PhysicalType
list_kind (T.map f o) = physical.Map
list_kind (T.extension n t m) = list_kind t
list_kind _ = physical.List

abbrev pub binary_kind : Bool → Bool → PhysicalType
binary_kind false false = physical.Binary
binary_kind true false = physical.LargeBinary
binary_kind false true = physical.Utf8
binary_kind true true = physical.LargeUtf8

abbrev pub physical_by : TypeData → Form → Option PhysicalType
physical_by t nulls_of = Some physical.Null
physical_by t booleans_of = Some physical.Boolean
physical_by t (primitives_of p) = Some (physical.Primitive p)
physical_by t (binaries_of large text) = Some (binary_kind large text)
physical_by t (fixed_size_binaries_of k) = Some physical.FixedSizeBinary
physical_by t (views_of text) = Some (cond text physical.Utf8View physical.BinaryView)
physical_by t (lists_of large u) = Some (cond large physical.LargeList (list_kind t))
physical_by t (fixed_size_lists_of k u) = Some physical.FixedSizeList
physical_by t (structs_of fs) = Some physical.Struct
physical_by t (unions_of mode ids fs) = Some physical.Union
physical_by t (dictionaries_of k u) = Some (physical.Dictionary k)
physical_by t no_form = None

interval_physical : (i : IntervalUnit) → physical_interval i ≡ physical.Primitive (interval_primitive i)
interval_physical YearMonth = refl
interval_physical DayTime = refl
interval_physical MonthDayNano = refl

extended : (n : List ℕ) (t : TypeData) (m : Option (List ℕ)) (f : Form) → physical_by t f ≡ physical_by (T.extension n t m) f
extended n t m (lists_of large u) = refl
extended n t m _ = refl

pub physical-by : (t : TypeData) → physical_of t ≡ physical_by t (form_of t)
physical-by (T.list (T.field n t b m)) = refl
physical-by (T.large_list (T.field n t b m)) = refl
physical-by (T.map (T.field n t b m) o) = refl
physical-by (T.fixed_size_list (T.field n t b m) k) = refl
physical-by (T.interval i) = ap Some (interval_physical i)
physical-by (T.extension n t m) = physical-by t ∙ extended n t m (form_of t)
physical-by _ = refl
