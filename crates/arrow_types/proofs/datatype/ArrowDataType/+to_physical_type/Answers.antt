use Rattle.std.proofs.Common.{Some, ap, ◌∙◌}
use Rattle.arrow_types.specs.Seen.{seen}
use Rattle.arrow_types.specs.SeenAt as at
use Rattle.arrow_types.specs.Types.{physical_of}
use Rattle.arrow_types.proofs.AtVariant.{at_variant}
use Rattle.arrow_types.proofs.datatype.ArrowDataType.+to_physical_type.Goals as goal

pub returns-in-Null : goal.returns-in-Null
returns-in-Null t c = at_variant physical_of at.seen-Null c.in-Null.is

pub returns-in-Boolean : goal.returns-in-Boolean
returns-in-Boolean t c = at_variant physical_of at.seen-Boolean c.in-Boolean.is

pub returns-in-Int8 : goal.returns-in-Int8
returns-in-Int8 t c = at_variant physical_of at.seen-Int8 c.in-Int8.is

pub returns-in-Int16 : goal.returns-in-Int16
returns-in-Int16 t c = at_variant physical_of at.seen-Int16 c.in-Int16.is

pub returns-in-Int32 : goal.returns-in-Int32
returns-in-Int32 t c = at_variant physical_of at.seen-Int32 c.in-Int32.is

pub returns-in-Int64 : goal.returns-in-Int64
returns-in-Int64 t c = at_variant physical_of at.seen-Int64 c.in-Int64.is

pub returns-in-Int128 : goal.returns-in-Int128
returns-in-Int128 t c = at_variant physical_of at.seen-Int128 c.in-Int128.is

pub returns-in-UInt8 : goal.returns-in-UInt8
returns-in-UInt8 t c = at_variant physical_of at.seen-UInt8 c.in-UInt8.is

pub returns-in-UInt16 : goal.returns-in-UInt16
returns-in-UInt16 t c = at_variant physical_of at.seen-UInt16 c.in-UInt16.is

pub returns-in-UInt32 : goal.returns-in-UInt32
returns-in-UInt32 t c = at_variant physical_of at.seen-UInt32 c.in-UInt32.is

pub returns-in-UInt64 : goal.returns-in-UInt64
returns-in-UInt64 t c = at_variant physical_of at.seen-UInt64 c.in-UInt64.is

pub returns-in-Float16 : goal.returns-in-Float16
returns-in-Float16 t c = at_variant physical_of at.seen-Float16 c.in-Float16.is

pub returns-in-Float32 : goal.returns-in-Float32
returns-in-Float32 t c = at_variant physical_of at.seen-Float32 c.in-Float32.is

pub returns-in-Float64 : goal.returns-in-Float64
returns-in-Float64 t c = at_variant physical_of at.seen-Float64 c.in-Float64.is

pub returns-in-Timestamp : goal.returns-in-Timestamp
returns-in-Timestamp t c = at_variant physical_of (at.seen-Timestamp _ _) c.in-Timestamp.is

pub returns-in-Date32 : goal.returns-in-Date32
returns-in-Date32 t c = at_variant physical_of at.seen-Date32 c.in-Date32.is

pub returns-in-Date64 : goal.returns-in-Date64
returns-in-Date64 t c = at_variant physical_of at.seen-Date64 c.in-Date64.is

pub returns-in-Time32 : goal.returns-in-Time32
returns-in-Time32 t c = at_variant physical_of (at.seen-Time32 _) c.in-Time32.is

pub returns-in-Time64 : goal.returns-in-Time64
returns-in-Time64 t c = at_variant physical_of (at.seen-Time64 _) c.in-Time64.is

pub returns-in-Duration : goal.returns-in-Duration
returns-in-Duration t c = at_variant physical_of (at.seen-Duration _) c.in-Duration.is

pub returns-in-Interval : goal.returns-in-Interval
returns-in-Interval t c = ap (λ p. Some p) c.physical_interval.ensures ∙ at_variant physical_of (at.seen-Interval _) c.in-Interval.is

pub returns-in-Binary : goal.returns-in-Binary
returns-in-Binary t c = at_variant physical_of at.seen-Binary c.in-Binary.is

pub returns-in-FixedSizeBinary : goal.returns-in-FixedSizeBinary
returns-in-FixedSizeBinary t c = at_variant physical_of (at.seen-FixedSizeBinary _) c.in-FixedSizeBinary.is

pub returns-in-LargeBinary : goal.returns-in-LargeBinary
returns-in-LargeBinary t c = at_variant physical_of at.seen-LargeBinary c.in-LargeBinary.is

pub returns-in-Utf8 : goal.returns-in-Utf8
returns-in-Utf8 t c = at_variant physical_of at.seen-Utf8 c.in-Utf8.is

pub returns-in-LargeUtf8 : goal.returns-in-LargeUtf8
returns-in-LargeUtf8 t c = at_variant physical_of at.seen-LargeUtf8 c.in-LargeUtf8.is

pub returns-in-BinaryView : goal.returns-in-BinaryView
returns-in-BinaryView t c = at_variant physical_of at.seen-BinaryView c.in-BinaryView.is

pub returns-in-Utf8View : goal.returns-in-Utf8View
returns-in-Utf8View t c = at_variant physical_of at.seen-Utf8View c.in-Utf8View.is

pub returns-in-List : goal.returns-in-List
returns-in-List t c = at_variant physical_of (at.seen-List _) c.in-List.is

pub returns-in-LargeList : goal.returns-in-LargeList
returns-in-LargeList t c = at_variant physical_of (at.seen-LargeList _) c.in-LargeList.is

pub returns-in-FixedSizeList : goal.returns-in-FixedSizeList
returns-in-FixedSizeList t c = at_variant physical_of (at.seen-FixedSizeList _ _) c.in-FixedSizeList.is

pub returns-in-Struct : goal.returns-in-Struct
returns-in-Struct t c = at_variant physical_of (at.seen-Struct _) c.in-Struct.is

pub returns-in-Map : goal.returns-in-Map
returns-in-Map t c = at_variant physical_of (at.seen-Map _ _) c.in-Map.is

pub returns-in-Union : goal.returns-in-Union
returns-in-Union t c = at_variant physical_of (at.seen-Union _) c.in-Union.is

pub returns-in-Dictionary : goal.returns-in-Dictionary
returns-in-Dictionary t c = at_variant physical_of (at.seen-Dictionary _ _ _) c.in-Dictionary.is

pub returns-in-Decimal : goal.returns-in-Decimal
returns-in-Decimal t c = at_variant physical_of (at.seen-Decimal _ _) c.in-Decimal.is

pub returns-in-Decimal256 : goal.returns-in-Decimal256
returns-in-Decimal256 t c = at_variant physical_of (at.seen-Decimal256 _ _) c.in-Decimal256.is

pub returns-in-Extension : goal.returns-in-Extension
returns-in-Extension t c = c.to_physical_type.ensures ∙ ap (λ e. physical_of (seen e.inner)) c.get.ensures ∙ at_variant physical_of (at.seen-Extension _) c.in-Extension.is

pub returns-in-Unknown : goal.returns-in-Unknown
returns-in-Unknown t c = at_variant physical_of at.seen-Unknown c.in-Unknown.is
