use Rattle.std.proofs.Common.{sym}
use Rattle.arrow_types.proofs.+copy.Goals as goal

pub datatype::ArrowDataType::try_clone-returns-in-Null : goal.datatype::ArrowDataType::try_clone-returns-in-Null
datatype::ArrowDataType::try_clone-returns-in-Null t c = sym c.in-Null.is

pub datatype::ArrowDataType::try_clone-returns-in-Boolean : goal.datatype::ArrowDataType::try_clone-returns-in-Boolean
datatype::ArrowDataType::try_clone-returns-in-Boolean t c = sym c.in-Boolean.is

pub datatype::ArrowDataType::try_clone-returns-in-Int8 : goal.datatype::ArrowDataType::try_clone-returns-in-Int8
datatype::ArrowDataType::try_clone-returns-in-Int8 t c = sym c.in-Int8.is

pub datatype::ArrowDataType::try_clone-returns-in-Int16 : goal.datatype::ArrowDataType::try_clone-returns-in-Int16
datatype::ArrowDataType::try_clone-returns-in-Int16 t c = sym c.in-Int16.is

pub datatype::ArrowDataType::try_clone-returns-in-Int32 : goal.datatype::ArrowDataType::try_clone-returns-in-Int32
datatype::ArrowDataType::try_clone-returns-in-Int32 t c = sym c.in-Int32.is

pub datatype::ArrowDataType::try_clone-returns-in-Int64 : goal.datatype::ArrowDataType::try_clone-returns-in-Int64
datatype::ArrowDataType::try_clone-returns-in-Int64 t c = sym c.in-Int64.is

pub datatype::ArrowDataType::try_clone-returns-in-Int128 : goal.datatype::ArrowDataType::try_clone-returns-in-Int128
datatype::ArrowDataType::try_clone-returns-in-Int128 t c = sym c.in-Int128.is

pub datatype::ArrowDataType::try_clone-returns-in-UInt8 : goal.datatype::ArrowDataType::try_clone-returns-in-UInt8
datatype::ArrowDataType::try_clone-returns-in-UInt8 t c = sym c.in-UInt8.is

pub datatype::ArrowDataType::try_clone-returns-in-UInt16 : goal.datatype::ArrowDataType::try_clone-returns-in-UInt16
datatype::ArrowDataType::try_clone-returns-in-UInt16 t c = sym c.in-UInt16.is

pub datatype::ArrowDataType::try_clone-returns-in-UInt32 : goal.datatype::ArrowDataType::try_clone-returns-in-UInt32
datatype::ArrowDataType::try_clone-returns-in-UInt32 t c = sym c.in-UInt32.is

pub datatype::ArrowDataType::try_clone-returns-in-UInt64 : goal.datatype::ArrowDataType::try_clone-returns-in-UInt64
datatype::ArrowDataType::try_clone-returns-in-UInt64 t c = sym c.in-UInt64.is

pub datatype::ArrowDataType::try_clone-returns-in-Float16 : goal.datatype::ArrowDataType::try_clone-returns-in-Float16
datatype::ArrowDataType::try_clone-returns-in-Float16 t c = sym c.in-Float16.is

pub datatype::ArrowDataType::try_clone-returns-in-Float32 : goal.datatype::ArrowDataType::try_clone-returns-in-Float32
datatype::ArrowDataType::try_clone-returns-in-Float32 t c = sym c.in-Float32.is

pub datatype::ArrowDataType::try_clone-returns-in-Float64 : goal.datatype::ArrowDataType::try_clone-returns-in-Float64
datatype::ArrowDataType::try_clone-returns-in-Float64 t c = sym c.in-Float64.is

pub datatype::ArrowDataType::try_clone-returns-in-Date32 : goal.datatype::ArrowDataType::try_clone-returns-in-Date32
datatype::ArrowDataType::try_clone-returns-in-Date32 t c = sym c.in-Date32.is

pub datatype::ArrowDataType::try_clone-returns-in-Date64 : goal.datatype::ArrowDataType::try_clone-returns-in-Date64
datatype::ArrowDataType::try_clone-returns-in-Date64 t c = sym c.in-Date64.is

pub datatype::ArrowDataType::try_clone-returns-in-Time32 : goal.datatype::ArrowDataType::try_clone-returns-in-Time32
datatype::ArrowDataType::try_clone-returns-in-Time32 t c = sym c.in-Time32.is

pub datatype::ArrowDataType::try_clone-returns-in-Time64 : goal.datatype::ArrowDataType::try_clone-returns-in-Time64
datatype::ArrowDataType::try_clone-returns-in-Time64 t c = sym c.in-Time64.is

pub datatype::ArrowDataType::try_clone-returns-in-Duration : goal.datatype::ArrowDataType::try_clone-returns-in-Duration
datatype::ArrowDataType::try_clone-returns-in-Duration t c = sym c.in-Duration.is

pub datatype::ArrowDataType::try_clone-returns-in-Interval : goal.datatype::ArrowDataType::try_clone-returns-in-Interval
datatype::ArrowDataType::try_clone-returns-in-Interval t c = sym c.in-Interval.is

pub datatype::ArrowDataType::try_clone-returns-in-Binary : goal.datatype::ArrowDataType::try_clone-returns-in-Binary
datatype::ArrowDataType::try_clone-returns-in-Binary t c = sym c.in-Binary.is

pub datatype::ArrowDataType::try_clone-returns-in-FixedSizeBinary : goal.datatype::ArrowDataType::try_clone-returns-in-FixedSizeBinary
datatype::ArrowDataType::try_clone-returns-in-FixedSizeBinary t c = sym c.in-FixedSizeBinary.is

pub datatype::ArrowDataType::try_clone-returns-in-LargeBinary : goal.datatype::ArrowDataType::try_clone-returns-in-LargeBinary
datatype::ArrowDataType::try_clone-returns-in-LargeBinary t c = sym c.in-LargeBinary.is

pub datatype::ArrowDataType::try_clone-returns-in-Utf8 : goal.datatype::ArrowDataType::try_clone-returns-in-Utf8
datatype::ArrowDataType::try_clone-returns-in-Utf8 t c = sym c.in-Utf8.is

pub datatype::ArrowDataType::try_clone-returns-in-LargeUtf8 : goal.datatype::ArrowDataType::try_clone-returns-in-LargeUtf8
datatype::ArrowDataType::try_clone-returns-in-LargeUtf8 t c = sym c.in-LargeUtf8.is

pub datatype::ArrowDataType::try_clone-returns-in-BinaryView : goal.datatype::ArrowDataType::try_clone-returns-in-BinaryView
datatype::ArrowDataType::try_clone-returns-in-BinaryView t c = sym c.in-BinaryView.is

pub datatype::ArrowDataType::try_clone-returns-in-Utf8View : goal.datatype::ArrowDataType::try_clone-returns-in-Utf8View
datatype::ArrowDataType::try_clone-returns-in-Utf8View t c = sym c.in-Utf8View.is

pub datatype::ArrowDataType::try_clone-returns-in-Decimal : goal.datatype::ArrowDataType::try_clone-returns-in-Decimal
datatype::ArrowDataType::try_clone-returns-in-Decimal t c = sym c.in-Decimal.is

pub datatype::ArrowDataType::try_clone-returns-in-Decimal256 : goal.datatype::ArrowDataType::try_clone-returns-in-Decimal256
datatype::ArrowDataType::try_clone-returns-in-Decimal256 t c = sym c.in-Decimal256.is

pub datatype::ArrowDataType::try_clone-returns-in-Unknown : goal.datatype::ArrowDataType::try_clone-returns-in-Unknown
datatype::ArrowDataType::try_clone-returns-in-Unknown t c = sym c.in-Unknown.is
