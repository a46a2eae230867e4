-- The equations of `seen` as a set, for `using`.
pub use Rattle.arrow_types.specs.SeenAt.{seen-Null, seen-Boolean, seen-Int8, seen-Int16, seen-Int32, seen-Int64, seen-Int128, seen-UInt8, seen-UInt16, seen-UInt32, seen-UInt64, seen-Float16, seen-Float32, seen-Float64, seen-Timestamp, seen-Date32, seen-Date64, seen-Time32, seen-Time64, seen-Duration, seen-Interval, seen-Binary, seen-FixedSizeBinary, seen-LargeBinary, seen-Utf8, seen-LargeUtf8, seen-BinaryView, seen-Utf8View, seen-List, seen-LargeList, seen-FixedSizeList, seen-Struct, seen-Map, seen-Union, seen-Dictionary, seen-Decimal, seen-Decimal256, seen-Extension, seen-Unknown}

pub ruleset seen_rules = (seen-Null, seen-Boolean, seen-Int8, seen-Int16, seen-Int32, seen-Int64, seen-Int128, seen-UInt8, seen-UInt16, seen-UInt32, seen-UInt64, seen-Float16, seen-Float32, seen-Float64, seen-Timestamp, seen-Date32, seen-Date64, seen-Time32, seen-Time64, seen-Duration, seen-Interval, seen-Binary, seen-FixedSizeBinary, seen-LargeBinary, seen-Utf8, seen-LargeUtf8, seen-BinaryView, seen-Utf8View, seen-List, seen-LargeList, seen-FixedSizeList, seen-Struct, seen-Map, seen-Union, seen-Dictionary, seen-Decimal, seen-Decimal256, seen-Extension, seen-Unknown)
