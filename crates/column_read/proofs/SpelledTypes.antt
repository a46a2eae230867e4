-- A type that is spelled is not one of floats or of numbers wider than 128 bits.
use Rattle.arrow_types.specs.TypeData.{TypeData}
use Rattle.arrow_types.specs.TypeData as T
use Rattle.arrow_types.specs.Types.{physical_of}
use Rattle.arrow_types.specs.declared.datatype.IntervalUnit.TheVariants.{YearMonth, DayTime, MonthDayNano}
use Rattle.type_json.specs.TypeJson.{IsSpelled}
use Rattle.column_read.specs.Parts.{IsNativeStored}

pub spelled_native : (t : TypeData) → IsSpelled t → IsNativeStored (physical_of t)
spelled_native T.float16 h = absurd h
spelled_native T.float32 h = absurd h
spelled_native T.float64 h = absurd h
spelled_native (T.decimal256 p s) h = absurd h
spelled_native T.unknown h = absurd h
spelled_native (T.interval YearMonth) h = tt
spelled_native (T.interval DayTime) h = tt
spelled_native (T.interval MonthDayNano) h = tt
spelled_native (T.extension n t m) h = spelled_native t h
spelled_native _ h = tt
