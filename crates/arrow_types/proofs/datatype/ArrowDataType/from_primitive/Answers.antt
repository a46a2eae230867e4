use Rattle.std.proofs.Common.{Some, ap}
use Rattle.arrow_types.specs.SeenAt as at
use Rattle.arrow_types.proofs.datatype.ArrowDataType.from_primitive.Goals as goal

pub returns-in-Int8 : goal.returns-in-Int8
returns-in-Int8 c = rw c.in-Int8.is (ap (λ d. Some d) at.seen-Int8)

pub returns-in-Int16 : goal.returns-in-Int16
returns-in-Int16 c = rw c.in-Int16.is (ap (λ d. Some d) at.seen-Int16)

pub returns-in-Int32 : goal.returns-in-Int32
returns-in-Int32 c = rw c.in-Int32.is (ap (λ d. Some d) at.seen-Int32)

pub returns-in-Int64 : goal.returns-in-Int64
returns-in-Int64 c = rw c.in-Int64.is (ap (λ d. Some d) at.seen-Int64)

pub returns-in-Int128 : goal.returns-in-Int128
returns-in-Int128 c = rw c.in-Int128.is (ap (λ d. Some d) at.seen-Int128)

pub returns-in-UInt8 : goal.returns-in-UInt8
returns-in-UInt8 c = rw c.in-UInt8.is (ap (λ d. Some d) at.seen-UInt8)

pub returns-in-UInt16 : goal.returns-in-UInt16
returns-in-UInt16 c = rw c.in-UInt16.is (ap (λ d. Some d) at.seen-UInt16)

pub returns-in-UInt32 : goal.returns-in-UInt32
returns-in-UInt32 c = rw c.in-UInt32.is (ap (λ d. Some d) at.seen-UInt32)

pub returns-in-UInt64 : goal.returns-in-UInt64
returns-in-UInt64 c = rw c.in-UInt64.is (ap (λ d. Some d) at.seen-UInt64)

pub returns-in-Int256 : goal.returns-in-Int256
returns-in-Int256 c = rw c.in-Int256.is (ap (λ d. Some d) (at.seen-Decimal256 32 32))

pub returns-in-Float16 : goal.returns-in-Float16
returns-in-Float16 c = rw c.in-Float16.is (ap (λ d. Some d) at.seen-Float16)

pub returns-in-Float32 : goal.returns-in-Float32
returns-in-Float32 c = rw c.in-Float32.is (ap (λ d. Some d) at.seen-Float32)

pub returns-in-Float64 : goal.returns-in-Float64
returns-in-Float64 c = rw c.in-Float64.is (ap (λ d. Some d) at.seen-Float64)

pub returns-in-DaysMs : goal.returns-in-DaysMs
returns-in-DaysMs c = rw c.in-DaysMs.is (ap (λ d. Some d) (at.seen-Interval _))

pub returns-in-MonthDayNano : goal.returns-in-MonthDayNano
returns-in-MonthDayNano c = rw c.in-MonthDayNano.is (ap (λ d. Some d) (at.seen-Interval _))
