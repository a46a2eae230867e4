use Rattle.arrow_types.proofs.Found.{numeric_found}
use Rattle.arrow_types.proofs.Others.{numeric_other}
use Rattle.arrow_types.proofs.datatype.ArrowDataType.is_numeric.Goals as goal

pub returns-in-Int8 : goal.returns-in-Int8
returns-in-Int8 c = numeric_found c.args.self.now c.in-Int8.is

pub returns-in-Int8-2 : goal.returns-in-Int8-2
returns-in-Int8-2 c = numeric_found c.args.self.now c.in-Int8.is

pub returns-in-Int8-3 : goal.returns-in-Int8-3
returns-in-Int8-3 c = numeric_found c.args.self.now c.in-Int8.is

pub returns-in-Int8-4 : goal.returns-in-Int8-4
returns-in-Int8-4 c = numeric_found c.args.self.now c.in-Int8.is

pub returns-in-Int8-5 : goal.returns-in-Int8-5
returns-in-Int8-5 c = numeric_found c.args.self.now c.in-Int8.is

pub returns-in-Int8-6 : goal.returns-in-Int8-6
returns-in-Int8-6 c = numeric_found c.args.self.now c.in-Int8.is

pub returns-in-Int8-7 : goal.returns-in-Int8-7
returns-in-Int8-7 c = numeric_found c.args.self.now c.in-Int8.is

pub returns-in-Int8-8 : goal.returns-in-Int8-8
returns-in-Int8-8 c = numeric_found c.args.self.now c.in-Int8.is

pub returns-in-Int8-9 : goal.returns-in-Int8-9
returns-in-Int8-9 c = numeric_found c.args.self.now c.in-Int8.is

pub returns-in-Int8-10 : goal.returns-in-Int8-10
returns-in-Int8-10 c = numeric_found c.args.self.now c.in-Int8.is

pub returns-in-Int8-11 : goal.returns-in-Int8-11
returns-in-Int8-11 c = numeric_found c.args.self.now c.in-Int8.is

pub returns-in-Int8-12 : goal.returns-in-Int8-12
returns-in-Int8-12 c = numeric_found c.args.self.now c.in-Int8.is

pub returns-in-Int8-13 : goal.returns-in-Int8-13
returns-in-Int8-13 c = numeric_found c.args.self.now c.in-Int8.is

pub returns-in_default : goal.returns-in_default
returns-in_default c =
    let d = c.in_default in
    numeric_other c.args.self.now d.not-Int8 d.not-Int16 d.not-Int32 d.not-Int64 d.not-Int128 d.not-UInt8 d.not-UInt16 d.not-UInt32 d.not-UInt64 d.not-Float32 d.not-Float64 d.not-Decimal d.not-Decimal256
