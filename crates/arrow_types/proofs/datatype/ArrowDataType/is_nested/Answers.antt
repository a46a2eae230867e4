use Rattle.arrow_types.proofs.Found.{nested_found}
use Rattle.arrow_types.proofs.Others.{nested_other}
use Rattle.arrow_types.proofs.datatype.ArrowDataType.is_nested.Goals as goal

pub returns-in-List : goal.returns-in-List
returns-in-List c = nested_found c.args.self.now c.in-List.is

pub returns-in-List-2 : goal.returns-in-List-2
returns-in-List-2 c = nested_found c.args.self.now c.in-List.is

pub returns-in-List-3 : goal.returns-in-List-3
returns-in-List-3 c = nested_found c.args.self.now c.in-List.is

pub returns-in-List-4 : goal.returns-in-List-4
returns-in-List-4 c = nested_found c.args.self.now c.in-List.is

pub returns-in-List-5 : goal.returns-in-List-5
returns-in-List-5 c = nested_found c.args.self.now c.in-List.is

pub returns-in-List-6 : goal.returns-in-List-6
returns-in-List-6 c = nested_found c.args.self.now c.in-List.is

pub returns-in-List-7 : goal.returns-in-List-7
returns-in-List-7 c = nested_found c.args.self.now c.in-List.is

pub returns-in-List-8 : goal.returns-in-List-8
returns-in-List-8 c = nested_found c.args.self.now c.in-List.is

pub returns-in_default : goal.returns-in_default
returns-in_default c =
    let d = c.in_default in
    nested_other c.args.self.now d.not-List d.not-LargeList d.not-FixedSizeList d.not-Struct d.not-Map d.not-Union d.not-Dictionary d.not-Extension
