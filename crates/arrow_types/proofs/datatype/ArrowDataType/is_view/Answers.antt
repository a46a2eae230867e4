use Rattle.arrow_types.proofs.Found.{view_found}
use Rattle.arrow_types.proofs.Others.{view_other}
use Rattle.arrow_types.proofs.datatype.ArrowDataType.is_view.Goals as goal

pub returns-in-Utf8View : goal.returns-in-Utf8View
returns-in-Utf8View c = view_found c.args.self.now c.in-Utf8View.is

pub returns-in-Utf8View-2 : goal.returns-in-Utf8View-2
returns-in-Utf8View-2 c = view_found c.args.self.now c.in-Utf8View.is

pub returns-in_default : goal.returns-in_default
returns-in_default c =
    let d = c.in_default in
    view_other c.args.self.now d.not-Utf8View d.not-BinaryView
