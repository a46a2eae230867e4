use Rattle.std.proofs.Common.{arith, rules, ap, ◌∙◌, ◌≡◌, Some, None, sym}
use Rattle.std.specs.Prelude.{map}
use Rattle.serde_json.specs.View.{view}
use Rattle.arrow_flat.specs.Natives.{octets}
use Rattle.type_json.specs.Values.{traverse}
use Rattle.column_grammar.specs.Values.{bytes_in}
use Rattle.column_read.proofs.Loops.{read_none, read_more}
use Rattle.column_read.proofs.view.buffer_list.Goals as goal

pub returns-in_err-bytes : goal.returns-in_err-bytes
returns-in_err-bytes c =
    let none : bytes_in (view c.item-item.result) ≡ None → traverse bytes_in (map view c.args.list.now) ≡ None =
    read_none view bytes_in octets c.args.list.now c.loop-item.item-index c.item-item.result (omega arith) c.item-item.is in
    search (rules, none)

pub loop-item-preserved : goal.loop-item-preserved
loop-item-preserved c =
    let same : octets c.in_ok-from_vec.field-0 ≡ c.in_ok-bytes.bytes.items = ap octets c.in_ok-from_vec.ensures ∙ c.in_ok-bytes.ensures.octets in
    read_more view bytes_in octets c.args.list.now c.loop-item.item-index c.item-item.result c.loop-item.buffers.items c.push.new.self.items c.in_ok-from_vec.field-0 (omega arith)
    c.loop-item.invariant c.item-item.is (c.in_ok-bytes.ensures.read ∙ ap Some (sym same)) c.in_ok-push.ensures.items
