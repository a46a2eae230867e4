use Rattle.std.proofs.Common.{length, take, drop, ap, ◌∙◌, arith}
use Rattle.arrow_buffers.proofs.Windows.{window_again, window_length}
use Rattle.arrow_buffers.proofs.buffer.Buffer.slice.Goals as goal

pub returns : goal.returns
returns g c =
    let n = window_length c.self.inside.shared.value.items c.self.inside.start c.self.inside.slots c.self.invariant ∙ ap length c.self.view_is in
    window_again c.self.inside.shared.value.items c.self.inside.start c.self.inside.slots c.args.offset c.args.length (omega arith)
    ∙ ap (λ xs. take c.args.length (drop c.args.offset xs)) c.self.view_is
