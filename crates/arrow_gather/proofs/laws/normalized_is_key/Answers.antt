use Rattle.std.proofs.Common.{ap, ap₂, sym, ◌∙◌}
use Rattle.arrow_layout.specs.Canon.{canon}
use Rattle.arrow_layout.specs.Denote.{denote}
use Rattle.arrow_layout.specs.Layouts.{type_of}
use Rattle.arrow_gather.proofs.laws.normalized_is_key.Goals as goal

pub returns : goal.returns
returns c = λ k l v w.
    let d = c.normalized_denotes.ensures in (
      λ e. (sym (d.of_type k) ∙ ap type_of e ∙ d.of_type l, sym (d.slots k v) ∙ ap denote e ∙ d.slots l w),
      λ p. ap₂ canon p.0 p.1,
    )
