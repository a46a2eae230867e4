use Rattle.std.proofs.Common.{◌*◌, ◌%◌, ◌<◌, length, ap, sym, ◌∙◌, subst, arith}
use Rattle.arrow_types.specs.Seen.{seen}
use Rattle.arrow_flat.specs.Built.{IsCutTo}
use Rattle.arrow_flat.specs.Natives.{AreBytes}
use Rattle.arrow_flat.proofs.Lists.{all_take}
use Rattle.arrow_push_bytes.specs.BuiltSized.{SizedBytes, built_sized}
use Rattle.arrow_push_bytes.proofs.BuiltSized.{within, cut_multiple, cut_sized, few_sized}
use Rattle.arrow_push_bytes.proofs.fixed_size_binary.FixedSizeBinaryValuesValuesBuilder.truncate.Goals as goal

pub overflow_mul-len : goal.overflow_mul-len
overflow_mul-len c =
    let now = c.self.inside in
    let few = few_sized now.dtype now.size c.args.len now.values.items c.args.self.now c.self.view_is c.requires in
    let w = within now.size c.args.len (length now.values.items) few in
    let l = now.values.ok.0 in
    omega arith

pub invariant_of-self : goal.invariant_of-self
invariant_of-self c =
    let now = c.self.inside in
    let few = few_sized now.dtype now.size c.args.len now.values.items c.args.self.now c.self.view_is c.requires in
    let kept = c.self.invariant in
    record {
      sized = kept.sized;
      positive = kept.positive;
      multiple = ap (λ xs. length xs % now.size) c.truncate.ensures.items ∙ cut_multiple now.size c.args.len now.values.items kept.positive few;
      small = subst AreBytes (sym c.truncate.ensures.items) (all_take (λ b. b < 256) (c.args.len * now.size) now.values.items kept.small);
    }

pub returns : goal.returns
returns c =
    let now = c.self.inside in
    let few = few_sized now.dtype now.size c.args.len now.values.items c.args.self.now c.self.view_is c.requires in
    let after = built_sized now.size (seen now.dtype) c.truncate.new.self.items in
    subst (λ (b : SizedBytes). IsCutTo c.args.len (built_sized b.size (seen b.dtype) b.bytes) after) c.self.view_is
    (cut_sized now.size (seen now.dtype) now.values.items c.truncate.new.self.items c.args.len c.self.invariant.positive few c.truncate.ensures.items)
