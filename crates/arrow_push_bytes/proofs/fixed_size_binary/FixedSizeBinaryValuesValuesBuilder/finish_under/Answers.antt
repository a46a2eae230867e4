use Rattle.std.proofs.Common.{◌≡◌, ℕ, ◌/◌, ◌%◌, ◌<◌, List, length, map, ap, sym, ◌∙◌, subst, Option}
use Rattle.arrow_buffers.specs.Bits.{Bits}
use Rattle.arrow_types.specs.declared.datatype.ArrowDataType.{ArrowDataType}
use Rattle.arrow_types.specs.Seen.{seen}
use Rattle.arrow_flat.specs.Natives.{AreBytes}
use Rattle.arrow_flat.specs.Pieces.{chunks}
use Rattle.arrow_flat.specs.Primitives.{MaskHasLength}
use Rattle.arrow_flat.specs.Slots.{bytes}
use Rattle.arrow_bytes.specs.FixedSizeBinaries.{FixedSizeBinaries}
use Rattle.arrow_layout.specs.Denote.{under, validity_of}
use Rattle.arrow_layout.specs.Layouts.{type_of}
use Rattle.arrow_views.specs.ViewBytes.{octets_same}
use Rattle.arrow_push.proofs.Finished.{shown_parts}
use Rattle.arrow_push_bytes.specs.BuiltSized.{SizedBytes, sized_strings, finished_sized, sized_array_layout}
use Rattle.arrow_push_bytes.proofs.BuiltSized.{slots_count, known_size}
use Rattle.arrow_push_bytes.proofs.fixed_size_binary.FixedSizeBinaryValuesValuesBuilder.finish_under.Goals as goal

-- the array of these parts
abbrev array : ArrowDataType → ℕ → List ℕ → Option Bits → FixedSizeBinaries
array t k bs m = record { dtype = t; size = k; values = bs; mask = m }

pub new-requires-2-clause-positive : goal.new-requires-2-clause-positive
new-requires-2-clause-positive c =
    let size = known_size (seen c.in_ok-dtype.dtype) (seen c.self.inside.dtype) c.self.inside.size (ap seen c.in_ok-dtype.ensures) c.self.invariant.sized in
    subst (λ n. 0 < n) (sym size) c.self.invariant.positive

pub new-requires-2-clause-multiple : goal.new-requires-2-clause-multiple
new-requires-2-clause-multiple c =
    let now = c.self.inside in
    let size = known_size (seen c.in_ok-dtype.dtype) (seen c.self.inside.dtype) c.self.inside.size (ap seen c.in_ok-dtype.ensures) c.self.invariant.sized in
    let values = c.in_ok-values.ensures ∙ ap (λ v. v.items) c.replace-values.ensures.value in
    subst (λ n. length c.in_ok-values.values % n ≡ 0) (sym size) (ap (λ xs. length xs % now.size) values ∙ c.self.invariant.multiple)

pub new-requires-2-clause-fits : goal.new-requires-2-clause-fits
new-requires-2-clause-fits c =
    let now = c.self.inside in
    let size = known_size (seen c.in_ok-dtype.dtype) (seen c.self.inside.dtype) c.self.inside.size (ap seen c.in_ok-dtype.ensures) c.self.invariant.sized in
    let values = c.in_ok-values.ensures ∙ ap (λ v. v.items) c.replace-values.ensures.value in
    let fits = subst (λ (b : SizedBytes). MaskHasLength c.args.validity (length (map bytes (sized_strings b.size b.bytes)))) (sym c.self.view_is) c.requires in
    subst (λ n. MaskHasLength c.args.validity (length c.in_ok-values.values / n)) (sym size)
    (subst (MaskHasLength c.args.validity) (slots_count now.size now.values.items ∙ ap (λ xs. length xs / now.size) (sym values)) fits)

pub returns-clause-value : goal.returns-clause-value
returns-clause-value c =
    let inside = c.self.inside in
    let size = known_size (seen c.in_ok-dtype.dtype) (seen c.self.inside.dtype) c.self.inside.size (ap seen c.in_ok-dtype.ensures) c.self.invariant.sized in
    let values = c.in_ok-values.ensures ∙ ap (λ v. v.items) c.replace-values.ensures.value in
    ap finished_sized (c.new-2.ensures ∙ ap (λ n. array c.in_ok-dtype.dtype n c.in_ok-values.values c.args.validity) size)
    ∙ shown_parts bytes c.in_ok-dtype.dtype c.args.self.now.dtype c.args.validity (sized_strings inside.size c.in_ok-values.values)
    (sized_strings c.args.self.now.size c.args.self.now.bytes)
    (c.in_ok-dtype.ensures ∙ ap (λ (b : SizedBytes). b.dtype) c.self.view_is)
    (ap (sized_strings inside.size) values ∙ ap (λ (b : SizedBytes). sized_strings b.size b.bytes) c.self.view_is)

pub returns-clause-held : goal.returns-clause-held
returns-clause-held c =
    let inside = c.self.inside in
    let size = known_size (seen c.in_ok-dtype.dtype) (seen c.self.inside.dtype) c.self.inside.size (ap seen c.in_ok-dtype.ensures) c.self.invariant.sized in
    let values = c.in_ok-values.ensures ∙ ap (λ v. v.items) c.replace-values.ensures.value in
    let made = c.new-2.ensures ∙ ap (λ n. array c.in_ok-dtype.dtype n c.in_ok-values.values c.args.validity) size in
    let xs = c.in_ok-values.values in
    let small : AreBytes xs = subst AreBytes (sym values) c.self.invariant.small in
    record {
      same_type = ap (λ (a : FixedSizeBinaries). type_of (sized_array_layout a)) made ∙ ap seen (c.in_ok-dtype.ensures ∙ ap (λ (b : SizedBytes). b.dtype) c.self.view_is);
      values_are =
          ap (λ (a : FixedSizeBinaries). under (sized_array_layout a)) made
          ∙ ap (λ bs. map bytes (chunks inside.size (length xs / inside.size) bs)) (octets_same xs small)
          ∙ ap (λ bs. map bytes (sized_strings inside.size bs)) values
          ∙ ap (λ (b : SizedBytes). map bytes (sized_strings b.size b.bytes)) c.self.view_is;
      mask_is = ap (λ (a : FixedSizeBinaries). validity_of (sized_array_layout a)) made;
    }
