use Rattle.std.proofs.Common.{◌≡◌, ◌+◌, ◌<◌, ap, arith, map, refl, subst, sym, ◌∙◌}
use Rattle.std.proofs.lemmas.List.{length-map}
use Rattle.arrow_flat.specs.Natives.{octets}
use Rattle.arrow_flat.specs.Slots.{bytes}
use Rattle.arrow_layout.specs.Denote.{validity_of}
use Rattle.arrow_layout.specs.Layouts.{length_of, type_of}
use Rattle.arrow_meaning.specs.Nodes.{binary_layout, boolean_layout, fixed_size_binary_layout, key_layout, key_numbers, layout_of, primitive_node_layout, view_layout}
use Rattle.arrow_types.specs.Seen.{seen}
use Rattle.arrow_views.specs.ViewArrays as views
use Rattle.arrow_scalar.proofs.Slots.{binary_at, bool_at, dictionary_made, fixed_binary_at, fixed_list_made, key_fits, list_made, null_has_none, offsets_above, slot_valid, struct_made, view_at}
use Rattle.arrow_scalar.specs.Spellings.{slot_at}
use Rattle.arrow_scalar.proofs.slot_parts.parts_of.Goals as goal

pub returns-in-Boolean : goal.returns-in-Boolean
returns-in-Boolean c =
    slot_valid c.args.array.now (boolean_layout c.in-Boolean.bits) c.args.i _ (sym c.node.ensures.same ∙ ap layout_of c.in-Boolean.is) c.node.ensures.sound c.requires.within c.requires.valid (bool_at c.in-Boolean.bits.values.bits c.args.i c.value.result c.value.ensures)

pub returns-in-Primitive : goal.returns-in-Primitive
returns-in-Primitive c =
    (subst (λ l. c.args.i < length_of l) (sym c.node.ensures.same ∙ ap layout_of c.in-Primitive.is) c.requires.within, slot_valid c.args.array.now (primitive_node_layout c.in-Primitive.numbers) c.args.i _ (sym c.node.ensures.same ∙ ap layout_of c.in-Primitive.is) c.node.ensures.sound c.requires.within c.requires.valid (refl))

pub returns-in-Binary : goal.returns-in-Binary
returns-in-Binary c =
    slot_valid c.args.array.now (binary_layout (λ o. o) c.in-Binary.values) c.args.i _ (sym c.node.ensures.same ∙ ap layout_of c.in-Binary.is) c.node.ensures.sound c.requires.within c.requires.valid (binary_at (λ o. o) c.in-Binary.values c.args.i c.value-in-Binary.result.now c.value-in-Binary.ensures)

pub returns-in-LargeBinary : goal.returns-in-LargeBinary
returns-in-LargeBinary c =
    slot_valid c.args.array.now (binary_layout (λ o. o) c.in-LargeBinary.values) c.args.i _ (sym c.node.ensures.same ∙ ap layout_of c.in-LargeBinary.is) c.node.ensures.sound c.requires.within c.requires.valid (binary_at (λ o. o) c.in-LargeBinary.values c.args.i c.value-in-LargeBinary.result.now c.value-in-LargeBinary.ensures)

pub returns-in-Utf8 : goal.returns-in-Utf8
returns-in-Utf8 c =
    subst (λ bs. slot_at c.args.array.now c.args.i ≡ bytes (octets bs)) (sym c.as_bytes.ensures.value) (slot_valid c.args.array.now (binary_layout (λ o. o) c.in-Utf8.values) c.args.i _ (sym c.node.ensures.same ∙ ap layout_of c.in-Utf8.is) c.node.ensures.sound c.requires.within c.requires.valid (binary_at (λ o. o) c.in-Utf8.values c.args.i c.value-in-Utf8.result.now c.value-in-Utf8.ensures))

pub returns-in-LargeUtf8 : goal.returns-in-LargeUtf8
returns-in-LargeUtf8 c =
    subst (λ bs. slot_at c.args.array.now c.args.i ≡ bytes (octets bs)) (sym c.as_bytes-in-LargeUtf8.ensures.value) (slot_valid c.args.array.now (binary_layout (λ o. o) c.in-LargeUtf8.values) c.args.i _ (sym c.node.ensures.same ∙ ap layout_of c.in-LargeUtf8.is) c.node.ensures.sound c.requires.within c.requires.valid (binary_at (λ o. o) c.in-LargeUtf8.values c.args.i c.value-in-LargeUtf8.result.now c.value-in-LargeUtf8.ensures))

pub returns-in-FixedSizeBinary : goal.returns-in-FixedSizeBinary
returns-in-FixedSizeBinary c =
    slot_valid c.args.array.now (fixed_size_binary_layout c.in-FixedSizeBinary.values) c.args.i _ (sym c.node.ensures.same ∙ ap layout_of c.in-FixedSizeBinary.is) c.node.ensures.sound c.requires.within c.requires.valid (fixed_binary_at c.in-FixedSizeBinary.values c.args.i c.value-in-FixedSizeBinary.result.now c.value-in-FixedSizeBinary.ensures)

pub returns-in-BinaryView : goal.returns-in-BinaryView
returns-in-BinaryView c =
    slot_valid c.args.array.now (view_layout c.in-BinaryView.values) c.args.i _ (sym c.node.ensures.same ∙ ap layout_of c.in-BinaryView.is) c.node.ensures.sound c.requires.within c.requires.valid (view_at (views.values_of c.in-BinaryView.values) c.args.i (octets c.value-in-BinaryView.result.now) c.value-in-BinaryView.ensures)

pub returns-in-Utf8View : goal.returns-in-Utf8View
returns-in-Utf8View c =
    subst (λ bs. slot_at c.args.array.now c.args.i ≡ bytes (octets bs)) (sym c.as_bytes-in-Utf8View.ensures.value) (slot_valid c.args.array.now (view_layout c.in-Utf8View.values) c.args.i _ (sym c.node.ensures.same ∙ ap layout_of c.in-Utf8View.is) c.node.ensures.sound c.requires.within c.requires.valid (view_at (views.values_of c.in-Utf8View.values) c.args.i (octets c.value-in-Utf8View.result.now) c.value-in-Utf8View.ensures))

pub start_end-start-requires : goal.start_end-start-requires
start_end-start-requires c =
    subst (λ n. c.args.i + 1 < n) (length-map c.in-List.offsets (λ o. o)) (offsets_above c.args.array.now (seen c.in-List.dtype) c.in-List.validity (map (λ o. o) c.in-List.offsets) c.in-List.child c.args.i (sym c.node.ensures.same ∙ ap layout_of c.in-List.is) c.requires.within)

pub returns-in-List : goal.returns-in-List
returns-in-List c =
    list_made c.args.array.now (seen c.in-List.dtype) c.in-List.validity (map (λ o. o) c.in-List.offsets) c.in-List.child c.args.i c.start_end-start.result.0 c.start_end-start.result.1 (sym c.node.ensures.same ∙ ap layout_of c.in-List.is) c.node.ensures.sound c.requires.within c.requires.valid c.start_end-start.ensures.start c.start_end-start.ensures.end c.start_end-start.ensures.ordered

pub start_end-start-requires-in-LargeList : goal.start_end-start-requires-in-LargeList
start_end-start-requires-in-LargeList c =
    subst (λ n. c.args.i + 1 < n) (length-map c.in-LargeList.offsets (λ o. o)) (offsets_above c.args.array.now (seen c.in-LargeList.dtype) c.in-LargeList.validity (map (λ o. o) c.in-LargeList.offsets) c.in-LargeList.child c.args.i (sym c.node.ensures.same ∙ ap layout_of c.in-LargeList.is) c.requires.within)

pub returns-in-LargeList : goal.returns-in-LargeList
returns-in-LargeList c =
    list_made c.args.array.now (seen c.in-LargeList.dtype) c.in-LargeList.validity (map (λ o. o) c.in-LargeList.offsets) c.in-LargeList.child c.args.i c.start_end-start-in-LargeList.result.0 c.start_end-start-in-LargeList.result.1 (sym c.node.ensures.same ∙ ap layout_of c.in-LargeList.is) c.node.ensures.sound c.requires.within c.requires.valid c.start_end-start-in-LargeList.ensures.start c.start_end-start-in-LargeList.ensures.end c.start_end-start-in-LargeList.ensures.ordered

pub start_end-start-requires-in-Map : goal.start_end-start-requires-in-Map
start_end-start-requires-in-Map c =
    subst (λ n. c.args.i + 1 < n) (length-map c.in-Map.offsets (λ o. o)) (offsets_above c.args.array.now (seen c.in-Map.dtype) c.in-Map.validity (map (λ o. o) c.in-Map.offsets) c.in-Map.child c.args.i (sym c.node.ensures.same ∙ ap layout_of c.in-Map.is) c.requires.within)

pub returns-in-Map : goal.returns-in-Map
returns-in-Map c =
    list_made c.args.array.now (seen c.in-Map.dtype) c.in-Map.validity (map (λ o. o) c.in-Map.offsets) c.in-Map.child c.args.i c.start_end-start-in-Map.result.0 c.start_end-start-in-Map.result.1 (sym c.node.ensures.same ∙ ap layout_of c.in-Map.is) c.node.ensures.sound c.requires.within c.requires.valid c.start_end-start-in-Map.ensures.start c.start_end-start-in-Map.ensures.end c.start_end-start-in-Map.ensures.ordered

pub overflow_mul-result : goal.overflow_mul-result
overflow_mul-result c =
    let h = fixed_list_made c.args.array.now (seen c.in-FixedSizeList.dtype) c.in-FixedSizeList.validity c.in-FixedSizeList.size c.in-FixedSizeList.length c.in-FixedSizeList.child c.args.i (sym c.node.ensures.same ∙ ap layout_of c.in-FixedSizeList.is) c.node.ensures.sound c.requires.within c.requires.valid in let n = c.len-slots.ensures in let m = c.len-slots.type_inv in omega (arith, h.0, n, m)

pub returns-in-FixedSizeList : goal.returns-in-FixedSizeList
returns-in-FixedSizeList c =
    fixed_list_made c.args.array.now (seen c.in-FixedSizeList.dtype) c.in-FixedSizeList.validity c.in-FixedSizeList.size c.in-FixedSizeList.length c.in-FixedSizeList.child c.args.i (sym c.node.ensures.same ∙ ap layout_of c.in-FixedSizeList.is) c.node.ensures.sound c.requires.within c.requires.valid

pub returns-in-Struct : goal.returns-in-Struct
returns-in-Struct c =
    struct_made c.args.array.now (seen c.in-Struct.dtype) c.in-Struct.validity c.in-Struct.length c.in-Struct.children.items c.as_slice.result.now c.args.i (sym c.node.ensures.same ∙ ap layout_of c.in-Struct.is) c.as_slice.ensures.value c.node.ensures.sound c.requires.within c.requires.valid

pub key_position-requires-clause-within : goal.key_position-requires-clause-within
key_position-requires-clause-within c =
    subst (λ l. c.args.i < length_of l) (sym c.node.ensures.same ∙ ap layout_of c.in-Dictionary.is) c.requires.within

pub key_position-requires-clause-names : goal.key_position-requires-clause-names
key_position-requires-clause-names c =
    key_fits c.args.array.now (seen c.in-Dictionary.dtype) (type_of (key_layout c.in-Dictionary.keys)) (validity_of (key_layout c.in-Dictionary.keys)) (key_numbers (key_layout c.in-Dictionary.keys)) c.in-Dictionary.child c.args.i (sym c.node.ensures.same ∙ ap layout_of c.in-Dictionary.is) c.node.ensures.sound c.requires.within c.requires.valid (let n = c.len-slots-in-Dictionary.ensures in let m = c.len-slots-in-Dictionary.type_inv in omega (arith, n, m))

pub returns-in-Dictionary : goal.returns-in-Dictionary
returns-in-Dictionary c =
    dictionary_made c.args.array.now (seen c.in-Dictionary.dtype) (type_of (key_layout c.in-Dictionary.keys)) (validity_of (key_layout c.in-Dictionary.keys)) (key_numbers (key_layout c.in-Dictionary.keys)) c.in-Dictionary.child c.args.i (sym c.node.ensures.same ∙ ap layout_of c.in-Dictionary.is) c.node.ensures.sound c.requires.within c.requires.valid c.key_position.result c.key_position.ensures

pub unreachable-requires : goal.unreachable-requires
unreachable-requires c =
    null_has_none c.args.array.now (seen c.in-Null.dtype) c.in-Null.length c.args.i (sym c.node.ensures.same ∙ ap layout_of c.in-Null.is) c.requires.valid
