use Rattle.std.proofs.Common.{◌+◌, ◌<◌, ap, arith, map, subst, sym, ◌∙◌}
use Rattle.std.proofs.lemmas.List.{length-map}
use Rattle.arrow_layout.specs.Denote.{validity_of}
use Rattle.arrow_layout.specs.Layouts.{length_of, type_of}
use Rattle.arrow_meaning.specs.Nodes.{binary_layout, boolean_layout, fixed_size_binary_layout, key_layout, key_numbers, layout_of, primitive_node_layout, view_layout}
use Rattle.arrow_types.specs.Seen.{seen}
use Rattle.arrow_equal.proofs.Slots.{dictionary_made, fixed_list_made, key_fits, list_made, named_made, null_has_none, null_made, offsets_above, struct_made, value_made}
use Rattle.arrow_equal.proofs.read.+read.Goals as goal

pub valid_parts-returns-in-Boolean : goal.valid_parts-returns-in-Boolean
valid_parts-returns-in-Boolean t c =
    let made = c.value_parts.ensures in
    value_made c.args.array.now (boolean_layout c.in-Boolean.bits) c.args.i c.value_parts.result (sym c.node.ensures.same ∙ ap layout_of c.in-Boolean.is) c.node.ensures.sound c.requires.within c.requires.valid made.value made.has made.own

pub valid_parts-returns-in-Binary : goal.valid_parts-returns-in-Binary
valid_parts-returns-in-Binary t c =
    let made = c.value_parts-in-Binary.ensures in
    value_made c.args.array.now (binary_layout (λ o. o) c.in-Binary.values) c.args.i c.value_parts-in-Binary.result (sym c.node.ensures.same ∙ ap layout_of c.in-Binary.is) c.node.ensures.sound c.requires.within c.requires.valid made.value made.has made.own

pub valid_parts-returns-in-LargeBinary : goal.valid_parts-returns-in-LargeBinary
valid_parts-returns-in-LargeBinary t c =
    let made = c.value_parts-in-LargeBinary.ensures in
    value_made c.args.array.now (binary_layout (λ o. o) c.in-LargeBinary.values) c.args.i c.value_parts-in-LargeBinary.result (sym c.node.ensures.same ∙ ap layout_of c.in-LargeBinary.is) c.node.ensures.sound c.requires.within c.requires.valid made.value made.has made.own

pub valid_parts-returns-in-Utf8 : goal.valid_parts-returns-in-Utf8
valid_parts-returns-in-Utf8 t c =
    let made = c.value_parts-in-Utf8.ensures in
    value_made c.args.array.now (binary_layout (λ o. o) c.in-Utf8.values) c.args.i c.value_parts-in-Utf8.result (sym c.node.ensures.same ∙ ap layout_of c.in-Utf8.is) c.node.ensures.sound c.requires.within c.requires.valid made.value made.has made.own

pub valid_parts-returns-in-LargeUtf8 : goal.valid_parts-returns-in-LargeUtf8
valid_parts-returns-in-LargeUtf8 t c =
    let made = c.value_parts-in-LargeUtf8.ensures in
    value_made c.args.array.now (binary_layout (λ o. o) c.in-LargeUtf8.values) c.args.i c.value_parts-in-LargeUtf8.result (sym c.node.ensures.same ∙ ap layout_of c.in-LargeUtf8.is) c.node.ensures.sound c.requires.within c.requires.valid made.value made.has made.own

pub valid_parts-returns-in-FixedSizeBinary : goal.valid_parts-returns-in-FixedSizeBinary
valid_parts-returns-in-FixedSizeBinary t c =
    let made = c.value_parts-in-FixedSizeBinary.ensures in
    value_made c.args.array.now (fixed_size_binary_layout c.in-FixedSizeBinary.values) c.args.i c.value_parts-in-FixedSizeBinary.result (sym c.node.ensures.same ∙ ap layout_of c.in-FixedSizeBinary.is) c.node.ensures.sound c.requires.within c.requires.valid made.value made.has made.own

pub valid_parts-returns-in-BinaryView : goal.valid_parts-returns-in-BinaryView
valid_parts-returns-in-BinaryView t c =
    let made = c.value_parts-in-BinaryView.ensures in
    value_made c.args.array.now (view_layout c.in-BinaryView.values) c.args.i c.value_parts-in-BinaryView.result (sym c.node.ensures.same ∙ ap layout_of c.in-BinaryView.is) c.node.ensures.sound c.requires.within c.requires.valid made.value made.has made.own

pub valid_parts-returns-in-Utf8View : goal.valid_parts-returns-in-Utf8View
valid_parts-returns-in-Utf8View t c =
    let made = c.value_parts-in-Utf8View.ensures in
    value_made c.args.array.now (view_layout c.in-Utf8View.values) c.args.i c.value_parts-in-Utf8View.result (sym c.node.ensures.same ∙ ap layout_of c.in-Utf8View.is) c.node.ensures.sound c.requires.within c.requires.valid made.value made.has made.own

pub valid_parts-returns-in-Primitive : goal.valid_parts-returns-in-Primitive
valid_parts-returns-in-Primitive t c =
    let made = c.number_parts.ensures in
    value_made c.args.array.now (primitive_node_layout c.in-Primitive.numbers) c.args.i c.number_parts.result (sym c.node.ensures.same ∙ ap layout_of c.in-Primitive.is) c.node.ensures.sound c.requires.within c.requires.valid made.value made.has made.own

pub valid_parts-start_end-start-requires : goal.valid_parts-start_end-start-requires
valid_parts-start_end-start-requires t c =
    subst (λ n. c.args.i + 1 < n) (length-map c.in-List.offsets (λ o. o)) (offsets_above c.args.array.now (seen c.in-List.dtype) c.in-List.validity (map (λ o. o) c.in-List.offsets) c.in-List.child c.args.i (sym c.node.ensures.same ∙ ap layout_of c.in-List.is) c.requires.within)

pub valid_parts-returns-in-List : goal.valid_parts-returns-in-List
valid_parts-returns-in-List t c =
    list_made c.args.array.now (seen c.in-List.dtype) c.in-List.validity (map (λ o. o) c.in-List.offsets) c.in-List.child c.args.i c.start_end-start.result.0 c.start_end-start.result.1 (sym c.node.ensures.same ∙ ap layout_of c.in-List.is) c.node.ensures.sound c.requires.within c.requires.valid c.start_end-start.ensures.start c.start_end-start.ensures.end c.start_end-start.ensures.ordered

pub valid_parts-start_end-start-requires-in-LargeList : goal.valid_parts-start_end-start-requires-in-LargeList
valid_parts-start_end-start-requires-in-LargeList t c =
    subst (λ n. c.args.i + 1 < n) (length-map c.in-LargeList.offsets (λ o. o)) (offsets_above c.args.array.now (seen c.in-LargeList.dtype) c.in-LargeList.validity (map (λ o. o) c.in-LargeList.offsets) c.in-LargeList.child c.args.i (sym c.node.ensures.same ∙ ap layout_of c.in-LargeList.is) c.requires.within)

pub valid_parts-returns-in-LargeList : goal.valid_parts-returns-in-LargeList
valid_parts-returns-in-LargeList t c =
    list_made c.args.array.now (seen c.in-LargeList.dtype) c.in-LargeList.validity (map (λ o. o) c.in-LargeList.offsets) c.in-LargeList.child c.args.i c.start_end-start-in-LargeList.result.0 c.start_end-start-in-LargeList.result.1 (sym c.node.ensures.same ∙ ap layout_of c.in-LargeList.is) c.node.ensures.sound c.requires.within c.requires.valid c.start_end-start-in-LargeList.ensures.start c.start_end-start-in-LargeList.ensures.end c.start_end-start-in-LargeList.ensures.ordered

pub valid_parts-start_end-start-requires-in-Map : goal.valid_parts-start_end-start-requires-in-Map
valid_parts-start_end-start-requires-in-Map t c =
    subst (λ n. c.args.i + 1 < n) (length-map c.in-Map.offsets (λ o. o)) (offsets_above c.args.array.now (seen c.in-Map.dtype) c.in-Map.validity (map (λ o. o) c.in-Map.offsets) c.in-Map.child c.args.i (sym c.node.ensures.same ∙ ap layout_of c.in-Map.is) c.requires.within)

pub valid_parts-returns-in-Map : goal.valid_parts-returns-in-Map
valid_parts-returns-in-Map t c =
    list_made c.args.array.now (seen c.in-Map.dtype) c.in-Map.validity (map (λ o. o) c.in-Map.offsets) c.in-Map.child c.args.i c.start_end-start-in-Map.result.0 c.start_end-start-in-Map.result.1 (sym c.node.ensures.same ∙ ap layout_of c.in-Map.is) c.node.ensures.sound c.requires.within c.requires.valid c.start_end-start-in-Map.ensures.start c.start_end-start-in-Map.ensures.end c.start_end-start-in-Map.ensures.ordered

pub valid_parts-overflow_mul-result : goal.valid_parts-overflow_mul-result
valid_parts-overflow_mul-result t c =
    let h = fixed_list_made c.args.array.now (seen c.in-FixedSizeList.dtype) c.in-FixedSizeList.validity c.in-FixedSizeList.size c.in-FixedSizeList.length c.in-FixedSizeList.child c.args.i (sym c.node.ensures.same ∙ ap layout_of c.in-FixedSizeList.is) c.node.ensures.sound c.requires.within c.requires.valid in let n = c.len-slots.ensures in let m = c.len-slots.type_inv in omega (arith, h.0, n, m)

pub valid_parts-returns-in-FixedSizeList : goal.valid_parts-returns-in-FixedSizeList
valid_parts-returns-in-FixedSizeList t c =
    fixed_list_made c.args.array.now (seen c.in-FixedSizeList.dtype) c.in-FixedSizeList.validity c.in-FixedSizeList.size c.in-FixedSizeList.length c.in-FixedSizeList.child c.args.i (sym c.node.ensures.same ∙ ap layout_of c.in-FixedSizeList.is) c.node.ensures.sound c.requires.within c.requires.valid

pub valid_parts-returns-in-Struct : goal.valid_parts-returns-in-Struct
valid_parts-returns-in-Struct t c =
    struct_made c.args.array.now (seen c.in-Struct.dtype) c.in-Struct.validity c.in-Struct.length c.in-Struct.children.items c.as_slice.result.now c.args.i (sym c.node.ensures.same ∙ ap layout_of c.in-Struct.is) c.as_slice.ensures.value c.node.ensures.sound c.requires.within c.requires.valid

pub valid_parts-key_position-requires-clause-within : goal.valid_parts-key_position-requires-clause-within
valid_parts-key_position-requires-clause-within t c =
    subst (λ l. c.args.i < length_of l) (sym c.node.ensures.same ∙ ap layout_of c.in-Dictionary.is) c.requires.within

pub valid_parts-key_position-requires-clause-names : goal.valid_parts-key_position-requires-clause-names
valid_parts-key_position-requires-clause-names t c =
    key_fits c.args.array.now (seen c.in-Dictionary.dtype) (type_of (key_layout c.in-Dictionary.keys)) (validity_of (key_layout c.in-Dictionary.keys)) (key_numbers (key_layout c.in-Dictionary.keys)) c.in-Dictionary.child c.args.i (sym c.node.ensures.same ∙ ap layout_of c.in-Dictionary.is) c.node.ensures.sound c.requires.within c.requires.valid (let n = c.len-slots-in-Dictionary.ensures in let m = c.len-slots-in-Dictionary.type_inv in omega (arith, n, m))

pub valid_parts-unreachable-requires : goal.valid_parts-unreachable-requires
valid_parts-unreachable-requires t c =
    null_has_none c.args.array.now (seen c.in-Null.dtype) c.in-Null.length c.args.i (sym c.node.ensures.same ∙ ap layout_of c.in-Null.is) c.requires.valid

pub valid_parts-parts_at-requires : goal.valid_parts-parts_at-requires
valid_parts-parts_at-requires t c =
    let named = dictionary_made c.args.array.now (seen c.in-Dictionary.dtype) (type_of (key_layout c.in-Dictionary.keys)) (validity_of (key_layout c.in-Dictionary.keys)) (key_numbers (key_layout c.in-Dictionary.keys)) c.in-Dictionary.child c.args.i (sym c.node.ensures.same ∙ ap layout_of c.in-Dictionary.is) c.node.ensures.sound c.requires.within c.requires.valid c.key_position.result c.key_position.ensures in (omega (arith, named.1), named.0)

pub valid_parts-returns-in-Dictionary : goal.valid_parts-returns-in-Dictionary
valid_parts-returns-in-Dictionary t c =
    named_made c.args.array.now c.in-Dictionary.child c.args.i c.key_position.result c.parts_at.result (dictionary_made c.args.array.now (seen c.in-Dictionary.dtype) (type_of (key_layout c.in-Dictionary.keys)) (validity_of (key_layout c.in-Dictionary.keys)) (key_numbers (key_layout c.in-Dictionary.keys)) c.in-Dictionary.child c.args.i (sym c.node.ensures.same ∙ ap layout_of c.in-Dictionary.is) c.node.ensures.sound c.requires.within c.requires.valid c.key_position.result c.key_position.ensures) c.parts_at.ensures

pub parts_at-returns-else-is_valid : goal.parts_at-returns-else-is_valid
parts_at-returns-else-is_valid t c = null_made c.args.array.now c.args.i c.invariant.ensures c.requires (sym c.is_valid.ensures ∙ c.if-is_valid.false)
