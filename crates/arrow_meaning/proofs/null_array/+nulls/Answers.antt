use Rattle.std.proofs.Common.{IfOk, Some, ap₂, arith, get_or, pos, replicate, ap, map, refl, rules, subst, sym, ◌*◌, ◌<◌, ◌^◌, ◌∙◌, ◌≡◌, length}
use Rattle.std.specs.Prelude.{slice_set}
use Rattle.std.proofs.lemmas.Bool.{false≢true}
use Rattle.std.proofs.lemmas.Grind.{common_steps}
use Rattle.arrow_bytes.specs.FixedSizeBinaries.{declared_size}
use Rattle.arrow_layout.specs.Layouts.{dictionaries, fixed_size_lists, layouts, lists, retyped, structs}
use Rattle.arrow_layout.specs.NullLayout.{null_layout, null_layouts, null_mask, null_offsets, one_if_any}
use Rattle.arrow_layout.specs.NullsFit.{AllNullsFit, NullsFit, SelectedNullsFit}
use Rattle.arrow_meaning.proofs.NullArrays.{at_type, carried_at, dense_fits, depth_below, first_below, fits_at, kind_told, layouts-null, layouts-selected, made_sound, made_stored, nothing_fits, nothing_fits_all, own_type, retyped-under, same_form, same_physical, same_size, selected_fits, simple_path, sparse_fits}
use Rattle.arrow_meaning.proofs.NullTypes.{back_from, simple_other}
use Rattle.arrow_meaning.specs.NullParts.{IsSimple}
use Rattle.arrow_meaning.specs.Nodes.{layout_of, node_physical}
use Rattle.arrow_types.specs.Carried.{AreCarried, IsCarried}
use Rattle.arrow_types.specs.Depth.{depth_of, fields_depth}
use Rattle.arrow_types.specs.Seen.{seen, seen_fields, seen_union}
use Rattle.arrow_types.specs.SeenAt as at
use Rattle.arrow_types.specs.Types.{integer_type, logical_of, physical_of}
use Rattle.arrow_types.specs.TypeData as T
use Rattle.arrow_types.specs.declared.datatype.PhysicalType.TheVariants as physical
use Rattle.arrow_types.specs.declared.datatype.UnionMode.TheVariants.{Sparse}
use Rattle.arrow_types.specs.declared.datatype.UnionType.{out-UnionType}
use Rattle.arrow_meaning.proofs.null_array.+nulls.Goals as goal

pub make_array-from_sound-requires-clause-sound : goal.make_array-from_sound-requires-clause-sound
make_array-from_sound-requires-clause-sound t c =
    made_sound (seen c.args.dtype.now) c.args.length (layout_of c.in_ok-node.node) (omega arith) c.requires.carried c.requires.fits c.in_ok-node.ensures.same

pub make_array-from_sound-requires-clause-kind : goal.make_array-from_sound-requires-clause-kind
make_array-from_sound-requires-clause-kind t c =
    made_stored (seen c.args.dtype.now) c.args.length (layout_of c.in_ok-node.node) (node_physical c.in_ok-node.node) c.in_ok-node.ensures.same c.in_ok-node.ensures.kind

pub make_array-returns : goal.make_array-returns
make_array-returns t c =
    subst (λ l. IfOk c.from_sound.result (λ a. a ≡ l)) (c.in_ok-node.ensures.same ∙ own_type (seen c.args.dtype.now) c.args.length) c.from_sound.ensures

pub make_arrays-make_array-requires : goal.make_arrays-make_array-requires
make_arrays-make_array-requires t c =
    let fs = c.args.fields.now in
    let i = c.loop-field.field-index in
    let f = c.field-item.result in
    (omega (arith, c.decreases, depth_below fs i f c.loop-field-test.true c.field-item.is), (carried_at fs i f c.loop-field-test.true c.field-item.is c.requires.carried, fits_at fs i c.args.length f c.loop-field-test.true c.field-item.is c.requires.fits))

pub make_arrays-returns-clause-same : goal.make_arrays-returns-clause-same
make_arrays-returns-clause-same t c =
    let done : c.loop-field.children.items ≡ map (λ f. null_layout (seen f.dtype) c.args.length) c.args.fields.now = grind (arith, common_steps) in
    ap layouts done ∙ layouts-null c.args.fields.now c.args.length

pub make_children-make_selected-requires : goal.make_children-make_selected-requires
make_children-make_selected-requires t c =
    let u = out-UnionType c.args.union.now in
    let other = λ (e : u.mode ≡ Sparse). false≢true (sym c.if-is_sparse.false ∙ c.is_sparse.ensures.1 e) in
    let same : c.as_slice-fields.result.now ≡ u.fields = c.as_slice-fields.ensures in
    let below = subst (λ i. i < length u.fields) (sym c.first_position.ensures) (first_below u.fields u.ids u.mode c.requires.carried) in (
      omega (arith, c.decreases, ap (λ fs. fields_depth (seen_fields fs)) same),
      (
        subst (λ fs. c.first_position.result < length fs) (sym same) below,
        (
          subst (λ fs. AreCarried (seen_fields fs)) (sym same) c.requires.carried.3,
          subst (λ fs. SelectedNullsFit (seen_fields fs) c.first_position.result c.args.length) (sym same)
              (subst (λ i. SelectedNullsFit (seen_fields u.fields) i c.args.length) (sym c.first_position.ensures) (dense_fits (seen_fields u.fields) u.ids u.mode c.args.length other c.requires.fits)),
        ),
      ),
    )

pub make_node-null_fixed_size_binary-requires-clause-sized : goal.make_node-null_fixed_size_binary-requires-clause-sized
make_node-null_fixed_size_binary-requires-clause-sized t c =
    let k = c.in-FixedSizeBinary.size in
    same_size (seen c.args.dtype.now) (seen c.args.storage.now) c.requires.logical ∙ at_type (λ s. declared_size s ≡ Some k) (at.seen-FixedSizeBinary k) c.in-FixedSizeBinary.is refl

pub make_node-null_fixed_size_binary-requires-clause-positive : goal.make_node-null_fixed_size_binary-requires-clause-positive
make_node-null_fixed_size_binary-requires-clause-positive t c =
    let h = back_from IsCarried (at.seen-FixedSizeBinary _) c.in-FixedSizeBinary.is c.requires.carried in h.0

pub make_node-null_fixed_size_binary-requires-clause-fits : goal.make_node-null_fixed_size_binary-requires-clause-fits
make_node-null_fixed_size_binary-requires-clause-fits t c =
    back_from (λ s. NullsFit s c.args.length) (at.seen-FixedSizeBinary _) c.in-FixedSizeBinary.is c.requires.fits

pub make_node-make_array-requires : goal.make_node-make_array-requires
make_node-make_array-requires t c =
    (omega (arith, c.decreases, ap depth_of (ap seen c.in-List.is ∙ at.seen-List c.in-List.field), ap (λ f. depth_of (seen f.dtype)) c.get.ensures), (subst (λ f. IsCarried (seen f.dtype)) (sym c.get.ensures) (back_from IsCarried (at.seen-List _) c.in-List.is c.requires.carried), nothing_fits (seen c.get.result.now.dtype)))

pub make_node-make_array-requires-in-LargeList : goal.make_node-make_array-requires-in-LargeList
make_node-make_array-requires-in-LargeList t c =
    (omega (arith, c.decreases, ap depth_of (ap seen c.in-LargeList.is ∙ at.seen-LargeList c.in-LargeList.field), ap (λ f. depth_of (seen f.dtype)) c.get-in-LargeList.ensures), (subst (λ f. IsCarried (seen f.dtype)) (sym c.get-in-LargeList.ensures) (back_from IsCarried (at.seen-LargeList _) c.in-LargeList.is c.requires.carried), nothing_fits (seen c.get-in-LargeList.result.now.dtype)))

pub make_node-make_array-requires-in-Map : goal.make_node-make_array-requires-in-Map
make_node-make_array-requires-in-Map t c =
    let h = back_from IsCarried (at.seen-Map _ _) c.in-Map.is c.requires.carried in
    (omega (arith, c.decreases, ap depth_of (ap seen c.in-Map.is ∙ at.seen-Map c.in-Map.field _), ap (λ f. depth_of (seen f.dtype)) c.get-in-Map.ensures), (subst (λ f. IsCarried (seen f.dtype)) (sym c.get-in-Map.ensures) h.1, nothing_fits (seen c.get-in-Map.result.now.dtype)))

pub make_node-overflow_mul-length : goal.make_node-overflow_mul-length
make_node-overflow_mul-length t c =
    let h = back_from (λ s. NullsFit s c.args.length) (at.seen-FixedSizeList _ _) c.in-FixedSizeList.is c.requires.fits in
    let p : c.args.length * c.in-FixedSizeList.size < 2 ^ 64 = h.0 in
    omega (arith, p)

pub make_node-make_array-requires-in-FixedSizeList : goal.make_node-make_array-requires-in-FixedSizeList
make_node-make_array-requires-in-FixedSizeList t c =
    let n = c.args.length in
    let h = back_from IsCarried (at.seen-FixedSizeList _ _) c.in-FixedSizeList.is c.requires.carried in
    let k = back_from (λ s. NullsFit s n) (at.seen-FixedSizeList _ _) c.in-FixedSizeList.is c.requires.fits in (
      omega (arith, c.decreases, ap depth_of (ap seen c.in-FixedSizeList.is ∙ at.seen-FixedSizeList c.in-FixedSizeList.field _), ap (λ f. depth_of (seen f.dtype)) c.get-in-FixedSizeList.ensures),
      (
        subst (λ f. IsCarried (seen f.dtype)) (sym c.get-in-FixedSizeList.ensures) h.1,
        subst (λ f. NullsFit (seen f.dtype) (n * c.in-FixedSizeList.size)) (sym c.get-in-FixedSizeList.ensures) k.1,
      ),
    )

pub make_node-make_arrays-requires : goal.make_node-make_arrays-requires
make_node-make_arrays-requires t c =
    let h = back_from IsCarried (at.seen-Struct _) c.in-Struct.is c.requires.carried in
    let k = back_from (λ s. NullsFit s c.args.length) (at.seen-Struct _) c.in-Struct.is c.requires.fits in
    (omega (arith, c.decreases, ap depth_of (ap seen c.in-Struct.is ∙ at.seen-Struct _), ap (λ fs. fields_depth (seen_fields fs)) c.as_slice.ensures), (subst (λ fs. AreCarried (seen_fields fs)) (sym c.as_slice.ensures) h, subst (λ fs. AllNullsFit (seen_fields fs) c.args.length) (sym c.as_slice.ensures) k))

pub make_node-make_children-requires : goal.make_node-make_children-requires
make_node-make_children-requires t c =
    let h = back_from IsCarried (at.seen-Union _) c.in-Union.is c.requires.carried in
    let k = back_from (λ s. NullsFit s c.args.length) (at.seen-Union _) c.in-Union.is c.requires.fits in
    (omega (arith, c.decreases, ap depth_of (ap seen c.in-Union.is ∙ at.seen-Union _), ap (λ u. fields_depth (seen_fields (out-UnionType u).fields)) c.get-in-Union.ensures), (subst (λ u. IsCarried (seen_union u)) (sym c.get-in-Union.ensures) h, subst (λ u. NullsFit (seen_union u) c.args.length) (sym c.get-in-Union.ensures) k))

pub make_node-null_union-requires-clause-carried : goal.make_node-null_union-requires-clause-carried
make_node-null_union-requires-clause-carried t c =
    subst (λ u. IsCarried (seen_union u)) (sym c.get-in-Union-2.ensures) (back_from IsCarried (at.seen-Union _) c.in-Union.is c.requires.carried)

pub make_node-null_union-requires-clause-fits : goal.make_node-null_union-requires-clause-fits
make_node-null_union-requires-clause-fits t c =
    let n = c.args.length in
    subst (λ u. NullsFit (seen_union u) n) (sym c.get-in-Union-2.ensures) (back_from (λ s. NullsFit s n) (at.seen-Union _) c.in-Union.is c.requires.fits)

pub make_node-make_array-requires-in-Dictionary : goal.make_node-make_array-requires-in-Dictionary
make_node-make_array-requires-in-Dictionary t c =
    let n = c.args.length in
    let h = back_from IsCarried (at.seen-Dictionary _ _ _) c.in-Dictionary.is c.requires.carried in
    let k = back_from (λ s. NullsFit s n) (at.seen-Dictionary _ _ _) c.in-Dictionary.is c.requires.fits in (
      omega (arith, c.decreases, ap depth_of (ap seen c.in-Dictionary.is ∙ at.seen-Dictionary _ _ _), ap (λ v. depth_of (seen v)) c.get-in-Dictionary.ensures),
      (
        subst (λ v. IsCarried (seen v)) (sym c.get-in-Dictionary.ensures) h,
        subst (λ i. NullsFit (seen c.get-in-Dictionary.result.now) i) (sym c.one_if_any.ensures) (subst (λ v. NullsFit (seen v) (one_if_any n)) (sym c.get-in-Dictionary.ensures) k),
      ),
    )

pub make_node-make_node-requires : goal.make_node-make_node-requires
make_node-make_node-requires t c =
    let n = c.args.length in
    let h = back_from IsCarried (at.seen-Extension _) c.in-Extension.is c.requires.carried in
    let k = back_from (λ s. NullsFit s n) (at.seen-Extension _) c.in-Extension.is c.requires.fits in
    let l = back_from (λ s. logical_of (seen c.args.dtype.now) ≡ logical_of s) (at.seen-Extension _) c.in-Extension.is c.requires.logical in (
      omega (arith, c.decreases, ap depth_of (ap seen c.in-Extension.is ∙ at.seen-Extension _), ap (λ e. depth_of (seen e.inner)) c.get-in-Extension.ensures),
      (
        subst (λ e. logical_of (seen c.args.dtype.now) ≡ logical_of (seen e.inner)) (sym c.get-in-Extension.ensures) l,
        (subst (λ e. IsCarried (seen e.inner)) (sym c.get-in-Extension.ensures) h, subst (λ e. NullsFit (seen e.inner) n) (sym c.get-in-Extension.ensures) k),
      ),
    )

pub make_node-null_flat-requires : goal.make_node-null_flat-requires
make_node-null_flat-requires t c =
    let d = c.in_default in
    subst IsSimple (sym (same_form (seen c.args.dtype.now) (seen c.args.storage.now) c.requires.logical))
    (simple_other c.args.storage.now d.not-List d.not-LargeList d.not-FixedSizeList d.not-Map d.not-Struct d.not-Union d.not-Dictionary d.not-Extension d.not-FixedSizeBinary c.requires.carried)

pub make_node-returns-in-FixedSizeBinary-clause-same : goal.make_node-returns-in-FixedSizeBinary-clause-same
make_node-returns-in-FixedSizeBinary-clause-same t c =
    let n = c.args.length in
    let u = seen c.args.dtype.now in
    at_type (λ s. IfOk c.map.result (λ x. layout_of x ≡ retyped u (null_layout s n))) (at.seen-FixedSizeBinary _) c.in-FixedSizeBinary.is (search rules)

pub make_node-returns-in-FixedSizeBinary-clause-kind : goal.make_node-returns-in-FixedSizeBinary-clause-kind
make_node-returns-in-FixedSizeBinary-clause-kind t c =
    at_type (λ s. IfOk c.map.result (λ x. physical_of s ≡ Some (node_physical x))) (at.seen-FixedSizeBinary _) c.in-FixedSizeBinary.is (search rules)

pub make_node-returns-in_ok-child-in-List-clause-same : goal.make_node-returns-in_ok-child-in-List-clause-same
make_node-returns-in_ok-child-in-List-clause-same t c =
    let n = c.args.length in
    let u = seen c.args.dtype.now in
    let r = c.null_list.result in
    at_type (λ s. IfOk r (λ x. layout_of x ≡ retyped u (null_layout s n))) (at.seen-List _) c.in-List.is
    (subst (λ l. IfOk r (λ x. layout_of x ≡ lists u (null_mask n) (null_offsets n) l)) (c.in_ok-child-in-List.ensures ∙ ap (λ f. null_layout (seen f.dtype) 0) c.get.ensures) c.null_list.ensures.same)

pub make_node-returns-in_ok-child-in-List-clause-kind : goal.make_node-returns-in_ok-child-in-List-clause-kind
make_node-returns-in_ok-child-in-List-clause-kind t c =
    kind_told c.null_list.result physical.List (physical_of (seen c.args.storage.now)) c.null_list.ensures.kind
    (at_type (λ s. physical_of s ≡ Some physical.List) (at.seen-List _) c.in-List.is refl)

pub make_node-returns-in_ok-child-in-LargeList-clause-same : goal.make_node-returns-in_ok-child-in-LargeList-clause-same
make_node-returns-in_ok-child-in-LargeList-clause-same t c =
    let n = c.args.length in
    let u = seen c.args.dtype.now in
    let r = c.null_list-in-LargeList.result in
    at_type (λ s. IfOk r (λ x. layout_of x ≡ retyped u (null_layout s n))) (at.seen-LargeList _) c.in-LargeList.is
    (subst (λ l. IfOk r (λ x. layout_of x ≡ lists u (null_mask n) (null_offsets n) l)) (c.in_ok-child-in-LargeList.ensures ∙ ap (λ f. null_layout (seen f.dtype) 0) c.get-in-LargeList.ensures) c.null_list-in-LargeList.ensures.same)

pub make_node-returns-in_ok-child-in-LargeList-clause-kind : goal.make_node-returns-in_ok-child-in-LargeList-clause-kind
make_node-returns-in_ok-child-in-LargeList-clause-kind t c =
    kind_told c.null_list-in-LargeList.result physical.LargeList (physical_of (seen c.args.storage.now)) c.null_list-in-LargeList.ensures.kind
    (at_type (λ s. physical_of s ≡ Some physical.LargeList) (at.seen-LargeList _) c.in-LargeList.is refl)

pub make_node-returns-in_ok-child-in-Map-clause-same : goal.make_node-returns-in_ok-child-in-Map-clause-same
make_node-returns-in_ok-child-in-Map-clause-same t c =
    let n = c.args.length in
    let u = seen c.args.dtype.now in
    let r = c.null_map.result in
    at_type (λ s. IfOk r (λ x. layout_of x ≡ retyped u (null_layout s n))) (at.seen-Map _ _) c.in-Map.is
    (subst (λ l. IfOk r (λ x. layout_of x ≡ lists u (null_mask n) (null_offsets n) l)) (c.in_ok-child-in-Map.ensures ∙ ap (λ f. null_layout (seen f.dtype) 0) c.get-in-Map.ensures) c.null_map.ensures.same)

pub make_node-returns-in_ok-child-in-Map-clause-kind : goal.make_node-returns-in_ok-child-in-Map-clause-kind
make_node-returns-in_ok-child-in-Map-clause-kind t c =
    kind_told c.null_map.result physical.Map (physical_of (seen c.args.storage.now)) c.null_map.ensures.kind
    (at_type (λ s. physical_of s ≡ Some physical.Map) (at.seen-Map _ _) c.in-Map.is refl)

pub make_node-returns-in_ok-child-in-FixedSizeList-clause-same : goal.make_node-returns-in_ok-child-in-FixedSizeList-clause-same
make_node-returns-in_ok-child-in-FixedSizeList-clause-same t c =
    let n = c.args.length in
    let u = seen c.args.dtype.now in
    let r = c.null_fixed_size_list.result in
    at_type (λ s. IfOk r (λ x. layout_of x ≡ retyped u (null_layout s n))) (at.seen-FixedSizeList _ _) c.in-FixedSizeList.is
    (subst (λ l. IfOk r (λ x. layout_of x ≡ fixed_size_lists u (null_mask n) c.in-FixedSizeList.size n l)) (c.in_ok-child-in-FixedSizeList.ensures ∙ ap (λ f. null_layout (seen f.dtype) (n * c.in-FixedSizeList.size)) c.get-in-FixedSizeList.ensures) c.null_fixed_size_list.ensures.same)

pub make_node-returns-in_ok-child-in-FixedSizeList-clause-kind : goal.make_node-returns-in_ok-child-in-FixedSizeList-clause-kind
make_node-returns-in_ok-child-in-FixedSizeList-clause-kind t c =
    kind_told c.null_fixed_size_list.result physical.FixedSizeList (physical_of (seen c.args.storage.now)) c.null_fixed_size_list.ensures.kind
    (at_type (λ s. physical_of s ≡ Some physical.FixedSizeList) (at.seen-FixedSizeList _ _) c.in-FixedSizeList.is refl)

pub make_node-returns-in_ok-children-in-Struct-clause-same : goal.make_node-returns-in_ok-children-in-Struct-clause-same
make_node-returns-in_ok-children-in-Struct-clause-same t c =
    let n = c.args.length in
    let u = seen c.args.dtype.now in
    let r = c.null_struct.result in
    at_type (λ s. IfOk r (λ x. layout_of x ≡ retyped u (null_layout s n))) (at.seen-Struct _) c.in-Struct.is
    (subst (λ ls. IfOk r (λ x. layout_of x ≡ structs u (null_mask n) n ls))
    (ap layouts c.deref.ensures.value ∙ (c.in_ok-children-in-Struct.ensures.same ∙ ap (λ fs. null_layouts (seen_fields fs) n) c.as_slice.ensures)) c.null_struct.ensures.same)

pub make_node-returns-in_ok-children-in-Struct-clause-kind : goal.make_node-returns-in_ok-children-in-Struct-clause-kind
make_node-returns-in_ok-children-in-Struct-clause-kind t c =
    kind_told c.null_struct.result physical.Struct (physical_of (seen c.args.storage.now)) c.null_struct.ensures.kind
    (at_type (λ s. physical_of s ≡ Some physical.Struct) (at.seen-Struct _) c.in-Struct.is refl)

pub make_node-returns-in_ok-children-in-Union-clause-same : goal.make_node-returns-in_ok-children-in-Union-clause-same
make_node-returns-in_ok-children-in-Union-clause-same t c =
    let n = c.args.length in
    let u = seen c.args.dtype.now in
    let r = c.null_union.result in
    at_type (λ s. IfOk r (λ x. layout_of x ≡ retyped u (null_layout s n))) (at.seen-Union _) c.in-Union.is
    (subst (λ w. IfOk r (λ x. layout_of x ≡ retyped u (null_layout (seen_union w) n))) c.get-in-Union-2.ensures c.null_union.ensures.same)

pub make_node-returns-in_ok-children-in-Union-clause-kind : goal.make_node-returns-in_ok-children-in-Union-clause-kind
make_node-returns-in_ok-children-in-Union-clause-kind t c =
    kind_told c.null_union.result physical.Union (physical_of (seen c.args.storage.now)) c.null_union.ensures.kind
    (at_type (λ s. physical_of s ≡ Some physical.Union) (at.seen-Union _) c.in-Union.is refl)

pub make_node-returns-in_ok-child-in-Dictionary-clause-same : goal.make_node-returns-in_ok-child-in-Dictionary-clause-same
make_node-returns-in_ok-child-in-Dictionary-clause-same t c =
    let n = c.args.length in
    let u = seen c.args.dtype.now in
    let r = c.null_dictionary.result in
    at_type (λ s. IfOk r (λ x. layout_of x ≡ retyped u (null_layout s n))) (at.seen-Dictionary _ _ _) c.in-Dictionary.is
    (subst (λ l. IfOk r (λ x. layout_of x ≡ dictionaries u (integer_type c.in-Dictionary.key) (null_mask n) (replicate n (pos 0)) l))
    (c.in_ok-child-in-Dictionary.ensures ∙ (ap (λ v. null_layout (seen v) c.one_if_any.result) c.get-in-Dictionary.ensures ∙ ap (null_layout (seen c.in-Dictionary.values)) c.one_if_any.ensures))
    c.null_dictionary.ensures.same)

pub make_node-returns-in_ok-child-in-Dictionary-clause-kind : goal.make_node-returns-in_ok-child-in-Dictionary-clause-kind
make_node-returns-in_ok-child-in-Dictionary-clause-kind t c =
    kind_told c.null_dictionary.result (physical.Dictionary c.in-Dictionary.key) (physical_of (seen c.args.storage.now)) c.null_dictionary.ensures.kind
    (at_type (λ s. physical_of s ≡ Some (physical.Dictionary c.in-Dictionary.key)) (at.seen-Dictionary _ _ _) c.in-Dictionary.is refl)

pub make_node-returns-in-Extension-clause-same : goal.make_node-returns-in-Extension-clause-same
make_node-returns-in-Extension-clause-same t c =
    let n = c.args.length in
    let u = seen c.args.dtype.now in
    let r = c.make_node.result in
    let e = c.in-Extension.extension in
    let inner = null_layout (seen e.inner) n in
    at_type (λ s. IfOk r (λ x. layout_of x ≡ retyped u (null_layout s n))) (at.seen-Extension _) c.in-Extension.is
    (subst (λ l. IfOk r (λ x. layout_of x ≡ l)) (retyped-under u (T.extension e.name (seen e.inner) e.metadata) inner)
    (subst (λ w. IfOk r (λ x. layout_of x ≡ retyped u (null_layout (seen w.inner) n))) c.get-in-Extension.ensures c.make_node.ensures.same))

pub make_node-returns-in-Extension-clause-kind : goal.make_node-returns-in-Extension-clause-kind
make_node-returns-in-Extension-clause-kind t c =
    let r = c.make_node.result in
    at_type (λ s. IfOk r (λ x. physical_of s ≡ Some (node_physical x))) (at.seen-Extension _) c.in-Extension.is
    (subst (λ w. IfOk r (λ x. physical_of (seen w.inner) ≡ Some (node_physical x))) c.get-in-Extension.ensures c.make_node.ensures.kind)

pub make_node-returns-in_default : goal.make_node-returns-in_default
make_node-returns-in_default t c =
    let n = c.args.length in
    let u = seen c.args.dtype.now in
    let s = seen c.args.storage.now in
    let d = c.in_default in
    let simple = simple_other c.args.storage.now d.not-List d.not-LargeList d.not-FixedSizeList d.not-Map d.not-Struct d.not-Union d.not-Dictionary d.not-Extension d.not-FixedSizeBinary c.requires.carried in
    record {
      same = subst (λ l. IfOk c.null_flat.result (λ x. layout_of x ≡ l)) (simple_path u s n c.requires.logical simple) c.null_flat.ensures.same;
      kind = subst (λ o. IfOk c.null_flat.result (λ x. o ≡ Some (node_physical x))) (same_physical u s c.requires.logical) c.null_flat.ensures.kind;
    }

pub make_selected-make_array-requires : goal.make_selected-make_array-requires
make_selected-make_array-requires t c =
    let fs = c.args.fields.now in
    let i = c.args.position in
    let f = get_or fs i c.index-fields-position.result in
    let is = ap (get_or fs i) c.index-fields-position.is in (
      omega (arith, c.decreases, depth_below fs i f c.requires.within is),
      (carried_at fs i f c.requires.within is c.requires.carried, selected_fits fs i c.args.length f c.requires.within is c.requires.fits),
    )

pub make_selected-make_arrays-requires : goal.make_selected-make_arrays-requires
make_selected-make_arrays-requires t c = (omega (arith, c.decreases), (c.requires.carried, nothing_fits_all _))

pub make_selected-returns : goal.make_selected-returns
make_selected-returns t c =
    let fs = c.args.fields.now in
    let i = c.args.position in
    let f = get_or fs i c.index-fields-position.result in
    let is = ap (get_or fs i) c.index-fields-position.is in
    ap₂ (λ ls l. layouts (slice_set ls i l)) c.in_ok-children.ensures.each c.in_ok-selected.ensures ∙ layouts-selected fs i c.args.length f c.requires.within is

pub make_children-make_arrays-requires : goal.make_children-make_arrays-requires
make_children-make_arrays-requires t c =
    let u = out-UnionType c.args.union.now in
    let same : c.as_slice-fields.result.now ≡ u.fields = c.as_slice-fields.ensures in
    let fits = sparse_fits (seen_fields u.fields) u.ids u.mode c.args.length (c.is_sparse.ensures.0 c.if-is_sparse.true) c.requires.fits in (
      omega (arith, c.decreases, ap (λ fs. fields_depth (seen_fields fs)) same),
      (subst (λ fs. AreCarried (seen_fields fs)) (sym same) c.requires.carried.3, subst (λ fs. AllNullsFit (seen_fields fs) c.args.length) (sym same) fits),
    )
