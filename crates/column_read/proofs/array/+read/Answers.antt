use Rattle.std.proofs.Common.{◌≡◌, ◌≤◌, ℕ, ◌+◌, ◌*◌, ◌<◌, List, ◌∷◌, get_or, length, refl, sym, ap, subst, ◌∙◌, arith, rules, false, true, Some}
use Rattle.std.specs.Prelude.{codes, map, option_and_then, option_map}
use Rattle.std.proofs.lemmas.List.{length-map}
use Rattle.std.proofs.lemmas.Result.{err_from_is_err_and}
use Rattle.serde_json.specs.Data.{Data}
use Rattle.serde_json.specs.View.{view}
use Rattle.arrow_types.specs.Depth.{depth_of, fields_depth}
use Rattle.arrow_types.specs.Seen.{seen, seen_fields}
use Rattle.arrow_types.specs.Types.{logical_of, physical_of}
use Rattle.arrow_types.specs.declared.datatype.Field.{Field}
use Rattle.arrow_layout.specs.Forms.{form_of, dictionaries_of, fixed_size_lists_of}
use Rattle.type_json.specs.TypeJson.{AreSpelled, IsSpelled}
use Rattle.type_json.specs.Values.{three_members}
use Rattle.column_grammar.specs.Values.{items_in}
use Rattle.column_grammar.specs.Reads.{children_in, data_by, data_in, dictionaries_from, fixed_size_lists_from, flat_in, lists_from, structs_from, unions_from}
use Rattle.column_grammar.proofs.DataForms.{data_form}
use Rattle.column_read.specs.Parts.{IsNativeStored}
use Rattle.column_read.proofs.Arms.{dictionary_members, dictionary_type, err_matches, extension_type, field_depth_at, fixed_size_list_type, flat_form, large_list_type, list_type, map_type, no_child_reads, no_values, struct_type, union_type}
use Rattle.column_read.proofs.ChildrenRead.{next_child, none_read, other_count, spelled_at}
use Rattle.column_read.proofs.SpelledTypes.{spelled_native}
use Rattle.column_read.proofs.StoredChildren.{if_typed, over_child, over_children, reads_array, same_form, same_physical, same_stored}
use Rattle.column_read.proofs.array.+read.Goals as goal

pub array_in-returns : goal.array_in-returns
array_in-returns t c = reads_array _ _ c.stored_in.result (data_form (seen c.args.dtype.now) (view c.args.value.now)) c.stored_in.ensures

pub arrays_in-returns-then-values-fields : goal.arrays_in-returns-then-values-fields
arrays_in-returns-then-values-fields t c = λ _.
    let fs = c.args.fields.now in
    let vs = c.in_ok-values.values.now in
    let found : items_in (view c.args.value.now) ≡ Some (map view vs) = search (rules, c.items.ensures, c.in_ok-values.ensures.value) in
    let differ : length (map view vs) ≡ length fs → ⊥ = λ e. omega (arith, e, length-map vs view, c.if-values-fields.true) in
    ap (option_and_then (children_in (seen_fields fs))) found ∙ other_count fs (map view vs) differ

pub each_array-array_in-requires : goal.each_array-array_in-requires
each_array-array_in-requires t c =
    let fs = c.args.fields.now in
    let i = c.loop-i.i in
    let f = c.index-fields-i.result in
    let below : i < length fs = omega (arith, c.loop-i-test.true) in
    let deep : depth_of (seen (get_or fs i f).dtype) ≤ fields_depth (seen_fields fs) = subst (λ (x : Field). depth_of (seen x.dtype) ≤ fields_depth (seen_fields fs)) c.index-fields-i.is (field_depth_at fs i f below c.index-fields-i.is) in
    (search (rules, arith, deep), subst (λ (x : Field). IsSpelled (seen x.dtype)) c.index-fields-i.is (spelled_at fs i f c.requires.spelled below c.index-fields-i.is))

pub each_array-returns-in_err-child : goal.each_array-returns-in_err-child
each_array-returns-in_err-child t c =
    let fs = c.args.fields.now in
    let i = c.loop-i.i in
    let below : i < length fs = omega (arith, c.loop-i-test.true) in
    let p = err_from_is_err_and c.from_residual.result c.from_residual.ensures.1 in
    err_matches _ _ c.from_residual.result c.in_err-child.field-0.0 (cc (p.1, p.2))
    (λ bad. none_read fs c.args.values.now i (get_or fs i c.index-fields-i.result) c.index-values-i.result below c.requires.many (ap (λ x. get_or fs i x) c.index-fields-i.is) c.index-values-i.is (c.in_err-child.ensures bad))

pub each_array-loop-i-preserved : goal.each_array-loop-i-preserved
each_array-loop-i-preserved t c =
    let fs = c.args.fields.now in
    let i = c.loop-i.i in
    let below : i < length fs = omega (arith, c.loop-i-test.true) in
    next_child fs c.args.values.now i (get_or fs i c.index-fields-i.result) c.index-values-i.result below c.requires.many (ap (λ x. get_or fs i x) c.index-fields-i.is) c.index-values-i.is c.in_ok-child.child
    (option_map (λ v. v.items) c.loop-i.children) (option_map (λ v. v.items) c.push_child.new.children) (search (rules, c.in_ok-push_child.ensures)) c.loop-i.invariant c.in_ok-child.ensures

pub stored_in-child_in-requires : goal.stored_in-child_in-requires
stored_in-child_in-requires t c =
    let is = list_type c.args.storage.now c.in-List.field c.get.result.now c.in-List.is c.get.ensures in
    let deep : depth_of (seen c.args.storage.now) ≡ depth_of (seen c.get.result.now.dtype) + 1 = ap depth_of is in
    (search (rules, arith, deep), (subst IsSpelled is c.requires.spelled).0)

pub stored_in-returns-in_err-list-in-List : goal.stored_in-returns-in_err-list-in-List
stored_in-returns-in_err-list-in-List _ c =
    let d = view c.args.value.now in
    let t = seen c.args.dtype.now in
    let is = list_type c.args.storage.now c.in-List.field c.get.result.now c.in-List.is c.get.ensures in
    let members = three_members (codes "child") (codes "mask") (codes "offsets") d in
    let p = err_from_is_err_and c.from_residual.result c.from_residual.ensures.1 in
    no_child_reads (lists_from t false) (data_in (seen c.get.result.now.dtype)) members _ c.from_residual.result c.in_err-list-in-List.field-0.0 (ap (λ s. data_by (form_of s) t d) is) (λ x. refl) (cc (p.1, p.2)) c.in_err-list-in-List.ensures

pub stored_in-list_over-requires : goal.stored_in-list_over-requires
stored_in-list_over-requires t c =
    let is = list_type c.args.storage.now c.in-List.field c.get.result.now c.in-List.is c.get.ensures in
    same_physical (seen c.args.dtype.now) (seen c.args.storage.now) _ c.requires.logical (ap physical_of is)

pub stored_in-returns-in_ok-list-in-List : goal.stored_in-returns-in_ok-list-in-List
stored_in-returns-in_ok-list-in-List _ c =
    let d = view c.args.value.now in
    let t = seen c.args.dtype.now in
    let is = list_type c.args.storage.now c.in-List.field c.get.result.now c.in-List.is c.get.ensures in
    let members = three_members (codes "child") (codes "mask") (codes "offsets") d in
    reads_array _ _ c.list_over.result (ap (λ s. data_by (form_of s) t d) is)
    (over_child (lists_from t false) (data_in (seen c.get.result.now.dtype)) members c.in_ok-list-in-List.list c.list_over.result c.in_ok-list-in-List.ensures c.list_over.ensures)

pub stored_in-child_in-requires-in-LargeList : goal.stored_in-child_in-requires-in-LargeList
stored_in-child_in-requires-in-LargeList t c =
    let is = large_list_type c.args.storage.now c.in-LargeList.field c.get-in-LargeList.result.now c.in-LargeList.is c.get-in-LargeList.ensures in
    let deep : depth_of (seen c.args.storage.now) ≡ depth_of (seen c.get-in-LargeList.result.now.dtype) + 1 = ap depth_of is in
    (search (rules, arith, deep), (subst IsSpelled is c.requires.spelled).0)

pub stored_in-returns-in_err-list-in-LargeList : goal.stored_in-returns-in_err-list-in-LargeList
stored_in-returns-in_err-list-in-LargeList _ c =
    let d = view c.args.value.now in
    let t = seen c.args.dtype.now in
    let is = large_list_type c.args.storage.now c.in-LargeList.field c.get-in-LargeList.result.now c.in-LargeList.is c.get-in-LargeList.ensures in
    let members = three_members (codes "child") (codes "mask") (codes "offsets") d in
    let p = err_from_is_err_and c.from_residual-in_err-list-in-LargeList.result c.from_residual-in_err-list-in-LargeList.ensures.1 in
    no_child_reads (lists_from t true) (data_in (seen c.get-in-LargeList.result.now.dtype)) members _ c.from_residual-in_err-list-in-LargeList.result c.in_err-list-in-LargeList.field-0.0 (ap (λ s. data_by (form_of s) t d) is) (λ x. refl) (cc (p.1, p.2)) c.in_err-list-in-LargeList.ensures

pub stored_in-list_over-requires-in-LargeList : goal.stored_in-list_over-requires-in-LargeList
stored_in-list_over-requires-in-LargeList t c =
    let is = large_list_type c.args.storage.now c.in-LargeList.field c.get-in-LargeList.result.now c.in-LargeList.is c.get-in-LargeList.ensures in
    same_physical (seen c.args.dtype.now) (seen c.args.storage.now) _ c.requires.logical (ap physical_of is)

pub stored_in-returns-in_ok-list-in-LargeList : goal.stored_in-returns-in_ok-list-in-LargeList
stored_in-returns-in_ok-list-in-LargeList _ c =
    let d = view c.args.value.now in
    let t = seen c.args.dtype.now in
    let is = large_list_type c.args.storage.now c.in-LargeList.field c.get-in-LargeList.result.now c.in-LargeList.is c.get-in-LargeList.ensures in
    let members = three_members (codes "child") (codes "mask") (codes "offsets") d in
    reads_array _ _ c.list_over-in-LargeList.result (ap (λ s. data_by (form_of s) t d) is)
    (over_child (lists_from t true) (data_in (seen c.get-in-LargeList.result.now.dtype)) members c.in_ok-list-in-LargeList.list c.list_over-in-LargeList.result c.in_ok-list-in-LargeList.ensures c.list_over-in-LargeList.ensures)

pub stored_in-child_in-requires-in-Map : goal.stored_in-child_in-requires-in-Map
stored_in-child_in-requires-in-Map t c =
    let is = map_type c.args.storage.now c.in-Map.field c.get-in-Map.result.now _ c.in-Map.is c.get-in-Map.ensures in
    let deep : depth_of (seen c.args.storage.now) ≡ depth_of (seen c.get-in-Map.result.now.dtype) + 1 = ap depth_of is in
    (search (rules, arith, deep), (subst IsSpelled is c.requires.spelled).0)

pub stored_in-returns-in_err-entries-in-Map : goal.stored_in-returns-in_err-entries-in-Map
stored_in-returns-in_err-entries-in-Map _ c =
    let d = view c.args.value.now in
    let t = seen c.args.dtype.now in
    let is = map_type c.args.storage.now c.in-Map.field c.get-in-Map.result.now _ c.in-Map.is c.get-in-Map.ensures in
    let members = three_members (codes "child") (codes "mask") (codes "offsets") d in
    let p = err_from_is_err_and c.from_residual-in_err-entries-in-Map.result c.from_residual-in_err-entries-in-Map.ensures.1 in
    no_child_reads (lists_from t false) (data_in (seen c.get-in-Map.result.now.dtype)) members _ c.from_residual-in_err-entries-in-Map.result c.in_err-entries-in-Map.field-0.0 (ap (λ s. data_by (form_of s) t d) is) (λ x. refl) (cc (p.1, p.2)) c.in_err-entries-in-Map.ensures

pub stored_in-map_over-requires : goal.stored_in-map_over-requires
stored_in-map_over-requires t c =
    let is = map_type c.args.storage.now c.in-Map.field c.get-in-Map.result.now _ c.in-Map.is c.get-in-Map.ensures in
    same_physical (seen c.args.dtype.now) (seen c.args.storage.now) _ c.requires.logical (ap physical_of is)

pub stored_in-returns-in_ok-entries-in-Map : goal.stored_in-returns-in_ok-entries-in-Map
stored_in-returns-in_ok-entries-in-Map _ c =
    let d = view c.args.value.now in
    let t = seen c.args.dtype.now in
    let is = map_type c.args.storage.now c.in-Map.field c.get-in-Map.result.now _ c.in-Map.is c.get-in-Map.ensures in
    let members = three_members (codes "child") (codes "mask") (codes "offsets") d in
    reads_array _ _ c.map_over.result (ap (λ s. data_by (form_of s) t d) is)
    (over_child (lists_from t false) (data_in (seen c.get-in-Map.result.now.dtype)) members c.in_ok-entries-in-Map.entries c.map_over.result c.in_ok-entries-in-Map.ensures c.map_over.ensures)

pub stored_in-child_in-requires-in-FixedSizeList : goal.stored_in-child_in-requires-in-FixedSizeList
stored_in-child_in-requires-in-FixedSizeList t c =
    let is = fixed_size_list_type c.args.storage.now c.in-FixedSizeList.field c.get-in-FixedSizeList.result.now _ c.in-FixedSizeList.is c.get-in-FixedSizeList.ensures in
    let deep : depth_of (seen c.args.storage.now) ≡ depth_of (seen c.get-in-FixedSizeList.result.now.dtype) + 1 = ap depth_of is in
    (search (rules, arith, deep), (subst IsSpelled is c.requires.spelled).1.0)

pub stored_in-returns-in_err-list-in-FixedSizeList : goal.stored_in-returns-in_err-list-in-FixedSizeList
stored_in-returns-in_err-list-in-FixedSizeList _ c =
    let d = view c.args.value.now in
    let t = seen c.args.dtype.now in
    let is = fixed_size_list_type c.args.storage.now c.in-FixedSizeList.field c.get-in-FixedSizeList.result.now _ c.in-FixedSizeList.is c.get-in-FixedSizeList.ensures in
    let members = three_members (codes "child") (codes "length") (codes "mask") d in
    let p = err_from_is_err_and c.from_residual-in_err-list-in-FixedSizeList.result c.from_residual-in_err-list-in-FixedSizeList.ensures.1 in
    no_child_reads (fixed_size_lists_from t _) (data_in (seen c.get-in-FixedSizeList.result.now.dtype)) members _ c.from_residual-in_err-list-in-FixedSizeList.result c.in_err-list-in-FixedSizeList.field-0.0 (ap (λ s. data_by (form_of s) t d) is) (λ x. refl) (cc (p.1, p.2)) c.in_err-list-in-FixedSizeList.ensures

pub stored_in-returns-in_ok-list-in-FixedSizeList : goal.stored_in-returns-in_ok-list-in-FixedSizeList
stored_in-returns-in_ok-list-in-FixedSizeList _ c =
    let d = view c.args.value.now in
    let t = seen c.args.dtype.now in
    let is = fixed_size_list_type c.args.storage.now c.in-FixedSizeList.field c.get-in-FixedSizeList.result.now _ c.in-FixedSizeList.is c.get-in-FixedSizeList.ensures in
    let members = three_members (codes "child") (codes "length") (codes "mask") d in
    reads_array _ _ c.fixed_size_list_over.result (ap (λ s. data_by (form_of s) t d) is)
    (over_child (fixed_size_lists_from t _) (data_in (seen c.get-in-FixedSizeList.result.now.dtype)) members c.in_ok-list-in-FixedSizeList.list c.fixed_size_list_over.result c.in_ok-list-in-FixedSizeList.ensures (λ found h. c.fixed_size_list_over.ensures _ _ found (same_form t (seen c.args.storage.now) c.requires.logical ∙ ap form_of is) h))

pub stored_in-children_in-requires : goal.stored_in-children_in-requires
stored_in-children_in-requires t c =
    let is = struct_type c.args.storage.now c.in-Struct.fields c.as_slice.result.now c.in-Struct.is c.as_slice.ensures in
    let deep : depth_of (seen c.args.storage.now) ≡ fields_depth (seen_fields c.as_slice.result.now) + 1 = ap depth_of is in
    (search (rules, arith, deep), subst IsSpelled is c.requires.spelled)

pub stored_in-returns-in_err-row-in-Struct : goal.stored_in-returns-in_err-row-in-Struct
stored_in-returns-in_err-row-in-Struct _ c =
    let d = view c.args.value.now in
    let t = seen c.args.dtype.now in
    let is = struct_type c.args.storage.now c.in-Struct.fields c.as_slice.result.now c.in-Struct.is c.as_slice.ensures in
    let members = three_members (codes "children") (codes "length") (codes "mask") d in
    let children_of = λ (x : Data). option_and_then (children_in (seen_fields c.as_slice.result.now)) (items_in x) in
    let p = err_from_is_err_and c.from_residual-in_err-row-in-Struct.result c.from_residual-in_err-row-in-Struct.ensures.1 in
    no_child_reads (structs_from t) children_of members _ c.from_residual-in_err-row-in-Struct.result c.in_err-row-in-Struct.field-0.0 (ap (λ s. data_by (form_of s) t d) is) (λ x. refl) (cc (p.1, p.2)) c.in_err-row-in-Struct.ensures

pub stored_in-returns-in_ok-row-in-Struct : goal.stored_in-returns-in_ok-row-in-Struct
stored_in-returns-in_ok-row-in-Struct _ c =
    let d = view c.args.value.now in
    let t = seen c.args.dtype.now in
    let is = struct_type c.args.storage.now c.in-Struct.fields c.as_slice.result.now c.in-Struct.is c.as_slice.ensures in
    let members = three_members (codes "children") (codes "length") (codes "mask") d in
    let children_of = λ (x : Data). option_and_then (children_in (seen_fields c.as_slice.result.now)) (items_in x) in
    reads_array _ _ c.struct_over.result (ap (λ s. data_by (form_of s) t d) is)
    (over_children (structs_from t) children_of members c.in_ok-row-in-Struct.row c.struct_over.result c.in_ok-row-in-Struct.ensures c.struct_over.ensures)

pub stored_in-children_in-requires-in-Union : goal.stored_in-children_in-requires-in-Union
stored_in-children_in-requires-in-Union t c =
    let is = union_type c.args.storage.now c.in-Union.union c.get-in-Union.result.now c.as_slice-fields.result.now c.in-Union.is c.get-in-Union.ensures c.as_slice-fields.ensures in
    let deep : depth_of (seen c.args.storage.now) ≡ fields_depth (seen_fields c.as_slice-fields.result.now) + 1 = ap depth_of is in
    (search (rules, arith, deep), (subst IsSpelled is c.requires.spelled).1)

pub stored_in-returns-in_err-union-in-Union : goal.stored_in-returns-in_err-union-in-Union
stored_in-returns-in_err-union-in-Union _ c =
    let d = view c.args.value.now in
    let t = seen c.args.dtype.now in
    let is = union_type c.args.storage.now c.in-Union.union c.get-in-Union.result.now c.as_slice-fields.result.now c.in-Union.is c.get-in-Union.ensures c.as_slice-fields.ensures in
    let members = three_members (codes "children") (codes "offsets") (codes "types") d in
    let children_of = λ (x : Data). option_and_then (children_in (seen_fields c.as_slice-fields.result.now)) (items_in x) in
    let p = err_from_is_err_and c.from_residual-in_err-union-in-Union.result c.from_residual-in_err-union-in-Union.ensures.1 in
    no_child_reads (unions_from t) children_of members _ c.from_residual-in_err-union-in-Union.result c.in_err-union-in-Union.field-0.0 (ap (λ s. data_by (form_of s) t d) is) (λ x. refl) (cc (p.1, p.2)) c.in_err-union-in-Union.ensures

pub stored_in-returns-in_ok-union-in-Union : goal.stored_in-returns-in_ok-union-in-Union
stored_in-returns-in_ok-union-in-Union _ c =
    let d = view c.args.value.now in
    let t = seen c.args.dtype.now in
    let is = union_type c.args.storage.now c.in-Union.union c.get-in-Union.result.now c.as_slice-fields.result.now c.in-Union.is c.get-in-Union.ensures c.as_slice-fields.ensures in
    let members = three_members (codes "children") (codes "offsets") (codes "types") d in
    let children_of = λ (x : Data). option_and_then (children_in (seen_fields c.as_slice-fields.result.now)) (items_in x) in
    reads_array _ _ c.union_over.result (ap (λ s. data_by (form_of s) t d) is)
    (over_children (unions_from t) children_of members c.in_ok-union-in-Union.union c.union_over.result c.in_ok-union-in-Union.ensures c.union_over.ensures)

pub stored_in-values_in-requires : goal.stored_in-values_in-requires
stored_in-values_in-requires t c =
    let is = dictionary_type c.args.storage.now c.in-Dictionary.declared c.get-in-Dictionary.result.now c.in-Dictionary.key _ c.in-Dictionary.is c.get-in-Dictionary.ensures in
    let deep : depth_of (seen c.args.storage.now) ≡ depth_of (seen c.get-in-Dictionary.result.now) + 1 = ap depth_of is in
    (search (rules, arith, deep), subst IsSpelled is c.requires.spelled)

pub stored_in-returns-in_err-values-in-Dictionary : goal.stored_in-returns-in_err-values-in-Dictionary
stored_in-returns-in_err-values-in-Dictionary _ c =
    let d = view c.args.value.now in
    let t = seen c.args.dtype.now in
    let k = c.in-Dictionary.key in
    let is = dictionary_type c.args.storage.now c.in-Dictionary.declared c.get-in-Dictionary.result.now c.in-Dictionary.key _ c.in-Dictionary.is c.get-in-Dictionary.ensures in
    let child_of = data_in (seen c.get-in-Dictionary.result.now) in
    let members = three_members (codes "keys") (codes "mask") (codes "values") d in
    let p = err_from_is_err_and c.from_residual-in_err-values-in-Dictionary.result c.from_residual-in_err-values-in-Dictionary.ensures.1 in
    no_child_reads (λ l x. dictionaries_from t k x l) child_of (option_map (λ (q : Data × (Data × Data)). (q.1.1, (q.0, q.1.0))) members) _ c.from_residual-in_err-values-in-Dictionary.result c.in_err-values-in-Dictionary.field-0.0
    (ap (λ s. data_by (form_of s) t d) is ∙ dictionary_members (λ l x. dictionaries_from t k x l) child_of members) (no_values t k) (cc (p.1, p.2)) c.in_err-values-in-Dictionary.ensures

pub stored_in-dictionary_over-requires : goal.stored_in-dictionary_over-requires
stored_in-dictionary_over-requires t c =
    let is = dictionary_type c.args.storage.now c.in-Dictionary.declared c.get-in-Dictionary.result.now c.in-Dictionary.key _ c.in-Dictionary.is c.get-in-Dictionary.ensures in
    let read = c.in_ok-values-in-Dictionary.ensures in
    if_typed (λ u. form_of (seen c.args.dtype.now) ≡ dictionaries_of c.in-Dictionary.key u) (seen c.get-in-Dictionary.result.now) read.value c.in_ok-values-in-Dictionary.values.child read.child
    (same_form (seen c.args.dtype.now) (seen c.args.storage.now) c.requires.logical ∙ ap form_of is)

pub stored_in-returns-in_ok-values-in-Dictionary : goal.stored_in-returns-in_ok-values-in-Dictionary
stored_in-returns-in_ok-values-in-Dictionary _ c =
    let d = view c.args.value.now in
    let t = seen c.args.dtype.now in
    let k = c.in-Dictionary.key in
    let is = dictionary_type c.args.storage.now c.in-Dictionary.declared c.get-in-Dictionary.result.now c.in-Dictionary.key _ c.in-Dictionary.is c.get-in-Dictionary.ensures in
    let child_of = data_in (seen c.get-in-Dictionary.result.now) in
    let members = three_members (codes "keys") (codes "mask") (codes "values") d in
    reads_array _ _ c.dictionary_over.result (ap (λ s. data_by (form_of s) t d) is ∙ dictionary_members (λ l x. dictionaries_from t k x l) child_of members)
    (over_child (λ l x. dictionaries_from t k x l) child_of (option_map (λ (q : Data × (Data × Data)). (q.1.1, (q.0, q.1.0))) members) c.in_ok-values-in-Dictionary.values c.dictionary_over.result c.in_ok-values-in-Dictionary.ensures
    c.dictionary_over.ensures)

pub stored_in-stored_in-requires : goal.stored_in-stored_in-requires
stored_in-stored_in-requires t c =
    let is = extension_type c.args.storage.now c.in-Extension.extension c.get-in-Extension.result.now c.in-Extension.is c.get-in-Extension.ensures in
    let deep : depth_of (seen c.args.storage.now) ≡ depth_of (seen c.get-in-Extension.result.now.inner) + 1 = ap depth_of is in
    (search (rules, arith, deep), (c.requires.logical ∙ ap logical_of is, subst IsSpelled is c.requires.spelled))

pub stored_in-returns-in-Extension : goal.stored_in-returns-in-Extension
stored_in-returns-in-Extension _ c =
    let is = extension_type c.args.storage.now c.in-Extension.extension c.get-in-Extension.result.now c.in-Extension.is c.get-in-Extension.ensures in
    reads_array _ _ c.stored_in.result (ap (λ s. data_by (form_of s) (seen c.args.dtype.now) (view c.args.value.now)) is) c.stored_in.ensures

pub stored_in-flat_array_in-requires : goal.stored_in-flat_array_in-requires
stored_in-flat_array_in-requires t c =
    let s = seen c.args.storage.now in
    subst IsNativeStored (sym (same_stored (seen c.args.dtype.now) s c.requires.logical)) (spelled_native s c.requires.spelled)

pub stored_in-returns-in_default : goal.stored_in-returns-in_default
stored_in-returns-in_default _ c =
    let d = view c.args.value.now in
    let t = seen c.args.dtype.now in
    let other = c.in_default in
    reads_array _ _ c.flat_array_in.result
    (flat_form c.args.storage.now other.not-List other.not-LargeList other.not-FixedSizeList other.not-Map other.not-Struct other.not-Union other.not-Dictionary other.not-Extension t d
    ∙ ap (λ f. flat_in f t d) (same_form (seen c.args.storage.now) t (sym c.requires.logical)))
    c.flat_array_in.ensures
