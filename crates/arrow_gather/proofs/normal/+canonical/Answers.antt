use Rattle.std.proofs.Common.{ℕ, List, Option, pos, ◌+◌, length, get_or, refl, sym, ap, ap₂, ◌∙◌, ◌≤◌, ◌<◌, ◌≡◌, ◌^◌, [], map, flat_map, subst, arith, rules, IfOk}
use Rattle.std.specs.Prelude.{IsErrOf}
use Rattle.std.specs.List.{AllByRecursion}
use Rattle.std.proofs.lemmas.List.{length-map}
use Rattle.std.proofs.lemmas.Result.{err_from_is_err_and}
use Rattle.arrow_types.specs.Carried.{IsBelow}
use Rattle.arrow_types.specs.Seen.{seen}
use Rattle.arrow_types.specs.Select.{nat_of}
use Rattle.arrow_types.specs.Types.{integer_type, logical_of}
use Rattle.arrow_types.specs.declared.datatype.PhysicalType.TheVariants as physical
use Rattle.arrow_types.specs.declared.error.GrowError.TheVariants as grow
use Rattle.arrow_layout.specs.Canon.{canon, counts_after, distinct, key_in, mask_of, offsets}
use Rattle.arrow_layout.specs.Fits.{AllFit, Fits}
use Rattle.arrow_layout.specs.FitsHere.{HaveLengths}
use Rattle.arrow_layout.specs.Forms.{form_of, value_by}
use Rattle.arrow_layout.specs.Layouts.{dense_unions, dictionaries, fixed_size_lists, layouts, length_of, lengths_of, lists, nulls, sparse_unions, structs, type_of}
use Rattle.arrow_layout.specs.Denote.{validity_of}
use Rattle.arrow_layout.specs.NodeCount.{node_count, node_counts}
use Rattle.arrow_layout.specs.SlotsOf.{fill}
use Rattle.arrow_layout.specs.WellFormed.{AllNamed, WellFormed, positions}
use Rattle.arrow_layout.proofs.Lengths.{length-positions, offsets_many}
use Rattle.arrow_layout.specs.OfValues.{IsOfValues}
use Rattle.arrow_meaning.proofs.NullArrays.{same_form}
use Rattle.arrow_meaning.specs.Nodes.{IsSoundNode, IsStoredAs, key_layout, key_type_of, layout_of, list_offsets, node_physical, union_layout}
use Rattle.arrow_canon.specs.Picks.{picked, picked_mask}
use Rattle.arrow_canon.specs.Runs.{AreWithin, canon_of_runs, places}
use Rattle.arrow_canon.proofs.Counts.{runs_fit}
use Rattle.arrow_canon.proofs.Places.{places_within}
use Rattle.arrow_items.specs.Items.{chunk_places, item_count, kept_places}
use Rattle.arrow_items.specs.Kinds.{child_picked, children_picked, structs_picked}
use Rattle.arrow_items.specs.Unions.{children_by, dense_picked, dense_places, fields_picked, fill_field, numbers_picked, sparse_children, sparse_picked, sparse_place}
use Rattle.arrow_gather.specs.Distincts.{picked_values}
use Rattle.arrow_gather.specs.Lists.{IsListKind, is_large, kind_limit, offset_numbers}
use Rattle.arrow_gather.specs.Types.{HasTypeOf}
use Rattle.arrow_gather.proofs.Arms.{chunks_arm, dense_arm, list_node_arm, made_ok, made_sound, nulls_arm, one_sound, sparse_arm, structs_arm}
use Rattle.arrow_choice.proofs.Unions.{children_counted, length_found}
use Rattle.arrow_gather.proofs.Dealt.{dealt_count, dealt_places, dealt_within}
use Rattle.arrow_gather.proofs.ByChild.{by_step, fit_at, fit_step, length_at, nodes_at, picked-by, within_more}
use Rattle.arrow_gather.proofs.Fitting.{child_few, lists_few, lists_fit}
use Rattle.arrow_gather.proofs.Keyed.{dictionary_arm, keys_mask, keys_small, slots_count}
use Rattle.arrow_gather.proofs.NodeKinds.{of_values, ok_becomes, values_sound}
use Rattle.arrow_gather.proofs.Selected.{fields_below, fill_below, numbers_count, picked_below, positions-picked}
use Rattle.arrow_gather.proofs.Sound.{picked_well_formed}
use Rattle.arrow_gather.proofs.normal.+canonical.Goals as goal

pub canonical-returns-in_default-clause-overflow : goal.canonical-returns-in_default-clause-overflow
canonical-returns-in_default-clause-overflow t c = λ _ f.
    omega (arith, runs_fit (seen c.args.dtype.now) c.args.array.now c.args.runs.now f, c.in_default.ensures)

pub canonical-from_node-requires : goal.canonical-from_node-requires
canonical-from_node-requires t c =
    let made = c.in_ok-node.ensures.ok in
    let within = places_within (length_of c.args.array.now) c.args.runs.now c.requires.within in
    c.in_ok-node.ensures.sound
    (subst WellFormed (sym made.0) (picked_well_formed (seen c.args.dtype.now) c.args.array.now (places c.args.runs.now) c.invariant.ensures c.requires.of_type within made.1))

-- ---- a child

pub canonical_child-canonical-requires : goal.canonical_child-canonical-requires
canonical_child-canonical-requires t c = (search (rules, arith), (ap logical_of c.dtype.ensures, c.requires))

pub canonical_child-returns : goal.canonical_child-returns
canonical_child-returns t c =
    let l = c.args.child.now in
    let r = c.canonical.result in
    let rs = c.args.items.now in
    record {
      ok = subst (λ T. IfOk r (λ a. (a ≡ canon T (picked T l (places rs))) × Fits (canon T (picked T l (places rs))))) c.dtype.ensures c.canonical.ensures.ok;
      overflow = subst (λ T. IsErrOf r grow.Overflow → Fits (canon T (picked T l (places rs))) → ⊥) c.dtype.ensures c.canonical.ensures.overflow;
    }

pub canonical_children-canonical_child-requires : goal.canonical_children-canonical_child-requires
canonical_children-canonical_child-requires t c =
    let cs = c.args.children.now in
    let i = c.loop-child.child-index in
    let d = c.child-item.result in
    let small : node_count d ≤ node_counts (layouts cs) = subst (λ l. node_count l ≤ node_counts (layouts cs)) (sym c.child-item.is) (nodes_at cs i d c.loop-child-test.true) in
    let long : length_of d ≡ c.args.slots = ap length_of c.child-item.is ∙ length_at (λ n. n ≡ c.args.slots) cs i d c.loop-child-test.true c.requires.lengths in
    (search (rules, arith, small), subst (λ n. AreWithin n c.args.items.now) (sym long) c.requires.within)

pub canonical_children-returns-in_err-one-clause-overflow : goal.canonical_children-returns-in_err-one-clause-overflow
canonical_children-returns-in_err-one-clause-overflow t c = λ e f.
    let p = err_from_is_err_and c.from_residual.result c.from_residual.ensures.1 in
    let ps = places c.args.items.now in
    let all : AllFit (children_by (λ j. ps) (layouts c.args.children.now) 0) = f in
    c.in_err-one.ensures.overflow (cc (p.1, p.2, e))
    (subst (λ l. Fits (child_picked l ps)) (sym c.child-item.is) (fit_at (λ j. ps) c.args.children.now c.loop-child.child-index c.child-item.result c.loop-child-test.true all))

pub canonical_children-loop-child-preserved : goal.canonical_children-loop-child-preserved
canonical_children-loop-child-preserved t c =
    let cs = c.args.children.now in
    let i = c.loop-child.child-index in
    let d = c.child-item.result in
    let ps = places c.args.items.now in
    let h = c.loop-child-test.true in (
      ap layouts c.in_ok-push.ensures.items
          ∙ by_step (λ j. ps) cs i d h c.loop-child.made.items c.in_ok-one.one c.loop-child.invariant.0 (c.in_ok-one.ensures.ok.0 ∙ ap (λ l. child_picked l ps) c.child-item.is),
      fit_step (λ j. ps) cs i d h c.loop-child.invariant.1 (subst (λ l. Fits (child_picked l ps)) c.child-item.is c.in_ok-one.ensures.ok.1),
    )

-- ---- lists

pub canonical_list-returns-in_err-parts-clause-overflow : goal.canonical_list-returns-in_err-parts-clause-overflow
canonical_list-returns-in_err-parts-clause-overflow t c = λ e f.
    let n = layout_of c.args.node.now in
    let p = err_from_is_err_and c.from_residual.result c.from_residual.ensures.1 in
    let many = c.in_err-parts.ensures.overflow (cc (p.1, p.2, e)) in
    let k = node_physical c.args.node.now in
    let few = lists_few (is_large k) (kind_limit k) refl (seen c.args.dtype.now) (type_of c.args.child.now) (validity_of n) (map nat_of (list_offsets n)) c.args.child.now (places c.args.runs.now) c.requires.form f in
    omega (arith, many, few)

pub canonical_list-canonical_child-requires : goal.canonical_list-canonical_child-requires
canonical_list-canonical_child-requires t c =
    let l = c.args.child.now in
    (search (rules, arith), subst (AreWithin (length_of l)) (sym c.deref.ensures.value) (c.in_ok-parts.ensures.ok.inside (length_of l) c.requires.offsets))

pub canonical_list-returns-in_err-child-clause-overflow : goal.canonical_list-returns-in_err-child-clause-overflow
canonical_list-returns-in_err-child-clause-overflow t c = λ e f.
    let p = err_from_is_err_and c.from_residual-in_err-child.result c.from_residual-in_err-child.ensures.1 in
    let inner = ap places c.deref.ensures.value ∙ c.in_ok-parts.ensures.ok.items in
    c.in_err-child.ensures.overflow (cc (p.1, p.2, e)) (subst (λ ps. Fits (child_picked c.args.child.now ps)) (sym inner) f.2)

pub canonical_list-returns-clause-ok : goal.canonical_list-returns-clause-ok
canonical_list-returns-clause-ok t c =
    let T = seen c.args.dtype.now in
    let l = c.args.child.now in
    let n = layout_of c.args.node.now in
    let k = node_physical c.args.node.now in
    let m = validity_of n in
    let os = map nat_of (list_offsets n) in
    let ps = places c.args.runs.now in
    let parts = c.in_ok-parts.parts in
    let made = c.in_ok-parts.ensures.ok in
    let child = c.in_ok-child.child in
    let inner = ap places c.deref.ensures.value ∙ made.items in
    record {
      same = c.in_ok-list_node.ensures.same
          ∙ ap (λ b. lists T b (offset_numbers parts.offsets) child) made.mask
          ∙ ap (λ o. lists T (picked_mask m ps) o child) made.offsets
          ∙ ap (lists T (picked_mask m ps) (offsets (map (item_count os) (kept_places m ps)))) (c.in_ok-child.ensures.ok.0 ∙ ap (child_picked l) inner);
      kind = c.in_ok-list_node.ensures.kind ∙ made.kind;
      fits = lists_fit (is_large k) (kind_limit k) refl T (type_of l) m os l ps c.requires.form c.requires.room made.fits (subst (λ xs. Fits (child_picked l xs)) inner c.in_ok-child.ensures.ok.1);
    }

-- ---- fixed-size lists

pub canonical_fixed_size_list-returns-in_err-parts-clause-overflow : goal.canonical_fixed_size_list-returns-in_err-parts-clause-overflow
canonical_fixed_size_list-returns-in_err-parts-clause-overflow t c = λ e f.
    let p = err_from_is_err_and c.from_residual.result c.from_residual.ensures.1 in
    let many = c.in_err-parts.ensures.overflow (cc (p.1, p.2, e)) in
    let same = ap (λ m. length (flat_map (chunk_places c.args.size) (kept_places m (places c.args.runs.now)))) c.as_ref.ensures.value in
    omega (arith, many, same, child_few c.args.child.now _ f.1)

pub canonical_fixed_size_list-canonical_child-requires : goal.canonical_fixed_size_list-canonical_child-requires
canonical_fixed_size_list-canonical_child-requires t c = (
  search (rules, arith),
  subst (AreWithin (length_of c.args.child.now)) (sym c.deref.ensures.value) (subst (λ n. AreWithin n c.in_ok-parts.parts.items.items) (sym c.requires.whole) c.in_ok-parts.ensures.inside),
)

-- ---- structs

pub canonical_struct-canonical_children-requires : goal.canonical_struct-canonical_children-requires
canonical_struct-canonical_children-requires t c =
    (search (rules, arith), (c.requires.lengths, subst (AreWithin c.args.slots) (sym c.deref.ensures.value) (c.in_ok-parts.ensures.inside c.args.slots c.requires.within)))

pub canonical_struct-returns-in_err-children-clause-overflow : goal.canonical_struct-returns-in_err-children-clause-overflow
canonical_struct-returns-in_err-children-clause-overflow t c = λ e f.
    let p = err_from_is_err_and c.from_residual-in_err-children.result c.from_residual-in_err-children.ensures.1 in
    let ls = layouts c.args.children.now in
    let qs = kept_places c.args.validity.now (places c.args.runs.now) in
    let inner = ap places c.deref.ensures.value ∙ (c.in_ok-parts.ensures.items ∙ ap (λ m. kept_places m (places c.args.runs.now)) c.as_ref.ensures.value) in
    c.in_err-children.ensures.overflow (cc (p.1, p.2, e))
    (subst (λ ps. AllFit (children_by (λ j. ps) ls 0)) (sym inner) (subst AllFit (picked-by ls qs 0) f.1))

pub canonical_struct-returns-clause-ok : goal.canonical_struct-returns-clause-ok
canonical_struct-returns-clause-ok t c =
    let T = seen c.args.dtype.now in
    let m = c.args.validity.now in
    let ps = places c.args.runs.now in
    let ls = layouts c.args.children.now in
    let qs = kept_places m ps in
    let made = c.in_ok-children.ensures.ok in
    let inner = ap places c.deref.ensures.value ∙ (c.in_ok-parts.ensures.items ∙ ap (λ m. kept_places m (places c.args.runs.now)) c.as_ref.ensures.value) in
    let same : children_by (λ j. places c.deref.result.now) ls 0 ≡ children_picked ls qs = ap (λ xs. children_by (λ j. xs) ls 0) inner ∙ sym (picked-by ls qs 0) in
    record {
      same = c.in_ok-struct_node.ensures.same
          ∙ ap (λ b. structs T b c.args.length (layouts c.in_ok-children.children.items)) (c.in_ok-parts.ensures.mask ∙ ap (λ x. picked_mask x ps) c.as_ref.ensures.value)
          ∙ ap (λ n. structs T (picked_mask m ps) n (layouts c.in_ok-children.children.items)) c.requires.counted
          ∙ ap (structs T (picked_mask m ps) (length ps)) (made.0 ∙ same);
      kind = c.in_ok-struct_node.ensures.kind;
      fits = (omega (arith, c.requires.counted, c.ranges.length.fits), subst AllFit same made.1);
    }

pub canonical_fixed_size_list-returns-in_err-child-clause-overflow : goal.canonical_fixed_size_list-returns-in_err-child-clause-overflow
canonical_fixed_size_list-returns-in_err-child-clause-overflow t c = λ e f.
    let p = err_from_is_err_and c.from_residual-in_err-child.result c.from_residual-in_err-child.ensures.1 in
    let inner = ap places c.deref.ensures.value ∙ (c.in_ok-parts.ensures.items ∙ ap (λ m. flat_map (chunk_places c.args.size) (kept_places m (places c.args.runs.now))) c.as_ref.ensures.value) in
    c.in_err-child.ensures.overflow (cc (p.1, p.2, e)) (subst (λ ps. Fits (child_picked c.args.child.now ps)) (sym inner) f.1)

pub canonical_fixed_size_list-returns-clause-ok : goal.canonical_fixed_size_list-returns-clause-ok
canonical_fixed_size_list-returns-clause-ok t c =
    let T = seen c.args.dtype.now in
    let m = c.args.validity.now in
    let k = c.args.size in
    let ps = places c.args.runs.now in
    let l = c.args.child.now in
    let child = c.in_ok-child.child in
    let inner = ap places c.deref.ensures.value ∙ (c.in_ok-parts.ensures.items ∙ ap (λ m. flat_map (chunk_places c.args.size) (kept_places m (places c.args.runs.now))) c.as_ref.ensures.value) in
    record {
      same = c.in_ok-fixed_size_list_node.ensures.same
          ∙ ap (λ b. fixed_size_lists T b k c.args.length child) (c.in_ok-parts.ensures.mask ∙ ap (λ x. picked_mask x ps) c.as_ref.ensures.value)
          ∙ ap (λ n. fixed_size_lists T (picked_mask m ps) k n child) c.requires.counted
          ∙ ap (fixed_size_lists T (picked_mask m ps) k (length ps)) (c.in_ok-child.ensures.ok.0 ∙ ap (child_picked l) inner);
      kind = c.in_ok-fixed_size_list_node.ensures.kind;
      fits = (omega (arith, c.requires.counted, c.ranges.length.fits), subst (λ xs. Fits (child_picked l xs)) inner c.in_ok-child.ensures.ok.1);
    }

-- ---- sparse unions

pub canonical_sparse-canonical_sparse_children-requires : goal.canonical_sparse-canonical_sparse_children-requires
canonical_sparse-canonical_sparse_children-requires t c =
    let ls = layouts c.args.children.now in
    let many : length c.deref.result.now ≡ length c.args.types.now =
    ap length (c.deref.ensures.value ∙ c.in_ok-fields.ensures) ∙ length-positions (seen c.args.dtype.now) c.args.types.now in (
      search (rules, arith),
      (
        subst (λ k. HaveLengths (λ n. c.args.shift + k ≤ n) ls) (sym many) c.requires.lengths,
        (
          subst (λ k. AreWithin k c.args.runs.now) (sym many) c.requires.within,
          subst (λ k. c.args.shift + k < 2 ^ 64) (sym many) c.requires.reach,
        ),
      ),
    )

pub canonical_sparse-returns-in_err-made-clause-overflow : goal.canonical_sparse-returns-in_err-made-clause-overflow
canonical_sparse-returns-in_err-made-clause-overflow t c = λ e f.
    let p = err_from_is_err_and c.from_residual-in_err-made.result c.from_residual-in_err-made.ensures.1 in
    let ls = layouts c.args.children.now in
    let fields = c.deref.ensures.value ∙ c.in_ok-fields.ensures in
    c.in_err-made.ensures.overflow (cc (p.1, p.2, e)) (subst (λ fs. AllFit (sparse_children fs c.args.shift ls (places c.args.runs.now))) (sym fields) f.1)

pub canonical_sparse-returns-clause-ok : goal.canonical_sparse-returns-clause-ok
canonical_sparse-returns-clause-ok t c =
    let T = seen c.args.dtype.now in
    let ps = places c.args.runs.now in
    let ts = c.args.types.now in
    let ls = layouts c.args.children.now in
    let fields = c.deref.ensures.value ∙ c.in_ok-fields.ensures in
    let made = c.in_ok-made.ensures.ok in
    record {
      same = c.in_ok-sparse_node.ensures.same ∙ ap (sparse_unions T 0 (numbers_picked T ts ps)) (made.0 ∙ ap (λ fs. sparse_children fs c.args.shift ls ps) fields);
      kind = c.in_ok-sparse_node.ensures.kind;
      fits = (omega (arith, numbers_count T ts ps, c.requires.room), subst (λ fs. AllFit (sparse_children fs c.args.shift ls ps)) fields made.1);
    }

pub canonical_sparse_children-canonical_child-requires : goal.canonical_sparse_children-canonical_child-requires
canonical_sparse_children-canonical_child-requires t c =
    let cs = c.args.children.now in
    let j = c.loop-j.j in
    let d = c.index-children-j.result in
    let reach = c.args.shift + length c.args.fields.now in
    let small : node_count d ≤ node_counts (layouts cs) = subst (λ l. node_count l ≤ node_counts (layouts cs)) (sym c.index-children-j.is) (nodes_at cs j d c.loop-j-test.true) in
    let long : reach ≤ length_of d = subst (λ l. reach ≤ length_of l) (sym c.index-children-j.is) (length_at (λ n. reach ≤ n) cs j d c.loop-j-test.true c.requires.lengths) in
    (search (rules, arith, small), within_more (reach) (length_of d) c.deref.result.now long (subst (AreWithin reach) (sym c.deref.ensures.value) c.in_ok-items.ensures.inside))

pub canonical_sparse_children-loop-j-preserved : goal.canonical_sparse_children-loop-j-preserved
canonical_sparse_children-loop-j-preserved t c =
    let cs = c.args.children.now in
    let j = c.loop-j.j in
    let d = c.index-children-j.result in
    let ps = places c.args.runs.now in
    let f : ℕ → List (Option ℕ) = λ k. map (sparse_place c.args.fields.now c.args.shift k) ps in
    let inner : places c.deref.result.now ≡ f j = ap places c.deref.ensures.value ∙ c.in_ok-items.ensures.places in
    let is = c.index-children-j.is in
    let h = c.loop-j-test.true in (
      ap layouts c.in_ok-push.ensures.items
          ∙ by_step f cs j d h c.loop-j.made.items c.in_ok-one.one c.loop-j.invariant.0 (c.in_ok-one.ensures.ok.0 ∙ ap (child_picked d) inner ∙ ap (λ l. child_picked l (f j)) is),
      fit_step f cs j d h c.loop-j.invariant.1 (subst (λ l. Fits (child_picked l (f j))) is (subst (λ qs. Fits (child_picked d qs)) inner c.in_ok-one.ensures.ok.1)),
    )

pub canonical_sparse_children-returns-in_err-one-clause-overflow : goal.canonical_sparse_children-returns-in_err-one-clause-overflow
canonical_sparse_children-returns-in_err-one-clause-overflow t c = λ e all.
    let cs = c.args.children.now in
    let j = c.loop-j.j in
    let d = c.index-children-j.result in
    let ps = places c.args.runs.now in
    let f : ℕ → List (Option ℕ) = λ k. map (sparse_place c.args.fields.now c.args.shift k) ps in
    let inner : places c.deref.result.now ≡ f j = ap places c.deref.ensures.value ∙ c.in_ok-items.ensures.places in
    let p = err_from_is_err_and c.from_residual-in_err-one.result c.from_residual-in_err-one.ensures.1 in
    c.in_err-one.ensures.overflow (cc (p.1, p.2, e))
    (subst (λ qs. Fits (child_picked d qs)) (sym inner) (subst (λ l. Fits (child_picked l (f j))) (sym c.index-children-j.is) (fit_at f cs j d c.loop-j-test.true all)))

-- ---- dense unions

pub canonical_dense-dense_parts-requires-clause-fields : goal.canonical_dense-dense_parts-requires-clause-fields
canonical_dense-dense_parts-requires-clause-fields t c =
    let T = seen c.args.dtype.now in
    let ts = c.args.types.now in
    let ps = places c.args.runs.now in
    let P : ℕ → Type 0 = λ n. AllByRecursion (λ j. j < n) (positions T (numbers_picked T ts ps)) in
    subst P (sym c.requires.counts) (picked_below T c.requires.union c.requires.carried ts ps c.requires.numbers (places_within (length ts) c.args.runs.now c.requires.within))

pub canonical_dense-returns-in_err-parts-clause-overflow : goal.canonical_dense-returns-in_err-parts-clause-overflow
canonical_dense-returns-in_err-parts-clause-overflow t c = λ e f.
    let T = seen c.args.dtype.now in
    let ts = c.args.types.now in
    let ps = places c.args.runs.now in
    let p = err_from_is_err_and c.from_residual.result c.from_residual.ensures.1 in
    c.in_err-parts.ensures.overflow (cc (p.1, p.2, e)) (subst (λ fs. AllByRecursion (IsBelow (2 ^ 31)) (map pos (counts_after [] fs))) (sym (positions-picked T ts ps)) f.1)

pub canonical_dense-returns-in_err-made-clause-overflow : goal.canonical_dense-returns-in_err-made-clause-overflow
canonical_dense-returns-in_err-made-clause-overflow t c = λ e f.
    let p = err_from_is_err_and c.from_residual-in_err-made.result c.from_residual-in_err-made.ensures.1 in
    c.in_err-made.ensures.overflow (cc (p.1, p.2, e)) f.2

pub canonical_dense-returns-clause-ok : goal.canonical_dense-returns-clause-ok
canonical_dense-returns-clause-ok t c =
    let T = seen c.args.dtype.now in
    let ts = c.args.types.now in
    let ps = places c.args.runs.now in
    let parts = c.in_ok-parts.parts in
    let made = c.in_ok-made.ensures.ok in
    let ls = layouts c.in_ok-made.made.items in
    let fields = positions-picked T ts ps in
    record {
      same = c.in_ok-dense_node.ensures.same
          ∙ ap (λ zs. dense_unions T 0 zs parts.offsets ls) c.in_ok-parts.ensures.types
          ∙ ap (λ zs. dense_unions T 0 (numbers_picked T ts ps) zs ls) (c.in_ok-parts.ensures.offsets.0 ∙ ap (λ fs. map pos (counts_after [] fs)) fields)
          ∙ ap (dense_unions T 0 (numbers_picked T ts ps) (map pos (counts_after [] (fields_picked T (positions T ts) ps)))) made.0;
      kind = c.in_ok-dense_node.ensures.kind;
      fits = (
        omega (arith, numbers_count T ts ps, c.requires.room),
        subst (λ fs. AllByRecursion (IsBelow (2 ^ 31)) (map pos (counts_after [] fs))) fields c.in_ok-parts.ensures.offsets.1,
        made.1,
      );
    }

-- ---- dictionaries

pub canonical_dictionary-canonical-requires : goal.canonical_dictionary-canonical-requires
canonical_dictionary-canonical-requires t c =
    let l = c.args.child.now in (
      search (rules, arith),
      (
        subst (λ v. HasTypeOf v l) (sym c.value_type.ensures) c.requires.value,
        subst (AreWithin (length_of l)) (sym c.deref.ensures.value) c.in_ok-parts.ensures.inside,
      ),
    )

pub canonical_dictionary-dictionary_node-requires : goal.canonical_dictionary-dictionary_node-requires
canonical_dictionary-dictionary_node-requires t c =
    let kl = key_layout c.args.keys.now in
    let s = picked_values kl c.args.child.now (places c.args.runs.now) in
    let parts = c.in_ok-parts.parts in
    record {
      small = keys_small (key_type_of c.args.keys.now) s parts.keys.items c.requires.small c.in_ok-parts.ensures.keys;
      mask = keys_mask s parts.keys.items parts.validity c.in_ok-parts.ensures.keys c.in_ok-parts.ensures.mask;
    }

pub canonical_dictionary-returns-in_err-values-clause-overflow : goal.canonical_dictionary-returns-in_err-values-clause-overflow
canonical_dictionary-returns-in_err-values-clause-overflow t c = λ e f.
    let p = err_from_is_err_and c.from_residual-in_err-values.result c.from_residual-in_err-values.ensures.1 in
    let l = c.args.child.now in
    let T = seen c.args.dtype.now in
    let s = picked_values (key_layout c.args.keys.now) l (places c.args.runs.now) in
    let rs = c.in_ok-parts.parts.firsts.items in
    let v = value_by (form_of T) in
    let same = ap (λ qs. canon_of_runs (seen c.value_type.result.now) l qs) c.deref.ensures.value ∙ ap (λ u. canon u (picked u l (places rs))) c.value_type.ensures ∙ ap (canon v) (c.in_ok-parts.ensures.firsts (fill v)) in
    c.in_err-values.ensures.overflow (cc (p.1, p.2, e)) (subst Fits (sym same) f.1)

pub canonical_dictionary-returns-clause-ok : goal.canonical_dictionary-returns-clause-ok
canonical_dictionary-returns-clause-ok t c =
    let l = c.args.child.now in
    let kl = key_layout c.args.keys.now in
    let k = key_type_of c.args.keys.now in
    let T = seen c.args.dtype.now in
    let s = picked_values kl l (places c.args.runs.now) in
    let parts = c.in_ok-parts.parts in
    let values = c.in_ok-values.values in
    let v = value_by (form_of T) in
    let rs = parts.firsts.items in
    let same = ap (λ qs. canon_of_runs (seen c.value_type.result.now) l qs) c.deref.ensures.value ∙ ap (λ u. canon u (picked u l (places rs))) c.value_type.ensures ∙ ap (canon v) (c.in_ok-parts.ensures.firsts (fill v)) in
    record {
      same = c.in_ok-dictionary_node.ensures.same
          ∙ ap (λ m. dictionaries T (integer_type k) m (map pos parts.keys.items) values) c.in_ok-parts.ensures.mask
          ∙ ap (λ ks. dictionaries T (integer_type k) (mask_of s) ks values) c.in_ok-parts.ensures.keys
          ∙ ap (dictionaries T (integer_type k) (mask_of s) (map (key_in (distinct s)) s)) (c.in_ok-values.ensures.ok.0 ∙ same);
      kind = c.in_ok-dictionary_node.ensures.kind;
      fits = (omega (arith, length-map s (key_in (distinct s)), slots_count kl l c.args.runs.now, c.requires.room), subst Fits same c.in_ok-values.ensures.ok.1);
    }

-- ---- each kind

pub canonical_node-returns-in_ok-null_node-in-Null-clause-ok : goal.canonical_node-returns-in_ok-null_node-in-Null-clause-ok
canonical_node-returns-in_ok-null_node-in-Null-clause-ok t c =
    let T = seen c.args.dtype.now in
    let v = c.in-Null in
    let e = sym (ap layout_of v.is) ∙ c.node-node.ensures.same in
    let arm = nulls_arm T (seen v.dtype) c.args.array.now c.args.runs.now c.node-node.ensures.sound c.requires.of_type c.requires.within v.length e in
    let few : Fits (nulls T (length (places c.args.runs.now))) = omega (arith, c.requires.counted, c.ranges.length.fits) in
    (c.in_ok-null_node-in-Null.ensures.same ∙ (ap (nulls T) c.requires.counted ∙ sym arm), subst Fits (sym arm) few)

pub canonical_node-returns-in_ok-null_node-in-Null-clause-sound : goal.canonical_node-returns-in_ok-null_node-in-Null-clause-sound
canonical_node-returns-in_ok-null_node-in-Null-clause-sound t c =
    let T = seen c.args.dtype.now in
    let l = c.args.array.now in
    let v = c.in-Null in
    let e = sym (ap layout_of v.is) ∙ c.node-node.ensures.same in
    let stored : IsStoredAs physical.Null l = subst (λ x. IsStoredAs (node_physical x) l) v.is c.node-node.ensures.kind in
    let arm = nulls_arm T (seen v.dtype) l c.args.runs.now c.node-node.ensures.sound c.requires.of_type c.requires.within v.length e in
    let made = c.in_ok-null_node-in-Null in
    one_sound T l c.args.runs.now physical.Null (nulls T (length (places c.args.runs.now))) arm stored c.requires.of_type made.field-0 (made.ensures.same ∙ ap (nulls T) c.requires.counted) made.ensures.kind

pub canonical_node-canonical_list-requires : goal.canonical_node-canonical_list-requires
canonical_node-canonical_list-requires t c =
    let v = c.in-List in
    let arm = list_node_arm (seen c.args.dtype.now) (seen v.dtype) c.args.array.now c.args.runs.now c.node-node.ensures.sound c.requires.of_type c.requires.within c.node-node.result.now v.validity (map (λ o. o) v.offsets) v.child (ap layout_of v.is) c.node-node.ensures.same c.node-node.ensures.kind in
    let smaller = ap node_count (sym (ap layout_of v.is) ∙ c.node-node.ensures.same) in (
      search (rules, arith, smaller),
      (subst (λ x. IsListKind (node_physical x)) (sym v.is) tt, (arm.0, (arm.1, (arm.2, (arm.3, omega (arith, c.requires.counted, c.ranges.length.fits)))))),
    )

pub canonical_node-returns-in-List : goal.canonical_node-returns-in-List
canonical_node-returns-in-List t c =
    let v = c.in-List in
    let T = seen c.args.dtype.now in
    let l = c.args.array.now in
    let rs = c.args.runs.now in
    let k = node_physical c.node-node.result.now in
    let arm = list_node_arm (seen c.args.dtype.now) (seen v.dtype) c.args.array.now c.args.runs.now c.node-node.ensures.sound c.requires.of_type c.requires.within c.node-node.result.now v.validity (map (λ o. o) v.offsets) v.child (ap layout_of v.is) c.node-node.ensures.same c.node-node.ensures.kind in
    let r = c.canonical_list in
    record {
      sound = made_sound T l rs k _ arm.4 c.node-node.ensures.kind c.requires.of_type r.result r.ensures.ok;
      ok = made_ok T l rs k _ arm.4 c.node-node.ensures.kind c.requires.of_type r.result r.ensures.ok;
      overflow = subst (λ p. IsErrOf r.result grow.Overflow → Fits p → ⊥) (sym arm.4) r.ensures.overflow;
    }

pub canonical_node-canonical_list-requires-in-LargeList : goal.canonical_node-canonical_list-requires-in-LargeList
canonical_node-canonical_list-requires-in-LargeList t c =
    let v = c.in-LargeList in
    let arm = list_node_arm (seen c.args.dtype.now) (seen v.dtype) c.args.array.now c.args.runs.now c.node-node.ensures.sound c.requires.of_type c.requires.within c.node-node.result.now v.validity (map (λ o. o) v.offsets) v.child (ap layout_of v.is) c.node-node.ensures.same c.node-node.ensures.kind in
    let smaller = ap node_count (sym (ap layout_of v.is) ∙ c.node-node.ensures.same) in (
      search (rules, arith, smaller),
      (subst (λ x. IsListKind (node_physical x)) (sym v.is) tt, (arm.0, (arm.1, (arm.2, (arm.3, omega (arith, c.requires.counted, c.ranges.length.fits)))))),
    )

pub canonical_node-returns-in-LargeList : goal.canonical_node-returns-in-LargeList
canonical_node-returns-in-LargeList t c =
    let v = c.in-LargeList in
    let T = seen c.args.dtype.now in
    let l = c.args.array.now in
    let rs = c.args.runs.now in
    let k = node_physical c.node-node.result.now in
    let arm = list_node_arm (seen c.args.dtype.now) (seen v.dtype) c.args.array.now c.args.runs.now c.node-node.ensures.sound c.requires.of_type c.requires.within c.node-node.result.now v.validity (map (λ o. o) v.offsets) v.child (ap layout_of v.is) c.node-node.ensures.same c.node-node.ensures.kind in
    let r = c.canonical_list-in-LargeList in
    record {
      sound = made_sound T l rs k _ arm.4 c.node-node.ensures.kind c.requires.of_type r.result r.ensures.ok;
      ok = made_ok T l rs k _ arm.4 c.node-node.ensures.kind c.requires.of_type r.result r.ensures.ok;
      overflow = subst (λ p. IsErrOf r.result grow.Overflow → Fits p → ⊥) (sym arm.4) r.ensures.overflow;
    }

pub canonical_node-canonical_list-requires-in-Map : goal.canonical_node-canonical_list-requires-in-Map
canonical_node-canonical_list-requires-in-Map t c =
    let v = c.in-Map in
    let arm = list_node_arm (seen c.args.dtype.now) (seen v.dtype) c.args.array.now c.args.runs.now c.node-node.ensures.sound c.requires.of_type c.requires.within c.node-node.result.now v.validity (map (λ o. o) v.offsets) v.child (ap layout_of v.is) c.node-node.ensures.same c.node-node.ensures.kind in
    let smaller = ap node_count (sym (ap layout_of v.is) ∙ c.node-node.ensures.same) in (
      search (rules, arith, smaller),
      (subst (λ x. IsListKind (node_physical x)) (sym v.is) tt, (arm.0, (arm.1, (arm.2, (arm.3, omega (arith, c.requires.counted, c.ranges.length.fits)))))),
    )

pub canonical_node-returns-in-Map : goal.canonical_node-returns-in-Map
canonical_node-returns-in-Map t c =
    let v = c.in-Map in
    let T = seen c.args.dtype.now in
    let l = c.args.array.now in
    let rs = c.args.runs.now in
    let k = node_physical c.node-node.result.now in
    let arm = list_node_arm (seen c.args.dtype.now) (seen v.dtype) c.args.array.now c.args.runs.now c.node-node.ensures.sound c.requires.of_type c.requires.within c.node-node.result.now v.validity (map (λ o. o) v.offsets) v.child (ap layout_of v.is) c.node-node.ensures.same c.node-node.ensures.kind in
    let r = c.canonical_list-in-Map in
    record {
      sound = made_sound T l rs k _ arm.4 c.node-node.ensures.kind c.requires.of_type r.result r.ensures.ok;
      ok = made_ok T l rs k _ arm.4 c.node-node.ensures.kind c.requires.of_type r.result r.ensures.ok;
      overflow = subst (λ p. IsErrOf r.result grow.Overflow → Fits p → ⊥) (sym arm.4) r.ensures.overflow;
    }

pub canonical_node-canonical_fixed_size_list-requires : goal.canonical_node-canonical_fixed_size_list-requires
canonical_node-canonical_fixed_size_list-requires t c =
    let v = c.in-FixedSizeList in
    let e = sym (ap layout_of v.is) ∙ c.node-node.ensures.same in
    let stored : IsStoredAs physical.FixedSizeList c.args.array.now = subst (λ x. IsStoredAs (node_physical x) c.args.array.now) v.is c.node-node.ensures.kind in
    let arm = chunks_arm (seen c.args.dtype.now) (seen v.dtype) c.args.array.now c.args.runs.now c.node-node.ensures.sound c.requires.of_type c.requires.within v.validity v.size v.slots v.child e in
    let smaller = ap node_count e in
    (search (rules, arith, smaller), (arm.0, (arm.1, (arm.2, c.requires.counted))))

pub canonical_node-returns-in-FixedSizeList : goal.canonical_node-returns-in-FixedSizeList
canonical_node-returns-in-FixedSizeList t c =
    let v = c.in-FixedSizeList in
    let T = seen c.args.dtype.now in
    let l = c.args.array.now in
    let rs = c.args.runs.now in
    let e = sym (ap layout_of v.is) ∙ c.node-node.ensures.same in
    let stored : IsStoredAs physical.FixedSizeList l = subst (λ x. IsStoredAs (node_physical x) l) v.is c.node-node.ensures.kind in
    let arm = chunks_arm (seen c.args.dtype.now) (seen v.dtype) c.args.array.now c.args.runs.now c.node-node.ensures.sound c.requires.of_type c.requires.within v.validity v.size v.slots v.child e in
    let r = c.canonical_fixed_size_list in
    record {
      sound = made_sound T l rs physical.FixedSizeList _ arm.3 stored c.requires.of_type r.result r.ensures.ok;
      ok = made_ok T l rs physical.FixedSizeList _ arm.3 stored c.requires.of_type r.result r.ensures.ok;
      overflow = subst (λ p. IsErrOf r.result grow.Overflow → Fits p → ⊥) (sym arm.3) r.ensures.overflow;
    }

pub canonical_node-canonical_struct-requires : goal.canonical_node-canonical_struct-requires
canonical_node-canonical_struct-requires t c =
    let v = c.in-Struct in
    let e = sym (ap layout_of v.is) ∙ c.node-node.ensures.same in
    let stored : IsStoredAs physical.Struct c.args.array.now = subst (λ x. IsStoredAs (node_physical x) c.args.array.now) v.is c.node-node.ensures.kind in
    let arm = structs_arm (seen c.args.dtype.now) (seen v.dtype) c.args.array.now c.args.runs.now c.node-node.ensures.sound c.requires.of_type c.requires.within v.validity v.slots (layouts v.children.items) e in
    let own = c.deref.ensures.value in
    let smaller = ap node_count e in
    let same = ap (λ cs. node_counts (layouts cs)) own in
    (search (rules, arith, smaller, same), (arm.0, (arm.1, (subst (λ cs. HaveLengths (λ n. n ≡ v.slots) (layouts cs)) (sym own) arm.2, c.requires.counted))))

pub canonical_node-returns-in-Struct : goal.canonical_node-returns-in-Struct
canonical_node-returns-in-Struct t c =
    let v = c.in-Struct in
    let T = seen c.args.dtype.now in
    let l = c.args.array.now in
    let rs = c.args.runs.now in
    let e = sym (ap layout_of v.is) ∙ c.node-node.ensures.same in
    let stored : IsStoredAs physical.Struct l = subst (λ x. IsStoredAs (node_physical x) l) v.is c.node-node.ensures.kind in
    let arm = structs_arm (seen c.args.dtype.now) (seen v.dtype) c.args.array.now c.args.runs.now c.node-node.ensures.sound c.requires.of_type c.requires.within v.validity v.slots (layouts v.children.items) e in
    let r = c.canonical_struct in
    let eq = arm.3 ∙ ap (λ cs. structs_picked T v.validity (layouts cs) (places rs)) (sym c.deref.ensures.value) in
    record {
      sound = made_sound T l rs physical.Struct _ eq stored c.requires.of_type r.result r.ensures.ok;
      ok = made_ok T l rs physical.Struct _ eq stored c.requires.of_type r.result r.ensures.ok;
      overflow = subst (λ p. IsErrOf r.result grow.Overflow → Fits p → ⊥) (sym eq) r.ensures.overflow;
    }

pub canonical_node-canonical_dense-requires : goal.canonical_node-canonical_dense-requires
canonical_node-canonical_dense-requires t c =
    let v = c.in-Union in
    let T = seen c.args.dtype.now in
    let l = c.args.array.now in
    let ls = layouts v.children.items in
    let at = ap (λ os. union_layout v.dtype v.types os ls v.shift) c.in-Some.is in
    let e = sym at ∙ (sym (ap layout_of v.is) ∙ c.node-node.ensures.same) in
    let stored : IsStoredAs physical.Union l = subst (λ x. IsStoredAs (node_physical x) l) v.is c.node-node.ensures.kind in
    let arm = dense_arm (seen c.args.dtype.now) (seen v.dtype) c.args.array.now c.args.runs.now c.node-node.ensures.sound c.requires.of_type c.requires.within v.shift v.types c.in-Some.offsets ls e stored in
    let own = c.deref-in-Some.ensures.value in
    let smaller = ap node_count e in
    let same = ap (λ cs. node_counts (layouts cs)) own in (
      search (rules, arith, smaller, same),
      (
        arm.0,
        (arm.1, (arm.2, (ap length own ∙ (sym (children_counted v.children.items) ∙ arm.3), (arm.4, (subst (λ cs. AllNamed (lengths_of (layouts cs)) (positions T v.types) (map nat_of c.in-Some.offsets)) (sym own) arm.5, (arm.6, omega (arith, c.requires.counted, c.ranges.length.fits))))))),
      ),
    )

pub canonical_node-returns-in-Some : goal.canonical_node-returns-in-Some
canonical_node-returns-in-Some t c =
    let v = c.in-Union in
    let T = seen c.args.dtype.now in
    let l = c.args.array.now in
    let rs = c.args.runs.now in
    let ls = layouts v.children.items in
    let at = ap (λ os. union_layout v.dtype v.types os ls v.shift) c.in-Some.is in
    let e = sym at ∙ (sym (ap layout_of v.is) ∙ c.node-node.ensures.same) in
    let stored : IsStoredAs physical.Union l = subst (λ x. IsStoredAs (node_physical x) l) v.is c.node-node.ensures.kind in
    let arm = dense_arm (seen c.args.dtype.now) (seen v.dtype) c.args.array.now c.args.runs.now c.node-node.ensures.sound c.requires.of_type c.requires.within v.shift v.types c.in-Some.offsets ls e stored in
    let r = c.canonical_dense in
    let eq = arm.7 ∙ ap (λ cs. dense_picked T v.types (map nat_of c.in-Some.offsets) (layouts cs) (places rs)) (sym c.deref-in-Some.ensures.value) in
    record {
      sound = made_sound T l rs physical.Union _ eq stored c.requires.of_type r.result r.ensures.ok;
      ok = made_ok T l rs physical.Union _ eq stored c.requires.of_type r.result r.ensures.ok;
      overflow = subst (λ p. IsErrOf r.result grow.Overflow → Fits p → ⊥) (sym eq) r.ensures.overflow;
    }

pub canonical_node-canonical_sparse-requires : goal.canonical_node-canonical_sparse-requires
canonical_node-canonical_sparse-requires t c =
    let v = c.in-Union in
    let T = seen c.args.dtype.now in
    let l = c.args.array.now in
    let ls = layouts v.children.items in
    let at = ap (λ os. union_layout v.dtype v.types os ls v.shift) c.in-None.is in
    let e = sym at ∙ (sym (ap layout_of v.is) ∙ c.node-node.ensures.same) in
    let stored : IsStoredAs physical.Union l = subst (λ x. IsStoredAs (node_physical x) l) v.is c.node-node.ensures.kind in
    let arm = sparse_arm (seen c.args.dtype.now) (seen v.dtype) c.args.array.now c.args.runs.now c.node-node.ensures.sound c.requires.of_type c.requires.within v.shift v.types ls e stored in
    let own = c.deref-in-None.ensures.value in
    let smaller = ap node_count e in
    let same = ap (λ cs. node_counts (layouts cs)) own in (
      search (rules, arith, smaller, same),
      (
        arm.0,
        (arm.1, (arm.2, (arm.3, (arm.4, (subst (λ cs. HaveLengths (λ n. v.shift + length v.types ≤ n) (layouts cs)) (sym own) arm.5, omega (arith, c.requires.counted, c.ranges.length.fits)))))),
      ),
    )

pub canonical_node-returns-in-None : goal.canonical_node-returns-in-None
canonical_node-returns-in-None t c =
    let v = c.in-Union in
    let T = seen c.args.dtype.now in
    let l = c.args.array.now in
    let rs = c.args.runs.now in
    let ls = layouts v.children.items in
    let at = ap (λ os. union_layout v.dtype v.types os ls v.shift) c.in-None.is in
    let e = sym at ∙ (sym (ap layout_of v.is) ∙ c.node-node.ensures.same) in
    let stored : IsStoredAs physical.Union l = subst (λ x. IsStoredAs (node_physical x) l) v.is c.node-node.ensures.kind in
    let arm = sparse_arm (seen c.args.dtype.now) (seen v.dtype) c.args.array.now c.args.runs.now c.node-node.ensures.sound c.requires.of_type c.requires.within v.shift v.types ls e stored in
    let r = c.canonical_sparse in
    let eq = arm.6 ∙ ap (λ cs. sparse_picked T v.shift v.types (layouts cs) (places rs)) (sym c.deref-in-None.ensures.value) in
    record {
      sound = made_sound T l rs physical.Union _ eq stored c.requires.of_type r.result r.ensures.ok;
      ok = made_ok T l rs physical.Union _ eq stored c.requires.of_type r.result r.ensures.ok;
      overflow = subst (λ p. IsErrOf r.result grow.Overflow → Fits p → ⊥) (sym eq) r.ensures.overflow;
    }

pub canonical_node-canonical_dictionary-requires : goal.canonical_node-canonical_dictionary-requires
canonical_node-canonical_dictionary-requires t c =
    let v = c.in-Dictionary in
    let e = sym (ap layout_of v.is) ∙ c.node-node.ensures.same in
    let stored : IsStoredAs (physical.Dictionary (key_type_of v.keys)) c.args.array.now = subst (λ x. IsStoredAs (node_physical x) c.args.array.now) v.is c.node-node.ensures.kind in
    let arm = dictionary_arm (seen c.args.dtype.now) c.args.array.now c.args.runs.now c.node-node.ensures.sound c.requires.of_type c.requires.within v.dtype v.keys v.child e stored in
    let smaller = ap node_count e in
    (search (rules, arith, smaller), (arm.0, (arm.1, (arm.2, (arm.3, (arm.4, omega (arith, c.requires.counted, c.ranges.length.fits)))))))

pub canonical_node-returns-in-Dictionary : goal.canonical_node-returns-in-Dictionary
canonical_node-returns-in-Dictionary t c =
    let v = c.in-Dictionary in
    let T = seen c.args.dtype.now in
    let l = c.args.array.now in
    let rs = c.args.runs.now in
    let e = sym (ap layout_of v.is) ∙ c.node-node.ensures.same in
    let stored : IsStoredAs (physical.Dictionary (key_type_of v.keys)) l = subst (λ x. IsStoredAs (node_physical x) l) v.is c.node-node.ensures.kind in
    let arm = dictionary_arm (seen c.args.dtype.now) c.args.array.now c.args.runs.now c.node-node.ensures.sound c.requires.of_type c.requires.within v.dtype v.keys v.child e stored in
    let r = c.canonical_dictionary in
    record {
      sound = made_sound T l rs (physical.Dictionary (key_type_of v.keys)) _ arm.5 stored c.requires.of_type r.result r.ensures.ok;
      ok = made_ok T l rs (physical.Dictionary (key_type_of v.keys)) _ arm.5 stored c.requires.of_type r.result r.ensures.ok;
      overflow = subst (λ p. IsErrOf r.result grow.Overflow → Fits p → ⊥) (sym arm.5) r.ensures.overflow;
    }

pub canonical_node-canonical_values-requires : goal.canonical_node-canonical_values-requires
canonical_node-canonical_values-requires t c =
    let d = c.in_default in
    let e = sym c.node-node.ensures.same in
    let T = seen c.args.dtype.now in
    record {
      of_values = of_values c.node-node.result.now d.not-List d.not-LargeList d.not-Map d.not-Null d.not-FixedSizeList d.not-Struct d.not-Union d.not-Dictionary;
      of_type = same_form T (type_of c.args.array.now) c.requires.of_type ∙ ap (λ l. form_of (type_of l)) e;
      within = subst (λ l. AreWithin (length_of l) c.args.runs.now) e c.requires.within;
    }

pub canonical_node-returns-in_default : goal.canonical_node-returns-in_default
canonical_node-returns-in_default t c =
    let T = seen c.args.dtype.now in
    let rs = c.args.runs.now in
    let e = c.node-node.ensures.same in
    let r = c.canonical_values in
    record {
      sound = ok_becomes (λ n. IsOfValues (layout_of n)) (λ n. WellFormed (layout_of n) → IsSoundNode n) (λ n v w. values_sound n v) r.result r.ensures.of_values;
      ok = subst (λ l. IfOk r.result (λ n. (layout_of n ≡ canon_of_runs T l rs) × Fits (canon_of_runs T l rs))) e r.ensures.ok;
      overflow = subst (λ l. IsErrOf r.result grow.Overflow → Fits (canon_of_runs T l rs) → ⊥) e r.ensures.overflow;
    }

-- ---- the children of a dense union

pub canonical_dense_children-dense_runs-requires-clause-first : goal.canonical_dense_children-dense_runs-requires-clause-first
canonical_dense_children-dense_runs-requires-clause-first t c =
    omega (arith, c.filling_field-first.ensures, fill_below (seen c.args.dtype.now) c.requires.union c.requires.carried, c.requires.counts)

pub canonical_dense_children-dense_runs-requires-clause-fields : goal.canonical_dense_children-dense_runs-requires-clause-fields
canonical_dense_children-dense_runs-requires-clause-fields t c =
    let T = seen c.args.dtype.now in
    let ts = c.args.types.now in
    let fields = c.deref.ensures.value ∙ c.in_ok-fields.ensures in
    subst (AllByRecursion (λ j. j < length c.args.children.now)) (sym fields)
    (subst (λ n. AllByRecursion (λ j. j < n) (positions T ts)) (sym c.requires.counts) (fields_below T c.requires.union c.requires.carried ts c.requires.numbers))

pub canonical_dense_children-dense_runs-requires-clause-offsets : goal.canonical_dense_children-dense_runs-requires-clause-offsets
canonical_dense_children-dense_runs-requires-clause-offsets t c =
    let T = seen c.args.dtype.now in
    let ts = c.args.types.now in
    let os = c.args.offsets.now in
    let fields = c.deref.ensures.value ∙ c.in_ok-fields.ensures in
    let many = offsets_many T ts os (lengths_of (layouts c.args.children.now)) c.requires.named in
    omega (arith, length-map os nat_of, many, length-map ts nat_of, length-positions T ts, ap length fields)

pub canonical_dense_children-dense_runs-requires-clause-within : goal.canonical_dense_children-dense_runs-requires-clause-within
canonical_dense_children-dense_runs-requires-clause-within t c =
    let T = seen c.args.dtype.now in
    let ts = c.args.types.now in
    let fields = c.deref.ensures.value ∙ c.in_ok-fields.ensures in
    subst (λ n. AreWithin n c.args.runs.now) (sym (ap length fields ∙ length-positions T ts)) c.requires.within

pub canonical_dense_children-canonical_child-requires : goal.canonical_dense_children-canonical_child-requires
canonical_dense_children-canonical_child-requires t c =
    let T = seen c.args.dtype.now in
    let ts = c.args.types.now in
    let os = map nat_of c.args.offsets.now in
    let cs = c.args.children.now in
    let ps = places c.args.runs.now in
    let j = c.loop-j.j in
    let d = c.index-children-j.result in
    let h = c.loop-j-test.true in
    let fields = c.deref.ensures.value ∙ c.in_ok-fields.ensures in
    let xs = c.in_ok-dealt.dealt.items in
    let x = c.index-items-j.result in
    let g : ℕ → List (Option ℕ) = λ k. flat_map (dense_places c.deref.result.now os c.filling_field-first.result k) ps in
    let f : ℕ → List (Option ℕ) = λ k. flat_map (dense_places (positions T ts) os (fill_field T) k) ps in
    let found : x ≡ get_or xs j x = c.index-items-j.is ∙ ap (λ ys. get_or ys j x) c.as_slice-items.ensures.value in
    let small : node_count d ≤ node_counts (layouts cs) = subst (λ l. node_count l ≤ node_counts (layouts cs)) (sym c.index-children-j.is) (nodes_at cs j d h) in
    let named : AllNamed (lengths_of (layouts cs)) c.deref.result.now os = subst (λ fs. AllNamed (lengths_of (layouts cs)) fs os) (sym fields) c.requires.named in
    let within = dealt_within g xs (length cs) c.in_ok-dealt.ensures.places j x h found (get_or (lengths_of (layouts cs)) j 0) (c.in_ok-dealt.ensures.inside (lengths_of (layouts cs)) named j) in
    let long : length_of d ≡ get_or (lengths_of (layouts cs)) j 0 = length_found cs j d h c.index-children-j.is in
    (search (rules, arith, small), subst (AreWithin (length_of d)) (sym c.deref-in-loop-j.ensures.value) (subst (λ n. AreWithin n x.items) (sym long) within))

pub canonical_dense_children-returns-in_err-one-clause-overflow : goal.canonical_dense_children-returns-in_err-one-clause-overflow
canonical_dense_children-returns-in_err-one-clause-overflow t c = λ e all.
    let T = seen c.args.dtype.now in
    let ts = c.args.types.now in
    let os = map nat_of c.args.offsets.now in
    let cs = c.args.children.now in
    let ps = places c.args.runs.now in
    let j = c.loop-j.j in
    let d = c.index-children-j.result in
    let h = c.loop-j-test.true in
    let fields = c.deref.ensures.value ∙ c.in_ok-fields.ensures in
    let xs = c.in_ok-dealt.dealt.items in
    let x = c.index-items-j.result in
    let g : ℕ → List (Option ℕ) = λ k. flat_map (dense_places c.deref.result.now os c.filling_field-first.result k) ps in
    let f : ℕ → List (Option ℕ) = λ k. flat_map (dense_places (positions T ts) os (fill_field T) k) ps in
    let found : x ≡ get_or xs j x = c.index-items-j.is ∙ ap (λ ys. get_or ys j x) c.as_slice-items.ensures.value in
    let inner : places c.deref-in-loop-j.result.now ≡ f j =
    ap places c.deref-in-loop-j.ensures.value ∙ dealt_places g xs (length cs) c.in_ok-dealt.ensures.places j x h found
    ∙ ap₂ (λ fs k. flat_map (dense_places fs os k j) ps) fields c.filling_field-first.ensures in
    let p = err_from_is_err_and c.from_residual-in_err-one.result c.from_residual-in_err-one.ensures.1 in
    c.in_err-one.ensures.overflow (cc (p.1, p.2, e))
    (subst (λ qs. Fits (child_picked d qs)) (sym inner) (subst (λ l. Fits (child_picked l (f j))) (sym c.index-children-j.is) (fit_at f cs j d h all)))

pub canonical_dense_children-loop-j-preserved : goal.canonical_dense_children-loop-j-preserved
canonical_dense_children-loop-j-preserved t c =
    let T = seen c.args.dtype.now in
    let ts = c.args.types.now in
    let os = map nat_of c.args.offsets.now in
    let cs = c.args.children.now in
    let ps = places c.args.runs.now in
    let j = c.loop-j.j in
    let d = c.index-children-j.result in
    let h = c.loop-j-test.true in
    let fields = c.deref.ensures.value ∙ c.in_ok-fields.ensures in
    let xs = c.in_ok-dealt.dealt.items in
    let x = c.index-items-j.result in
    let g : ℕ → List (Option ℕ) = λ k. flat_map (dense_places c.deref.result.now os c.filling_field-first.result k) ps in
    let f : ℕ → List (Option ℕ) = λ k. flat_map (dense_places (positions T ts) os (fill_field T) k) ps in
    let found : x ≡ get_or xs j x = c.index-items-j.is ∙ ap (λ ys. get_or ys j x) c.as_slice-items.ensures.value in
    let inner : places c.deref-in-loop-j.result.now ≡ f j =
    ap places c.deref-in-loop-j.ensures.value ∙ dealt_places g xs (length cs) c.in_ok-dealt.ensures.places j x h found
    ∙ ap₂ (λ fs k. flat_map (dense_places fs os k j) ps) fields c.filling_field-first.ensures in
    let is = c.index-children-j.is in (
      ap layouts c.in_ok-push.ensures.items
          ∙ by_step f cs j d h c.loop-j.made.items c.in_ok-one.one c.loop-j.invariant.0 (c.in_ok-one.ensures.ok.0 ∙ ap (child_picked d) inner ∙ ap (λ l. child_picked l (f j)) is),
      fit_step f cs j d h c.loop-j.invariant.1 (subst (λ l. Fits (child_picked l (f j))) is (subst (λ qs. Fits (child_picked d qs)) inner c.in_ok-one.ensures.ok.1)),
    )

pub canonical_dense_children-bounds-items-j : goal.canonical_dense_children-bounds-items-j
canonical_dense_children-bounds-items-j t c =
    let os = map nat_of c.args.offsets.now in
    let g : ℕ → List (Option ℕ) = λ k. flat_map (dense_places c.deref.result.now os c.filling_field-first.result k) (places c.args.runs.now) in
    let many = dealt_count g (λ r. places r.items) c.in_ok-dealt.dealt.items (length c.args.children.now) c.in_ok-dealt.ensures.places in
    omega (arith, c.loop-j-test.true, many, ap length c.as_slice-items.ensures.value)

pub canonical_dense_children-offset_bounds-items-j : goal.canonical_dense_children-offset_bounds-items-j
canonical_dense_children-offset_bounds-items-j t c =
    let os = map nat_of c.args.offsets.now in
    let g : ℕ → List (Option ℕ) = λ k. flat_map (dense_places c.deref.result.now os c.filling_field-first.result k) (places c.args.runs.now) in
    let many = dealt_count g (λ r. places r.items) c.in_ok-dealt.dealt.items (length c.args.children.now) c.in_ok-dealt.ensures.places in
    let low : c.loop-j.j < length c.in_ok-dealt.dealt.items = omega (arith, c.loop-j-test.true, many) in
    search (rules, arith, low, c.in_ok-dealt.dealt.small)
