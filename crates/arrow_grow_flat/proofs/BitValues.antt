-- The values of a growable of single bits.
use Rattle.std.proofs.Common.{◌≡◌, ℕ, ◌+◌, ◌<◌, ◌≤◌, ◌^◌, Bool, false, List, ◌++◌, map, length, replicate, Ok, Err, Some, refl, ap, sym, ◌∙◌, subst, arith, length-append}
use Rattle.std.proofs.lemmas.List.{map-append, length-map, length-replicate}
use Rattle.arrow_types.specs.TypeData.{TypeData}
use Rattle.arrow_types.specs.Types.{physical_of}
use Rattle.arrow_types.specs.declared.datatype.PhysicalType.TheVariants as physical
use Rattle.arrow_types.specs.declared.error.GrowError.TheVariants as error
use Rattle.arrow_flat.specs.Booleans.{Booleans}
use Rattle.arrow_flat.specs.Slots.{Slot, null, bool}
use Rattle.arrow_layout.specs.Cut.{part}
use Rattle.arrow_layout.specs.Denote.{denote}
use Rattle.arrow_layout.specs.Forms.{form_of, booleans_of}
use Rattle.arrow_layout.specs.Layouts.{length_of}
use Rattle.arrow_layout.proofs.CutForms.{length-part}
use Rattle.arrow_layout.proofs.Lengths.{length-denote}
use Rattle.arrow_meaning.specs.Nodes.{boolean_layout}
use Rattle.arrow_meaning.proofs.FlatKinds.{flat_form}
use Rattle.arrow_grow_flat.specs.Grown.{layout_at}
use Rattle.arrow_grow_flat.specs.Kinds.{bit_values}
use Rattle.arrow_grow_flat.specs.Values.{AreSound, GrowsValues, StandFor, Values}
use Rattle.arrow_grow_flat.proofs.Counts.{counted_full, counted_more, stand_copied}
use Rattle.arrow_grow_flat.proofs.Numbers.{Any, map-replicate}
use Rattle.arrow_grow_flat.proofs.SourceSlots.{part-map, source_at}
use Rattle.arrow_grow_flat.proofs.Stands.{stand_nulls}

module _ (t : TypeData) (arrays : List Booleans) (vs : List Bool) (stored : physical_of t ≡ Some physical.Boolean) where
  abbrev grown_to : List Bool → Values
  grown_to ws = bit_values t arrays ws

  form : form_of t ≡ booleans_of
  form = flat_form t physical.Boolean stored tt

  more : (ws tail : List Bool) (xs : List Slot) → ws ≡ vs ++ tail → length ws < 2 ^ 64 → StandFor Any (map bool tail) xs
      → GrowsValues Any (grown_to vs) xs (grown_to ws) (Ok tt)
  more ws tail xs h small stand = record {
    same_type = refl;
    same_arrays = refl;
    outcome = λ s st.
        counted_more Any (grown_to vs) booleans_of tt form s xs st (grown_to ws) (map bool tail) (ap (map bool) h ∙ map-append bool vs tail) stand
        (omega (arith, small, length-map ws bool));
  }

  pub run_more : (ws : List Bool) (a : Booleans) (i o n : ℕ) → layout_at (map boolean_layout arrays) i ≡ boolean_layout a → ws ≡ vs ++ part o n a.values.bits
      → length ws < 2 ^ 64 → GrowsValues Any (grown_to vs) (part o n (denote (layout_at (map boolean_layout arrays) i))) (grown_to ws) (Ok tt)
  run_more ws a i o n is h small =
      let l = boolean_layout a in
      let stand = subst (λ ys. StandFor Any ys (part o n (denote l))) (part-map bool o n a.values.bits) (stand_copied Any (λ x. tt) l o n tt) in
      more ws (part o n a.values.bits) (part o n (denote (layout_at (map boolean_layout arrays) i))) h small
      (subst (λ k. StandFor Any (map bool (part o n a.values.bits)) (part o n (denote k))) (sym is) stand)

  pub run_fits : (ws : List Bool) (a : Booleans) (i o n : ℕ) → layout_at (map boolean_layout arrays) i ≡ boolean_layout a → ws ≡ vs ++ part o n a.values.bits
      → o + n ≤ length_of (layout_at (map boolean_layout arrays) i) → length vs + n < 2 ^ 64
      → GrowsValues Any (grown_to vs) (part o n (denote (layout_at (map boolean_layout arrays) i))) (grown_to ws) (Ok tt)
  run_fits ws a i o n is h reached small =
      let r : o + n ≤ length a.values.bits = subst (λ k. o + n ≤ length_of k) is reached in
      let size = length-part o n a.values.bits r in
      run_more ws a i o n is h (omega (arith, small, ap length h, length-append vs (part o n a.values.bits), size))

  pub run_full : (i o n : ℕ) → AreSound (grown_to vs) → i < length (map boolean_layout arrays) → o + n ≤ length_of (layout_at (map boolean_layout arrays) i) → 2 ^ 64 ≤ length vs + n
      → GrowsValues Any (grown_to vs) (part o n (denote (layout_at (map boolean_layout arrays) i))) (grown_to vs) (Err error.Overflow)
  run_full i o n sound named reached h =
      let l = layout_at (map boolean_layout arrays) i in
      let count : length (denote l) ≡ length_of l = length-denote l (source_at (grown_to vs) i sound named).well_formed in
      let size : length (part o n (denote l)) ≡ n = length-part o n (denote l) (omega (arith, count, reached)) in
      record {
        same_type = refl;
        same_arrays = refl;
        outcome = λ s st. counted_full Any (grown_to vs) booleans_of tt form s (part o n (denote l)) st (omega (arith, h, length-map vs bool, size));
      }

  pub nulls_more : (ws : List Bool) (n : ℕ) → ws ≡ vs ++ replicate n false → length ws < 2 ^ 64
      → GrowsValues Any (grown_to vs) (replicate n null) (grown_to ws) (Ok tt)
  nulls_more ws n h small =
      more ws (replicate n false) (replicate n null) h small
      (subst (λ ys. StandFor Any ys (replicate n null)) (sym (map-replicate bool n false)) (stand_nulls Any (bool false) n tt))

  pub nulls_fit : (ws : List Bool) (n : ℕ) → ws ≡ vs ++ replicate n false → length vs + n < 2 ^ 64
      → GrowsValues Any (grown_to vs) (replicate n null) (grown_to ws) (Ok tt)
  nulls_fit ws n h small = nulls_more ws n h (omega (arith, small, ap length h, length-append vs (replicate n false), length-replicate n false))

  pub nulls_full : (n : ℕ) → 2 ^ 64 ≤ length vs + n → GrowsValues Any (grown_to vs) (replicate n null) (grown_to vs) (Err error.Overflow)
  nulls_full n h = record {
    same_type = refl;
    same_arrays = refl;
    outcome = λ s st.
        counted_full Any (grown_to vs) booleans_of tt form s (replicate n null) st (omega (arith, h, length-map vs bool, length-replicate n null));
  }
