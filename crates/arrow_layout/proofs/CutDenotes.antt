-- A part of a layout denotes that part of the slots.
use Rattle.std.proofs.Common.{List, Option, ap, arith, drop, get_or, length, map, pred, refl, suc, sym, take, ℕ, ◌*◌, ◌+◌, ◌∙◌, ◌≡◌, ◌≤◌}
use Rattle.std.proofs.lemmas.List.{length-map}
use Rattle.arrow_types.specs.Select.{select, nat_of}
use Rattle.arrow_buffers.specs.Bits.{Bits}
use Rattle.arrow_flat.specs.Slots.{Slot, bool, bytes, items, no_slots, null, num, slots_of, parts}
use Rattle.arrow_flat.specs.Views.{view_bytes}
use Rattle.arrow_layout.specs.Cut.{cut, cut_each, part}
use Rattle.arrow_flat.specs.Primitives.{cut_mask}
use Rattle.arrow_layout.specs.Denote.{columns, denote, masked, rows}
use Rattle.arrow_flat.specs.Pieces.{chunks, pieces}
use Rattle.arrow_layout.specs.Forms.{form_of, ids_by}
use Rattle.arrow_layout.specs.Layouts.{Layout, Layouts, binaries, booleans, child, dense_unions, dictionaries, fixed_size_binaries, fixed_size_lists, length_of, lengths_of, lists, no_layouts, nulls, primitives, sparse_unions, structs, views}
use Rattle.arrow_layout.specs.WellFormed.{AreWellFormed, MaskFits, WellFormed}
use Rattle.arrow_layout.proofs.Cuts.{drop-sparse, drop-with_column, part-chunks, part-map, part-masked, part-pieces, part-replicate, scaled, shifted, take-sparse, take-with_column}
use Rattle.arrow_layout.proofs.Dense.{drop-dense, take-dense}
use Rattle.arrow_layout.proofs.Lengths.{length-chunks, length-denote, length-pieces, length-rows, offsets_many}

cut_slots : (m : Option Bits) (o n len : ℕ) {A : Type 0} (f : A → Slot) (xs : List A) → length xs ≡ len → MaskFits m len
    → masked (cut_mask o n m) (map f (part o n xs)) ≡ part o n (masked m (map f xs))
cut_slots m o n len f xs e h = rw (← part-map f o n xs) (part-masked m o n len (map f xs) (length-map xs f ∙ e) h)

mutual
  pub denote-cut : (l : Layout) (o n : ℕ) → WellFormed l → o + n ≤ length_of l → denote (cut l o n) ≡ part o n (denote l)
  denote-cut (nulls t len) o n w h = part-replicate o n len null h
  denote-cut (booleans t m vs) o n w h = cut_slots m o n (length vs.bits) bool vs.bits refl w.0.mask
  denote-cut (primitives t m vs) o n w h = cut_slots m o n (length vs) num vs refl w.0.mask
  denote-cut (binaries t m os bs) o n w h =
      rw (← part-map nat_of o (suc n) os, part-pieces o n (map nat_of os) bs)
      (cut_slots m o n (pred (length os)) bytes (pieces (map nat_of os) bs) (length-pieces os bs) w.0.mask)
  denote-cut (fixed_size_binaries t m k len bs) o n w h =
      rw (part-chunks o n k len bs h) (cut_slots m o n len bytes (chunks k len bs) (length-chunks k len bs) w.0.mask)
  denote-cut (views t m vs buffers) o n w h =
      rw (← part-map (view_bytes buffers) o n vs)
      (cut_slots m o n (length vs) bytes (map (view_bytes buffers) vs) (length-map vs (view_bytes buffers)) w.0.mask)
  denote-cut (lists t m os l) o n w h =
      rw (← part-map nat_of o (suc n) os, part-pieces o n (map nat_of os) (denote l))
      (cut_slots m o n (pred (length os)) (λ xs. items (slots_of xs)) (pieces (map nat_of os) (denote l)) (length-pieces os (denote l)) w.0.mask)
  denote-cut (fixed_size_lists t m k len l) o n w h =
      rw (denote-cut l (o * k) (n * k) w.2 (omega (arith, w.1, scaled o n len k h)), part-chunks o n k len (denote l) h)
      (cut_slots m o n len (λ xs. items (slots_of xs)) (chunks k len (denote l)) (length-chunks k len (denote l)) w.0.mask)
  denote-cut (structs t m len ls) o n w h =
      rw (rows-cut ls o n len w.2 h) (cut_slots m o n len parts (rows len ls) (length-rows len ls w.2) w.0.mask)
  denote-cut (sparse_unions t s ts ls) o n w h =
      rw (← part-map nat_of o n ts, shifted s o (columns ls), take-sparse (select (ids_by (form_of t))) n (drop o (map nat_of ts)) (map (drop o) (map (drop s) (columns ls))))
      (ap (take n) (drop-sparse (select (ids_by (form_of t))) o (map nat_of ts) (map (drop s) (columns ls))))
  denote-cut (dense_unions t s ts os ls) o n w h =
      rw (← part-map nat_of o n ts, ← part-map nat_of o n os, take-dense (select (ids_by (form_of t))) n (drop o (map nat_of ts)) (drop o (map nat_of os)) (columns ls))
      (ap (take n) (drop-dense (select (ids_by (form_of t))) o (map nat_of ts) (map nat_of os) (columns ls) (offsets_many t ts os (lengths_of ls) w.4)))
  denote-cut (dictionaries t u m ks l) o n w h = cut_slots m o n (length ks) (λ k. get_or (denote l) (nat_of k) null) ks refl w.0.mask

  rows-cut : (ls : Layouts) (o n len : ℕ) → AreWellFormed (λ i. i ≡ len) ls → o + n ≤ len → rows n (cut_each ls o n) ≡ part o n (rows len ls)
  rows-cut no_layouts o n len w h = part-replicate o n len no_slots h
  rows-cut (child l ls) o n len w h =
      rw (denote-cut l o n w.1 (omega (arith, w.0)), rows-cut ls o n len w.2 h)
      (take-with_column n (drop o (denote l)) (drop o (rows len ls))
      ∙ ap (take n) (drop-with_column o (denote l) (rows len ls) (length-denote l w.1 ∙ (w.0 ∙ sym (length-rows len ls w.2)))))
