-- The canonical layout of a type without children is well formed.
use Rattle.std.proofs.Common.{Bool, List, [], ap, arith, false, flat_map, length, map, pos, refl, replicate, subst, sum, sym, true, ℕ, ◌<◌, ◌^◌, ◌∙◌, ◌∷◌, ◌≡◌, ◌≤◌}
use Rattle.std.proofs.lemmas.List.{length-map}
use Rattle.std.proofs.lemmas.Str.{IsUtf8-nil}
use Rattle.std.specs.List.{AllByRecursion}
use Rattle.std.specs.Prelude.{⊤}
use Rattle.arrow_types.specs.Carried.{IsCarried}
use Rattle.arrow_types.specs.Select.{nat_of}
use Rattle.arrow_types.specs.TypeData.{TypeData}
use Rattle.arrow_types.specs.declared.datatype.IntervalUnit.{IntervalUnit}
use Rattle.arrow_types.specs.declared.datatype.IntervalUnit.TheVariants.{DayTime, MonthDayNano, YearMonth}
use Rattle.arrow_types.specs.declared.datatype.PrimitiveType.{PrimitiveType}
use Rattle.arrow_flat.specs.Numbers.{AreInRange, Range, ranges_of, zeros}
use Rattle.arrow_flat.specs.Packs.{pack, packed_views, view_limit}
use Rattle.arrow_flat.specs.Slots.{Slot, bytes, null, num}
use Rattle.arrow_flat.specs.Views.{longs, view_bytes}
use Rattle.arrow_layout.specs.Canon.{boolean_of, bytes_or, flat_canon, numbers_or, offsets}
use Rattle.arrow_flat.specs.Pieces.{pieces}
use Rattle.arrow_layout.specs.Fits.{Fits}
use Rattle.arrow_layout.specs.Forms.{Form, binaries_of, booleans_of, fixed_size_binaries_of, form_of, interval_primitive, large_by, nulls_of, offset_limit, primitive_by, primitives_of, text_by, views_of}
use Rattle.arrow_flat.specs.Natives.{AreBytes}
use Rattle.arrow_layout.specs.SlotsOf.{IsBinarySlot, IsFixedBinarySlot, IsFlatSlot, IsNumberSlot, IsTextIf, IsViewSlot}
use Rattle.arrow_layout.specs.WellFormed.{WellFormed}
use Rattle.arrow_layout.proofs.CanonColumns.{column_bare, column_canon, fixed_joined, joined_below, limit_low, offsets_are}
use Rattle.arrow_layout.proofs.CanonLengths.{length-offsets}
use Rattle.arrow_layout.proofs.FlatDenotes.{fixed_binary_length, longs_all, views_fit}
use Rattle.arrow_flat.proofs.Lists.{all_flat_map, all_map, all_replicate, all_weaker}
use Rattle.arrow_flat.proofs.PackedReads.{packed_reads}
use Rattle.arrow_flat.proofs.PackedViews.{buffers_bytes, length-views, lengths-views, packed_well, sum-total, total}
use Rattle.arrow_layout.proofs.Pieces.{pieces_joined}
use Rattle.arrow_types.specs.TypeData as T

pub zeros_in_range : (rs : List Range) → AllByRecursion (λ r. 0 < r.others) rs → AreInRange rs (map (λ r. pos 0) rs)
zeros_in_range [] h = tt
zeros_in_range (r ∷ rs) h = (h.0, zeros_in_range rs h.1)

-- the number types that columns have
abbrev pub IsHere : PrimitiveType → Type 0
IsHere p = AllByRecursion (λ r. 0 < r.others) (ranges_of p)

abbrev pub IsHereBy : Form → Type 0
IsHereBy (primitives_of p) = IsHere p
IsHereBy _ = ⊤

interval_here : (i : IntervalUnit) → IsHere (interval_primitive i)
interval_here YearMonth = (omega arith, tt)
interval_here DayTime = (omega arith, (omega arith, tt))
interval_here MonthDayNano = (omega arith, (omega arith, (omega arith, tt)))

number_fits : (p : PrimitiveType) → IsHere p → (x : Slot) → IsNumberSlot p x → AreInRange (ranges_of p) (numbers_or (zeros p) x)
number_fits p z null h = zeros_in_range (ranges_of p) z
number_fits p z (num zs) h = h
number_fits p z _ h = absurd h

binary_bytes_fit : (text : Bool) (x : Slot) → IsBinarySlot text x → AreBytes (bytes_or [] x)
binary_bytes_fit text null h = tt
binary_bytes_fit text (bytes bs) h = h.0
binary_bytes_fit text _ h = absurd h

pub empty_text : (text : Bool) → IsTextIf text []
empty_text true = IsUtf8-nil
empty_text false = tt

binary_text : (text : Bool) (x : Slot) → IsBinarySlot text x → IsTextIf text (bytes_or [] x)
binary_text text null h = empty_text text
binary_text text (bytes bs) h = h.1
binary_text text _ h = absurd h

fixed_bytes_fit : (k : ℕ) (x : Slot) → IsFixedBinarySlot k x → AreBytes (bytes_or (replicate k 0) x)
fixed_bytes_fit k null h = all_replicate (λ b. b < 256) k 0 (omega arith)
fixed_bytes_fit k (bytes bs) h = h.0
fixed_bytes_fit k _ h = absurd h

view_bytes_fit : (text : Bool) (x : Slot) → IsViewSlot text x → AreBytes (bytes_or [] x)
view_bytes_fit text null h = tt
view_bytes_fit text (bytes bs) h = h.0
view_bytes_fit text _ h = absurd h

view_text : (text : Bool) (x : Slot) → IsViewSlot text x → IsTextIf text (bytes_or [] x)
view_text text null h = empty_text text
view_text text (bytes bs) h = h.1
view_text text _ h = absurd h

binaries_form : (t : TypeData) (large text : Bool) (s : List Slot) → form_of t ≡ binaries_of large text → IsCarried t → AllByRecursion (IsBinarySlot text) s
    → Fits (flat_canon t (binaries_of large text) s) → WellFormed (flat_canon t (binaries_of large text) s)
binaries_form t large text s e c h f =
    let os = offsets (map (λ x. length (bytes_or [] x)) s) in
    let bs = flat_map (bytes_or []) s in
    let same : form_of t ≡ binaries_of (large_by (form_of t)) (text_by (form_of t)) = e ∙ ap (λ g. binaries_of (large_by g) (text_by g)) (sym e) in
    let texts : AllByRecursion (IsTextIf text) (pieces (map nat_of os) bs) =
    rw (pieces_joined (bytes_or []) s) (all_map (IsBinarySlot text) (IsTextIf text) (bytes_or []) (binary_text text) s h) in (
      column_canon t _ s _ same c (sym (length-offsets (bytes_or []) s)) f.0,
      offsets_are (bytes_or []) s (offset_limit (form_of t)) (length bs) refl f.1,
      all_flat_map _ _ _ (binary_bytes_fit text) s h,
      omega (arith, joined_below (bytes_or []) s (offset_limit (form_of t)) f.1, limit_low (form_of t)),
      subst (λ g. AllByRecursion (IsTextIf (text_by g)) (pieces (map nat_of os) bs)) (sym e) texts,
    )

fixed_form : (t : TypeData) (k : ℕ) (s : List Slot) → form_of t ≡ fixed_size_binaries_of k → IsCarried t → AllByRecursion (IsFixedBinarySlot k) s
    → Fits (flat_canon t (fixed_size_binaries_of k) s) → WellFormed (flat_canon t (fixed_size_binaries_of k) s)
fixed_form t k s e c h f = (
  column_canon t _ s (length s) e c refl f.0,
  fixed_joined k (bytes_or (replicate k 0)) s (all_weaker _ _ (fixed_binary_length k) s h),
  all_flat_map _ _ _ (fixed_bytes_fit k) s h,
  f.1,
)

views_form : (t : TypeData) (text : Bool) (s : List Slot) → form_of t ≡ views_of text → IsCarried t → AllByRecursion (IsViewSlot text) s
    → Fits (flat_canon t (views_of text) s) → WellFormed (flat_canon t (views_of text) s)
views_form t text s e c h f =
    let vs = map (bytes_or []) s in
    let fit : AllByRecursion (λ v. length v ≤ view_limit) vs = views_fit text s h in
    let long_fit : AllByRecursion (λ v. length v ≤ view_limit) (longs vs) = longs_all (λ v. length v ≤ view_limit) vs fit in
    let are : AllByRecursion AreBytes vs = all_map (IsViewSlot text) AreBytes (bytes_or []) (view_bytes_fit text) s h in
    let same : form_of t ≡ views_of (text_by (form_of t)) = e ∙ ap (λ g. views_of (text_by g)) (sym e) in
    let room : total vs ≤ 2 ^ 62 = omega (arith, f.1, ap sum (lengths-views view_limit vs 0 0), sum-total vs) in
    let texts : AllByRecursion (IsTextIf text) (map (view_bytes (pack view_limit (longs vs))) (packed_views view_limit vs)) =
    subst (AllByRecursion (IsTextIf text)) (sym (packed_reads view_limit vs long_fit)) (all_map (IsViewSlot text) (IsTextIf text) (bytes_or []) (view_text text) s h) in (
      column_canon t _ s _ same c (sym (length-views view_limit vs 0 0 ∙ length-map s (bytes_or []))) f.0,
      packed_well view_limit (omega arith) (omega arith) vs fit long_fit are room,
      buffers_bytes view_limit (longs vs) (longs_all AreBytes vs are),
      subst (λ g. AllByRecursion (IsTextIf (text_by g)) (map (view_bytes (pack view_limit (longs vs))) (packed_views view_limit vs))) (sym e) texts,
    )

numbers_form : (t : TypeData) (p : PrimitiveType) (s : List Slot) → form_of t ≡ primitives_of p → IsHere p → IsCarried t → AllByRecursion (IsNumberSlot p) s
    → Fits (flat_canon t (primitives_of p) s) → WellFormed (flat_canon t (primitives_of p) s)
numbers_form t p s e z c h f =
    let vs = map (numbers_or (zeros p)) s in
    let same : form_of t ≡ primitives_of (primitive_by (form_of t)) = e ∙ ap (λ g. primitives_of (primitive_by g)) (sym e) in (
      column_canon t _ s _ same c (sym (length-map s (numbers_or (zeros p)))) f,
      subst (λ g. AllByRecursion (AreInRange (ranges_of (primitive_by g))) vs) (sym e) (all_map (IsNumberSlot p) (AreInRange (ranges_of p)) (numbers_or (zeros p)) (number_fits p z) s h),
    )

-- a type without children
abbrev pub IsFlatForm : Form → Type 0
IsFlatForm nulls_of = ⊤
IsFlatForm booleans_of = ⊤
IsFlatForm (primitives_of p) = ⊤
IsFlatForm (binaries_of large text) = ⊤
IsFlatForm (fixed_size_binaries_of k) = ⊤
IsFlatForm (views_of text) = ⊤
IsFlatForm _ = ⊥

pub flat_well_formed : (t : TypeData) (f : Form) (s : List Slot) → form_of t ≡ f → IsFlatForm f → IsHereBy f → IsCarried t → AllByRecursion (IsFlatSlot f) s → Fits (flat_canon t f s) → WellFormed (flat_canon t f s)
flat_well_formed t nulls_of s e i z c h f = column_bare t nulls_of (length s) e c f
flat_well_formed t booleans_of s e i z c h f = (column_canon t booleans_of s _ e c (sym (length-map s boolean_of)) f, omega arith)
flat_well_formed t (primitives_of p) s e i z c h f = numbers_form t p s e z c h f
flat_well_formed t (binaries_of large text) s e i z c h f = binaries_form t large text s e c h f
flat_well_formed t (fixed_size_binaries_of k) s e i z c h f = fixed_form t k s e c h f
flat_well_formed t (views_of text) s e i z c h f = views_form t text s e c h f
flat_well_formed t _ s e i z c h f = absurd i

-- the numbers of a type that columns have
pub carried_here : (t : TypeData) → IsCarried t → IsHereBy (form_of t)
carried_here (T.extension n t m) c = carried_here t c
carried_here (T.interval i) c = interval_here i
carried_here (T.list (T.field n t b m)) c = tt
carried_here (T.large_list (T.field n t b m)) c = tt
carried_here (T.map (T.field n t b m) o) c = tt
carried_here (T.fixed_size_list (T.field n t b m) k) c = tt
carried_here T.null c = tt
carried_here T.boolean c = tt
carried_here T.binary c = tt
carried_here T.large_binary c = tt
carried_here T.utf8 c = tt
carried_here T.large_utf8 c = tt
carried_here T.binary_view c = tt
carried_here T.utf8_view c = tt
carried_here (T.fixed_size_binary k) c = tt
carried_here (T.struct fs) c = tt
carried_here (T.union fs ids mode) c = tt
carried_here (T.dictionary k t o) c = tt
carried_here T.unknown c = absurd c
carried_here T.float16 c = absurd c
carried_here T.float32 c = absurd c
carried_here T.float64 c = absurd c
carried_here (T.decimal256 p s) c = absurd c
carried_here _ c = (omega arith, tt)
