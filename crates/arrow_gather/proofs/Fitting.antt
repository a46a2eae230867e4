-- Where the canonical layouts of picked slots fit.
use Rattle.std.proofs.Common.{◌≡◌, ℕ, ◌<◌, ◌^◌, cond, pos, Bool, List, length, map, sum, flat_map, ap, sym, ◌∙◌, subst, arith, Option}
use Rattle.std.specs.List.{AllByRecursion}
use Rattle.std.proofs.lemmas.List.{length-map}
use Rattle.arrow_buffers.specs.Bits.{Bits}
use Rattle.arrow_types.specs.Carried.{IsBelow}
use Rattle.arrow_types.specs.TypeData.{TypeData}
use Rattle.arrow_layout.specs.Canon.{sums_from, offsets}
use Rattle.arrow_layout.specs.Denote.{denote}
use Rattle.arrow_layout.specs.Fits.{Fits}
use Rattle.arrow_layout.specs.Forms.{form_of, lists_of, offset_limit}
use Rattle.arrow_layout.specs.Layouts.{Layout, type_of}
use Rattle.arrow_layout.specs.SlotsOf.{fill}
use Rattle.arrow_layout.proofs.CanonLengths.{length-canon, length-ends}
use Rattle.arrow_canon.specs.Picks.{pick, picked}
use Rattle.arrow_canon.proofs.Counts.{count_fits}
use Rattle.arrow_canon.proofs.Strings.{below_sums, sums_below}
use Rattle.arrow_items.specs.Items.{item_count, item_places, kept_place, kept_places}
use Rattle.arrow_items.specs.Kinds.{child_picked, lists_picked}

module _
    (large : Bool) (limit : ℕ) (of_size : limit ≡ cond large (2 ^ 63) (2 ^ 31)) (t u : TypeData) (m : Option Bits) (os : List ℕ) (c : Layout) (ps : List (Option ℕ)) (f : form_of t ≡ lists_of large u)
  where
    of_type : limit ≡ offset_limit (form_of t)
    of_type = of_size ∙ sym (ap offset_limit f)

    pub lists_fit : length ps < 2 ^ 64 → sum (map (item_count os) (kept_places m ps)) < limit → Fits (child_picked c (flat_map (item_places os) (kept_places m ps))) → Fits (lists_picked t m os c ps)
    lists_fit many few inner =
        let ns = map (item_count os) (kept_places m ps) in
        let size : length (map pos (sums_from 0 ns)) ≡ length ps = length-ends 0 ns ∙ length-map (kept_places m ps) (item_count os) ∙ length-map ps (kept_place m) in
        (omega (arith, size, many), subst (λ k. AllByRecursion (IsBelow k) (offsets ns)) of_type (sums_below limit 0 ns (omega (arith, few))), inner)

    pub lists_few : Fits (lists_picked t m os c ps) → sum (map (item_count os) (kept_places m ps)) < limit
    lists_few fits =
        let ns = map (item_count os) (kept_places m ps) in
        let all : AllByRecursion (IsBelow limit) (offsets ns) = subst (λ k. AllByRecursion (IsBelow k) (offsets ns)) (sym of_type) fits.1 in
        omega (arith, below_sums limit 0 ns all)

pub child_few : (c : Layout) (ps : List (Option ℕ)) → Fits (child_picked c ps) → length ps < 2 ^ 64
child_few c ps f =
    let t = type_of c in
    omega (arith, count_fits (child_picked c ps) f, length-canon t (picked t c ps), length-map ps (pick (fill t) (denote c)))
