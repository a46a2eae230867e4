use Rattle.std.proofs.Common.{◌≡◌, ℕ, suc, pred, ◌++◌, ◌+◌, ◌*◌, ◌≤◌, ◌<◌, List, length, map, sum, ap, sym, ◌∙◌, subst, arith, pos}
use Rattle.std.proofs.lemmas.List.{length-map}
use Rattle.std.proofs.lemmas.Result.{err_from_is_err_and}
use Rattle.arrow_types.specs.Select.{nat_of}
use Rattle.arrow_buffers.specs.Offsets.{end_of}
use Rattle.arrow_layout.specs.Canon.{offsets, sums_from}
use Rattle.arrow_canon.specs.Runs.{places}
use Rattle.arrow_items.specs.Items.{item_count, kept_places}
use Rattle.std.specs.Option.{option_copied}
use Rattle.arrow_growable.proofs.Ends.{once_past, offsets_count}
use Rattle.arrow_growable.proofs.list.extend_lists.Goals as goal

pub returns-in_err-parts-clause-overflow : goal.returns-in_err-parts-clause-overflow
returns-in_err-parts-clause-overflow g c = λ e ns ms old piece.
    let p = err_from_is_err_and c.from_residual.result c.from_residual.ensures.1 in
    let ps = kept_places (option_copied c.args.validity) (places c.args.runs.now) in
    let past = c.in_err-parts.ensures.overflow (cc (p.1, p.2, e)) in
    once_past g.O.Offset.limit ns (map (item_count (map nat_of (map g.O.Offset.number c.args.offsets.now))) ps) ms c.args.copies c.requires.some piece past

pub returns-in-Ok-clause-runs : goal.returns-in-Ok-clause-runs
returns-in-Ok-clause-runs g c =
    let os = map nat_of (map g.O.Offset.number c.args.offsets.now) in
    let m = option_copied c.args.validity in
    let ps = places c.args.runs.now in
    let e = c.in_ok-parts.ensures in
    let many : length (map g.O.Offset.number c.in_ok-parts.parts.offsets) ≡ suc (length ps) =
    ap length e.offsets ∙ offsets_count (map (item_count os) (kept_places m ps)) ∙ ap suc (length-map (kept_places m ps) (item_count os) ∙ length-map ps _) in
    record {
      same = λ j. tt;
      items = λ j. e.items;
      inside = λ j. e.inside;
      mask = e.mask;
      count = omega (arith, many, length-map c.in_ok-parts.parts.offsets g.O.Offset.number, c.len_proxy-length.ensures.slots);
    }
