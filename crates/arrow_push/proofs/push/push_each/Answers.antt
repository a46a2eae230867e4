use Rattle.std.proofs.Common.{◌≤◌, ◌++◌, ◌∷◌, [], length, Some, refl, arith}
use Rattle.std.proofs.iter.Next.{Yields-more}
use Rattle.std.proofs.lemmas.List.Elements.{All-pop}
use Rattle.arrow_flat.specs.Built.{Built}
use Rattle.arrow_push.proofs.Later.{passed_on}
use Rattle.arrow_push.proofs.Takes.{takes_nothing, takes_more, stand_more, still_holds, refused_item}
use Rattle.arrow_push.proofs.push.push_each.Goals as goal

pub try_push-requires : goal.try_push-requires
try_push-requires g c =
    let it = c.into_iter-item-iterator in
    let xs = c.loop-item.yielded in
    let x = c.in-Some.item in
    let more = Yields-more g.I.IntoIter.Iterator.next_gives it.result xs c.loop-item.item-iterator x c.next.new.self c.loop-item.yielded_by c.in-Some.ensures.steps in
    (All-pop g.B.TryPush.can_take (xs ++ x ∷ []) xs (Some x) refl (c.requires.accepted it.result it.ensures.into_iter_gives (xs ++ x ∷ []) c.next.new.self more)).1

pub loop-item-init : goal.loop-item-init
loop-item-init g c = record { grown = omega arith; taken = λ w. ([], tt, takes_nothing _ (g.B.Building.starts c.args.builder.now) w) }

pub loop-item-preserved : goal.loop-item-preserved
loop-item-preserved g c = record {
  grown = let a : length (g.B.Building.seen c.loop-item.builder).slots ≤ length (g.B.Building.seen c.try_push.new.self).slots = c.try_push.ensures.grows in omega arith;
  taken = λ w.
      let t = c.loop-item.invariant.taken w in
      let p = c.in_ok-try_push.ensures.pushed t.2.held.still_whole in (
        t.0 ++ p.0 ∷ [],
        stand_more g.B.TryPush.stands_for c.loop-item.yielded t.0 c.in-Some.item p.0 t.1 p.1,
        takes_more (g.B.Building.seen c.args.builder.now) (g.B.Building.seen c.loop-item.builder) (g.B.Building.seen c.try_push.new.self) t.0 (p.0 ∷ []) t.2 p.2,
      );
}

pub returns-in_err-try_push-clause-extended : goal.returns-in_err-try_push-clause-extended
returns-in_err-try_push-clause-extended g c = λ w.
    let it = c.into_iter-item-iterator in
    let xs = c.loop-item.yielded in
    let x = c.in-Some.item in
    let more = Yields-more g.I.IntoIter.Iterator.next_gives it.result xs c.loop-item.item-iterator x c.next.new.self c.loop-item.yielded_by c.in-Some.ensures.steps in
    let t = c.loop-item.invariant.taken w in
    let p = c.in_err-try_push.ensures.pushed t.2.held.still_whole in
    let old : Built = g.B.Building.seen c.args.builder.now in
    let now : Built = g.B.Building.seen c.loop-item.builder in (
      it.result,
      xs,
      t.0,
      it.ensures.into_iter_gives,
      t.1,
      passed_on c.from_residual.result _ _ _ c.from_residual.ensures.1 (
        still_holds old now (g.B.Building.seen c.try_push.new.self) t.0 t.2 p.0,
        refused_item g.I.IntoIter.Iterator.next_gives g.B.TryPush.begins old now it.result xs x c.next.new.self t.0 _ more t.2 p.1,
      ),
    )
