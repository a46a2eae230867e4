use Rattle.std.proofs.Common.{◌≡◌, ap, refl, sym, subst, ◌∙◌, arith}
use Rattle.std.proofs.lemmas.Bool.{false≢true}
use Rattle.arrow_layout.specs.Canonical.{AreCanonical, Canonical}
use Rattle.arrow_layout.specs.Layouts.{layouts}
use Rattle.arrow_layout.specs.Paths.{children_of}
use Rattle.arrow_scalar.proofs.Slots.{count_at}
use Rattle.arrow_canonical.proofs.Parts.{all_canonical, answered, canonical_at, parts_of}
use Rattle.arrow_canonical.proofs.canonical.+whole.Goals as goal

pub test_canonical-returns-then-not-are_canonical : goal.test_canonical-returns-then-not-are_canonical
test_canonical-returns-then-not-are_canonical t c =
    let l = c.args.array.now in
    let same : layouts c.children.result.now ≡ children_of l = c.children.ensures ∙ ap children_of c.node.ensures.same in
    let told = answered (AreCanonical (layouts c.children.result.now)) c.in_ok-test_children.field-0 c.in-Some.are_canonical c.in_ok-test_children.ensures c.in-Some.is in
    (λ q. absurd (false≢true q), λ h. sym c.if-not-are_canonical.true ∙ told.1 (subst AreCanonical (sym same) (parts_of l h).1))

pub test_children-test_canonical-requires : goal.test_children-test_canonical-requires
test_children-test_canonical-requires t c = (omega (arith, c.decreases, count_at c.args.children.now c.loop-k.k c.index-children-k.result c.loop-k-test.true c.index-children-k.is), tt)

pub test_children-returns-then-not-is_canonical : goal.test_children-returns-then-not-is_canonical
test_children-returns-then-not-is_canonical t c =
    let told = answered (Canonical c.index-children-k.result) c.in_ok-test_canonical.field-0 c.in-Some.is_canonical c.in_ok-test_canonical.ensures c.in-Some.is in
    (λ q. absurd (false≢true q), λ h. sym c.if-not-is_canonical.true ∙ told.1 (canonical_at c.args.children.now c.loop-k.k c.index-children-k.result h c.loop-k-test.true c.index-children-k.is))

pub test_children-returns : goal.test_children-returns
test_children-returns t c = (λ q. all_canonical c.args.children.now (λ k w d e. c.loop-k.invariant k (omega arith) d e), λ h. refl)
