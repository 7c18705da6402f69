use Rattle.std.proofs.Common.{◌≡◌, Bool, true, false, not, IsTrue, refl, sym, ◌∙◌, subst, true≢false}
use Rattle.flow_residual.specs.Question.{CanBegin, IsBarred}
use Rattle.flow_residual.specs.Remaining.{Remaining}
use Rattle.flow_residual.specs.View.{remaining}
use Rattle.flow_residual.proofs.TellingLemmas.{free_begins, barred_keeps, large_is_barred}
use Rattle.flow_residual.proofs.residual.Residual.may_begin.Goals as goal

from_not : (b : Bool) → IsTrue (not b) → b ≡ false
from_not true e = sym e
from_not false e = refl

of_not : (b : Bool) → not b ≡ false → b ≡ true
of_not true e = refl
of_not false e = cc

pub returns-then-leaf-lt-MOST_LEAVES-clause-begins : goal.returns-then-leaf-lt-MOST_LEAVES-clause-begins
returns-then-leaf-lt-MOST_LEAVES-clause-begins c told =
    let i = c.self.inside in
    subst (λ (r : Remaining). CanBegin r c.args.leaf) c.self.view_is
    (free_begins (remaining i.plans.items i.journal.items i.bans.items) i.sides c.self.invariant.sides c.self.invariant.kept.ordered c.args.leaf (λ h. true≢false (sym (c.has.ensures ∙ h) ∙ from_not c.has.result told)))

pub returns-then-leaf-lt-MOST_LEAVES-clause-barred : goal.returns-then-leaf-lt-MOST_LEAVES-clause-barred
returns-then-leaf-lt-MOST_LEAVES-clause-barred c told =
    let i = c.self.inside in
    subst (λ (r : Remaining). IsBarred r c.args.leaf) c.self.view_is
    (barred_keeps (remaining i.plans.items i.journal.items i.bans.items) i.sides c.self.invariant.sides c.self.invariant.kept.ordered c.args.leaf (sym c.has.ensures ∙ of_not c.has.result told))

pub returns-else-leaf-lt-MOST_LEAVES-clause-barred : goal.returns-else-leaf-lt-MOST_LEAVES-clause-barred
returns-else-leaf-lt-MOST_LEAVES-clause-barred c told =
    let i = c.self.inside in
    subst (λ (r : Remaining). IsBarred r c.args.leaf) c.self.view_is
    (large_is_barred (remaining i.plans.items i.journal.items i.bans.items) c.args.leaf c.self.invariant.kept.fits c.if-leaf-lt-MOST_LEAVES.false)
