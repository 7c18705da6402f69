use Rattle.std.proofs.Common.{◌++◌, ◌∷◌, [], refl, subst}
use Rattle.flow_residual.specs.Remaining.{Remaining, banned}
use Rattle.flow_residual.specs.Telling.{Tells}
use Rattle.flow_residual.specs.View.{remaining}
use Rattle.flow_residual.proofs.KeptLemmas.{told_again}
use Rattle.flow_residual.proofs.SetLemmas.{set_push}
use Rattle.flow_residual.proofs.TellingLemmas.{told_with_large}
use Rattle.flow_residual.proofs.residual.Residual.sides_without.Goals as goal

pub returns : goal.returns
returns c =
    let i = c.self.inside in
    let k = c.self.invariant in
    let r = remaining i.plans.items i.journal.items i.bans.items in
    subst (λ (r : Remaining). Tells r.options r.journal (banned r.bans ++ c.args.leaf ∷ []) c.sides_by.result) c.self.view_is
    (told_again i k _ r.journal (banned r.bans ++ c.args.leaf ∷ []) i.done c.insert.new.self c.sides_by.result c.deref.ensures.value c.sides_by.ensures k.done_are
    (set_push i.banned c.insert.new.self (banned r.bans) (banned r.bans ++ c.args.leaf ∷ []) c.args.leaf c.insert.ensures refl k.banned_are))

pub returns-then-leaf-ge-MOST_LEAVES : goal.returns-then-leaf-ge-MOST_LEAVES
returns-then-leaf-ge-MOST_LEAVES c =
    let i = c.self.inside in
    let k = c.self.invariant in
    let r = remaining i.plans.items i.journal.items i.bans.items in
    subst (λ (r : Remaining). Tells r.options r.journal (banned r.bans ++ c.args.leaf ∷ []) i.sides) c.self.view_is
    (told_with_large r.options r.journal (banned r.bans) i.sides c.args.leaf k.kept.fits c.if-leaf-ge-MOST_LEAVES.true k.sides)
