use Rattle.std.proofs.Common.{◌++◌, ◌∷◌, [], refl, subst}
use Rattle.flow_residual.specs.Remaining.{Remaining, banned}
use Rattle.flow_residual.specs.Telling.{Tells}
use Rattle.flow_residual.specs.View.{remaining}
use Rattle.flow_residual.proofs.KeptLemmas.{told_again}
use Rattle.flow_residual.proofs.SetLemmas.{set_push}
use Rattle.flow_residual.proofs.residual.Residual.sides_after.Goals as goal

pub returns : goal.returns
returns c =
    let i = c.self.inside in
    let k = c.self.invariant in
    let r = remaining i.plans.items i.journal.items i.bans.items in
    subst (λ (r : Remaining). Tells r.options (r.journal ++ c.args.leaf ∷ []) (banned r.bans) c.sides_by.result) c.self.view_is
    (told_again i k _ (r.journal ++ c.args.leaf ∷ []) (banned r.bans) c.insert.new.self i.banned c.sides_by.result c.deref.ensures.value c.sides_by.ensures
    (set_push i.done c.insert.new.self r.journal (r.journal ++ c.args.leaf ∷ []) c.args.leaf c.insert.ensures refl k.done_are) k.banned_are)
