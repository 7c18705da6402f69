use Rattle.std.proofs.Common.{◌<◌, ◌∙◌, length, ap, sym, subst}
use Rattle.flow_model.specs.Lists.{Each}
use Rattle.flow_goal.specs.Labelled.{Labelled}
use Rattle.flow_core.proofs.StartLemmas.{kept_first}
use Rattle.flow_core.proofs.run.Parts.new.Goals as goal

pub new-requires-2 : goal.new-requires-2
new-requires-2 c =
    subst (λ facts. Each (λ fact. fact < c.count.result) facts) (sym c.held.ensures.held)
    (subst (λ n. Each (λ fact. fact < n) c.args.workflow.now.held) (sym (c.count.ensures.count ∙ ap length c.facts.ensures)) c.held.ensures.known)

pub returns-clause-kept : goal.returns-clause-kept
returns-clause-kept c =
    let made = c.in_ok-residual.ensures in
    kept_first c.args.workflow.now c.args.limit c.args.compiled c.in_ok-residual.residual c.in_ok-claims.claims c.in_ok-world.world _ _ _ _ c.requires.compiled
    c.tree.ensures.known c.notes.ensures.as_many c.tree.ensures.well_formed made.options made.journal made.bans c.in_ok-claims.ensures
    (ap length c.events.ensures.names) c.in_ok-world.ensures c.held.ensures.held (c.count.ensures.count ∙ ap length c.facts.ensures)
    (c.leaves-leaves.ensures.count ∙ ap (λ (t : Labelled). length t.labels) c.tree.ensures.tree)

pub returns-clause-room : goal.returns-clause-room
returns-clause-room c = c.in_ok-history.ensures.capacity

pub returns-clause-none : goal.returns-clause-none
returns-clause-none c = c.in_ok-history.ensures.items
