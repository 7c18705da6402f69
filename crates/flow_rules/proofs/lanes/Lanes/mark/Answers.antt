use Rattle.std.proofs.Common.{◌==◌, ◌&&◌, ◌||◌, ◌<◌, ◌∙◌, ℕ, Option, length, ap, subst, sym}
use Rattle.std.specs.Prelude.{IfSome}
use Rattle.flow_model.specs.Facts.{is_event}
use Rattle.flow_rules.specs.Lanes.{has_event}
use Rattle.flow_rules.proofs.LaneLemmas.{marked_word}
use Rattle.flow_rules.proofs.lanes.Lanes.mark.Goals as goal

pub returns-clause-marked : goal.returns-clause-marked
returns-clause-marked c = λ other q.
    let words = c.args.self.now.words.items in
    marked_word words c.in-Some.event c.args.lane other q c.index_mut.result.now
    (subst (λ (o : Option ℕ). IfSome o (λ event. event < length words)) c.in-Some.is c.requires.room) c.requires.lane c.index_mut.ensures.value
    ∙ ap (λ (o : Option ℕ). other == c.args.lane && is_event q o || has_event c.args.self.now other q) (sym c.in-Some.is)
