use Rattle.std.proofs.Common.{ap, sym, ◌∙◌}
use Rattle.flow_plan.specs.Planned.{pairs_of}
use Rattle.flow_sample.specs.declared.gathering.Gathering.{Gathering}
use Rattle.flow_sample.proofs.PieceLemmas.{leaf_item}
use Rattle.flow_sample.proofs.SideLemmas.{ordered}
use Rattle.flow_sample.proofs.GatheringLemmas.{leaf_read, leaf_missed}
use Rattle.flow_sample.proofs.gathering.Gathering.leaf.Goals as goal
use Rattle.flow_sample.proofs.gathering.Gathering.leaf.Goals.{in-Some+in_ok-of_leaf+in_ok-push, in_default}

pub returns : goal.returns
returns g c = elim c.match-leaf_in_place.branch [
  | in-Some+in_ok-of_leaf+in_ok-push w ↦
      let e = w.in_ok-of_leaf.ensures in
      leaf_read c.args.plan.now w.in-Some.leaf w.in_ok-of_leaf.field-0 c.args.self.now c.match-leaf_in_place.self (sym w.in-Some.ensures.leaf)
      (leaf_item c.args.plan.now.process (pairs_of c.args.plan.now.tokens) (ordered c.args.plan.now.process (pairs_of c.args.plan.now.tokens) c.tokens-tokens.ensures.ordered c.requires.choice_free) w.in-Some.leaf w.in_ok-of_leaf.field-0 e.inside e.waits e.least e.run)
      (ap (λ (seen : Gathering g.row.W). seen.place) w.self-is) (ap (λ (seen : Gathering g.row.W). seen.items.items) w.self-is ∙ w.in_ok-push.ensures.items) (ap (λ (seen : Gathering g.row.W). seen.outer) w.self-is)
  | in_default w ↦ leaf_missed c.args.plan.now c.args.self.now c.match-leaf_in_place.self (sym w.in_default.ensures.leaf)
]
