use Rattle.std.proofs.Common.{ℕ}
use Rattle.flow_workflow.specs.Definition.{schema_of}
use Rattle.flow_lint.specs.Constraints.{CanBeSeen, IsRedundant}
use Rattle.flow_lint.proofs.MarkLemmas.{one_mark}
use Rattle.flow_lint.proofs.constraints.standings_of.Goals as goal

pub loop-number-preserved : goal.loop-number-preserved
loop-number-preserved c =
    let w = schema_of c.args.workflow.now in
    let i : ℕ = c.loop-number.number in
    let told = c.in_ok-standing.ensures in
    record {
      follows = one_mark (IsRedundant w) i c.loop-number.follows.items c.push.new.self.items c.is_redundant.result c.loop-number.invariant.follows
          c.in_ok-push.ensures.items (c.is_redundant.ensures w i told);
      unknown = one_mark (λ number. ¬ (CanBeSeen w number)) i c.loop-number.unknown.items c.push-in-loop-number.new.self.items c.is_unknown.result
          c.loop-number.invariant.unknown c.in_ok-push-2.ensures.items (c.is_unknown.ensures w i told);
    }
