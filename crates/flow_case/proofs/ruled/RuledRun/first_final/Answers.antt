use Rattle.std.proofs.Common.{◌≤◌, length, true≢false, refl, sym, subst, arith}
use Rattle.std.proofs.lemmas.List.{take_all}
use Rattle.flow_core.specs.Run.{schema}
use Rattle.flow_case.specs.Rules.{HasNoFinal}
use Rattle.flow_case.proofs.Finals.{first_here, none_further}
use Rattle.flow_case.proofs.ruled.RuledRun.first_final.Goals as goal

pub returns-then-is_final : goal.returns-then-is_final
returns-then-is_final c =
    first_here (schema c.args.self.now.desk.run) c.args.self.now.rules c.args.leaves.now c.loop-leaf.leaf-index 0 c.loop-leaf-test.true c.loop-leaf.invariant (c.if-is_final.ensures.0 refl)

pub loop-leaf-preserved : goal.loop-leaf-preserved
loop-leaf-preserved c =
    none_further (schema c.args.self.now.desk.run) c.args.self.now.rules c.args.leaves.now c.loop-leaf.leaf-index 0 c.loop-leaf-test.true c.loop-leaf.invariant
    (λ is. true≢false (sym (c.if-is_final.ensures.1 is)))

pub returns : goal.returns
returns c =
    let past : length c.args.leaves.now ≤ c.loop-leaf.leaf-index = omega arith in
    subst (HasNoFinal (schema c.args.self.now.desk.run) c.args.self.now.rules) (take_all c.loop-leaf.leaf-index c.args.leaves.now past) c.loop-leaf.invariant
