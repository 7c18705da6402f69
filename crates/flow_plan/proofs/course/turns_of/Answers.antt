use Rattle.std.proofs.Common.{◌+◌, length, ap, ◌∙◌, ⊎_elim, arith}
use Rattle.std.proofs.lemmas.Bool.{cases_lt}
use Rattle.std.proofs.lemmas.List.{length_push}
use Rattle.flow_plan.proofs.CourseLemmas.{front_has, one_turn, turn_told}
use Rattle.flow_plan.proofs.PartLemmas.{leaf_more}
use Rattle.flow_plan.proofs.course.turns_of.Goals as goal

pub returns-then-leaf-ge-MOST_LEAVES : goal.returns-then-leaf-ge-MOST_LEAVES
returns-then-leaf-ge-MOST_LEAVES c = λ p served i within small. ⊎_elim
    (λ less. c.loop-leaf.invariant.turns p served i less)
    (λ past. absurd (omega (arith, front_has c.args.leaves.now c.loop-leaf.leaf-index i past within small, c.if-leaf-ge-MOST_LEAVES.true)))
    (cases_lt i c.loop-leaf.leaf-index)

pub loop-leaf-preserved : goal.loop-leaf-preserved
loop-leaf-preserved c =
    let leaves = c.args.leaves.now in
    let k = c.loop-leaf.leaf-index in
    let old = c.loop-leaf.invariant in
    let next = leaf_more leaves k c.loop-leaf.done c.insert.new.self c.loop-leaf-test.true old.done_are c.insert.ensures in
    record {
      done_are = next;
      told = c.told-after.ensures;
      one_each = ap length c.in_ok-push.ensures.items ∙ length_push c.loop-leaf.turns.items c.in_ok-between.field-0 ∙ ap (λ n. n + 1) old.one_each;
      turns = λ p served. one_turn p leaves k c.loop-leaf.turns.items c.push.new.self.items c.in_ok-between.field-0 old.one_each c.in_ok-push.ensures.items
          (turn_told c.args.folds.now p leaves k c.loop-leaf.done c.insert.new.self c.loop-leaf.before c.told-after.result c.in_ok-between.field-0 c.loop-leaf-test.true old.done_are next
          old.told c.told-after.ensures served c.in_ok-between.ensures) (old.turns p served);
    }

pub returns : goal.returns
returns c = λ p served i within small. c.loop-leaf.invariant.turns p served i (omega (arith, within, c.loop-leaf-test.false))
