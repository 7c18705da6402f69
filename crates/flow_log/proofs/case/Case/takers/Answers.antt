use Rattle.std.proofs.Common.{◌+◌, ◌∙◌, arith, subst, sym, true≢false}
use Rattle.leaf_rows.specs.declared.leaf_set.LeafSet.{LeafSet}
use Rattle.flow_log.specs.Case.{fitted_of}
use Rattle.flow_log.specs.Search.{MayFollow}
use Rattle.flow_residual.proofs.OptionLemmas.{length-options}
use Rattle.flow_log.proofs.CaseLemmas.{AreAsked, told_at, ready_there, one_asked, none_asked, all_asked}
use Rattle.flow_log.proofs.case.Case.takers.Goals.{then-has+then-may_come_next, else-has, else-has-via-then-has+else-may_come_next, else-has-via-else-has}
use Rattle.flow_log.proofs.case.Case.takers.Goals as goal

pub may_come_next-requires : goal.may_come_next-requires
may_come_next-requires g c = told_at c.args.self.now.plans.now c.args.done.now c.args.sides.now c.loop-place.place c.kept-item.result c.plan.result.now c.requires.sides
    (omega (arith, c.loop-place-test.true)) c.kept-item.is c.plan.ensures

pub loop-place-preserved : goal.loop-place-preserved
loop-place-preserved g c =
    let os = (fitted_of c.args.self.now).options in
    let i = c.loop-place.place in
    elim c.if-has.branch [
      | then-has+then-may_come_next w ↦ subst (λ (set : LeafSet g.row.W). AreAsked (MayFollow c.args.done.now c.args.leaf) os c.args.options.now (i + 1) set) (sym w.takers-is)
          (one_asked (MayFollow c.args.done.now c.args.leaf) os c.args.options.now c.loop-place.takers i c.loop-place.invariant w.insert.new.self (sym c.has.ensures ∙ w.if-has.true)
          ((ready_there c.args.self.now.plans.now c.args.done.now c.args.sides.now i c.kept-item.result w.plan.result.now c.requires.sides (omega (arith, c.loop-place-test.true)) c.kept-item.is w.plan.ensures
          w.may_come_next.ensures.ordered c.args.leaf w.may_come_next.result w.may_come_next.ensures.ready).0 w.if-may_come_next.true)
          w.insert.ensures)
      | else-has w ↦ subst (λ (set : LeafSet g.row.W). AreAsked (MayFollow c.args.done.now c.args.leaf) os c.args.options.now (i + 1) set) (sym w.takers-is)
          (none_asked (MayFollow c.args.done.now c.args.leaf) os c.args.options.now c.loop-place.takers i c.loop-place.invariant (λ (option, has). elim w.else-has.branch [
            | else-has-via-then-has+else-may_come_next v ↦ true≢false (sym ((ready_there c.args.self.now.plans.now c.args.done.now c.args.sides.now i c.kept-item.result v.plan.result.now c.requires.sides
                (omega (arith, c.loop-place-test.true)) c.kept-item.is v.plan.ensures v.may_come_next.ensures.ordered c.args.leaf v.may_come_next.result v.may_come_next.ensures.ready).1 has)
                ∙ v.if-may_come_next.false)
            | else-has-via-else-has v ↦ true≢false (sym option ∙ sym c.has.ensures ∙ v.if-has.false)
          ]))
    ]

pub returns : goal.returns
returns g c = all_asked (MayFollow c.args.done.now c.args.leaf) (fitted_of c.args.self.now).options c.args.options.now c.loop-place.takers c.loop-place.place c.loop-place.invariant
    (omega (arith, c.loop-place-test.false, length-options c.args.self.now.plans.now))
