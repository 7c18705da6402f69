use Rattle.std.proofs.Common.{◌<◌, ◌∙◌, ◌+◌, length, arith, subst, sym, true≢false}
use Rattle.std.proofs.lemmas.Option.{slice_get_within}
use Rattle.leaf_rows.specs.declared.leaf_set.LeafSet.{LeafSet}
use Rattle.flow_log.specs.Case.{fitted_of}
use Rattle.flow_residual.proofs.OptionLemmas.{length-options}
use Rattle.flow_log.proofs.CaseLemmas.{HasNext, told_at, ready_here, at_place, option_here, next_more, next_same}
use Rattle.flow_log.specs.Search.{MayFollow}
use Rattle.flow_plan.specs.Options.{option_of}
use Rattle.flow_log.proofs.case.Case.all_next.Goals.{then-has, else-has}
use Rattle.flow_log.proofs.case.Case.all_next.Goals as goal

pub all_that_come_next-requires : goal.all_that_come_next-requires
all_that_come_next-requires g c = (
  omega (arith, c.args.options.now.sized),
  (
    c.requires.wide,
    told_at c.args.self.now.plans.now c.args.done.now c.args.sides.now c.loop-place.place c.kept-item.result c.plan.result.now c.requires.sides
        (omega (arith, c.loop-place-test.true)) c.kept-item.is c.plan.ensures,
  ),
)

pub loop-place-preserved : goal.loop-place-preserved
loop-place-preserved g c =
    let os = (fitted_of c.args.self.now).options in
    let i = c.loop-place.place in
    elim c.if-has.branch [
      | then-has w ↦
          let within : i < length c.args.self.now.plans.now = omega (arith, c.loop-place-test.true) in
          let ordered = w.all_that_come_next.ensures.ordered in
          let here = option_here c.args.self.now.plans.now c.args.done.now c.args.sides.now i c.kept-item.result w.plan.result.now c.requires.sides within c.kept-item.is w.plan.ensures ordered in
          subst (λ (set : LeafSet g.row.W). HasNext os c.args.options.now c.args.done.now (i + 1) set) (sym w.next-is)
          (next_more os c.args.options.now c.args.done.now c.loop-place.next i c.loop-place.invariant w.all_that_come_next.result w.union_with.new.self w.union_with.ensures
          (λ leaf small has. w.all_that_come_next.ensures.all leaf small
          ((ready_here c.args.self.now.plans.now c.args.done.now c.args.sides.now i c.kept-item.result w.plan.result.now c.requires.sides within c.kept-item.is w.plan.ensures ordered leaf).1
          ((at_place (MayFollow c.args.done.now leaf) os i (option_of w.plan.result.now) here).0 has))))
      | else-has w ↦ subst (λ (set : LeafSet g.row.W). HasNext os c.args.options.now c.args.done.now (i + 1) set) (sym w.next-is)
          (next_same os c.args.options.now c.args.done.now c.loop-place.next i c.loop-place.invariant (λ option. true≢false (sym option ∙ sym c.has.ensures ∙ w.if-has.false)))
    ]

pub returns : goal.returns
returns g c j leaf o option at small ready =
    c.loop-place.invariant j leaf o (omega (arith, c.loop-place-test.false, length-options c.args.self.now.plans.now, slice_get_within (fitted_of c.args.self.now).options j o at)) option at small ready
