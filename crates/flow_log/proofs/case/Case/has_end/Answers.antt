use Rattle.std.proofs.Common.{◌≡◌, ◌∙◌, arith, subst, sym, true, true≢false, inl, inr}
use Rattle.std.proofs.lemmas.Bool.{cases_lt}
use Rattle.std.proofs.lemmas.Option.{slice_get_within}
use Rattle.leaf_rows.specs.Leaves.{has_leaf}
use Rattle.flow_residual.specs.Options.{HasAt}
use Rattle.flow_residual.proofs.OptionLemmas.{length-options}
use Rattle.flow_trace.specs.Fronts.{Follows, Finishes}
use Rattle.flow_log.specs.Case.{fitted_of}
use Rattle.flow_log.proofs.CaseLemmas.{told_at, finished_there}
use Rattle.flow_log.proofs.case.Case.has_end.Goals.{else-has-via-then-has+else-is_finished, else-has-via-else-has}
use Rattle.flow_log.proofs.case.Case.has_end.Goals as goal

pub is_finished-requires : goal.is_finished-requires
is_finished-requires g c = told_at c.args.self.now.plans.now c.args.done.now c.args.sides.now c.loop-place.place c.kept-item.result c.plan.result.now c.requires.sides
    (omega (arith, c.loop-place-test.true)) c.kept-item.is c.plan.ensures

pub returns-then-is_finished-clause-yes : goal.returns-then-is_finished-clause-yes
returns-then-is_finished-clause-yes g c _ list done follows =
    let option = sym c.has.ensures ∙ c.if-has.true in
    let told = finished_there c.args.self.now.plans.now c.args.done.now c.args.sides.now c.loop-place.place c.kept-item.result c.plan.result.now c.requires.sides
    (omega (arith, c.loop-place-test.true)) c.kept-item.is c.plan.ensures c.is_finished.ensures.ordered list c.is_finished.result done (follows c.loop-place.place option)
    (c.is_finished.ensures.finished list) in
    (c.loop-place.place, told.0 c.if-is_finished.true)

pub loop-place-preserved : goal.loop-place-preserved
loop-place-preserved g c j list below option done follows finishes = elim (cases_lt j c.loop-place.place) [
  | inl before ↦ c.loop-place.invariant j list before option done follows finishes
  | inr past ↦
      let e : j ≡ c.loop-place.place = omega (arith, past, below) in
      let option' = subst (λ k. has_leaf c.args.options.now k ≡ true) e option in
      let follows' = subst (HasAt (Follows list) (fitted_of c.args.self.now).options) e follows in
      let finishes' = subst (HasAt (Finishes list) (fitted_of c.args.self.now).options) e finishes in
      elim c.else-has.branch [
        | else-has-via-then-has+else-is_finished w ↦ true≢false (sym ((finished_there c.args.self.now.plans.now c.args.done.now c.args.sides.now c.loop-place.place c.kept-item.result w.plan.result.now c.requires.sides
            (omega (arith, c.loop-place-test.true)) c.kept-item.is w.plan.ensures w.is_finished.ensures.ordered list w.is_finished.result done follows'
            (w.is_finished.ensures.finished list)).1 finishes') ∙ w.if-is_finished.false)
        | else-has-via-else-has w ↦ true≢false (sym option' ∙ sym c.has.ensures ∙ w.if-has.false)
      ]
]

pub returns-clause-no : goal.returns-clause-no
returns-clause-no g c _ j list option done follows finishes =
    let within = slice_get_within (fitted_of c.args.self.now).options j finishes.0 finishes.1 in
    c.loop-place.invariant j list (omega (arith, c.loop-place-test.false, length-options c.args.self.now.plans.now, within)) option done follows finishes
