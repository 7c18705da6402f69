use Rattle.std.proofs.Common.{get_or, IsTrue, sym, subst, true≢false, ◌∙◌}
use Rattle.std.proofs.lemmas.Option.{slice_get-get_or}
use Rattle.flow_model.specs.declared.history.Entry.{Entry}
use Rattle.flow_model.specs.declared.history.Step.TheVariants.{Took}
use Rattle.flow_case.specs.declared.case_run.CaseRun.{CaseRun}
use Rattle.flow_case.specs.CaseRun.{CanMakeInCase}
use Rattle.flow_case.proofs.case_run.CaseRun.follow.Goals as goal

pub returns-then-not-make-clause-err : goal.returns-then-not-make-clause-err
returns-then-not-make-clause-err c =
    let none : Entry = record { by = 0; step = Took 0 0 } in
    let entry = get_or c.args.entries.now c.loop-index.index none in (
      entry,
      slice_get-get_or c.args.entries.now c.loop-index.index none c.loop-index-test.true,
      λ can.
          let made : IsTrue c.make.result = c.make.ensures.allowed.1 (subst (λ (d : CaseRun). CanMakeInCase d entry) (sym c.loop-index.invariant) can) in
          true≢false (sym made ∙ c.if-not-make.true),
    )

pub returns-then-not-make-clause-so_far : goal.returns-then-not-make-clause-so_far
returns-then-not-make-clause-so_far c = c.make.ensures.kept c.if-not-make.true ∙ c.loop-index.invariant
