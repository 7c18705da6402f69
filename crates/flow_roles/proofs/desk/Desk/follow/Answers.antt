use Rattle.std.proofs.Common.{get_or, IsTrue, sym, subst, true≢false, ◌∙◌}
use Rattle.std.proofs.lemmas.Option.{slice_get-get_or}
use Rattle.flow_model.specs.declared.history.Entry.{Entry}
use Rattle.flow_model.specs.declared.history.Step.TheVariants.{Took}
use Rattle.flow_roles.specs.Desked.{Desked}
use Rattle.flow_roles.specs.Ask.{CanMakeAt}
use Rattle.flow_roles.proofs.desk.Desk.follow.Goals as goal

pub returns-then-not-make-clause-err : goal.returns-then-not-make-clause-err
returns-then-not-make-clause-err c =
    let none : Entry = record { by = 0; step = Took 0 0 } in
    let entry = get_or c.args.entries.now c.loop-index.index none in (
      entry,
      slice_get-get_or c.args.entries.now c.loop-index.index none c.loop-index-test.true,
      λ can.
          let made : IsTrue c.make.result = c.make.ensures.allowed.1 (subst (λ (d : Desked). CanMakeAt d entry) (sym c.loop-index.invariant) can) in
          true≢false (sym made ∙ c.if-not-make.true),
    )
