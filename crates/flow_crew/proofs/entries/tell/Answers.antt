use Rattle.std.proofs.Common.{◌≡◌, Result, Ok, Err, refl}
use Rattle.flow_model.specs.declared.history.FailEffect.{FailEffect}
use Rattle.flow_model.specs.declared.history.FailEffect.TheVariants.{Switched, Kept}
use Rattle.flow_core.specs.declared.refusal.PostRefusal.{PostRefusal}
use Rattle.flow_crew.proofs.Acting.{done_not_kept, failed_not_kept}
use Rattle.flow_crew.proofs.entries.tell.Goals as goal

switched_not_kept : (effect : FailEffect) → effect ≡ Switched → (answer : Result FailEffect PostRefusal) → answer ≡ Ok effect → ¬ (answer ≡ Ok Kept)
switched_not_kept effect is answer same kept = cc

pub returns-in-Done-clause-failed : goal.returns-in-Done-clause-failed
returns-in-Done-clause-failed c =
    done_not_kept c.args.core.now c.requires.unfinished c.requires.steps c.args.call c.requires.out c.args.by c.done.result c.done.new.self c.done.ensures

pub returns-in-Err-clause-failed : goal.returns-in-Err-clause-failed
returns-in-Err-clause-failed c =
    failed_not_kept c.args.core.now c.requires.unfinished c.requires.steps c.args.call c.requires.out c.args.by (Err c.in-Err.field-0) c.fail.new.self c.in-Err.ensures (λ e. cc)

pub returns-in-Done-clause-records : goal.returns-in-Done-clause-records
returns-in-Done-clause-records c = rw c.in-Done.is (c.done.result, c.done.ensures)

pub returns-in-Err-clause-records : goal.returns-in-Err-clause-records
returns-in-Err-clause-records c = rw c.in-Failed.is (Err c.in-Err.field-0, (c.fail.new.self, c.in-Err.ensures, refl))

pub returns-in-Ok-Switched-clause-failed : goal.returns-in-Ok-Switched-clause-failed
returns-in-Ok-Switched-clause-failed c =
    failed_not_kept c.args.core.now c.requires.unfinished c.requires.steps c.args.call c.requires.out c.args.by (Ok c.in-Ok-Switched.field-0) c.fail.new.self c.in-Ok-Switched.ensures
    (switched_not_kept c.in-Ok-Switched.field-0 c.in-Ok-Switched.field-0-is _ refl)
