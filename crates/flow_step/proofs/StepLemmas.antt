-- One stage of a step after another.
use Rattle.std.proofs.Common.{◌≡◌, ◌<◌, ℕ, List, [], ◌∷◌, length, Option, None, Some, Result, Ok, Err, refl, sym, subst, inr, arith}
use Rattle.flow_form.specs.Script.{Said}
use Rattle.flow_workflow.specs.Definition.{Definition}
use Rattle.flow_plan.specs.Compilation.{Compilation}
use Rattle.flow_policy.specs.Assigned.{Assigned}
use Rattle.flow_policy.specs.Policy.{IsPolicyOf}
use Rattle.flow_record.specs.declared.command.Command.{Command}
use Rattle.flow_findings.specs.declared.refused.Refused.{Refused}
use Rattle.flow_front.specs.declared.stop.Stop.{Stop}
use Rattle.flow_front.specs.declared.stop.Stop.TheVariants as stop
use Rattle.flow_front.specs.Stop.{IsStop}
use Rattle.flow_front.specs.Refusal.{the_policy}
use Rattle.flow_front.specs.Prepared.{IsPrepared, IsNotPrepared}
use Rattle.flow_front.proofs.Stages.{goes_on, when_prepared, when_not_prepared}
use Rattle.flow_step.specs.Texts.{Under, SaysCommand, ByLine}
use Rattle.flow_step.specs.Step.{StepsAt, SaidAt, ByCommand, Gets, IsIt}
use Rattle.flow_step.specs.declared.stepped.Stepped.{Stepped}

-- what comes of the command that the line is
line_goes : (line : List ℕ) (P : Command → Result Stepped Refused → Type 0) (command : Command) (result : Result Stepped Stop) → SaysCommand line command → Gets (P command) result →
    Gets (ByLine line P) result
line_goes line P command (Ok stepped) says (found, p, is) = (found, inr (command, says, p), is)
line_goes line P command (Err (stop.Refused why)) says p = inr (command, says, p)
line_goes line P command (Err stop.NoMemory) says p = tt

module _ (s : Said) (assigned : Option Assigned) (history : List ℕ) (by : ℕ) (line : List ℕ) (command : Command) (says : SaysCommand line command) where
  pub stepped_so : (w : Definition) (c : Compilation) (stepped : Stepped) → IsPrepared s w c → StepsAt w assigned history by command stepped →
      Gets (ByCommand s assigned history by line) (Ok stepped)
  stepped_so w c stepped prepared at =
      line_goes line (SaidAt s assigned history by) command (Ok stepped) says
      (when_prepared IsIt s (λ w _ found. (it : Stepped) × StepsAt w assigned history by command it × (found ≡ Ok it)) w c (Ok stepped) prepared
      (stepped, (stepped, at, refl), refl))

  pub stopped_so : (why : Stop) → IsStop (IsNotPrepared s) why → Gets (ByCommand s assigned history by line) (Err why)
  stopped_so why cause =
      line_goes line (SaidAt s assigned history by) command (Err why) says
      (when_not_prepared IsIt s (λ w _ found. (it : Stepped) × StepsAt w assigned history by command it × (found ≡ Ok it)) why cause)

module _ (s : Said) (P : Option Assigned → Result Stepped Refused → Type 0) (result : Result Stepped Stop) where
  -- what comes where there is no policy, and of the one that there is
  pub under_none : (policy : List ℕ) → policy ≡ [] → Gets (P None) result → Gets (Under s policy P) result
  under_none policy none p = subst (λ (l : List ℕ). Gets (Under s l P) result) (sym none) p

  pub under_some : (policy : List ℕ) (a : Assigned) → 0 < length policy → IsPolicyOf policy s a → Gets (P (Some a)) result → Gets (Under s policy P) result
  under_some [] a some is p = absurd (omega arith)
  under_some (byte ∷ bytes) a some is p = goes_on IsIt (the_policy s (byte ∷ bytes)) (IsPolicyOf (byte ∷ bytes) s) (λ assigned. P (Some assigned)) a result is p
