-- Whatever a case is asked, its run stays or has one entry more.
use Rattle.std.proofs.Common.{ℕ, Result, inl, inr, ap}
use Rattle.flow_ask.specs.declared.ask.Ask.{Ask}
use Rattle.flow_ask.specs.declared.made.Made.{Made}
use Rattle.flow_ask.specs.declared.refusal.Refusal.{Refusal}
use Rattle.flow_core.specs.Ask.{GrowsAtMost}
use Rattle.flow_core.proofs.Growth.{answers_grow}
use Rattle.flow_roles.proofs.Growth.{desk_grows}
use Rattle.flow_case.specs.declared.case_run.CaseRun.{CaseRun}
use Rattle.flow_case.specs.declared.case_run.CaseRun.TheVariants.{Free, UnderPolicy}
use Rattle.flow_case.specs.Ruled.{Ruled}
use Rattle.flow_case.specs.CaseRun.{run_of, CaseAnswers}

pub case_grows : (c after : CaseRun) (what : Ask) (by : ℕ) (a : Result Made Refusal) → CaseAnswers c what by a after → GrowsAtMost (run_of c) what by (run_of after)
case_grows (Free r) (Free after) what by a h = answers_grow r after what by a h
case_grows (Free r) (UnderPolicy after) what by a h = absurd h
case_grows (UnderPolicy c) (Free after) what by a h = absurd h
case_grows (UnderPolicy c) (UnderPolicy after) what by a (inl (rule, barred, is, same)) = inl (ap (λ (x : Ruled). x.desk.run) same)
case_grows (UnderPolicy c) (UnderPolicy after) what by a (inr (free, h, rules)) = desk_grows c.desk after.desk what by a h
