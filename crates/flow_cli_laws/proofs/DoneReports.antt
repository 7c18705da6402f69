-- Runs in which every task succeeds are committed, and so their reports say.
use Rattle.std.proofs.Common.{◌≡◌, ℕ, ◌+◌, ◌*◌, ◌≤◌, Bool, List, length, Some, Result, Ok, inl, inr, refl, sym, ap, subst, ◌∙◌}
use Rattle.flow_model.specs.declared.history.Call.{Call}
use Rattle.flow_model.specs.declared.history.Outcome.{Outcome}
use Rattle.flow_model.specs.Lists.{Each}
use Rattle.flow_model.specs.Schema.{Schema}
use Rattle.flow_model.specs.Verdict as model
use Rattle.flow_laws.specs.WellFormed.{IsWellFormed, IsConsistent}
use Rattle.flow_laws.specs.Histories.{NeverWaits}
use Rattle.flow_core.specs.Run.{Run, schema}
use Rattle.flow_core.specs.declared.end.End.{End}
use Rattle.flow_core.specs.declared.end.End.TheVariants as end
use Rattle.flow_crew.specs.Done.{AllSucceeds, NeverFails}
use Rattle.flow_crew.specs.Ends.{IsEnd}
use Rattle.flow_crew.proofs.DoneRuns.{are_plain, committed}
use Rattle.flow_form.specs.Script.{Said}
use Rattle.flow_form.specs.Names.{event_names}
use Rattle.flow_text.proofs.OneAnswer.{texts_have_one_answer}
use Rattle.flow_workflow.specs.Definition.{Definition, schema_of}
use Rattle.flow_findings.specs.declared.refused.Refused.{Refused}
use Rattle.flow_words.specs.declared.request.Mode.{Mode}
use Rattle.flow_words.specs.declared.request.Mode.TheVariants as mode
use Rattle.flow_words.specs.declared.request.Request.{Request}
use Rattle.flow_words.specs.declared.purpose.Purpose.{Purpose}
use Rattle.flow_words.specs.declared.purpose.Purpose.TheVariants.{Answer}
use Rattle.flow_words.specs.Words.{OnePurpose}
use Rattle.flow_front.specs.declared.status.Status.{Status}
use Rattle.flow_front.specs.declared.status.Status.TheVariants.{ReadFault}
use Rattle.flow_front.specs.Refusal.{workflow_part, second_part, the_workflow, IsCause}
use Rattle.flow_reply.specs.Verdict.{ended, report_of}
use Rattle.flow_cli.specs.Finding.{Finding, ran, IsWritten}
use Rattle.flow_cli.specs.Run.{IsRunOf, RunsWorkflow, RunsSaid}
use Rattle.flow_cli.specs.Output.{WritesAs, WritesFor}
use Rattle.flow_cli_laws.specs.Done.{IsInputOf, AlwaysSucceeds, ReportsSuccess, DoneRunsAreReported}
use Rattle.flow_cli_laws.proofs.Compilations.{not_refused_within}
use Rattle.flow_cli_laws.proofs.Expansions.{expanded_once, not_both_ways, well_formed}
use Rattle.flow_cli_laws.proofs.TextAnswers.{one_value}
use Rattle.flow_cli_laws.proofs.Whole.{no_fault, source_not_refused, says}

module _ (gives : Call → Outcome → Bool) (w : Definition) (steps workers : ℕ) (formed : IsWellFormed (schema_of w)) (all : AlwaysSucceeds gives w) (room : 2 * length w.tree.labels + 1 ≤ steps)
    (last : Run) (meant : model.Verdict) (run : IsRunOf gives w steps workers last meant) where
  same : schema_of w ≡ schema last
  same = sym (ap schema_of run.definition_is)

  pub succeeds : AllSucceeds gives last
  succeeds = record {
    by_workers = run.by_workers;
    well_formed = subst IsWellFormed same formed;
    consistent = subst IsConsistent same all.consistent;
    never_waits = subst (λ (x : Schema). Each NeverWaits x.labels) same all.never_waits;
    never_fails = subst (NeverFails gives) same all.never_fails;
  }

  abbrev Stands : model.Verdict → Type 0
  Stands v = model.IsRunVerdict (schema last) last.limit last.history v

  commits : (found : End) → IsEnd last found → found ≡ end.Committed
  commits found is =
      let enough = subst (λ n. 2 * length (schema last).labels + 1 ≤ n) (sym run.limit_is) (subst (λ (x : Schema). 2 * length x.labels + 1 ≤ steps) same room) in
      committed gives last succeeds enough found is

  ends : (v : model.Verdict) → Stands v → v ≡ model.committed
  ends model.committed stands = refl
  ends model.spent stands = absurd (let no : end.Spent ≡ end.Committed = commits end.Spent stands in cc)
  ends (model.no_other leaf) stands = absurd (let no : end.NoOther leaf ≡ end.Committed = commits (end.NoOther leaf) stands in cc)
  ends (model.stuck waiting) stands = absurd (let no : end.Stuck ≡ end.Committed = commits end.Stuck (waiting, stands) in cc)
  ends model.unfinished stands = absurd stands

  pub commits_at_once : meant ≡ model.committed
  commits_at_once = ends meant
      (subst (λ n. model.IsRunVerdict (schema last) n last.history meant) (sym run.limit_is)
      (subst (λ x. model.IsRunVerdict x steps last.history meant) same run.stands))

  pub reported : (status : Status) (output : List ℕ) → status ≡ ended meant → output ≡ report_of last meant → ReportsSuccess gives w steps workers status output
  reported status output status_is output_is = record {
    last = last;
    run = subst (IsRunOf gives w steps workers last) commits_at_once run;
    plain = are_plain gives last succeeds;
    status_is = status_is ∙ ap ended commits_at_once;
    output_is = output_is ∙ ap (report_of last) commits_at_once;
  }

module _ (gives : Call → Outcome → Bool) (request : Request) (input : List ℕ) (w : Definition) (is : IsInputOf w input) (all : AlwaysSucceeds gives w)
    (room : 2 * length w.tree.labels + 1 ≤ request.steps) (status : Status) (output : List ℕ) where
  abbrev Succeeds : Type 0
  Succeeds = ReportsSuccess gives w request.steps request.workers status output

  -- what was run is reported
  of_run : (names : List (List ℕ)) (came : Result Finding Refused) → IsWritten names came status output → RunsWorkflow gives w request.steps request.workers came → Succeeds
  of_run names came written (last, (meant, run, found)) =
      let told : IsWritten names (Ok (ran last meant)) status output = subst (λ c. IsWritten names c status output) found written in
      reported gives w request.steps request.workers (well_formed is.said w is.expanded) all room last meant run status output told.status_is told.output_is

  -- a workflow within the limits that has an execution is not refused
  of_said : (came : Result Finding Refused) → IsWritten (event_names is.said.decls) came status output → RunsSaid gives is.said request.steps request.workers came → Succeeds
  of_said came written (inl (why, cause, refused)) = absurd (not_both_ways is.said is.says.named.once why w cause is.expanded)
  of_said came written (inr (v, expanded, inl (why, cause, refused))) =
      absurd (not_refused_within (schema_of w) why (subst (λ (u : Definition). IsCause (the_workflow (schema_of u)) why) (expanded_once is.said is.says.named.once v w expanded is.expanded) cause)
      all.within all.consistent)
  of_said came written (inr (v, expanded, inr (c, compiled, runs))) =
      of_run (event_names is.said.decls) came written
      (subst (λ (u : Definition). RunsWorkflow gives u request.steps request.workers came) (expanded_once is.said is.says.named.once v w expanded is.expanded) runs)

  pub of_input : ¬ (status ≡ ReadFault) → WritesAs mode.Run gives request (Some input) status output → Succeeds
  of_input fine (inl p) = absurd (source_not_refused input p.why is.said (second_part input) (no_fault p.why status output fine p.told) p.cause
      (input, refl, record { short = is.short; says = is.says; second_is = refl }))
  of_input fine (inr p) =
      let (came, may, written) = p.told in
      let one : p.said ≡ is.said = one_value (Ok p.said) (Ok is.said) p.said is.said refl refl
      (texts_have_one_answer (workflow_part input) (Ok p.said) (Ok is.said) (says input p.said p.second p.read).0 is.says) in
      of_said came (subst (λ (s : Said). IsWritten (event_names s.decls) came status output) one written)
      (subst (λ (s : Said). RunsSaid gives s request.steps request.workers came) one may)

-- words are for one purpose
pub done_runs_are_reported : OnePurpose → DoneRunsAreReported
done_runs_are_reported one gives words request input w call run is all room status output fine (inl (none, told)) = absurd (none (Answer request) call)
done_runs_are_reported one gives words request input w call run is all room status output fine (inr (purpose, is_for, writes)) =
    of_input gives request input w is all room status output fine
    (subst (λ (m : Mode). WritesAs m gives request (Some input) status output) run
    (subst (λ (p : Purpose). WritesFor p gives (Some input) status output) (one words purpose (Answer request) is_for call) writes))
