-- Sessions of users, one line after another.
use Rattle.std.proofs.Common.{◌≡◌, ℕ, List, [], ◌∷◌, Result, Ok, Err, refl, ap, ◌∙◌, subst}
use Rattle.std.specs.Prelude.{IfOk}
use Rattle.std.specs.declared.alloc.AllocError.{AllocError}
use Rattle.flow_model.specs.Run.{state_of}
use Rattle.flow_model.specs.Takers.{takings_of}
use Rattle.flow_model.specs.Duties.{DutiesHold}
use Rattle.flow_workflow.specs.Definition.{Definition, schema_of}
use Rattle.flow_core.specs.Run.{Run, schema}
use Rattle.flow_core.specs.Lawful.{IsLawful}
use Rattle.flow_front.specs.declared.output.Output.{Output}
use Rattle.flow_reply.specs.Replies.{Goes}
use Rattle.flow_reply.specs.Session.{Driven, came_of, IsDrivenOutput}
use Rattle.flow_reply.proofs.SessionLemmas.{lawful_since, verdict_since}
use Rattle.flow_policy.specs.Assigned.{Assigned}
use Rattle.flow_policy.specs.declared.duty.Duty.{Duty}
use Rattle.flow_roles.specs.Desked.{Desked, KeepsDuties}
use Rattle.flow_duty.specs.Replies.{Replied, DrivesDesk}
use Rattle.flow_duty.specs.Session.{IsUserSession}
use Rattle.flow_duty.proofs.DeskLemmas.{SameDesk, is_same, line_same}

-- a session is of one workflow, one limit and one policy
goes_same : (s t : Desked × ℕ) (session : List Duty) (text : List ℕ) → Goes Replied s session text t → SameDesk s.0 t.0
goes_same s t [] text d = is_same s.0 t.0 (ap (λ (p : Desked × ℕ). p.0) d.1)
goes_same s t (c ∷ session) text (m, (reply, (rest, replied, later, e))) =
    let first = line_same s.0 m.0 s.1 m.1 c reply replied in
    let others = goes_same m t session rest later in
    ((others.0.0 ∙ first.0.0, others.0.1 ∙ first.0.1), others.1 ∙ first.1)

drives_same : (old new : Desked) (by caller : ℕ) (session : List Duty) (text : List ℕ) → DrivesDesk old by session text new caller → SameDesk old new
drives_same old new by caller session text d = goes_same (old, by) (new, caller) session text d

-- what came of a session that was concluded
user_session : (first last : Desked) (by caller : ℕ) (session : List Duty) (replies : List ℕ) → DrivesDesk first by session replies last caller →
    IsLawful (schema last.run) last.run.limit last.run.history → KeepsDuties last → IsUserSession first by session (came_of replies last.run) last caller
user_session first last by caller session replies driven lawful keeps =
    let same : SameDesk first last = drives_same first last by caller session replies driven in record {
      driven = driven;
      last_is = refl;
      lawful = lawful_since first.run last.run same.0 lawful;
      verdict_is = verdict_since first.run last.run same.0;
      kept = λ front begins.
          subst (λ (a : Assigned). DutiesHold (schema first.run) a.duties (state_of (schema first.run) front) (takings_of front)) same.1
          (subst (λ (v : Definition). DutiesHold (schema_of v) last.assigned.duties (state_of (schema_of v) front) (takings_of front)) same.0.0 (keeps front begins));
    }

-- and what is written of the run that it came to
pub session_output : (first last : Desked) (by caller : ℕ) (session : List Duty) (replies : List ℕ) (r : Run) (result : Result Output AllocError) → r ≡ last.run →
    DrivesDesk first by session replies last caller → IsLawful (schema r) r.limit r.history → KeepsDuties last →
    IfOk result (λ output. IsDrivenOutput (came_of replies r) output.status output.text.items) →
    IfOk result (λ output. (d : Driven) × IsUserSession first by session d last caller × IsDrivenOutput d output.status output.text.items)
session_output first last by caller session replies r (Ok output) same driven lawful keeps is = (
  came_of replies last.run,
  user_session first last by caller session replies driven (subst (λ (x : Run). IsLawful (schema x) x.limit x.history) same lawful) keeps,
  subst (λ (x : Run). IsDrivenOutput (came_of replies x) output.status output.text.items) same is,
)
session_output first last by caller session replies r (Err e) same driven lawful keeps is = tt
