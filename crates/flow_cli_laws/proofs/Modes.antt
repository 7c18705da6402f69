-- Two things that may come of a mode for what is said agree, but for what is shown of which any will do.
use Rattle.std.proofs.Common.{◌≡◌, ◌⊎◌, ℕ, List, Result, subst, inl, inr, refl, sym, ap, ◌∙◌, ◌<◌, length, Some, Ok, Err, arith, slice_get}
use Rattle.std.proofs.lemmas.Option.{slice_get_within}
use Rattle.flow_model.specs.Lists.{AreDistinct}
use Rattle.flow_model.specs.Constraint.{Constraint}
use Rattle.flow_form.specs.Script.{Said, Asked, holds, redundant}
use Rattle.flow_form.specs.Names.{declared_names, event_names}
use Rattle.flow_text.specs.Saying.{Asks}
use Rattle.flow_text.proofs.OneAnswer.{queries_have_one_answer}
use Rattle.flow_workflow.specs.Definition.{Definition, schema_of}
use Rattle.flow_expand.specs.Constraints.{constraint_of}
use Rattle.flow_expand.specs.Workflows.{IsExpanded}
use Rattle.flow_plan.specs.Compilation.{Compilation, IsCompiled, IsWithinLimits}
use Rattle.flow_record.specs.declared.refusal.RecordRefusal.{RecordRefusal}
use Rattle.flow_record.specs.declared.refusal.RecordRefusal.TheVariants as record_refusal
use Rattle.flow_record.specs.declared.command.Command.{Command}
use Rattle.flow_record.specs.Journal.{journal_of, journal}
use Rattle.flow_record.specs.Session.{SessionText, session_of, commands}
use Rattle.flow_policy.specs.declared.duty.Duty.{Duty}
use Rattle.flow_policy.specs.Assigned.{Assigned}
use Rattle.flow_policy.specs.Policy.{IsPolicyOf}
use Rattle.flow_policy.specs.Laws.{PoliciesAreSingle}
use Rattle.flow_policy.specs.Session.{duties_of}
use Rattle.flow_duty.specs.Single.{UserSessionsAreSingle}
use Rattle.flow_verify.specs.declared.answers.Verified.{Verified}
use Rattle.flow_verify.specs.declared.answers.Verified.TheVariants.{Holds, Fails}
use Rattle.flow_verify.specs.declared.answers.Redundancy.{Redundancy}
use Rattle.flow_verify.specs.declared.answers.Redundancy.TheVariants.{Redundant, Needed}
use Rattle.flow_verify.specs.Verification.{against, without, TellsOfProperty, TellsOfConstraint}
use Rattle.flow_findings.specs.declared.refused.Refused.{Refused}
use Rattle.flow_findings.specs.declared.refused.Refused.TheVariants as refused
use Rattle.flow_front.specs.Refusal.{the_session, the_query, the_policy, the_duties, the_journals, the_script, the_journal, the_index, the_workflow, the_question, IsCause, IsJournalRefusal}
use Rattle.flow_cli.specs.Finding.{Finding, verified, tried}
use Rattle.flow_cli.specs.Check.{FindsConsistent, ChecksWorkflow, Checks}
use Rattle.flow_cli.specs.Drive.{DrivesWorkflow, DrivesSaid, DrivesText}
use Rattle.flow_cli.specs.Trace.{FindsOfLeaves, TracesLeaves, TracesWorkflow, TracesText}
use Rattle.flow_cli.specs.Audit.{HasJournals, FindsOfJournals, AuditsSaid, AuditsText}
use Rattle.flow_cli.specs.Duty.{policy_part, session_part, DrivesUsers, DutySaid, DutyLines, DutyText}
use Rattle.flow_cli.specs.Verify.{VerifiesProperty, TriesConstraint, VerifiesConstraint, VerifiesWorkflow, VerifiesSaid, VerifiesText}
use Rattle.flow_front.specs.Prepared.{OfWorkflow}
use Rattle.flow_front.specs.Stages.{Then}
use Rattle.flow_cli_laws.specs.Single.{IsSingle, OfQuery, ShowsChain, ShowsCircles, ShowsCause, ShowsBreach, ShowsNeed, ShowsExecution, ShowsAsked}
use Rattle.flow_cli_laws.proofs.Agreeing.{Agree, same, wider, then_agree, of_one}
use Rattle.flow_cli_laws.proofs.Compilations.{question_refused_once, question_not_refused, workflow_refused_alike, workflow_not_refused}
use Rattle.flow_cli_laws.proofs.Expansions.{expanded_once, refused_alike, not_both_ways}
use Rattle.flow_cli_laws.proofs.Once.{checks_once, traces_once, audits_once, sessions_once, duty_sessions_once}
use Rattle.flow_cli_laws.proofs.TextAnswers.{of_text, of_policy, one_refusal, one_value, not_both}

module _ (s : Said) (once : AreDistinct (declared_names s.decls)) where
  abbrev Agrees : (List ℕ → List ℕ → Type 0) → Result Finding Refused → Result Finding Refused → Type 0
  Agrees Shows a b = Agree (event_names s.decls) Shows a b

  -- a chain, or something of the workflow
  abbrev OfChain : (Definition → List ℕ → List ℕ → Type 0) → List ℕ → List ℕ → Type 0
  OfChain Show output text = ShowsChain s output text ⊎ OfWorkflow s (λ w. Show w output text)

  -- what is said has one workflow, of which what comes agrees, or one reason why it has none
  said_once : (P : Definition → Result Finding Refused → Type 0) (Show : Definition → List ℕ → List ℕ → Type 0) →
      ((w : Definition) (a b : Result Finding Refused) → P w a → P w b → Agrees (Show w) a b) → (a b : Result Finding Refused) →
      Then (the_script s) (IsExpanded s) P a → Then (the_script s) (IsExpanded s) P b →
      Agrees (OfChain Show) a b
  said_once P Show each = then_agree (event_names s.decls) (the_script s) (IsExpanded s) P (OfChain Show)
      (λ r q h g. wider (event_names s.decls) (ShowsChain s) (OfChain Show) (Err r) (Err q) (λ output text shows. inl shows) (refused_alike s once r q h g)) (not_both_ways s once)
      (of_one (event_names s.decls) (IsExpanded s) P (OfChain Show) (λ w v x y. expanded_once s once v w y x)
      (λ w a b x p q. wider (event_names s.decls) (Show w) (OfChain Show) a b (λ output text shows. inr (w, x, shows)) (each w a b p q)))

  -- a workflow is refused in one way but for the circles, or one thing is found of its plans
  compiled_once : (w : Definition) (P : Compilation → Result Finding Refused → Type 0) →
      IsSingle (λ came. (c : Compilation) × IsCompiled (schema_of w) c × P c came) → (a b : Result Finding Refused) →
      Then (the_workflow (schema_of w)) (IsCompiled (schema_of w)) P a → Then (the_workflow (schema_of w)) (IsCompiled (schema_of w)) P b → Agrees (ShowsCircles w) a b
  compiled_once w P single = then_agree (event_names s.decls) (the_workflow (schema_of w)) (IsCompiled (schema_of w)) P (ShowsCircles w)
      (workflow_refused_alike (event_names s.decls) w) (workflow_not_refused (schema_of w))
      (λ c d a b x y p q. same (event_names s.decls) (ShowsCircles w) a b (single a b (c, x, p) (d, y, q)))

  -- ---- `check`

  pub check_agrees : (a b : Result Finding Refused) → Checks s a → Checks s b → Agrees (ShowsCause s) a b
  check_agrees = said_once ChecksWorkflow ShowsCircles (λ w. compiled_once w (FindsConsistent w) (checks_once w))

  -- ---- `drive`

  session_refused_once : (text : List ℕ) (r q : Refused) → IsCause (the_session text) r → IsCause (the_session text) q → r ≡ q
  session_refused_once text (refused.Record (record_refusal.BadLine n)) (refused.Record (record_refusal.BadLine m)) h g = cc
  session_refused_once text r q h g = absurd (assumption)

  no_session : (text : List ℕ) (r : Refused) (session : List Command) → IsCause (the_session text) r → session_of text ≡ commands session → ⊥
  no_session text (refused.Record (record_refusal.BadLine n)) session h is = cc
  no_session text r session h is = h

  one_session : {A : Type 0} (text : SessionText A) (x y : List A) → text ≡ commands x → text ≡ commands y → y ≡ x
  one_session text x y is are = cc

  drives_once : (steps : ℕ) (session : List Command) (a b : Result Finding Refused) → DrivesSaid s steps session a → DrivesSaid s steps session b → Agrees (ShowsCause s) a b
  drives_once steps session = said_once (λ w came. Then (the_workflow (schema_of w)) (IsCompiled (schema_of w)) (λ c. DrivesWorkflow w steps session) came) ShowsCircles
      (λ w. compiled_once w (λ c. DrivesWorkflow w steps session) (λ a b p q. sessions_once w steps session a b p.2 q.2))

  pub drive_agrees : (steps : ℕ) (text : List ℕ) (a b : Result Finding Refused) → DrivesText s steps text a → DrivesText s steps text b → Agrees (ShowsCause s) a b
  drive_agrees steps text = then_agree (event_names s.decls) (the_session text) (λ session. session_of text ≡ commands session) (DrivesSaid s steps) (ShowsCause s)
      (λ r q h g. same (event_names s.decls) (ShowsCause s) (Err r) (Err q) (ap Err (session_refused_once text r q h g))) (no_session text)
      (of_one (event_names s.decls) (λ session. session_of text ≡ commands session) (DrivesSaid s steps) (ShowsCause s) (one_session (session_of text))
      (λ session a b is. drives_once steps session a b))

  -- ---- `duty`

  module _ (policies : PoliciesAreSingle) (users : UserSessionsAreSingle) where
    policy_refused_once : (text : List ℕ) (r q : Refused) → IsCause (the_policy s text) r → IsCause (the_policy s text) q → r ≡ q
    policy_refused_once text (refused.Policy r) (refused.Policy q) (of, h) (are, g) =
        ap refused.Policy (one_refusal (Err r) (Err q) r q refl refl (policies text s (Err r) (Err q) (h, of_policy r of) (g, of_policy q are)))
    policy_refused_once text r q h g = absurd (assumption)

    no_policy : (text : List ℕ) (r : Refused) (a : Assigned) → IsCause (the_policy s text) r → IsPolicyOf text s a → ⊥
    no_policy text (refused.Policy r) a (of, h) is = not_both (Err r) (Ok a) r a refl refl (policies text s (Err r) (Ok a) (h, of_policy r of) is)
    no_policy text r a h is = h

    one_policy : (text : List ℕ) (x y : Assigned) → IsPolicyOf text s x → IsPolicyOf text s y → y ≡ x
    one_policy text x y is are = one_value (Ok y) (Ok x) y x refl refl (policies text s (Ok y) (Ok x) are is)

    duties_refused_once : (text : List ℕ) (r q : Refused) → IsCause (the_duties text) r → IsCause (the_duties text) q → r ≡ q
    duties_refused_once text (refused.Record (record_refusal.BadLine n)) (refused.Record (record_refusal.BadLine m)) h g = cc
    duties_refused_once text r q h g = absurd (assumption)

    no_duties : (text : List ℕ) (r : Refused) (session : List Duty) → IsCause (the_duties text) r → duties_of text ≡ commands session → ⊥
    no_duties text (refused.Record (record_refusal.BadLine n)) session h is = cc
    no_duties text r session h is = h

    module _ (steps : ℕ) (of : List ℕ) (a : Assigned) (policy : IsPolicyOf of s a) where
      duty_said_once : (session : List Duty) (x y : Result Finding Refused) → DutySaid s steps a session x → DutySaid s steps a session y → Agrees (ShowsCause s) x y
      duty_said_once session = said_once (λ w came. Then (the_workflow (schema_of w)) (IsCompiled (schema_of w)) (λ c. DrivesUsers w steps a session) came) ShowsCircles
          (λ w. compiled_once w (λ c. DrivesUsers w steps a session) (λ x y p q. duty_sessions_once users w steps of s a policy session x y p.2 q.2))

      duty_lines_once : (text : List ℕ) (x y : Result Finding Refused) → DutyLines s steps text a x → DutyLines s steps text a y → Agrees (ShowsCause s) x y
      duty_lines_once text = then_agree (event_names s.decls) (the_duties text) (λ session. duties_of text ≡ commands session) (DutySaid s steps a) (ShowsCause s)
          (λ r q h g. same (event_names s.decls) (ShowsCause s) (Err r) (Err q) (ap Err (duties_refused_once text r q h g))) (no_duties text)
          (of_one (event_names s.decls) (λ session. duties_of text ≡ commands session) (DutySaid s steps a) (ShowsCause s) (one_session (duties_of text))
          (λ session x y is. duty_said_once session x y))

    pub duty_agrees : (steps : ℕ) (text : List ℕ) (a b : Result Finding Refused) → DutyText s steps text a → DutyText s steps text b → Agrees (ShowsCause s) a b
    duty_agrees steps text = then_agree (event_names s.decls) (the_policy s (policy_part text)) (IsPolicyOf (policy_part text) s) (DutyLines s steps (session_part text)) (ShowsCause s)
        (λ r q h g. same (event_names s.decls) (ShowsCause s) (Err r) (Err q) (ap Err (policy_refused_once (policy_part text) r q h g))) (no_policy (policy_part text))
        (of_one (event_names s.decls) (IsPolicyOf (policy_part text) s) (DutyLines s steps (session_part text)) (ShowsCause s) (one_policy (policy_part text))
        (λ a x y policy. duty_lines_once steps (policy_part text) a policy (session_part text) x y))

  -- ---- `trace`

  journal_refused_once : (w : Definition) (text : List ℕ) (r q : RecordRefusal) → IsJournalRefusal w text r → IsJournalRefusal w text q → r ≡ q
  journal_refused_once w text record_refusal.NoMemory q h g = absurd h
  journal_refused_once w text r record_refusal.NoMemory h g = absurd g
  journal_refused_once w text r q h g = cc

  records_refused_once : (w : Definition) (text : List ℕ) (r q : Refused) → IsCause (the_journal w text) r → IsCause (the_journal w text) q → r ≡ q
  records_refused_once w text (refused.Record r) (refused.Record q) h g = ap refused.Record (journal_refused_once w text r q h g)
  records_refused_once w text r q h g = absurd (assumption)

  no_leaves : (w : Definition) (text leaves : List ℕ) (r : RecordRefusal) → IsJournalRefusal w text r → journal_of w text ≡ journal leaves → ⊥
  no_leaves w text leaves record_refusal.NoMemory h is = h
  no_leaves w text leaves r h is = cc

  no_journal : (w : Definition) (text : List ℕ) (r : Refused) (leaves : List ℕ) → IsCause (the_journal w text) r → journal_of w text ≡ journal leaves → ⊥
  no_journal w text (refused.Record r) leaves h is = no_leaves w text leaves r h is
  no_journal w text r leaves h is = h

  one_journal : (w : Definition) (text x y : List ℕ) → journal_of w text ≡ journal x → journal_of w text ≡ journal y → y ≡ x
  one_journal w text x y is are = cc

  traces_leaves_once : (w : Definition) (leaves : List ℕ) (a b : Result Finding Refused) → TracesLeaves w leaves a → TracesLeaves w leaves b → Agrees (ShowsCircles w) a b
  traces_leaves_once w leaves = compiled_once w (λ c. FindsOfLeaves w leaves) (λ a b p q. traces_once w leaves a b p.2 q.2)

  workflow_traces_once : (text : List ℕ) (w : Definition) (a b : Result Finding Refused) → TracesWorkflow w text a → TracesWorkflow w text b → Agrees (ShowsCircles w) a b
  workflow_traces_once text w = then_agree (event_names s.decls) (the_journal w text) (λ leaves. journal_of w text ≡ journal leaves) (TracesLeaves w) (ShowsCircles w)
      (λ r q h g. same (event_names s.decls) (ShowsCircles w) (Err r) (Err q) (ap Err (records_refused_once w text r q h g))) (no_journal w text)
      (of_one (event_names s.decls) (λ leaves. journal_of w text ≡ journal leaves) (TracesLeaves w) (ShowsCircles w) (one_journal w text)
      (λ leaves a b is. traces_leaves_once w leaves a b))

  pub trace_agrees : (text : List ℕ) (a b : Result Finding Refused) → TracesText s text a → TracesText s text b → Agrees (ShowsCause s) a b
  trace_agrees text = said_once (λ w. TracesWorkflow w text) ShowsCircles (workflow_traces_once text)

  -- ---- `audit`

  journals_refused_once : (text : List ℕ) (r q : Refused) → IsCause (the_journals text) r → IsCause (the_journals text) q → r ≡ q
  journals_refused_once text (refused.Journals n) (refused.Journals m) h g = ap refused.Journals (h.0 ∙ sym g.0)
  journals_refused_once text r q h g = absurd (assumption)

  not_too_many : (text : List ℕ) (r : Refused) (cuts : List (ℕ × ℕ)) → IsCause (the_journals text) r → HasJournals text cuts → ⊥
  not_too_many text (refused.Journals n) cuts h has = omega (arith, h.0, h.1, has.1, ap length has.0)
  not_too_many text r cuts h has = h

  audits_said_once : (text : List ℕ) (cuts : List (ℕ × ℕ)) (a b : Result Finding Refused) → AuditsSaid s text cuts a → AuditsSaid s text cuts b → Agrees (ShowsCause s) a b
  audits_said_once text cuts = said_once (λ w came. Then (the_workflow (schema_of w)) (IsCompiled (schema_of w)) (λ c. FindsOfJournals w text cuts) came) ShowsCircles
      (λ w. compiled_once w (λ c. FindsOfJournals w text cuts) (λ a b p q. audits_once w text cuts a b p.2 q.2))

  pub audit_agrees : (text : List ℕ) (a b : Result Finding Refused) → AuditsText s text a → AuditsText s text b → Agrees (ShowsCause s) a b
  audit_agrees text = then_agree (event_names s.decls) (the_journals text) (HasJournals text) (AuditsSaid s text) (ShowsCause s)
      (λ r q h g. same (event_names s.decls) (ShowsCause s) (Err r) (Err q) (ap Err (journals_refused_once text r q h g))) (not_too_many text)
      (of_one (event_names s.decls) (HasJournals text) (AuditsSaid s text) (ShowsCause s) (λ x y has have. have.0 ∙ sym has.0)
      (λ cuts a b has. audits_said_once text cuts a b))

  -- ---- `verify`

  breach_once : (w : Definition) (property : Constraint) (a b : Verified) → TellsOfProperty (schema_of w) property a → TellsOfProperty (schema_of w) property b →
      Agrees (ShowsBreach w property) (Ok (verified w a)) (Ok (verified w b))
  breach_once w property Holds Holds h g = (refl, inl refl)
  breach_once w property Holds (Fails t) h g = absurd (g.1 (h t.items g.0))
  breach_once w property (Fails t) Holds h g = absurd (h.1 (g t.items h.0))
  breach_once w property (Fails t) (Fails u) h g = (refl, inr (record { one = t; other = u; one_has = h; other_has = g; output_is = refl; text_is = refl }))

  need_once : (w : Definition) (index : ℕ) (a b : Redundancy) → TellsOfConstraint (schema_of w) index a → TellsOfConstraint (schema_of w) index b →
      Agrees (ShowsNeed w index) (Ok (tried w a)) (Ok (tried w b))
  need_once w index Redundant Redundant h g = (refl, inl refl)
  need_once w index Redundant (Needed t) h g = absurd (g.1 (h t.items g.0))
  need_once w index (Needed t) Redundant h g = absurd (h.1 (g t.items h.0))
  need_once w index (Needed t) (Needed u) h g = (refl, inr (record { one = t; other = u; one_has = h; other_has = g; output_is = refl; text_is = refl }))

  -- something is found, of which that is told
  found_as : {A : Type 0} (Shows : List ℕ → List ℕ → Type 0) (f : A → Finding) (x y : A) (a b : Result Finding Refused) → a ≡ Ok (f x) → b ≡ Ok (f y) →
      Agrees Shows (Ok (f x)) (Ok (f y)) → Agrees Shows a b
  found_as Shows f x y a b is are agrees =
      subst (λ (c : Result Finding Refused). Agrees Shows c b) (sym is) (subst (Agrees Shows (Ok (f x))) (sym are) agrees)

  property_once : (w : Definition) (property : Constraint) (a b : Result Finding Refused) → VerifiesProperty w property a → VerifiesProperty w property b →
      Agrees (ShowsBreach w property) a b
  property_once w property = then_agree (event_names s.decls) (the_question (against (schema_of w) property))
      (λ (told : Verified). IsWithinLimits (against (schema_of w) property) × TellsOfProperty (schema_of w) property told) (λ told came. came ≡ Ok (verified w told))
      (ShowsBreach w property)
      (λ r q h g. same (event_names s.decls) (ShowsBreach w property) (Err r) (Err q) (ap Err (question_refused_once (against (schema_of w) property) r q h g)))
      (λ r told h has. question_not_refused (against (schema_of w) property) r h has.0)
      (λ x y a b h g is are. found_as (ShowsBreach w property) (verified w) x y a b is are (breach_once w property x y h.1 g.1))

  tries_once : (w : Definition) (index : ℕ) (rule : Constraint) (a b : Result Finding Refused) → TriesConstraint w index rule a → TriesConstraint w index rule b →
      Agrees (ShowsNeed w index) a b
  tries_once w index rule = then_agree (event_names s.decls) (the_question (against (without (schema_of w) index) rule))
      (λ (told : Redundancy). IsWithinLimits (against (without (schema_of w) index) rule) × TellsOfConstraint (schema_of w) index told) (λ told came. came ≡ Ok (tried w told))
      (ShowsNeed w index)
      (λ r q h g. same (event_names s.decls) (ShowsNeed w index) (Err r) (Err q) (ap Err (question_refused_once (against (without (schema_of w) index) rule) r q h g)))
      (λ r told h has. question_not_refused (against (without (schema_of w) index) rule) r h has.0)
      (λ x y a b h g is are. found_as (ShowsNeed w index) (tried w) x y a b is are (need_once w index x y h.1 g.1))

  index_refused_once : (w : Definition) (index : ℕ) (r q : Refused) → IsCause (the_index w index) r → IsCause (the_index w index) q → r ≡ q
  index_refused_once w index (refused.NoRule n) (refused.NoRule m) h g = ap refused.NoRule (h.0 ∙ sym g.0)
  index_refused_once w index r q h g = absurd (assumption)

  past_end : (w : Definition) (index : ℕ) (r : Refused) (rule : Constraint) → IsCause (the_index w index) r → slice_get w.rules index ≡ Some rule → ⊥
  past_end w index (refused.NoRule n) rule h is = let within : index < length w.rules = slice_get_within w.rules index rule is in omega (arith, h.1, within)
  past_end w index r rule h is = h

  one_rule : (w : Definition) (index : ℕ) (x y : Constraint) → slice_get w.rules index ≡ Some x → slice_get w.rules index ≡ Some y → y ≡ x
  one_rule w index x y is are = let both : Some y ≡ Some x = sym are ∙ is in cc

  constraint_once : (w : Definition) (index : ℕ) (a b : Result Finding Refused) → VerifiesConstraint w index a → VerifiesConstraint w index b → Agrees (ShowsNeed w index) a b
  constraint_once w index = then_agree (event_names s.decls) (the_index w index) (λ rule. slice_get w.rules index ≡ Some rule) (TriesConstraint w index) (ShowsNeed w index)
      (λ r q h g. same (event_names s.decls) (ShowsNeed w index) (Err r) (Err q) (ap Err (index_refused_once w index r q h g))) (past_end w index)
      (of_one (event_names s.decls) (λ rule. slice_get w.rules index ≡ Some rule) (TriesConstraint w index) (ShowsNeed w index) (one_rule w index)
      (λ rule a b is. tries_once w index rule a b))

  workflow_verifies_once : (query : Asked) (w : Definition) (a b : Result Finding Refused) → VerifiesWorkflow w query a → VerifiesWorkflow w query b →
      Agrees (ShowsExecution w query) a b
  workflow_verifies_once (holds property) w = property_once w (constraint_of w.events property)
  workflow_verifies_once (redundant index) w = constraint_once w index

  query_refused_once : (text : List ℕ) (r q : Refused) → IsCause (the_query s text) r → IsCause (the_query s text) q → r ≡ q
  query_refused_once text (refused.Query r) (refused.Query q) (of, h) (are, g) =
      ap refused.Query (one_refusal (Err r) (Err q) r q refl refl (queries_have_one_answer text s (Err r) (Err q) (h, of_text r of) (g, of_text q are)))
  query_refused_once text r q h g = absurd (assumption)

  no_query : (text : List ℕ) (r : Refused) (query : Asked) → IsCause (the_query s text) r → Asks text s query → ⊥
  no_query text (refused.Query r) query (of, h) asks =
      not_both (Err r) (Ok query) r query refl refl (queries_have_one_answer text s (Err r) (Ok query) (h, of_text r of) asks)
  no_query text r query h asks = h

  one_query : (text : List ℕ) (x y : Asked) → Asks text s x → Asks text s y → y ≡ x
  one_query text x y asks wants = one_value (Ok y) (Ok x) y x refl refl (queries_have_one_answer text s (Ok y) (Ok x) wants asks)

  -- what is shown of a query of this text
  abbrev OfText : List ℕ → List ℕ → List ℕ → Type 0
  OfText text output shown = OfQuery s text (λ query. ShowsAsked s query output shown)

  pub verify_agrees : (text : List ℕ) (a b : Result Finding Refused) → VerifiesText s text a → VerifiesText s text b →
      Agrees (OfText text) a b
  verify_agrees text = then_agree (event_names s.decls) (the_query s text) (Asks text s) (VerifiesSaid s) (OfText text)
      (λ r q h g. same (event_names s.decls) (OfText text) (Err r) (Err q) (ap Err (query_refused_once text r q h g))) (no_query text)
      (of_one (event_names s.decls) (Asks text s) (VerifiesSaid s) (OfText text) (one_query text) (λ query a b asks p q.
      wider (event_names s.decls) (ShowsAsked s query) (OfText text) a b (λ output shown shows. (query, asks, shows))
      (said_once (λ w. VerifiesWorkflow w query) (λ w. ShowsExecution w query) (workflow_verifies_once query) a b p q)))
