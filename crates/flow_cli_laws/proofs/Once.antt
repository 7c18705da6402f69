-- What comes of a workflow is settled.
use Rattle.std.proofs.Common.{◌≡◌, ℕ, List, [], ◌∷◌, length, Ok, inl, inr, sym, ap, ◌∙◌}
use Rattle.std.proofs.lemmas.List.{length-map}
use Rattle.flow_model.specs.Folding.{folded_options}
use Rattle.flow_model.specs.Schema.{Schema}
use Rattle.flow_model.specs.Verdict as model
use Rattle.flow_workflow.specs.Definition.{Definition, schema_of}
use Rattle.flow_plan.specs.declared.counts.Counts.{Counts}
use Rattle.flow_plan.specs.Options.{options_of, AreJustThose, HasExecution, option_of}
use Rattle.flow_plan.specs.Compilation.{Compilation, IsCompiled}
use Rattle.flow_plan.specs.Sampled.{Sampled}
use Rattle.flow_trace.specs.declared.checked.Checked.{Checked}
use Rattle.flow_trace.proofs.TraceLemmas.{tells_once}
use Rattle.flow_audit.specs.declared.finding.Finding as audit
use Rattle.flow_audit.proofs.FindingLemmas.{findings_single}
use Rattle.flow_core.specs.Run.{Run}
use Rattle.flow_record.specs.declared.command.Command.{Command}
use Rattle.flow_reply.proofs.OneReply.{drives_once}
use Rattle.flow_reply.specs.Session.{Driven, IsSession}
use Rattle.flow_duty.specs.Single.{UserSessionsAreSingle}
use Rattle.flow_duty.proofs.Users.{users_distinct}
use Rattle.flow_cli.specs.Finding.{consistent, driven, traced, audited}
use Rattle.flow_cli.specs.Check.{FindsConsistent}
use Rattle.flow_cli.specs.Drive.{driver, first_run, DrivesWorkflow}
use Rattle.flow_cli.specs.Trace.{FindsOfLeaves}
use Rattle.flow_cli.specs.Audit.{FindsOfJournals}
use Rattle.flow_cli.specs.Duty.{nobody, first_desk}
use Rattle.flow_cli_laws.specs.Single.{IsSingle, DutySessionsAreSingle}

-- what comes of a session is one
driven_once : (first : Run) (by : ℕ) (session : List Command) (a b : Driven) → IsSession first by session a → IsSession first by session b → a ≡ b
driven_once first by session a b p q =
    let d = drives_once by first a.last b.last session a.replies b.replies p.driven q.driven in
    λ i. record {
      replies = d.0 i;
      last = d.1 i;
      verdict = (p.verdict_is ∙ ap (λ (r : Run). model.drive_verdict (schema_of first.definition) first.limit r.history) d.1 ∙ sym q.verdict_is) i;
    }

-- a workflow that is driven by a session
pub sessions_once : (w : Definition) (steps : ℕ) (session : List Command) → IsSingle (DrivesWorkflow w steps session)
sessions_once w steps session one other (a, p, is) (b, q, are) =
    is ∙ ap (λ (d : Driven). Ok (driven d)) (driven_once (first_run w steps) driver session a b p q) ∙ sym are

-- a workflow that is driven by users under a policy
pub duty_sessions_once : UserSessionsAreSingle → DutySessionsAreSingle
duty_sessions_once users w steps text s a policy session one other (d, (last, (caller, (p, is)))) (e, (final, (user, (q, are)))) =
    let same = users (first_desk w steps a) nobody session (users_distinct text s a policy) d e last final caller user p q in
    is ∙ ap (λ (x : Driven). Ok (driven x)) same.0 ∙ sym are

-- a list of leaves that is checked against a workflow
pub traces_once : (w : Definition) (leaves : List ℕ) → IsSingle (FindsOfLeaves w leaves)
traces_once w leaves one other (a, p, is) (b, q, are) =
    is ∙ ap (λ (checked : Checked). Ok (traced checked)) (tells_once (schema_of w) leaves a b p q) ∙ sym are

-- journals that are checked against it
pub audits_once : (w : Definition) (text : List ℕ) (cuts : List (ℕ × ℕ)) → IsSingle (FindsOfJournals w text cuts)
audits_once w text cuts one other (a, p, is) (b, q, are) =
    is ∙ ap (λ (found : List audit.Finding). Ok (audited found)) (findings_single w text cuts a b p q) ∙ sym are

-- a list has one list of just those members that have P
just_once : {A : Type 0} (P : A → Type 0) (xs ys zs : List A) → AreJustThose P xs ys → AreJustThose P xs zs → ys ≡ zs
just_once P [] ys zs p q = p ∙ sym q
just_once P (x ∷ xs) ys zs (inl (has, (rest, is, p))) (inl (has', (rest', is', q))) =
    is ∙ ap (λ r. x ∷ r) (just_once P xs rest rest' p q) ∙ sym is'
just_once P (x ∷ xs) ys zs (inl (has, others)) (inr (not, q)) = absurd (not has)
just_once P (x ∷ xs) ys zs (inr (not, p)) (inl (has, others)) = absurd (not has)
just_once P (x ∷ xs) ys zs (inr (not, p)) (inr (not', q)) = just_once P xs ys zs p q

-- a compiled workflow has one count of each kind
pub counts_once : (w : Schema) (a b : Compilation) → IsCompiled w a → IsCompiled w b → a.counts.live ≡ length a.plans → b.counts.live ≡ length b.plans → a.counts ≡ b.counts
counts_once w a b p q live live' =
    let plans : options_of a.plans ≡ options_of b.plans = just_once HasExecution (folded_options w) (options_of a.plans) (options_of b.plans) p.plans q.plans in
    let many : length a.plans ≡ length b.plans =
    sym (length-map a.plans (λ (s : Sampled). option_of s.plan)) ∙ ap (λ os. length os) plans ∙ length-map b.plans (λ (s : Sampled). option_of s.plan) in
    λ i. record {
      resolutions = (p.resolutions ∙ sym q.resolutions) i;
      options = (p.options_counted ∙ sym q.options_counted) i;
      bulk = (p.bulk_counted ∙ sym q.bulk_counted) i;
      live = (live ∙ many ∙ sym live') i;
    }

-- a workflow that is checked and found consistent
pub checks_once : (w : Definition) → IsSingle (λ came. (c : Compilation) × IsCompiled (schema_of w) c × FindsConsistent w c came)
checks_once w one other (a, p, (live, is)) (b, q, (alive, are)) =
    is ∙ ap (λ (counts : Counts). Ok (consistent w counts)) (counts_once (schema_of w) a b p q live alive) ∙ sym are
