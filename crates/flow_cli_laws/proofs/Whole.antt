-- Two outputs for the same words and the same input.
use Rattle.std.proofs.Common.{◌≡◌, ℕ, List, [], Bool, Some, Result, Ok, Err, inl, inr, ◌⊎◌, ⊎_elim, refl, sym, ap, subst, length, ◌∙◌, arith}
use Rattle.flow_model.specs.declared.history.Call.{Call}
use Rattle.flow_model.specs.declared.history.Outcome.{Outcome}
use Rattle.flow_form.specs.Script.{Said}
use Rattle.flow_form.specs.Names.{event_names}
use Rattle.flow_text.specs.Saying.{Says}
use Rattle.flow_text.specs.Parser.{IsParseRefusal}
use Rattle.flow_text.proofs.OneAnswer.{texts_have_one_answer}
use Rattle.flow_findings.specs.declared.refused.Refused.{Refused}
use Rattle.flow_findings.specs.declared.refused.Refused.TheVariants as refused
use Rattle.flow_findings.specs.Refusing.{refused_text}
use Rattle.flow_words.specs.declared.purpose.Purpose.{Purpose}
use Rattle.flow_words.specs.declared.purpose.Purpose.TheVariants.{Answer, Help, Version}
use Rattle.flow_words.specs.declared.request.Mode.{Mode}
use Rattle.flow_words.specs.declared.request.Mode.TheVariants.{Drive, Run, Check, Verify, Trace, Gen, Large, Duty, Audit}
use Rattle.flow_words.specs.declared.request.Request.{Request}
use Rattle.flow_words.specs.Words.{IsCall, IsFor, OnePurpose}
use Rattle.flow_front.specs.declared.status.Status.{Status}
use Rattle.flow_front.specs.declared.status.Status.TheVariants.{ReadFault}
use Rattle.flow_front.specs.Status.{status_of, Tells}
use Rattle.flow_front.specs.Refusal.{workflow_part, second_part, the_source, IsCause}
use Rattle.flow_front.specs.Input.{IsInputOf}
use Rattle.flow_policy.specs.Laws.{PoliciesAreSingle}
use Rattle.flow_duty.specs.Single.{UserSessionsAreSingle}
use Rattle.flow_cli.specs.Finding.{Finding, came_text, IsWritten}
use Rattle.flow_cli.specs.Output.{AsksNoGate, Finds, WritesOf, WritesAs, WritesFor}
use Rattle.flow_cli_laws.specs.Single.{Agree as OutputsAgree, Shows, OutputsAreSingle}
use Rattle.flow_cli_laws.proofs.Agreeing.{Agree}
use Rattle.flow_cli_laws.proofs.TextAnswers.{of_text, one_refusal, one_value, not_both}
use Rattle.flow_cli_laws.proofs.Modes.{check_agrees, drive_agrees, duty_agrees, trace_agrees, audit_agrees, verify_agrees}

-- what is told of one refusal is one
told_once : (events : List (List ℕ)) (r q : Refused) (status other : Status) (output text : List ℕ) → r ≡ q →
    Tells events r status output → Tells events q other text → (status ≡ other) × (output ≡ text)
told_once events r q status other output text e p t =
    (p.status_is ∙ ap status_of e ∙ sym t.status_is, p.output_is ∙ ap (refused_text events) e ∙ sym t.output_is)

-- a source that did not fail is not refused for that
pub no_fault : (why : Refused) (s : Status) (o : List ℕ) → ¬ (s ≡ ReadFault) → Tells [] why s o → ¬ (why ≡ refused.Read)
no_fault why s o fine told is = fine (told.status_is ∙ ap status_of is)

module _ (input : List ℕ) where
  -- a source that tells its bytes, and did not fail, is refused for one cause, or says one thing
  source_refused_once : (r q : Refused) → ¬ (r ≡ refused.Read) → ¬ (q ≡ refused.Read) → IsCause (the_source (Some input)) r → IsCause (the_source (Some input)) q → r ≡ q
  source_refused_once refused.Read q fine also h g = absurd (fine refl)
  source_refused_once r refused.Read fine also h g = absurd (also refl)
  source_refused_once refused.TooLong refused.TooLong fine also h g = refl
  source_refused_once refused.TooLong (refused.Text q) fine also (a, is, long) (b, are, short, of, first) = absurd (omega (arith, long, short, ap length (is ∙ sym are)))
  source_refused_once (refused.Text r) refused.TooLong fine also (a, is, short, of, first) (b, are, long) = absurd (omega (arith, long, short, ap length (is ∙ sym are)))
  source_refused_once (refused.Text r) (refused.Text q) fine also (a, is, short, of, first) (b, are, brief, told, other) =
      ap refused.Text (one_refusal (Err r) (Err q) r q refl refl (texts_have_one_answer (workflow_part input) (Err r) (Err q)
      (subst (λ (xs : List ℕ). IsParseRefusal (workflow_part xs) r) is first, of_text r of)
      (subst (λ (xs : List ℕ). IsParseRefusal (workflow_part xs) q) are other, of_text q told)))
  source_refused_once r q fine also h g = absurd (assumption)

  pub source_not_refused : (r : Refused) (s : Said) (second : List ℕ) → ¬ (r ≡ refused.Read) → IsCause (the_source (Some input)) r → IsInputOf (Some input) s second → ⊥
  source_not_refused refused.Read s second fine h is = fine refl
  source_not_refused refused.TooLong s second fine (a, is, long) (b, are, whole) = omega (arith, long, whole.short, ap length (is ∙ sym are))
  source_not_refused (refused.Text r) s second fine (a, is, short, of, first) (b, are, whole) =
      not_both (Err r) (Ok s) r s refl refl (texts_have_one_answer (workflow_part input) (Err r) (Ok s)
      (subst (λ (xs : List ℕ). IsParseRefusal (workflow_part xs) r) is first, of_text r of) (subst (λ (xs : List ℕ). Says (workflow_part xs) s) are whole.says))
  source_not_refused r s second fine h is = h

  pub says : (s : Said) (second : List ℕ) → IsInputOf (Some input) s second → Says (workflow_part input) s × (second ≡ second_part input)
  says s second (a, is, whole) = (subst (λ (xs : List ℕ). Says (workflow_part xs) s) is whole.says, whole.second_is ∙ ap second_part is)

  module _ (status other : Status) (output text : List ℕ) where
    -- ---- one mode

    -- the status is the same, and the output too, but for what the mode shows
    abbrev Settled : Mode → Type 0
    Settled mode = (status ≡ other) × ((output ≡ text) ⊎ ((s : Said) × Says (workflow_part input) s × Shows mode s (second_part input) output text))

    agreed : (mode : Mode) (s : Said) (a b : Result Finding Refused) → Says (workflow_part input) s →
        Agree (event_names s.decls) (Shows mode s (second_part input)) a b → IsWritten (event_names s.decls) a status output →
        IsWritten (event_names s.decls) b other text → Settled mode
    agreed mode s a b says (is, same) p q = (
      p.status_is ∙ is ∙ sym q.status_is,
      ⊎_elim (λ e. inl (p.output_is ∙ e ∙ sym q.output_is))
          (λ shows. inr (
            s,
            says,
            subst (λ (o : List ℕ). Shows mode s (second_part input) o text) (sym p.output_is)
                (subst (Shows mode s (second_part input) (came_text (event_names s.decls) a)) (sym q.output_is) shows),
          )) same,
    )

    -- what is read of a source is refused for both, or says one thing for both
    read_once : (mode : Mode) (P : Said → List ℕ → Result Finding Refused → Type 0) →
        ((s : Said) → Says (workflow_part input) s → (a b : Result Finding Refused) → P s (second_part input) a → P s (second_part input) b →
        Agree (event_names s.decls) (Shows mode s (second_part input)) a b) →
        ¬ (status ≡ ReadFault) → ¬ (other ≡ ReadFault) → WritesOf P (Some input) status output → WritesOf P (Some input) other text → Settled mode
    read_once mode P agrees fine also (inl p) (inl q) =
        let same = told_once [] p.why q.why status other output text
        (source_refused_once p.why q.why (no_fault p.why status output fine p.told) (no_fault q.why other text also q.told) p.cause q.cause) p.told q.told in
        (same.0, inl same.1)
    read_once mode P agrees fine also (inl p) (inr q) = absurd (source_not_refused p.why q.said q.second (no_fault p.why status output fine p.told) p.cause q.read)
    read_once mode P agrees fine also (inr p) (inl q) = absurd (source_not_refused q.why p.said p.second (no_fault q.why other text also q.told) q.cause p.read)
    read_once mode P agrees fine also (inr p) (inr q) =
        let (a, may, is) = p.told in
        let (b, might, are) = q.told in
        let (one, first) = says p.said p.second p.read in
        let (two, second) = says q.said q.second q.read in
        let said : q.said ≡ p.said = one_value (Ok q.said) (Ok p.said) q.said p.said refl refl (texts_have_one_answer (workflow_part input) (Ok q.said) (Ok p.said) two one) in
        agreed mode p.said a b one (agrees p.said one a b (subst (λ (t : List ℕ). P p.said t a) first may)
        (subst (λ (t : List ℕ). P p.said t b) second (subst (λ (s : Said). P s q.second b) said might))) is
        (subst (λ (s : Said). IsWritten (event_names s.decls) b other text) said are)

    mode_once : PoliciesAreSingle → UserSessionsAreSingle → (gives allows : Call → Outcome → Bool) (request : Request) (mode : Mode) → AsksNoGate mode → ¬ (status ≡ ReadFault) → ¬ (other ≡ ReadFault) →
        WritesAs mode gives request (Some input) status output → WritesAs mode allows request (Some input) other text → Settled mode
    mode_once policies users gives allows request Drive asks fine also p q = read_once Drive (Finds Drive gives request)
        (λ s says. drive_agrees s says.named.once request.steps (second_part input)) fine also p q
    mode_once policies users gives allows request Check asks fine also p q = read_once Check (Finds Check gives request) (λ s says. check_agrees s says.named.once) fine also p q
    mode_once policies users gives allows request Verify asks fine also p q = read_once Verify (Finds Verify gives request)
        (λ s says. verify_agrees s says.named.once (second_part input)) fine also p q
    mode_once policies users gives allows request Trace asks fine also p q = read_once Trace (Finds Trace gives request)
        (λ s says. trace_agrees s says.named.once (second_part input)) fine also p q
    mode_once policies users gives allows request Duty asks fine also p q = read_once Duty (Finds Duty gives request)
        (λ s says. duty_agrees s says.named.once policies users request.steps (second_part input)) fine also p q
    mode_once policies users gives allows request Audit asks fine also p q = read_once Audit (Finds Audit gives request)
        (λ s says. audit_agrees s says.named.once (second_part input)) fine also p q
    mode_once policies users gives allows request Gen asks fine also p q = (p.status_is ∙ sym q.status_is, inl (p.output_is ∙ sym q.output_is))
    mode_once policies users gives allows request Run asks fine also p q = absurd asks
    mode_once policies users gives allows request Large asks fine also p q = absurd asks

module _ (policies : PoliciesAreSingle) (users : UserSessionsAreSingle) (gives allows : Call → Outcome → Bool) (words : List (List ℕ)) (input : List ℕ)
    (status other : Status) (output text : List ℕ) (quiet : (request : Request) → IsCall words request → AsksNoGate request.mode)
    (fine : ¬ (status ≡ ReadFault)) (also : ¬ (other ≡ ReadFault)) where
  -- two outputs for one purpose
  purpose_once : (purpose : Purpose) → IsFor words purpose → WritesFor purpose gives (Some input) status output → WritesFor purpose allows (Some input) other text →
      OutputsAgree words input status other output text
  purpose_once (Answer request) call h g =
      let (is, e) = mode_once input status other output text policies users gives allows request request.mode (quiet request call) fine also h g in
      record { status_is = is; output_is = ⊎_elim inl (λ shows. inr (request, call, shows)) e }
  purpose_once Help asks h g = record { status_is = h.0 ∙ sym g.0; output_is = inl (h.1 ∙ sym g.1) }
  purpose_once Version asks h g = record { status_is = h.0 ∙ sym g.0; output_is = inl (h.1 ∙ sym g.1) }

-- words are for one purpose, so two outputs for them are too
pub outputs_are_single : OnePurpose → PoliciesAreSingle → UserSessionsAreSingle → OutputsAreSingle
outputs_are_single one policies users gives allows words input status other output text quiet fine also (inl (none, told)) (inl (wrong, tells)) =
    let same = told_once [] refused.Words refused.Words status other output text refl told tells in record { status_is = same.0; output_is = inl same.1 }
outputs_are_single one policies users gives allows words input status other output text quiet fine also (inl (none, told)) (inr (purpose, is, h)) = absurd (none purpose is)
outputs_are_single one policies users gives allows words input status other output text quiet fine also (inr (purpose, is, h)) (inl (none, told)) = absurd (none purpose is)
outputs_are_single one policies users gives allows words input status other output text quiet fine also (inr (purpose, is, h)) (inr (again, are, g)) =
    purpose_once policies users gives allows words input status other output text quiet fine also purpose is h
    (subst (λ (p : Purpose). WritesFor p allows (Some input) other text) (one words again purpose are is) g)
