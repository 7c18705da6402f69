-- What is written of a source, and what becomes of it.
use Rattle.std.proofs.Common.{◌≡◌, ◌≢◌, ◌<◌, ◌≤◌, ℕ, Bool, List, [], ◌∷◌, length, Option, None, Some, Result, Ok, Err, sym, subst, inl, inr, arith, refl, ◌+◌, ◌∙◌, ap}
use Rattle.std.specs.declared.alloc.AllocError.{AllocError}
use Rattle.std.specs.Prelude.{◌↔◌, IfOk, IfErr}
use Rattle.flow_model.specs.declared.history.Call.{Call}
use Rattle.flow_model.specs.declared.history.Outcome.{Outcome}
use Rattle.flow_model.specs.Verdict as model
use Rattle.flow_model.specs.declared.limits.TheConstants.{GREATEST_INPUT}
use Rattle.flow_form.specs.declared.refusal.TextRefusal.{TextRefusal}
use Rattle.flow_form.specs.Script.{Said}
use Rattle.flow_form.specs.Names.{event_names}
use Rattle.std.proofs.lemmas.List.{length-drop}
use Rattle.flow_record.specs.Cut.{cut_of}
use Rattle.flow_io.specs.Source.{LosesCount}
use Rattle.flow_trace.specs.declared.checked.Checked.{Checked}
use Rattle.flow_trace.specs.declared.checked.Checked.TheVariants.{Execution}
use Rattle.flow_audit.specs.declared.finding.Finding as audit
use Rattle.flow_audit.specs.declared.finding.Finding.TheVariants as found_as
use Rattle.flow_verify.specs.declared.answers.Verified.TheVariants.{Holds, Fails}
use Rattle.flow_verify.specs.declared.answers.Redundancy.TheVariants.{Redundant, Needed}
use Rattle.flow_findings.specs.declared.refused.Refused.{Refused}
use Rattle.flow_findings.specs.declared.refused.Refused.TheVariants as refused
use Rattle.flow_findings.specs.Refusing as refusing
use Rattle.flow_words.specs.declared.request.Mode.{Mode}
use Rattle.flow_words.specs.declared.request.Mode.TheVariants.{Run, Gen, Large, Audit}
use Rattle.flow_words.specs.declared.request.Request.{Request}
use Rattle.flow_front.specs.declared.output.Output.{Output}
use Rattle.flow_front.specs.declared.status.Status.{Status}
use Rattle.flow_front.specs.declared.status.Status.TheVariants as status
use Rattle.flow_front.specs.declared.stop.Stop.{Stop}
use Rattle.flow_front.specs.declared.stop.Stop.TheVariants as stop
use Rattle.flow_front.specs.Status.{Tells}
use Rattle.flow_front.specs.Stop.{IsStop, TellsStop}
use Rattle.flow_front.specs.Refusal.{the_source, IsCause}
use Rattle.flow_front.specs.Input.{IsInputOf, IsReadWhole, LeavesSource}
use Rattle.flow_reply.specs.Verdict.{ended}
use Rattle.flow_cli.specs.Finding.{Finding, driven, ran, traced, audited, verified, tried, summarized, status_of_checked, status_of_found, finding_status, came_status, IsFound, Answers}
use Rattle.flow_cli.specs.Large.{RunsGenerated}
use Rattle.flow_cli.specs.Output.{Reads, StartsNoThreads, Finds, IsTold, TellsFound, WritesOf, WritesAs, IsWhole, IsOfInput, IsOver, IsTakenFrom, IsOutcome, IsText, IsSummarized}
use Rattle.flow_cli.proofs.Refusals.{finds_later}

-- ---- statuses of what is found

of_verdict : (v : model.Verdict) → IsOfInput (ended v)
of_verdict model.committed = tt
of_verdict model.spent = tt
of_verdict other = tt

of_checked : (checked : Checked) → IsOfInput (status_of_checked checked)
of_checked Execution = tt
of_checked other = tt

of_found : (found : List audit.Finding) → IsOfInput (status_of_found found)
of_found [] = tt
of_found (found_as.Checked Execution ∷ found) = of_found found
of_found (other ∷ found) = tt

pub of_finding : (found : Finding) → IsOfInput (finding_status found)
of_finding (driven d) = of_verdict d.verdict
of_finding (ran last verdict) = of_verdict verdict
of_finding (traced checked) = of_checked checked
of_finding (audited found) = of_found found
of_finding (verified w Holds) = tt
of_finding (verified w (Fails t)) = tt
of_finding (tried w Redundant) = tt
of_finding (tried w (Needed t)) = tt
of_finding (summarized summary verdict) = of_verdict verdict
of_finding found = tt

input_whole : (s : Status) → IsOfInput s → IsWhole s
input_whole status.WriteFault h = h
input_whole status.Memory h = h
input_whole other h = tt

pub write_fault_no_want : status.WriteFault ≢ status.Memory
write_fault_no_want is = cc

-- wrong words are no fault of the source, which was not read
pub words_no_fault : (s : Status) (faults : ℕ) → s ≡ status.Words → (s ≡ status.ReadFault) ↔ (faults < faults)
words_no_fault s faults is = ((λ fault. cc), (λ more. absurd (omega arith)))

-- ---- what is written where no source is read

module _ (IsWritten : Status → List ℕ → Type 0) (left : Option (List ℕ)) (faults : ℕ) where
  pub unread_outcome : (s : Status) (output : List ℕ) → IsOfInput s → IsWritten s output → IsOutcome IsWritten ⊥ left left faults faults s output
  unread_outcome s output of_input written = record {
    writes = written;
    whole = input_whole s of_input;
    words = λ is. subst IsOfInput is of_input;
    fault = ((λ is. absurd (subst IsOfInput is of_input)), (λ more. absurd (omega arith)));
    end = λ reads. absurd reads;
    refused = λ reads. absurd reads;
  }

pub texts_written : (text : List ℕ) (left : Option (List ℕ)) (faults : ℕ) (result : Result Output AllocError) →
    IfOk result (λ output. IsText text output.status output.text.items) →
    IfOk result (λ output. IsOutcome (IsText text) ⊥ left left faults faults output.status output.text.items)
texts_written text left faults (Err e) told = tt
texts_written text left faults (Ok output) told =
    unread_outcome (IsText text) left faults output.status output.text.items (subst IsOfInput (sym told.0) tt) told

-- ---- what is written of a source

-- the second part of an input is not too long
pub second_short : (left : Option (List ℕ)) (said : Said) (second : List ℕ) → IsInputOf left said second → length second ≤ GREATEST_INPUT
second_short left said second (input, gives, is) = omega (arith, is.short, ap length is.second_is, length-drop (cut_of input).1 input)

-- what comes of what is said is of the input
pub came_of_input : (mode : Mode) (gives : Call → Outcome → Bool) (request : Request) (said : Said) (text : List ℕ) (came : Result Finding Refused) →
    Finds mode gives request said text came → IsOfInput (came_status came)
came_of_input mode gives request said text (Ok found) h = of_finding found
came_of_input mode gives request said text (Err why) h = (finds_later mode gives request said text why h).1

-- what is found in what is said is told
module _ (mode : Mode) (gives : Call → Outcome → Bool) (request : Request) (said : Said) (text : List ℕ) where
  found_told : (output : Output) → Answers (Finds mode gives request said text) (Ok output) →
      IsTold (Finds mode gives request said text) said output.status output.text.items
  found_told output (found, may, is) = (Ok found, may, record { status_is = is.status_is; output_is = is.output_is })

  stop_told : (why : Stop) (result : Result Output AllocError) → Answers (Finds mode gives request said text) (Err why) →
      IfOk result (λ output. TellsStop (event_names said.decls) why output.status output.text.items) →
      IfOk result (λ output. IsTold (Finds mode gives request said text) said output.status output.text.items)
  stop_told (stop.Refused why) (Ok output) may told = (Err why, may, record { status_is = told.status_is; output_is = told.output_is })
  stop_told stop.NoMemory (Ok output) may told = absurd told
  stop_told why (Err e) may told = tt

  -- a refusal of it can be
  can_be_told : (why : Stop) → Answers (Finds mode gives request said text) (Err why) → IsStop (refusing.IsTold (event_names said.decls)) why
  can_be_told (stop.Refused why) may = (finds_later mode gives request said text why may).0
  can_be_told stop.NoMemory may = tt

  pub all_can_be_told : (found : Result Output Stop) → Answers (Finds mode gives request said text) found → IfErr found (IsStop (refusing.IsTold (event_names said.decls)))
  all_can_be_told (Ok output) may = tt
  all_can_be_told (Err why) may = can_be_told why may

  pub all_told : (found : Result Output Stop) (result : Result Output AllocError) → Answers (Finds mode gives request said text) found →
      IfOk result (TellsFound (event_names said.decls) found) → IfOk result (λ output. IsTold (Finds mode gives request said text) said output.status output.text.items)
  all_told found (Err e) may told = tt
  all_told (Ok output) (Ok written) may is =
      subst (λ (o : Output). IsTold (Finds mode gives request said text) said o.status o.text.items) (sym is) (found_told output may)
  all_told (Err why) (Ok written) may told = stop_told why (Ok written) may told

module _ (mode : Mode) (gives : Call → Outcome → Bool) (request : Request) (left left' : Option (List ℕ)) (faults faults' : ℕ) (reads : Reads mode) where
  abbrev Written : Status → List ℕ → Type 0
  Written s output = IsOutcome (WritesAs mode gives request left) (Reads mode) left left' faults faults' s output

  writes_of : (m : Mode) → Reads m → (s : Status) (output : List ℕ) → WritesOf (Finds m gives request) left s output → WritesAs m gives request left s output
  writes_of Gen r s output h = absurd r
  writes_of Large r s output h = absurd r
  writes_of other r s output h = h

  taken_whole : (l : Option (List ℕ)) (said : Said) (second : List ℕ) → IsInputOf l said second → IsReadWhole l left' → IsTakenFrom l left'
  taken_whole None said second input whole = tt
  taken_whole (Some bytes) said second (input, gives, is) whole = inl (subst (λ (xs : List ℕ). length xs ≤ GREATEST_INPUT) gives is.short, whole)

  answered : (said : Said) (second : List ℕ) (s : Status) (output : List ℕ) → IsInputOf left said second → ¬ (faults < faults') → IsReadWhole left left' →
      IsTold (Finds mode gives request said second) said s output → Written s output
  answered said second s output input fine whole (came, found, written) =
      let of_input : IsOfInput s = subst IsOfInput (sym written.status_is) (came_of_input mode gives request said second came found) in record {
        writes = writes_of mode reads s output (inr (record { said = said; second = second; read = input; told = (came, found, written) }));
        whole = input_whole s of_input;
        words = λ is. subst IsOfInput is of_input;
        fault = ((λ is. absurd (subst IsOfInput is of_input)), (λ more. absurd (fine more)));
        end = λ _ _. whole;
        refused = λ _ _. taken_whole left said second input whole;
      }

  pub all_answered : (said : Said) (second : List ℕ) (result : Result Output AllocError) → IsInputOf left said second → ¬ (faults < faults') → IsReadWhole left left' →
      IfOk result (λ output. IsTold (Finds mode gives request said second) said output.status output.text.items) →
      IfOk result (λ output. Written output.status output.text.items)
  all_answered said second (Err e) input fine whole told = tt
  all_answered said second (Ok output) input fine whole told = answered said second output.status output.text.items input fine whole told

  taken_text : (l : Option (List ℕ)) (r : TextRefusal) → IsCause (the_source l) (refused.Text r) → IsReadWhole l left' → IsTakenFrom l left'
  taken_text None r cause whole = tt
  taken_text (Some bytes) r (input, gives, short, tells, first) whole = inl (subst (λ (xs : List ℕ). length xs ≤ GREATEST_INPUT) gives short, whole)

  taken_long : (l : Option (List ℕ)) → IsCause (the_source l) refused.TooLong → LosesCount l left' (GREATEST_INPUT + 1) → IsTakenFrom l left'
  taken_long None cause loses = tt
  taken_long (Some bytes) (input, gives, long) loses = inr (subst (λ (xs : List ℕ). GREATEST_INPUT < length xs) gives long, loses.1)

  not_read : (why : Refused) (s : Status) (output : List ℕ) → IsCause (the_source left) why → Tells [] why s output → WritesAs mode gives request left s output
  not_read why s output cause told = writes_of mode reads s output (inl (record { why = why; cause = cause; told = told }))

  -- it was refused as it was read
  refused_read : (T : Type 0) (why : Refused) (s : Status) (output : List ℕ) → IsCause (the_source left) why →
      (◌≡◌ {A = Result T Stop} (Err (stop.Refused why)) (Err (stop.Refused refused.Read)) ↔ (faults < faults')) → LeavesSource {A = T} left left' (Err (stop.Refused why)) →
      Tells [] why s output → Written s output
  refused_read T refused.Read s output cause fault leaves told = record {
    writes = not_read refused.Read s output cause told;
    whole = subst IsWhole (sym told.status_is) tt;
    words = λ is. let no : status.ReadFault ≡ status.Words = sym told.status_is ∙ is in cc;
    fault = ((λ _. fault.0 refl), (λ _. told.status_is));
    end = λ _ over. absurd (subst IsOver told.status_is over);
    refused = λ _ is. absurd (let no : status.ReadFault ≡ status.Input = sym told.status_is ∙ is in cc);
  }
  refused_read T refused.TooLong s output cause fault leaves told = record {
    writes = not_read refused.TooLong s output cause told;
    whole = subst IsWhole (sym told.status_is) tt;
    words = λ is. let no : status.Input ≡ status.Words = sym told.status_is ∙ is in cc;
    fault = (
      (λ is. absurd (let no : status.Input ≡ status.ReadFault = sym told.status_is ∙ is in cc)),
      (λ more. absurd (let no : ◌≡◌ {A = Result T Stop} (Err (stop.Refused refused.TooLong)) (Err (stop.Refused refused.Read)) = fault.1 more in cc)),
    );
    end = λ _ over. absurd (subst IsOver told.status_is over);
    refused = λ _ _. taken_long left cause leaves;
  }
  refused_read T (refused.Text r) s output cause fault leaves told = record {
    writes = not_read (refused.Text r) s output cause told;
    whole = subst IsWhole (sym told.status_is) tt;
    words = λ is. let no : status.Input ≡ status.Words = sym told.status_is ∙ is in cc;
    fault = (
      (λ is. absurd (let no : status.Input ≡ status.ReadFault = sym told.status_is ∙ is in cc)),
      (λ more. absurd (let no : ◌≡◌ {A = Result T Stop} (Err (stop.Refused (refused.Text r))) (Err (stop.Refused refused.Read)) = fault.1 more in cc)),
    );
    end = λ _ over. absurd (subst IsOver told.status_is over);
    refused = λ _ _. taken_text left r cause leaves;
  }
  refused_read T why s output cause fault leaves told = absurd cause

  pub stopped_read : (T : Type 0) (why : Stop) (s : Status) (output : List ℕ) → IsStop (IsCause (the_source left)) why →
      (◌≡◌ {A = Result T Stop} (Err why) (Err (stop.Refused refused.Read)) ↔ (faults < faults')) → LeavesSource {A = T} left left' (Err why) →
      TellsStop [] why s output → Written s output
  stopped_read T (stop.Refused why) s output cause fault leaves told = refused_read T why s output cause fault leaves told
  stopped_read T stop.NoMemory s output cause fault leaves told = absurd told

-- a run of a generated workflow
pub summarized_outputs : (gives : Call → Outcome → Bool) (request : Request) (left : Option (List ℕ)) (faults : ℕ) (result : Result Output AllocError) →
    IfOk result (IsFound (RunsGenerated gives request.seed request.size request.steps request.workers)) →
    IfOk result (λ output. IsOutcome (IsSummarized gives request) ⊥ left left faults faults output.status output.text.items)
summarized_outputs gives request left faults (Err e) found = tt
summarized_outputs gives request left faults (Ok output) (found, runs, is) =
    unread_outcome (IsSummarized gives request) left faults output.status output.text.items (subst IsOfInput (sym is.status_is) (of_finding found))
    (Ok found, runs, record { status_is = is.status_is; output_is = is.output_is })

-- ---- modes

-- the one mode beside `run` that reads and starts threads
pub audit_left : (mode : Mode) → ¬ (StartsNoThreads mode) → Reads mode → mode ≢ Run → mode ≡ Audit
audit_left Run threads reads other = absurd (other refl)
audit_left Audit threads reads other = refl
audit_left Large threads reads other = absurd reads
audit_left mode threads reads other = absurd (threads tt)

-- the modes that start no threads
pub alone_left : (mode : Mode) → mode ≢ Run → mode ≢ Audit → mode ≢ Large → StartsNoThreads mode
alone_left Run run audit large = absurd (run refl)
alone_left Audit run audit large = absurd (audit refl)
alone_left Large run audit large = absurd (large refl)
alone_left mode run audit large = tt

-- all of them read but `gen`
pub read_alone : (mode : Mode) → StartsNoThreads mode → mode ≢ Gen → Reads mode
read_alone Gen alone other = absurd (other refl)
read_alone Large alone other = absurd alone
read_alone mode alone other = tt
