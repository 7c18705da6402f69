-- Sessions, one command after another.
use Rattle.std.proofs.Common.{◌≡◌, ◌<◌, ◌+◌, ℕ, suc, List, [], ◌∷◌, ◌++◌, length, take, drop, get_or, refl, sym, ap, ◌∙◌, subst, append_assoc, append-nil, inl, inr, drop-cons, Result, Ok, Err}
use Rattle.std.specs.Prelude.{IfOk}
use Rattle.std.specs.Result.{OnErr}
use Rattle.std.specs.declared.alloc.AllocError.{AllocError}
use Rattle.std.proofs.lemmas.List.{take_more, take-append-drop}
use Rattle.flow_model.specs.Verdict as model
use Rattle.flow_model.specs.Verdict.{drive_verdict}
use Rattle.flow_workflow.specs.Definition.{Definition, schema_of}
use Rattle.flow_ask.specs.declared.ask.Ask.{Ask as Asking}
use Rattle.flow_ask.specs.declared.made.Made.{Made}
use Rattle.flow_ask.specs.declared.refusal.Refusal.{Refusal}
use Rattle.flow_core.specs.Run.{Run, schema}
use Rattle.flow_core.specs.Lawful.{IsLawful}
use Rattle.flow_core.proofs.Growth.{SameRun, answers_same}
use Rattle.flow_record.specs.declared.command.Command.{Command}
use Rattle.flow_record.specs.declared.command.Command.TheVariants.{Ask, Look}
use Rattle.flow_front.specs.declared.output.Output.{Output}
use Rattle.flow_front.specs.declared.status.Status.{Status}
use Rattle.flow_reply.specs.declared.verdict.Verdict.{Verdict}
use Rattle.flow_reply.specs.Conclusion.{Means, verdict_text}
use Rattle.flow_reply.specs.Report.{IsReport}
use Rattle.flow_reply.specs.Replies.{Replies, Given, Goes, GoesPart, RepliesTo, Drives}
use Rattle.flow_reply.specs.Session.{Driven, came_of, IsSession, IsDrivenOutput}
use Rattle.flow_reply.specs.Verdict.{ended, report_of}
use Rattle.flow_reply.proofs.OneReply.{one_report}

-- what holds in any case holds after an error
pub after_error : {T E P : Type 0} (came : Result T E) → P → OnErr came P
after_error (Ok value) holds = tt
after_error (Err error) holds = holds

-- what was replied to was given
pub was_given : {S : Type 0} (run : S → Run) (answers : S → Asking → ℕ → Result Made Refusal → S → Type 0) (same : S → S → Type 0) (by : ℕ) (before after : S)
    (command : Command) (line : List ℕ) → Replies run answers same by before command line after → Given answers same by before command after
was_given run answers same by before after (Ask ask) line (answer, answered, told) = (answer, answered)
was_given run answers same by before after (Look look) line (unchanged, shown) = unchanged

module _ {S C : Type 0} (Reply : S → C → List ℕ → S → Type 0) where
  -- a session goes on with one command more
  goes_more : (old middle new : S) (session : List C) (command : C) (text line : List ℕ) → Goes Reply old session text middle →
      Reply middle command line new → Goes Reply old (session ++ command ∷ []) (text ++ line) new
  goes_more old middle new [] command text line d r =
      (new, (line, ([], subst (λ (p : S). Reply p command line new) d.1 r, (refl, refl), ap (λ t. t ++ line) d.0 ∙ sym (append-nil line))))
  goes_more old middle new (c ∷ session) command text line (m, (l, (rest, first, later, e))) r =
      (m, (l, (rest ++ line, first, goes_more m middle new session command rest line later r, ap (λ t. t ++ line) e ∙ append_assoc l rest line)))

  -- the front of a session goes on with the next command
  pub goes_next : (old middle new : S) (session : List C) (i : ℕ) (d : C) (text line both : List ℕ) → i < length session →
      Goes Reply old (take i session) text middle → Reply middle (get_or session i d) line new → both ≡ text ++ line →
      Goes Reply old (take (i + 1) session) both new
  goes_next old middle new session i d text line both within gone reply is =
      subst (λ (t : List ℕ). Goes Reply old (take (i + 1) session) t new) (sym is)
      (subst (λ (front : List C). Goes Reply old front (text ++ line) new) (sym (take_more session i d within))
      (goes_more old middle new (take i session) (get_or session i d) text line gone reply))

  -- ---- where memory was wanted for what is told

  module _ (Give : S → C → S → Type 0) (was : (before after : S) (command : C) (line : List ℕ) → Reply before command line after → Give before command after) where
    -- no command was given
    none_given : (old new : S) (session : List C) → new ≡ old → GoesPart Give old session new
    none_given old new [] same = same
    none_given old new (command ∷ session) same = inl same

    -- those before were given, and were told of
    front_given : (old new : S) (front rest : List C) (text : List ℕ) → Goes Reply old front text new → GoesPart Give old (front ++ rest) new
    front_given old new [] rest text d = none_given old new rest d.1
    front_given old new (command ∷ front) rest text (m, (line, (others, replied, later, e))) =
        inr (m, was old m command line replied, front_given m new front rest others later)

    -- those before were told of, and one more was given
    one_more_given : (old middle new : S) (front rest : List C) (text : List ℕ) (d : C) → Goes Reply old front text middle →
        Give middle d new → GoesPart Give old (front ++ d ∷ rest) new
    one_more_given old middle new [] rest text d gone given =
        inr (new, subst (λ (r : S). Give r d new) gone.1 given, none_given new new rest refl)
    one_more_given old middle new (command ∷ front) rest text d (m, (line, (others, replied, later, e))) given =
        inr (m, was old m command line replied, one_more_given m middle new front rest others d later given)

    -- all were given
    pub all_given : (old new : S) (session : List C) (text : List ℕ) → Goes Reply old session text new → GoesPart Give old session new
    all_given old new session text d =
        subst (λ (all : List C). GoesPart Give old all new) (append-nil session) (front_given old new session [] text d)

    -- of a session those before the next command were told of, and that one was given
    pub next_given : (old middle new : S) (session : List C) (i : ℕ) (d : C) (text : List ℕ) → i < length session →
        Goes Reply old (take i session) text middle → Give middle (get_or session i d) new → GoesPart Give old session new
    next_given old middle new session i d text within gone given =
        subst (λ (all : List C). GoesPart Give old all new)
        (ap (λ (rest : List C). take i session ++ rest) (sym (drop-cons session i d within)) ∙ take-append-drop i session)
        (one_more_given old middle new (take i session) (drop (suc i) session) text (get_or session i d) gone given)

-- ---- a whole session

-- a command leaves the workflow and the limit
pub replies_same : (by : ℕ) (old new : Run) (command : Command) (line : List ℕ) → RepliesTo old by command line new → SameRun old new
replies_same by old new (Ask ask) line (answer, answers, told) = answers_same old new ask by answer answers
replies_same by old new (Look look) line (same, shown) = (ap (λ (r : Run). r.definition) same, ap (λ (r : Run). r.limit) same)

-- a session is of one workflow and one limit
pub drives_same : (by : ℕ) (old new : Run) (session : List Command) (text : List ℕ) → Drives old by session text new → SameRun old new
drives_same by old new [] text d = (ap (λ (r : Run). r.definition) d.1, ap (λ (r : Run). r.limit) d.1)
drives_same by old new (c ∷ session) text (m, (line, (rest, replied, later, e))) =
    let first = replies_same by old m c line replied in
    let others = drives_same by m new session rest later in (others.0 ∙ first.0, others.1 ∙ first.1)

-- what is printed of a run with its verdict is the report of it
pub reported_as : (r : Run) (v : Verdict) (meant : model.Verdict) (text : List ℕ) → Means r v meant → IsReport r v text → text ≡ report_of r meant
reported_as r v meant text means is = one_report r v text (report_of r meant) is (verdict_text meant, (meant, means, refl), refl)

-- a concluded run is told: what is written is that of what came of it
pub told_conclusion : (r : Run) (verdict : Verdict) (status : Status) (replies report output : List ℕ) → Means r verdict (drive_verdict (schema r) r.limit r.history) →
    ((s : Run) (meant : model.Verdict) → Means s verdict meant → status ≡ ended meant) → IsReport r verdict report → output ≡ replies ++ report →
    IsDrivenOutput (came_of replies r) status output
told_conclusion r verdict status replies report output means status_is reported output_is =
    let meant = drive_verdict (schema r) r.limit r.history in record {
      status_is = status_is r meant means;
      output_is = output_is ∙ ap (λ (t : List ℕ). replies ++ t) (reported_as r verdict meant report means reported);
    }

-- a run of the same workflow with the same limit is as lawful, and came to the same
pub lawful_since : (first last : Run) → SameRun first last → IsLawful (schema last) last.limit last.history → IsLawful (schema first) first.limit last.history
lawful_since first last same lawful =
    subst (λ (n : ℕ). IsLawful (schema first) n last.history) same.1 (subst (λ (v : Definition). IsLawful (schema_of v) last.limit last.history) same.0 lawful)

pub verdict_since : (first last : Run) → SameRun first last → drive_verdict (schema last) last.limit last.history ≡ drive_verdict (schema first) first.limit last.history
verdict_since first last same =
    ap (λ (v : Definition). drive_verdict (schema_of v) last.limit last.history) same.0 ∙ ap (λ (n : ℕ). drive_verdict (schema first) n last.history) same.1

-- what came of a session that was concluded
pub concluded_session : (first last : Run) (by : ℕ) (session : List Command) (replies : List ℕ) → Drives first by session replies last →
    IsLawful (schema last) last.limit last.history → IsSession first by session (came_of replies last)
concluded_session first last by session replies driven lawful =
    let same : SameRun first last = drives_same by first last session replies driven in
    record { driven = driven; lawful = lawful_since first last same lawful; verdict_is = verdict_since first last same }

pub concluded_output : (first last : Run) (by : ℕ) (session : List Command) (replies : List ℕ) (result : Result Output AllocError) → Drives first by session replies last →
    IsLawful (schema last) last.limit last.history → IfOk result (λ output. IsDrivenOutput (came_of replies last) output.status output.text.items) →
    IfOk result (λ output. (d : Driven) × IsSession first by session d × IsDrivenOutput d output.status output.text.items)
concluded_output first last by session replies (Ok output) driven lawful is = (came_of replies last, concluded_session first last by session replies driven lawful, is)
concluded_output first last by session replies (Err e) driven lawful is = tt
