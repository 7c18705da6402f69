-- What is kept after a step is lawful.
use Rattle.std.proofs.Common.{◌≡◌, ◌≤◌, ℕ, List, [], ◌∷◌, ◌++◌, Option, None, Some, Result, Ok, Err, refl, sym, ap, subst, ◌∙◌, inl, inr, arith}
use Rattle.flow_model.specs.declared.history.Entry.{Entry}
use Rattle.flow_model.specs.declared.limits.TheConstants.{MOST_ENTRIES}
use Rattle.flow_form.specs.Script.{Said}
use Rattle.flow_text.specs.Saying.{Says}
use Rattle.flow_workflow.specs.Definition.{Definition, schema_of}
use Rattle.flow_expand.specs.Workflows.{IsExpanded}
use Rattle.flow_policy.specs.Assigned.{Assigned}
use Rattle.flow_ask.specs.declared.ask.Ask.{Ask as Asking}
use Rattle.flow_ask.specs.declared.made.Made.{Made as Making}
use Rattle.flow_ask.specs.declared.refusal.Refusal.{Refusal}
use Rattle.flow_core.specs.Run.{Run, with_entry}
use Rattle.flow_core.specs.Lawful.{IsLawful}
use Rattle.flow_core.specs.Ask.{Answers}
use Rattle.flow_roles.specs.Desked.{Desked}
use Rattle.flow_roles.specs.Ask.{DeskAnswers, CanMakeAt}
use Rattle.flow_record.specs.declared.command.Command.{Command}
use Rattle.flow_record.specs.declared.command.Command.TheVariants as command
use Rattle.flow_findings.specs.declared.refused.Refused.{Refused as Refusing}
use Rattle.flow_step.specs.Records.{records_of, entries_in, room_for}
use Rattle.flow_step.specs.Following.{IsFollowed, run_may, run_grown, desk_grown}
use Rattle.flow_step.specs.Given.{IsGrown}
use Rattle.flow_step.specs.Step.{GoesOn, first_run, StepsAt, SaidAt, ByCommand, StepsSaid, IsTold, Steps}
use Rattle.flow_step.specs.Stored.{IsHistoryOf, written, WasGiven}
use Rattle.flow_step.specs.declared.stepped.Stepped.{Stepped}
use Rattle.flow_step.specs.declared.stepped.Stepped.TheVariants.{Made, Refused, Unread, Illegal}
use Rattle.flow_step.proofs.RecordLemmas.{records-append}
use Rattle.flow_step.proofs.FollowLemmas.{made_history, made_definition, made_limit}

few_entries : (history : List ℕ) → room_for history ≤ MOST_ENTRIES
few_entries history = omega arith

module _ (text history : List ℕ) (s : Said) (says : Says text s) (w : Definition) (expanded : IsExpanded s w) where
  module _ {S : Type 0} (run : S → Run) (answers : S → Asking → ℕ → Result Making Refusal → S → Type 0) (same : S → S → Type 0)
      (may : S → Entry → Type 0) (grown : S → Entry → S) (grows : (one : S) (entry : Entry) → run (grown one entry) ≡ with_entry (run one) entry.by entry.step)
      (first : S) (first_is : run first ≡ first_run w history) where
    kept : (before after : S) (entry : Option Entry) → IsFollowed may grown first history before → IsGrown (run before) (run after) entry →
        IsHistoryOf text (history ++ records_of (entries_in entry))
    kept before after entry followed grew =
        let entries = followed.entries in
        let so_far : (run before).history ≡ entries = made_history may grown run grows entries first before followed.made ∙ ap (λ (r : Run). r.history ++ entries) first_is in
        let workflow : (run after).definition ≡ w = grew.same_workflow ∙ made_definition may grown run grows entries first before followed.made ∙ ap (λ (r : Run). r.definition) first_is in
        let limit : (run after).limit ≡ room_for history = grew.same_limit ∙ made_limit may grown run grows entries first before followed.made ∙ ap (λ (r : Run). r.limit) first_is in
        record {
          said = s;
          says = says;
          workflow = w;
          expanded = expanded;
          limit = (run after).limit;
          few = subst (λ n. n ≤ MOST_ENTRIES) (sym limit) (few_entries history);
          entries = (run after).history;
          told = ap (λ (l : List ℕ). l ++ records_of (entries_in entry)) (followed.told ∙ sym (ap (λ (l : List Entry). records_of l) so_far))
              ∙ sym (records-append (run before).history (entries_in entry)) ∙ sym (ap (λ (l : List Entry). records_of l) grew.history_is);
          lawful = subst (λ (d : Definition). IsLawful (schema_of d) (run after).limit (run after).history) workflow grew.lawful;
        }

    pub goes_kept : (by : ℕ) (line : Command) (stepped : Stepped) → GoesOn run answers same may grown first history by line stepped → WasGiven stepped →
        IsHistoryOf text (history ++ written stepped)
    goes_kept by (command.Ask ask) (Made entry reply next) (before, followed, (made, after, answered, grew, told, just)) given = kept before after entry followed grew
    goes_kept by (command.Ask ask) (Refused refusal entry reply) (before, followed, (after, answered, grew, told)) given = kept before after entry followed grew
    goes_kept by (command.Look look) (Made entry reply next) (before, followed, (after, is_same, none, grew, shown, just)) given =
        subst (λ (e : Option Entry). IsHistoryOf text (history ++ records_of (entries_in e))) (sym none) (kept before after None followed grew)
    goes_kept by (command.Look look) (Refused refusal entry reply) (before, followed, gave) given = absurd gave
    goes_kept by line (Unread t) h given = absurd given
    goes_kept by line (Illegal n) h given = absurd given

  pub steps_kept : (assigned : Option Assigned) (by : ℕ) (line : Command) (stepped : Stepped) → StepsAt w assigned history by line stepped → WasGiven stepped →
      IsHistoryOf text (history ++ written stepped)
  steps_kept None by line stepped h given =
      goes_kept (λ (r : Run). r) Answers (λ (one other : Run). other ≡ one) run_may run_grown (λ _ _. refl) (first_run w history) refl by line stepped h given
  steps_kept (Some a) by line stepped h given =
      goes_kept (λ (d : Desked). d.run) DeskAnswers (λ (one other : Desked). other ≡ one) CanMakeAt desk_grown (λ _ _. refl)
      (record { run = first_run w history; assigned = a }) refl by line stepped h given

-- a refusal is no line that was given
none_given : (events : List (List ℕ)) (why : Refusing) (stepped : Stepped) → IsTold events (Err why) stepped → ¬ (WasGiven stepped)
none_given events why (Made entry reply next) told = absurd told
none_given events why (Refused refusal entry reply) told = absurd told
none_given events why (Unread t) told = λ given. given
none_given events why (Illegal n) told = absurd told

module _ (text history : List ℕ) (s : Said) (says : Says text s) (events : List (List ℕ)) (by : ℕ) (stepped : Stepped) (given : WasGiven stepped) where
  abbrev Kept : Type 0
  Kept = IsHistoryOf text (history ++ written stepped)

  refused_not : (why : Refusing) (came : Result Stepped Refusing) → came ≡ Err why → IsTold events came stepped → Kept
  refused_not why came is told = absurd (none_given events why stepped (subst (λ (c : Result Stepped Refusing). IsTold events c stepped) is told) given)

  found_kept : (w : Definition) (assigned : Option Assigned) (line : Command) (found : Stepped) (came : Result Stepped Refusing) → IsExpanded s w →
      StepsAt w assigned history by line found → came ≡ Ok found → IsTold events came stepped → Kept
  found_kept w assigned line found came expanded at is told =
      let same : stepped ≡ found = subst (λ (c : Result Stepped Refusing). IsTold events c stepped) is told in
      steps_kept text history s says w expanded assigned by line stepped (subst (λ (f : Stepped). StepsAt w assigned history by line f) (sym same) at) given

  said_kept : (assigned : Option Assigned) (line : Command) (came : Result Stepped Refusing) → SaidAt s assigned history by line came → IsTold events came stepped → Kept
  said_kept assigned line came (inl (why, cause, is)) told = refused_not why came is told
  said_kept assigned line came (inr (w, expanded, inl (why, cause, is))) told = refused_not why came is told
  said_kept assigned line came (inr (w, expanded, inr (c, compiled, (found, at, is)))) told = found_kept w assigned line found came expanded at is told

  line_kept : (assigned : Option Assigned) (line : List ℕ) (came : Result Stepped Refusing) → ByCommand s assigned history by line came → IsTold events came stepped → Kept
  line_kept assigned line came (inl (why, cause, is)) told = refused_not why came is told
  line_kept assigned line came (inr (one, says_it, at)) told = said_kept assigned one came at told

  pub policy_kept : (policy line : List ℕ) (came : Result Stepped Refusing) → StepsSaid s policy history by line came → IsTold events came stepped → Kept
  policy_kept [] line came at told = line_kept None line came at told
  policy_kept (byte ∷ bytes) line came (inl (why, cause, is)) told = refused_not why came is told
  policy_kept (byte ∷ bytes) line came (inr (a, is_policy, at)) told = line_kept (Some a) line came at told

pub stored : (text policy history : List ℕ) (by : ℕ) (line : List ℕ) (stepped : Stepped) → Steps text policy history by line stepped → WasGiven stepped →
    IsHistoryOf text (history ++ written stepped)
stored text policy history by line stepped (inl (why, cause, told)) given = absurd (none_given [] why stepped told given)
stored text policy history by line stepped (inr (s, says, (came, at, told))) given = policy_kept text history s says.says _ by stepped given policy line came at told
