-- Each claim of a run is left to its taker, entry by entry; so duties are kept.
use Rattle.std.proofs.Common.{◌≡◌, ℕ, Bool, true, false, IsTrue, List, [], ◌∷◌, ◌++◌, Some, inl, inr, refl, sym, ap, ◌∙◌, subst, append-nil}
use Rattle.flow_model.specs.declared.history.Entry.{Entry}
use Rattle.flow_model.specs.declared.history.Step.{Step}
use Rattle.flow_model.specs.declared.history.Step.TheVariants.{Took, Done, Failed, Late, Did, Rewound, Committed}
use Rattle.flow_model.specs.Decided.{cons_same, not_empty}
use Rattle.flow_model.specs.Facts.{event_at}
use Rattle.flow_model.specs.Schema.{Schema}
use Rattle.flow_model.specs.Run.{first_state, state_of}
use Rattle.flow_model.specs.Takers.{takings_of}
use Rattle.flow_model.specs.Duties.{Duties, IsLeft, IsDutiful}
use Rattle.flow_model.proofs.MadeLists.{two_cuts, some_same}
use Rattle.flow_laws.specs.Histories.{IsSound}
use Rattle.flow_laws.specs.WellFormed.{IsWellFormed, IsConsistent}
use Rattle.flow_duty_laws.proofs.Kept.{duties_are_kept}
use Rattle.flow_core.specs.Run.{Run, schema, with_entry}
use Rattle.flow_ask.specs.declared.ask.Ask.{Ask}
use Rattle.flow_ask.specs.declared.ask.Ask.TheVariants as ask
use Rattle.flow_core.specs.Ask.{ComesOf, GrowsAtMost}
use Rattle.flow_core.specs.Lawful.{IsLawful}
use Rattle.flow_roles.specs.Desked.{Desked, KeepsDuties}
use Rattle.flow_roles.specs.Answers.{IsLeftTo}
use Rattle.flow_roles.specs.Ask.{IsLeftFor}

abbrev pub took_by : ℕ → ℕ → ℕ → Entry
took_by by claim leaf = record { by = by; step = Took claim leaf }

-- each claim was left to its taker, and so is the one that the last entry gives, if it gives one
pub one_more : (w : Schema) (d : Duties) (history : List Entry) (last : Entry) → IsDutiful w d history →
    ((claim leaf event : ℕ) → last.step ≡ Took claim leaf → event_at w.labels leaf ≡ Some event → IsLeft w d (state_of w history) (takings_of history) last.by event) →
    IsDutiful w d (history ++ last ∷ [])
one_more w d history last dutiful left earlier later by claim leaf event e at = elim (two_cuts history (last ∷ []) earlier (took_by by claim leaf) later e) [
  | inl k ↦ dutiful earlier k.0 by claim leaf event k.1 at
  | inr k ↦ of_last k.0 k.1 k.2
]
  where
    of_last : (m : List Entry) → earlier ≡ history ++ m → last ∷ [] ≡ m ++ took_by by claim leaf ∷ later → IsLeft w d (state_of w earlier) (takings_of earlier) by event
    of_last [] is one =
        let same : last ≡ took_by by claim leaf = (cons_same last (took_by by claim leaf) [] later one).0 in
        let by_last = left claim leaf event (ap (λ (x : Entry). x.step) same) at in
        subst (λ (h : List Entry). IsLeft w d (state_of w h) (takings_of h) by event) (sym (is ∙ append-nil history))
        (subst (λ (u : ℕ). IsLeft w d (state_of w history) (takings_of history) u event) (ap (λ (x : Entry). x.by) same) by_last)
    of_last (x ∷ m) is one = absurd (not_empty m (took_by by claim leaf) later (cons_same last x [] (m ++ took_by by claim leaf ∷ later) one).1)

-- the step gives no claim
abbrev pub GivesNone : Step → Type 0
GivesNone step = (claim leaf : ℕ) → ¬ (step ≡ Took claim leaf)

-- what comes of an ask that is no take
gives_none : (what : Ask) (step : Step) → ((leaf : ℕ) → ¬ (what ≡ ask.Take leaf)) → ComesOf what step → GivesNone step
gives_none (ask.Take leaf) step other comes = absurd (other leaf refl)
gives_none (ask.Do n) (Did leaf) other comes = λ claim leaf e. cc
gives_none (ask.Done n) (Done claim) other comes = λ claim leaf e. cc
gives_none (ask.Done n) (Late claim) other comes = λ claim leaf e. cc
gives_none (ask.Fail n) (Failed claim effect) other comes = λ claim leaf e. cc
gives_none (ask.Fail n) (Late claim) other comes = λ claim leaf e. cc
gives_none ask.Rewind (Rewound index) other comes = λ claim leaf e. cc
gives_none ask.Commit Committed other comes = λ claim leaf e. cc
gives_none what step other comes = absurd comes

-- so what a desk keeps stays
pub still_dutiful : (d : Duties) (r after : Run) (what : Ask) (by : ℕ) → ((leaf : ℕ) → ¬ (what ≡ ask.Take leaf)) → GrowsAtMost r what by after →
    IsDutiful (schema r) d r.history → IsDutiful (schema after) d after.history
still_dutiful d r after what by other (inl same) dutiful = subst (λ (x : Run). IsDutiful (schema x) d x.history) (sym same) dutiful
still_dutiful d r after what by other (inr (step, comes, is)) dutiful =
    subst (λ (x : Run). IsDutiful (schema x) d x.history) (sym is)
    (one_more (schema r) d r.history (record { by = by; step = step }) dutiful (λ claim leaf event took at. absurd (gives_none what step other comes claim leaf took)))

pub none_dutiful : (w : Schema) (d : Duties) → IsDutiful w d []
none_dutiful w d earlier later by claim leaf event e at = absurd (not_empty earlier (took_by by claim leaf) later e)

-- a claim on the leaf of an event that is left to the user
pub took_dutiful : (d : Desked) (leaf by event number : ℕ) (after : Run) → event_at (schema d.run).labels leaf ≡ Some event → IsLeftTo d by event →
    IsDutiful (schema d.run) d.assigned.duties d.run.history → after ≡ with_entry d.run by (Took number leaf) → IsDutiful (schema after) d.assigned.duties after.history
took_dutiful d leaf by event number after at left dutiful is =
    subst (λ (x : Run). IsDutiful (schema x) d.assigned.duties x.history) (sym is)
    (one_more (schema d.run) d.assigned.duties d.run.history (took_by by number leaf) dutiful left_then)
  where
    left_then : (claim n e : ℕ) → Took number leaf ≡ Took claim n → event_at (schema d.run).labels n ≡ Some e → IsLeftTo d by e
    left_then claim n e took at_n =
        let same : leaf ≡ n = cc in
        subst (λ (x : ℕ). IsLeftTo d by x) (some_same event e (sym at ∙ ap (λ (x : ℕ). event_at (schema d.run).labels x) same ∙ at_n)) left

-- an entry that duties leave to its caller is made, or nothing is
pub made_dutiful : (d : Desked) (by : ℕ) (step : Step) (made : Bool) (after : Run) → IsLeftFor d by step → (IsTrue made → after ≡ with_entry d.run by step) →
    (made ≡ false → after ≡ d.run) → IsDutiful (schema d.run) d.assigned.duties d.run.history → IsDutiful (schema after) d.assigned.duties after.history
made_dutiful d by step false after left is stays dutiful = subst (λ (x : Run). IsDutiful (schema x) d.assigned.duties x.history) (sym (stays refl)) dutiful
made_dutiful d by step true after left is stays dutiful =
    subst (λ (x : Run). IsDutiful (schema x) d.assigned.duties x.history) (sym (is refl))
    (one_more (schema d.run) d.assigned.duties d.run.history (record { by = by; step = step }) dutiful left_then)
  where
    left_then : (claim n e : ℕ) → step ≡ Took claim n → event_at (schema d.run).labels n ≡ Some e → IsLeftTo d by e
    left_then claim n e took at_n =
        let (event, at, free) = subst (λ (s : Step). IsLeftFor d by s) took left in
        subst (λ (x : ℕ). IsLeftTo d by x) (some_same event e (sym at ∙ at_n)) free

-- a state in which claims may follow has an execution before it
consistent_at_first : (w : Schema) → IsSound w first_state → IsConsistent w
consistent_at_first w sound =
    let (option, is_option, follows) = sound.extends in
    let (trace, of_option, free, begins) = follows [] refl in
    (trace, free.0)

pub duties_kept : (d : Desked) → IsWellFormed (schema d.run) → IsLawful (schema d.run) d.run.limit d.run.history → IsDutiful (schema d.run) d.assigned.duties d.run.history → KeepsDuties d
duties_kept d formed lawful dutiful front begins =
    duties_are_kept (schema d.run) formed (consistent_at_first (schema d.run) (lawful.sound [] (d.run.history, refl))) d.assigned.duties d.run.limit d.run.history lawful.legal dutiful front begins
