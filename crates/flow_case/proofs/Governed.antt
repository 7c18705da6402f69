-- The rules of a case let each entry of its history, entry by entry.
use Rattle.std.proofs.Common.{◌≡◌, ℕ, Bool, true, false, IsTrue, List, [], ◌∷◌, ◌++◌, Result, Ok, Err, inl, inr, refl, sym, ap, ◌∙◌, subst, append-nil, le_antisymm}
use Rattle.flow_model.specs.declared.history.Entry.{Entry}
use Rattle.flow_model.specs.declared.history.Step.{Step}
use Rattle.flow_model.specs.declared.history.Step.TheVariants.{Took, Done, Failed, Late, Did, Rewound, Committed}
use Rattle.flow_model.specs.Decided.{cons_same, not_empty}
use Rattle.flow_model.specs.Schema.{Schema}
use Rattle.flow_model.specs.Run.{RunState, state_of, IsOpenIndex}
use Rattle.flow_model.proofs.MadeLists.{two_cuts}
use Rattle.flow_ask.specs.declared.ask.Ask.{Ask}
use Rattle.flow_ask.specs.declared.ask.Ask.TheVariants as ask
use Rattle.flow_ask.specs.declared.made.Made.{Made}
use Rattle.flow_ask.specs.declared.refusal.Refusal.{Refusal}
use Rattle.flow_core.specs.declared.refusal.RewindRefusal.TheVariants as rewind
use Rattle.flow_core.specs.declared.refusal.CommitRefusal.TheVariants as commit
use Rattle.flow_core.specs.Run.{Run, schema, with_entry, now}
use Rattle.flow_core.specs.Ask.{ComesOf, GrowsAtMost}
use Rattle.flow_roles.specs.Desked.{Desked}
use Rattle.flow_roles.specs.Ask.{DeskAnswers}
use Rattle.flow_roles.proofs.Growth.{desk_grows}
use Rattle.flow_case.specs.Rules.{Rules, IsLet, KeepsRules}
use Rattle.flow_case.specs.Ruled.{Ruled, MayLet}
use Rattle.flow_case.specs.Bar.{IsUnbarred}

-- the last entry is let as those before it are
pub one_more : (w : Schema) (rules : Rules) (history : List Entry) (last : Entry) → KeepsRules w rules history → IsLet w rules (state_of w history) last.by last.step →
    KeepsRules w rules (history ++ last ∷ [])
one_more w rules history last kept leave earlier later entry e = elim (two_cuts history (last ∷ []) earlier entry later e) [
  | inl k ↦ kept earlier k.0 entry k.1
  | inr k ↦ of_last k.0 k.1 k.2
]
  where
    of_last : (m : List Entry) → earlier ≡ history ++ m → last ∷ [] ≡ m ++ entry ∷ later → IsLet w rules (state_of w earlier) entry.by entry.step
    of_last [] is one =
        let same : last ≡ entry = (cons_same last entry [] later one).0 in
        subst (λ (h : List Entry). IsLet w rules (state_of w h) entry.by entry.step) (sym (is ∙ append-nil history))
        (subst (λ (x : Entry). IsLet w rules (state_of w history) x.by x.step) same leave)
    of_last (x ∷ m) is one = absurd (not_empty m entry later (cons_same last x [] (m ++ entry ∷ later) one).1)

pub none_kept : (w : Schema) (rules : Rules) → KeepsRules w rules []
none_kept w rules earlier later entry e = absurd (not_empty earlier entry later e)

-- the run has that entry more
pub kept_with : (r after : Run) (rules : Rules) (by : ℕ) (step : Step) → KeepsRules (schema r) rules r.history → IsLet (schema r) rules (now r) by step →
    after ≡ with_entry r by step → KeepsRules (schema after) rules after.history
kept_with r after rules by step kept leave is =
    subst (λ (x : Run). KeepsRules (schema x) rules x.history) (sym is) (one_more (schema r) rules r.history (record { by = by; step = step }) kept leave)

pub kept_same : (r after : Run) (rules : Rules) → KeepsRules (schema r) rules r.history → after ≡ r → KeepsRules (schema after) rules after.history
kept_same r after rules kept is = subst (λ (x : Run). KeepsRules (schema x) rules x.history) (sym is) kept

-- asks of which rules say nothing
abbrev IsPlain : Ask → Type 0
IsPlain ask.Rewind = ⊥
IsPlain ask.Commit = ⊥
IsPlain other = Unit {0}

plain_let : (w : Schema) (rules : Rules) (s : RunState) (by : ℕ) (what : Ask) (step : Step) → IsPlain what → ComesOf what step → IsLet w rules s by step
plain_let w rules s by (ask.Take n) (Took claim leaf) plain comes = tt
plain_let w rules s by (ask.Do n) (Did leaf) plain comes = tt
plain_let w rules s by (ask.Done n) (Done claim) plain comes = tt
plain_let w rules s by (ask.Done n) (Late claim) plain comes = tt
plain_let w rules s by (ask.Fail n) (Failed claim effect) plain comes = tt
plain_let w rules s by (ask.Fail n) (Late claim) plain comes = tt
plain_let w rules s by ask.Rewind step plain comes = absurd plain
plain_let w rules s by ask.Commit step plain comes = absurd plain
plain_let w rules s by what step plain comes = absurd comes

plain_kept : (r after : Run) (rules : Rules) (what : Ask) (by : ℕ) → IsPlain what → GrowsAtMost r what by after → KeepsRules (schema r) rules r.history →
    KeepsRules (schema after) rules after.history
plain_kept r after rules what by plain (inl same) kept = kept_same r after rules kept same
plain_kept r after rules what by plain (inr (step, comes, is)) kept =
    kept_with r after rules by step kept (plain_let (schema r) rules (now r) by what step plain comes) is

-- so what a case keeps stays, whatever the desk answers where no rule bars the ask
pub still_kept : (c : Ruled) (after : Desked) (what : Ask) (by : ℕ) (a : Result Made Refusal) → IsUnbarred c what by → DeskAnswers c.desk what by a after →
    KeepsRules (schema c.desk.run) c.rules c.desk.run.history → KeepsRules (schema after.run) c.rules after.run.history
still_kept c after (ask.Take n) by a free h kept = plain_kept c.desk.run after.run c.rules (ask.Take n) by tt (desk_grows c.desk after (ask.Take n) by a h) kept
still_kept c after (ask.Do n) by a free h kept = plain_kept c.desk.run after.run c.rules (ask.Do n) by tt (desk_grows c.desk after (ask.Do n) by a h) kept
still_kept c after (ask.Done n) by a free h kept = plain_kept c.desk.run after.run c.rules (ask.Done n) by tt (desk_grows c.desk after (ask.Done n) by a h) kept
still_kept c after (ask.Fail n) by a free h kept = plain_kept c.desk.run after.run c.rules (ask.Fail n) by tt (desk_grows c.desk after (ask.Fail n) by a h) kept
still_kept c after ask.Rewind by (Ok made) free (index, h, is) kept =
    kept_with c.desk.run after.run c.rules by (Rewound index) kept (free index (record { going = h.0.0; room = h.0.1; allowed = h.0.2 })) h.0.3
still_kept c after ask.Rewind by (Err refusal) free (rewind.Closed, h, is) kept = kept_same c.desk.run after.run c.rules kept h.0.1
still_kept c after ask.Rewind by (Err refusal) free (rewind.Spent limit, h, is) kept = kept_same c.desk.run after.run c.rules kept h.0.2
still_kept c after ask.Rewind by (Err refusal) free (rewind.NoChoice, h, is) kept = kept_same c.desk.run after.run c.rules kept h.0.3
still_kept c after ask.Commit by (Ok made) free (x, h, is) kept =
    kept_with c.desk.run after.run c.rules by Committed kept (free (h.0.0, h.0.1, h.0.2)) h.0.4
still_kept c after ask.Commit by (Err refusal) free (commit.Closed, h, is) kept = kept_same c.desk.run after.run c.rules kept h.0.1
still_kept c after ask.Commit by (Err refusal) free (commit.Spent limit, h, is) kept = kept_same c.desk.run after.run c.rules kept h.0.2
still_kept c after ask.Commit by (Err refusal) free (commit.ClaimsOut claim, h, is) kept = kept_same c.desk.run after.run c.rules kept h.0.3
still_kept c after ask.Commit by (Err refusal) free (commit.Unfinished, h, is) kept = kept_same c.desk.run after.run c.rules kept h.0.4

-- there is one last place at which another choice is free
pub open_once : (w : Schema) (s : RunState) (i k : ℕ) → IsOpenIndex w s i → IsOpenIndex w s k → i ≡ k
open_once w s i k p q = le_antisymm (q.1 i p.0) (p.1 k q.0)

-- an entry that the rules let is made, or nothing is
pub made_kept : (c : Ruled) (entry : Entry) (made : Bool) (after : Desked) → MayLet c entry → (IsTrue made → after.run ≡ with_entry c.desk.run entry.by entry.step) →
    (made ≡ false → after ≡ c.desk) → KeepsRules (schema c.desk.run) c.rules c.desk.run.history → KeepsRules (schema after.run) c.rules after.run.history
made_kept c entry true after leave is stays kept = kept_with c.desk.run after.run c.rules entry.by entry.step kept leave (is refl)
made_kept c entry false after leave is stays kept = kept_same c.desk.run after.run c.rules kept (ap (λ (d : Desked). d.run) (stays refl))
