-- Which verdict stands.
use Rattle.std.proofs.Common.{◌≡◌, ◌≢◌, ◌≤◌, ◌+◌, ℕ, true, false, List, [], ◌∷◌, ◌++◌, length, Option, Some, None, MatchOption, is_some, refl, sym, ◌∙◌, subst, inl, inr, arith, true≢false}
use Rattle.std.proofs.lemmas.Bool.{false_from_ne_true}
use Rattle.flow_model.specs.declared.history.Entry.{Entry}
use Rattle.flow_model.specs.declared.history.Step.{Step}
use Rattle.flow_model.specs.declared.history.Step.TheVariants.{Failed}
use Rattle.flow_model.specs.declared.history.FailEffect.TheVariants.{Kept}
use Rattle.flow_model.specs.Schema.{Schema}
use Rattle.flow_model.specs.Run.{first_state, state_of, leaf_of_claim, IsCurrent, IsLegal, IsOpenIndex, IsStuck, current_claims}
use Rattle.flow_model.specs.Verdict.{Verdict, EndsKept, HasNoOpenIndex, IsRunVerdict, committed, spent, no_other, stuck, unfinished}
use Rattle.flow_model.specs.Decided.{Decided, not_empty}
use Rattle.flow_model.proofs.Lists.{last_of}
use Rattle.flow_core.specs.Run.{Run, schema, now, IsUncommitted, HasEntryLeft}
use Rattle.flow_core.specs.Answers.{IsLeast}
use Rattle.flow_core.proofs.NextLemmas.{none_current}
use Rattle.flow_core.specs.declared.end.End.{End}
use Rattle.flow_core.specs.declared.end.End.TheVariants as end
use Rattle.flow_crew.specs.Ends.{IsEnd, HasEnd, HasNoEnd}
use Rattle.flow_laws.proofs.SoundStates.{legal_length}
use Rattle.flow_crew.proofs.Histories.{not_last_kept}
use Rattle.flow_crew.proofs.Waiting.{waiting_of}

pub no_verdict : (r : Run) → HasNoEnd r → (verdict : Verdict) → ¬ (IsRunVerdict (schema r) r.limit r.history verdict)
no_verdict r none committed h = none end.Committed h
no_verdict r none spent h = none end.Spent h
no_verdict r none (no_other leaf) h = none (end.NoOther leaf) h
no_verdict r none (stuck waiting) h = none end.Stuck (waiting, h)
no_verdict r none unfinished h = h

pub goes_on : (r : Run) → HasNoEnd r → IsUncommitted r
goes_on r none = false_from_ne_true (now r).committed (none end.Committed)

-- the history is no longer than the limit
abbrev pub IsWithin : Run → Type 0
IsWithin r = length r.history ≤ r.limit

pub legal_within : (r : Run) → IsLegal (schema r) r.limit r.history → IsWithin r
legal_within r legal =
    let most : 0 + length r.history ≤ r.limit = legal_length (schema r) r.limit first_state 0 r.history legal (omega arith) in omega arith

-- where no verdict stands there is room
pub has_room : (r : Run) → HasNoEnd r → IsWithin r → HasEntryLeft r
has_room r none within =
    let other : length r.history ≢ r.limit = λ full. none end.Spent (goes_on r none, full) in
    omega arith

pub has_steps : (r : Run) → HasNoEnd r → IsLegal (schema r) r.limit r.history → HasEntryLeft r
has_steps r none legal = has_room r none (legal_within r legal)

-- whether a history ends with a kept failure can be told
abbrev DecidedKept : Schema → List Entry → Type 0
DecidedKept w history = Decided ((leaf : ℕ) × EndsKept w history leaf)

decide_last : (w : Schema) (earlier : List Entry) (last : Entry) (step : Step) → last.step ≡ step → DecidedKept w (earlier ++ last ∷ [])
decide_last w earlier last step is = by_step step is
  where
    other : ((claim : ℕ) → ¬ (last.step ≡ Failed claim Kept)) → DecidedKept w (earlier ++ last ∷ [])
    other never = inr (λ (leaf, kept). not_last_kept w earlier last never leaf kept)

    by_step : (step : Step) → last.step ≡ step → DecidedKept w (earlier ++ last ∷ [])
    by_step (Failed claim Kept) is = inl (leaf_of_claim (state_of w earlier) claim, (earlier, (last, (claim, refl, is, refl))))
    by_step step is = other (λ c e. cc)

pub not_yet_kept : (w : Schema) (history : List Entry) (leaf : ℕ) → history ≡ [] → ¬ (EndsKept w history leaf)
not_yet_kept w history leaf none (earlier, (last, (claim, is, kept, on))) = not_empty earlier last [] (sym none ∙ is)

decide_kept : (w : Schema) (history : List Entry) → DecidedKept w history
decide_kept w [] = inr (λ (leaf, (earlier, (last, (claim, is, kept, on)))). not_empty earlier last [] is)
decide_kept w (e ∷ es) =
    let (earlier, last, is) = last_of (e ∷ es) e (inl refl) in
    subst (DecidedKept w) (sym is) (decide_last w earlier last last.step refl)

-- a stuck run that cannot go back has come to an end
pub stuck_end : (r : Run) → IsUncommitted r → length r.history ≢ r.limit → ((leaf : ℕ) → ¬ (EndsKept (schema r) r.history leaf)) → HasNoOpenIndex (schema r) r.history →
    IsStuck (schema r) (now r) → IsEnd r end.Stuck
stuck_end r going other none closed is =
    let (list, just) = waiting_of (schema r) (now r) is in (list, ((going, other), none, closed, is, just))

pub stuck_ends : (r : Run) → IsUncommitted r → length r.history ≢ r.limit → HasNoOpenIndex (schema r) r.history → IsStuck (schema r) (now r) → HasEnd r
stuck_ends r going other closed is = elim (decide_kept (schema r) r.history) [
  | inl kept ↦ (end.NoOther kept.0, ((going, other), kept.1, closed))
  | inr none ↦ (end.Stuck, stuck_end r going other (λ leaf kept. none (leaf, kept)) closed is)
]

-- what the answer to the question for a verdict says
pub ends : (r : Run) (o : Option End) → MatchOption o (HasNoEnd r) (IsEnd r) → is_some o ≡ true → HasEnd r
ends r None h e = absurd (true≢false (sym e))
ends r (Some end) h e = (end, h)

pub ends_not : (r : Run) (o : Option End) → MatchOption o (HasNoEnd r) (IsEnd r) → is_some o ≡ false → HasNoEnd r
ends_not r None h e = h
ends_not r (Some end) h e = absurd (true≢false e)

-- where no leaf of a kept failure is told, the history ends with none
pub none_kept : (r : Run) (o : Option ℕ) → MatchOption o ((leaf : ℕ) → ¬ (EndsKept (schema r) r.history leaf)) (EndsKept (schema r) r.history) →
    ((leaf : ℕ) → ¬ (o ≡ Some leaf)) → (leaf : ℕ) → ¬ (EndsKept (schema r) r.history leaf)
none_kept r None h other = h
none_kept r (Some leaf) h other = absurd (other leaf refl)

-- a run with a claim out is not stuck
pub claim_out : (r : Run) (o : Option ℕ) → MatchOption o (current_claims (now r) ≡ []) (IsLeast (IsCurrent (now r))) → is_some o ≡ true → ¬ (IsStuck (schema r) (now r))
claim_out r None h e is = true≢false (sym e)
claim_out r (Some claim) h e is = none_current (now r) claim is.no_claim h.0

-- ---- which end, where the run is not committed and there is room

module _ (r : Run) (going : IsUncommitted r) (other : length r.history ≢ r.limit) where
  abbrev Found : End → Option End → Type 0
  Found end o = MatchOption o ((i : ℕ) × IsOpenIndex (schema r) (now r) i) (λ found. (found ≡ end) × HasNoOpenIndex (schema r) r.history)

  open_goes_on : (i : ℕ) → IsOpenIndex (schema r) (now r) i → HasNoEnd r
  open_goes_on i free end.Committed h = true≢false (sym h ∙ going)
  open_goes_on i free end.Spent h = other h.1
  open_goes_on i free (end.NoOther leaf) h = h.2 i free
  open_goes_on i free end.Stuck (waiting, h) = h.2 i free

  pub kept_end : (leaf : ℕ) → EndsKept (schema r) r.history leaf → (o : Option End) → Found (end.NoOther leaf) o → MatchOption o (HasNoEnd r) (IsEnd r)
  kept_end leaf kept None (i, free) = open_goes_on i free
  kept_end leaf kept (Some found) (is, closed) = subst (IsEnd r) (sym is) ((going, other), kept, closed)

  pub waiting_end : ((leaf : ℕ) → ¬ (EndsKept (schema r) r.history leaf)) → IsStuck (schema r) (now r) → (o : Option End) → Found end.Stuck o →
      MatchOption o (HasNoEnd r) (IsEnd r)
  waiting_end none is None (i, free) = open_goes_on i free
  waiting_end none is (Some found) (same, closed) = subst (IsEnd r) (sym same) (stuck_end r going other none closed is)

  pub no_end : ((leaf : ℕ) → ¬ (EndsKept (schema r) r.history leaf)) → ¬ (IsStuck (schema r) (now r)) → HasNoEnd r
  no_end none unstuck end.Committed h = true≢false (sym h ∙ going)
  no_end none unstuck end.Spent h = other h.1
  no_end none free (end.NoOther leaf) h = none leaf h.1
  no_end none unstuck end.Stuck (waiting, h) = unstuck h.3
