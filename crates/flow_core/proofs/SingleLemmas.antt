-- Each ask of a run has one answer, and leaves one run.
use Rattle.std.proofs.Common.{◌≡◌, ◌<◌, ◌≤◌, ◌∙◌, ℕ, zero, suc, Bool, true, false, MatchBool, List, [], ◌∷◌, length, get_or, le_antisymm, None, Result, Ok, Err, not, nat_eq, IsTrue, IsSomeAnd, is_some, refl, sym, ap, subst, arith, true≢false}
use Rattle.std.proofs.lemmas.Bool.{eqb-true}
use Rattle.flow_model.specs.declared.history.Call.{Call}
use Rattle.flow_model.specs.declared.history.FailEffect.{FailEffect}
use Rattle.flow_model.specs.declared.history.FailEffect.TheVariants.{Switched, Kept}
use Rattle.flow_model.specs.declared.history.Step.TheVariants.{Took, Done, Failed, Late, Did, Rewound, Committed}
use Rattle.flow_model.specs.Schema.{Schema, IsEventLeaf, IsOtherLeaf, IsGood}
use Rattle.flow_model.specs.Facts.{HoldsAt}
use Rattle.flow_model.specs.Run.{Claim, RunState, claim_at, current_claims, database, is_current, IsCurrent, IsOpen, IsOpenIndex, CanTake, CanDoAside}
use Rattle.flow_model.specs.Verdict.{call_of}
use Rattle.flow_laws.proofs.ClaimLemmas.{some_claim, and_parts}
use Rattle.flow_ask.specs.declared.ask.Ask.{Ask}
use Rattle.flow_ask.specs.declared.ask.Ask.TheVariants as ask
use Rattle.flow_ask.specs.declared.made.Made.{Made}
use Rattle.flow_ask.specs.declared.made.Made.TheVariants as made
use Rattle.flow_ask.specs.declared.refusal.Refusal.{Refusal}
use Rattle.flow_core.specs.declared.refusal.TakeRefusal.{TakeRefusal}
use Rattle.flow_core.specs.declared.refusal.TakeRefusal.TheVariants as take
use Rattle.flow_core.specs.declared.refusal.DoRefusal.{DoRefusal}
use Rattle.flow_core.specs.declared.refusal.DoRefusal.TheVariants as perform
use Rattle.flow_core.specs.declared.refusal.PostRefusal.{PostRefusal}
use Rattle.flow_core.specs.declared.refusal.PostRefusal.TheVariants as post
use Rattle.flow_core.specs.declared.refusal.RewindRefusal.{RewindRefusal}
use Rattle.flow_core.specs.declared.refusal.RewindRefusal.TheVariants as rewind
use Rattle.flow_core.specs.declared.refusal.CommitRefusal.{CommitRefusal}
use Rattle.flow_core.specs.declared.refusal.CommitRefusal.TheVariants as commit
use Rattle.flow_core.specs.declared.next.Next.{Next}
use Rattle.flow_core.specs.declared.next.Next.TheVariants as next
use Rattle.flow_core.specs.Run.{Run, schema, now, with_entry, IsUncommitted, HasEntryLeft}
use Rattle.flow_core.specs.Answers.{IsOver, next_claim, Takes, Performs, IsAnswered, IsUnanswered, IsLateOf, PostIsRefused, HasEffect, PostsDone, PostsFailed, Rewinds, Commits, IsLeast}
use Rattle.flow_core.specs.Ask.{of_take, of_do, of_post, of_rewind, of_commit, AnswersBy, Answers}
use Rattle.flow_core.specs.Single.{IsSingle}
use Rattle.flow_core.specs.Next.{CanAct, IsWaiting, IsNext}
use Rattle.flow_core.proofs.Calls.{event_below}
use Rattle.flow_core.proofs.GivenClaims.{unanswered_current}
use Rattle.flow_core.proofs.NextLemmas.{none_current, not_waiting}

-- ---- what cannot be both

pub not_over : (r : Run) → IsOver r → IsUncommitted r → ⊥
not_over r over going = true≢false (sym over ∙ going)

pub none_other : (w : Schema) (n : ℕ) → length w.labels ≤ n → IsOtherLeaf w n → ⊥
none_other w n past other = omega (arith, other.0)

pub none_event : (w : Schema) (n : ℕ) → length w.labels ≤ n → IsEventLeaf w n → ⊥
none_event w n past event = omega (arith, event_below w.labels n event)

pub other_event : (w : Schema) (n : ℕ) → IsOtherLeaf w n → IsEventLeaf w n → ⊥
other_event w n other event = true≢false (sym event ∙ ap is_some other.1)

none_with : (s : RunState) (n : ℕ) (P : Claim → Type 0) → claim_at s n ≡ None → IsSomeAnd (claim_at s n) P → ⊥
none_with s n P none some = subst (λ o. IsSomeAnd o P) none some

-- the claim is one and the same
both_of : (s : RunState) (n : ℕ) (P Q : Claim → Type 0) → IsSomeAnd (claim_at s n) P → IsSomeAnd (claim_at s n) Q → (claim : Claim) × P claim × Q claim
both_of s n P Q p q =
    let (claim, found, has) = some_claim P (claim_at s n) p in
    (claim, has, subst (λ o. IsSomeAnd o Q) found q)

pub not_both : (s : RunState) (n : ℕ) → IsAnswered s n → IsUnanswered s n → ⊥
not_both s n a u =
    let (claim, x, y) = both_of s n (λ (c : Claim). IsTrue c.answered) (λ (c : Claim). c.answered ≡ false) a u in true≢false (sym x ∙ y)

pub unanswered_late : (s : RunState) (n of : ℕ) → IsLateOf s n of → IsUnanswered s n
unanswered_late s n of late =
    let (claim, found, has) = some_claim (λ (c : Claim). (c.answered ≡ false) × (c.epoch ≡ of)) (claim_at s n) late.1 in
    subst (λ o. IsSomeAnd o (λ (c : Claim). c.answered ≡ false)) (sym found) has.0

pub late_current : (s : RunState) (n of : ℕ) → IsLateOf s n of → IsCurrent s n → ⊥
late_current s n of late current =
    let (claim, x, y) = both_of s n (λ (c : Claim). (c.answered ≡ false) × (c.epoch ≡ of)) (λ c. IsTrue (is_current s c)) late.1 current in
    let same : claim.epoch ≡ s.epoch = eqb-true claim.epoch s.epoch (and_parts (not claim.answered) (nat_eq claim.epoch s.epoch) y).1 in
    let older : of < s.epoch = late.0 in
    let is : claim.epoch ≡ of = x.1 in
    omega arith

late_once : (s : RunState) (n of other : ℕ) → IsLateOf s n of → IsLateOf s n other → of ≡ other
late_once s n of other a b =
    let (claim, x, y) = both_of s n (λ (c : Claim). (c.answered ≡ false) × (c.epoch ≡ of)) (λ (c : Claim). (c.answered ≡ false) × (c.epoch ≡ other)) a.1 b.1 in
    sym x.1 ∙ y.1

pub none_out : (s : RunState) (n : ℕ) → current_claims s ≡ [] → IsLeast (IsCurrent s) n → ⊥
none_out s n none least = none_current s n none least.0

-- ---- the first of some causes

-- the cause at the place holds, and none before it; past the last none does
abbrev IsFirst : List (Type 0) → ℕ → Type 0
IsFirst [] n = n ≡ 0
IsFirst (C ∷ causes) zero = C
IsFirst (C ∷ causes) (suc n) = ¬ C × IsFirst causes n

first_once : (causes : List (Type 0)) (n m : ℕ) → IsFirst causes n → IsFirst causes m → n ≡ m
first_once [] n m h k = h ∙ sym k
first_once (C ∷ causes) zero zero h k = refl
first_once (C ∷ causes) zero (suc m) h k = absurd (k.0 h)
first_once (C ∷ causes) (suc n) zero h k = absurd (h.0 k)
first_once (C ∷ causes) (suc n) (suc m) h k = ap suc (first_once causes n m h.1 k.1)

-- an answer and the run that it leaves are those of the first cause; at the place `only` there is a number with P in them
record IsOfFirst {A : Type 0} (causes : List (Type 0)) (only : ℕ) (P : ℕ → Type 0) (told : ℕ → List (A × Run)) (last : ℕ → A × Run) (a : A) (after : Run) : Type 0 where
  pub place : ℕ
  pub number : ℕ
  pub is : (a, after) ≡ get_or (told number) place (last number)
  pub first : IsFirst causes place
  pub settled : MatchBool (nat_eq place only) (P number) (number ≡ 0)

told_at : {A : Type 0} {causes : List (Type 0)} {only : ℕ} {P : ℕ → Type 0} {told : ℕ → List (A × Run)} {last : ℕ → A × Run} {a : A} {after : Run} (place number : ℕ) →
    (a, after) ≡ get_or (told number) place (last number) → IsFirst causes place → MatchBool (nat_eq place only) (P number) (number ≡ 0) → IsOfFirst causes only P told last a after
told_at place number is first settled = record { place = place; number = number; is = is; first = first; settled = settled }

once : {A : Type 0} (causes : List (Type 0)) (only : ℕ) (P : ℕ → Type 0) (told : ℕ → List (A × Run)) (last : ℕ → A × Run) → ((n m : ℕ) → P n → P m → n ≡ m) →
    (a b : A) (after other : Run) → IsOfFirst causes only P told last a after → IsOfFirst causes only P told last b other → (a ≡ b) × (after ≡ other)
once {A} causes only P told last unique a b after other h k =
    let places : h.place ≡ k.place = first_once causes h.place k.place h.first k.first in
    let numbers = settle (nat_eq k.place only) (subst (λ n. MatchBool (nat_eq n only) (P h.number) (h.number ≡ 0)) places h.settled) k.settled in
    let same : ◌≡◌ {A = A × Run} (a, after) (b, other) = h.is ∙ (λ i. get_or (told (numbers i)) (places i) (last (numbers i))) ∙ sym k.is in
    (ap (λ (t : A × Run). t.0) same, ap (λ (t : A × Run). t.1) same)
  where
    settle : (here : Bool) → MatchBool here (P h.number) (h.number ≡ 0) → MatchBool here (P k.number) (k.number ≡ 0) → h.number ≡ k.number
    settle true p q = unique h.number k.number p q
    settle false p q = p ∙ sym q

zero_once : (n m : ℕ) → n ≡ 0 → m ≡ 0 → n ≡ m
zero_once n m p q = p ∙ sym q

-- ---- each call

module _ (r : Run) (leaf by : ℕ) where
  abbrev IsTaken : Result Call TakeRefusal → Run → Type 0
  IsTaken = IsOfFirst (IsOver r ∷ (length (schema r).labels ≤ leaf) ∷ IsOtherLeaf (schema r) leaf ∷ (¬ (HasEntryLeft r)) ∷ (¬ (CanTake (schema r) (now r) leaf)) ∷ []) 0 (λ n. n ≡ 0)
      (λ _. (Err take.Closed, r) ∷ (Err take.NoLeaf, r) ∷ (Err take.WrongKind, r) ∷ (Err (take.Spent r.limit), r) ∷ (Err take.NotEnabled, r) ∷ [])
      (λ _. let taken : Run = with_entry r by (Took (next_claim r) leaf) in (Ok (call_of (schema r) (now taken) (next_claim r)), taken))

  of_event : {P : Type 0} → IsUncommitted r → IsEventLeaf (schema r) leaf → P → ¬ (IsOver r) × (¬ (length (schema r).labels ≤ leaf) × (¬ (IsOtherLeaf (schema r) leaf) × P))
  of_event going event p = ((λ over. not_over r over going), ((λ past. none_event (schema r) leaf past event), ((λ other. other_event (schema r) leaf other event), p)))

  is_taken : (a : Result Call TakeRefusal) (after : Run) → Takes r leaf by a after → IsTaken a after
  is_taken (Err take.Closed) after (h, is) = told_at 0 0 (λ i. (Err take.Closed, is i)) h refl
  is_taken (Err take.NoLeaf) after (h, is) = told_at 1 0 (λ i. (Err take.NoLeaf, is i)) ((λ over. not_over r over h.0), h.1) refl
  is_taken (Err take.WrongKind) after (h, is) = told_at 2 0 (λ i. (Err take.WrongKind, is i)) ((λ over. not_over r over h.0), ((λ past. none_other (schema r) leaf past h.1), h.1)) refl
  is_taken (Err (take.Spent x)) after (h, is) = told_at 3 0 (λ i. (Err (take.Spent (h.2.1 i)), is i)) (of_event h.0 h.1 h.2.0) refl
  is_taken (Err take.NotEnabled) after (h, is) = told_at 4 0 (λ i. (Err take.NotEnabled, is i)) (of_event h.0 h.1 ((λ spent. spent h.2), h.3)) refl
  is_taken (Ok call) after h = told_at 5 0 (λ i. (Ok ((h.4 ∙ ap (λ (a : Run). call_of (schema r) (now a) (next_claim r)) h.3) i), h.3 i)) (of_event h.0 h.2.0 ((λ spent. spent h.1), ((λ cannot. cannot h.2), refl))) refl

  abbrev IsPerformed : Result (Unit {0}) DoRefusal → Run → Type 0
  IsPerformed = IsOfFirst (IsOver r ∷ (length (schema r).labels ≤ leaf) ∷ IsEventLeaf (schema r) leaf ∷ (¬ (HasEntryLeft r)) ∷ (¬ (CanDoAside (schema r) (now r) leaf))
      ∷ (¬ (HoldsAt (schema r).labels (database (schema r) (now r)) leaf)) ∷ []) 0 (λ n. n ≡ 0)
      (λ _. (Err perform.Closed, r) ∷ (Err perform.NoLeaf, r) ∷ (Err perform.WrongKind, r) ∷ (Err (perform.Spent r.limit), r) ∷ (Err perform.NotEnabled, r) ∷ (Err perform.TestFalse, r) ∷ [])
      (λ _. (Ok tt, with_entry r by (Did leaf)))

  of_other : {P : Type 0} → IsUncommitted r → IsOtherLeaf (schema r) leaf → P → ¬ (IsOver r) × (¬ (length (schema r).labels ≤ leaf) × (¬ (IsEventLeaf (schema r) leaf) × P))
  of_other going other p = ((λ over. not_over r over going), ((λ past. none_other (schema r) leaf past other), ((λ event. other_event (schema r) leaf other event), p)))

  is_performed : (a : Result (Unit {0}) DoRefusal) (after : Run) → Performs r leaf by a after → IsPerformed a after
  is_performed (Err perform.Closed) after h = told_at 0 0 (λ i. (Err perform.Closed, h.1 i)) h.0 refl
  is_performed (Err perform.NoLeaf) after h = told_at 1 0 (λ i. (Err perform.NoLeaf, h.2 i)) ((λ over. not_over r over h.0), h.1) refl
  is_performed (Err perform.WrongKind) after h = told_at 2 0 (λ i. (Err perform.WrongKind, h.2 i)) ((λ over. not_over r over h.0), ((λ past. none_event (schema r) leaf past h.1), h.1)) refl
  is_performed (Err (perform.Spent x)) after h = told_at 3 0 (λ i. (Err (perform.Spent (h.2.1 i)), h.3 i)) (of_other h.0 h.1 h.2.0) refl
  is_performed (Err perform.NotEnabled) after h = told_at 4 0 (λ i. (Err perform.NotEnabled, h.4 i)) (of_other h.0 h.1 ((λ spent. spent h.2), h.3)) refl
  is_performed (Err perform.TestFalse) after h = told_at 5 0 (λ i. (Err perform.TestFalse, h.4 i)) (of_other h.0 h.2.0 ((λ spent. spent h.1), ((λ cannot. cannot h.2), h.3))) refl
  is_performed (Ok x) after h = told_at 6 0 (λ i. (Ok x, h.4 i)) (of_other h.0 h.2.0 ((λ spent. spent h.1), ((λ cannot. cannot h.2), ((λ not. not h.3), refl)))) refl

pub takes_once : (r : Run) (leaf by : ℕ) (a b : Result Call TakeRefusal) (after other : Run) → Takes r leaf by a after → Takes r leaf by b other → (a ≡ b) × (after ≡ other)
takes_once r leaf by a b after other h k = once _ 0 _ _ _ zero_once a b after other (is_taken r leaf by a after h) (is_taken r leaf by b other k)

pub performs_once : (r : Run) (leaf by : ℕ) (a b : Result (Unit {0}) DoRefusal) (after other : Run) → Performs r leaf by a after → Performs r leaf by b other → (a ≡ b) × (after ≡ other)
performs_once r leaf by a b after other h k = once _ 0 _ _ _ zero_once a b after other (is_performed r leaf by a after h) (is_performed r leaf by b other k)

module _ (r : Run) (claim : ℕ) where
  of_unanswered : {P : Type 0} → IsUncommitted r → IsUnanswered (now r) claim → P → ¬ (IsOver r) × (¬ (claim_at (now r) claim ≡ None) × (¬ (IsAnswered (now r) claim) × P))
  of_unanswered going given p = (
    (λ over. not_over r over going),
    ((λ none. none_with (now r) claim (λ (c : Claim). c.answered ≡ false) none given), ((λ answered. not_both (now r) claim answered given), p)),
  )

  of_current : {P : Type 0} → IsUncommitted r → HasEntryLeft r → IsCurrent (now r) claim → P →
      ¬ (IsOver r) × (¬ (claim_at (now r) claim ≡ None) × (¬ (IsAnswered (now r) claim) × (¬ (¬ (HasEntryLeft r)) × (¬ (¬ (IsCurrent (now r) claim)) × P))))
  of_current going left current p = of_unanswered going (unanswered_current (now r) claim current) ((λ spent. spent left), ((λ not. not current), p))

module _ {A : Type 0} (r : Run) (claim by : ℕ) (rest : List (Type 0)) (ends : List (Result A PostRefusal × Run)) (last : Result A PostRefusal × Run) where
  abbrev IsPosted : Result A PostRefusal → Run → Type 0
  IsPosted = IsOfFirst (IsOver r ∷ (claim_at (now r) claim ≡ None) ∷ IsAnswered (now r) claim ∷ (¬ (HasEntryLeft r)) ∷ (¬ (IsCurrent (now r) claim)) ∷ rest) 4 (IsLateOf (now r) claim)
      (λ n. (Err post.Closed, r) ∷ (Err post.NoClaim, r) ∷ (Err post.Answered, r) ∷ (Err (post.Spent r.limit), r) ∷ (Err (post.Late n (now r).epoch), with_entry r by (Late claim)) ∷ ends)
      (λ _. last)

  is_refused : (refusal : PostRefusal) (after : Run) → PostIsRefused r claim by refusal after → IsPosted (Err refusal) after
  is_refused post.Closed after h = told_at 0 0 (λ i. (Err post.Closed, h.1 i)) h.0 refl
  is_refused post.NoClaim after h = told_at 1 0 (λ i. (Err post.NoClaim, h.2 i)) ((λ over. not_over r over h.0), h.1) refl
  is_refused post.Answered after h = told_at 2 0 (λ i. (Err post.Answered, h.2 i)) ((λ over. not_over r over h.0), ((λ none. none_with (now r) claim (λ (c : Claim). IsTrue c.answered) none h.1), h.1)) refl
  is_refused (post.Spent x) after h = told_at 3 0 (λ i. (Err (post.Spent (h.2.1 i)), h.3 i)) (of_unanswered r claim h.0 h.1 h.2.0) refl
  is_refused (post.Late of at) after h = told_at 4 of (λ i. (Err (post.Late of (h.3 i)), h.4 i)) (of_unanswered r claim h.0 (unanswered_late (now r) claim of h.2) ((λ spent. spent h.1), late_current (now r) claim of h.2)) h.2

is_done : (r : Run) (claim by : ℕ) (a : Result (Unit {0}) PostRefusal) (after : Run) → PostsDone r claim by a after → IsPosted r claim by [] [] (Ok tt, with_entry r by (Done claim)) a after
is_done r claim by (Err refusal) after h = is_refused r claim by [] [] _ refusal after h
is_done r claim by (Ok x) after h = told_at 5 0 (λ i. (Ok x, h.3 i)) (of_current r claim h.0 h.1 h.2 refl) refl

is_failed : (r : Run) (claim by : ℕ) (a : Result FailEffect PostRefusal) (after : Run) → PostsFailed r claim by a after →
    IsPosted r claim by (HasEffect r claim Switched ∷ []) ((Ok Switched, with_entry r by (Failed claim Switched)) ∷ []) (Ok Kept, with_entry r by (Failed claim Kept)) a after
is_failed r claim by (Err refusal) after h = is_refused r claim by _ _ _ refusal after h
is_failed r claim by (Ok Switched) after h = told_at 5 0 (λ i. (Ok Switched, h.4 i)) (of_current r claim h.0 h.1 h.2 h.3) refl
is_failed r claim by (Ok Kept) after h = told_at 6 0 (λ i. (Ok Kept, h.4 i)) (of_current r claim h.0 h.1 h.2 ((λ other. other.2 (h.3 other.0 other.1)), refl)) refl

pub posts_done_once : (r : Run) (claim by : ℕ) (a b : Result (Unit {0}) PostRefusal) (after other : Run) → PostsDone r claim by a after → PostsDone r claim by b other → (a ≡ b) × (after ≡ other)
posts_done_once r claim by a b after other h k = once _ 4 _ _ _ (late_once (now r) claim) a b after other (is_done r claim by a after h) (is_done r claim by b other k)

pub posts_failed_once : (r : Run) (claim by : ℕ) (a b : Result FailEffect PostRefusal) (after other : Run) → PostsFailed r claim by a after → PostsFailed r claim by b other → (a ≡ b) × (after ≡ other)
posts_failed_once r claim by a b after other h k = once _ 4 _ _ _ (late_once (now r) claim) a b after other (is_failed r claim by a after h) (is_failed r claim by b other k)

module _ (r : Run) (by : ℕ) where
  abbrev IsRewound : Result ℕ RewindRefusal → Run → Type 0
  IsRewound = IsOfFirst (IsOver r ∷ (¬ (HasEntryLeft r)) ∷ ((i : ℕ) → ¬ (IsOpen (schema r) (now r) i)) ∷ []) 3 (IsOpenIndex (schema r) (now r))
      (λ _. (Err rewind.Closed, r) ∷ (Err (rewind.Spent r.limit), r) ∷ (Err rewind.NoChoice, r) ∷ []) (λ n. (Ok n, with_entry r by (Rewound n)))

  is_rewound : (a : Result ℕ RewindRefusal) (after : Run) → Rewinds r by a after → IsRewound a after
  is_rewound (Err rewind.Closed) after h = told_at 0 0 (λ i. (Err rewind.Closed, h.1 i)) h.0 refl
  is_rewound (Err (rewind.Spent x)) after h = told_at 1 0 (λ i. (Err (rewind.Spent (h.1.1 i)), h.2 i)) ((λ over. not_over r over h.0), h.1.0) refl
  is_rewound (Err rewind.NoChoice) after h = told_at 2 0 (λ i. (Err rewind.NoChoice, h.3 i)) ((λ over. not_over r over h.0), ((λ spent. spent h.1), h.2)) refl
  is_rewound (Ok x) after h = told_at 3 x (λ i. (Ok x, h.3 i)) ((λ over. not_over r over h.0), ((λ spent. spent h.1), ((λ none. none x h.2.0), refl))) h.2

  abbrev IsEnded : Result (Unit {0}) CommitRefusal → Run → Type 0
  IsEnded = IsOfFirst (IsOver r ∷ (¬ (HasEntryLeft r)) ∷ (¬ (current_claims (now r) ≡ [])) ∷ (¬ (IsGood (schema r) (now r).journal)) ∷ []) 2 (IsLeast (IsCurrent (now r)))
      (λ n. (Err commit.Closed, r) ∷ (Err (commit.Spent r.limit), r) ∷ (Err (commit.ClaimsOut n), r) ∷ (Err commit.Unfinished, r) ∷ []) (λ _. (Ok tt, with_entry r by Committed))

  is_ended : (a : Result (Unit {0}) CommitRefusal) (after : Run) → Commits r by a after → IsEnded a after
  is_ended (Err commit.Closed) after h = told_at 0 0 (λ i. (Err commit.Closed, h.1 i)) h.0 refl
  is_ended (Err (commit.Spent x)) after h = told_at 1 0 (λ i. (Err (commit.Spent (h.1.1 i)), h.2 i)) ((λ over. not_over r over h.0), h.1.0) refl
  is_ended (Err (commit.ClaimsOut x)) after h = told_at 2 x (λ i. (Err (commit.ClaimsOut x), h.3 i)) ((λ over. not_over r over h.0), ((λ spent. spent h.1), λ none. none_out (now r) x none h.2)) h.2
  is_ended (Err commit.Unfinished) after h = told_at 3 0 (λ i. (Err commit.Unfinished, h.4 i)) ((λ over. not_over r over h.0), ((λ spent. spent h.1), ((λ some. some h.2), h.3))) refl
  is_ended (Ok x) after h = told_at 4 0 (λ i. (Ok x, h.4 i)) ((λ over. not_over r over h.0), ((λ spent. spent h.1), ((λ some. some h.2), ((λ not. not h.3), refl)))) refl

pub rewinds_once : (r : Run) (by : ℕ) (a b : Result ℕ RewindRefusal) (after other : Run) → Rewinds r by a after → Rewinds r by b other → (a ≡ b) × (after ≡ other)
rewinds_once r by a b after other h k =
    once _ 3 _ _ _ (λ n m p q. le_antisymm (q.1 n p.0) (p.1 m q.0)) a b after other (is_rewound r by a after h) (is_rewound r by b other k)

pub commits_once : (r : Run) (by : ℕ) (a b : Result (Unit {0}) CommitRefusal) (after other : Run) → Commits r by a after → Commits r by b other → (a ≡ b) × (after ≡ other)
commits_once r by a b after other h k =
    once _ 2 _ _ _ (λ n m p q. le_antisymm (p.1 m q.0) (q.1 n p.0)) a b after other (is_ended r by a after h) (is_ended r by b other k)

-- ---- the answer to an ask

-- what is inside of two answers that are the same
ok_once : {A R : Type 0} (a b : A) → ◌≡◌ {A = Result A R} (Ok a) (Ok b) → a ≡ b
ok_once {A} {R} a b same = ap (λ (t : Result A R). value t) same
  where
    value : Result A R → A
    value (Ok x) = x
    value (Err y) = a

err_once : {A R : Type 0} (a b : R) → ◌≡◌ {A = Result A R} (Err a) (Err b) → a ≡ b
err_once {A} {R} a b same = ap (λ (t : Result A R). value t) same
  where
    value : Result A R → R
    value (Ok x) = a
    value (Err y) = y

abbrev is_value : {A R : Type 0} → Result A R → Bool
is_value (Ok x) = true
is_value (Err y) = false

pub by_once : {S A R : Type 0} (Table : Result A R → S → Type 0) (made_of : A → Made) (refusal_of : R → Refusal) →
    ((a b : Result A R) (after other : S) → Table a after → Table b other → (a ≡ b) × (after ≡ other)) →
    (a b : Result Made Refusal) (after other : S) → AnswersBy Table made_of refusal_of a after → AnswersBy Table made_of refusal_of b other → (a ≡ b) × (after ≡ other)
by_once Table made_of refusal_of single (Ok a) (Ok b) after other (x, h, is) (y, k, was) =
    let both = single (Ok x) (Ok y) after other h k in (ap Ok (is ∙ ap made_of (ok_once x y both.0) ∙ sym was), both.1)
by_once Table made_of refusal_of single (Err a) (Err b) after other (x, h, is) (y, k, was) =
    let both = single (Err x) (Err y) after other h k in (ap Err (is ∙ ap refusal_of (err_once x y both.0) ∙ sym was), both.1)
by_once Table made_of refusal_of single (Ok a) (Err b) after other (x, h, is) (y, k, was) =
    absurd (true≢false (ap is_value (single (Ok x) (Err y) after other h k).0))
by_once Table made_of refusal_of single (Err a) (Ok b) after other (x, h, is) (y, k, was) =
    absurd (true≢false (sym (ap is_value (single (Err x) (Ok y) after other h k).0)))

pub answers_once : (r : Run) (ask : Ask) (by : ℕ) → IsSingle (Answers r ask by)
answers_once r (ask.Take leaf) by = by_once (Takes r leaf by) made.Claim of_take (takes_once r leaf by)
answers_once r (ask.Do leaf) by = by_once (Performs r leaf by) (λ _. made.Did) of_do (performs_once r leaf by)
answers_once r (ask.Done claim) by = by_once (PostsDone r claim by) (λ _. made.Done) of_post (posts_done_once r claim by)
answers_once r (ask.Fail claim) by = by_once (PostsFailed r claim by) made.Failed of_post (posts_failed_once r claim by)
answers_once r ask.Rewind by = by_once (Rewinds r by) made.Rewound of_rewind (rewinds_once r by)
answers_once r ask.Commit by = by_once (Commits r by) (λ _. made.Committed) of_commit (commits_once r by)

-- ---- what a run does next

least_once : (P : ℕ → Type 0) (n m : ℕ) → IsLeast P n → IsLeast P m → n ≡ m
least_once P n m h k = le_antisymm (h.1 m k.0) (k.1 n h.0)

-- what waits is told only where nothing else can be
waits_once : (r : Run) (a : Next) (n : ℕ) → IsNext r a → IsNext r (next.Stuck n) → a ≡ next.Stuck n
waits_once r next.Ended n h k = absurd (not_waiting r next.Ended h (λ leaf e. cc) n k.0)
waits_once r (next.Act m) n h k = absurd (not_waiting r (next.Act m) h (λ leaf e. cc) n k.0)
waits_once r (next.Wait m) n h k = absurd (not_waiting r (next.Wait m) h (λ leaf e. cc) n k.0)
waits_once r next.Finished n h k = absurd (not_waiting r next.Finished h (λ leaf e. cc) n k.0)
waits_once r (next.Stuck m) n h k = ap next.Stuck (least_once (IsWaiting r) m n h k)

pub nexts_once : (r : Run) (a b : Next) → IsNext r a → IsNext r b → a ≡ b
nexts_once r a (next.Stuck n) h k = waits_once r a n h k
nexts_once r (next.Stuck n) b h k = sym (waits_once r b n k h)
nexts_once r next.Ended next.Ended h k = refl
nexts_once r next.Ended (next.Act m) h k = absurd (not_over r h k.0.0)
nexts_once r next.Ended (next.Wait m) h k = absurd (not_over r h k.0)
nexts_once r next.Ended next.Finished h k = absurd (not_over r h k.0)
nexts_once r (next.Act n) next.Ended h k = absurd (not_over r k h.0.0)
nexts_once r (next.Act n) (next.Act m) h k = ap next.Act (least_once (CanAct r) n m h k)
nexts_once r (next.Act n) (next.Wait m) h k = absurd (k.1 n h.0)
nexts_once r (next.Act n) next.Finished h k = absurd (k.1 n h.0)
nexts_once r (next.Wait n) next.Ended h k = absurd (not_over r k h.0)
nexts_once r (next.Wait n) (next.Act m) h k = absurd (h.1 m k.0)
nexts_once r (next.Wait n) (next.Wait m) h k = ap next.Wait (least_once (IsCurrent (now r)) n m h.2 k.2)
nexts_once r (next.Wait n) next.Finished h k = absurd (none_out (now r) n k.2 h.2)
nexts_once r next.Finished next.Ended h k = absurd (not_over r k h.0)
nexts_once r next.Finished (next.Act m) h k = absurd (h.1 m k.0)
nexts_once r next.Finished (next.Wait m) h k = absurd (none_out (now r) m h.2 k.2)
nexts_once r next.Finished next.Finished h k = refl
