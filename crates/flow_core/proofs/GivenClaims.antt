-- Claims that were given, and the least that is current.
use Rattle.std.proofs.Common.{◌≡◌, ◌≤◌, ◌<◌, ◌+◌, ◌-◌, ℕ, zero, suc, Bool, true, false, not, ◌&&◌, ◌↔◌, cond, nat_eq, nat_lt, List, [], ◌∷◌, ◌++◌, map, length, Option, Some, None, slice_get, MatchOption, IsTrue, IsSomeAnd, refl, sym, ap, ◌∙◌, subst, inl, inr, arith, true≢false}
use Rattle.std.specs.List.{filter, find}
use Rattle.std.proofs.lemmas.Bool.{eq-eqb, ne_eqb, eqb-true}
use Rattle.flow_model.specs.declared.labels.Label.{Label}
use Rattle.flow_model.specs.declared.labels.Label.TheVariants.{Event}
use Rattle.flow_model.specs.Lists.{◌∈◌, numbers_from}
use Rattle.flow_model.specs.Facts.{event_at}
use Rattle.flow_model.specs.Schema.{Schema}
use Rattle.flow_model.specs.Run.{Claim, RunState, state_of, claim_at, current_claims, current_leaves, leaf_of_claim, is_current, IsCurrent, IsLapsed, IsFree, CanDoAside}
use Rattle.flow_laws.specs.Histories.{IsSound}
use Rattle.flow_model.proofs.Lists.{mem_here, each_member}
use Rattle.flow_model.specs.Decided.{decide_in, cons_same}
use Rattle.flow_model.proofs.MadeLists.{some_same}
use Rattle.flow_laws.proofs.ClaimLemmas.{number_of, some_claim, claim_in, and_parts}
use Rattle.flow_laws.proofs.SoundStates.{taken_of_current}
use Rattle.flow_model.specs.Takers.{Takings, takings_of}
use Rattle.flow_duty_laws.proofs.Claims.{those_at, those_there}
use Rattle.flow_duty_laws.proofs.Kept.{those_of}
use Rattle.flow_workflow.specs.Definition.{schema_of}
use Rattle.flow_workflow.specs.Numbers.{IsKnown}
use Rattle.flow_residual.specs.Remaining.{MayComeNext, IsAvoidable}
use Rattle.flow_residual.specs.declared.given.Given.{Given}
use Rattle.flow_residual.specs.Given.{claim_of}
use Rattle.flow_residual.specs.Claimed.{run_of, IsGivenAt}
use Rattle.flow_residual.proofs.Outstanding.{each_at}
use Rattle.flow_facts.specs.Changes.{HasFactBelow}
use Rattle.flow_facts.proofs.JournalLabels.{length-labels_at}
use Rattle.flow_core.specs.Answers.{IsUnanswered, IsLeast}
use Rattle.flow_core.specs.Claim.{IsGiven}
use Rattle.flow_core.specs.declared.run.Core.TheInside.{Inside}
use Rattle.flow_core.specs.Next.{CanStep}
use Rattle.flow_core.specs.Invariant.{run_by, IsRunning}
use Rattle.flow_core.proofs.JournalLemmas.{next_of_all, next_of_first, journal_within, next_room}
use Rattle.flow_core.proofs.Steps.{events_at, takers_in, sound_now}
use Rattle.flow_core.proofs.Calls.{attempts_are}
use Rattle.flow_core.proofs.Tests.{claim_is}

abbrev at : ℕ → Claim → Bool
at number = λ (claim : Claim). nat_eq claim.number number

-- where the claim of a number stands
pub find_place : (first : ℕ) (claims : List Claim) (n : ℕ) (claim : Claim) → map number_of claims ≡ numbers_from first (length claims) →
    find (at n) claims ≡ Some claim → (i : ℕ) × (n ≡ first + i) × (slice_get claims i ≡ Some claim)
find_place first [] n claim numbered found = cc
find_place first (x ∷ xs) n claim numbered found =
    let both = cons_same x.number first (map number_of xs) (numbers_from (first + 1) (length xs)) numbered in
    step (nat_eq x.number n) refl found (find_place (first + 1) xs n claim both.1) both.0
  where
    step : (b : Bool) → nat_eq x.number n ≡ b → cond b (Some x) (find (at n) xs) ≡ Some claim →
        (find (at n) xs ≡ Some claim → (i : ℕ) × (n ≡ first + 1 + i) × (slice_get xs i ≡ Some claim)) → x.number ≡ first →
        (i : ℕ) × (n ≡ first + i) × (slice_get (x ∷ xs) i ≡ Some claim)
    step true e f rest here = let same : x.number ≡ n = eqb-true x.number n e in (0, omega arith, f)
    step false e f rest here = let (i, is, got) = rest f in (suc i, omega arith, got)

-- and its number is none below the first
no_less : (first : ℕ) (claims : List Claim) (n : ℕ) (P : Claim → Type 0) → map number_of claims ≡ numbers_from first (length claims) → IsSomeAnd (find (at n) claims) P → first ≤ n
no_less first claims n P numbered has =
    let (claim, found, told) = some_claim P (find (at n) claims) has in
    let (i, is, got) = find_place first claims n claim numbered found in omega arith

-- the first of the claims with p is the least
least_of : (first : ℕ) (p : Claim → Bool) (claims : List Claim) (n : ℕ) → map number_of claims ≡ numbers_from first (length claims) →
    slice_get (map number_of (filter p claims)) 0 ≡ Some n →
    IsSomeAnd (find (at n) claims) (λ claim. IsTrue (p claim)) × ((other : ℕ) → IsSomeAnd (find (at other) claims) (λ claim. IsTrue (p claim)) → n ≤ other)
least_of first p [] n numbered h = cc
least_of first p (x ∷ xs) n numbered h =
    let both = cons_same x.number first (map number_of xs) (numbers_from (first + 1) (length xs)) numbered in
    step (p x) refl h both.0 both.1 (λ got. least_of (first + 1) p xs n both.1 got)
  where
    skipped : (m : ℕ) (b : Bool) → p x ≡ false → IsSomeAnd (cond b (Some x) (find (at m) xs)) (λ claim. IsTrue (p claim)) → IsSomeAnd (find (at m) xs) (λ claim. IsTrue (p claim))
    skipped m true lacks has = absurd (true≢false (sym has ∙ lacks))
    skipped m false lacks has = has

    step : (b : Bool) → p x ≡ b → slice_get (map number_of (cond b (x ∷ filter p xs) (filter p xs))) 0 ≡ Some n → x.number ≡ first →
        map number_of xs ≡ numbers_from (first + 1) (length xs) →
        (slice_get (map number_of (filter p xs)) 0 ≡ Some n → IsSomeAnd (find (at n) xs) (λ claim. IsTrue (p claim)) × ((other : ℕ) → IsSomeAnd (find (at other) xs) (λ claim. IsTrue (p claim)) → n ≤ other)) →
        IsSomeAnd (find (at n) (x ∷ xs)) (λ claim. IsTrue (p claim)) × ((other : ℕ) → IsSomeAnd (find (at other) (x ∷ xs)) (λ claim. IsTrue (p claim)) → n ≤ other)
    step true e got here rest more =
        let same : x.number ≡ n = some_same x.number n got in (
          subst (λ b. IsSomeAnd (cond b (Some x) (find (at n) xs)) (λ claim. IsTrue (p claim))) (sym (eq-eqb x.number n same)) e,
          λ other has. let l = no_less first (x ∷ xs) other (λ claim. IsTrue (p claim)) numbered has in omega arith,
        )
    step false e got here rest more =
        let m = more got in
        let l = no_less (first + 1) xs n (λ claim. IsTrue (p claim)) rest m.0 in
        let differs : nat_eq x.number n ≡ false = ne_eqb x.number n (omega arith) in (
          subst (λ b. IsSomeAnd (cond b (Some x) (find (at n) xs)) (λ claim. IsTrue (p claim))) (sym differs) m.0,
          λ other has. m.1 other (skipped other (nat_eq x.number other) e has),
        )

none_of : (claims : List Claim) → slice_get (map number_of claims) 0 ≡ None → claims ≡ []
none_of [] h = refl
none_of (x ∷ xs) h = cc

-- the number of the first current claim is the least
pub least_is : (w : Schema) (s : RunState) → IsSound w s → (o : Option ℕ) → o ≡ slice_get (map number_of (current_claims s)) 0 →
    MatchOption o (current_claims s ≡ []) (IsLeast (IsCurrent s))
least_is w s sound None h = none_of (current_claims s) (sym h)
least_is w s sound (Some n) h = least_of 1 (is_current s) s.claims n sound.numbered (sym h)

-- a claim without an answer
unanswered : (s : RunState) (n : ℕ) (test : Claim → Bool) → IsSomeAnd (claim_at s n) (λ claim. IsTrue (not claim.answered && test claim)) → IsUnanswered s n
unanswered s n test has =
    let (claim, found, told) = some_claim (λ claim. IsTrue (not claim.answered && test claim)) (claim_at s n) has in
    subst (λ o. IsSomeAnd o (λ (claim : Claim). claim.answered ≡ false)) (sym found) (not_true claim.answered (and_parts (not claim.answered) (test claim) told).0)
  where
    not_true : (b : Bool) → not b ≡ true → b ≡ false
    not_true true e = cc
    not_true false e = refl

pub unanswered_current : (s : RunState) (n : ℕ) → IsCurrent s n → IsUnanswered s n
unanswered_current s n = unanswered s n (λ (claim : Claim). nat_eq claim.epoch s.epoch)

pub unanswered_lapsed : (s : RunState) (n : ℕ) → IsLapsed s n → IsUnanswered s n
unanswered_lapsed s n = unanswered s n (λ (claim : Claim). nat_lt claim.epoch s.epoch)

-- a leaf that no execution goes on without
needed : (w : Schema) (s : RunState) (leaf : ℕ) → ¬ (IsAvoidable w s leaf) → (t : List ℕ) → IsFree w s t → leaf ∈ t
needed w s leaf none t free = elim (decide_in leaf t) [ inl there ↦ there | inr lacks ↦ absurd (none (t, free, lacks)) ]

-- a claim's leaf that is not avoided, as a test tells it
pub claim_needed : (w : Schema) (s : RunState) (claim leaf : ℕ) (avoids : Bool) → leaf_of_claim s claim ≡ leaf → IsTrue avoids ↔ IsAvoidable w s leaf → avoids ≡ false →
    (t : List ℕ) → IsFree w s t → leaf_of_claim s claim ∈ t
claim_needed w s claim leaf avoids on says none t free = subst (λ n. n ∈ t) (sym on) (needed w s leaf (λ a. true≢false (sym (says.1 a) ∙ none)) t free)

pub has_fact : (events facts count : ℕ) (label : Label) → count ≡ facts → IsKnown events facts label → HasFactBelow count label
has_fact events facts count (Event e) same h = tt
has_fact events facts count other same h = omega arith

events_there : (labels : List Label) (claims : List Claim) (events : List ℕ) (i : ℕ) (claim : Claim) (event : ℕ) → events_at labels claims ≡ map Some events →
    slice_get claims i ≡ Some claim → slice_get events i ≡ Some event → event_at labels claim.leaf ≡ Some event
events_there labels [] events i claim event same at e = cc
events_there labels (x ∷ xs) [] i claim event same at e = cc
events_there labels (x ∷ xs) (y ∷ ys) zero claim event same at e =
    let both = cons_same (event_at labels x.leaf) (Some y) (events_at labels xs) (map Some ys) same in
    sym (ap (λ (claim : Claim). event_at labels claim.leaf) (some_same x claim at)) ∙ both.0 ∙ e
events_there labels (x ∷ xs) (y ∷ ys) (suc i) claim event same at e =
    events_there labels xs ys i claim event (cons_same (event_at labels x.leaf) (Some y) (events_at labels xs) (map Some ys) same).1 at e

module _ (i : Inside) (kept : IsRunning i) where
  abbrev w : Schema
  w = schema_of i.workflow

  abbrev s : RunState
  s = state_of w i.history.items

  abbrev t : Takings
  t = takings_of i.history.items

  pub given_is : (n : ℕ) (o : Option Given) → MatchOption o (claim_at (run_of i.claims) n ≡ None) (IsGivenAt i.claims n) →
      MatchOption o (claim_at s n ≡ None) (IsGiven (run_by i) n)
  given_is n None h = sym (claim_is i.workflow s i.claims kept.kept.claims n) ∙ h
  given_is n (Some g) h =
      let k = kept.kept in
      let sound = sound_now i kept in
      let found : claim_at s n ≡ Some (claim_of n g) = sym (claim_is i.workflow s i.claims k.claims n) ∙ h.claim in
      let (j, is, there) = find_place 1 s.claims n (claim_of n g) sound.numbered found in
      let event : slice_get i.claims.events j ≡ Some g.event = subst (λ m. slice_get i.claims.events m ≡ Some g.event) (let e : n - 1 ≡ j = omega arith in e) h.event in
      let taker : slice_get (takers_in t) j ≡ Some g.by =
      ap (λ l. slice_get l j) (sym k.takers_are) ∙ subst (λ m. slice_get i.claims.takers m ≡ Some g.by) (let e : n - 1 ≡ j = omega arith in e) h.taker in
      record {
        claim = found;
        epoch = each_member (λ (claim : Claim). claim.epoch ≤ s.epoch) s.claims sound.epochs (claim_of n g) (claim_in s.claims n (claim_of n g) found);
        event = events_there w.labels s.claims i.claims.events j (claim_of n g) g.event (ap (events_at w.labels) k.claims.claims_are ∙ k.claims.events_are) there event;
        attempt = h.attempt ∙ sym (attempts_are i.workflow s i.claims k.claims sound g.event n);
        taking = those_at 1 s.claims t.given j n (those_of w i.history.items) sound.numbered is
            ∙ those_there s.claims t.given j (claim_of n g) g.by (those_of w i.history.items) there taker;
      }

  -- the leaf of a current claim may come next
  pub next_of_current : (n : ℕ) → IsCurrent s n → MayComeNext i.residual (leaf_of_claim s n)
  next_of_current n current =
      let sound = sound_now i kept in
      let taken = taken_of_current w s sound n current in
      next_of_all w s i.residual kept.kept.remains (current_leaves s) (leaf_of_claim s n) sound.extends
      (subst (λ l. leaf_of_claim s n ∈ l) (sym taken.whole) (mem_here (leaf_of_claim s n) taken.front taken.back))

  -- what was performed is as long as the journal
  pub course_length : length i.world.labels ≡ length s.journal
  course_length =
      ap length kept.kept.course.labels_are ∙ length-labels_at w.labels s.journal (journal_within w kept.kept.remains.well_formed s (sound_now i kept))

  -- there is room for the label of a leaf that may come next
  pub course_room : (n : ℕ) → MayComeNext i.residual n → length i.world.labels < i.world.room
  course_room n next =
      let a : length s.journal < length w.labels = next_room w s i.residual kept.kept.remains n next in
      let b : length i.world.labels ≡ length s.journal = course_length in
      let d : i.world.room ≡ length w.labels = kept.kept.course.room in
      omega arith

  pub known_fact : (leaf : ℕ) (label : Label) → slice_get w.labels leaf ≡ Some label → HasFactBelow i.world.count label
  known_fact leaf label at =
      has_fact (length i.workflow.events) (length i.workflow.facts) i.world.count label kept.kept.course.count
      (each_at (IsKnown (length i.workflow.events) (length i.workflow.facts)) w.labels leaf label kept.kept.known at)

  pub left_comes_next : (leaf : ℕ) → CanDoAside w s leaf → MayComeNext i.residual leaf
  left_comes_next leaf aside = next_of_first w s i.residual kept.kept.remains (current_leaves s) leaf aside.1

  -- a leaf of the journal is not done again, and not taken
  done_cannot : (leaf : ℕ) → leaf ∈ s.journal → ¬ (MayComeNext i.residual leaf)
  done_cannot leaf done (o, live, ready, still) = ready.not_done (subst (λ j. leaf ∈ j) kept.kept.remains.journal_is done)

  pub not_left : (leaf : ℕ) → leaf ∈ s.journal → ¬ (CanDoAside w s leaf)
  not_left leaf done aside = done_cannot leaf done (left_comes_next leaf aside)

  pub cannot_step : (leaf : ℕ) → leaf ∈ s.journal → ¬ (CanStep (run_by i) leaf)
  cannot_step leaf done (inl can) =
      done_cannot leaf done (next_of_all w s i.residual kept.kept.remains (current_leaves s ++ leaf ∷ []) leaf can.2 (mem_here leaf (current_leaves s) []))
  cannot_step leaf done (inr can) = not_left leaf done can.0
