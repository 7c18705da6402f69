-- Each entry that may be made keeps the duties.
use Rattle.std.proofs.Common.{◌≡◌, ◌≢◌, ℕ, ◌+◌, ◌≤◌, true, false, ◌==◌, IsTrue, List, [], ◌∷◌, ◌++◌, length, map, take, drop, Some, None, refl, sym, ap, ◌∙◌, subst, inl, inr, ⊎_elim, ◌⊎◌, arith, true≢false, take-append-drop, filter, nat_le, slice_index}
use Rattle.std.proofs.lemmas.Bool.{cases_Bool, eqb-true, eq-eqb}
use Rattle.flow_model.specs.declared.history.Entry.{Entry}
use Rattle.flow_model.specs.declared.history.Step.{Step}
use Rattle.flow_model.specs.declared.history.Step.TheVariants.{Took, Done, Failed, Late, Did, Rewound, Committed}
use Rattle.flow_model.specs.declared.history.FailEffect.TheVariants.{Switched, Kept}
use Rattle.flow_model.specs.Lists.{◌∈◌, Each}
use Rattle.flow_model.specs.Facts.{event_at}
use Rattle.flow_model.specs.Schema.{Schema}
use Rattle.flow_model.specs.Run.{Claim, RunState, first_state, answer, is_current, claim_at, leaf_of_claim, IsAllowed, IsLegalFrom, next_state, state_of, state_after, with_new_epoch}
use Rattle.flow_laws.specs.Histories.{IsSound}
use Rattle.flow_laws.specs.WellFormed.{IsWellFormed}
use Rattle.flow_model.proofs.Lists.{mem-append, mem_append_left}
use Rattle.flow_model.specs.Decided.{decide_eq}
use Rattle.flow_model.proofs.MadeLists.{of_find, some_same, numbers_from_below}
use Rattle.flow_laws.proofs.ClaimLemmas.{number_of, answer_keeps, some_claim, claim_in, leaf_of_claim_is}
use Rattle.flow_laws.proofs.SoundStates.{kept_next, first_is_kept}
use Rattle.flow_model.specs.Takers.{Taking, Takings, no_takings, taking_of, taking_on, onto, next_takings, takings_after, takings_of, IsOut, IsTakenBy}
use Rattle.flow_model.specs.Duties.{Duties, IsLeft, DutiesHold, IsConstraintOf, HasRole}
use Rattle.flow_duty_laws.specs.TakerLaws.{DutiesAreKept}
use Rattle.flow_duty_laws.proofs.Claims.{IsAmong, among_answer, among_append, among_spared, AreThose, those_answer, those_spared, those_more, those_found}

abbrev pub taking : ℕ → ℕ → ℕ → Taking
taking claim leaf by = record { claim = claim; leaf = leaf; taker = by }

-- a taking is of a claim that was given
those_numbers : (cs : List Claim) (ts : List Taking) → AreThose cs ts → (t : Taking) → t ∈ ts → t.claim ∈ map number_of cs
those_numbers [] [] h t m = absurd m
those_numbers [] (u ∷ ts) h t m = absurd h
those_numbers (c ∷ cs) [] h t m = absurd m
those_numbers (c ∷ cs) (u ∷ ts) h t (inl e) = inl (ap (λ (x : Taking). x.claim) e ∙ sym h.0)
those_numbers (c ∷ cs) (u ∷ ts) h t (inr m) = inr (those_numbers cs ts h.2 t m)

-- the entry gave the leaf to the caller
abbrev pub IsTook : Step → ℕ → ℕ → ℕ → Type 0
IsTook step leaf by user = ((claim : ℕ) × (step ≡ Took claim leaf)) × (by ≡ user)

-- what is taken after the step was so before it, or the step took it
abbrev pub WasTaken : RunState → Takings → ℕ → Step → ℕ → ℕ → Type 0
WasTaken s t by step n user = IsTakenBy s t n user ⊎ IsTook step n by user

-- where the claims that are out were out before, and the journal and the takings are as they were
pub same_takings : (s s' : RunState) (t : Takings) (n user : ℕ) → ((claim : ℕ) → IsOut s' claim n → IsOut s claim n) → (n ∈ s'.journal → n ∈ s.journal) →
    IsTakenBy s' t n user → IsTakenBy s t n user
same_takings s s' t n user out on (inl (claim, o, m)) = inl (claim, out claim o, m)
same_takings s s' t n user out on (inr (j, (claim, e))) = inr (on j, (claim, e))

out_of : (s : RunState) (claim n : ℕ) → IsAmong s.epoch s.claims claim n → IsOut s claim n
out_of s claim n a = record { claim = a.claim; given = a.given; current = a.current; number_is = a.number_is; leaf_is = a.leaf_is }

among_of : (s : RunState) (claim n : ℕ) → IsOut s claim n → IsAmong s.epoch s.claims claim n
among_of s claim n o = record { claim = o.claim; given = o.given; current = o.current; number_is = o.number_is; leaf_is = o.leaf_is }

answered_out : (s : RunState) (given : ℕ) (journal : List ℕ) (claim n : ℕ) → IsOut (record s { journal = journal; claims = answer given s.claims }) claim n → IsOut s claim n
answered_out s given journal claim n o =
    out_of s claim n (among_answer s.epoch given s.claims claim n (among_of (record s { journal = journal; claims = answer given s.claims }) claim n o))

spared_out : (w : Schema) (s : RunState) → Each (λ (claim : Claim). claim.epoch ≤ s.epoch) s.claims → (claim n : ℕ) → IsOut (with_new_epoch w s) claim n → IsOut s claim n
spared_out w s old claim n o = out_of s claim n (among_spared w s [] s.claims claim n old (among_of (with_new_epoch w s) claim n o))

took_taken : (w : Schema) (s : RunState) (t : Takings) → IsSound w s → AreThose s.claims t.given → (by claim leaf : ℕ) → claim ≡ length s.claims + 1 → (n user : ℕ) →
    IsTakenBy (next_state w s (Took claim leaf)) (next_takings t by (Took claim leaf)) n user → WasTaken s t by (Took claim leaf) n user
took_taken w s t h those by claim leaf number n user (inr (j, e)) = inl (inr (j, e))
took_taken w s t h those by claim leaf number n user (inl (c, o, m)) = ⊎_elim
    (λ old. ⊎_elim (λ a. inl (inl (c, out_of s c n a, old))) (λ a. absurd (is_new old a)) (among_append s.epoch s.claims (new ∷ []) c n (among_of (next_state w s (Took claim leaf)) c n o)))
    (λ one. inr (just (only one)))
    (mem-append (taking c n user) t.given (taking claim leaf by ∷ []) m)
  where
    new : Claim
    new = record { number = claim; leaf = leaf; epoch = s.epoch; answered = false }

    only : taking c n user ∈ (taking claim leaf by ∷ []) → taking c n user ≡ taking claim leaf by
    only (inl e) = e
    only (inr e) = absurd e

    just : taking c n user ≡ taking claim leaf by → IsTook (Took claim leaf) n by user
    just e = ((claim, ap (λ (x : Taking). Took claim x.leaf) (sym e)), ap (λ (x : Taking). x.taker) (sym e))

    is_new : taking c n user ∈ t.given → IsAmong s.epoch (new ∷ []) c n → ⊥
    is_new old a =
        let m : c ∈ map number_of s.claims = those_numbers s.claims t.given those (taking c n user) old in
        let below = numbers_from_below 1 (length s.claims) c (subst (λ list. c ∈ list) h.numbered m) in
        let same : claim ≡ c = ⊎_elim (λ e. ap number_of (sym e) ∙ a.number_is) absurd a.given in
        omega (arith, below, same, number)

-- the claim that is done, as it was given
pub record IsDoneOf (s : RunState) (t : Takings) (claim : ℕ) : Type 0 where
  pub given : Taking
  pub found : taking_of t.given claim ≡ Some given
  pub there : given ∈ t.given
  pub of_claim : given.claim ≡ claim
  pub on_leaf : given.leaf ≡ leaf_of_claim s claim
  pub out : IsOut s claim given.leaf

pub done_of : (s : RunState) (t : Takings) → AreThose s.claims t.given → (claim : ℕ) → (c : Claim) → claim_at s claim ≡ Some c → IsTrue (is_current s c) → IsDoneOf s t claim
done_of s t those claim c at current =
    let (g, found, leaf) = those_found s.claims t.given claim c those at in
    let (there, number) = of_find (λ (x : Taking). x.claim == claim) t.given g found in record {
      given = g;
      found = found;
      there = there;
      of_claim = eqb-true g.claim claim number;
      on_leaf = leaf ∙ sym (leaf_of_claim_is s claim c at);
      out = record {
        claim = c;
        given = claim_in s.claims claim c at;
        current = current;
        number_is = eqb-true c.number claim (of_find (λ (x : Claim). x.number == claim) s.claims c at).1;
        leaf_is = sym leaf;
      };
    }

done_taken : (w : Schema) (s : RunState) (t : Takings) (claim : ℕ) → IsDoneOf s t claim → (n user : ℕ) →
    IsTakenBy (next_state w s (Done claim)) (record t { done = onto (taking_of t.given claim) t.done }) n user → IsTakenBy s t n user
done_taken w s t claim d n user (inl (c, o, m)) = inl (c, answered_out s claim (s.journal ++ leaf_of_claim s claim ∷ []) c n o, m)
done_taken w s t claim d n user (inr (j, (c, e))) = by_leaf (cases_Bool (d.given.leaf == n)) (rw d.found at e)
  where
    by_leaf : ((d.given.leaf == n) ≡ true) ⊎ ((d.given.leaf == n) ≡ false) → taking_on (d.given ∷ t.done) n ≡ Some (taking c n user) → IsTakenBy s t n user
    by_leaf (inl here) e =
        let same : d.given ≡ taking c n user = some_same d.given (taking c n user) (rw here at e) in
        let number : claim ≡ c = sym d.of_claim ∙ ap (λ (x : Taking). x.claim) same in
        let leaf : d.given.leaf ≡ n = ap (λ (x : Taking). x.leaf) same in
        inl (c, subst (λ l. IsOut s c l) leaf (subst (λ k. IsOut s k d.given.leaf) number d.out), subst (λ x. x ∈ t.given) same d.there)
    by_leaf (inr other) e = ⊎_elim (λ m. inr (m, (c, rw other at e)))
        (λ l. absurd (true≢false (sym (eq-eqb d.given.leaf n (d.on_leaf ∙ sym (only l))) ∙ other)))
        (mem-append n s.journal (leaf_of_claim s claim ∷ []) j)
      where
        only : n ∈ (leaf_of_claim s claim ∷ []) → n ≡ leaf_of_claim s claim
        only (inl e) = e
        only (inr e) = absurd e

pub did_before : (w : Schema) (journal : List ℕ) (leaf n event : ℕ) → event_at w.labels leaf ≡ None → event_at w.labels n ≡ Some event → n ∈ (journal ++ leaf ∷ []) → n ∈ journal
did_before w journal leaf n event none some m = ⊎_elim (λ k. k) (λ l. absurd (other l)) (mem-append n journal (leaf ∷ []) m)
  where
    other : n ∈ (leaf ∷ []) → ⊥
    other (inl e) = let clash : Some event ≡ None = sym some ∙ (ap (event_at w.labels) e ∙ none) in cc
    other (inr e) = e

abbrev switched : RunState → ℕ → RunState
switched s claim = record s { bans = s.bans ++ (length s.journal, leaf_of_claim s claim) ∷ []; claims = answer claim s.claims }

abbrev cut : RunState → ℕ → RunState
cut s i = record s { journal = take i s.journal; bans = filter (λ ban. nat_le ban.0 i) s.bans ++ (i, slice_index s.journal i) ∷ [] }

-- a claim that is out after the step was out before it, or the step gave it
abbrev pub WasOut : RunState → Step → ℕ → ℕ → Type 0
WasOut s step number n = IsOut s number n ⊎ (step ≡ Took number n)

pub out_before : (w : Schema) (s : RunState) → Each (λ (claim : Claim). claim.epoch ≤ s.epoch) s.claims → (step : Step) (number n : ℕ) → IsOut (next_state w s step) number n →
    WasOut s step number n
out_before w s old (Took claim leaf) number n o = ⊎_elim (λ a. inl (out_of s number n a)) (λ a. inr (given a))
    (among_append s.epoch s.claims (new ∷ []) number n (among_of (next_state w s (Took claim leaf)) number n o))
  where
    new : Claim
    new = record { number = claim; leaf = leaf; epoch = s.epoch; answered = false }

    given : IsAmong s.epoch (new ∷ []) number n → Took claim leaf ≡ Took number n
    given a = ⊎_elim (λ (e : a.claim ≡ new). λ i. Took ((ap number_of (sym e) ∙ a.number_is) i) ((ap (λ (c : Claim). c.leaf) (sym e) ∙ a.leaf_is) i)) absurd a.given
out_before w s old (Done claim) number n o = inl (answered_out s claim (s.journal ++ leaf_of_claim s claim ∷ []) number n o)
out_before w s old (Failed claim Switched) number n o = inl (answered_out s claim s.journal number n (at_bans (spared_out w (switched s claim) still number n o)))
  where
    still : Each (λ (c : Claim). c.epoch ≤ s.epoch) (answer claim s.claims)
    still = answer_keeps (λ (c : Claim). c.epoch ≤ s.epoch) (λ c k. k) claim s.claims old

    at_bans : IsOut (switched s claim) number n → IsOut (record s { journal = s.journal; claims = answer claim s.claims }) number n
    at_bans o = record { claim = o.claim; given = o.given; current = o.current; number_is = o.number_is; leaf_is = o.leaf_is }
out_before w s old (Failed claim Kept) number n o = inl (answered_out s claim s.journal number n o)
out_before w s old (Late claim) number n o = inl (answered_out s claim s.journal number n o)
out_before w s old (Did leaf) number n o = inl (record { claim = o.claim; given = o.given; current = o.current; number_is = o.number_is; leaf_is = o.leaf_is })
out_before w s old (Rewound i) number n o =
    inl (out_of s number n (among_spared w (cut s i) [] s.claims number n old (among_of (next_state w s (Rewound i)) number n o)))
out_before w s old Committed number n o = inl (record { claim = o.claim; given = o.given; current = o.current; number_is = o.number_is; leaf_is = o.leaf_is })

-- no step but one that gives a claim puts a claim out
pub still_out : (w : Schema) (s : RunState) → Each (λ (claim : Claim). claim.epoch ≤ s.epoch) s.claims → (step : Step) → ((claim leaf : ℕ) → ¬ (step ≡ Took claim leaf)) →
    (number n : ℕ) → IsOut (next_state w s step) number n → IsOut s number n
still_out w s old step none number n o = ⊎_elim (λ before. before) (λ e. absurd (none number n e)) (out_before w s old step number n o)

pub taken_before : (w : Schema) (s : RunState) (t : Takings) → IsSound w s → AreThose s.claims t.given → (by : ℕ) (step : Step) → IsAllowed w s step →
    (n user event : ℕ) → event_at w.labels n ≡ Some event → IsTakenBy (next_state w s step) (next_takings t by step) n user → WasTaken s t by step n user
taken_before w s t h those by (Took claim leaf) a n user event at taken = took_taken w s t h those by claim leaf a.0 n user taken
taken_before w s t h those by (Done claim) a n user event at taken =
    let (c, found, current) = some_claim (λ c. IsTrue (is_current s c)) (claim_at s claim) a in
    inl (done_taken w s t claim (done_of s t those claim c found current) n user taken)
taken_before w s t h those by (Failed claim Switched) a n user event at taken =
    inl (same_takings s (next_state w s (Failed claim Switched)) t n user (λ c o. still_out w s h.epochs (Failed claim Switched) (λ c l e. cc) c n o) (λ j. j) taken)
taken_before w s t h those by (Failed claim Kept) a n user event at taken =
    inl (same_takings s (next_state w s (Failed claim Kept)) t n user (λ c o. still_out w s h.epochs (Failed claim Kept) (λ c l e. cc) c n o) (λ j. j) taken)
taken_before w s t h those by (Late claim) a n user event at taken =
    inl (same_takings s (next_state w s (Late claim)) t n user (λ c o. still_out w s h.epochs (Late claim) (λ c l e. cc) c n o) (λ j. j) taken)
taken_before w s t h those by (Did leaf) a n user event at taken =
    inl (same_takings s (next_state w s (Did leaf)) t n user (λ c o. still_out w s h.epochs (Did leaf) (λ c l e. cc) c n o) (did_before w s.journal leaf n event a.0.0.1 at) taken)
taken_before w s t h those by (Rewound i) a n user event at taken =
    inl (same_takings s (next_state w s (Rewound i)) t n user (λ c o. still_out w s h.epochs (Rewound i) (λ c l e. cc) c n o)
    (λ j. subst (λ list. n ∈ list) (take-append-drop i s.journal) (mem_append_left n (take i s.journal) (drop i s.journal) j)) taken)
taken_before w s t h those by Committed a n user event at taken =
    inl (same_takings s (next_state w s Committed) t n user (λ c o. still_out w s h.epochs Committed (λ c l e. cc) c n o) (λ j. j) taken)

-- What is known of the takings stays

pub those_next : (w : Schema) (s : RunState) (t : Takings) → AreThose s.claims t.given → (by : ℕ) (step : Step) → AreThose (next_state w s step).claims (next_takings t by step).given
those_next w s t those by (Took claim leaf) = those_more s.claims t.given (record { number = claim; leaf = leaf; epoch = s.epoch; answered = false }) (taking claim leaf by) those refl refl
those_next w s t those by (Done claim) = those_answer claim s.claims t.given those
those_next w s t those by (Failed claim Switched) = those_spared w (switched s claim) [] (answer claim s.claims) t.given (those_answer claim s.claims t.given those)
those_next w s t those by (Failed claim Kept) = those_answer claim s.claims t.given those
those_next w s t those by (Late claim) = those_answer claim s.claims t.given those
those_next w s t those by (Did leaf) = those
those_next w s t those by (Rewound i) = those_spared w (cut s i) [] s.claims t.given those
those_next w s t those by Committed = those

-- so the claims of a history are those of its takings
pub those_of : (w : Schema) (history : List Entry) → AreThose (state_of w history).claims (takings_of history).given
those_of w history = from first_state no_takings tt history
  where
    from : (s : RunState) (t : Takings) → AreThose s.claims t.given → (entries : List Entry) → AreThose (state_after w s entries).claims (takings_after t entries).given
    from s t those [] = those
    from s t those (entry ∷ entries) = from (next_state w s entry.step) (next_takings t entry.by entry.step) (those_next w s t those entry.by entry.step) entries

-- Duties

turned : (pairs : List (ℕ × ℕ)) (i e f : ℕ) → IsConstraintOf pairs i e f → IsConstraintOf pairs i f e
turned pairs i e f (inl h) = inr h
turned pairs i e f (inr h) = inl h

-- duties were kept, and what the step took was left to the caller
module _ (w : Schema) (d : Duties) (s : RunState) (t : Takings) (h : IsSound w s) (those : AreThose s.claims t.given) (k : DutiesHold w d s t) (by : ℕ) (step : Step)
    (a : IsAllowed w s step) (left : (claim leaf event : ℕ) → step ≡ Took claim leaf → event_at w.labels leaf ≡ Some event → IsLeft w d s t by event) where
  before : (n user event : ℕ) → event_at w.labels n ≡ Some event → IsTakenBy (next_state w s step) (next_takings t by step) n user → WasTaken s t by step n user
  before = taken_before w s t h those by step a

  one_leaf : (n m : ℕ) → (user other : ℕ) → IsTook step n by user → IsTook step m by other → n ≡ m
  one_leaf n m user other ((c, e), b) ((c', e'), b') = let both : Took c n ≡ Took c' m = sym e ∙ e' in cc

  pub kept_step : DutiesHold w d (next_state w s step) (next_takings t by step)
  kept_step = record { allowed = allowed_now; apart = apart_now; together = together_now }
    where
      allowed_now : (n user event : ℕ) → event_at w.labels n ≡ Some event → IsTakenBy (next_state w s step) (next_takings t by step) n user → HasRole d user event
      allowed_now n user event at taken = ⊎_elim (λ old. k.allowed n user event at old) (λ ((c, e), b). subst (λ u. HasRole d u event) b (left c n event e at).role) (before n user event at taken)

      apart_now : (n m user other e f i : ℕ) → event_at w.labels n ≡ Some e → event_at w.labels m ≡ Some f → n ≢ m → IsConstraintOf d.separate i e f →
          IsTakenBy (next_state w s step) (next_takings t by step) n user → IsTakenBy (next_state w s step) (next_takings t by step) m other → user ≢ other
      apart_now n m user other e f i ne mf differ of x y same = by_cases (before n user e ne x) (before m other f mf y)
        where
          by_cases : WasTaken s t by step n user → WasTaken s t by step m other → ⊥
          by_cases (inl p) (inl q) = k.apart n m user other e f i ne mf differ of p q same
          by_cases (inr ((c, took), b)) (inl q) = (left c n e took ne).apart i (f, m, of, mf, subst (λ u. IsTakenBy s t m u) (sym same ∙ sym b) q)
          by_cases (inl p) (inr ((c, took), b)) = (left c m f took mf).apart i (e, n, turned d.separate i e f of, ne, subst (λ u. IsTakenBy s t n u) (same ∙ sym b) p)
          by_cases (inr p) (inr q) = differ (one_leaf n m user other p q)

      together_now : (n m user other e f i : ℕ) → event_at w.labels n ≡ Some e → event_at w.labels m ≡ Some f → n ≢ m → IsConstraintOf d.bound i e f →
          IsTakenBy (next_state w s step) (next_takings t by step) n user → IsTakenBy (next_state w s step) (next_takings t by step) m other → user ≡ other
      together_now n m user other e f i ne mf differ of x y = by_cases (before n user e ne x) (before m other f mf y)
        where
          none_other : (u v : ℕ) → ¬ (u ≢ v) → u ≡ v
          none_other u v differs = ⊎_elim (λ e. e) (λ n. absurd (differs n)) (decide_eq u v)

          by_cases : WasTaken s t by step n user → WasTaken s t by step m other → user ≡ other
          by_cases (inl p) (inl q) = k.together n m user other e f i ne mf differ of p q
          by_cases (inr ((c, took), b)) (inl q) = none_other user other (λ unlike. (left c n e took ne).together i (f, m, other, of, mf, q, (λ same. unlike (sym b ∙ sym same))))
          by_cases (inl p) (inr ((c, took), b)) = none_other user other (λ unlike. (left c m f took mf).together i (e, n, user, turned d.bound i e f of, ne, p, (λ same. unlike (same ∙ b))))
          by_cases (inr p) (inr q) = absurd (differ (one_leaf n m user other p q))

-- From the start

pub takings_after-append : (t : Takings) (a b : List Entry) → takings_after t (a ++ b) ≡ takings_after (takings_after t a) b
takings_after-append t [] b = refl
takings_after-append t (e ∷ a) b = takings_after-append (next_takings t e.by e.step) a b

-- Each claim from here on is left to its taker.
abbrev DutifulFrom : Schema → Duties → RunState → Takings → List Entry → Type 0
DutifulFrom w d s t entries = (earlier later : List Entry) (by claim leaf event : ℕ) → entries ≡ earlier ++ record { by = by; step = Took claim leaf } ∷ later →
    event_at w.labels leaf ≡ Some event → IsLeft w d (state_after w s earlier) (takings_after t earlier) by event

pub took_entry : (entry : Entry) (claim leaf : ℕ) → entry.step ≡ Took claim leaf → entry ≡ record { by = entry.by; step = Took claim leaf }
took_entry entry claim leaf e = ap (λ (x : Step). record { by = entry.by; step = x }) e

kept_from : (w : Schema) → IsWellFormed w → (d : Duties) (limit : ℕ) (s : RunState) (t : Takings) (made : ℕ) → IsSound w s → AreThose s.claims t.given → DutiesHold w d s t →
    (front later : List Entry) → IsLegalFrom w limit s made (front ++ later) → DutifulFrom w d s t (front ++ later) → DutiesHold w d (state_after w s front) (takings_after t front)
kept_from w f d limit s t made h those k [] later legal dutiful = k
kept_from w f d limit s t made h those k (entry ∷ front) later legal dutiful =
    kept_from w f d limit (next_state w s entry.step) (next_takings t entry.by entry.step) (made + 1) (kept_next w f s h entry.step legal.2) (those_next w s t those entry.by entry.step)
    (kept_step w d s t h those k entry.by entry.step legal.2
    (λ claim leaf event e at. dutiful [] (front ++ later) entry.by claim leaf event (ap (λ (x : Entry). x ∷ front ++ later) (took_entry entry claim leaf e)) at))
    front later legal.3
    (λ earlier rest by claim leaf event e at. dutiful (entry ∷ earlier) rest by claim leaf event (ap (λ (l : List Entry). entry ∷ l) e) at)

none_kept : (w : Schema) (d : Duties) → DutiesHold w d first_state no_takings
none_kept w d = record {
  allowed = λ n user event at taken. absurd (none n user taken);
  apart = λ n m user other e f i ne mf differ of x y same. none n user x;
  together = λ n m user other e f i ne mf differ of x y. absurd (none n user x);
}
  where
    none : (n user : ℕ) → IsTakenBy first_state no_takings n user → ⊥
    none n user (inl (c, o, m)) = m
    none n user (inr (j, e)) = j

pub duties_are_kept : DutiesAreKept
duties_are_kept w f consistent d limit history legal dutiful front (later, e) =
    kept_from w f d limit first_state no_takings 0 (first_is_kept w f consistent) tt (none_kept w d) front later (subst (λ l. IsLegalFrom w limit first_state 0 l) e legal)
    (subst (λ l. DutifulFrom w d first_state no_takings l) e dutiful)
