-- Claims by their numbers, and what the gate is asked for them.
use Rattle.std.proofs.Common.{◌≡◌, ◌≤◌, ◌<◌, ◌+◌, ℕ, zero, suc, true, false, cond, nat_eq, nat_le, ◌&&◌, List, [], ◌∷◌, ◌++◌, map, length, take, Option, Some, None, slice_get, get_or, IsTrue, is_some, refl, sym, ap, ◌∙◌, arith, true≢false}
use Rattle.std.specs.List.{find, fold}
use Rattle.std.proofs.lemmas.Bool.{eq-eqb, ne_eqb, le-leb, lt-leb}
use Rattle.flow_model.specs.declared.labels.Label.{Label}
use Rattle.flow_model.specs.declared.labels.Label.TheVariants.{Event}
use Rattle.flow_model.specs.declared.labels.Note.{Note}
use Rattle.flow_model.specs.declared.labels.Note.TheVariants as note
use Rattle.flow_model.specs.declared.history.Call.{Call}
use Rattle.flow_model.specs.Lists.{numbers_from}
use Rattle.flow_model.specs.Schema.{Schema}
use Rattle.flow_model.specs.Facts.{event_at, is_event}
use Rattle.flow_model.specs.Run.{Claim, RunState, claim_at, leaf_of_claim}
use Rattle.flow_model.specs.Verdict.{call_of, event_of_claim, note_of, attempts}
use Rattle.flow_laws.specs.Histories.{IsSound}
use Rattle.flow_model.specs.Decided.{cons_same}
use Rattle.flow_laws.proofs.ClaimLemmas.{number_of, leaf_of_claim_is}
use Rattle.flow_workflow.specs.Definition.{Definition, schema_of}
use Rattle.flow_workflow.specs.Numbers.{IsKnown}
use Rattle.flow_residual.specs.declared.given.Given.{Given}
use Rattle.flow_residual.specs.Given.{claim_of}
use Rattle.flow_residual.specs.Claimed.{Claimed, count_of}
use Rattle.flow_residual.proofs.Outstanding.{each_at}
use Rattle.flow_core.specs.declared.run.Core.TheInside.{Inside}
use Rattle.flow_core.specs.Invariant.{AreClaimsOf, IsRunning}
use Rattle.flow_core.proofs.Steps.{events_at, label_of_event}

-- the event of a leaf has a kind
pub kind_below : (i : Inside) → IsRunning i → (leaf event : ℕ) → event_at i.workflow.tree.labels leaf ≡ Some event → event < length i.workflow.events
kind_below i k leaf event at =
    each_at (IsKnown (length i.workflow.events) (length i.workflow.facts)) i.workflow.tree.labels leaf (Event event) k.kept.known (label_of_event i.workflow.tree.labels leaf event at)

-- an event's leaf has a label
pub event_below : (labels : List Label) (n : ℕ) → IsTrue (is_some (event_at labels n)) → n < length labels
event_below [] n h = absurd (true≢false (sym h))
event_below (x ∷ xs) zero h = omega arith
event_below (x ∷ xs) (suc n) h = let l : n < length xs = event_below xs n h in omega arith

-- a claim whose number is past those of the others
pub find_last : (first : ℕ) (claims : List Claim) (one : Claim) (n : ℕ) → map number_of claims ≡ numbers_from first (length claims) →
    n ≡ first + length claims → one.number ≡ n → find (λ (claim : Claim). nat_eq claim.number n) (claims ++ one ∷ []) ≡ Some one
find_last first [] one n numbered last is = ap (λ b. cond b (Some one) None) (eq-eqb one.number n is)
find_last first (x ∷ xs) one n numbered last is =
    let both = cons_same x.number first (map number_of xs) (numbers_from (first + 1) (length xs)) numbered in
    let here : x.number ≡ first = both.0 in
    let differs : nat_eq x.number n ≡ false = ne_eqb x.number n (omega arith) in
    ap (λ b. cond b (Some x) (find (λ (claim : Claim). nat_eq claim.number n) (xs ++ one ∷ []))) differs ∙ find_last (first + 1) xs one n both.1 (omega arith) is

-- ---- attempts

module _ (labels : List Label) (event last : ℕ) where
  abbrev counted : ℕ → List Claim → ℕ
  counted count claims = fold (λ a (claim : Claim). a + cond (nat_le claim.number last && is_event event (event_at labels claim.leaf)) 1 0) count claims

  abbrev met : ℕ → List ℕ → ℕ
  met count events = fold (λ a other. a + cond (nat_eq other event) 1 0) count events

  -- claims of later numbers do not count
  later : (first : ℕ) (claims : List Claim) (count : ℕ) → map number_of claims ≡ numbers_from first (length claims) → last + 1 ≤ first → counted count claims ≡ count
  later first [] count numbered past = refl
  later first (x ∷ xs) count numbered past =
      let both = cons_same x.number first (map number_of xs) (numbers_from (first + 1) (length xs)) numbered in
      let here : x.number ≡ first = both.0 in
      let out : nat_le x.number last ≡ false = lt-leb x.number last (omega arith) in
      ap (λ b. counted (count + cond (b && is_event event (event_at labels x.leaf)) 1 0) xs) out
      ∙ ap (λ n. counted n xs) (let e : count + 0 ≡ count = omega arith in e) ∙ later (first + 1) xs count both.1 (omega arith)

  pub counts : (first k : ℕ) (claims : List Claim) (events : List ℕ) (count : ℕ) → map number_of claims ≡ numbers_from first (length claims) →
      events_at labels claims ≡ map Some events → first + k ≡ last + 1 → counted count claims ≡ met count (take k events)
  counts first zero claims events count numbered same ends = later first claims count numbered (omega arith)
  counts first (suc k) [] [] count numbered same ends = refl
  counts first (suc k) [] (e ∷ es) count numbered same ends = cc
  counts first (suc k) (x ∷ xs) [] count numbered same ends = cc
  counts first (suc k) (x ∷ xs) (e ∷ es) count numbered same ends =
      let both = cons_same x.number first (map number_of xs) (numbers_from (first + 1) (length xs)) numbered in
      let events = cons_same (event_at labels x.leaf) (Some e) (events_at labels xs) (map Some es) same in
      let here : x.number ≡ first = both.0 in
      let within : nat_le x.number last ≡ true = le-leb x.number last (omega arith) in
      ap (λ b. counted (count + cond (b && is_event event (event_at labels x.leaf)) 1 0) xs) within
      ∙ ap (λ (o : Option ℕ). counted (count + cond (is_event event o) 1 0) xs) events.0
      ∙ counts (first + 1) k xs es (count + cond (nat_eq e event) 1 0) both.1 events.1 (omega arith)

abbrev pub number_in : Option ℕ → ℕ
number_in None = 0
number_in (Some e) = e

abbrev pub note_in : Option Note → Note
note_in None = note.Done
note_in (Some n) = n

module _ (w : Definition) (s : RunState) (c : Claimed) (are : AreClaimsOf w s c) (sound : IsSound (schema_of w) s) where
  pub attempts_are : (event number : ℕ) → attempts (schema_of w) s event number ≡ count_of event (take number c.events)
  attempts_are event number =
      let numbered : map number_of c.claims ≡ numbers_from 1 (length c.claims) = sym (ap (map number_of) are.claims_are) ∙ sound.numbered ∙ ap (λ (cs : List Claim). numbers_from 1 (length cs)) are.claims_are in
      ap (λ (cs : List Claim). counted w.tree.labels event number 0 cs) are.claims_are
      ∙ counts w.tree.labels event number 1 number c.claims c.events 0 numbered are.events_are (let e : 1 + number ≡ number + 1 = omega arith in e)

  pub call_is : (number leaf event attempt : ℕ) (noted : Note) (claim : Claim) → claim_at s number ≡ Some claim → claim.leaf ≡ leaf → event_at w.tree.labels leaf ≡ Some event →
      attempt ≡ count_of event (take number c.events) → slice_get w.notes event ≡ Some noted →
      ◌≡◌ {A = Call} record { claim = number; leaf = leaf; event = event; attempt = attempt; note = noted } (call_of (schema_of w) s number)
  call_is number leaf event attempt noted claim found on at tries note_is =
      let leaf_is : leaf_of_claim s number ≡ leaf = leaf_of_claim_is s number claim found ∙ on in
      let event_is : event_of_claim (schema_of w) s number ≡ event = ap (λ l. number_in (event_at w.tree.labels l)) leaf_is ∙ ap number_in at in
      let count : attempt ≡ attempts (schema_of w) s (event_of_claim (schema_of w) s number) number =
      tries ∙ sym (attempts_are event number) ∙ ap (λ e. attempts (schema_of w) s e number) (sym event_is) in
      let noted_is : noted ≡ note_of (schema_of w) (event_of_claim (schema_of w) s number) =
      ap note_in (sym note_is) ∙ ap (λ e. note_in (slice_get w.notes e)) (sym event_is) in
      λ i. record { claim = number; leaf = sym leaf_is i; event = sym event_is i; attempt = count i; note = noted_is i }

-- what is noted of an event, past the end too
noted_at : (notes : List Note) (event : ℕ) → get_or notes event note.Done ≡ note_in (slice_get notes event)
noted_at [] event = refl
noted_at (x ∷ xs) zero = refl
noted_at (x ∷ xs) (suc event) = noted_at xs event

-- the call of a claim that was given
pub given_call : (w : Schema) (s : RunState) (number : ℕ) (g : Given) (notes : List Note) → claim_at s number ≡ Some (claim_of number g) →
    event_at w.labels g.leaf ≡ Some g.event → g.attempt ≡ attempts w s g.event number → notes ≡ w.notes →
    ◌≡◌ {A = Call} record { claim = number; leaf = g.leaf; event = g.event; attempt = g.attempt; note = get_or notes g.event note.Done } (call_of w s number)
given_call w s number g notes found at tries noted =
    let leaf_is : leaf_of_claim s number ≡ g.leaf = leaf_of_claim_is s number (claim_of number g) found in
    let event_is : event_of_claim w s number ≡ g.event = ap (λ l. number_in (event_at w.labels l)) leaf_is ∙ ap number_in at in
    let count : g.attempt ≡ attempts w s (event_of_claim w s number) number = tries ∙ ap (λ e. attempts w s e number) (sym event_is) in
    let noted_is : get_or notes g.event note.Done ≡ note_of w (event_of_claim w s number) =
    noted_at notes g.event ∙ ap (λ ns. note_in (slice_get ns g.event)) noted ∙ ap (λ e. note_in (slice_get w.notes e)) (sym event_is) in
    λ i. record { claim = number; leaf = sym leaf_is i; event = sym event_is i; attempt = count i; note = noted_is i }
