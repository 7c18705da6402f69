use Rattle.std.proofs.Common.{◌≡◌, ◌≤◌, ◌+◌, ℕ, cond, nat_eq, false, List, [], ◌∷◌, ◌++◌, length, map, take, Some, slice_get, slice_index_or, sym, ap, ◌∙◌, refl, arith, length-append}
use Rattle.std.specs.List.{find}
use Rattle.std.proofs.lemmas.Bool.{eq-eqb}
use Rattle.std.proofs.lemmas.List.{take_all, length-map}
use Rattle.std.proofs.lemmas.Option.{slice_get-get_or}
use Rattle.flow_model.specs.declared.labels.Note.{Note}
use Rattle.flow_model.specs.declared.labels.Note.TheVariants as note
use Rattle.flow_model.specs.declared.history.Step.TheVariants.{Took}
use Rattle.flow_model.specs.Facts.{event_at}
use Rattle.flow_model.specs.Lists.{numbers_from}
use Rattle.flow_model.specs.Run.{Claim, RunState, state_of, claim_at}
use Rattle.flow_model.specs.Verdict.{call_of}
use Rattle.flow_laws.proofs.ClaimLemmas.{number_of}
use Rattle.flow_workflow.specs.Definition.{schema_of}
use Rattle.flow_residual.specs.Claimed.{Claimed, count_of}
use Rattle.flow_residual.proofs.Counting.{count-push}
use Rattle.flow_core.specs.declared.run.Core.TheInside.{Inside}
use Rattle.flow_core.specs.Run.{Run, schema, now}
use Rattle.flow_core.specs.Answers.{next_claim}
use Rattle.flow_core.specs.Invariant.{run_by, IsRunning}
use Rattle.flow_core.proofs.Steps.{sound_now, kept_took}
use Rattle.flow_core.proofs.Entries.{entered}
use Rattle.flow_core.proofs.Calls.{kind_below, find_last, call_is}
use Rattle.flow_core.proofs.run.Core.give.Goals as goal

pub give-attempt-requires-clause-kind : goal.give-attempt-requires-clause-kind
give-attempt-requires-clause-kind c =
    let at = rw (← c.self.view_is) at c.requires.event in
    let below = kind_below c.self.inside c.self.invariant c.args.leaf c.args.event at in
    let kinds = c.self.invariant.kept.claims.kinds in
    omega arith

pub bounds-notes-event : goal.bounds-notes-event
bounds-notes-event c =
    let at = rw (← c.self.view_is) at c.requires.event in
    let below = kind_below c.self.inside c.self.invariant c.args.leaf c.args.event at in
    let as_many = ap length c.notes.ensures.notes ∙ c.self.invariant.kept.noted in
    omega arith

-- the number of the next claim, as the claims tell it
next_of : (i : Inside) → IsRunning i → (v : Run) → run_by i ≡ v → next_claim v ≡ length i.claims.claims + 1
next_of i k v view = sym (ap next_claim view) ∙ ap (λ (cs : List Claim). length cs + 1) k.kept.claims.claims_are

pub invariant_of-self : goal.invariant_of-self
invariant_of-self c =
    let i = c.self.inside in
    let at = rw (← c.self.view_is) at c.requires.event in
    let can = rw (← c.self.view_is) at c.requires.enabled in
    let number = c.next_claim-claim.ensures ∙ next_of i c.self.invariant c.args.self.now c.self.view_is in
    let step = Took c.next_claim-claim.result c.args.leaf in
    entered i c.self.invariant c.args.self.now c.self.view_is _ c.args.by step refl refl c.enter.ensures.unlooked c.enter.ensures.items c.enter.ensures.capacity c.requires.open c.requires.steps
    (λ going room. rw c.give-attempt.ensures.value (kept_took i c.self.invariant going room c.args.by c.args.leaf c.args.event c.next_claim-claim.result number at can))

-- the claim given last, and what the gate is asked for it
last_call : (i i' : Inside) → IsRunning i → IsRunning i' → (leaf event by attempt : ℕ) (noted : Note) →
    i'.claims ≡ record i.claims { claims = i.claims.claims ++ record { number = length i.claims.claims + 1; leaf = leaf; epoch = i.claims.epoch; answered = false } ∷ []; events = i.claims.events ++ event ∷ []; takers = i.claims.takers ++ by ∷ [] } →
    event_at i'.workflow.tree.labels leaf ≡ Some event → attempt ≡ count_of event i.claims.events + 1 → slice_get i'.workflow.notes event ≡ Some noted →
    record { claim = length i.claims.claims + 1; leaf = leaf; event = event; attempt = attempt; note = noted } ≡ call_of (schema (run_by i')) (now (run_by i')) (length i.claims.claims + 1)
last_call i i' k k' leaf event by attempt noted is at tries note_is =
    let old : Claimed = i.claims in
    let one : Claim = record { number = length old.claims + 1; leaf = leaf; epoch = old.epoch; answered = false } in
    let n : ℕ = length old.claims + 1 in
    let numbered : map number_of old.claims ≡ numbers_from 1 (length old.claims) =
    sym (ap (map number_of) k.kept.claims.claims_are) ∙ (sound_now i k).numbered ∙ ap (λ (cs : List Claim). numbers_from 1 (length cs)) k.kept.claims.claims_are in
    let found : claim_at (now (run_by i')) n ≡ Some one =
    ap (find (λ (claim : Claim). nat_eq claim.number n)) (k'.kept.claims.claims_are ∙ ap (λ (x : Claimed). x.claims) is) ∙ find_last 1 old.claims one n numbered (omega arith) refl in
    let few : length (old.events ++ event ∷ []) ≤ n =
    let a : length old.claims ≡ length old.events = sym (length-map old.claims _) ∙ ap length k.kept.claims.events_are ∙ length-map old.events Some in
    let b : length (old.events ++ event ∷ []) ≡ length old.events + 1 = length-append old.events (event ∷ []) in omega arith in
    let whole : count_of event (take n i'.claims.events) ≡ count_of event (old.events ++ event ∷ []) =
    ap (λ (x : Claimed). count_of event (take n x.events)) is ∙ ap (count_of event) (take_all n (old.events ++ event ∷ []) few) in
    let more : count_of event (old.events ++ event ∷ []) ≡ count_of event old.events + 1 =
    count-push event event old.events ∙ ap (λ b. count_of event old.events + cond b 1 0) (eq-eqb event event refl) in
    call_is i'.workflow (now (run_by i')) i'.claims k'.kept.claims (sound_now i' k') n leaf event attempt noted one found refl at (tries ∙ sym more ∙ sym whole) note_is

pub returns-clause-call : goal.returns-clause-call
returns-clause-call c =
    let i = c.self.inside in
    let after : RunState = state_of (schema_of i.workflow) c.enter.new.history.items in
    let at = rw (← c.self.view_is) at c.requires.event in
    let noted = slice_index_or c.notes.result.now c.args.event note.Done in
    let below = kind_below i c.self.invariant c.args.leaf c.args.event at in
    let as_many : length c.notes.result.now ≡ length i.workflow.events = ap length c.notes.ensures.notes ∙ c.self.invariant.kept.noted in
    let note_is : slice_get i.workflow.notes c.args.event ≡ Some noted =
    sym (ap (λ (ns : List Note). slice_get ns c.args.event) c.notes.ensures.notes) ∙ slice_get-get_or c.notes.result.now c.args.event note.Done (omega arith) in
    let next = next_of i c.self.invariant c.args.self.now c.self.view_is in
    ap (λ n. record { claim = n; leaf = c.args.leaf; event = c.args.event; attempt = c.give-attempt.result; note = noted }) (c.next_claim-claim.ensures ∙ next)
    ∙ last_call i _ c.self.invariant (invariant_of-self c) c.args.leaf c.args.event c.args.by c.give-attempt.result noted c.give-attempt.ensures.value at c.give-attempt.ensures.attempt note_is
    ∙ ap (call_of (schema_of i.workflow) after) (sym next) ∙ ap (λ (r : Run). call_of (schema r) after (next_claim c.args.self.now)) c.self.view_is
