-- What is asked to make a journal gives nothing up.
use Rattle.std.proofs.Common.{◌≡◌, ℕ, List, [], ◌∷◌, Result, Ok, Err, refl, sym, ap, subst, ◌∙◌}
use Rattle.flow_model.specs.declared.history.Call.{Call}
use Rattle.flow_model.specs.declared.history.Step.{Step}
use Rattle.flow_model.specs.declared.history.Step.TheVariants.{Took, Done, Late, Did}
use Rattle.flow_model.specs.Run.{RunState, first_state, next_state}
use Rattle.flow_core.specs.declared.refusal.TakeRefusal.{TakeRefusal}
use Rattle.flow_core.specs.declared.refusal.DoRefusal.{DoRefusal}
use Rattle.flow_core.specs.declared.refusal.DoRefusal.TheVariants as perform
use Rattle.flow_core.specs.declared.refusal.PostRefusal.{PostRefusal}
use Rattle.flow_core.specs.declared.refusal.PostRefusal.TheVariants as post
use Rattle.flow_core.specs.Run.{Run, schema, now, with_entry}
use Rattle.flow_core.specs.Answers.{Takes, Performs, PostIsRefused, PostsDone, next_claim}
use Rattle.flow_reason.specs.Bad.{GivesNothingUp}
use Rattle.flow_core.proofs.Steps.{state_after-append}

pub nothing_same : (r after : Run) → after ≡ r → GivesNothingUp r after
nothing_same r after is = record {
  definition = ap (λ (one : Run). one.definition) is;
  bans = λ none. ap (λ (one : Run). (now one).bans) is ∙ none;
}

nothing_entry : (r after : Run) (by : ℕ) (step : Step) → after ≡ with_entry r by step → (next_state (schema r) (now r) step).bans ≡ (now r).bans → GivesNothingUp r after
nothing_entry r after by step is same = record {
  definition = ap (λ (one : Run). one.definition) is;
  bans = λ none. ap (λ (one : Run). (now one).bans) is
      ∙ ap (λ (s : RunState). s.bans) (state_after-append (schema r) first_state r.history (record { by = by; step = step })) ∙ same ∙ none;
}

pub nothing_then : (r middle after : Run) → GivesNothingUp r middle → GivesNothingUp middle after → GivesNothingUp r after
nothing_then r middle after one two = record {
  definition = two.definition ∙ one.definition;
  bans = λ none. two.bans (one.bans none);
}

module _ (r after : Run) where
  pub take_nothing : (leaf by : ℕ) (a : Result Call TakeRefusal) → Takes r leaf by a after → GivesNothingUp r after
  take_nothing leaf by (Ok call) h = nothing_entry r after by (Took (next_claim r) leaf) h.3 refl
  take_nothing leaf by (Err refusal) h = nothing_same r after h.1

  pub perform_nothing : (leaf by : ℕ) (a : Result (Unit {0}) DoRefusal) → Performs r leaf by a after → GivesNothingUp r after
  perform_nothing leaf by (Ok _) h = nothing_entry r after by (Did leaf) h.4 refl
  perform_nothing leaf by (Err perform.Closed) h = nothing_same r after h.1
  perform_nothing leaf by (Err perform.NoLeaf) h = nothing_same r after h.2
  perform_nothing leaf by (Err perform.WrongKind) h = nothing_same r after h.2
  perform_nothing leaf by (Err (perform.Spent limit)) h = nothing_same r after h.3
  perform_nothing leaf by (Err perform.NotEnabled) h = nothing_same r after h.4
  perform_nothing leaf by (Err perform.TestFalse) h = nothing_same r after h.4

  refused_nothing : (claim by : ℕ) (refusal : PostRefusal) → PostIsRefused r claim by refusal after → GivesNothingUp r after
  refused_nothing claim by post.Closed h = nothing_same r after h.1
  refused_nothing claim by post.NoClaim h = nothing_same r after h.2
  refused_nothing claim by post.Answered h = nothing_same r after h.2
  refused_nothing claim by (post.Spent limit) h = nothing_same r after h.3
  refused_nothing claim by (post.Late of at) h = nothing_entry r after by (Late claim) h.4 refl

  pub done_nothing : (claim by : ℕ) (a : Result (Unit {0}) PostRefusal) → PostsDone r claim by a after → GivesNothingUp r after
  done_nothing claim by (Ok _) h = nothing_entry r after by (Done claim) h.3 refl
  done_nothing claim by (Err refusal) h = refused_nothing claim by refusal h
