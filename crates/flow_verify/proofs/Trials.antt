-- What is told of a workflow in which nothing holds at the start and nothing is noted is told of the workflow.
use Rattle.std.proofs.Common.{rules, arith, ◌<◌, ◌≡◌, ℕ, List, [], Vec, Global, slice_get, Some, length, ◌≤◌, ◌↔◌, subst, sym, ◌∙◌}
use Rattle.std.proofs.lemmas.Option.{none-some, slice_get_past}
use Rattle.std.proofs.lemmas.Result.{IfErr-at_err}
use Rattle.std.specs.Prelude.{Result, Ok, Err, IfOk, IfErr, OnOk, MatchResult}
use Rattle.flow_model.specs.Facts.{events_of}
use Rattle.flow_model.specs.Constraint.{Constraint, Meets}
use Rattle.flow_model.specs.Schema.{Schema, IsGood}
use Rattle.flow_model.proofs.Lists.{each_member, mem-slice_get}
use Rattle.flow_plan.specs.Compilation.{IsWithinLimits}
use Rattle.flow_verify.specs.declared.answers.Verified.{Verified}
use Rattle.flow_verify.specs.declared.answers.Verified.TheVariants.{Holds, Fails}
use Rattle.flow_verify.specs.declared.answers.Redundancy.{Redundancy}
use Rattle.flow_verify.specs.declared.answers.Redundancy.TheVariants.{Redundant, Needed}
use Rattle.flow_verify.specs.declared.refusal.VerifyRefusal.{VerifyRefusal}
use Rattle.flow_verify.specs.declared.refusal.VerifyRefusal.TheVariants.{TooManyChoices, TooManyWays, TooBulky, NoRule, NoMemory}
use Rattle.flow_verify.specs.Verification.{against, without, TellsOfProperty, TellsOfConstraint, IsRefused}
use Rattle.flow_goal.specs.Labelled.{Labelled}
use Rattle.flow_workflow.specs.Definition.{Definition, schema_of}
use Rattle.flow_excise.specs.Options.{schema_with}
use Rattle.flow_verify.proofs.Removals.{each_with}

-- the workflow with nothing that holds at the start, and no notes
abbrev pub bare : Schema → Schema
bare w = record w { facts = []; notes = [] }

-- Limits and refusals

within_bare : (w : Schema) → IsWithinLimits (bare w) → IsWithinLimits w
within_bare w k = record { resolutions = k.resolutions; options_few = k.options_few; light = k.light }

refused_bare : (w : Schema) (e : VerifyRefusal) → IsRefused (bare w) e → IsRefused w e
refused_bare w (TooManyChoices count) h = h
refused_bare w (TooManyWays count) h = h
refused_bare w (TooBulky count) h = h
refused_bare w (NoRule index) h = h
refused_bare w NoMemory h = h

module _ (v w : Schema) (c p : Constraint) (same : v ≡ bare w) (e : c ≡ p) where
  pub within_trial : IsWithinLimits (against v c) → IsWithinLimits (against w p)
  within_trial k = within_bare (against w p) (subst (λ u. IsWithinLimits u) (λ i. against (same i) (e i)) k)

  pub refused_trial : (r : VerifyRefusal) → IsRefused (against v c) r → IsRefused (against w p) r
  refused_trial r h = refused_bare (against w p) r (subst (λ u. IsRefused u r) (λ i. against (same i) (e i)) h)

-- What comes of a trial

tells_bare : (w : Schema) (p : Constraint) (told : Verified) → TellsOfProperty (bare w) p told → TellsOfProperty w p told
tells_bare w p Holds h = h
tells_bare w p (Fails t) h = h

module _ (v w : Schema) (c p : Constraint) (same : v ≡ bare w) (e : c ≡ p) where
  pub outcome_of_trial : (r : Result Verified VerifyRefusal) →
      MatchResult r (λ told. IsWithinLimits (against v c) × TellsOfProperty v c told) (IsRefused (against v c)) →
      IfOk r (TellsOfProperty w p) × OnOk r (IsWithinLimits (against w p)) × IfErr r (IsRefused (against w p))
  outcome_of_trial (Ok told) (within, tells) = (
    tells_bare w p told (subst (λ u. TellsOfProperty u p told) same (subst (λ d. TellsOfProperty v d told) e tells)),
    within_trial v w c p same e within,
    tt,
  )
  outcome_of_trial (Err r) refused = (tt, tt, refused_trial v w c p same e r refused)

-- The constraint of an index

module _ (w : Schema) (index : ℕ) (c : Constraint) (at : slice_get w.rules index ≡ Some c) (v : Schema) (same : v ≡ bare (without w index)) where
  meets_at : (t : List ℕ) → IsGood w t → Meets c (events_of w.labels t)
  meets_at t (trace, met) = each_member (λ d. Meets d (events_of w.labels t)) w.rules met c (mem-slice_get w.rules index c at)

  good_with : (t : List ℕ) → IsGood (without w index) t → Meets c (events_of w.labels t) → IsGood w t
  good_with t (trace, met) this = (trace, each_with (λ d. Meets d (events_of w.labels t)) w.rules index c at met this)

  pub tells_redundant : TellsOfProperty v c Holds → TellsOfConstraint w index Redundant
  tells_redundant h t good =
      let told = subst (λ u. TellsOfProperty u c Holds) same h in good_with t good (told t good)

  pub tells_needed : (t : Vec ℕ Global) → TellsOfProperty v c (Fails t) → TellsOfConstraint w index (Needed t)
  tells_needed t h =
      let told = subst (λ u. TellsOfProperty u c (Fails t)) same h in (told.0, λ good. told.1 (meets_at t.items good))

  -- only one constraint has that index
  pub one_at : (d : Constraint) → slice_get w.rules index ≡ Some d → c ≡ d
  one_at d e = cc

pub index_of_some : {A : Type 0} (xs : List A) (i : ℕ) (x : A) → slice_get xs i ≡ Some x → i < length xs
index_of_some xs i x at = search (rules, slice_get_past)

-- where there is a constraint of that index, what comes is not that there is none
pub never_no_rule : (rules : List Constraint) (index : ℕ) (c : Constraint) → slice_get rules index ≡ Some c →
    (w : Schema) (r : Result Redundancy VerifyRefusal) → IfErr r (IsRefused w) → (r ≡ Err (NoRule index)) ↔ (length rules ≤ index)
never_no_rule rules index c at w r h = (
  (λ e. absurd (IfErr-at_err (IsRefused w) e h)),
  (λ past. absurd (none-some c (sym (slice_get_past rules index past) ∙ at))),
)

-- nor where it lies below the number of the constraints, and only memory was refused
pub never_missing : {T : Type 0} (r : Result T VerifyRefusal) (n index : ℕ) → index < n → IfErr r (λ e. e ≡ NoMemory) → (r ≡ Err (NoRule index)) ↔ (n ≤ index)
never_missing r n index below h = (
  (λ e. let bad : NoRule index ≡ NoMemory = IfErr-at_err (λ x. x ≡ NoMemory) e h in cc),
  (λ past. absurd (omega (arith, below, past))),
)

-- A tree with rules, as the workflow that it is of

pub same_trial : (w : Definition) (tree : Labelled) (rules : List Constraint) → tree ≡ w.tree → rules ≡ w.rules → schema_with tree rules ≡ bare (schema_of w)
same_trial w tree rules e f = λ i. schema_with (e i) (f i)
