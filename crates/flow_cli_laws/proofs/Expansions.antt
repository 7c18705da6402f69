-- What is said has one workflow, or one reason why it has none.
use Rattle.std.proofs.Common.{◌≡◌, ◌<◌, ◌≤◌, ℕ, List, length, Some, Err, inl, inr, refl, sym, ap, subst, ◌∙◌, arith, le_antisymm}
use Rattle.flow_model.specs.declared.limits.TheConstants.{MOST_FLOWS, MOST_LEAVES, MOST_RULE_NAMES}
use Rattle.flow_model.specs.Lists.{AreDistinct, numbers_from}
use Rattle.flow_model.specs.Facts.{event_at}
use Rattle.flow_model.specs.Process.{IsNumbered}
use Rattle.flow_laws.specs.WellFormed.{IsWellFormed}
use Rattle.flow_goal.specs.Labelled.{Labelled}
use Rattle.flow_goal.specs.declared.repeats.Twice.{Twice}
use Rattle.flow_goal.specs.Repeats.{HoldsNoneTwice, IsFirstTwice}
use Rattle.flow_goal.proofs.Repetitions.{not_unique}
use Rattle.flow_form.specs.Script.{Said}
use Rattle.flow_form.specs.Names.{declared_names, event_names}
use Rattle.flow_workflow.specs.Definition.{Definition, schema_of}
use Rattle.flow_workflow.specs.declared.refusal.ExpandRefusal.{ExpandRefusal}
use Rattle.flow_workflow.specs.declared.refusal.ExpandRefusal.TheVariants as refusal
use Rattle.flow_workflow.specs.declared.refusal.Part.TheVariants as part
use Rattle.flow_expand.specs.Expansion.{Expansion, size_of, capped}
use Rattle.flow_expand.specs.Numbers.{facts_of, labelled_of}
use Rattle.flow_expand.specs.Refusals.{flow_count, rule_name_count, IsFinite, IsFitting, HasManyFlows, HasRecursion, HasLargeGoal, HasManyRuleNames, HasRepetition, IsRefusal}
use Rattle.flow_expand.specs.Workflows.{definition_of, IsExpanded}
use Rattle.flow_expand.proofs.Endings.{becomes_one}
use Rattle.flow_expand.proofs.LeavesLemmas.{labels_counted, leaves_in_row}
use Rattle.flow_findings.specs.declared.refused.Refused.{Refused}
use Rattle.flow_findings.specs.declared.refused.Refused.TheVariants as refused
use Rattle.flow_findings.specs.Refusing.{IsOfWorkflow}
use Rattle.flow_front.specs.Refusal.{the_script, IsCause}
use Rattle.flow_cli_laws.specs.Single.{ShowsChain}
use Rattle.flow_cli_laws.proofs.Agreeing.{Agree, same}

-- the workflow that is said is well-formed
pub well_formed : (s : Said) (w : Definition) → IsExpanded s w → IsWellFormed (schema_of w)
well_formed s w x = record {
  numbered = subst (λ (t : Labelled). IsNumbered t.process (length t.labels)) (sym (ap (λ (v : Definition). v.tree) x.is))
      (leaves_in_row 0 x.expansion ∙ ap (numbers_from 0) (sym (labels_counted (event_names s.decls) (facts_of s.decls x.expansion) x.expansion)));
  unique = x.unique;
}

-- the first pair of leaves of one event is one
twice_once : (t : Labelled) (a b : Twice) → IsFirstTwice t a → IsFirstTwice t b → a ≡ b
twice_once t a b p q = λ i. record { event = event i; first = first i; second = second i }
  where
    not_after : (c d : Twice) → IsFirstTwice t c → IsFirstTwice t d → c.first ≤ d.first
    not_after c d h k = elim (h.least d.event d.first d.second k.twice) [ inl less ↦ omega arith | inr same ↦ omega (arith, same.0) ]

    first : a.first ≡ b.first
    first = le_antisymm (not_after a b p q) (not_after b a q p)

    not_beyond : (c d : Twice) → IsFirstTwice t c → IsFirstTwice t d → c.first ≡ d.first → c.second ≤ d.second
    not_beyond c d h k same = elim (h.least d.event d.first d.second k.twice) [ inl less ↦ absurd (omega (arith, same, less)) | inr both ↦ both.1 ]

    second : a.second ≡ b.second
    second = le_antisymm (not_beyond a b p q first) (not_beyond b a q p (sym first))

    event : a.event ≡ b.event
    event = let same : Some a.event ≡ Some b.event = sym p.twice.at_first ∙ ap (event_at t.labels) first ∙ q.twice.at_first in cc

module _ (s : Said) (once : AreDistinct (declared_names s.decls)) where
  -- ---- each refusal excludes those that are tested before it

  many_flows : (n : ℕ) → HasManyFlows s n → flow_count s ≤ MOST_FLOWS → ⊥
  many_flows n h few = let many : MOST_FLOWS < flow_count s = h.many in omega (arith, many, few)

  recursive : (chain : List (List ℕ)) → HasRecursion s chain → IsFinite s → ⊥
  recursive chain h finite = finite.ending (h.recursive.first, (h.recursive.between, h.recursive.steps))

  large_goal : (n : ℕ) (e : Expansion) → HasLargeGoal s n → IsFitting s e → ⊥
  large_goal n e h fitting =
      let same : h.expansion ≡ e = becomes_one s.decls once s.goal h.expansion e h.becomes fitting.becomes in
      let large : MOST_LEAVES < size_of e = subst (λ (f : Expansion). MOST_LEAVES < size_of f) same h.large in
      let fits : size_of e ≤ MOST_LEAVES = fitting.fits in omega (arith, large, fits)

  many_names : (n : ℕ) → HasManyRuleNames s n → rule_name_count s ≤ MOST_RULE_NAMES → ⊥
  many_names n h few = let many : MOST_RULE_NAMES < rule_name_count s = h.many in omega (arith, many, few)

  repeats : (found : Twice) (w : Definition) → HasRepetition s found → IsExpanded s w → ⊥
  repeats found w h expanded =
      let same : h.expansion ≡ expanded.expansion =
      becomes_one s.decls once s.goal h.expansion expanded.expansion h.measured.fitting.becomes expanded.measured.fitting.becomes in
      not_unique (labelled_of s.decls h.expansion) found.event found.first found.second h.first.twice
      (subst (λ (f : Expansion). HoldsNoneTwice (labelled_of s.decls f)) (sym same)
      (subst (λ (v : Definition). HoldsNoneTwice v.tree) expanded.is expanded.unique))

  -- ---- what is said has one workflow, and no refusal beside it

  pub expanded_once : (w v : Definition) → IsExpanded s w → IsExpanded s v → w ≡ v
  expanded_once w v p q =
      p.is ∙ ap (definition_of s) (becomes_one s.decls once s.goal p.expansion q.expansion p.measured.fitting.becomes q.measured.fitting.becomes) ∙ sym q.is

  pub not_refused : (r : ExpandRefusal) (w : Definition) → IsRefusal s r → IsOfWorkflow (event_names s.decls) r → IsExpanded s w → ⊥
  not_refused (refusal.TooLarge part.Flows n) w h of x = many_flows n h x.measured.fitting.finite.few
  not_refused (refusal.Recursive chain) w h of x = recursive chain.items h x.measured.fitting.finite
  not_refused (refusal.TooLarge part.Goal n) w h of x = large_goal n x.expansion h x.measured.fitting
  not_refused (refusal.TooLarge part.Rules n) w h of x = many_names n h x.measured.few_names
  not_refused (refusal.Twice found) w h of x = repeats found w h x
  not_refused refusal.NoMemory w h of x = absurd of

  -- ---- one refusal, or two chains

  abbrev AreOne : ExpandRefusal → ExpandRefusal → Type 0
  AreOne r q = Agree (event_names s.decls) (ShowsChain s) (Err (refused.Expand r)) (Err (refused.Expand q))

  alike : (r q : ExpandRefusal) → r ≡ q → AreOne r q
  alike r q e = same (event_names s.decls) (ShowsChain s) (Err (refused.Expand r)) (Err (refused.Expand q)) (ap (λ (x : ExpandRefusal). Err (refused.Expand x)) e)

  refusals_are_one : (r q : ExpandRefusal) → IsRefusal s r → IsRefusal s q → IsOfWorkflow (event_names s.decls) r → IsOfWorkflow (event_names s.decls) q → AreOne r q
  refusals_are_one (refusal.TooLarge part.Flows n) (refusal.TooLarge part.Flows m) h g a b =
      alike (refusal.TooLarge part.Flows n) (refusal.TooLarge part.Flows m) (ap (λ k. refusal.TooLarge part.Flows k) (h.counted ∙ sym g.counted))
  refusals_are_one (refusal.Recursive c) (refusal.Recursive d) h g a b =
      (refl, inr (record { one = c; other = d; one_has = h; other_has = g; output_is = refl; text_is = refl }))
  refusals_are_one (refusal.TooLarge part.Goal n) (refusal.TooLarge part.Goal m) h g a b =
      let counted : n ≡ m =
      h.counted ∙ ap (λ (e : Expansion). capped (size_of e)) (becomes_one s.decls once s.goal h.expansion g.expansion h.becomes g.becomes) ∙ sym g.counted in
      alike (refusal.TooLarge part.Goal n) (refusal.TooLarge part.Goal m) (ap (λ k. refusal.TooLarge part.Goal k) counted)
  refusals_are_one (refusal.TooLarge part.Rules n) (refusal.TooLarge part.Rules m) h g a b =
      alike (refusal.TooLarge part.Rules n) (refusal.TooLarge part.Rules m) (ap (λ k. refusal.TooLarge part.Rules k) (h.counted ∙ sym g.counted))
  refusals_are_one (refusal.Twice c) (refusal.Twice d) h g a b =
      let e = becomes_one s.decls once s.goal h.expansion g.expansion h.measured.fitting.becomes g.measured.fitting.becomes in
      alike (refusal.Twice c) (refusal.Twice d) (ap refusal.Twice (twice_once (labelled_of s.decls g.expansion) c d
      (subst (λ (f : Expansion). IsFirstTwice (labelled_of s.decls f) c) e h.first) g.first))
  refusals_are_one (refusal.Recursive c) (refusal.TooLarge part.Flows m) h g a b = absurd (many_flows m g h.few)
  refusals_are_one (refusal.Twice e) (refusal.TooLarge part.Flows m) h g a b = absurd (many_flows m g h.measured.fitting.finite.few)
  refusals_are_one r q h g a b = absurd (first_of (assumption, search (many_flows, recursive, large_goal, many_names)))

  -- ---- the script among the things that are looked at

  pub refused_alike : (r q : Refused) → IsCause (the_script s) r → IsCause (the_script s) q → Agree (event_names s.decls) (ShowsChain s) (Err r) (Err q)
  refused_alike (refused.Expand r) (refused.Expand q) (of, h) (are, g) = refusals_are_one r q h g of are
  refused_alike r q h g = absurd (assumption)

  pub not_both_ways : (r : Refused) (w : Definition) → IsCause (the_script s) r → IsExpanded s w → ⊥
  not_both_ways (refused.Expand r) w (of, h) x = not_refused r w h of x
  not_both_ways r w h x = h
