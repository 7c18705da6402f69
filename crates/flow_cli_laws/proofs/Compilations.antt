-- A workflow is refused for one count, or for circles of the same options, or it is not refused.
use Rattle.std.proofs.Common.{◌≡◌, ℕ, List, Err, inr, refl, sym, ap, ◌∙◌, arith}
use Rattle.flow_model.specs.Schema.{Schema}
use Rattle.flow_laws.specs.WellFormed.{IsConsistent}
use Rattle.flow_workflow.specs.Definition.{Definition, schema_of}
use Rattle.flow_excise.specs.declared.refusal.CompileRefusal.{CompileRefusal}
use Rattle.flow_excise.specs.declared.refusal.CompileRefusal.TheVariants.{TooManyChoices, TooManyWays, TooBulky, Inconsistent, NoMemory}
use Rattle.flow_excise.specs.Compilation.{IsRefused}
use Rattle.flow_plan.specs.Compilation.{Compilation, IsWithinLimits, IsCompiled}
use Rattle.flow_findings.specs.declared.refused.Refused.{Refused}
use Rattle.flow_findings.specs.declared.refused.Refused.TheVariants as refused
use Rattle.flow_findings.specs.Refusing.{IsOfOptions}
use Rattle.flow_front.specs.Refusal.{the_workflow, the_question, IsCause, IsOfCounts}
use Rattle.flow_cli_laws.specs.Single.{ShowsCircles}
use Rattle.flow_cli_laws.proofs.Agreeing.{Agree, same}

module _ (w : Schema) where
  -- of the counts one is the first that is too large
  first_count : (r q : CompileRefusal) → IsOfCounts r → IsOfCounts q → IsRefused w r → IsRefused w q → r ≡ q
  first_count (TooManyChoices n) (TooManyChoices m) a b h g = ap (λ k. TooManyChoices k) (h.1 ∙ sym g.1)
  first_count (TooManyWays n) (TooManyWays m) a b h g = ap (λ k. TooManyWays k) (h.1.1 ∙ sym g.1.1)
  first_count (TooBulky n) (TooBulky m) a b h g = ap (λ k. TooBulky k) (h.1.1.1 ∙ sym g.1.1.1)
  first_count r q a b h g = absurd (first_of (assumption, omega arith))

  none_too_large : (r : CompileRefusal) → IsOfCounts r → IsRefused w r → IsWithinLimits w → ⊥
  none_too_large (Inconsistent d) a h within = a
  none_too_large NoMemory a h within = a
  none_too_large r a h within = omega arith

  -- a question of it is refused for one count
  pub question_refused_once : (r q : Refused) → IsCause (the_question w) r → IsCause (the_question w) q → r ≡ q
  question_refused_once (refused.Compile r) (refused.Compile q) (a, h) (b, g) = ap refused.Compile (first_count r q a b h g)
  question_refused_once r q h g = absurd (assumption)

  pub question_not_refused : (r : Refused) → IsCause (the_question w) r → IsWithinLimits w → ⊥
  question_not_refused (refused.Compile r) (a, h) within = none_too_large r a h within
  question_not_refused r h within = h

-- a workflow is refused in one way, but for the circles
module _ (names : List (List ℕ)) (w : Definition) where
  abbrev Alike : CompileRefusal → CompileRefusal → Type 0
  Alike r q = Agree names (ShowsCircles w) (Err (refused.Compile r)) (Err (refused.Compile q))

  alike : (r q : CompileRefusal) → r ≡ q → Alike r q
  alike r q e = same names (ShowsCircles w) (Err (refused.Compile r)) (Err (refused.Compile q)) (ap (λ (x : CompileRefusal). Err (refused.Compile x)) e)

  refusals_alike : (r q : CompileRefusal) → IsOfOptions r → IsOfOptions q → IsRefused (schema_of w) r → IsRefused (schema_of w) q → Alike r q
  refusals_alike (Inconsistent c) (Inconsistent d) a b h g =
      (refl, inr (record { one = c.items; other = d.items; one_has = h.1.1; other_has = g.1.1; output_is = refl; text_is = refl }))
  refusals_alike (Inconsistent c) NoMemory a b h g = absurd b
  refusals_alike NoMemory q a b h g = absurd a
  refusals_alike r NoMemory a b h g = absurd b
  refusals_alike (Inconsistent c) q a b h g = absurd (none_too_large (schema_of w) q tt g h.0)
  refusals_alike r (Inconsistent d) a b h g = absurd (none_too_large (schema_of w) r tt h g.0)
  refusals_alike r q a b h g = alike r q (first_count (schema_of w) r q tt tt h g)

  pub workflow_refused_alike : (r q : Refused) → IsCause (the_workflow (schema_of w)) r → IsCause (the_workflow (schema_of w)) q → Agree names (ShowsCircles w) (Err r) (Err q)
  workflow_refused_alike (refused.Compile r) (refused.Compile q) (a, h) (b, g) = refusals_alike r q a b h g
  workflow_refused_alike r q h g = absurd (assumption)

-- a workflow within the limits that has an execution is not refused
none_within : (w : Schema) (r : CompileRefusal) → IsOfOptions r → IsRefused w r → IsWithinLimits w → IsConsistent w → ⊥
none_within w (Inconsistent d) a h within consistent = h.1.0 consistent
none_within w NoMemory a h within consistent = a
none_within w r a h within consistent = none_too_large w r tt h within

pub not_refused_within : (w : Schema) (r : Refused) → IsCause (the_workflow w) r → IsWithinLimits w → IsConsistent w → ⊥
not_refused_within w (refused.Compile r) (a, h) within consistent = none_within w r a h within consistent
not_refused_within w r h within consistent = h

pub workflow_not_refused : (w : Schema) (r : Refused) (c : Compilation) → IsCause (the_workflow w) r → IsCompiled w c → ⊥
workflow_not_refused w r c h compiled = not_refused_within w r h compiled.within compiled.consistent
