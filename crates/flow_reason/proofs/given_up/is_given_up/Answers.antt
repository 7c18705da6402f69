use Rattle.std.proofs.Common.{◌≡◌, ◌∙◌, ℕ, List, [], sym, subst}
use Rattle.std.proofs.lemmas.Bool.{eqb-true}
use Rattle.std.proofs.lemmas.List.{nil_from_length}
use Rattle.flow_laws.specs.WellFormed.{IsWellFormed}
use Rattle.flow_workflow.specs.Definition.{Definition, schema_of}
use Rattle.flow_reason.proofs.GivenUpLemmas.{none_banned}
use Rattle.flow_reason.proofs.given_up.is_given_up.Goals as goal

pub returns-then-is_empty-clause-is_not : goal.returns-then-is_empty-clause-is_not
returns-then-is_empty-clause-is_not c = λ _ within given.
    let banned : List ℕ = c.in_ok-banned.banned.items in
    let formed = subst (λ (d : Definition). IsWellFormed (schema_of d)) c.workflow.ensures c.tree.ensures.well_formed in
    let nil : banned ≡ [] = nil_from_length banned (sym c.in_ok-banned.banned.ok.0 ∙ eqb-true c.in_ok-banned.banned.len 0 (sym c.is_empty.ensures ∙ c.if-is_empty.true)) in
    none_banned c.args.core.now formed banned c.in_ok-banned.ensures c.args.leaf nil given
