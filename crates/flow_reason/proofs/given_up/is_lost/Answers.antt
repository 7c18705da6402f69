use Rattle.std.proofs.Common.{◌↔◌, ℕ, Bool, IsTrue, List, [], sym, subst, true≢false, ◌∙◌}
use Rattle.flow_laws.specs.WellFormed.{IsWellFormed}
use Rattle.flow_workflow.specs.Definition.{Definition, schema_of}
use Rattle.flow_core.specs.Run.{schema, now}
use Rattle.flow_reach.specs.Reach.{MayStillCome}
use Rattle.flow_reason.specs.GivenUp.{IsGivenUp}
use Rattle.flow_reason.proofs.GivenUpLemmas.{comes_still, comes_no_more, in_reach_of, ok_as}
use Rattle.flow_reason.proofs.given_up.is_lost.Goals as goal

pub returns-then-branch : goal.returns-then-branch
returns-then-branch c =
    let r = c.args.core.now in
    let leaf : ℕ = c.args.leaf in
    let banned : List ℕ = c.args.banned.now in
    let formed = subst (λ (d : Definition). IsWellFormed (schema_of d)) c.workflow.ensures c.tree.ensures.well_formed in
    let may = (c.in_ok-may_still_come.ensures (schema r) formed c.requires.compiled).0 c.if-branch.true in (
      λ wrong. absurd (true≢false (sym wrong)),
      λ given. absurd (comes_still r formed banned c.requires.banned leaf (subst (λ (l : List ℕ). MayStillCome (schema r) l banned leaf) c.journal.ensures may) given),
    )

pub returns : goal.returns
returns c =
    let r = c.args.core.now in
    let leaf : ℕ = c.args.leaf in
    let banned : List ℕ = c.args.banned.now in
    let formed = subst (λ (d : Definition). IsWellFormed (schema_of d)) c.workflow.ensures c.tree.ensures.well_formed in
    let told = c.in_ok-may_still_come.ensures (schema r) formed c.requires.compiled in
    let none : ¬ (MayStillCome (schema r) (now r).journal banned leaf) = λ may. true≢false
    (sym (told.1 (subst (λ (l : List ℕ). MayStillCome (schema r) l banned leaf) (sym c.journal.ensures) may)) ∙ c.if-branch.false) in
    ok_as c.may_still_come-2.result (λ may. IsTrue may ↔ MayStillCome (schema r) c.journal-2.result.now [] leaf) (λ is. IsTrue is ↔ IsGivenUp r leaf)
    (c.may_still_come-2.ensures (schema r) formed c.requires.compiled)
    (λ (b : Bool) says. (
      λ yes. comes_no_more r formed banned c.requires.banned leaf none (subst (λ (l : List ℕ). MayStillCome (schema r) l [] leaf) c.journal-2.ensures (says.0 yes)),
      λ given. says.1 (subst (λ (l : List ℕ). MayStillCome (schema r) l [] leaf) (sym c.journal-2.ensures) (in_reach_of r formed banned c.requires.banned leaf given)),
    ))
