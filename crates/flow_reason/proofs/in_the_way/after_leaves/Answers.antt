use Rattle.std.proofs.Common.{◌∙◌, ℕ, List, [], ◌∷◌, ◌++◌, get_or, refl, sym, ap, subst}
use Rattle.std.proofs.lemmas.List.{take_more, take_all}
use Rattle.flow_model.specs.Folding.{folded_options}
use Rattle.flow_plan.specs.Options.{HasExecution, AreJustThose}
use Rattle.flow_residual.specs.Remaining.{Remaining}
use Rattle.flow_why.proofs.Begun.{no_front}
use Rattle.flow_reason.proofs.in_the_way.after_leaves.Goals as goal

pub loop-leaf-init : goal.loop-leaf-init
loop-leaf-init c = record {
  options = c.in_ok-residual.ensures.options;
  journal = c.in_ok-residual.ensures.journal;
  bans = c.in_ok-residual.ensures.bans;
}

pub loop-leaf-preserved : goal.loop-leaf-preserved
loop-leaf-preserved c =
    let leaves : List ℕ = c.args.leaves.now in
    let i : ℕ = c.loop-leaf.leaf-index in
    let inv = c.loop-leaf.invariant in record {
      options = ap (λ (r : Remaining). r.options) c.push.ensures ∙ inv.options;
      journal = ap (λ (r : Remaining). r.journal) c.push.ensures ∙ ap (λ (l : List ℕ). l ++ get_or leaves i 0 ∷ []) inv.journal ∙ sym (take_more leaves i 0 c.loop-leaf-test.true);
      bans = ap (λ (r : Remaining). r.bans) c.push.ensures ∙ inv.bans;
    }

pub returns-then-not-legal_do-clause-none : goal.returns-then-not-legal_do-clause-none
returns-then-not-legal_do-clause-none c = λ w f k.
    let leaves : List ℕ = c.args.leaves.now in
    let i : ℕ = c.loop-leaf.leaf-index in
    let inv = c.loop-leaf.invariant in
    no_front w c.args.compiled f k c.loop-leaf.residual leaves i c.loop-leaf-test.true inv.options inv.journal inv.bans (get_or leaves i 0) refl
    c.legal_do.result c.legal_do.ensures.first c.if-not-legal_do.true

pub returns-clause-some : goal.returns-clause-some
returns-clause-some c = λ w s formed k journal bans.
    let inv = c.loop-leaf.invariant in record {
      well_formed = formed;
      options_are = subst (AreJustThose HasExecution (folded_options w)) (sym inv.options) k.plans;
      journal_is = journal ∙ sym (inv.journal ∙ take_all c.loop-leaf.leaf-index c.args.leaves.now c.loop-leaf-test.false);
      bans_are = bans ∙ sym inv.bans;
    }
