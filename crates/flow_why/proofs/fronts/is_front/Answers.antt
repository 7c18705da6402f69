use Rattle.std.proofs.Common.{◌≡◌, ◌<◌, ◌+◌, ◌++◌, ◌∙◌, ℕ, true, false, List, [], ◌∷◌, length, take, get_or, refl, sym, ap, subst}
use Rattle.std.proofs.lemmas.List.{take_more, take_all}
use Rattle.flow_residual.specs.Remaining.{Remaining}
use Rattle.flow_why.specs.Fronts.{IsFront}
use Rattle.flow_why.proofs.Begun.{begun_none, front_more, no_front}
use Rattle.flow_why.proofs.fronts.is_front.Goals as goal

pub loop-leaf-init : goal.loop-leaf-init
loop-leaf-init c = record {
  options = c.in_ok-residual.ensures.options;
  journal = c.in_ok-residual.ensures.journal;
  bans = c.in_ok-residual.ensures.bans;
  front = λ w f k. begun_none w k.consistent;
}

pub returns-then-not-legal_do : goal.returns-then-not-legal_do
returns-then-not-legal_do c = λ w f k.
    let leaves : List ℕ = c.args.leaves.now in
    let i : ℕ = c.loop-leaf.leaf-index in
    let inv = c.loop-leaf.invariant in (
      λ is. absurd (let wrong : false ≡ true = is in cc),
      λ front. absurd (no_front w c.args.compiled f k c.loop-leaf.residual leaves i c.loop-leaf-test.true inv.options inv.journal inv.bans (get_or leaves i 0) refl
          c.legal_do.result c.legal_do.ensures.first c.if-not-legal_do.true front),
    )

pub loop-leaf-preserved : goal.loop-leaf-preserved
loop-leaf-preserved c =
    let leaves : List ℕ = c.args.leaves.now in
    let i : ℕ = c.loop-leaf.leaf-index in
    let inv = c.loop-leaf.invariant in
    let leaf : ℕ = get_or leaves i 0 in record {
      options = ap (λ (r : Remaining). r.options) c.push.ensures ∙ inv.options;
      journal = ap (λ (r : Remaining). r.journal) c.push.ensures ∙ ap (λ (l : List ℕ). l ++ leaf ∷ []) inv.journal ∙ sym (take_more leaves i 0 c.loop-leaf-test.true);
      bans = ap (λ (r : Remaining). r.bans) c.push.ensures ∙ inv.bans;
      front = λ w f k. front_more w c.args.compiled f k c.loop-leaf.residual leaves i c.loop-leaf-test.true inv.options inv.journal inv.bans leaf refl
          c.legal_do.result c.legal_do.ensures.first c.if-not-legal_do.false;
    }

pub returns : goal.returns
returns c = λ w f k. (
  λ is. subst (IsFront w) (take_all c.loop-leaf.leaf-index c.args.leaves.now c.loop-leaf-test.false) (c.loop-leaf.invariant.front w f k),
  λ front. refl,
)
