use Rattle.std.proofs.Common.{◌≡◌, ◌+◌, ℕ, List, [], ◌∷◌, ◌++◌, take, get_or, inl, inr, ⊎_elim, sym, subst}
use Rattle.std.proofs.lemmas.List.{take_more}
use Rattle.flow_model.specs.Lists.{◌∈◌}
use Rattle.flow_model.proofs.Lists.{only_one, mem_append_left, mem_append_right, mem-append}
use Rattle.flow_reach.proofs.sets.set_of.Goals as goal

pub loop-leaf-preserved : goal.loop-leaf-preserved
loop-leaf-preserved c = λ n.
    let leaves : List ℕ = c.args.leaves.now in
    let i : ℕ = c.loop-leaf.leaf-index in
    let leaf : ℕ = get_or leaves i 0 in
    let more : take (i + 1) leaves ≡ take i leaves ++ leaf ∷ [] = take_more leaves i 0 c.loop-leaf-test.true in
    let inv = c.loop-leaf.invariant n in
    let now = c.with_leaf-set.ensures n in (
      λ yes. ⊎_elim
          (λ old. let (small, m) = inv.0 old in (small, subst (λ (l : List ℕ). n ∈ l) (sym more) (mem_append_left n (take i leaves) (leaf ∷ []) m)))
          (λ (small, is). (small, subst (λ (l : List ℕ). n ∈ l) (sym more) (mem_append_right n (take i leaves) (leaf ∷ []) (inl is))))
          (now.0 yes),
      λ (small, m). now.1 (⊎_elim (λ old. inl (inv.1 (small, old))) (λ last. inr (small, only_one n leaf last))
          (mem-append n (take i leaves) (leaf ∷ []) (subst (λ (l : List ℕ). n ∈ l) more m))),
    )
