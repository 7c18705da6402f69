use Rattle.std.proofs.Common.{◌<◌, ◌++◌, ◌∷◌, [], ℕ, List, length, ap, sym, ◌∙◌, arith}
use Rattle.flow_model.specs.declared.labels.Label.{Label}
use Rattle.flow_lint.proofs.MarkLemmas.{taken, there}
use Rattle.flow_lint.proofs.labels.labels_of.Goals.{in-Some+in_ok-push-in-Some, in-None}
use Rattle.flow_lint.proofs.labels.labels_of.Goals as goal

pub loop-leaf-preserved : goal.loop-leaf-preserved
loop-leaf-preserved c =
    let labels : List Label = c.args.tree.now.labels in
    let leaf : ℕ = c.loop-leaf.leaf in
    let below : leaf < length labels = omega (arith, c.leaves-leaf-end.ensures.count) in
    elim c.match-label.branch [
      | in-Some+in_ok-push-in-Some w ↦ ap (λ v. v.items) w.labels-is ∙ w.in_ok-push-in-Some.ensures.items ∙ ap (λ (l : List Label). l ++ w.in-Some.label ∷ []) c.loop-leaf.invariant
          ∙ sym (taken labels leaf w.in-Some.label (sym c.label.ensures ∙ w.in-Some.is))
      | in-None w ↦ absurd (there labels leaf below (sym c.label.ensures ∙ w.in-None.is))
    ]
