use Rattle.std.proofs.lemmas.List.{get_or_default}
use Rattle.std.proofs.Common.{◌||◌, ◌==◌, ℕ, ◌<◌, ◌≡◌, ◌∙◌, ◌+◌, length, take, get_or, arith, ap, subst, sym}
use Rattle.leaf_rows.specs.Leaves.{has_leaf}
use Rattle.leaf_rows.specs.declared.leaf_set.LeafSet.{LeafSet}
use Rattle.flow_model.specs.Facts.{state_with}
use Rattle.flow_goal.specs.Labelled.{Labelled}
use Rattle.flow_log.specs.Case.{AreFacts}
use Rattle.flow_log.proofs.CaseLemmas.{held_small, held_said, held_unsaid}
use Rattle.flow_log.proofs.case.Case.first_facts.Goals.{then-place-leaves, else-place-leaves}
use Rattle.flow_log.proofs.case.Case.first_facts.Goals as goal

pub loop-fact-preserved : goal.loop-fact-preserved
loop-fact-preserved g c =
    let labels = c.args.self.now.workflow.now.tree.labels in
    let places = c.args.self.now.places.items in
    let held = c.held-fact-items.result.now in
    let i = c.loop-fact.fact-index in
    let within : i < length held = omega (arith, c.loop-fact-test.true) in
    let small = held_small (length c.args.self.now.workflow.now.facts) c.args.self.now.workflow.now.held held i c.held-fact-items.ensures.held c.held-fact-items.ensures.known within in
    let counted : c.leaves-leaves.result ≡ length labels = c.leaves-leaves.ensures.count ∙ ap (λ (t : Labelled). length t.labels) c.tree.ensures.tree in
    let place = c.index-place.result.now in
    let same : place ≡ get_or places (get_or held i 0) 0 =
    c.index-place.ensures ∙ get_or_default places (get_or held i 0) place 0 (omega (arith, small, c.requires.case.places.one_each)) in
    elim c.if-place-leaves.branch [
      | then-place-leaves w ↦ subst (λ (set : LeafSet g.row.W). AreFacts labels places (state_with (take (i + 1) held)) (has_leaf set)) (sym w.facts-is)
          (held_said (length c.args.self.now.workflow.now.facts) labels places c.requires.case.places held i within (has_leaf c.loop-fact.facts) c.loop-fact.invariant (has_leaf w.insert.new.self)
          (omega (arith, counted, same, w.if-place-leaves.true)) small (subst (λ n. (k : ℕ) → has_leaf w.insert.new.self k ≡ (k == n || has_leaf c.loop-fact.facts k)) same w.insert.ensures))
      | else-place-leaves w ↦ subst (λ (set : LeafSet g.row.W). AreFacts labels places (state_with (take (i + 1) held)) (has_leaf set)) (sym w.facts-is)
          (held_unsaid (length c.args.self.now.workflow.now.facts) labels places c.requires.case.places held i within (has_leaf c.loop-fact.facts) c.loop-fact.invariant
          (omega (arith, counted, same, w.if-place-leaves.false)))
    ]
