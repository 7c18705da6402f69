use Rattle.std.proofs.Common.{◌∙◌, [], ◌∷◌, ◌++◌, slice_get, ap, subst, sym, true≢false}
use Rattle.leaf_rows.specs.Leaves.{has_leaf}
use Rattle.leaf_rows.specs.declared.leaf_set.LeafSet.{LeafSet}
use Rattle.flow_model.specs.Facts.{replay}
use Rattle.flow_model.specs.Schema.{start_of}
use Rattle.flow_goal.specs.Labelled.{Labelled}
use Rattle.flow_log.specs.Case.{IsBegun, AreFacts, fitted_of}
use Rattle.flow_log.specs.declared.point.Point.{Point}
use Rattle.flow_log.proofs.BeginLemmas.{begun_more, begun_holds, begun_counts, after_more}
use Rattle.flow_log.proofs.case.Case.turn.Goals as goal

pub returns-in_err-count-clause-none : goal.returns-in_err-count-clause-none
returns-in_err-count-clause-none g c =
    let f = fitted_of c.args.self.now in
    let at = sym (c.in_ok-label.ensures ∙ ap (λ (t : Labelled). slice_get t.labels c.args.leaf) c.tree.ensures.tree) in
    rw c.from_residual-in_err-count.ensures
    (λ list count begun after more. c.in_err-count.ensures.none count (begun_counts f list c.args.leaf c.in_ok-label.label at c.args.point.now.count count begun more))

pub returns-then-perform-clause-some : goal.returns-then-perform-clause-some
returns-then-perform-clause-some g c list begun after =
    let f = fitted_of c.args.self.now in
    let labels = c.args.self.now.workflow.now.tree.labels in
    let places = c.args.self.now.places.items in
    let label = c.in_ok-label.label in
    let now = replay labels (start_of f.schema) list in
    let at = sym (c.in_ok-label.ensures ∙ ap (λ (t : Labelled). slice_get t.labels c.args.leaf) c.tree.ensures.tree) in
    let facts = subst (λ (set : LeafSet g.row.W). AreFacts labels places now (has_leaf set)) (sym (ap (λ (p : Point g.row.W). p.facts) c.put_leaf.ensures.others)) after.facts in
    let holds = (c.perform.ensures.holds now facts).0 c.if-perform.true in
    let counted = ap (λ (p : Point g.row.W). p.count) c.perform.ensures.others ∙ ap (λ (p : Point g.row.W). p.count) c.put_leaf.ensures.others in
    let done = ap (λ (p : Point g.row.W). p.done) c.perform.ensures.others in (
      subst (λ k. IsBegun f (list ++ c.args.leaf ∷ []) k) (sym counted) (begun_more f list c.args.leaf label at c.args.point.now.count c.in_ok-count.count begun holds (c.in_ok-count.ensures.some begun.within)),
      after_more f list c.args.leaf label at c.args.point.now c.perform.new.point after
          (λ m. ap (λ (set : LeafSet g.row.W). has_leaf set m) done ∙ c.put_leaf.ensures.done m) (c.perform.ensures.facts now facts),
    )

pub returns-else-perform-clause-none : goal.returns-else-perform-clause-none
returns-else-perform-clause-none g c list count begun after more =
    let f = fitted_of c.args.self.now in
    let labels = c.args.self.now.workflow.now.tree.labels in
    let places = c.args.self.now.places.items in
    let now = replay labels (start_of f.schema) list in
    let at = sym (c.in_ok-label.ensures ∙ ap (λ (t : Labelled). slice_get t.labels c.args.leaf) c.tree.ensures.tree) in
    let facts = subst (λ (set : LeafSet g.row.W). AreFacts labels places now (has_leaf set)) (sym (ap (λ (p : Point g.row.W). p.facts) c.put_leaf.ensures.others)) after.facts in
    true≢false (sym ((c.perform.ensures.holds now facts).1 (begun_holds f list c.args.leaf c.in_ok-label.label at count more)) ∙ c.if-perform.false)
