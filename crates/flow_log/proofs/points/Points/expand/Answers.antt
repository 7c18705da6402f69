use Rattle.std.proofs.Common.{◌≡◌, ◌+◌, ◌∙◌, Bool, true, true≢false, List, Some, length, slice_get, arith, ap, subst, sym}
use Rattle.flow_goal.specs.Labelled.{Labelled}
use Rattle.flow_log.specs.Case.{fitted_of}
use Rattle.flow_log.specs.Search.{Goes}
use Rattle.flow_log.specs.declared.point.Point.{Point}
use Rattle.flow_log.proofs.PointLemmas.{read_at, still_there, same_point, goes_tried, goes_further, tried_never}
use Rattle.flow_log.proofs.points.Points.expand.Goals.{else-has-via-then-has+in_ok-try_leaf+else-not-branch, else-has-via-else-has}
use Rattle.flow_log.proofs.points.Points.expand.Goals as goal

pub loop-leaf-preserved : goal.loop-leaf-preserved
loop-leaf-preserved g c =
    let f = fitted_of c.args.case.now in
    let old = c.args.self.now.points.items in
    let mid = c.loop-leaf.self.points.items in
    let place = c.args.place in
    let leaf = c.loop-leaf.leaf in
    let so_far = c.loop-leaf.invariant in
    let counted : c.leaves-leaf-end.result ≡ length c.args.case.now.workflow.now.tree.labels =
    c.leaves-leaf-end.ensures.count ∙ ap (λ (t : Labelled). length t.labels) c.tree.ensures.tree in
    let point = c.index.result.now in
    let there : slice_get mid place ≡ Some point = still_there old mid place point so_far.more (read_at old place point c.requires.place c.index.ensures) in
    elim c.else-has.branch [
      | else-has-via-then-has+in_ok-try_leaf+else-not-branch w ↦
          subst (λ (l : List (Point g.row.W)). Goes f c.args.budget old l place 0 (leaf + 1) true) (ap (λ s. s.points.items) (sym w.self-is))
          (goes_further f c.args.budget old mid w.try_leaf.new.self.points.items place 0 leaf true c.requires.place so_far
          (subst (λ (b : Bool). Goes f c.args.budget mid w.try_leaf.new.self.points.items place leaf (leaf + 1) b) w.if-not-branch.false w.in_ok-try_leaf.ensures))
      | else-has-via-else-has w ↦
          subst (λ (l : List (Point g.row.W)). Goes f c.args.budget old l place 0 (leaf + 1) true) (ap (λ s. s.points.items) (sym w.self-is))
          (goes_further f c.args.budget old mid mid place 0 leaf true c.requires.place so_far
          (goes_tried f c.args.budget mid place leaf so_far.led so_far.before (λ p here. same_point f mid place leaf point p there here
          (tried_never f mid point leaf (λ j o option at ready. true≢false
          (sym (c.all_next-next.ensures j leaf o option at (omega (arith, c.loop-leaf-test.true, counted, c.requires.leaves)) ready) ∙ sym c.has.ensures ∙ w.if-has.false))))))
    ]
