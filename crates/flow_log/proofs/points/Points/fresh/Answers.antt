use Rattle.std.proofs.Common.{◌⊎◌, ℕ, IsTrue, arith, subst, sym}
use Rattle.leaf_rows.specs.Leaves.{has_leaf}
use Rattle.leaf_rows.specs.declared.leaf_set.LeafSet.{LeafSet}
use Rattle.flow_log.specs.Search.{IsKnown}
use Rattle.flow_log.proofs.PointLemmas.{read_at, fresh_among, fresh_all}
use Rattle.flow_log.proofs.points.Points.fresh.Goals.{then-is_like, else-is_like}
use Rattle.flow_log.proofs.points.Points.fresh.Goals as goal

pub loop-end-preserved : goal.loop-end-preserved
loop-end-preserved g c =
    let points = c.args.self.now.points.items in
    let options = c.args.options.now in
    elim c.if-is_like.branch [
      | then-is_like w ↦
          let there = read_at points _ c.index.result.now (omega (arith, c.loop-end-test.true, c.if-end-len.true, c.len.ensures)) c.index.ensures in
          let is_like = c.is_like.ensures.0 w.if-is_like.true in record {
            among = subst (λ (set : LeafSet g.row.W). (j : ℕ) → IsTrue (has_leaf set j) → IsTrue (has_leaf options j)) (sym w.fresh-is)
                (fresh_among points options c.loop-end.fresh w.remove_all.new.self c.index.result.now c.args.like.now _ there is_like w.remove_all.ensures c.loop-end.invariant.among);
            all = subst (λ (set : LeafSet g.row.W). (j : ℕ) → IsTrue (has_leaf options j) → IsTrue (has_leaf set j) ⊎ IsKnown points j c.args.like.now) (sym w.fresh-is)
                (fresh_all points options c.loop-end.fresh w.remove_all.new.self c.index.result.now c.args.like.now _ there is_like w.remove_all.ensures c.loop-end.invariant.all);
          }
      | else-is_like w ↦ record {
        among = subst (λ (set : LeafSet g.row.W). (j : ℕ) → IsTrue (has_leaf set j) → IsTrue (has_leaf options j)) (sym w.fresh-is) c.loop-end.invariant.among;
        all = subst (λ (set : LeafSet g.row.W). (j : ℕ) → IsTrue (has_leaf options j) → IsTrue (has_leaf set j) ⊎ IsKnown points j c.args.like.now) (sym w.fresh-is) c.loop-end.invariant.all;
      }
    ]
