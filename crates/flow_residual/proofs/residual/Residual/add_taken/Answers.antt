use Rattle.std.proofs.Common.{⊎_elim, arith}
use Rattle.leaf_rows.specs.Leaves.{has_leaf}
use Rattle.flow_residual.proofs.QuestionLemmas.{adds_seen, taken_new, taken_ready}
use Rattle.flow_residual.proofs.residual.Residual.add_taken.Goals as goal

pub returns-then-is_covered : goal.returns-then-is_covered
returns-then-is_covered g c = λ o leaf at. adds_seen (has_leaf c.args.found.now leaf) _ (λ taken.
    let journal = c.args.self.now.journal in
    let claims = c.args.claims.now in
    let here = (c.requires.next o at taken.0.journal_ready leaf).1 (taken_ready o journal claims c.args.stand leaf taken.1) in
    ⊎_elim (λ claimed. absurd (taken_new o journal claims c.args.stand leaf taken.1 ((c.requires.row leaf).0 claimed))) (λ old. old)
    (c.is_covered.ensures.0 c.if-is_covered.true leaf here))

pub add_new-requires : goal.add_new-requires
add_new-requires g c = (omega (arith, c.args.row.now.sized), (c.requires.place, (c.requires.next, (c.requires.distinct, (c.requires.row, c.requires.apart)))))
