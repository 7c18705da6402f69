use Rattle.std.proofs.Common.{ℕ, true, IsTrue, refl, sym, ◌∙◌}
use Rattle.std.proofs.lemmas.Bool.{true≢false}
use Rattle.leaf_rows.specs.Leaves.{has_leaf}
use Rattle.flow_plan.proofs.KeepLemmas.{allows_to_begin, fresh_outside, kept_where}
use Rattle.flow_plan.proofs.part_row.PartRow.keep_allowed.Goals as goal

pub returns-else-meets : goal.returns-else-meets
returns-else-meets g c n =
    let row = c.args.self.now in
    let untouched : (k : ℕ) → IsTrue (has_leaf row.inside k) → ¬ IsTrue (has_leaf c.args.sides.now.done k) =
    λ k inside done. true≢false (sym (c.meets.ensures.1 (k, inside, done)) ∙ c.if-meets.false) in
    kept_where (has_leaf c.keep-else-meets.result n) (has_leaf c.args.leaves n) (has_leaf row.inside n) c.is_subset-else-meets.result true _
    (c.keep-else-meets.ensures n)
    (λ mine. allows_to_begin row c.args.sides.now n untouched c.is_subset-else-meets.result mine c.is_subset-else-meets.ensures)
    (λ other. (λ yes. fresh_outside row c.args.sides.now n untouched other, λ allows. refl))
