use Rattle.std.proofs.Common.{sym}
use Rattle.flow_plan.proofs.KeepLemmas.{allows_to_begin}
use Rattle.flow_plan.proofs.part_row.PartRow.allows.Goals as goal

pub returns-in-false-true : goal.returns-in-false-true
returns-in-false-true g c =
    allows_to_begin c.args.self.now c.args.sides.now c.args.leaf (λ k inside done. let both = c.in-false-true.ensures.1 (k, inside, done) in absurd (cc))
    c.is_subset-in-false-true.result (sym c.in-false-true.ensures') c.is_subset-in-false-true.ensures
