use Rattle.std.proofs.Common.{◌<◌, ◌*◌, arith, sym, ◌∙◌}
use Rattle.std.proofs.lemmas.Bool.{false≢true, le-ltb}
use Rattle.flow_model.specs.declared.limits.TheConstants.{MOST_LEAVES}
use Rattle.leaf_rows.specs.declared.TheConstants.{LEAF_WORDS}
use Rattle.leaf_rows.proofs.Members.{has_leaf-within}
use Rattle.flow_plan.proofs.plan.Plan.before.Goals as goal

pub returns-else-first-lt-MOST_LEAVES : goal.returns-else-first-lt-MOST_LEAVES
returns-else-first-lt-MOST_LEAVES c = (
  λ wrong. absurd (false≢true (sym (le-ltb c.args.first MOST_LEAVES c.if-first-lt-MOST_LEAVES.false) ∙ wrong)),
  λ direct. let small : c.args.first < 64 * LEAF_WORDS = has_leaf-within c.all_before-before.result c.args.first ((c.all_before-before.ensures c.args.first).1 direct) in
      let large = c.if-first-lt-MOST_LEAVES.false in absurd (omega arith),
)
