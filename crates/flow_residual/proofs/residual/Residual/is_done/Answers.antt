use Rattle.std.proofs.Common.{◌<◌, ◌↔◌, IsTrue, subst, sym, arith}
use Rattle.std.proofs.lemmas.Bool.{ltb-true}
use Rattle.flow_model.proofs.Lists.{each_member}
use Rattle.flow_model.specs.declared.limits.TheConstants.{MOST_LEAVES}
use Rattle.flow_model.specs.Lists.{◌∈◌}
use Rattle.flow_residual.specs.Remaining.{Remaining}
use Rattle.flow_residual.proofs.residual.Residual.is_done.Goals as goal

-- no leaf of the journal is that great
pub returns-else-leaf-lt-MOST_LEAVES : goal.returns-else-leaf-lt-MOST_LEAVES
returns-else-leaf-lt-MOST_LEAVES c = (
  λ wrong. let low : c.args.leaf < MOST_LEAVES = ltb-true c.args.leaf MOST_LEAVES wrong in absurd (omega arith),
  λ member.
      let there : c.args.leaf ∈ c.self.inside.journal.items = subst (λ (r : Remaining). c.args.leaf ∈ r.journal) (sym c.self.view_is) member in
      let small : c.args.leaf < MOST_LEAVES = each_member (λ n. n < MOST_LEAVES) c.self.inside.journal.items c.self.invariant.kept.done.small c.args.leaf there in
      absurd (omega arith),
)

pub returns-then-leaf-lt-MOST_LEAVES : goal.returns-then-leaf-lt-MOST_LEAVES
returns-then-leaf-lt-MOST_LEAVES c =
    subst (λ (r : Remaining). IsTrue c.has.result ↔ (c.args.leaf ∈ r.journal)) c.self.view_is
    (subst (λ b. IsTrue b ↔ (c.args.leaf ∈ c.self.inside.journal.items)) (sym c.has.ensures) (c.self.invariant.done_are c.args.leaf))
