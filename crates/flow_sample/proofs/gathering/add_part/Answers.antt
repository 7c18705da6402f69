use Rattle.std.proofs.Common.{List, ℕ, subst, sym}
use Rattle.flow_sample.specs.Rows.{IsOneOf}
use Rattle.flow_sample.specs.Arranged.{IsRunOf}
use Rattle.flow_sample.proofs.gathering.add_part.Goals as goal

pub returns : goal.returns
returns g c =
    let same = sym c.of_part.ensures.runs_so in (
      c.of_part.result,
      c.in_ok-push.ensures.items,
      subst (λ (z : List ℕ). IsOneOf c.args.inner.now z c.of_part.result) same c.of_part.ensures,
      subst (λ (z : List ℕ). IsRunOf c.args.inner.now z) same c.in_ok-run.ensures.ok,
    )
