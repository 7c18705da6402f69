use Rattle.std.proofs.Common.{refl, inr}
use Rattle.flow_cli.specs.Finding.{traced}
use Rattle.flow_cli.proofs.trace.trace_leaves.Goals as goal

pub returns : goal.returns
returns c = (
  traced c.in_ok-checked.checked,
  inr (c.in_ok-compiled.compiled, c.in_ok-compiled.ensures.compiled, (c.in_ok-checked.checked, c.in_ok-checked.ensures.told, refl)),
  record { status_is = c.status_of_checked.ensures; output_is = c.in_ok-print_checked.ensures },
)
