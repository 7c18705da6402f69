use Rattle.std.proofs.Common.{refl, inr}
use Rattle.flow_cli.specs.Finding as finding
use Rattle.flow_cli.proofs.verify.verify_property.Goals as goal

pub returns-in_ok-print_verified-in-Ok : goal.returns-in_ok-print_verified-in-Ok
returns-in_ok-print_verified-in-Ok c = (
  finding.verified c.args.workflow.now c.in-Ok.verified,
  inr (c.in-Ok.verified, (c.in-Ok.ensures.within, c.in-Ok.ensures.told), refl),
  record { status_is = c.status_of_verified.ensures; output_is = c.in_ok-print_verified-in-Ok.ensures },
)
