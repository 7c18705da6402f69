use Rattle.std.proofs.Common.{refl, inr}
use Rattle.flow_run_why_cli.specs.Query.{answer_of_property}
use Rattle.flow_run_why_cli.proofs.query.verify_property.Goals as goal

pub returns-in_ok-property_text-in-Ok : goal.returns-in_ok-property_text-in-Ok
returns-in_ok-property_text-in-Ok c = (
  answer_of_property c.args.workflow.now c.in-Ok.verified,
  inr (c.in-Ok.verified, (c.in-Ok.ensures.within, c.in-Ok.ensures.told), refl),
  record { status_is = c.status_of_verified.ensures; begins = c.in_ok-property_text-in-Ok.ensures },
)
