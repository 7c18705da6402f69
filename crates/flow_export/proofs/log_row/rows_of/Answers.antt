use Rattle.std.proofs.Common.{map, ◌∙◌}
use Rattle.flow_export.specs.Rows.{row_at}
use Rattle.flow_export.proofs.log_row.rows_of.Goals as goal

pub returns : goal.returns
returns c = record {
  events = c.in_ok-events.events.items;
  is_log = c.in_ok-events.ensures.log;
  rows_are = c.in_ok-rows.ensures
      ∙ (λ i. map (row_at (c.workflow.ensures i) c.args.case.now c.args.tellers.now) (c.deref.ensures.value i));
}
