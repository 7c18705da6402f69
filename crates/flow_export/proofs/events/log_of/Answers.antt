use Rattle.std.proofs.Common.{refl, ◌∙◌}
use Rattle.flow_core.specs.Run.{schema}
use Rattle.flow_standing.specs.Following.{leaves_given, leaf_numbered}
use Rattle.flow_standing.proofs.Trails.{leaves_told}
use Rattle.flow_export.specs.Events.{events_from}
use Rattle.flow_export.proofs.events.log_of.Goals as goal

pub returns : goal.returns
returns c =
    let r = c.args.core.now in
    let lawful = c.history-history.ensures.lawful in
    let same = c.history-history.ensures.entries in
    let leaves = leaves_told (schema r) r.limit r.history lawful.legal lawful.sound (leaves_given r.history) refl in
    record {
      doings = c.in_ok-doings.doings.items;
      are_doings = c.in_ok-doings.ensures;
      taken = c.in_ok-taken.taken.items;
      are_taken = c.in_ok-taken.ensures;
      events_are = c.in_ok-events.ensures
          ∙ (λ i. events_from (leaf_numbered (leaves_given c.history-history.result.now)) (c.deref.ensures.value i) (c.deref-2.ensures.value i) 0 c.history-history.result.now)
          ∙ (λ i. events_from (leaf_numbered (leaves_given (same i))) c.in_ok-doings.doings.items c.in_ok-taken.taken.items 0 (same i))
          ∙ (λ i. events_from (λ n. leaves n i) c.in_ok-doings.doings.items c.in_ok-taken.taken.items 0 r.history);
    }
