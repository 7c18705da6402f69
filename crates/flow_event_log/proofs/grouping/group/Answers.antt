use Rattle.std.proofs.Common.{◌≡◌, ℕ, List, map, length, ap, subst, ◌∙◌}
use Rattle.flow_event_log.specs.declared.event_log.Event.{Event}
use Rattle.flow_event_log.specs.Logs.{cases_in, events_in}
use Rattle.flow_event_log.specs.Grouped.{entry_of}
use Rattle.flow_event_log.specs.Ends.{AreEnds, HavePlaces}
use Rattle.flow_event_log.proofs.GroupLemmas.{grouped}
use Rattle.flow_event_log.proofs.grouping.group.Goals as goal

pub returns : goal.returns
returns c =
    let log = c.args.log.now in
    let events_of = c.args.events_of.now in
    let steps = c.ends_of.new.tree.steps.items in
    let ends = c.in_ok-ends.ends.items in
    let of_cases = c.in_ok-cases.cases.of_cases.items in
    let sequences = c.in_ok-cases.cases.sequences.items in
    let count : c.len.result ≡ length (cases_in log) = c.len.ensures ∙ ap length c.cases-2.ensures in
    let of_count = subst (λ (n : ℕ). AreEnds n (map (entry_of events_of) c.events.result.now) steps ends) count c.in_ok-ends.ensures in
    let are = subst (λ (es : List Event). AreEnds (length (cases_in log)) (map (entry_of events_of) es) steps ends) c.events.ensures.events of_count in
    let have = subst (λ (l : List ℕ). HavePlaces steps l sequences (length l) of_cases) c.deref.ensures.value c.in_ok-cases.ensures in
    grouped (length (cases_in log)) (map (entry_of events_of) (events_in log)) steps ends of_cases sequences are have
