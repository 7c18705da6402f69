use Rattle.std.proofs.Common.{◌≡◌, ◌<◌, ◌+◌, ◌++◌, ◌∷◌, [], ℕ, List, map, take, length, slice_index, get_or, sym, ap, subst, ◌∙◌, arith}
use Rattle.std.proofs.Math.ListN.{set}
use Rattle.std.proofs.lemmas.Grind.{get_or_default_zero}
use Rattle.std.proofs.lemmas.List.{map-append, take_more}
use Rattle.std.proofs.lemmas.Option.{slice_get-get_or}
use Rattle.flow_event_log.specs.declared.event_log.Event.{Event}
use Rattle.flow_event_log.specs.Reached.{IsReached}
use Rattle.flow_event_log.specs.Grouped.{entry_of}
use Rattle.flow_event_log.specs.Ends.{AreEnds}
use Rattle.flow_event_log.proofs.GroupLemmas.{next_ends}
use Rattle.flow_event_log.proofs.grouping.ends_of.Goals as goal

pub loop-event-preserved : goal.loop-event-preserved
loop-event-preserved c =
    let events = c.args.events.now in
    let events_of = c.args.events_of.now in
    let at = c.loop-event.event-index in
    let none : Event = record { case = 0; activity = 0; line = 0 } in
    let event = get_or events at none in
    let below = c.loop-event-test.true in
    let steps = c.loop-event.tree.steps.items in
    let after = c.longer.new.self.steps.items in
    let ends = c.loop-event.ends.items in
    let entries = map (entry_of events_of) (take at events) in
    let number = slice_index events_of event.activity in
    let named = c.requires.numbered at event (slice_get-get_or events at none below) in
    let each = c.loop-event.invariant.one_each in
    let within : event.case < length ends = (let of_case = named.0 in omega (arith, of_case, each)) in
    let before : c.index.result.now ≡ slice_index ends event.case = c.index.ensures ∙ get_or_default_zero ends event.case c.index.result.now within in
    let one_more : map (entry_of events_of) (take (at + 1) events) ≡ entries ++ (event.case, number) ∷ [] =
    ap (map (entry_of events_of)) (take_more events at none below) ∙ map-append (entry_of events_of) (take at events) (event ∷ []) in
    subst (λ (es : List (ℕ × ℕ)). AreEnds c.args.cases es after (set ends event.case c.in_ok-end.end)) (sym one_more)
    (next_ends c.args.cases entries steps after ends event.case number c.in_ok-end.end c.loop-event.invariant named.0
    (λ done is. c.in_ok-end.ensures.reached done (subst (λ (n : ℕ). IsReached steps n done) (sym before) is))
    c.in_ok-end.ensures.kept c.in_ok-end.ensures.bound c.in_ok-end.ensures.more)
