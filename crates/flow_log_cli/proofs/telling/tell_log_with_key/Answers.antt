use Rattle.std.proofs.Common.{ℕ, List, Bor, option_map, sym, subst}
use Rattle.flow_event_log.specs.Logs.{activities_in}
use Rattle.flow_log_cli.specs.Activities.{StandFor}
use Rattle.flow_log_cli.specs.Maps.{AreGoodRows}
use Rattle.flow_log_cli.proofs.telling.tell_log_with_key.Goals as goal

pub returns : goal.returns
returns g c =
    let events = c.args.prepared.now.workflow.events in
    let renamed = c.in_ok-renaming.ensures in
    let rows = renamed.rows in
    let same = c.in_ok-vocabulary.ensures.events in
    let log = c.in_ok-reading.reading.log in
    let numbers = c.in_ok-events.events.items in
    let stand = c.in_ok-events.ensures.stand rows renamed.mapped in
    let by_events = subst (λ (es : List (List ℕ)). StandFor es rows c.activities.result.now numbers) same stand in
    let by_log = subst (λ (acts : List (List ℕ)). StandFor events rows acts numbers) c.activities.ensures by_events in
    c.judge_reading.ensures (option_map (λ (text : Bor (List ℕ)). text.now) c.args.map) rows renamed.are (subst (λ (es : List (List ℕ)). AreGoodRows es rows) same renamed.good)
    (subst (λ (ns : List ℕ). StandFor events rows (activities_in log) ns) (sym c.as_slice.ensures.value) by_log)
