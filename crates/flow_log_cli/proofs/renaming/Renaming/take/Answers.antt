use Rattle.std.proofs.Common.{Some, sym}
use Rattle.csv.specs.Records.{fields_of}
use Rattle.flow_log_cli.specs.Activities.{Says, Spells}
use Rattle.flow_log_cli.proofs.NotedLemmas.{heading, mapped_row, silent_row}
use Rattle.flow_log_cli.proofs.renaming.Renaming.take.Goals as goal

pub returns-in_ok-note-in-Some-2-clause-taken : goal.returns-in_ok-note-in-Some-2-clause-taken
returns-in_ok-note-in-Some-2-clause-taken c =
    let events = c.args.vocabulary.now.events.now in
    let row = fields_of c.args.record.now in
    let spells : Spells events c.in-Some-get.name.now (Some c.in-Some-2.event) = rw c.in-Some-2.is at c.in_ok-event.ensures in
    let says : Says events row c.in-Some.activity.now c.in-Some-2.event =
    record { name = c.in-Some-get.name.now; of_activity = sym c.in-Some.ensures.value; by_name = sym c.in-Some-get.ensures.value; spells = spells } in
    λ rows are. mapped_row events rows row c.in-Some.activity.now c.in-Some-2.event says _ _ are _ _ c.in_ok-note-in-Some-2.ensures

pub returns-in-None-clause-taken : goal.returns-in-None-clause-taken
returns-in-None-clause-taken c =
    let events = c.args.vocabulary.now.events.now in
    let row = fields_of c.args.record.now in
    λ rows are. heading events rows row _ _ (silent_row events row c.in-Some-get.name.now (sym c.in-Some-get.ensures.value) (rw c.in-None.is at c.in_ok-event.ensures)) are
