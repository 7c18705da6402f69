use Rattle.std.proofs.Common.{sym}
use Rattle.csv.specs.Records.{fields_of}
use Rattle.flow_event_log.proofs.TakenLemmas.{field_more}
use Rattle.flow_event_log.proofs.reading.names_in.Goals as goal

pub loop-place-preserved : goal.loop-place-preserved
loop-place-preserved c =
    field_more (fields_of c.args.record.now) c.loop-place.place c.in-Some.name.now c.loop-place.names.items c.push.new.self.items c.in_ok-text.text (sym c.in-Some.ensures.value)
    c.in_ok-push.ensures.items c.in_ok-text.ensures.items c.loop-place.invariant
