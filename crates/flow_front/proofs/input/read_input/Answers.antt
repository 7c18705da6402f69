use Rattle.std.proofs.Common.{length, ap, arith}
use Rattle.flow_front.proofs.Stops.{told_stop, read_stops, read_text_stops}
use Rattle.flow_front.proofs.input.read_input.Goals as goal

pub returns-in_err-bytes-clause-stop : goal.returns-in_err-bytes-clause-stop
returns-in_err-bytes-clause-stop g c =
    told_stop c.from_residual.result _ _ c.from_residual.ensures.1
    (read_stops _ (g.S.Source.left c.args.source.now) (g.S.Source.left c.read_all.new.source) c.in_err-bytes.field-0.0 c.in_err-bytes.ensures.too_long)

pub returns-clause-stop : goal.returns-clause-stop
returns-clause-stop g c =
    read_text_stops c.input_of.result (g.S.Source.left c.args.source.now) (g.S.Source.left c.read_all.new.source) c.in_ok-bytes.bytes.items c.deref.result.now
    c.in_ok-bytes.ensures.whole c.deref.ensures.value (omega (arith, ap length c.deref.ensures.value, c.in_ok-bytes.ensures.within)) c.input_of.ensures.stop
