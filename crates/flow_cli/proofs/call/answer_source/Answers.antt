use Rattle.std.proofs.Common.{false}
use Rattle.std.proofs.lemmas.Result.{IfOk-weaker}
use Rattle.flow_form.specs.Script.{said}
use Rattle.flow_cli.proofs.Outcomes.{second_short, all_can_be_told, all_told, all_answered, stopped_read}
use Rattle.flow_cli.proofs.call.answer_source.Goals as goal

pub find-found-requires-clause-short : goal.find-found-requires-clause-short
find-found-requires-clause-short g c =
    second_short (g.S.Source.left c.args.source.now) (said c.in-Ok.input.script) c.in-Ok.input.second.items c.in-Ok.ensures.input

pub tell_found-output-requires : goal.tell_found-output-requires
tell_found-output-requires g c =
    all_can_be_told c.args.request.mode (λ _ _. false) c.args.request (said c.in-Ok.input.script) c.in-Ok.input.second.items c.find-found.result
    (c.find-found.ensures (λ _ _. false))

pub returns-in-Ok : goal.returns-in-Ok
returns-in-Ok g c = λ gives.
    all_answered c.args.request.mode gives c.args.request (g.S.Source.left c.args.source.now) (g.S.Source.left c.read_input.new.source)
    (g.S.Source.faults c.args.source.now) (g.S.Source.faults c.read_input.new.source) c.requires.reads (said c.in-Ok.input.script) c.in-Ok.input.second.items
    c.tell_found-output.result c.in-Ok.ensures.input (λ more. let no = c.in-Ok.ensures.fault.1 more in cc) c.in-Ok.ensures.left
    (all_told c.args.request.mode gives c.args.request (said c.in-Ok.input.script) c.in-Ok.input.second.items c.find-found.result c.tell_found-output.result
    (c.find-found.ensures gives) c.tell_found-output.ensures)

pub returns-in-Err : goal.returns-in-Err
returns-in-Err g c = λ gives.
    IfOk-weaker c.refuse.result _ _
    (λ output. stopped_read c.args.request.mode gives c.args.request (g.S.Source.left c.args.source.now) (g.S.Source.left c.read_input.new.source)
    (g.S.Source.faults c.args.source.now) (g.S.Source.faults c.read_input.new.source) c.requires.reads _ c.in-Err.stop output.status output.text.items
    c.in-Err.ensures.stop c.in-Err.ensures.fault c.in-Err.ensures.left)
    c.refuse.ensures
