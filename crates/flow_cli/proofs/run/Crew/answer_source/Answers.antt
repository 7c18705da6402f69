use Rattle.std.proofs.lemmas.Result.{IfOk-weaker}
use Rattle.flow_form.specs.Script.{said}
use Rattle.flow_cli.proofs.Outcomes.{all_can_be_told, all_told, all_answered, stopped_read}
use Rattle.flow_cli.proofs.run.Crew.answer_source.Goals as goal

pub tell_found-output-requires : goal.tell_found-output-requires
tell_found-output-requires g c =
    let request = c.args.self.now.request in
    all_can_be_told request.mode g.G.Gate.gives request (said c.in-Ok.input.script) c.in-Ok.input.second.items c.find-found.result c.find-found.ensures

pub returns-in-Ok : goal.returns-in-Ok
returns-in-Ok g c =
    let request = c.args.self.now.request in
    all_answered request.mode g.G.Gate.gives request (g.S.Source.left c.args.source.now) (g.S.Source.left c.read_input.new.source)
    (g.S.Source.faults c.args.source.now) (g.S.Source.faults c.read_input.new.source) c.requires.reads (said c.in-Ok.input.script) c.in-Ok.input.second.items
    c.tell_found-output.result c.in-Ok.ensures.input (λ more. let no = c.in-Ok.ensures.fault.1 more in cc) c.in-Ok.ensures.left
    (all_told request.mode g.G.Gate.gives request (said c.in-Ok.input.script) c.in-Ok.input.second.items c.find-found.result c.tell_found-output.result c.find-found.ensures
    c.tell_found-output.ensures)

pub returns-in-Err : goal.returns-in-Err
returns-in-Err g c =
    let request = c.args.self.now.request in
    IfOk-weaker c.refuse.result _ _
    (λ output. stopped_read request.mode g.G.Gate.gives request (g.S.Source.left c.args.source.now) (g.S.Source.left c.read_input.new.source)
    (g.S.Source.faults c.args.source.now) (g.S.Source.faults c.read_input.new.source) c.requires.reads _ c.in-Err.stop output.status output.text.items
    c.in-Err.ensures.stop c.in-Err.ensures.fault c.in-Err.ensures.left)
    c.refuse.ensures
