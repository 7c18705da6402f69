use Rattle.std.proofs.Common.{◌++◌, [], ◌∙◌, Some}
use Rattle.std.proofs.lemmas.Result.{IfOk-weaker}
use Rattle.flow_findings.specs.Refusing.{named_by}
use Rattle.flow_why_cli.proofs.Explaining.{begins_first, in_words}
use Rattle.flow_run_why_cli.proofs.stops.second_text.Goals as goal

pub returns : goal.returns
returns c =
    let events = named_by (Some c.args.script) in
    let (rest, is) = begins_first events c.args.refused.now c.deref.result.now (c.deref-2.result.now ++ []) (c.deref.ensures.value ∙ c.in_ok-told.ensures) in
    IfOk-weaker c.print_pieces.result _ _ (λ words same. in_words c.args.form words.items _ (rest, same ∙ is)) c.print_pieces.ensures
