use Rattle.std.proofs.Common.{◌++◌, []}
use Rattle.std.proofs.lemmas.Result.{IfOk-weaker}
use Rattle.flow_why_cli.proofs.Explaining.{in_words}
use Rattle.flow_why_cli.proofs.telling.explain_conflict.Goals as goal

pub returns : goal.returns
returns c =
    IfOk-weaker c.print_pieces.result _ _ (λ words is. in_words c.args.form words.items _ (c.deref.result.now ++ [], is)) c.print_pieces.ensures
