use Rattle.std.proofs.Common.{◌++◌, [], ◌∙◌, List, ℕ, ap}
use Rattle.std.proofs.lemmas.Result.{IfOk-weaker}
use Rattle.flow_why_cli.proofs.Explaining.{in_words}
use Rattle.flow_run_why_cli.proofs.journal.bad_text.Goals as goal

pub returns : goal.returns
returns c =
    let rest = c.deref-2.result.now ++ [] in
    IfOk-weaker c.print_pieces.result _ _
    (λ words same. in_words c.args.form words.items _ (rest, same ∙ ap (λ (l : List ℕ). l ++ rest) (c.deref.ensures.value ∙ c.in_ok-told.ensures))) c.print_pieces.ensures
