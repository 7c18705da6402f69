use Rattle.std.proofs.Common.{ℕ, List, ◌++◌, codes}
use Rattle.std.proofs.lemmas.Result.{on_ok_weaker}
use Rattle.flow_writer.proofs.Pieces.{and_then}
use Rattle.flow_why_cli.proofs.faults.push_other.Goals as goal

pub returns : goal.returns
returns c =
    let old : List ℕ = c.args.writer.now.text.items in
    let front : List ℕ = codes "hint: did you mean " in
    let near : List ℕ = c.args.near.now in
    on_ok_weaker c.words-2.result
    (λ e. and_then old (front ++ near) (codes "?\n") _ _ (and_then old front near _ _ c.in_ok-words.ensures c.in_ok-bytes.ensures) e) c.words-2.ensures
