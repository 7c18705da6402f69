use Rattle.std.proofs.Common.{ℕ, List, ◌++◌, ◌∙◌, ap, codes}
use Rattle.std.proofs.lemmas.Result.{on_ok_weaker}
use Rattle.flow_writer.proofs.Pieces.{and_then}
use Rattle.flow_why_cli.specs.Members.{refusal_start}
use Rattle.flow_why_cli.proofs.json.push_start.Goals as goal

pub returns : goal.returns
returns c =
    on_ok_weaker c.text_member.result
    (λ e. and_then _ _ _ _ _ c.in_ok-words.ensures e ∙ ap (λ (word : List ℕ). c.args.writer.now.text.items ++ refusal_start word) c.as_bytes.ensures.value)
    c.text_member.ensures
