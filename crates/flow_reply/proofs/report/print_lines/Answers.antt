use Rattle.std.proofs.Common.{◌≡◌, ◌∙◌, List, ℕ, append_assoc, ◌++◌, codes}
use Rattle.std.proofs.lemmas.Result.{IfOk-weaker}
use Rattle.flow_reply.proofs.report.print_lines.Goals as goal

in_line : (h n j v a b c d w : List ℕ) → h ++ (a ++ (n ++ (b ++ (j ++ (c ++ (n ++ (d ++ (v ++ (w ++ n))))))))) ≡ h ++ a ++ n ++ b ++ j ++ c ++ n ++ d ++ v ++ w ++ n
in_line h n j v a b c d w = simp append_assoc

pub returns : goal.returns
returns c =
    let entries = c.as_bytes.ensures.value ∙ c.format.ensures.text in
    let history = c.deref.ensures.value ∙ c.in_ok-history_lines.ensures.text in
    let places = c.as_bytes-2.ensures.value ∙ c.format-2.ensures.text in
    let journal = c.deref-2.ensures.value ∙ c.in_ok-journal_lines.ensures in
    IfOk-weaker c.print_pieces.result _ _
    (λ text is. is
    ∙ in_line (codes "history ") (codes "\n") (codes "journal ") (codes "verdict ") c.as_bytes.result.now c.deref.result.now c.as_bytes-2.result.now c.deref-2.result.now c.args.words.now
    ∙ (λ i. codes "history " ++ entries i ++ codes "\n" ++ history i ++ codes "journal " ++ places i ++ codes "\n" ++ journal i ++ codes "verdict " ++ c.args.words.now ++ codes "\n"))
    c.print_pieces.ensures
