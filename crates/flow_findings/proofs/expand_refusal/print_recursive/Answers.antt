use Rattle.std.proofs.Common.{codes, ◌++◌, ap, ◌∙◌, append_assoc}
use Rattle.flow_findings.specs.Refusing.{spaced}
use Rattle.flow_record.proofs.PieceLemmas.{flat_more, flat_all}
use Rattle.flow_findings.proofs.expand_refusal.print_recursive.Goals as goal

pub loop-name-preserved : goal.loop-name-preserved
loop-name-preserved c =
    flat_more (λ word. codes " " ++ word) c.args.chain.now c.loop-name.name-index c.name-item.result (codes "refused: recursive") c.loop-name.line.items c.extend_from_slice-in-loop-name.new.self.items
    c.loop-name-test.true c.loop-name.invariant
    (c.in_ok-extend_from_slice-2.ensures.items ∙ ap (λ t. t ++ c.bytes.result.now) c.in_ok-extend_from_slice.ensures.items ∙ append_assoc c.loop-name.line.items (codes " ") c.bytes.result.now
    ∙ ap (λ word. c.loop-name.line.items ++ (codes " " ++ word)) (c.bytes.ensures ∙ c.name-item.is))

pub returns : goal.returns
returns c =
    c.in_ok-extend_from_slice-3.ensures.items
    ∙ ap (λ t. t ++ codes "\n") (flat_all (λ word. codes " " ++ word) c.args.chain.now c.loop-name.name-index (codes "refused: recursive") c.loop-name.line.items c.loop-name-test.false c.loop-name.invariant)
    ∙ append_assoc (codes "refused: recursive") (spaced c.args.chain.now) (codes "\n")
