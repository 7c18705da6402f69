use Rattle.std.proofs.Common.{codes, ◌++◌, ap, ◌∙◌, ℕ, Vec, Global}
use Rattle.std.specs.String.{string_bytes}
use Rattle.flow_findings.specs.Refusing.{dropped_line}
use Rattle.flow_record.proofs.PieceLemmas.{flat_more, flat_all}
use Rattle.flow_findings.proofs.compile_refusal.print_inconsistent.Goals as goal

pub loop-option-preserved : goal.loop-option-preserved
loop-option-preserved c =
    flat_more dropped_line c.args.dropped.now c.loop-option.option-index c.option-item.result (codes "inconsistent\n") (string_bytes c.loop-option.text) (string_bytes c.push_dropped.new.text)
    c.loop-option-test.true c.loop-option.invariant (c.in_ok-push_dropped.ensures ∙ ap (λ option. string_bytes c.loop-option.text ++ dropped_line option) c.option-item.is)

pub returns : goal.returns
returns c =
    ap (λ (text : Vec ℕ Global). text.items) c.into_bytes.ensures.value
    ∙ flat_all dropped_line c.args.dropped.now c.loop-option.option-index (codes "inconsistent\n") (string_bytes c.loop-option.text) c.loop-option-test.false c.loop-option.invariant
