use Rattle.std.proofs.Common.{◌∙◌, ◌+◌, ap, sym, drop}
use Rattle.flow_lex.proofs.KeptValues.{kept_from, kept_more}
use Rattle.flow_lex.proofs.digits.kept_value.Goals as goal

pub loop-digit-preserved : goal.loop-digit-preserved
loop-digit-preserved c =
    c.loop-digit.invariant ∙ kept_more c.loop-digit.value c.loop-digit.digit-index c.args.digits.now c.loop-digit-test.true
    ∙ ap (λ v. kept_from v (drop (c.loop-digit.digit-index + 1) c.args.digits.now)) (sym c.with_digit-value.ensures)
