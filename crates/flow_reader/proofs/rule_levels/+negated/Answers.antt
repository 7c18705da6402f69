use Rattle.std.proofs.Common.{◌≡◌, ◌-◌, sym, ap, subst, ◌∙◌, arith}
use Rattle.std.specs.Prelude.{IfOk}
use Rattle.flow_form.specs.RuleForm.{rule_shape_of}
use Rattle.flow_grammar.specs.Machine as machine
use Rattle.flow_reader.proofs.Heights.{negate_more}
use Rattle.flow_reader.proofs.rule_levels.+negated.Goals as goal

pub returns : goal.returns
returns t c =
    let more = negate_more c.args.nots (rule_shape_of c.args.rule) (omega (arith, c.if-nots-eq0.false)) in
    subst (λ shape. IfOk c.negated.result (λ form. rule_shape_of form ≡ shape)) (ap (machine.negate (c.args.nots - 1)) c.in_ok-inner.ensures ∙ sym more) c.negated.ensures
