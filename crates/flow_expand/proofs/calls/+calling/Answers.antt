use Rattle.std.proofs.Common.{ap, ◌∙◌, ◌++◌, map}
use Rattle.std.proofs.lemmas.List.{take_all}
use Rattle.flow_form.specs.Form.{shapes, shape_of}
use Rattle.flow_form.specs.Names.{names_in_each}
use Rattle.flow_expand.specs.Calls.{calls_in}
use Rattle.flow_expand.proofs.SettlementLemmas.{calls_more}
use Rattle.flow_expand.proofs.calls.+calling.Goals as goal

pub push_all_calls-loop-form-preserved : goal.push_all_calls-loop-form-preserved
push_all_calls-loop-form-preserved t c =
    calls_more c.args.directory.now.flows c.args.forms.now c.loop-form.form-index c.form-item.result c.args.calls.now.items c.loop-form.calls.items c.push_calls.new.calls.items
    c.loop-form-test.true c.form-item.is c.loop-form.invariant c.in_ok-push_calls.ensures

pub push_all_calls-returns : goal.push_all_calls-returns
push_all_calls-returns t c =
    c.loop-form.invariant ∙ ap (λ forms. c.args.calls.now.items ++ calls_in c.args.directory.now.flows (names_in_each (shapes (map shape_of forms)))) (take_all c.loop-form.form-index c.args.forms.now c.loop-form-test.false)
