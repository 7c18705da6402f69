use Rattle.std.proofs.Common.{◌≡◌, ℕ, ◌<◌, ◌≤◌, ◌++◌, map, List, length, get_or, ap, ◌∙◌, subst, Vec, Global, Bor}
use Rattle.std.proofs.lemmas.List.{take_all}
use Rattle.flow_form.specs.declared.form.Form.{Form}
use Rattle.flow_form.specs.Form.{shape_of}
use Rattle.flow_form.specs.Names.{names_in}
use Rattle.flow_expand.specs.Calls.{calls_in}
use Rattle.flow_expand.proofs.Members.{one_more_mapped}
use Rattle.flow_expand.proofs.calls.calls_of.Goals as goal

pub loop-goal-preserved : goal.loop-goal-preserved
loop-goal-preserved c =
    let i = c.loop-goal.goal-index in
    let named : Bor Form → List ℕ = λ f. calls_in c.args.directory.now.flows (names_in (shape_of f.now)) in
    let goals : c.deref-goal-items.result.now ≡ c.args.directory.now.goals.items = c.deref-goal-items.ensures.value in
    one_more_mapped (λ (v : Vec ℕ Global). v.items) named c.loop-goal.calls.items c.push.new.self.items c.push_calls.new.calls c.args.directory.now.goals.items i c.goal-item.result
    (subst (λ fs. i < length fs) goals c.loop-goal-test.true) c.loop-goal.invariant
    (c.in_ok-push_calls.ensures ∙ ap (λ l. l ++ named c.goal-item.result) c.new-named.ensures.items ∙ ap named (c.goal-item.is ∙ ap (λ fs. get_or fs i c.goal-item.result) goals))
    c.in_ok-push.ensures.items

pub returns : goal.returns
returns c =
    let named : Bor Form → List ℕ = λ f. calls_in c.args.directory.now.flows (names_in (shape_of f.now)) in
    c.loop-goal.invariant
    ∙ ap (map named) (take_all c.loop-goal.goal-index c.args.directory.now.goals.items (subst (λ fs. length fs ≤ c.loop-goal.goal-index) c.deref-goal-items.ensures.value c.loop-goal-test.false))
