use Rattle.std.proofs.Common.{◌<◌, ◌≤◌, ◌++◌, ◌∷◌, [], List, Bor, length, map, take, get_or, subst, sym, ap, ◌∙◌}
use Rattle.std.proofs.lemmas.List.{map_push, map_more, take_all}
use Rattle.flow_form.specs.declared.form.Form.{Form}
use Rattle.flow_form.specs.Form.{Shape, shape_of}
use Rattle.flow_view.specs.Drawn.{many_times, named_goal}
use Rattle.flow_view.specs.Flows.{forms_shapes, names_in, goals_in}
use Rattle.flow_view.proofs.FlowsLemmas.{fused}
use Rattle.flow_view.proofs.flows.Flows.bodies.Goals as goal

pub loop-goal-preserved : goal.loop-goal-preserved
loop-goal-preserved c =
    let self = c.args.self.now in
    let view : Bor Form → Shape = λ f. shape_of f.now in
    let body : Bor Form → Shape = λ f. many_times (length (names_in self)) (named_goal (names_in self) (goals_in self)) (shape_of f.now) in
    let items = self.goals.items in
    let i = c.loop-goal.goal-index in
    let x = c.goal-item.result in
    let value = c.deref-goal-items.ensures.value in
    let less : i < length items = subst (λ (l : List (Bor Form)). i < length l) value c.loop-goal-test.true in
    ap forms_shapes c.in_ok-push.ensures.items ∙ map_push view c.loop-goal.bodies.items c.body.result
    ∙ ap (λ l. l ++ view c.body.result ∷ []) c.loop-goal.invariant
    ∙ ap (λ s. map body (take i items) ++ s ∷ []) (c.body.ensures ∙ ap body (c.goal-item.is ∙ ap (λ (l : List (Bor Form)). get_or l i x) value))
    ∙ sym (map_more body items i x less)

pub returns : goal.returns
returns c =
    let self = c.args.self.now in
    let view : Bor Form → Shape = λ f. shape_of f.now in
    let body : Bor Form → Shape = λ f. many_times (length (names_in self)) (named_goal (names_in self) (goals_in self)) (shape_of f.now) in
    let items = self.goals.items in
    let all : length items ≤ c.loop-goal.goal-index = subst (λ (l : List (Bor Form)). length l ≤ c.loop-goal.goal-index) c.deref-goal-items.ensures.value c.loop-goal-test.false in
    c.loop-goal.invariant ∙ ap (map body) (take_all c.loop-goal.goal-index items all)
    ∙ fused (λ s. many_times (length (names_in self)) (named_goal (names_in self) (goals_in self)) s) view items
