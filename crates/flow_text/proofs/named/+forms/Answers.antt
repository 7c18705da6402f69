use Rattle.std.proofs.Common.{refl, map}
use Rattle.flow_form.specs.Form.{shape_of, shapes}
use Rattle.flow_grammar.specs.Roles.{goal_roles, roles_in_each}
use Rattle.flow_text.specs.Named.{roles_of}
use Rattle.flow_text.proofs.Pushed.{goes_on, all_put}
use Rattle.flow_text.proofs.named.+forms.Goals as goal

pub list_forms-loop-form-preserved : goal.list_forms-loop-form-preserved
list_forms-loop-form-preserved t c =
    goes_on (λ fs. roles_in_each (shapes (map shape_of fs))) _ c.loop-form.form-index c.form-item.result (roles_of c.loop-form.list.items) (roles_of c.list_form.new.list.items)
    (goal_roles (shape_of c.form-item.result)) _
    c.loop-form-test.true c.form-item.is (λ fs. refl) c.in_ok-list_form.ensures c.loop-form.invariant

pub list_forms-returns : goal.list_forms-returns
list_forms-returns t c =
    all_put (λ fs. roles_in_each (shapes (map shape_of fs))) _ c.loop-form.form-index _ (roles_of c.loop-form.list.items) refl c.loop-form-test.false c.loop-form.invariant
