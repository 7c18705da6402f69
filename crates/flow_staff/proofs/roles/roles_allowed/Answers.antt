use Rattle.std.proofs.Common.{◌≡◌, sym, ap, ◌∙◌}
use Rattle.std.proofs.lemmas.Result.{IfOk-weaker}
use Rattle.std.specs.List.{flat_map}
use Rattle.flow_reader.specs.Symbols.{symbols_of}
use Rattle.flow_policy.specs.Policy.{allowances}
use Rattle.flow_staff.specs.Roles.{role_for, roles_said}
use Rattle.flow_staff.proofs.RoleLemmas.{with_list, roles_are_said}
use Rattle.flow_staff.proofs.roles.roles_allowed.Goals as goal

pub returns : goal.returns
returns c = λ statements says.
    let text = c.args.policy.now in
    let event = c.args.event.now in
    let tokens = c.deref.result.now in
    IfOk-weaker c.roles_in.result (λ found. found.items ≡ roles_said event (symbols_of text tokens)) (λ found. found.items ≡ flat_map (role_for event) (flat_map allowances statements))
    (λ found is. roles_are_said text event tokens statements found.items (c.in-Ok.ensures.tokens ∙ ap with_list (sym c.deref.ensures.value)) is says) c.roles_in.ensures
