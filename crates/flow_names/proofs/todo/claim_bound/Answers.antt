use Rattle.std.proofs.Common.{◌<◌, ◌≤◌, ◌+◌, length, List, ap, arith}
use Rattle.flow_model.specs.declared.history.Entry.{Entry}
use Rattle.flow_names.proofs.ClaimBounds.{current_below, history_within}
use Rattle.flow_names.proofs.todo.claim_bound.Goals as goal

pub returns-clause-above : goal.returns-clause-above
returns-clause-above c = λ claim current.
    let below : claim < length c.args.core.now.history + 1 = current_below c.args.core.now c.history.ensures.lawful claim current in
    omega (arith, below, ap (λ (h : List Entry). length h) c.history.ensures.entries)

pub returns-clause-small : goal.returns-clause-small
returns-clause-small c =
    let within : length c.args.core.now.history ≤ c.args.core.now.limit = history_within c.args.core.now c.history.ensures.lawful in
    omega (arith, within, ap (λ (h : List Entry). length h) c.history.ensures.entries, c.limit-limit.ensures)
