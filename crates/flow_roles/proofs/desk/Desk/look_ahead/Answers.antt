use Rattle.std.proofs.Common.{inl}
use Rattle.flow_ask.specs.declared.ask.Ask.TheVariants as ask
use Rattle.flow_roles.proofs.Dutiful.{still_dutiful}
use Rattle.flow_roles.proofs.desk.Desk.look_ahead.Goals as goal

pub invariant_of-self : goal.invariant_of-self
invariant_of-self c =
    still_dutiful c.self.inside.policy.duties c.self.inside.core c.look_ahead.new.self ask.Commit 0 (λ leaf e. cc) (inl c.look_ahead.ensures) c.self.invariant
