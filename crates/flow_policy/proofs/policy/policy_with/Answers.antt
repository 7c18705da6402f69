use Rattle.std.proofs.Common.{refl, sym, subst}
use Rattle.flow_policy.specs.Policy.{AreRising, AreJust}
use Rattle.flow_policy.proofs.TableLemmas.{turned_twice}
use Rattle.flow_policy.proofs.policy.policy_with.Goals as goal

pub returns-clause-ok : goal.returns-clause-ok
returns-clause-ok c = record {
  users_are = refl;
  members_rise = c.new-3.ensures.rising;
  members_are = c.new-3.ensures.same;
  allowed_rise = subst AreRising (sym (turned_twice c.new-4.result)) c.new-4.ensures.rising;
  allowed_are = subst (λ l. AreJust l c.args.draft.allowed.items) (sym (turned_twice c.new-4.result)) c.new-4.ensures.same;
  separate_are = c.in_ok-separate.ensures;
  bound_are = c.in_ok-bound.ensures;
}
