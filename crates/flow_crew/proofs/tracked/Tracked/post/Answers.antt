use Rattle.std.proofs.Common.{◌∙◌, refl, sym, inl, inr, true≢false}
use Rattle.flow_crew.proofs.Endings.{ends, ends_not, has_steps}
use Rattle.flow_crew.proofs.tracked.Tracked.post.Goals as goal

pub returns-then-is_some : goal.returns-then-is_some
returns-then-is_some c = record {
  posted = inl (rw (← c.self.view_is) (ends c.self.inside.core c.self.inside.end c.self.invariant.ends (sym c.is_some.ensures ∙ c.if-is_some.true)), refl);
  legal = rw (← c.self.view_is) c.self.invariant.legal;
}

pub tell-failed-requires-clause-steps : goal.tell-failed-requires-clause-steps
tell-failed-requires-clause-steps c =
    has_steps c.self.inside.core (ends_not c.self.inside.core c.self.inside.end c.self.invariant.ends (sym c.is_some.ensures ∙ c.if-is_some.false)) c.self.invariant.legal

pub invariant_of-self : goal.invariant_of-self
invariant_of-self c = record { legal = c.stand-next.ensures.legal; goes_on = c.stand-next.ensures.next; ends = c.stand-next.ensures.end }

pub returns-clause-posted : goal.returns-clause-posted
returns-clause-posted c = inr (inr (
  rw (← c.self.view_is) (ends_not c.self.inside.core c.self.inside.end c.self.invariant.ends (sym c.is_some.ensures ∙ c.if-is_some.false)),
  rw (← c.self.view_is) (c.is_out.ensures.0 c.if-not-is_out.false),
  rw (← c.self.view_is) c.tell-failed.ensures.records,
))

pub returns-then-not-is_out : goal.returns-then-not-is_out
returns-then-not-is_out c = record {
  posted = inr (inl (
    rw (← c.self.view_is) (ends_not c.self.inside.core c.self.inside.end c.self.invariant.ends (sym c.is_some.ensures ∙ c.if-is_some.false)),
    λ out. true≢false (sym (c.is_out.ensures.1 (rw c.self.view_is out)) ∙ c.if-not-is_out.true),
    refl,
  ));
  legal = rw (← c.self.view_is) c.self.invariant.legal;
}

pub tell-failed-requires-clause-out : goal.tell-failed-requires-clause-out
tell-failed-requires-clause-out c = c.is_out.ensures.0 c.if-not-is_out.false
