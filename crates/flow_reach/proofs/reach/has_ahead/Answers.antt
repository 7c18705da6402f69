use Rattle.std.proofs.Common.{sym, true≢false, ◌∙◌}
use Rattle.flow_reach.proofs.reach.has_ahead.Goals as goal

pub returns-then-not-has : goal.returns-then-not-has
returns-then-not-has c = λ done out told. (λ wrong. absurd (true≢false (sym wrong)), λ ahead. absurd (true≢false (sym (c.has.ensures.1 ahead.has_leaf) ∙ c.if-not-has.true)))

pub returns-then-not-can_go_on : goal.returns-then-not-can_go_on
returns-then-not-can_go_on c = λ done out told.
    (λ wrong. absurd (true≢false (sym wrong)), λ ahead. absurd (true≢false (sym ((c.can_go_on.ensures done out told).1 ahead.avoids) ∙ c.if-not-can_go_on.true)))

pub returns : goal.returns
returns c = λ done out told. (
  λ yes. record {
    has_leaf = c.has.ensures.0 c.if-not-has.false;
    avoids = (c.can_go_on.ensures done out told).0 c.if-not-can_go_on.false;
    journal_ready = c.follows.ensures.0 yes;
  },
  λ ahead. c.follows.ensures.1 ahead.journal_ready,
)
