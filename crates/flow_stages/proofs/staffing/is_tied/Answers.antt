use Rattle.std.proofs.Common.{◌≡◌, get_or, refl, sym, true≢false}
use Rattle.flow_policy.specs.declared.tie.Tie.{Tie}
use Rattle.flow_stages.proofs.Loops.{all_next, all_gone, here_in}
use Rattle.flow_stages.proofs.staffing.is_tied.Goals as goal

abbrev blank : Tie
blank = record { event = 0; index = 0; other = 0 }

pub returns-then-tie-event : goal.returns-then-tie-event
returns-then-tie-event c =
    let ties = c.args.ties.now in
    let k = c.loop-tie.tie-index in
    (λ _. (get_or ties k blank, here_in ties k blank c.loop-tie-test.true, c.if-tie-event.true), λ _. refl)

pub loop-tie-preserved : goal.loop-tie-preserved
loop-tie-preserved c =
    all_next (λ (t : Tie). ¬ (t.other ≡ c.args.event)) c.args.ties.now c.loop-tie.tie-index blank c.loop-tie-test.true c.loop-tie.invariant c.if-tie-event.false

pub returns : goal.returns
returns c = (
  λ f. absurd (true≢false (sym f)),
  λ (t, m, is). absurd (all_gone (λ (t : Tie). ¬ (t.other ≡ c.args.event)) c.args.ties.now c.loop-tie.tie-index c.loop-tie-test.false c.loop-tie.invariant t m is),
)
