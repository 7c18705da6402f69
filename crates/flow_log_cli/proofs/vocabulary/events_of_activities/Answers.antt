use Rattle.std.proofs.Common.{◌∷◌, [], ℕ, List, length, sym, ap, subst, ◌∙◌, length-append, arith}
use Rattle.flow_log_cli.specs.Activities.{StandsFor}
use Rattle.flow_log_cli.proofs.Places.{some_same}
use Rattle.flow_log_cli.proofs.StandLemmas.{stand_all, stand_more}
use Rattle.flow_log_cli.proofs.vocabulary.events_of_activities.Goals as goal

pub loop-place-preserved : goal.loop-place-preserved
loop-place-preserved c =
    let events = c.args.vocabulary.now.events.now in
    let activities = c.args.activities.now in
    let place = c.loop-place.place in
    let old = c.loop-place.events.items in
    let inv = c.loop-place.invariant in
    let many = inv.0 in
    let long = ap length c.in_ok-push.ensures.items in (
      omega (arith, long, many, length-append old (c.in_ok-event.event ∷ [])),
      λ rows are.
          stand_more events rows activities place c.in_ok-event.event old c.push.new.self.items c.in_ok-push.ensures.items
          (λ activity there.
          let same = some_same c.in-Some.activity.now activity (c.in-Some.ensures ∙ there) in
          subst (λ (a : List ℕ). StandsFor events rows place a c.in_ok-event.event) same (c.in_ok-event.ensures rows are))
          (inv.1 rows are),
    )

pub returns-clause-stand : goal.returns-clause-stand
returns-clause-stand c =
    λ rows are.
    stand_all c.args.vocabulary.now.events.now rows c.args.activities.now c.loop-place.place c.loop-place.events.items (omega arith) (c.loop-place.invariant.1 rows are)
