use Rattle.std.proofs.Common.{◌≡◌, ◌≢◌, ◌++◌, ◌∷◌, ◌<◌, ◌-◌, [], ℕ, List, Some, length, slice_get, sym, ap, refl, reverse, subst, ◌∙◌, append_assoc, arith}
use Rattle.std.proofs.lemmas.Option.{slice_get_read}
use Rattle.std.proofs.lemmas.List.{append-nil}
use Rattle.flow_event_log.specs.Reached.{IsReached}
use Rattle.flow_event_log.proofs.ReachedLemmas.{walk_on, walk_end}
use Rattle.flow_event_log.proofs.sequences.Sequences.events.Goals as goal

pub loop-at-preserved : goal.loop-at-preserved
loop-at-preserved c =
    let steps = c.args.self.now.steps.items in
    let at = c.loop-at.at in
    let step = c.index-step.result.now in
    let known = c.loop-at.invariant.0 in
    let some : at ≢ 0 = c.loop-at-test.true in
    let below : at - 1 < length steps = omega (arith, known, some) in
    let least = c.min-at.ensures in
    let stands : slice_get steps (at - 1) ≡ Some step = slice_get_read steps _ (at - 1) step refl below c.index-step.ensures in (
      omega (arith, known, least),
      λ latest_first reached.
          let here = c.loop-at.invariant.1 latest_first reached in
          let on = walk_on steps at step here.0 c.args.self.now.older some stands here.1 in (
            on.0,
            subst (λ (n : ℕ). IsReached steps n on.0) (sym least) on.2,
            here.2 ∙ ap (λ (rest : List ℕ). c.loop-at.events.items ++ rest) on.1
                ∙ sym (append_assoc c.loop-at.events.items (step.event ∷ []) on.0) ∙ ap (λ (front : List ℕ). front ++ on.0) (sym c.in_ok-push.ensures.items),
          ),
    )

pub returns : goal.returns
returns c = λ latest_first reached.
    let here = c.loop-at.invariant.1 latest_first reached in
    let none = walk_end c.args.self.now.steps.items c.loop-at.at here.0 c.loop-at-test.false here.1 in
    c.reverse.ensures.items ∙ ap reverse (sym (here.2 ∙ ap (λ (rest : List ℕ). c.loop-at.events.items ++ rest) none ∙ append-nil c.loop-at.events.items))
