use Rattle.std.proofs.Common.{◌≡◌, ◌<◌, ◌+◌, ◌-◌, ◌∷◌, [], ℕ, List, length, sym, subst, ◌∙◌, rules, arith, Vec, Global}
use Rattle.std.proofs.Math.ListN.{set}
use Rattle.std.proofs.lemmas.Grind.{get_or_default_zero}
use Rattle.flow_event_log.specs.Ends.{ArePlaced, StandsAt}
use Rattle.flow_event_log.proofs.GroupLemmas.{stands_more, stands_last, placed_more}
use Rattle.flow_event_log.proofs.grouping.place_of.Goals as goal

pub returns-then-place-ne0-clause-place : goal.returns-then-place-ne0-clause-place
returns-then-place-ne0-clause-place c =
    let places = c.args.places.now.items in
    let known = c.requires.known in
    let wide = c.requires.placed.wide in
    let below : c.args.end < length places = omega (arith, known, wide) in
    let is = c.index-place.ensures ∙ get_or_default_zero places c.args.end c.index-place.result.now below in
    let some = c.if-place-ne0.true in
    c.requires.placed.placed c.args.end (c.index-place.result.now - 1) (omega (arith, is, some))

pub returns-clause-place : goal.returns-clause-place
returns-clause-place c =
    let steps = c.args.tree.now.steps.items in
    let sequences = c.args.sequences.now.items in
    let count : c.len.result ≡ length sequences = search rules in
    let tried : c.in-Ok.number ≡ c.len.result = search rules in
    subst (λ (p : ℕ). StandsAt steps c.push.new.self.items c.args.end p) (sym (tried ∙ count))
    (subst (λ (l : List (Vec ℕ Global)). StandsAt steps l c.args.end (length sequences)) (sym c.in_ok-push.ensures.items)
    (stands_last steps sequences c.in_ok-events.events c.args.end c.in_ok-events.ensures))

pub returns-clause-placed : goal.returns-clause-placed
returns-clause-placed c =
    let steps = c.args.tree.now.steps.items in
    let places = c.args.places.now.items in
    let sequences = c.args.sequences.now.items in
    let count : c.len.result ≡ length sequences = search rules in
    let tried : c.in-Ok.number ≡ c.len.result = search rules in
    let next : c.in-Some.next ≡ length sequences + 1 = (let added = c.in-Some.ensures in omega (arith, added, count, tried)) in
    subst (λ (v : ℕ). ArePlaced steps (set places c.args.end v) c.push.new.self.items) (sym next)
    (subst (λ (l : List (Vec ℕ Global)). ArePlaced steps (set places c.args.end (length sequences + 1)) l) (sym c.in_ok-push.ensures.items)
    (placed_more steps places sequences c.in_ok-events.events c.args.end c.requires.placed c.requires.known c.in_ok-events.ensures))

pub returns-clause-kept : goal.returns-clause-kept
returns-clause-kept c = λ number place at.
    subst (λ (l : List (Vec ℕ Global)). StandsAt c.args.tree.now.steps.items l number place) (sym c.in_ok-push.ensures.items)
    (stands_more c.args.tree.now.steps.items c.args.sequences.now.items (c.in_ok-events.events ∷ []) number place at)
