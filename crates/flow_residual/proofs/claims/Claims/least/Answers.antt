use Rattle.std.proofs.Common.{◌≡◌, ◌<◌, Some, length, sym, ap, ◌∙◌, arith, rules, slice_get}
use Rattle.flow_residual.specs.Claimed.{run_of}
use Rattle.flow_residual.specs.Fields.{claimed_by}
use Rattle.flow_residual.specs.Given.{out_places}
use Rattle.flow_residual.proofs.Outstanding.{least_is, next, places_within, each_at}
use Rattle.flow_residual.proofs.claims.Claims.least.Goals as goal

pub overflow_add-result : goal.overflow_add-result
overflow_add-result c =
    let gs = c.self.inside.given.items in
    let places = out_places c.self.inside.epoch 0 gs in
    let at : slice_get places 0 ≡ Some c.in-Some.place.now = ap (λ l. slice_get l 0) (sym (c.deref.ensures.value ∙ c.self.invariant.kept.current_are)) ∙ sym c.in-Some.ensures.value in
    let within : c.in-Some.place.now < length gs = each_at (λ place. place < length gs) places 0 _ (places_within c.self.inside.epoch 0 (length gs) gs (omega arith)) at in
    let few = c.self.invariant.few in
    let room = c.self.invariant.room in
    search rules

pub returns-in-Some : goal.returns-in-Some
returns-in-Some c =
    let least = least_is (run_of (claimed_by c.self.inside)) c.self.inside.given.items c.deref.result.now (c.deref.ensures.value ∙ c.self.invariant.kept.current_are) in
    rw (← c.self.view_is) (sym (least ∙ ap next (sym c.in-Some.ensures.value)))

pub returns-in-None : goal.returns-in-None
returns-in-None c =
    let least = least_is (run_of (claimed_by c.self.inside)) c.self.inside.given.items c.deref.result.now (c.deref.ensures.value ∙ c.self.invariant.kept.current_are) in
    rw (← c.self.view_is) (sym (least ∙ ap next (sym c.in-None.ensures.value)))
