use Rattle.std.proofs.Common.{◌∙◌, ℕ, Bool, List, ◌++◌, sym, subst, true≢false}
use Rattle.flow_model.specs.Lists.{◌∈◌}
use Rattle.flow_model.proofs.Lists.{each_member}
use Rattle.flow_model.proofs.MadeLists.{mem-map}
use Rattle.flow_core.specs.Run.{schema, now}
use Rattle.flow_standing.specs.declared.claims.Out.{Out}
use Rattle.flow_standing.specs.Out.{number_of_out, IsGiven}
use Rattle.flow_reason.specs.InTheWay.{unbanned, leaves_of, MayCome}
use Rattle.flow_reason.proofs.leaf.why_claims.Goals as goal

pub returns : goal.returns
returns c =
    let r = c.args.core.now in
    let leaf : ℕ = c.args.leaf in
    let w = schema r in
    let s = unbanned (now r) in
    let event : Bool = c.is_event-event.result in
    let outs : List Out = c.in_ok-outs.outs.items in
    let claims : List Out = c.in_ok-claims.claims.items in
    let is = c.is_event-event.ensures in
    let all = c.in_ok-outs.ensures in (
      c.requires.kept,
      record {
        are_out = λ out m.
            let there : out ∈ outs = subst (λ (l : List Out). out ∈ l) c.deref-2.ensures.value (c.in_ok-claims.ensures.among out m) in
            ((all.claims.exact out.call.claim).0 (mem-map number_of_out out outs there), each_member (IsGiven w r.history) outs all.each out there);
        blocked = λ could. c.in_ok-claims.ensures.blocked w s c.requires.remains
            (λ may. true≢false (sym ((c.in_ok-may_come_with.ensures w s c.requires.remains).1
            (subst (λ (l : List Out). MayCome event w s leaf (leaves_of l)) (c.deref-2.ensures.value ∙ sym c.deref.ensures.value) may)) ∙ c.if-branch.false))
            (subst (λ (e : Bool). MayCome e w s leaf (leaves_of claims)) (sym is) could);
        least = λ front back out e.
            subst (λ (b : Bool). MayCome b w s leaf (leaves_of (front ++ back))) is (c.in_ok-claims.ensures.least w s c.requires.remains front back out e);
      },
    )
