use Rattle.std.proofs.Common.{◌≡◌, ◌<◌, ◌≤◌, ◌+◌, ◌∙◌, ℕ, Bool, List, ◌++◌, ⊎_elim, length, drop, append-nil, sym, ap, subst, true≢false, arith}
use Rattle.std.proofs.lemmas.Grind.{common_steps}
use Rattle.std.proofs.lemmas.List.{drop_more, drop_all}
use Rattle.flow_model.specs.Lists.{◌∈◌}
use Rattle.flow_model.proofs.Lists.{mem-append, only_one}
use Rattle.flow_standing.specs.declared.claims.Out.{Out}
use Rattle.flow_reason.specs.InTheWay.{leaves_of, MayCome}
use Rattle.flow_reason.proofs.InTheWayLemmas.{kept_needed, kept_blocked, dropped_needed, there_at, no_out}
use Rattle.flow_reason.proofs.in_the_way.least_in_the_way.Goals.{then-branch+in_ok-push, else-branch}
use Rattle.flow_reason.proofs.in_the_way.least_in_the_way.Goals as goal

pub loop-place-preserved : goal.loop-place-preserved
loop-place-preserved c =
    let outs : List Out = c.args.outs.now in
    let i : ℕ = c.loop-place.place in
    let kept : List Out = c.loop-place.kept.items in
    let event : Bool = c.args.is_event in
    let leaf : ℕ = c.args.leaf in
    let inv = c.loop-place.invariant in
    let below : i < length outs = c.loop-place-test.true in
    let rest_is : c.in_ok-without.without.items ≡ kept ++ drop (i + 1) outs = grind (arith, common_steps, c.in_ok-without.ensures, c.deref.ensures.value) in
    let asked = c.deref-in-loop-place.ensures.value ∙ rest_is in
    elim c.if-branch.branch [
      | then-branch+in_ok-push v ↦ (let new = ap (λ l. l.items) v.kept-is ∙ v.in_ok-push.ensures.items in record {
        among = λ out m. ⊎_elim (λ old. inv.among out old)
            (λ one. subst (λ (o : Out). o ∈ outs) (sym (only_one out _ one)) (there_at outs i _ (drop_more outs i _ below)))
            (mem-append out kept _ (subst (λ (l : List Out). out ∈ l) new m));
        blocked = λ w s f none. kept_blocked event w s leaf outs kept _ i _ (drop_more outs i _ below) new (inv.blocked w s f none);
        least = λ w s f. kept_needed event w s leaf outs kept _ i _ (drop_more outs i _ below) new
            (subst (λ (l : List Out). MayCome event w s leaf (leaves_of l)) asked ((c.in_ok-may_come_with.ensures w s f).0 v.if-branch.true))
            (inv.least w s f);
      })
      | else-branch v ↦ (let same = ap (λ l. l.items) v.kept-is in record {
        among = λ out m. inv.among out (subst (λ (l : List Out). out ∈ l) same m);
        blocked = λ w s f none may. true≢false (sym ((c.in_ok-may_come_with.ensures w s f).1
            (subst (λ (l : List Out). MayCome event w s leaf (leaves_of l)) (ap (λ (l : List Out). l ++ drop (i + 1) outs) same ∙ sym asked) may)) ∙ v.if-branch.false);
        least = λ w s f front back out is.
            dropped_needed event w s leaf outs kept i _ (drop_more outs i no_out below) (inv.least w s f) front back out (sym same ∙ is);
      })
    ]

pub returns-clause-least : goal.returns-clause-least
returns-clause-least c = λ w s f front back out is.
    let outs : List Out = c.args.outs.now in
    let i : ℕ = c.loop-place.place in
    let past : length outs ≤ i = c.loop-place-test.false in
    subst (λ (l : List Out). MayCome c.args.is_event w s c.args.leaf (leaves_of l))
    (ap (λ (l : List Out). (front ++ back) ++ l) (drop_all i outs past) ∙ append-nil (front ++ back)) (c.loop-place.invariant.least w s f front back out is)
