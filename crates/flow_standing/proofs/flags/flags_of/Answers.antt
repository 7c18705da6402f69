use Rattle.std.proofs.Common.{◌≡◌, ℕ, true, length, set, get_or, refl, ap, ◌∙◌, arith}
use Rattle.std.proofs.lemmas.List.{length-set, with_items_is}
use Rattle.flow_standing.proofs.Fronts.{element}
use Rattle.flow_standing.proofs.FlagLemmas.{none_flagged, flag_more, all_flagged}
use Rattle.flow_standing.proofs.flags.flags_of.Goals as goal

pub loop-member-init : goal.loop-member-init
loop-member-init c = none_flagged c.args.members.now c.args.count c.in_ok-flags.flags.items (c.in_ok-flags.ensures.items_if_clones_equal (λ y e. e))

pub loop-member-preserved : goal.loop-member-preserved
loop-member-preserved c =
    let members = c.args.members.now in
    let k = c.loop-member.member-index in
    let flags = c.loop-member.flags in
    let member : ℕ = get_or members k 0 in
    let long : length c.put.new.flags ≡ flags.len = ap length c.put.ensures ∙ length-set c.deref_mut.result.now member true ∙ c.deref_mut.ensures.len in
    flag_more members k member c.args.count flags.items _ (element members members k 0 refl c.loop-member-test.true)
    (with_items_is flags c.put.new.flags long ∙ c.put.ensures ∙ ap (λ l. set l member true) c.deref_mut.ensures.value) c.loop-member.invariant

pub returns : goal.returns
returns c = all_flagged c.args.members.now c.loop-member.member-index c.args.count c.loop-member.flags.items (omega arith) c.loop-member.invariant
