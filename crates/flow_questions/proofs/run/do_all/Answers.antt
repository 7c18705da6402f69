use Rattle.std.proofs.Common.{◌≡◌, ◌≤◌, ◌+◌, ◌∷◌, [], true, false, get_or, length, refl, ap, sym, ◌∙◌, arith, true≢false}
use Rattle.flow_model.specs.Facts.{events_of}
use Rattle.flow_core.specs.Run.{schema}
use Rattle.flow_questions.proofs.AllLemmas.{IsRound, all_done, round_made, round_on, so_far_first}
use Rattle.flow_questions.proofs.StaffLemmas.{same_again}
use Rattle.flow_questions.proofs.run.do_all.Goals as goal

pub loop-leaf-init : goal.loop-leaf-init
loop-leaf-init c = record { same = (refl, refl); made = so_far_first c.args.run.now c.args.leaves.now c.args.takers.now }

pub loop-leaf-preserved : goal.loop-leaf-preserved
loop-leaf-preserved c =
    let first = c.args.run.now in
    let old = c.loop-leaf.run in
    let new = c.do_leaf.new.run in
    let leaves = c.args.leaves.now in
    let takers = c.args.takers.now in
    let k = c.loop-leaf.leaf-index in
    let claim = c.loop-leaf.claim in
    let after = c.claim_after-claim.result in
    let round : IsRound first old new leaves takers k 0 claim after true = record {
      well_formed = c.recall.ensures.well_formed;
      small = c.recall.ensures.small;
      same = c.loop-leaf.invariant.same;
      still = c.do_leaf.ensures.same;
      within = c.loop-leaf-test.true;
      so_far = c.loop-leaf.invariant.made;
      makes = c.if-not-do_leaf.ensures.made;
    } in record {
      same = same_again first old new c.loop-leaf.invariant.same c.do_leaf.ensures.same;
      made = λ question event fresh found.
          round_on first old new leaves takers k 0 claim after true round question event fresh found
          (λ small. c.claim_after-claim.ensures small ∙ ap (λ r. claim + length (events_of (schema r).labels (get_or leaves k 0 ∷ []))) c.core.ensures.run);
    }

pub returns-then-not-do_leaf-clause-made : goal.returns-then-not-do_leaf-clause-made
returns-then-not-do_leaf-clause-made c = λ question event fresh found.
    let round : IsRound c.args.run.now c.loop-leaf.run c.do_leaf.new.run c.args.leaves.now c.args.takers.now c.loop-leaf.leaf-index 0 c.loop-leaf.claim 0 false = record {
      well_formed = c.recall.ensures.well_formed;
      small = c.recall.ensures.small;
      same = c.loop-leaf.invariant.same;
      still = c.do_leaf.ensures.same;
      within = c.loop-leaf-test.true;
      so_far = c.loop-leaf.invariant.made;
      makes = c.if-not-do_leaf.ensures.made;
    } in
    absurd (true≢false (sym (round_made c.args.run.now c.loop-leaf.run c.do_leaf.new.run c.args.leaves.now c.args.takers.now c.loop-leaf.leaf-index 0 c.loop-leaf.claim 0 false
    round question event fresh found).0))

pub returns-clause-made : goal.returns-clause-made
returns-clause-made c = λ question event fresh found.
    let past : length c.args.leaves.now ≤ c.loop-leaf.leaf-index = omega (arith, c.loop-leaf-test.false) in
    (refl, all_done c.args.run.now c.loop-leaf.run c.args.leaves.now c.args.takers.now c.loop-leaf.leaf-index c.loop-leaf.claim c.loop-leaf.invariant.made past question event fresh found)
