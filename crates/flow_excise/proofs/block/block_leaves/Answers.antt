use Rattle.std.proofs.Common.{◌≡◌, ◌∙◌, ◌+◌, [], ◌∷◌, ap, arith, length, length-append, subst, sym}
use Rattle.std.proofs.lemmas.Option.{slice_get_within}
use Rattle.flow_excise.specs.Block.{AreLeafCounts, HasLeafCount}
use Rattle.flow_excise.specs.Options.{folded}
use Rattle.flow_excise.proofs.BlockLemmas.{blank_more, counts_more, shown_more}
use Rattle.flow_excise.proofs.block.block_leaves.Goals as goal

pub held-requires : goal.held-requires
held-requires c =
    let t = folded c.args.tree.now c.args.choices.now in
    record { numbered = (t.apart, c.requires.choices.prepared, record { below = omega (arith, c.requires.within, c.loop-lane-test.true); exact = omega (arith, c.requires.choices.few) }) }

pub note-requires-clause-blank : goal.note-requires-clause-blank
note-requires-clause-blank c = λ event. c.loop-lane.invariant.blank c.loop-lane.lane event (omega arith)

pub loop-lane-init : goal.loop-lane-init
loop-lane-init c = record {
  leaves = λ lane count read. absurd (omega (arith, slice_get_within c.new-leaves.result.items lane count read, ap length c.new-leaves.ensures.items));
  size = ap length c.new-leaves.ensures.items;
  shown = λ lane q h. absurd (omega arith);
  blank = λ other event h. c.clear.ensures other event;
}

pub loop-lane-preserved : goal.loop-lane-preserved
loop-lane-preserved c =
    let t = folded c.args.tree.now c.args.choices.now in
    let (q, there, long, fixed) = c.in_ok-held.ensures t.apart c.requires.choices.prepared in
    let lane = c.loop-lane.lane in
    let old = c.loop-lane.leaves.items in
    let count = c.in_ok-held.held.leaves in
    let size = c.loop-lane.invariant.size in
    record {
      leaves = subst (AreLeafCounts t c.args.first) (sym c.in_ok-push.ensures.items)
          (counts_more t c.args.first old count (subst (λ k. HasLeafCount t (c.args.first + k) count) (sym size) (q, there, long)) c.loop-lane.invariant.leaves);
      size = omega (arith, ap length c.in_ok-push.ensures.items, length-append old (count ∷ []), size);
      shown = shown_more t c.args.first lane q c.deref.result.now c.loop-lane.lanes c.note.new.self there (c.deref.ensures.value ∙ fixed)
          c.in_ok-note.ensures.shown c.note.ensures.others c.loop-lane.invariant.shown;
      blank = blank_more lane c.loop-lane.lanes c.note.new.self c.note.ensures.others c.loop-lane.invariant.blank;
    }

pub returns-clause-size : goal.returns-clause-size
returns-clause-size c = omega (arith, c.loop-lane.invariant.size)

pub returns-clause-shown : goal.returns-clause-shown
returns-clause-shown c =
    let e : c.loop-lane.lane ≡ c.args.size = omega arith in
    λ lane q h there. c.loop-lane.invariant.shown lane q (omega (arith, e, h)) there
