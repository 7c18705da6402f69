use Rattle.std.proofs.Common.{◌≡◌, ◌<◌, ◌+◌, false, sym, subst, arith, length}
use Rattle.flow_laws.proofs.FoldingLemmas.{length-folded}
use Rattle.flow_rules.specs.declared.leaf_table.LeafEvents.{LeafEvents}
use Rattle.flow_rules.specs.EventLeaves.{IsBlank}
use Rattle.flow_excise.specs.declared.sieve.Sieve.{Sieve}
use Rattle.flow_excise.specs.Executions.{numbered_ways}
use Rattle.flow_excise.specs.Options.{folded, resolutions_in}
use Rattle.flow_excise.specs.Sieve.{HasSiftedTo, Sifts}
use Rattle.flow_excise.proofs.BlockLemmas.{options_found}
use Rattle.flow_excise.proofs.SieveLemmas.{met_at, none_found, sift_more, sift_none}
use Rattle.flow_excise.proofs.sifted.sift_block.Goals as goal
use Rattle.flow_excise.proofs.sifted.sift_block.Goals.{then-has_options+in_ok-sift_resolution, else-has_options}

pub sift_resolution-requires-clause-plannable : goal.sift_resolution-requires-clause-plannable
sift_resolution-requires-clause-plannable c = λ q there. c.requires.plannable c.loop-lane.lane q c.loop-lane-test.true there

pub loop-lane-init : goal.loop-lane-init
loop-lane-init c = record {
  blank = c.requires.blank;
  sifted = λ normal ways listed so_far.
      let e : c.args.block.now.first ≡ c.args.block.now.first + 0 = omega arith in
      subst (λ k. HasSiftedTo (folded c.args.tree.now c.args.choices.now) normal k c.args.sieve.now) e so_far;
}

pub loop-lane-preserved : goal.loop-lane-preserved
loop-lane-preserved c =
    let tree = folded c.args.tree.now c.args.choices.now in
    let block = c.args.block.now in
    let lane = c.loop-lane.lane in
    let number = block.first + lane in
    let long = length-folded tree.apart tree.tree.process in
    let below : number < length (resolutions_in tree) = omega (arith, long, c.requires.within, c.loop-lane-test.true) in
    let next : number + 1 ≡ block.first + (lane + 1) = omega arith in
    elim c.if-has_options.branch [
      | then-has_options+in_ok-sift_resolution w ↦ record {
        blank = subst (λ (e : LeafEvents). IsBlank e) (sym w.events-is) w.in_ok-sift_resolution.ensures.blank;
        sifted = λ normal ways listed so_far.
            subst (λ (s : Sieve). HasSiftedTo tree normal (block.first + (lane + 1)) s) (sym w.sieve-is)
            (subst (λ k. HasSiftedTo tree normal k w.sift_resolution.new.sieve) next
            (sift_more tree normal number c.loop-lane.sieve w.sift_resolution.new.sieve below
            (λ q there. subst (λ os. Sifts (numbered_ways number 0 os) c.loop-lane.sieve w.sift_resolution.new.sieve)
            (options_found tree normal block lane q ways c.loop-lane-test.true there) (w.in_ok-sift_resolution.ensures.options q there))
            (c.loop-lane.invariant.sifted normal ways listed so_far)));
      }
      | else-has_options w ↦ record {
        blank = subst (λ (e : LeafEvents). IsBlank e) (sym w.events-is) c.loop-lane.invariant.blank;
        sifted = λ normal ways listed so_far.
            subst (λ (s : Sieve). HasSiftedTo tree normal (block.first + (lane + 1)) s) (sym w.sieve-is)
            (subst (λ k. HasSiftedTo tree normal k c.loop-lane.sieve) next
            (sift_more tree normal number c.loop-lane.sieve c.loop-lane.sieve below
            (λ q there. sift_none tree normal number q c.loop-lane.sieve
            (none_found tree normal q (met_at tree normal c.args.met.now listed number false w.if-has_options.false q there)))
            (c.loop-lane.invariant.sifted normal ways listed so_far)));
      }
    ]

pub returns-clause-sifted : goal.returns-clause-sifted
returns-clause-sifted c =
    let e : c.loop-lane.lane ≡ c.args.block.now.size = omega arith in
    λ normal ways listed so_far.
    subst (λ k. HasSiftedTo (folded c.args.tree.now c.args.choices.now) normal (c.args.block.now.first + k) c.loop-lane.sieve) e (c.loop-lane.invariant.sifted normal ways listed so_far)
