use Rattle.std.proofs.Common.{◌≡◌, ◌∙◌, ◌<◌, ◌+◌, ◌*◌, ◌/◌, ap, Bool, true, false, true≢false, get_or, refl, subst, sym, arith, map, IfSome, Option}
use Rattle.flow_laws.proofs.FoldingLemmas.{length-folded}
use Rattle.flow_rules.specs.Conjunction.{normal_in}
use Rattle.flow_rules.specs.EventLeaves.{IsBlank}
use Rattle.flow_rules.specs.declared.leaf_table.LeafEvents.{LeafEvents}
use Rattle.flow_excise.specs.declared.block.Block.{Block}
use Rattle.flow_excise.specs.declared.sieve.Sieve.{Sieve}
use Rattle.flow_excise.specs.Block.{IsSomeBlock}
use Rattle.flow_excise.specs.Executions.{numbered_options}
use Rattle.flow_excise.specs.Options.{count_in, folded, options_by}
use Rattle.flow_excise.specs.Sieve.{HasSifted, HasSiftedTo}
use Rattle.flow_excise.proofs.BlockLemmas.{block_end, last_block, more_blocks, options_found}
use Rattle.flow_excise.proofs.SieveLemmas.{met_length, none_sifted, plannable_ways}
use Rattle.flow_excise.proofs.sifted.sift_all.Goals as goal
use Rattle.flow_excise.proofs.sifted.sift_all.Goals.{then-has_option+in_ok-block+in_ok-sift_block, else-has_option}

pub block_of-requires-clause-numbered : goal.block_of-requires-clause-numbered
block_of-requires-clause-numbered c =
    more_blocks (count_in (folded c.args.tree.now c.args.choices.now)) c.loop-number.number c.blocks-number-end.result (c.blocks-number-end.ensures ∙ ap (λ n. (n + 63) / 64) c.requires.choices.counted) c.loop-number-test.true

pub sift_block-requires-clause-long : goal.sift_block-requires-clause-long
sift_block-requires-clause-long c =
    met_length (folded c.args.tree.now c.args.choices.now) (normal_in c.args.rules.now) c.args.met.now c.requires.met ∙ length-folded (folded c.args.tree.now c.args.choices.now).apart c.args.tree.now.process

pub sift_block-requires-clause-plannable : goal.sift_block-requires-clause-plannable
sift_block-requires-clause-plannable c = λ lane q h there.
    let tree = folded c.args.tree.now c.args.choices.now in
    let normal = normal_in c.args.rules.now in
    let block = c.in_ok-block.block in
    plannable_ways tree normal (block.first + lane) q _ (options_found tree normal block lane q c.in_ok-block.ensures.block.ways h there) there c.requires.plannable

unmet_at : (b : Bool) → b ≡ false → (met : Bool) → (met ≡ true → b ≡ true) → met ≡ false
unmet_at b none true some = absurd (true≢false (sym (some refl) ∙ none))
unmet_at b none false some = refl

pub has_option-requires : goal.has_option-requires
has_option-requires c =
    let tree = folded c.args.tree.now c.args.choices.now in
    let more = more_blocks (count_in tree) c.loop-number.number c.blocks-number-end.result (c.blocks-number-end.ensures ∙ ap (λ n. (n + 63) / 64) c.requires.choices.counted) c.loop-number-test.true in
    omega (arith, more, met_length tree (normal_in c.args.rules.now) c.args.met.now c.requires.met, length-folded tree.apart tree.tree.process)

pub loop-number-preserved : goal.loop-number-preserved
loop-number-preserved c =
    let tree = folded c.args.tree.now c.args.choices.now in
    let normal = normal_in c.args.rules.now in
    let number = c.loop-number.number in
    let more : 64 * number < count_in tree = more_blocks (count_in tree) number c.blocks-number-end.result (c.blocks-number-end.ensures ∙ ap (λ n. (n + 63) / 64) c.requires.choices.counted) c.loop-number-test.true in
    elim c.if-has_option.branch [
      | then-has_option+in_ok-block+in_ok-sift_block w ↦
          let block = w.in_ok-block.block in
          record {
            blank = subst (λ (e : LeafEvents). IsBlank e) (sym w.events-is) w.in_ok-sift_block.ensures.blank;
            made = subst (λ (o : Option Block). IfSome o (IsSomeBlock tree normal)) (sym (w.made-is ∙ w.block_of.ensures.made)) tt;
            sifted = subst (λ (s : Sieve). HasSiftedTo tree normal (64 * (number + 1)) s) (sym w.sieve-is)
                (subst (λ qs. HasSifted (numbered_options 0 (map (options_by tree normal) qs)) w.sift_block.new.sieve) (block_end tree normal number block w.in_ok-block.ensures.block more)
                (w.in_ok-sift_block.ensures.sifted normal w.in_ok-block.ensures.block.ways c.requires.met
                (subst (λ k. HasSiftedTo tree normal k c.loop-number.sieve) (sym w.in_ok-block.ensures.block.first) c.loop-number.invariant.sifted)));
          }
      | else-has_option w ↦
          let next : 64 * number + 64 ≡ 64 * (number + 1) = omega arith in
          record {
            blank = subst (λ (e : LeafEvents). IsBlank e) (sym w.events-is) c.loop-number.invariant.blank;
            made = subst (λ (o : Option Block). IfSome o (IsSomeBlock tree normal)) (sym w.made-is) c.loop-number.invariant.made;
            sifted = subst (λ (s : Sieve). HasSiftedTo tree normal (64 * (number + 1)) s) (sym w.sieve-is)
                (subst (λ k. HasSiftedTo tree normal k c.loop-number.sieve) next
                (none_sifted tree normal c.args.met.now c.requires.met (64 * number) c.loop-number.sieve 64
                (λ k low high. unmet_at c.has_option.result w.if-has_option.false (get_or c.args.met.now k false) (λ met. c.has_option.ensures.1 (k, low, high, met))) c.loop-number.invariant.sifted));
          }
    ]

pub returns : goal.returns
returns c =
    let tree = folded c.args.tree.now c.args.choices.now in
    let normal = normal_in c.args.rules.now in
    let end : c.loop-number.number ≡ c.blocks-number-end.result = omega arith in
    subst (λ qs. HasSifted (numbered_options 0 (map (options_by tree normal) qs)) c.loop-number.sieve)
    (last_block tree c.loop-number.number c.blocks-number-end.result (c.blocks-number-end.ensures ∙ ap (λ n. (n + 63) / 64) c.requires.choices.counted) end) c.loop-number.invariant.sifted
