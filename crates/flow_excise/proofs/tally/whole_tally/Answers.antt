use Rattle.std.proofs.Common.{◌≡◌, ◌∙◌, ◌<◌, ◌*◌, ◌+◌, ◌/◌, ap, arith, map, subst, sym}
use Rattle.std.specs.List.{flat_map}
use Rattle.flow_rules.specs.Conjunction.{normal_in}
use Rattle.flow_excise.specs.Options.{count_in, folded, has_ways, options_by}
use Rattle.flow_excise.specs.Tally.{IsCountedTo, tally_of}
use Rattle.flow_excise.proofs.BlockLemmas.{block_end, last_block, more_blocks, some_block}
use Rattle.flow_excise.proofs.TallyLemmas.{counted_same}
use Rattle.flow_excise.proofs.tally.whole_tally.Goals as goal

pub new-requires-in-loop-number-clause-numbered : goal.new-requires-in-loop-number-clause-numbered
new-requires-in-loop-number-clause-numbered c =
    more_blocks (count_in (folded c.args.tree.now c.args.choices.now)) c.loop-number.number c.blocks-number-end.result (c.blocks-number-end.ensures ∙ ap (λ n. (n + 63) / 64) c.requires.choices.counted) c.loop-number-test.true

pub loop-number-preserved : goal.loop-number-preserved
loop-number-preserved c =
    let tree = folded c.args.tree.now c.args.choices.now in
    let normal = normal_in c.args.rules.now in
    let number = c.loop-number.number in
    let block = c.in_ok-block.block in
    let more : 64 * number < count_in tree = more_blocks (count_in tree) number c.blocks-number-end.result (c.blocks-number-end.ensures ∙ ap (λ n. (n + 63) / 64) c.requires.choices.counted) c.loop-number-test.true in
    let so_far = subst (λ k. IsCountedTo tree normal k c.loop-number.counted) (sym c.in_ok-block.ensures.block.first) c.loop-number.invariant.counted in
    record {
      counted = counted_same tree normal (block.first + block.size) (64 * (number + 1)) c.tally_block.new.counted (block_end tree normal number block c.in_ok-block.ensures.block more)
          (c.in_ok-tally_block.ensures tree normal c.in_ok-block.ensures.block.leaves c.in_ok-block.ensures.shown c.in_ok-block.ensures.block.ways so_far);
      last = some_block tree normal number block c.in_ok-block.ensures.block;
    }

pub returns-clause-tally : goal.returns-clause-tally
returns-clause-tally c =
    let end : c.loop-number.number ≡ c.blocks-number-end.result = omega arith in
    c.loop-number.invariant.counted.tally
    ∙ ap (λ l. tally_of (flat_map (options_by (folded c.args.tree.now c.args.choices.now) (normal_in c.args.rules.now)) l))
    (last_block (folded c.args.tree.now c.args.choices.now) c.loop-number.number c.blocks-number-end.result (c.blocks-number-end.ensures ∙ ap (λ n. (n + 63) / 64) c.requires.choices.counted) end)

pub returns-clause-met : goal.returns-clause-met
returns-clause-met c =
    let end : c.loop-number.number ≡ c.blocks-number-end.result = omega arith in
    c.loop-number.invariant.counted.met
    ∙ ap (λ l. map (has_ways (folded c.args.tree.now c.args.choices.now) (normal_in c.args.rules.now)) l)
    (last_block (folded c.args.tree.now c.args.choices.now) c.loop-number.number c.blocks-number-end.result (c.blocks-number-end.ensures ∙ ap (λ n. (n + 63) / 64) c.requires.choices.counted) end)
