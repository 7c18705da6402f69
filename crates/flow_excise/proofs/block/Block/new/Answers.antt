use Rattle.std.proofs.Common.{◌≡◌, ◌-◌, ◌*◌, ◌∙◌, min, ap, refl, arith}
use Rattle.flow_model.specs.Folding.{fixed_leaves}
use Rattle.flow_model.specs.Ways.{leaf_of_event}
use Rattle.flow_excise.specs.Options.{count_in, folded}
use Rattle.flow_excise.proofs.block.Block.new.Goals as goal

pub returns-clause-block : goal.returns-clause-block
returns-clause-block c =
    let t = folded c.args.tree.now c.args.choices.now in
    let size : c.size_of-size.result ≡ min 64 (count_in t - 64 * c.args.number) = c.size_of-size.ensures ∙ ap (λ n. min 64 (n - 64 * c.args.number)) c.requires.choices.counted in
    record {
      first = refl;
      size = size;
      few = omega (arith, size);
      within = omega (arith, size, c.requires.numbered);
      leaves = c.in_ok-leaves.ensures.leaves;
      listed = c.in_ok-leaves.ensures.size;
      ways = λ lane q h there.
          c.in_ok-narrowed.ensures lane (leaf_of_event c.args.tree.now.labels (fixed_leaves q)) (omega (arith, h, size)) (c.in_ok-leaves.ensures.shown lane q h there);
    }
