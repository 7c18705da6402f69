use Rattle.std.proofs.Common.{◌∙◌, IfSome, Option, subst, sym}
use Rattle.flow_rules.specs.Conjunction.{normal_in}
use Rattle.flow_excise.specs.declared.block.Block.{Block}
use Rattle.flow_excise.specs.Block.{IsSomeBlock}
use Rattle.flow_excise.specs.Options.{folded}
use Rattle.flow_excise.proofs.sifted.block_of.Goals as goal

pub returns-then-block-number-clause-block : goal.returns-then-block-number-clause-block
returns-then-block-number-clause-block c =
    let made = subst (λ (o : Option Block). IfSome o (IsSomeBlock (folded c.args.tree.now c.args.choices.now) (normal_in c.args.rules.now))) (sym c.take.ensures.value ∙ c.in-Some.is) c.requires.made in
    made c.args.number c.if-block-number.true
