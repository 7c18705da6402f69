use Rattle.std.proofs.Common.{◌-◌, ◌<◌, ℕ, length, refl, sym, subst, arith}
use Rattle.flow_model.specs.Lists.{◌∈◌}
use Rattle.flow_stages.proofs.Loops.{here_in}
use Rattle.flow_stages.proofs.nodes.is_known.Goals as goal

pub returns-then-is_as : goal.returns-then-is_as
returns-then-is_as c = λ w list _ was.
    let nodes = c.args.nodes.now in
    let k : ℕ = length nodes - 1 - c.loop-back.back in
    let within : k < length nodes = omega (arith, c.loop-back-test.true) in
    (c.index-nodes-nodes.result, subst (λ n. n ∈ nodes) (sym c.index-nodes-nodes.is) (here_in nodes k _ within), c.if-is_as.ensures w list refl was)
