use Rattle.std.proofs.Common.{ℕ, refl, get_or}
use Rattle.flow_plan.specs.declared.token.OrderToken.{OrderToken}
use Rattle.flow_weave.proofs.WovenLemmas.{pairs_with, numbers_with}
use Rattle.flow_weave.proofs.weaving.tokens_of.Goals as goal

pub loop-number-preserved : goal.loop-number-preserved
loop-number-preserved c =
    let i : ℕ = c.loop-number.number in
    let pair : ℕ × ℕ = get_or c.args.pairs.now i (0, 0) in
    let token : OrderToken = record { number = i; sender = pair.0; receiver = pair.1 } in
    record {
      pairs = pairs_with c.args.pairs.now i c.loop-number.tokens.items c.push.new.self.items token c.loop-number-test.true refl c.in_ok-push.ensures.items c.loop-number.invariant.pairs;
      numbers = numbers_with i c.loop-number.tokens.items c.push.new.self.items token refl c.in_ok-push.ensures.items c.loop-number.invariant.numbers;
    }
