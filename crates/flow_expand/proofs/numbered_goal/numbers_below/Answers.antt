use Rattle.std.proofs.Common.{◌≡◌, ◌∷◌, [], ◌++◌, ◌+◌, suc, sym, ap, ◌∙◌, arith}
use Rattle.flow_model.specs.Lists.{numbers_from}
use Rattle.flow_model.proofs.MadeLists.{numbers_from_more}
use Rattle.flow_expand.proofs.numbered_goal.numbers_below.Goals as goal

pub loop-number-preserved : goal.loop-number-preserved
loop-number-preserved c =
    let n = c.loop-number.number in
    let same : n ≡ 0 + n = omega arith in
    let next : suc n ≡ n + 1 = omega arith in
    c.in_ok-push.ensures.items ∙ ap (λ l. l ++ n ∷ []) c.loop-number.invariant ∙ (λ i. numbers_from 0 n ++ same i ∷ []) ∙ sym (numbers_from_more 0 n) ∙ ap (numbers_from 0) next
