use Rattle.std.proofs.Common.{◌≤◌, ℕ, length, true≢false, refl, sym, arith}
use Rattle.flow_list.specs.Filter.{IsUserOf}
use Rattle.flow_list.proofs.PlaceLemmas.{none_of_more, none_of_all, some_at}
use Rattle.flow_list.proofs.filter.is_one_named.Goals as goal

pub returns-then-is_named : goal.returns-then-is_named
returns-then-is_named c = (
  (λ t. some_at (λ (n : ℕ). IsUserOf c.args.texts.now.users n c.args.user.now) c.args.numbers.now c.loop-number.number-index _ _ c.loop-number-test.true refl (c.if-is_named.ensures.0 refl)),
  (λ some. refl),
)

pub loop-number-preserved : goal.loop-number-preserved
loop-number-preserved c =
    none_of_more (λ (n : ℕ). IsUserOf c.args.texts.now.users n c.args.user.now) c.args.numbers.now c.loop-number.number-index _ _ c.loop-number-test.true refl c.loop-number.invariant (λ is. true≢false (sym (c.if-is_named.ensures.1 is)))

pub returns : goal.returns
returns c =
    let past : length c.args.numbers.now ≤ c.loop-number.number-index = omega arith in (
      (λ t. absurd (true≢false (sym t))),
      (λ some. absurd (none_of_all (λ (n : ℕ). IsUserOf c.args.texts.now.users n c.args.user.now) c.args.numbers.now c.loop-number.number-index past c.loop-number.invariant some)),
    )
