use Rattle.std.proofs.Common.{◌≡◌, ◌≤◌, ℕ, slice_get, Some, refl, length, arith, sym, subst, ◌∙◌, true≢false}
use Rattle.std.proofs.lemmas.Option.{same_Some, slice_get_within, slice_get-get_or}
use borrow.Author.Count.{below_more}
use Rattle.flow_expand.specs.Lay.{IsLaidAt}
use Rattle.flow_expand.proofs.settlement.first_unlaid.Goals as goal

pub returns-clause-next : goal.returns-clause-next
returns-clause-next c = λ j there laid. absurd (omega (arith, slice_get_within c.args.calls.now (length c.args.calls.now) j there))

pub returns-then-not-is_laid-clause-next : goal.returns-then-not-is_laid-clause-next
returns-then-not-is_laid-clause-next c = λ j there laid.
    true≢false (sym (c.if-not-is_laid.ensures.1 (subst (IsLaidAt c.args.laid.now) (same_Some j _ (sym there ∙ slice_get-get_or c.args.calls.now c.loop-place.place 0 c.loop-place-test.true)) laid)))

pub loop-place-preserved : goal.loop-place-preserved
loop-place-preserved c = λ i j from below there.
    below_more (λ i. (j : ℕ) → c.args.start ≤ i → slice_get c.args.calls.now i ≡ Some j → IsLaidAt c.args.laid.now j) c.loop-place.place
    (λ i lt j from there. c.loop-place.invariant i j from lt there)
    (λ j from there. subst (IsLaidAt c.args.laid.now) (same_Some _ j (sym (slice_get-get_or c.args.calls.now c.loop-place.place 0 c.loop-place-test.true) ∙ there)) (c.if-not-is_laid.ensures.0 refl))
    i below j from there
