use Rattle.std.proofs.Common.{◌≡◌, ◌<◌, ◌≤◌, ◌+◌, ℕ, Option, length, sym, ap, subst, arith}
use Rattle.std.specs.Prelude.{MatchOption}
use Rattle.std.proofs.lemmas.List.{get_or_default}
use Rattle.flow_model.specs.declared.history.Entry.{Entry}
use Rattle.flow_model.specs.Schema.{Schema}
use Rattle.flow_reason.specs.DoneBy.{HasGrown, journal_at}
use Rattle.flow_reason.proofs.JournalLengths.{none, long_more, still, grown_now}
use Rattle.flow_reason.proofs.done_by.grown_past.Goals.{then-long-place, else-long-place+then-before-place, else-long-place+else-before-place}
use Rattle.flow_reason.proofs.done_by.grown_past.Goals as goal

pub loop-index-preserved : goal.loop-index-preserved
loop-index-preserved c =
    let h = c.args.history.now in
    let i : ℕ = c.loop-index.index in
    let place : ℕ = c.args.place in
    let below : i < length h = c.loop-index-test.true in
    let inv = c.loop-index.invariant in
    let next : ℕ = c.length_after-long.result in
    let longer : (w : Schema) → length (journal_at w h (i + 1)) ≡ next =
    λ w. long_more w h i below c.loop-index.long next _ (c.length_after-long.ensures.after w) (ap (λ (e : Entry). e.step) (get_or_default h i _ none below))
    (inv.long_is w) in
    record {
      few = let f = inv.few in let m = c.length_after-long.ensures.most in omega arith;
      long_is = longer;
      found = λ w.
          let n = longer w in
          let b = inv.long_is w in
          elim c.if-long-place.branch [
            | then-long-place v ↦ (let s = v.if-long-place.true in
                subst (λ (g : Option ℕ). MatchOption g (length (journal_at w h (i + 1)) ≤ place) (HasGrown w h place (i + 1))) (sym v.grown-is) (omega arith))
            | else-long-place+then-before-place v ↦ (let s = v.if-long-place.false in let t = v.if-before-place.true in
                subst (λ (g : Option ℕ). MatchOption g (length (journal_at w h (i + 1)) ≤ place) (HasGrown w h place (i + 1))) (sym v.grown-is)
                (grown_now w h place i below (omega arith) (omega arith)))
            | else-long-place+else-before-place v ↦ (let s = v.if-long-place.false in let t = v.if-before-place.false in
                subst (λ (g : Option ℕ). MatchOption g (length (journal_at w h (i + 1)) ≤ place) (HasGrown w h place (i + 1))) (sym v.grown-is)
                (still w h place i below c.loop-index.grown (inv.found w) (omega arith) (omega arith)))
          ];
    }
