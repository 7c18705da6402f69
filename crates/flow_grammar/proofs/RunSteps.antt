-- A run, a symbol at a time.
use Rattle.std.proofs.Common.{◌≡◌, ℕ, suc, ◌+◌, Option, refl, ap, arith}
use Rattle.flow_form.specs.declared.refusal.Wanted.{Wanted}
use Rattle.flow_grammar.specs.Symbol.{Symbol}
use Rattle.flow_grammar.specs.Machine.{Reading, gives, expected, too_deep, later, shifted, run}
use Rattle.flow_grammar.specs.Steps.{GoesByStep}

shifted_zero : {V : Type 0} (r : Reading V) → shifted 0 r ≡ r
shifted_zero (gives v) = refl
shifted_zero (expected kind k) = let e : 0 + k ≡ k = omega arith in ap (expected kind) e
shifted_zero (too_deep k) = let e : 0 + k ≡ k = omega arith in ap too_deep e

shifted_later : {V : Type 0} (i : ℕ) (r : Reading V) → shifted i (later r) ≡ shifted (i + 1) r
shifted_later i (gives v) = refl
shifted_later i (expected kind k) = let e : i + suc k ≡ i + 1 + k = omega arith in ap (expected kind) e
shifted_later i (too_deep k) = let e : i + suc k ≡ i + 1 + k = omega arith in ap too_deep e

pub goes_by_step : {S V : Type 0} (step : S → Symbol → Option S) (finish : S → Option V) (wanted : S → Wanted) (depth : S → ℕ) →
    GoesByStep step finish wanted depth
goes_by_step step finish wanted depth = record {
  at_start = shifted_zero;
  at_step = λ s next t ts i es eb. rw (es, eb) (shifted_later i (run step finish wanted depth next ts));
  where_stuck = λ s t ts i es. let e : i + 0 ≡ i = omega arith in rw (es, e) refl;
  where_deep = λ s next t ts i es eb. let e : i + 0 ≡ i = omega arith in rw (es, eb, e) refl;
  at_value = λ s v i e. rw e refl;
  at_no_value = λ s i e. let e0 : i + 0 ≡ i = omega arith in rw (e, e0) refl;
}
