-- A run, a symbol at a time: what a loop that holds a state and a place keeps.
use Rattle.std.specs.Prelude.{◌≡◌, ℕ, ◌+◌, true, false, Option, Some, None, List, [], ◌∷◌}
use Rattle.flow_form.specs.declared.refusal.Wanted.{Wanted}
use Rattle.flow_grammar.specs.Symbol.{Symbol}
use Rattle.flow_grammar.specs.Machine.{Reading, gives, expected, too_deep, is_too_deep, shifted, run}

pub record GoesByStep {S V : Type 0} (step : S → Symbol → Option S) (finish : S → Option V) (wanted : S → Wanted) (depth : S → ℕ) : Type 0 where
  pub at_start : (r : Reading V) → shifted 0 r ≡ r
  pub at_step : (s next : S) (t : Symbol) (ts : List Symbol) (i : ℕ) → step s t ≡ Some next → is_too_deep t (depth s) ≡ false →
      shifted i (run step finish wanted depth s (t ∷ ts)) ≡ shifted (i + 1) (run step finish wanted depth next ts)
  pub where_stuck : (s : S) (t : Symbol) (ts : List Symbol) (i : ℕ) → step s t ≡ None →
      shifted i (run step finish wanted depth s (t ∷ ts)) ≡ expected (wanted s) i
  pub where_deep : (s next : S) (t : Symbol) (ts : List Symbol) (i : ℕ) → step s t ≡ Some next → is_too_deep t (depth s) ≡ true →
      shifted i (run step finish wanted depth s (t ∷ ts)) ≡ too_deep i
  pub at_value : (s : S) (v : V) (i : ℕ) → finish s ≡ Some v → shifted i (run step finish wanted depth s []) ≡ gives v
  pub at_no_value : (s : S) (i : ℕ) → finish s ≡ None → shifted i (run step finish wanted depth s []) ≡ expected (wanted s) i
