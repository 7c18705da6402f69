use Rattle.std.proofs.Common.{◌≡◌, ◌∙◌, false, get_or, refl, sym, true≢false, inl, inr, arith}
use Rattle.std.proofs.lemmas.Bool.{cases_lt}
use Rattle.std.proofs.lemmas.List.{get_or_past}
use Rattle.flow_excise.proofs.sifted.has_option.Goals as goal

pub returns-then-met-k : goal.returns-then-met-k
returns-then-met-k c = (λ is. (c.loop-k.k, c.loop-k.auto.k, omega arith, c.if-met-k.true), λ some. refl)

pub returns : goal.returns
returns c = (
  λ is. absurd (true≢false (sym is)),
  λ some.
      let not_met : get_or c.args.met.now some.0 false ≡ false = elim (cases_lt some.0 c.loop-k.k) [
        | inl before ↦ c.loop-k.invariant some.0 some.1 before
        | inr past ↦ get_or_past c.args.met.now some.0 false (omega (arith, past, some.1, some.2))
      ] in sym not_met ∙ some.3,
)
