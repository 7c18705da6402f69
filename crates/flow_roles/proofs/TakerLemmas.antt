-- What is told of who has an event, as a test.
use Rattle.std.proofs.Common.{◌↔◌, ◌∙◌, ℕ, false, not, nat_eq, IsTrue, refl, sym, subst, true≢false}
use Rattle.std.proofs.lemmas.Bool.{eqb-true, eq-eqb, ne_eqb}
use Rattle.flow_core.specs.Holding.{NoneHas, IsTheTaker}
use Rattle.flow_roles.specs.Desked.{Desked}
use Rattle.flow_roles.specs.Having.{HasEvent, IsWithAnother}

module _ (d : Desked) (event by : ℕ) where
  pub none_has : NoneHas d.run event → IsTrue false ↔ HasEvent d event by
  none_has none = ((λ is. absurd (true≢false (sym is))), λ (n, at, taken). absurd (none n by at taken))

  pub taker_has : (taker : ℕ) → IsTheTaker d.run event taker → IsTrue (nat_eq taker by) ↔ HasEvent d event by
  taker_has taker is = (
    (λ same. subst (λ (user : ℕ). HasEvent d event user) (eqb-true taker by same) is.0),
    (λ (n, at, taken). eq-eqb taker by (sym (is.1 n by at taken))),
  )

  pub none_with_another : NoneHas d.run event → IsTrue false ↔ IsWithAnother d event by
  none_with_another none = ((λ is. absurd (true≢false (sym is))), λ (other, (n, at, taken), unlike). absurd (none n other at taken))

  pub taker_is_another : (taker : ℕ) → IsTheTaker d.run event taker → IsTrue (not (nat_eq taker by)) ↔ IsWithAnother d event by
  taker_is_another taker is = (
    (λ unlike. (taker, is.0, λ same. true≢false (sym unlike ∙ rw (eq-eqb taker by same) refl))),
    (λ (other, (n, at, taken), unlike). rw (ne_eqb taker by (λ same. unlike (is.1 n other at taken ∙ same))) refl),
  )
