use Rattle.std.proofs.Common.{ℕ, subst, inr}
use Rattle.flow_model.specs.Lists.{Each}
use Rattle.flow_model.specs.Resolution.{ChoiceOption}
use Rattle.flow_model.proofs.Lists.{each_from_members}
use Rattle.flow_residual.specs.declared.question.Stand.{Stand}
use Rattle.flow_residual.specs.Question.{CanBegin, Takes}
use Rattle.flow_residual.specs.Remaining.{Remaining}
use Rattle.flow_residual.specs.View.{remaining}
use Rattle.flow_residual.proofs.FewLemmas.{none_taken}
use Rattle.flow_residual.proofs.QuestionLemmas.{not_barred}
use Rattle.flow_residual.proofs.TellingLemmas.{free_begins, barred_keeps}
use Rattle.flow_residual.proofs.residual.Residual.beginning.Goals as goal

pub returns-in_default-clause-none : goal.returns-in_default-clause-none
returns-in_default-clause-none c =
    let i = c.self.inside in
    subst (λ (r : Remaining). (o : ChoiceOption) (stand : Stand) (leaf : ℕ) → ¬ (Takes r c.args.claims.now stand leaf o)) c.self.view_is
    (none_taken (remaining i.plans.items i.journal.items i.bans.items) c.self.invariant.kept.fits c.args.claims.now c.in_default.ensures.none)

pub returns-then-meets-clause-none : goal.returns-then-meets-clause-none
returns-then-meets-clause-none c =
    let i = c.self.inside in
    let r = remaining i.plans.items i.journal.items i.bans.items in
    let (n, bars, there) = c.meets.ensures.0 c.if-meets.true in
    subst (λ (r : Remaining). (o : ChoiceOption) (stand : Stand) (leaf : ℕ) → ¬ (Takes r c.args.claims.now stand leaf o)) c.self.view_is
    (λ o stand leaf takes. not_barred r c.args.claims.now stand leaf n o (inr ((c.in-Some.ensures.some.1 n).0 there)) takes
    (barred_keeps r i.sides c.self.invariant.sides c.self.invariant.kept.ordered n bars))

pub returns-clause-some : goal.returns-clause-some
returns-clause-some c =
    let i = c.self.inside in
    let r = remaining i.plans.items i.journal.items i.bans.items in
    let set = c.in-Some.ensures.some in (
      set.0,
      set.1,
      subst (λ (r : Remaining). Each (CanBegin r) c.args.claims.now) c.self.view_is
          (each_from_members (CanBegin r) c.args.claims.now (λ n m. free_begins r i.sides c.self.invariant.sides c.self.invariant.kept.ordered n
          (λ bars. let meets = c.meets.ensures.1 (n, bars, (set.1 n).1 m) in cc))),
    )
