use Rattle.std.proofs.Common.{[], ◌∷◌, inl, inr, ⊎_elim, subst, sym, ◌∙◌}
use Rattle.std.proofs.lemmas.Bool.{or_cases, or_left, or_right}
use Rattle.leaf_rows.specs.Leaves.{has_leaf}
use Rattle.flow_model.specs.Ready.{DoneOr}
use Rattle.flow_plan.specs.Orders.{IsSettledWith}
use Rattle.flow_plan.specs.Sided.{IsDoneIn}
use Rattle.flow_plan.proofs.StepRows.{each_of_orders, stands_in_choice}
use Rattle.flow_plan.proofs.plan.Plan.add_settling.Goals as goal

pub returns-in-Some : goal.returns-in-Some
returns-in-Some c n among = (
  λ has. ⊎_elim (λ found. inl found)
      (λ mine. let (member, (candidate, all)) = (c.followed_by-followed.ensures n).0 mine in
      let (_, rest) = (c.common-candidates.ensures n).0 candidate in inr (c.requires.rest n rest, all))
      (or_cases (has_leaf c.args.found.now n) (has_leaf c.followed_by-followed.result n) (sym (c.union_with.ensures n) ∙ has)),
  λ either. c.union_with.ensures n ∙ ⊎_elim (λ old. or_left (has_leaf c.args.found.now n) (has_leaf c.followed_by-followed.result n) old)
      (λ new. or_right (has_leaf c.args.found.now n) (has_leaf c.followed_by-followed.result n) new) (⊎_elim (λ found. inl found)
      (λ both. ⊎_elim
      (λ rest.
      let after = each_of_orders c.args.self.now (DoneOr (IsDoneIn c.args.sides.now) (n ∷ [])) c.args.list.now c.args.leaf both.1 c.requires.claimed in
      let told : IsSettledWith c.args.self.now n c.first_missing.result = c.first_missing.ensures.settled n c.requires.waits both.0 after in
      let settled = subst (IsSettledWith c.args.self.now n) c.in-Some.is told in
      let stands = (c.with_choices.ensures n).1 (stands_in_choice c.args.self.now.process c.args.folds.now c.requires.folds c.in-Some.first n settled) in
      inr ((c.followed_by-followed.ensures n).1 (both.0.leaf, ((c.common-candidates.ensures n).1 (stands, rest), both.1))))
      (λ found. inl found) (among both))
      either),
)

pub returns-in-None : goal.returns-in-None
returns-in-None c n among = (
  λ found. inl found,
  λ either. ⊎_elim (λ found. found)
      (λ both.
      let after = each_of_orders c.args.self.now (DoneOr (IsDoneIn c.args.sides.now) (n ∷ [])) c.args.list.now c.args.leaf both.1 c.requires.claimed in
      let told : IsSettledWith c.args.self.now n c.first_missing.result = c.first_missing.ensures.settled n c.requires.waits both.0 after in
      absurd (subst (IsSettledWith c.args.self.now n) c.in-None.is told))
      either,
)

pub returns-then-is_empty : goal.returns-then-is_empty
returns-then-is_empty c n among = (
  λ found. inl found,
  λ either. ⊎_elim (λ found. found)
      (λ both. ⊎_elim (λ rest. absurd (c.is_empty.ensures.0 c.if-is_empty.true n rest)) (λ found. found) (among both))
      either,
)
