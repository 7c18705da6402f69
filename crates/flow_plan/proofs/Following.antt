-- What may follow the done leaves, one by one and two by two.
use Rattle.std.proofs.Common.{◌≡◌, ℕ, Bool, true, false, ◌↔◌, IsTrue, List, refl, subst}
use Rattle.leaf_rows.specs.Leaves.{has_leaf}
use Rattle.flow_model.specs.Lists.{◌∈◌, Each}
use Rattle.flow_model.specs.FoldedReady.{IsFinished, IsFoldedRun, IsCompleteFoldedRun}
use Rattle.flow_laws.specs.WellFormed.{EachTwo}
use Rattle.flow_laws.proofs.RunsByStep.{run_as}
use Rattle.flow_fold_laws.proofs.FoldedOrdersByTwo.{folded_by_step, folded_pairs_suffice}
use Rattle.flow_fold_laws.proofs.FoldedSettled.{finished_more}
use Rattle.flow_plan.specs.declared.sides.Sides.{Sides}
use Rattle.flow_plan.specs.Planned.{Planned, pairs_of}
use Rattle.flow_plan.specs.Orders.{MayComeNext, MayComeAfter, MayFollowInEveryOrder, TellOf}
use Rattle.flow_plan.specs.Sided.{AreSidesOf, IsDoneIn}

-- ---- how the done leaves are told

same_test : (a b : Bool) → (IsTrue b ↔ IsTrue a) → a ≡ b
same_test true true same = refl
same_test true false same = let h = same.1 refl in cc
same_test false true same = let h = same.0 refl in cc
same_test false false same = refl

-- the sides tell of the plan, by whatever leaves are banned
pub sides_tell : (p : Planned) (sides : Sides) (done banned : ℕ → Bool) → AreSidesOf p.process (λ n. IsTrue (done n)) (λ n. IsTrue (banned n)) sides → TellOf p sides
sides_tell p sides done banned are =
    let same : (λ (n : ℕ). done n) ≡ (λ (n : ℕ). has_leaf sides.done n) = λ i n. same_test (done n) (has_leaf sides.done n) (are.done n) i in
    (banned, subst (λ (f : ℕ → Bool). AreSidesOf p.process (λ n. IsTrue (f n)) (λ n. IsTrue (banned n)) sides) same are)

-- it does not matter how they are told
pub same_orders : (p : Planned) (D E : ℕ → Type 0) (list : List ℕ) → ((n : ℕ) → D n ↔ E n) → MayFollowInEveryOrder p D list ↔ MayFollowInEveryOrder p E list
same_orders p D E list same = (
  λ all order is. run_as (folded_by_step p.process (pairs_of p.tokens)) D E order same (all order is),
  λ all order is. run_as (folded_by_step p.process (pairs_of p.tokens)) E D order (λ n. ((same n).1, (same n).0)) (all order is),
)

-- ---- every order

pub every_order : (p : Planned) (done : ℕ → Bool) (list : List ℕ) → Each (MayComeNext p (λ x. IsTrue (done x))) list →
    EachTwo (MayComeAfter p (λ x. IsTrue (done x))) list → MayFollowInEveryOrder p (λ x. IsTrue (done x)) list
every_order p done list each two = (folded_pairs_suffice p.process (pairs_of p.tokens) done list).1 (record { each = each; two = two })

pub by_two : (p : Planned) (done : ℕ → Bool) (list : List ℕ) → MayFollowInEveryOrder p (λ x. IsTrue (done x)) list →
    Each (MayComeNext p (λ x. IsTrue (done x))) list × EachTwo (MayComeAfter p (λ x. IsTrue (done x))) list
by_two p done list all =
    let side = (folded_pairs_suffice p.process (pairs_of p.tokens) done list).0 all in (side.each, side.two)

-- ---- all leaves

pub complete_run : (p : Planned) (sides : Sides) (answer : Bool) → (IsTrue answer ↔ IsFinished p.process (IsDoneIn sides)) →
    (run : List ℕ) → IsFoldedRun p.process (pairs_of p.tokens) run → ((n : ℕ) → IsDoneIn sides n ↔ (n ∈ run)) →
    IsTrue answer ↔ IsCompleteFoldedRun p.process (pairs_of p.tokens) run
complete_run p sides answer says run ready same = (
  λ yes. (ready, finished_more p.process (IsDoneIn sides) (λ n. n ∈ run) (λ n member. (same n).0) (says.0 yes)),
  λ complete. says.1 (finished_more p.process (λ n. n ∈ run) (IsDoneIn sides) (λ n member. (same n).1) complete.1),
)
