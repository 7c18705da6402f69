-- Runs in which each leaf may come next, whatever is asked of a leaf that may: what follows from step to step, and that two
-- leaves at a time suffice for every order.
use Rattle.std.proofs.Common.{◌≡◌, ℕ, List, [], ◌∷◌, ◌++◌, ◌↔◌, refl, sym, ap, subst, inl, inr, ⊎_elim, arith}
use Rattle.flow_model.specs.Lists.{◌∈◌, Each, IsOrderOf}
use Rattle.flow_model.specs.Ready.{DoneOr}
use Rattle.flow_laws.specs.WellFormed.{EachTwo}
use Rattle.flow_model.proofs.Lists.{mem_here, each_member, each_parts, each-append, split_at, each_from_members, mem_append_left}
use Rattle.flow_model.proofs.MadeLists.{order_with_last, order_member, same_order}

-- Each two members of a list

-- one member apart from the others
pub each_two_out : {A : Type 0} (R : A → A → Type 0) (front : List A) (y : A) (back : List A) → EachTwo R (front ++ y ∷ back) →
    Each (λ z. R y z × R z y) (front ++ back) × EachTwo R (front ++ back)
each_two_out R [] y back h = h
each_two_out R (x ∷ front) y back (h, two) =
    let (in_front, ((k, l), in_back)) = each_parts (λ z. R x z × R z x) front (y ∷ back) h in
    let (r, others) = each_two_out R front y back two in (((l, k), r), (each-append _ front back in_front in_back, others))

-- the order does not matter
pub each_two_order : {A : Type 0} (R : A → A → Type 0) (order list : List A) → IsOrderOf order list → EachTwo R list → EachTwo R order
each_two_order R [] list o h = tt
each_two_order R (y ∷ order) list (front, back, e, o) h =
    let (apart, rest) = each_two_out R front y back (subst (EachTwo R) e h) in (
      each_from_members (λ z. R y z × R z y) order (λ z m. each_member (λ u. R y u × R u y) (front ++ back) apart z (order_member z order (front ++ back) o m)),
      each_two_order R order (front ++ back) o rest,
    )

-- Runs

-- the same leaves are done
abbrev pub AreSame : (ℕ → Type 0) → (ℕ → Type 0) → Type 0
AreSame D E = (n : ℕ) → D n ↔ E n

-- a run after some done leaves has one step after another, and it does not matter how the done leaves are told
pub record IsByStep (Ready : (ℕ → Type 0) → ℕ → Type 0) (Run : (ℕ → Type 0) → List ℕ → Type 0) : Type 1 where
  pub nothing : (D : ℕ → Type 0) → Run D []
  pub step : (D : ℕ → Type 0) (n : ℕ) (run : List ℕ) → Run D (n ∷ run) ↔ (Ready D n × Run (DoneOr D (n ∷ [])) run)
  pub same : (D E : ℕ → Type 0) (n : ℕ) → AreSame D E → Ready D n → Ready E n

module _ {Ready : (ℕ → Type 0) → ℕ → Type 0} {Run : (ℕ → Type 0) → List ℕ → Type 0} (by_step : IsByStep Ready Run) where
  -- Step by step

  pub run_as : (D E : ℕ → Type 0) (run : List ℕ) → AreSame D E → Run D run → Run E run
  run_as D E [] same h = by_step.nothing E
  run_as D E (n ∷ run) same h =
      let (ready, more) = (by_step.step D n run).0 h in
      (by_step.step E n run).1 (
        by_step.same D E n same ready,
        run_as (DoneOr D (n ∷ [])) (DoneOr E (n ∷ [])) run (λ x. (⊎_elim (λ d. inl ((same x).0 d)) inr, ⊎_elim (λ e. inl ((same x).1 e)) inr)) more,
      )

  pub as_well : (D E : ℕ → Type 0) (run : List ℕ) → AreSame D E → Run D run ↔ Run E run
  as_well D E run same = (run_as D E run same, run_as E D run (λ n. ((same n).1, (same n).0)))

  -- two runs, one after the other, are one
  pub run-append : (D : ℕ → Type 0) (run more : List ℕ) → Run D (run ++ more) ↔ (Run D run × Run (DoneOr D run) more)
  run-append D [] more = grind (arith, by_step.nothing D, as_well D (DoneOr D []) more (λ n. grind arith))
  run-append D (n ∷ run) more =
      let fact = as_well (DoneOr (DoneOr D (n ∷ [])) run) (DoneOr D (n ∷ run)) more (λ m. grind arith) in
      grind (arith, by_step.step D n (run ++ more), by_step.step D n run, run-append (DoneOr D (n ∷ [])) run more)

  pub run_front : (D : ℕ → Type 0) (front back : List ℕ) → Run D (front ++ back) → Run D front
  run_front D front back h = ((run-append D front back).0 h).0

  -- where each leaf of the list may come next after those before it, the list is a run
  pub run_of : (D : ℕ → Type 0) (run : List ℕ) → ((front : List ℕ) (n : ℕ) (back : List ℕ) → run ≡ front ++ n ∷ back → Ready (DoneOr D front) n) → Run D run
  run_of D [] f = by_step.nothing D
  run_of D (n ∷ run) f = (by_step.step D n run).1 (
    by_step.same (DoneOr D []) D n (λ x. grind arith) (f [] n run refl),
    run_of (DoneOr D (n ∷ [])) run (λ front m back e.
        by_step.same (DoneOr D (n ∷ front)) (DoneOr (DoneOr D (n ∷ [])) front) m (λ x. grind arith) (f (n ∷ front) m back (ap (λ l. n ∷ l) e))),
  )

  -- Two at a time

  module _ (Done : ℕ → Type 0) where
    -- every order of the list is a run
    abbrev pub EveryOrderRuns : List ℕ → Type 0
    EveryOrderRuns list = (order : List ℕ) → IsOrderOf order list → Run Done order

    -- the second may come next after the first
    abbrev pub MayComeAfter : ℕ → ℕ → Type 0
    MayComeAfter x y = Ready (DoneOr Done (x ∷ [])) y

    pub each_of_orders : (list : List ℕ) → EveryOrderRuns list → Each (Ready Done) list
    each_of_orders list f = each_from_members (Ready Done) list (λ x m.
        let (front, back, e) = split_at x list m in
        ((by_step.step Done x (front ++ back)).0 (f (x ∷ (front ++ back)) (front, back, e, same_order (front ++ back)))).0)

    -- in an order that begins with two leaves, the second may come next after the first
    second_after : (x y : ℕ) (more : List ℕ) → Run Done (x ∷ y ∷ more) → MayComeAfter x y
    second_after x y more h = ((by_step.step (DoneOr Done (x ∷ [])) y more).0 ((by_step.step Done x (y ∷ more)).0 h).1).0

    -- each two come first in two orders, and the orders without one are fronts of orders with it
    pub two_of_orders : (list : List ℕ) → EveryOrderRuns list → EachTwo MayComeAfter list
    two_of_orders [] f = tt
    two_of_orders (x ∷ list) f = (
      each_from_members (λ y. MayComeAfter x y × MayComeAfter y x) list (λ y m.
          let (a, b, e) = split_at y list m in
          let same = same_order (a ++ b) in (
            second_after x y (a ++ b) (f (x ∷ y ∷ (a ++ b)) ([], list, refl, (a, b, e, same))),
            second_after y x (a ++ b) (f (y ∷ x ∷ (a ++ b)) (x ∷ a, b, ap (λ l. x ∷ l) e, ([], a ++ b, refl, same))),
          )),
      two_of_orders list (λ order o. run_front Done order (x ∷ []) (f (order ++ x ∷ []) (order_with_last order x [] list o))),
    )

    -- where what may come next after each of some leaves may come next after all of them
    pub orders_of_two : ((front : List ℕ) (n : ℕ) → Ready Done n → ((x : ℕ) → x ∈ front → MayComeAfter x n) → Ready (DoneOr Done front) n) →
        (list : List ℕ) → Each (Ready Done) list → EachTwo MayComeAfter list → EveryOrderRuns list
    orders_of_two after_all list each two order o = run_of Done order (λ front n back e.
        let there = order_member n order list o (subst (λ l. n ∈ l) (sym e) (mem_here n front back)) in
        let others = (each_two_out MayComeAfter front n back (subst (EachTwo MayComeAfter) e (each_two_order MayComeAfter order list o two))).0 in
        after_all front n (each_member (Ready Done) list each n there)
        (λ x m. (each_member (λ z. MayComeAfter n z × MayComeAfter z n) (front ++ back) others x (mem_append_left x front back m)).1))
