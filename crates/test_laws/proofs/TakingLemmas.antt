-- What can be taken, by good traces and by the law of orders.
use Rattle.std.proofs.Common.{ℕ, List, [], ◌∷◌, ◌++◌, refl, inl, inr, arith, subst, ◌≡◌, ◌⊎◌, ◌↔◌, ⊎_elim, sym}
use Rattle.flow_model.specs.Lists.{◌∈◌, IsOrderOf, joined}
use Rattle.flow_model.specs.Schema.{Schema, IsGood}
use Rattle.flow_model.specs.Resolution.{ChoiceOption, options}
use Rattle.flow_model.specs.Run.{RunState, current_leaves, CanTake, MayFollow, IsLegal, first_state, state_of}
use Rattle.flow_model.specs.Trace.{both_end, from_left, from_right, Shuffle}
use Rattle.flow_model.specs.Ready.{IsReady}
use Rattle.flow_laws.specs.WellFormed.{IsWellFormed}
use Rattle.flow_laws.specs.Orders.{AreSideBySide}
use Rattle.flow_laws.proofs.OrdersByTwo.{alive_of_follow, orders_may_follow}
use Rattle.flow_laws.proofs.NeverAtALoss.{take_next}
use Rattle.test_laws.specs.Workflows.{either_way, one_out, plain, a_done, b_out, both_out}
use Rattle.test_laws.proofs.WellFormed.{well_formed}

-- the leaf stands side by side with the claims' leaves in some option
side_by_side_of_take : (w : Schema) → IsWellFormed w → (s : RunState) (n : ℕ) → CanTake w s n →
    (o : ChoiceOption) × (o ∈ options w) × AreSideBySide o.resolution o.order (λ x. x ∈ s.journal) (current_leaves s ++ n ∷ [])
side_by_side_of_take w f s n h =
    let (o, m, every) = h.2 in (o, m, ((orders_may_follow w f s o m (current_leaves s ++ n ∷ [])).0 every).1)

-- two leaves that may follow both ways may follow in every order
follow_in_every_order : (w : Schema) → IsWellFormed w → (s : RunState) (o : ChoiceOption) → o ∈ options w → (x y : ℕ) →
    MayFollow w s o (x ∷ y ∷ []) → MayFollow w s o (y ∷ x ∷ []) →
    (order : List ℕ) → IsOrderOf order (x ∷ y ∷ []) → MayFollow w s o order
follow_in_every_order w f s o m x y one_way other_way =
    let (alive, x_then_y) = alive_of_follow w f s o m (x ∷ y ∷ []) one_way in
    let (_, y_then_x) = alive_of_follow w f s o m (y ∷ x ∷ []) other_way in
    (orders_may_follow w f s o m (x ∷ y ∷ [])).1 (
      alive,
      record {
        each = (x_then_y.0, (y_then_x.0, tt));
        two = (((x_then_y.1.0, y_then_x.1.0), tt), (tt, tt));
      },
    )

-- Two orders, each in an option of its own

pub either_way_is_well_formed : IsWellFormed either_way
either_way_is_well_formed = well_formed either_way refl refl

pub both_orders_are_good : IsGood either_way (0 ∷ 1 ∷ []) × IsGood either_way (1 ∷ 0 ∷ [])
both_orders_are_good = (
  (((0 ∷ []) ∷ (1 ∷ []) ∷ [], (_, _, refl, refl, from_left (from_right both_end)), refl), (inl (inl (refl, inl refl), inr (inl refl)), tt)),
  (((1 ∷ []) ∷ (0 ∷ []) ∷ [], (_, _, refl, refl, from_right (from_left both_end)), refl), (inr (inl (refl, inl refl), inr (inl refl)), tt)),
)

pub either_can_be_taken : CanTake either_way first_state 0 × CanTake either_way first_state 1
either_can_be_taken = (
  take_next either_way either_way_is_well_formed first_state 0 (0 ∷ 1 ∷ []) refl refl
      (both_orders_are_good.0, (0 ∷ 1 ∷ [], refl), tt) (1 ∷ [], refl),
  take_next either_way either_way_is_well_formed first_state 1 (1 ∷ 0 ∷ []) refl refl
      (both_orders_are_good.1, (1 ∷ 0 ∷ [], refl), tt) (0 ∷ [], refl),
)

-- in each option one of the leaves waits for the other
never_side_by_side : (o : ChoiceOption) → o ∈ options either_way → ¬ (AreSideBySide o.resolution o.order (λ n. n ∈ []) (0 ∷ 1 ∷ []))
never_side_by_side o (inl e) sides = sides.each.1.0.before 0 (inr (rw e (inl refl)))
never_side_by_side o (inr (inl e)) sides = sides.each.0.before 1 (inr (rw e (inl refl)))
never_side_by_side o (inr (inr none)) sides = none

pub no_option_has_both_orders : (o : ChoiceOption) → o ∈ options either_way →
    ¬ ((order : List ℕ) → IsOrderOf order (0 ∷ 1 ∷ []) → MayFollow either_way first_state o order)
no_option_has_both_orders o m every =
    never_side_by_side o m ((orders_may_follow either_way either_way_is_well_formed first_state o m (0 ∷ 1 ∷ [])).0 every).1

pub one_out_is_legal : IsLegal either_way 4 one_out
one_out_is_legal = (refl, omega arith, (refl, either_can_be_taken.0), tt)

pub other_cannot_be_taken : ¬ (CanTake either_way (state_of either_way one_out) 1)
other_cannot_be_taken h =
    let (o, m, sides) = side_by_side_of_take either_way either_way_is_well_formed (state_of either_way one_out) 1 h in never_side_by_side o m sides

-- One leaf at first, and then two side by side

pub plain_is_well_formed : IsWellFormed plain
plain_is_well_formed = well_formed plain refl refl

-- a, and then b and c in one order or the other
good : (rest : List (List ℕ)) → Shuffle ((1 ∷ []) ∷ []) ((2 ∷ []) ∷ []) rest → IsGood plain (0 ∷ joined rest)
good rest s = (((0 ∷ []) ∷ rest, ((0 ∷ []) ∷ [], rest, refl, ((1 ∷ []) ∷ [], (2 ∷ []) ∷ [], refl, refl, s), refl), refl), tt)

b_first : IsGood plain (0 ∷ 1 ∷ 2 ∷ [])
b_first = good ((1 ∷ []) ∷ (2 ∷ []) ∷ []) (from_left (from_right both_end))

c_first : IsGood plain (0 ∷ 2 ∷ 1 ∷ [])
c_first = good ((2 ∷ []) ∷ (1 ∷ []) ∷ []) (from_right (from_left both_end))

-- What can be taken, by the good traces

a_at_first : CanTake plain first_state 0
a_at_first = take_next plain plain_is_well_formed first_state 0 (0 ∷ 1 ∷ 2 ∷ []) refl refl
    (b_first, (0 ∷ 1 ∷ 2 ∷ [], refl), tt) (1 ∷ 2 ∷ [], refl)

b_after_a : CanTake plain (state_of plain a_done) 1
b_after_a = take_next plain plain_is_well_formed (state_of plain a_done) 1 (0 ∷ 1 ∷ 2 ∷ []) refl refl
    (b_first, (1 ∷ 2 ∷ [], refl), tt) (2 ∷ [], refl)

-- What cannot, by the law of orders: a leaf that can be taken is ready in the only option

ready_of_take : (s : RunState) (n : ℕ) → current_leaves s ≡ [] → CanTake plain s n → IsReady plain.goal [] (λ x. x ∈ s.journal) n
ready_of_take s n none h =
    let (o, m, sides) = side_by_side_of_take plain plain_is_well_formed s n h in
    let alone = subst (λ ls. AreSideBySide o.resolution o.order (λ x. x ∈ s.journal) (ls ++ n ∷ [])) none sides in
    elim m [ inl e ↦ subst (λ (o : ChoiceOption). IsReady o.resolution o.order (λ x. x ∈ s.journal) n) e alone.each.0 | inr nothing ↦ absurd nothing ]

pub first_only_a : (n : ℕ) → CanTake plain first_state n ↔ (n ≡ 0)
first_only_a n = (
  λ h. let ready = ready_of_take first_state n refl h in
      ⊎_elim (λ e. e) (λ later. absurd (ready.before 0 (inl (inl (inl (inl refl, later)))))) ready.leaf,
  λ e. subst (CanTake plain first_state) (sym e) a_at_first,
)

pub then_b_or_c : (n : ℕ) → CanTake plain (state_of plain a_done) n ↔ ((n ≡ 1) ⊎ (n ≡ 2))
then_b_or_c n =
    let can = CanTake plain (state_of plain a_done) in
    let c_after_a : can 2 = take_next plain plain_is_well_formed (state_of plain a_done) 2 (0 ∷ 2 ∷ 1 ∷ []) refl refl
    (c_first, (2 ∷ 1 ∷ [], refl), tt) (1 ∷ [], refl) in (
      λ h. let ready = ready_of_take (state_of plain a_done) n refl h in
          ⊎_elim (λ e. absurd (ready.not_done (inl e))) (⊎_elim inl (⊎_elim inr absurd)) ready.leaf,
      ⊎_elim (λ e. subst can (sym e) b_after_a) (λ e. subst can (sym e) c_after_a),
    )

-- Both claims out

abbrev only : ChoiceOption
only = record { resolution = plain.goal; order = [] }

-- the second claim, while the first is out
pub c_beside_b : CanTake plain (state_of plain b_out) 2
c_beside_b = (
  refl,
  λ h. elim h [ inl e ↦ omega (arith, e) | inr none ↦ none ],
  (
    only,
    inl refl,
    follow_in_every_order plain plain_is_well_formed (state_of plain b_out) only (inl refl) 1 2
        (0 ∷ 1 ∷ 2 ∷ [], (b_first.0, tt), (b_first, (1 ∷ 2 ∷ [], refl), tt), ([], refl))
        (0 ∷ 2 ∷ 1 ∷ [], (c_first.0, tt), (c_first, (2 ∷ 1 ∷ [], refl), tt), ([], refl)),
  ),
)

pub both_out_is_legal : IsLegal plain 7 both_out
both_out_is_legal = (
  refl,
  omega arith,
  (refl, a_at_first),
  (refl, omega arith, refl, (refl, omega arith, (refl, b_after_a), (refl, omega arith, (refl, c_beside_b), tt))),
)
