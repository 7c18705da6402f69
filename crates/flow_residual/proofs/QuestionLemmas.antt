-- What plans say of the options that remain, and what is asked of all of them.
use Rattle.std.proofs.Common.{◌≡◌, ◌≢◌, ℕ, Bool, true, false, not, ◌&&◌, ◌↔◌, IsTrue, List, [], ◌∷◌, ◌++◌, refl, sym, ◌∙◌, subst, inl, inr, ◌⊎◌, ⊎_elim, append-nil}
use Rattle.std.proofs.lemmas.Bool.{and_from, and_parts}
use Rattle.leaf_rows.specs.Leaves.{has_leaf}
use Rattle.flow_model.specs.Lists.{◌∈◌, Each, AreDistinct, IsOrderOf}
use Rattle.flow_model.specs.Process.{Process, leaves}
use Rattle.flow_model.specs.Resolution.{ChoiceOption}
use Rattle.flow_model.specs.Ready.{DoneOr}
use Rattle.flow_model.specs.FoldedReady.{IsFoldedReady, IsFoldedRunAfter}
use Rattle.flow_model.specs.Decided.{order_of_none}
use Rattle.flow_model.proofs.Lists.{distinct_parts, each_member, each_from_members, mem-append, mem_append_right, only_one, mem_by_halves, mem_swap, mem_with, split_at}
use Rattle.flow_model.proofs.MadeLists.{order_member, same_order, order_with_last}
use Rattle.flow_laws.specs.WellFormed.{EachTwo}
use Rattle.flow_laws.proofs.RunsByStep.{each_of_orders, two_of_orders, orders_of_two, each_two_order, each_two_out, AreSame}
use Rattle.flow_fold_laws.proofs.BegunNext.{member_test}
use Rattle.flow_fold_laws.proofs.FoldedAvoid.{is_in}
use Rattle.flow_fold_laws.proofs.FoldedOrdersByTwo.{same_folded_ready, folded_by_step, folded_ready_after_all}
use Rattle.flow_plan.specs.Planned.{Planned, pairs_of}
use Rattle.flow_plan.specs.Sided.{IsDoneIn}
use Rattle.flow_plan.specs.Orders.{MayComeNext as MayComeNextIn, MayFollowInEveryOrder}
use Rattle.flow_plan.specs.Options.{option_of}
use Rattle.flow_plan.specs.declared.sides.Sides.{Sides}
use Rattle.flow_residual.specs.Remaining.{Remaining, MayComeNext, StillAvoids, banned}
use Rattle.flow_residual.specs.Options.{SomeOption}
use Rattle.flow_residual.specs.Telling.{IsOrderedOption, IsSetOf, Tells}
use Rattle.flow_residual.specs.Question.{AreWanted, AllFollow, FollowsFirst, FollowsSo, TakesAll, TakesFirst, Takes, TakesInOrder, with_claims, CanBegin, IsBarred}
use Rattle.flow_residual.specs.declared.question.Stand.{Stand}
use Rattle.flow_residual.specs.declared.question.Stand.TheVariants.{Among, First}
use Rattle.flow_residual.specs.declared.question.Question.TheVariants as ask
use Rattle.leaf_rows.specs.declared.leaf_set.LeafSet.{LeafSet}
use Rattle.leaf_rows.specs.declared.TheConstants.{LEAF_WORDS}
use Rattle.flow_residual.proofs.Avoiding.{one_of, together}
use Rattle.flow_residual.proofs.TellingLemmas.{free_begins, barred_keeps}
use Rattle.flow_residual.proofs.FewLemmas.{run_of_follows}
use Rattle.flow_residual.proofs.FoldedSteps.{run_distinct, run_leaf, same_run}

-- ---- what plans say of their options

-- in which order the leaves of a list are told does not matter
orders_moved : (q : Process) (pairs : List (ℕ × ℕ)) (Done : ℕ → Type 0) (list other : List ℕ) → IsOrderOf other list →
    ((order : List ℕ) → IsOrderOf order list → IsFoldedRunAfter q pairs Done order) → (order : List ℕ) → IsOrderOf order other → IsFoldedRunAfter q pairs Done order
orders_moved q pairs Done list other is all =
    let by_step = folded_by_step q pairs in
    orders_of_two by_step Done (folded_ready_after_all q pairs Done) other
    (each_from_members (IsFoldedReady q pairs Done) other (λ x m. each_member (IsFoldedReady q pairs Done) list (each_of_orders by_step Done list all) x (order_member x other list is m)))
    (each_two_order (λ x y. IsFoldedReady q pairs (DoneOr Done (x ∷ [])) y) other list is (two_of_orders by_step Done list all))

last_first : (x : ℕ) (list : List ℕ) → IsOrderOf (x ∷ list) (list ++ x ∷ [])
last_first x list = (list, [], refl, subst (IsOrderOf list) (sym (append-nil list)) (same_order list))

first_last : (x : ℕ) (list : List ℕ) → IsOrderOf (list ++ x ∷ []) (x ∷ list)
first_last x list = order_with_last list x [] list (same_order list)

-- two members of a list that are not the same
two_apart : (R : ℕ → ℕ → Type 0) (list : List ℕ) → EachTwo R list → (x y : ℕ) → x ∈ list → y ∈ list → x ≢ y → R x y × R y x
two_apart R list two x y x_in y_in other =
    let (front, back, e) = split_at x list x_in in
    let apart = (each_two_out R front x back (subst (EachTwo R) e two)).0 in
    ⊎_elim (λ same. absurd (other (sym same))) (λ m. each_member (λ z. R x z × R z x) (front ++ back) apart y m)
    (mem_with y x front back (subst (λ (l : List ℕ). y ∈ l) e y_in))

each_two_of : (R : ℕ → ℕ → Type 0) (list some : List ℕ) → EachTwo R list → ((x : ℕ) → x ∈ some → x ∈ list) → AreDistinct some → EachTwo R some
each_two_of R list [] two within distinct = tt
each_two_of R list (x ∷ some) two within distinct = (
  each_from_members (λ y. R x y × R y x) some (λ y m. two_apart R list two x y (within x (inl refl)) (within y (inr m)) (λ same. distinct.0 (subst (λ z. z ∈ some) (sym same) m))),
  each_two_of R list some two (λ y m. within y (inr m)) distinct.1,
)

-- of leaves that may follow in every order, so may some of them
pub some_follow : (q : Process) (pairs : List (ℕ × ℕ)) (Done : ℕ → Type 0) (list some : List ℕ) → ((x : ℕ) → x ∈ some → x ∈ list) → AreDistinct some →
    ((order : List ℕ) → IsOrderOf order list → IsFoldedRunAfter q pairs Done order) → (order : List ℕ) → IsOrderOf order some → IsFoldedRunAfter q pairs Done order
some_follow q pairs Done list some within distinct all =
    let by_step = folded_by_step q pairs in
    orders_of_two by_step Done (folded_ready_after_all q pairs Done) some
    (each_from_members (IsFoldedReady q pairs Done) some (λ x m. each_member (IsFoldedReady q pairs Done) list (each_of_orders by_step Done list all) x (within x m)))
    (each_two_of (λ x y. IsFoldedReady q pairs (DoneOr Done (x ∷ [])) y) list some (two_of_orders by_step Done list all) within distinct)

-- leaves that go together in a plan, by a test of the done ones
module _ (p : Planned) (journal : List ℕ) where
  abbrev pub Before : ℕ → Type 0
  Before x = IsTrue (is_in journal x)

  pub ready_before : (n : ℕ) → IsFoldedReady p.process (pairs_of p.tokens) (λ x. x ∈ journal) n → MayComeNextIn p Before n
  ready_before n = same_folded_ready p.process (pairs_of p.tokens) (λ x. x ∈ journal) Before n (λ x. (member_test journal x).1) (λ x. (member_test journal x).0)

  pub follow_before : (list : List ℕ) → MayFollowInEveryOrder p Before list → AllFollow journal list (option_of p)
  follow_before list all order is = same_run p.process (pairs_of p.tokens) Before (λ x. x ∈ journal) order (member_test journal) (all order is)

module _ (p : Planned) (sides : Sides) (journal : List ℕ) (same : IsSetOf journal sides.done) where
  as_journal : AreSame (IsDoneIn sides) (λ x. x ∈ journal)
  as_journal = same

  as_done : AreSame (λ x. x ∈ journal) (IsDoneIn sides)
  as_done n = ((same n).1, (same n).0)

  comes_next : (n : ℕ) → MayComeNextIn p (IsDoneIn sides) n ↔ IsFoldedReady p.process (pairs_of p.tokens) (λ x. x ∈ journal) n
  comes_next n = (
    same_folded_ready p.process (pairs_of p.tokens) (IsDoneIn sides) (λ x. x ∈ journal) n (λ x. (same x).0) (λ x. (same x).1),
    same_folded_ready p.process (pairs_of p.tokens) (λ x. x ∈ journal) (IsDoneIn sides) n (λ x. (same x).1) (λ x. (same x).0),
  )

  pub next_of_option : (o : ChoiceOption) → option_of p ≡ o → (n : ℕ) → MayComeNextIn p (IsDoneIn sides) n ↔ IsFoldedReady o.resolution o.order (λ x. x ∈ journal) n
  next_of_option o is n =
      subst (λ (q : ChoiceOption). MayComeNextIn p (IsDoneIn sides) n ↔ IsFoldedReady q.resolution q.order (λ x. x ∈ journal) n) is (comes_next n)

  pub all_come_next : (claims : List ℕ) (leaf : ℕ) (o : ChoiceOption) → option_of p ≡ o → MayFollowInEveryOrder p (IsDoneIn sides) (leaf ∷ claims) ↔ AllFollow journal (claims ++ leaf ∷ []) o
  all_come_next claims leaf o is = subst (λ (q : ChoiceOption). MayFollowInEveryOrder p (IsDoneIn sides) (leaf ∷ claims) ↔ AllFollow journal (claims ++ leaf ∷ []) q) is (
    λ all order is. same_run p.process (pairs_of p.tokens) (IsDoneIn sides) (λ x. x ∈ journal) order as_journal
        (orders_moved p.process (pairs_of p.tokens) (IsDoneIn sides) (leaf ∷ claims) (claims ++ leaf ∷ []) (first_last leaf claims) all order is),
    λ all order is. same_run p.process (pairs_of p.tokens) (λ x. x ∈ journal) (IsDoneIn sides) order as_done
        (orders_moved p.process (pairs_of p.tokens) (λ x. x ∈ journal) (claims ++ leaf ∷ []) (leaf ∷ claims) (last_first leaf claims) all order is),
  )

  pub follows_first : (first : ℕ) (claims : List ℕ) (o : ChoiceOption) → option_of p ≡ o →
      (MayComeNextIn p (IsDoneIn sides) first × MayFollowInEveryOrder p (DoneOr (IsDoneIn sides) (first ∷ [])) claims) ↔ FollowsFirst journal first claims o
  follows_first first claims o is =
      let later : AreSame (DoneOr (IsDoneIn sides) (first ∷ [])) (DoneOr (λ x. x ∈ journal) (first ∷ [])) =
      λ n. (⊎_elim (λ d. inl ((same n).0 d)) inr, ⊎_elim (λ d. inl ((same n).1 d)) inr) in
      let back : AreSame (DoneOr (λ x. x ∈ journal) (first ∷ [])) (DoneOr (IsDoneIn sides) (first ∷ [])) = λ n. ((later n).1, (later n).0) in
      subst (λ (q : ChoiceOption). (MayComeNextIn p (IsDoneIn sides) first × MayFollowInEveryOrder p (DoneOr (IsDoneIn sides) (first ∷ [])) claims) ↔ FollowsFirst journal first claims q) is (
        λ both. ((comes_next first).0 both.0, λ order is. same_run p.process (pairs_of p.tokens) _ _ order later (both.1 order is)),
        λ both. ((comes_next first).1 both.0, λ order is. same_run p.process (pairs_of p.tokens) _ _ order back (both.1 order is)),
      )

-- where the first leaf is already among the done ones
pub follows_after : (p : Planned) (sides : Sides) (journal : List ℕ) (first : ℕ) (claims : List ℕ) (o : ChoiceOption) → IsSetOf (journal ++ first ∷ []) sides.done → option_of p ≡ o →
    MayFollowInEveryOrder p (IsDoneIn sides) claims ↔ ((order : List ℕ) → IsOrderOf order claims → IsFoldedRunAfter o.resolution o.order (DoneOr (λ n. n ∈ journal) (first ∷ [])) order)
follows_after p sides journal first claims o same is =
    let later : AreSame (IsDoneIn sides) (DoneOr (λ x. x ∈ journal) (first ∷ [])) = λ n. (λ h. halves n ((same n).0 h), λ h. (same n).1 (whole n h)) in
    let back : AreSame (DoneOr (λ x. x ∈ journal) (first ∷ [])) (IsDoneIn sides) = λ n. ((later n).1, (later n).0) in
    subst (λ (q : ChoiceOption). MayFollowInEveryOrder p (IsDoneIn sides) claims ↔ ((order : List ℕ) → IsOrderOf order claims → IsFoldedRunAfter q.resolution q.order (DoneOr (λ n. n ∈ journal) (first ∷ [])) order)) is (
      λ all order is. same_run p.process (pairs_of p.tokens) _ _ order later (all order is),
      λ all order is. same_run p.process (pairs_of p.tokens) _ _ order back (all order is),
    )
  where
    halves : (n : ℕ) → n ∈ (journal ++ first ∷ []) → DoneOr (λ x. x ∈ journal) (first ∷ []) n
    halves n m = mem-append n journal (first ∷ []) m

    whole : (n : ℕ) → DoneOr (λ x. x ∈ journal) (first ∷ []) n → n ∈ (journal ++ first ∷ [])
    whole n = mem_by_halves n journal (first ∷ []) (λ m. m) (λ m. m)

-- ---- leaves that may be begun

-- those that an option takes
pub taken_member : (o : ChoiceOption) (journal claims : List ℕ) (stand : Stand) (leaf : ℕ) → FollowsSo journal claims stand leaf o → (n : ℕ) → n ∈ with_claims claims stand leaf → n ∈ leaves o.resolution
taken_member o journal claims stand leaf follows = run_leaf o.resolution o.order (λ n. n ∈ journal) (with_claims claims stand leaf) (run_of_follows o journal claims stand leaf follows)

pub is_claimed : (claims : List ℕ) (stand : Stand) (leaf n : ℕ) → n ∈ with_claims claims stand leaf → n ∈ (leaf ∷ claims)
is_claimed claims Among leaf n m = mem_swap n claims (leaf ∷ []) m
is_claimed claims First leaf n m = m

pub claimed_is : (claims : List ℕ) (stand : Stand) (leaf n : ℕ) → n ∈ (leaf ∷ claims) → n ∈ with_claims claims stand leaf
claimed_is claims Among leaf n m = mem_swap n (leaf ∷ []) claims m
claimed_is claims First leaf n m = m

-- where each may be begun, a live option in which they may follow stays live
pub takes_of : (r : Remaining) (claims : List ℕ) (stand : Stand) (leaf : ℕ) (o : ChoiceOption) → TakesInOrder r claims stand leaf o →
    ((n : ℕ) → n ∈ (leaf ∷ claims) → StillAvoids r (n ∷ []) o) → Takes r claims stand leaf o
takes_of r claims stand leaf o (live, follows) each = (
  live,
  follows,
  together o.resolution o.order r.journal (banned r.bans) (with_claims claims stand leaf) (run_of_follows o r.journal claims stand leaf follows) live.avoids
      (λ n m. each n (is_claimed claims stand leaf n m)),
)

pub takes_where_free : (r : Remaining) (claims : List ℕ) (stand : Stand) (leaf : ℕ) (o : ChoiceOption) → Each (CanBegin r) (leaf ∷ claims) → TakesInOrder r claims stand leaf o → Takes r claims stand leaf o
takes_where_free r claims stand leaf o free taken = takes_of r claims stand leaf o taken
    (λ n m. each_member (CanBegin r) (leaf ∷ claims) free n m o taken.0 (taken_member o r.journal claims stand leaf taken.1 n (claimed_is claims stand leaf n m)))

-- a barred leaf is not taken
pub not_barred : (r : Remaining) (claims : List ℕ) (stand : Stand) (leaf n : ℕ) (o : ChoiceOption) → n ∈ (leaf ∷ claims) → Takes r claims stand leaf o → ¬ (IsBarred r n)
not_barred r claims stand leaf n o m (live, follows, still) barred =
    let there = claimed_is claims stand leaf n m in
    barred o live (taken_member o r.journal claims stand leaf follows n there)
    (one_of o.resolution (λ x. x ∈ r.journal) (λ x. x ∈ banned r.bans) (with_claims claims stand leaf) n still there)

-- ---- answers

pub not_both : (b : Bool) → IsTrue b → ¬ (IsTrue (not b))
not_both true h wrong = cc
not_both false h wrong = cc

-- what a test says, said in other words
pub in_words : (b : Bool) (P Q : Type 0) → (IsTrue b ↔ P) → (P ↔ Q) → IsTrue b ↔ Q
in_words b P Q says same = (λ yes. same.0 (says.0 yes), λ q. says.1 (same.1 q))

-- each leaf of those that an option takes, and the first, may come next
pub each_comes_next : (r : Remaining) (list : List ℕ) → SomeOption (TakesAll r list) r.options → Each (MayComeNext r) list
each_comes_next r list (o, m, (live, all, still)) = each_from_members (MayComeNext r) list (λ n member. (
  o,
  live,
  each_member (IsFoldedReady o.resolution o.order (λ x. x ∈ r.journal)) list (each_of_orders (folded_by_step o.resolution o.order) (λ x. x ∈ r.journal) list all) n member,
  one_of o.resolution (λ x. x ∈ r.journal) (λ x. x ∈ banned r.bans) list n still member,
))

pub first_comes_next : (r : Remaining) (first : ℕ) (list : List ℕ) → SomeOption (TakesFirst r first list) r.options → MayComeNext r first
first_comes_next r first list (o, m, (live, (ready, all), still)) = (
  o,
  live,
  ready,
  one_of o.resolution (λ x. x ∈ r.journal) (λ x. x ∈ banned r.bans) (first ∷ list) first still (inl refl),
)

-- with no other leaf
pub comes_alone : (r : Remaining) (leaf : ℕ) (list : List ℕ) → list ≡ [] → SomeOption (TakesFirst r leaf list) r.options ↔ MayComeNext r leaf
comes_alone r leaf list none = (
  first_comes_next r leaf list,
  λ (o, live, ready, still). (
    o,
    live.among,
    (live, (ready, λ order is. rw (order_of_none order (rw none at is)) tt), subst (λ l. StillAvoids r (leaf ∷ l) o) (sym none) still),
  ),
)

-- ---- what is asked of a live option

pub where_live : (b : Bool) (L F Q : Type 0) → L → (IsTrue b ↔ F) → (F ↔ Q) → IsTrue b ↔ (L × Q)
where_live b L F Q live says same = (λ yes. (live, same.0 (says.0 yes)), λ both. says.1 (same.1 both.1))

pub not_so : (test : Bool) (L : Type 0) → (IsTrue test ↔ L) → test ≡ false → ¬ L
not_so test L says is_false l = let yes = says.1 l in cc

pub adds_live : (new now : Bool) (L F Q : Type 0) → L → (IsTrue new ↔ (IsTrue now ⊎ F)) → (F ↔ Q) → IsTrue new ↔ (IsTrue now ⊎ (L × Q))
adds_live new now L F Q live adds same = (
  λ h. ⊎_elim inl (λ f. inr (live, same.0 f)) (adds.0 h),
  λ either. adds.1 (⊎_elim inl (λ both. inr (same.1 both.1)) either),
)

pub adds_none : (now : Bool) (L Q : Type 0) → ¬ L → IsTrue now ↔ (IsTrue now ⊎ (L × Q))
adds_none now L Q none = (inl, ⊎_elim (λ old. old) (λ both. absurd (none both.0)))

-- ---- all leaves at once

-- what is found, less the barred leaves
pub less_barred : (r : Remaining) (sides : Sides) (claims : List ℕ) (stand : Stand) (leaf : ℕ) (found new : Bool) → Tells r.options r.journal (banned r.bans) sides → Each IsOrderedOption r.options →
    Each (CanBegin r) claims → (IsTrue found ↔ SomeOption (TakesInOrder r claims stand leaf) r.options) → new ≡ (not (has_leaf sides.barred leaf) && found) →
    IsTrue new ↔ SomeOption (Takes r claims stand leaf) r.options
less_barred r sides claims stand leaf found new told ordered free says is = (
  λ yes.
      let both = and_parts (not (has_leaf sides.barred leaf)) found (sym is ∙ yes) in
      let (o, m, taken) = says.0 both.1 in
      (o, m, takes_where_free r claims stand leaf o (free_begins r sides told ordered leaf (λ bars. not_both (has_leaf sides.barred leaf) bars both.0), free) taken),
  λ (o, m, takes).
      let open_to : ¬ (IsTrue (has_leaf sides.barred leaf)) = λ bars. not_barred r claims stand leaf leaf o (inl refl) takes (barred_keeps r sides told ordered leaf bars) in
      is ∙ and_from (not (has_leaf sides.barred leaf)) found (is_not (has_leaf sides.barred leaf) open_to) (says.1 (o, m, (takes.0, takes.1))),
)
  where
    is_not : (b : Bool) → ¬ (IsTrue b) → IsTrue (not b)
    is_not true none = absurd (none refl)
    is_not false none = refl

-- ---- what is passed over by rows

-- a leaf that is taken so may come next, and is none of the claimed ones
pub taken_ready : (o : ChoiceOption) (journal claims : List ℕ) (stand : Stand) (leaf : ℕ) → FollowsSo journal claims stand leaf o → IsFoldedReady o.resolution o.order (λ x. x ∈ journal) leaf
taken_ready o journal claims Among leaf all = each_member (IsFoldedReady o.resolution o.order (λ x. x ∈ journal)) (claims ++ leaf ∷ [])
    (each_of_orders (folded_by_step o.resolution o.order) (λ x. x ∈ journal) (claims ++ leaf ∷ []) all) leaf (mem_append_right leaf claims (leaf ∷ []) (inl refl))
taken_ready o journal claims First leaf both = both.0

pub taken_new : (o : ChoiceOption) (journal claims : List ℕ) (stand : Stand) (leaf : ℕ) → FollowsSo journal claims stand leaf o → ¬ (leaf ∈ claims)
taken_new o journal claims Among leaf all m =
    (distinct_parts claims (leaf ∷ []) (run_distinct o.resolution o.order (λ n. n ∈ journal) (claims ++ leaf ∷ []) (run_of_follows o journal claims Among leaf all)).0).2 leaf m (inl refl)
taken_new o journal claims First leaf both m = (run_distinct o.resolution o.order (λ n. n ∈ journal) (leaf ∷ claims) (run_of_follows o journal claims First leaf both)).0.0 m

-- where what may come next is found already or claimed, nothing is added
pub adds_seen : (now : Bool) (Q : Type 0) → (Q → IsTrue now) → IsTrue now ↔ (IsTrue now ⊎ Q)
adds_seen now Q found = (inl, ⊎_elim (λ old. old) found)

-- the leaves that are asked about may come next in an option that says yes
pub wanted_among : (r : Remaining) (claims : List ℕ) (leaf : ℕ) (apart set : LeafSet LEAF_WORDS) → IsSetOf (claims ++ leaf ∷ []) set → AreWanted r claims (ask.Among leaf apart) set
wanted_among r claims leaf apart set is o (live, all, still) = (
  live,
  λ n there. each_member (IsFoldedReady o.resolution o.order (λ x. x ∈ r.journal)) (claims ++ leaf ∷ [])
      (each_of_orders (folded_by_step o.resolution o.order) (λ x. x ∈ r.journal) (claims ++ leaf ∷ []) all) n ((is n).0 there),
)

pub wanted_first : (r : Remaining) (claims : List ℕ) (leaf : ℕ) (after : Sides) (apart set : LeafSet LEAF_WORDS) → IsSetOf (leaf ∷ []) set → AreWanted r claims (ask.First leaf after apart) set
wanted_first r claims leaf after apart set is o (live, (ready, all), still) = (
  live,
  λ n there. subst (IsFoldedReady o.resolution o.order (λ x. x ∈ r.journal)) (sym (only_one n leaf ((is n).0 there))) ready,
)
