-- Two at a time suffice for every order, for any set of done leaves; what may follow a journal.
use Rattle.std.proofs.Common.{ℕ, List, [], ◌∷◌, ◌++◌, IsTrue, refl, inl, inr, ⊎_elim, arith}
use Rattle.flow_model.specs.Lists.{◌∈◌, IsOrderOf}
use Rattle.flow_model.specs.Process.{Process}
use Rattle.flow_model.specs.Ready.{IsReady, DoneOr, IsReadyRunAfter}
use Rattle.flow_model.specs.Schema.{Schema}
use Rattle.flow_model.specs.Resolution.{ChoiceOption, options}
use Rattle.flow_model.specs.Run.{RunState, MayFollow}
use Rattle.flow_laws.specs.WellFormed.{IsWellFormed}
use Rattle.flow_laws.specs.Orders.{AreSideBySide, PairsSufficeForOrders, IsAlive, OrdersMayFollow, OrdersMayFollowOne}
use Rattle.flow_model.proofs.Lists.{each_to, mem_append_left, mem_append_right, mem-append}
use Rattle.flow_model.proofs.MadeLists.{same_order, begins_front}
use Rattle.flow_laws.proofs.RunsByStep.{as_well, each_of_orders, two_of_orders, orders_of_two}
use Rattle.flow_laws.proofs.ReadyRuns.{ready_by_step, run_after_journal, fronts_are_ready}
use Rattle.flow_laws.proofs.TraceLeaves.{leaf_of_trace, leaf_in_trace}
use Rattle.flow_laws.proofs.OptionsLemmas.{option_is_ordered, option_trace_is_good}
use Rattle.flow_laws.proofs.CircleOrTrace.{ready_runs_extend}

module _ (q : Process) (pairs : List (ℕ × ℕ)) (Done : ℕ → Type 0) where
  -- what may come next after the done leaves, and after them and each of the others, may come next after all these
  pub ready_after_all : (front : List ℕ) (n : ℕ) → IsReady q pairs Done n → ((x : ℕ) → x ∈ front → IsReady q pairs (DoneOr Done (x ∷ [])) n) →
      IsReady q pairs (DoneOr Done front) n
  ready_after_all front n h f = record {
    leaf = h.leaf;
    not_done = λ e. ⊎_elim h.not_done (λ k. (f n k).not_done (inr (inl refl))) e;
    before = λ x b. inl (h.before x b);
    outside = λ part m l x y k e p.
        grind (arith, e, λ (d : Done x). h.outside part m l x y k d p, λ (i : x ∈ front). (f x i).outside part m l x y k (inr (inl refl)) p);
    begins = λ part m k none x y l p b. inl (h.begins part m k (λ z i d. none z i (inl d)) x y l p b);
  }

  pub side_by_side_of : (list : List ℕ) → ((order : List ℕ) → IsOrderOf order list → IsReadyRunAfter q pairs Done order) → AreSideBySide q pairs Done list
  side_by_side_of list f = record {
    each = each_of_orders (ready_by_step q pairs) Done list f;
    two = two_of_orders (ready_by_step q pairs) Done list f;
  }

  pub orders_ready : (list : List ℕ) → AreSideBySide q pairs Done list → (order : List ℕ) → IsOrderOf order list → IsReadyRunAfter q pairs Done order
  orders_ready list s = orders_of_two (ready_by_step q pairs) Done ready_after_all list s.each s.two

pub pairs_suffice_for_orders : PairsSufficeForOrders
pairs_suffice_for_orders q pairs done list =
    (side_by_side_of q pairs (λ n. IsTrue (done n)) list, λ s order o. orders_ready q pairs (λ n. IsTrue (done n)) list s order o)

-- in an option that is alive just what is a ready run after the journal
pub alive_of_follow : (w : Schema) → IsWellFormed w → (s : RunState) (o : ChoiceOption) → o ∈ options w →
    (next : List ℕ) → MayFollow w s o next → IsAlive s o × IsReadyRunAfter o.resolution o.order (λ n. n ∈ s.journal) next
alive_of_follow w f s o m next (t, trace, free, begins) =
    let ordered = option_is_ordered w f o m in
    let ready = fronts_are_ready o.resolution o.order ordered t (s.journal ++ next) trace.0 trace.1 begins in
    let (journal, after) = (run_after_journal o.resolution o.order s.journal next).0 ready in (
      record {
        has_trace = (t, trace);
        unbanned = each_to _ _ s.bans (λ ban none l. none (leaf_in_trace o.resolution ordered.choice_free t trace.0 ban.1 l)) free.2;
        journal = journal;
      },
      after,
    )

pub follow_of_alive : (w : Schema) → IsWellFormed w → (s : RunState) (o : ChoiceOption) → o ∈ options w →
    (next : List ℕ) → IsAlive s o → IsReadyRunAfter o.resolution o.order (λ n. n ∈ s.journal) next → MayFollow w s o next
follow_of_alive w f s o m next alive after =
    let ordered = option_is_ordered w f o m in
    let (sample, trace) = alive.has_trace in
    let ready = (run_after_journal o.resolution o.order s.journal next).1 (alive.journal, after) in
    let (t, h, k, begins) = ready_runs_extend o.resolution o.order ordered (sample, trace.0, trace.1) (s.journal ++ next) ready in (
      t,
      (h, k),
      (
        option_trace_is_good w f t o m (h, k),
        begins_front t s.journal next begins,
        each_to _ _ s.bans (λ ban none l. none (leaf_of_trace o.resolution t h ban.1 l)) alive.unbanned,
      ),
      begins,
    )

pub orders_may_follow : OrdersMayFollow
orders_may_follow w f s o m list = (
  λ h. (
    (alive_of_follow w f s o m list (h list (same_order list))).0,
    side_by_side_of o.resolution o.order (λ n. n ∈ s.journal) list (λ order p. (alive_of_follow w f s o m order (h order p)).1),
  ),
  λ h order p. follow_of_alive w f s o m order h.0
      (orders_ready o.resolution o.order (λ n. n ∈ s.journal) list h.1 order p),
)

pub orders_may_follow_one : OrdersMayFollowOne
orders_may_follow_one w f s o m first list =
    let then = λ (order : List ℕ). as_well (ready_by_step o.resolution o.order) (DoneOr (λ n. n ∈ s.journal) (first ∷ [])) (λ n. n ∈ (s.journal ++ first ∷ [])) order
    (λ n. grind (arith, mem_append_left n s.journal (first ∷ []), mem_append_right n s.journal (first ∷ []), mem-append n s.journal (first ∷ []))) in (
      λ h. let (alive, (ready, after)) = alive_of_follow w f s o m (first ∷ list) (h list (same_order list)) in (
        alive,
        ready,
        side_by_side_of o.resolution o.order (λ n. n ∈ (s.journal ++ first ∷ [])) list
            (λ order p. (then order).0 (alive_of_follow w f s o m (first ∷ order) (h order p)).1.1),
      ),
      λ (alive, ready, side) order p. follow_of_alive w f s o m (first ∷ order) alive (
        ready,
        (then order).1 (orders_ready o.resolution o.order (λ n. n ∈ (s.journal ++ first ∷ [])) list side order p),
      ),
    )
