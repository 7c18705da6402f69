-- Two at a time suffice for every order in a folded goal, for any set of done leaves.
use Rattle.std.proofs.Common.{ℕ, List, [], ◌∷◌, ◌⊎◌, IsTrue, refl, sym, subst, inl, inr, ⊎_elim}
use Rattle.flow_model.specs.Lists.{◌∈◌}
use Rattle.flow_model.specs.Process.{Process, Sequence, Parallel, Choice, Isolated}
use Rattle.flow_model.specs.Ready.{DoneOr}
use Rattle.flow_model.specs.FoldedReady.{IsBegun, IsClosedOff, IsItsTurn, IsFoldedReady, IsFoldedRunAfter}
use Rattle.flow_model.proofs.Lists.{only_one}
use Rattle.flow_laws.proofs.RunsByStep.{IsByStep, each_of_orders, two_of_orders, orders_of_two}
use Rattle.flow_fold_laws.specs.FoldedFollowing.{FoldedPairsSuffice}
use Rattle.flow_fold_laws.proofs.AvoidedTogether.{closed_more}
use Rattle.flow_fold_laws.proofs.FoldedSettled.{finished_more}

-- it stays the turn of a leaf where more leaves are done
turn_more : (q : Process) (D E : ℕ → Type 0) (n : ℕ) → ((x : ℕ) → D x → E x) → IsItsTurn q D n → IsItsTurn q E n
turn_more (Sequence a b) D E n to (f, g, h) = (λ m. finished_more a D E (λ x k. to x) (f m), turn_more a D E n to g, turn_more b D E n to h)
turn_more (Parallel a b) D E n to (g, h) = (turn_more a D E n to g, turn_more b D E n to h)
turn_more (Choice a b) D E n to (g, h) = (turn_more a D E n to g, turn_more b D E n to h)
turn_more (Isolated a) D E n to h = turn_more a D E n to h
turn_more leaf D E n to h = tt

-- Closed off by some of these leaves

-- it is closed off by the done leaves, or by one of the list
abbrev IsClosedByOne : Process → (ℕ → Type 0) → List ℕ → ℕ → Type 0
IsClosedByOne q D list n = IsClosedOff q D n ⊎ ((x : ℕ) × (x ∈ list) × IsClosedOff q (DoneOr D (x ∷ [])) n)

begun_by_one : (g : Process) (D : ℕ → Type 0) (list : List ℕ) → IsBegun g (DoneOr D list) →
    IsBegun g D ⊎ ((x : ℕ) × (x ∈ list) × IsBegun g (DoneOr D (x ∷ [])))
begun_by_one g D list (x, m, inl d) = inl (x, m, d)
begun_by_one g D list (x, m, inr k) = inr (x, k, (x, m, inr (inl refl)))

-- what closes the leaf off in a half does in the whole
half_by_one : (half q : Process) (D : ℕ → Type 0) (list : List ℕ) (n : ℕ) → ((E : ℕ → Type 0) → IsClosedOff half E n → IsClosedOff q E n) →
    IsClosedByOne half D list n → IsClosedByOne q D list n
half_by_one half q D list n to = ⊎_elim (λ c. inl (to D c)) (λ (x, k, c). inr (x, k, to (DoneOr D (x ∷ [])) c))

closed_by_one : (q : Process) (D : ℕ → Type 0) (list : List ℕ) (n : ℕ) → IsClosedOff q (DoneOr D list) n → IsClosedByOne q D list n
closed_by_one (Sequence a b) D list n = ⊎_elim
    (λ c. half_by_one a (Sequence a b) D list n (λ E h. inl h) (closed_by_one a D list n c))
    (λ c. half_by_one b (Sequence a b) D list n (λ E h. inr h) (closed_by_one b D list n c))
closed_by_one (Parallel a b) D list n = ⊎_elim
    (λ c. half_by_one a (Parallel a b) D list n (λ E h. inl h) (closed_by_one a D list n c))
    (λ c. half_by_one b (Parallel a b) D list n (λ E h. inr h) (closed_by_one b D list n c))
closed_by_one (Choice a b) D list n = ⊎_elim
    (⊎_elim
    (λ (m, begun). ⊎_elim (λ h. inl (inl (inl (m, h)))) (λ (x, k, h). inr (x, k, inl (inl (m, h)))) (begun_by_one b D list begun))
    (λ (m, begun). ⊎_elim (λ h. inl (inl (inr (m, h)))) (λ (x, k, h). inr (x, k, inl (inr (m, h)))) (begun_by_one a D list begun)))
    (⊎_elim
    (λ c. half_by_one a (Choice a b) D list n (λ E h. inr (inl h)) (closed_by_one a D list n c))
    (λ c. half_by_one b (Choice a b) D list n (λ E h. inr (inr h)) (closed_by_one b D list n c)))
closed_by_one (Isolated a) D list n = closed_by_one a D list n
closed_by_one leaf D list n = absurd

-- Ready leaves

-- it does not matter how the done leaves are told
pub same_folded_ready : (q : Process) (pairs : List (ℕ × ℕ)) (D E : ℕ → Type 0) (n : ℕ) → ((x : ℕ) → D x → E x) → ((x : ℕ) → E x → D x) →
    IsFoldedReady q pairs D n → IsFoldedReady q pairs E n
same_folded_ready q pairs D E n to from h = record {
  leaf = h.leaf;
  not_done = λ e. h.not_done (from n e);
  not_closed = λ c. h.not_closed (closed_more q E D n from c);
  turn = turn_more q D E n to h.turn;
  before = λ x m. to x (h.before x m);
  outside = λ part m l (x, k, e). finished_more part D E (λ y p. to y) (h.outside part m l (x, k, from x e));
  begins = λ part m k none x y l p i. to x (h.begins part m k (λ (z, j, d). none (z, j, to z d)) x y l p i);
}

-- ready runs of folded goals are made of steps
pub folded_by_step : (q : Process) (pairs : List (ℕ × ℕ)) → IsByStep (IsFoldedReady q pairs) (IsFoldedRunAfter q pairs)
folded_by_step q pairs = record {
  nothing = λ D. tt;
  step = λ D n run. (λ h. h, λ h. h);
  same = λ D E n same. same_folded_ready q pairs D E n (λ x. (same x).0) (λ x. (same x).1);
}

-- what may come next after the done leaves, and after them and each of the others, may come next after all these
pub folded_ready_after_all : (q : Process) (pairs : List (ℕ × ℕ)) (Done : ℕ → Type 0) (front : List ℕ) (n : ℕ) → IsFoldedReady q pairs Done n →
    ((x : ℕ) → x ∈ front → IsFoldedReady q pairs (DoneOr Done (x ∷ [])) n) → IsFoldedReady q pairs (DoneOr Done front) n
folded_ready_after_all q pairs Done front n h f = record {
  leaf = h.leaf;
  not_done = ⊎_elim h.not_done (λ k. (f n k).not_done (inr (inl refl)));
  not_closed = λ c. ⊎_elim h.not_closed (λ (x, k, d). (f x k).not_closed d) (closed_by_one q Done front n c);
  turn = turn_more q Done (DoneOr Done front) n (λ x. inl) h.turn;
  before = λ x m. inl (h.before x m);
  outside = λ part m l (x, k, e). ⊎_elim
      (λ d. finished_more part Done (DoneOr Done front) (λ y p. inl) (h.outside part m l (x, k, d)))
      (λ i. finished_more part (DoneOr Done (x ∷ [])) (DoneOr Done front)
      (λ y p. ⊎_elim inl (λ one. inr (subst (λ z. z ∈ front) (sym (only_one y x one)) i))) ((f x i).outside part m l (x, k, inr (inl refl)))) e;
  begins = λ part m k none x y l p i. inl (h.begins part m k (λ (z, j, d). none (z, j, inl d)) x y l p i);
}

pub folded_pairs_suffice : FoldedPairsSuffice
folded_pairs_suffice q pairs done list =
    let by_step = folded_by_step q pairs in (
      λ all. record { each = each_of_orders by_step (λ n. IsTrue (done n)) list all; two = two_of_orders by_step (λ n. IsTrue (done n)) list all },
      λ side. orders_of_two by_step (λ n. IsTrue (done n)) (folded_ready_after_all q pairs (λ n. IsTrue (done n))) list side.each side.two,
    )
