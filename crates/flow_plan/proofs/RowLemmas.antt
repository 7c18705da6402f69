-- What rows of bits say.
use Rattle.std.proofs.lemmas.Bool.{or_cases, or_left, or_right}
use Rattle.std.proofs.Common.{◌≡◌, ◌≢◌, ℕ, ◌+◌, ◌<◌, zero, suc, Bool, false, ◌==◌, ◌||◌, IsTrue, eq-eqb, eqb-true, take, get_or, List, [], ◌∷◌, ◌++◌, length, set, Some, slice_get, inl, inr, ◌⊎◌, ◌↔◌, ⊎_elim, refl, sym, ◌∙◌, ap, subst, arith}
use Rattle.std.proofs.lemmas.List.{take_more, map-append}
use Rattle.leaf_rows.specs.Leaves.{has_leaf}
use Rattle.leaf_rows.specs.declared.leaf_set.LeafSet.{LeafSet}
use Rattle.flow_model.specs.Lists.{◌∈◌, Each, AreDistinct}
use Rattle.flow_model.specs.Process.{Process, Sequence, Parallel, leaves}
use Rattle.flow_model.specs.Ready.{InSequence, DirectlyBefore}
use Rattle.flow_model.specs.Folding.{fixed_leaves}
use Rattle.flow_model.proofs.Lists.{mem_append_left, mem_append_right, mem-append, only_one, each_member, distinct_apart, mem-slice_get}
use Rattle.flow_laws.proofs.GoalParts.{sequence_second}
use Rattle.flow_fold_laws.specs.Unfolding.{IsFoldedOrdered}
use Rattle.flow_fold_laws.proofs.Unfoldings.{fixed_in_goal}
use Rattle.flow_plan.specs.declared.token.OrderToken.{OrderToken}
use Rattle.flow_plan.specs.Planned.{pairs_of}
use Rattle.flow_plan.specs.Rows.{IsRowOf, AreRowsOf, HasRows}

-- a test of one number more
pub one_more : (x n : ℕ) (b : Bool) → IsTrue (x == n || b) ↔ (IsTrue b ⊎ (x ∈ (n ∷ [])))
one_more x n b = (
  λ h. ⊎_elim (λ same. inr (inl (eqb-true x n same))) (λ d. inl d) (or_cases (x == n) b h),
  λ either. ⊎_elim (λ d. or_right (x == n) b d) (λ last. ⊎_elim (λ same. or_left (x == n) b (eq-eqb x n same)) (λ none. absurd none) last) either,
)

-- the leaves at one place more
pub mem_more : (ns : List ℕ) (i : ℕ) → i < length ns → (x : ℕ) → x ∈ take (i + 1) ns ↔ ((x ∈ take i ns) ⊎ (x ≡ get_or ns i 0))
mem_more ns i within x = rw (take_more ns i 0 within) (
  λ member. ⊎_elim (λ h. inl h) (λ last. inr (only_one x _ last)) (mem-append x (take i ns) (get_or ns i 0 ∷ []) member),
  λ either. ⊎_elim (λ h. mem_append_left x (take i ns) _ h) (λ same. mem_append_right x (take i ns) (get_or ns i 0 ∷ []) (inl same)) either,
)

-- ---- one row

pub row_same : {w : ℕ} → (P Q : ℕ → Type 0) (row : LeafSet w) → ((x : ℕ) → P x → Q x) → ((x : ℕ) → Q x → P x) → IsRowOf P row → IsRowOf Q row
row_same P Q row to from is x = (λ has. to x ((is x).0 has), λ holds. (is x).1 (from x holds))

-- ---- rows

pub rows_same : {w : ℕ} → (P Q : ℕ → ℕ → Type 0) (ns : List ℕ) (rows : List (LeafSet w)) →
    ((n : ℕ) → n ∈ ns → (x : ℕ) → P x n → Q x n) → ((n : ℕ) → n ∈ ns → (x : ℕ) → Q x n → P x n) →
    AreRowsOf P ns rows → AreRowsOf Q ns rows
rows_same P Q [] [] to from are = tt
rows_same P Q [] (row ∷ rows) to from are = are
rows_same P Q (n ∷ ns) [] to from are = are
rows_same P Q (n ∷ ns) (row ∷ rows) to from are = (
  row_same (λ x. P x n) (λ x. Q x n) row (to n (inl refl)) (from n (inl refl)) are.0,
  rows_same P Q ns rows (λ m member. to m (inr member)) (λ m member. from m (inr member)) are.1,
)

pub rows_append : {w : ℕ} → (P : ℕ → ℕ → Type 0) (ns ms : List ℕ) (rows more : List (LeafSet w)) →
    AreRowsOf P ns rows → AreRowsOf P ms more → AreRowsOf P (ns ++ ms) (rows ++ more)
rows_append P [] ms [] more are and = and
rows_append P [] ms (row ∷ rows) more are and = absurd are
rows_append P (n ∷ ns) ms [] more are and = absurd are
rows_append P (n ∷ ns) ms (row ∷ rows) more are and = (are.0, rows_append P ns ms rows more are.1 and)

pub rows_length : {w : ℕ} → (P : ℕ → ℕ → Type 0) (ns : List ℕ) (rows : List (LeafSet w)) → AreRowsOf P ns rows → length rows ≡ length ns
rows_length P [] [] are = refl
rows_length P [] (row ∷ rows) are = absurd are
rows_length P (n ∷ ns) [] are = absurd are
rows_length P (n ∷ ns) (row ∷ rows) are = omega (arith, rows_length P ns rows are.1)

-- the row of one leaf is changed
pub rows_set : {w : ℕ} → (P Q : ℕ → ℕ → Type 0) (ns : List ℕ) (rows : List (LeafSet w)) (k n : ℕ) (new : LeafSet w) → slice_get ns k ≡ Some n →
    AreDistinct ns → AreRowsOf P ns rows → IsRowOf (λ x. Q x n) new →
    ((m : ℕ) → m ≢ n → (x : ℕ) → P x m → Q x m) → ((m : ℕ) → m ≢ n → (x : ℕ) → Q x m → P x m) → AreRowsOf Q ns (set rows k new)
rows_set P Q [] rows k n new at distinct are is to from = absurd (cc)
rows_set P Q (m ∷ ns) [] k n new at distinct are is to from = absurd are
rows_set P Q (m ∷ ns) (row ∷ rows) zero n new at distinct are is to from =
    let same : n ≡ m = cc in
    let Is : ℕ → Type 0 = λ n. IsRowOf (λ x. Q x n) new in
    let other : (l : ℕ) → l ∈ ns → l ≢ n = λ l member equal. distinct.0 (subst (λ (i : ℕ). i ∈ ns) (equal ∙ same) member) in (
      subst Is same is,
      rows_same P Q ns rows (λ l member. to l (other l member)) (λ l member. from l (other l member)) are.1,
    )
rows_set P Q (m ∷ ns) (row ∷ rows) (suc k) n new at distinct are is to from =
    let other : m ≢ n = λ equal. distinct.0 (subst (λ (i : ℕ). i ∈ ns) (sym equal) (mem-slice_get ns k n at)) in (
      row_same (λ x. P x m) (λ x. Q x m) row (to m other) (from m other) are.0,
      rows_set P Q ns rows k n new at distinct.1 are.1 is to from,
    )

-- a row that was pushed stands last, and is changed there
set_last : {w : ℕ} → (rows : List (LeafSet w)) (row new : LeafSet w) → set (rows ++ row ∷ []) (length rows) new ≡ rows ++ new ∷ []
set_last [] row new = refl
set_last (first ∷ rows) row new = ap (λ l. first ∷ l) (set_last rows row new)

last_or : {w : ℕ} → (rows : List (LeafSet w)) (row d : LeafSet w) → get_or (rows ++ row ∷ []) (length rows) d ≡ row
last_or [] row d = refl
last_or (first ∷ rows) row d = last_or rows row d

pub last_changed : {w : ℕ} → (rows pushed : List (LeafSet w)) (row new : LeafSet w) (k : ℕ) → pushed ≡ rows ++ row ∷ [] → k ≡ length rows → set pushed k new ≡ rows ++ new ∷ []
last_changed {w} rows pushed row new k e f =
    ap (λ (l : List (LeafSet w)). set l k new) e ∙ ap (λ (j : ℕ). set (rows ++ row ∷ []) j new) f ∙ set_last rows row new

pub last_stands : {w : ℕ} → (rows pushed : List (LeafSet w)) (row lent : LeafSet w) (k : ℕ) → pushed ≡ rows ++ row ∷ [] → k ≡ length rows → lent ≡ get_or pushed k lent → lent ≡ row
last_stands {w} rows pushed row lent k e f is =
    is ∙ ap (λ (l : List (LeafSet w)). get_or l k lent) e ∙ ap (λ (j : ℕ). get_or (rows ++ row ∷ []) j lent) f ∙ last_or rows row lent

-- ---- the rows of a goal

-- in a sequence the leaves of the first part are ahead of the second
pub has_sequence : {w : ℕ} → (a b : Process) (ahead more : ℕ → Bool) (one two : List (LeafSet w)) → AreDistinct (leaves a ++ leaves b) →
    ((x : ℕ) → IsTrue (more x) ↔ (IsTrue (ahead x) ⊎ (x ∈ leaves a))) → HasRows a ahead one → HasRows b more two → HasRows (Sequence a b) ahead (one ++ two)
has_sequence a b ahead more one two distinct more_is has_a has_b =
    let P : ℕ → ℕ → Type 0 = λ x n. IsTrue (ahead x) ⊎ InSequence (Sequence a b) x n in
    rows_append P (leaves a) (leaves b) one two
    (rows_same (λ x n. IsTrue (ahead x) ⊎ InSequence a x n) P (leaves a) one
    (λ n member x either. ⊎_elim (λ h. inl h) (λ h. inr (inl (inr h))) either)
    (λ n member x either. ⊎_elim (λ h. inl h)
    (λ before. ⊎_elim (λ in_a. ⊎_elim (λ (cross : (x ∈ leaves a) × (n ∈ leaves b)). absurd (distinct_apart (leaves a) (leaves b) distinct n member cross.1)) (λ h. inr h) in_a)
    (λ in_b. absurd (distinct_apart (leaves a) (leaves b) distinct n member (sequence_second b x n in_b))) before) either)
    has_a)
    (rows_same (λ x n. IsTrue (more x) ⊎ InSequence b x n) P (leaves b) two
    (λ n member x either. ⊎_elim
    (λ h. ⊎_elim (λ ahead_has. inl ahead_has) (λ in_a. inr (inl (inl (in_a, member)))) ((more_is x).0 h))
    (λ h. inr (inr h)) either)
    (λ n member x either. ⊎_elim (λ h. inl ((more_is x).1 (inl h)))
    (λ before. ⊎_elim (λ in_a. ⊎_elim (λ (cross : (x ∈ leaves a) × (n ∈ leaves b)). inl ((more_is x).1 (inr cross.0)))
    (λ h. absurd (distinct_apart (leaves a) (leaves b) distinct n (sequence_second a x n h) member)) in_a)
    (λ h. inr h) before) either)
    has_b)

-- beside one another no part says anything of the other
pub has_parallel : {w : ℕ} → (a b : Process) (ahead : ℕ → Bool) (one two : List (LeafSet w)) → AreDistinct (leaves a ++ leaves b) →
    HasRows a ahead one → HasRows b ahead two → HasRows (Parallel a b) ahead (one ++ two)
has_parallel a b ahead one two distinct has_a has_b =
    let P : ℕ → ℕ → Type 0 = λ x n. IsTrue (ahead x) ⊎ InSequence (Parallel a b) x n in
    rows_append P (leaves a) (leaves b) one two
    (rows_same (λ x n. IsTrue (ahead x) ⊎ InSequence a x n) P (leaves a) one
    (λ n member x either. ⊎_elim (λ h. inl h) (λ h. inr (inl h)) either)
    (λ n member x either. ⊎_elim (λ h. inl h)
    (λ before. ⊎_elim (λ h. inr h) (λ h. absurd (distinct_apart (leaves a) (leaves b) distinct n member (sequence_second b x n h))) before) either)
    has_a)
    (rows_same (λ x n. IsTrue (ahead x) ⊎ InSequence b x n) P (leaves b) two
    (λ n member x either. ⊎_elim (λ h. inl h) (λ h. inr (inr h)) either)
    (λ n member x either. ⊎_elim (λ h. inl h)
    (λ before. ⊎_elim (λ h. absurd (distinct_apart (leaves a) (leaves b) distinct n (sequence_second a x n h) member)) (λ h. inr h) before) either)
    has_b)

-- the rows of the whole goal, of which nothing is ahead
pub first_rows : {w : ℕ} → (g : Process) (ahead : ℕ → Bool) (rows : List (LeafSet w)) → ((x : ℕ) → ahead x ≡ false) → HasRows g ahead rows →
    AreRowsOf (InSequence g) (leaves g) rows
first_rows g ahead rows empty has = rows_same (λ x n. IsTrue (ahead x) ⊎ InSequence g x n) (InSequence g) (leaves g) rows
    (λ n member x either. ⊎_elim (λ h. let no = empty x in absurd (cc)) (λ h. h) either)
    (λ n member x h. inr h) has

-- ---- the rows of a plan

pub rows_get : {w : ℕ} → (P : ℕ → ℕ → Type 0) (ns : List ℕ) (rows : List (LeafSet w)) (k n : ℕ) (row d : LeafSet w) → slice_get ns k ≡ Some n →
    row ≡ get_or rows k d → AreRowsOf P ns rows → IsRowOf (λ x. P x n) row
rows_get P [] rows k n row d at is are = absurd (cc)
rows_get P (m ∷ ns) [] k n row d at is are = absurd are
rows_get {w} P (m ∷ ns) (first ∷ rows) zero n row d at is are =
    let same : m ≡ n = cc in
    let Is : ℕ → LeafSet w → Type 0 = λ n row. IsRowOf (λ x. P x n) row in
    subst (λ (l : ℕ). Is l row) same (subst (λ (r : LeafSet w). Is m r) (sym is) are.0)
rows_get P (m ∷ ns) (first ∷ rows) (suc k) n row d at is are = rows_get P ns rows k n row d at is are.1

-- one pair more
direct_more : (q : Process) (pairs : List (ℕ × ℕ)) (s r x n : ℕ) → DirectlyBefore q (pairs ++ (s, r) ∷ []) x n →
    DirectlyBefore q pairs x n ⊎ ((x ≡ s) × (n ≡ r))
direct_more q pairs s r x n (inl order) = inl (inl order)
direct_more q pairs s r x n (inr member) = ⊎_elim
    (λ h. inl (inr h))
    (λ last. ⊎_elim (λ (same : (x, n) ≡ (s, r)). inr (ap (λ (p : ℕ × ℕ). p.0) same, ap (λ (p : ℕ × ℕ). p.1) same)) (λ none. absurd none) last)
    (mem-append (x, n) pairs ((s, r) ∷ []) member)

direct_still : (q : Process) (pairs : List (ℕ × ℕ)) (s r x n : ℕ) → DirectlyBefore q pairs x n → DirectlyBefore q (pairs ++ (s, r) ∷ []) x n
direct_still q pairs s r x n (inl order) = inl order
direct_still q pairs s r x n (inr member) = inr (mem_append_left (x, n) pairs ((s, r) ∷ []) member)

direct_last : (q : Process) (pairs : List (ℕ × ℕ)) (s r x n : ℕ) → x ≡ s → n ≡ r → DirectlyBefore q (pairs ++ (s, r) ∷ []) x n
direct_last q pairs s r x n first second =
    inr (mem_append_right (x, n) pairs ((s, r) ∷ []) (inl (λ i. (first i, second i))))

-- the sender of a pair goes into the row of its receiver
pub rows_with_sender : {w : ℕ} → (q : Process) (pairs : List (ℕ × ℕ)) (s r : ℕ) (ns : List ℕ) (rows : List (LeafSet w)) (k : ℕ) (row new : LeafSet w) →
    slice_get ns k ≡ Some r → AreDistinct ns → AreRowsOf (DirectlyBefore q pairs) ns rows → row ≡ get_or rows k row →
    ((x : ℕ) → has_leaf new x ≡ (x == s || has_leaf row x)) → AreRowsOf (DirectlyBefore q (pairs ++ (s, r) ∷ [])) ns (set rows k new)
rows_with_sender q pairs s r ns rows k row new at distinct are is noted =
    let old = rows_get (DirectlyBefore q pairs) ns rows k r row row at is are in
    rows_set (DirectlyBefore q pairs) (DirectlyBefore q (pairs ++ (s, r) ∷ [])) ns rows k r new at distinct are
    (λ x. (
      λ has. ⊎_elim (λ same. direct_last q pairs s r x r (eqb-true x s same) refl) (λ h. direct_still q pairs s r x r ((old x).0 h))
          (or_cases (x == s) (has_leaf row x) (sym (noted x) ∙ has)),
      λ direct. noted x ∙ ⊎_elim (λ h. or_right (x == s) (has_leaf row x) ((old x).1 h))
          (λ (same : (x ≡ s) × (r ≡ r)). or_left (x == s) (has_leaf row x) (eq-eqb x s same.0))
          (direct_more q pairs s r x r direct),
    ))
    (λ m other x direct. direct_still q pairs s r x m direct)
    (λ m other x direct. ⊎_elim (λ h. h) (λ (same : (x ≡ s) × (m ≡ r)). absurd (other same.1)) (direct_more q pairs s r x m direct))

-- a pair whose receiver is no leaf changes nothing
pub rows_without : {w : ℕ} → (q : Process) (pairs : List (ℕ × ℕ)) (s r : ℕ) (ns : List ℕ) (rows : List (LeafSet w)) → ¬ (r ∈ ns) →
    AreRowsOf (DirectlyBefore q pairs) ns rows → AreRowsOf (DirectlyBefore q (pairs ++ (s, r) ∷ [])) ns rows
rows_without q pairs s r ns rows missing are =
    rows_same (DirectlyBefore q pairs) (DirectlyBefore q (pairs ++ (s, r) ∷ [])) ns rows
    (λ n member x direct. direct_still q pairs s r x n direct)
    (λ n member x direct. ⊎_elim (λ h. h) (λ (same : (x ≡ s) × (n ≡ r)). absurd (missing (subst (λ (l : ℕ). l ∈ ns) same.1 member)))
    (direct_more q pairs s r x n direct)) are

-- with no pair what is directly before is in sequence
pub rows_unpaired : {w : ℕ} → (q : Process) (ns : List ℕ) (rows : List (LeafSet w)) → AreRowsOf (InSequence q) ns rows → AreRowsOf (DirectlyBefore q []) ns rows
rows_unpaired q ns rows are = rows_same (InSequence q) (DirectlyBefore q []) ns rows
    (λ n member x order. inl order) (λ n member x direct. ⊎_elim (λ h. h) (λ none. absurd none) direct) are

-- the pairs of one token more
pub pairs_more : (tokens : List OrderToken) (i : ℕ) (d : OrderToken) → i < length tokens →
    pairs_of (take (i + 1) tokens) ≡ pairs_of (take i tokens) ++ ((get_or tokens i d).sender, (get_or tokens i d).receiver) ∷ []
pairs_more tokens i d within = ap pairs_of (take_more tokens i d within) ∙ map-append (λ (t : OrderToken). (t.sender, t.receiver)) (take i tokens) (get_or tokens i d ∷ [])

-- the senders of pairs of leaves are as small as the leaves
senders_below : (bound : ℕ) (g : Process) (tokens : List OrderToken) → ((n : ℕ) → n ∈ fixed_leaves g → n < bound) →
    Each (λ pair. (pair.0 ∈ fixed_leaves g) × (pair.1 ∈ fixed_leaves g)) (pairs_of tokens) →
    (k : ℕ) (d : OrderToken) → k < length tokens → (get_or tokens k d).sender < bound
senders_below bound g [] small of_fixed k d within = absurd (omega arith)
senders_below bound g (t ∷ ts) small of_fixed zero d within = small t.sender of_fixed.0.0
senders_below bound g (t ∷ ts) small of_fixed (suc k) d within = senders_below bound g ts small of_fixed.1 k d (omega arith)

pub senders_small : (bound : ℕ) (g : Process) (ns : List ℕ) (tokens : List OrderToken) → ns ≡ leaves g → Each (λ n. n < bound) ns → IsFoldedOrdered g (pairs_of tokens) →
    (k : ℕ) (d : OrderToken) → k < length tokens → (get_or tokens k d).sender < bound
senders_small bound g ns tokens listed small ordered = senders_below bound g tokens
    (λ n m. each_member (λ n. n < bound) ns small n (subst (λ (l : List ℕ). n ∈ l) (sym listed) (fixed_in_goal g n m))) ordered.of_fixed
