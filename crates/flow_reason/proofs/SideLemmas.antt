-- What a goal alone tells of a leaf, where some leaves are done, is so of its traces.
use Rattle.std.proofs.Common.{◌≡◌, ℕ, Bool, true, false, ◌||◌, nat_eq, cond, is_some, Option, Some, None, List, [], ◌∷◌, ◌++◌, ◌⊎◌, inl, inr, ⊎_elim, refl, sym, ap, subst, ◌∙◌, true≢false}
use Rattle.std.proofs.lemmas.Bool.{eqb-true}
use Rattle.flow_model.specs.Lists.{◌∈◌, AreDistinct, StandsBefore, joined}
use Rattle.flow_model.specs.Process.{Process, Empty, Task, Sequence, Parallel, Choice, Isolated, leaves}
use Rattle.flow_model.specs.Trace.{Blocks, Shuffle}
use Rattle.flow_model.proofs.Lists.{mem-append, mem_append_left, mem_append_right, distinct_parts, before_across, only_one}
use Rattle.flow_model.proofs.MadeLists.{joined-append, some_same}
use Rattle.flow_laws.proofs.Shuffles.{shuffle_swap, shuffle-append, shuffle-joined, of_shuffle, mem_shuffle_left, mem_shuffle_right, before_in_shuffle}
use Rattle.flow_laws.proofs.TraceLeaves.{joined-as_one, beside, leaf_of_blocks}
use Rattle.flow_reason.specs.Sides.{has, or_else, first, certain, before, other_side}

-- Leaves that pass a test

pub or_true : (a b : Bool) → (a || b) ≡ true → (a ≡ true) ⊎ (b ≡ true)
or_true true b is = inl refl
or_true false b is = inr is

abbrev Passing : (ℕ → Bool) → List ℕ → Type 0
Passing test list = (n : ℕ) × (n ∈ list) × (test n ≡ true)

passing_half : (test : ℕ → Bool) (a b : List ℕ) → Passing test a ⊎ Passing test b → Passing test (a ++ b)
passing_half test a b (inl (n, m, is)) = (n, mem_append_left n a b m, is)
passing_half test a b (inr (n, m, is)) = (n, mem_append_right n a b m, is)

has_in : (test : ℕ → Bool) (g : Process) → has test g ≡ true → Passing test (leaves g)
has_in test Empty is = absurd (true≢false (sym is))
has_in test (Task n) is = (n, inl refl, is)
has_in test (Sequence a b) is =
    passing_half test (leaves a) (leaves b) (⊎_elim (λ l. inl (has_in test a l)) (λ r. inr (has_in test b r)) (or_true (has test a) (has test b) is))
has_in test (Parallel a b) is =
    passing_half test (leaves a) (leaves b) (⊎_elim (λ l. inl (has_in test a l)) (λ r. inr (has_in test b r)) (or_true (has test a) (has test b) is))
has_in test (Choice a b) is =
    passing_half test (leaves a) (leaves b) (⊎_elim (λ l. inl (has_in test a l)) (λ r. inr (has_in test b r)) (or_true (has test a) (has test b) is))
has_in test (Isolated a) is = has_in test a is

-- the leaf that is looked for
pub has_it : (leaf : ℕ) (g : Process) → has (λ n. nat_eq n leaf) g ≡ true → leaf ∈ leaves g
has_it leaf g is = let (n, there, same) = has_in (λ n. nat_eq n leaf) g is in subst (λ m. m ∈ leaves g) (eqb-true n leaf same) there

or_some : (o other : Option ℕ) (n : ℕ) → or_else o other ≡ Some n → (o ≡ Some n) ⊎ (other ≡ Some n)
or_some None other n is = inr is
or_some (Some m) other n is = inl is

abbrev pub IsPassing : (ℕ → Bool) → List ℕ → ℕ → Type 0
IsPassing test list n = (n ∈ list) × (test n ≡ true)

passing_one : (test : ℕ → Bool) (a b : List ℕ) (n : ℕ) → IsPassing test a n ⊎ IsPassing test b n → IsPassing test (a ++ b) n
passing_one test a b n (inl (m, is)) = (mem_append_left n a b m, is)
passing_one test a b n (inr (m, is)) = (mem_append_right n a b m, is)

first_task : (test : ℕ → Bool) (k n : ℕ) (b : Bool) → test k ≡ b → cond b (Some k) None ≡ Some n → IsPassing test (k ∷ []) n
first_task test k n true passes is = let same : k ≡ n = some_same k n is in (inl (sym same), subst (λ m. test m ≡ true) same passes)
first_task test k n false passes is = cc

pub first_in : (test : ℕ → Bool) (g : Process) (n : ℕ) → first test g ≡ Some n → IsPassing test (leaves g) n
first_in test Empty n is = cc
first_in test (Task k) n is = first_task test k n (test k) refl is
first_in test (Sequence a b) n is =
    passing_one test (leaves a) (leaves b) n (⊎_elim (λ l. inl (first_in test a n l)) (λ r. inr (first_in test b n r)) (or_some (first test a) (first test b) n is))
first_in test (Parallel a b) n is =
    passing_one test (leaves a) (leaves b) n (⊎_elim (λ l. inl (first_in test a n l)) (λ r. inr (first_in test b n r)) (or_some (first test a) (first test b) n is))
first_in test (Choice a b) n is =
    passing_one test (leaves a) (leaves b) n (⊎_elim (λ l. inl (first_in test a n l)) (λ r. inr (first_in test b n r)) (or_some (first test a) (first test b) n is))
first_in test (Isolated a) n is = first_in test a n is

-- The halves of what a goal of two is executed as

module _ (a b : Process) (d : AreDistinct (leaves a ++ leaves b)) (x y bs : List (List ℕ)) (ha : Blocks a x) (hb : Blocks b y) (sh : Shuffle x y bs) where
  half_left : (n : ℕ) → n ∈ leaves a → n ∈ joined bs → n ∈ joined x
  half_left n here m =
      ⊎_elim (λ l. l) (λ r. absurd ((distinct_parts (leaves a) (leaves b) d).2 n here (leaf_of_blocks b y hb n r))) (of_shuffle (shuffle-joined sh) n m)

  half_right : (n : ℕ) → n ∈ leaves b → n ∈ joined bs → n ∈ joined y
  half_right n here m =
      ⊎_elim (λ l. absurd ((distinct_parts (leaves a) (leaves b) d).2 n (leaf_of_blocks a x ha n l) here)) (λ r. r) (of_shuffle (shuffle-joined sh) n m)

module _ (done : ℕ → Bool) where
  -- each leaf of the goal that is done is in the list
  abbrev HasDone : Process → List ℕ → Type 0
  HasDone g t = (n : ℕ) → n ∈ leaves g → done n ≡ true → n ∈ t

  -- a leaf of the goal that is not done
  abbrev IsLeft : Process → ℕ → Type 0
  IsLeft g n = (n ∈ leaves g) × (done n ≡ false)

  -- each of some leaves is in the blocks
  abbrev AreIn : Process → List ℕ → Type 0
  AreIn g list = AreDistinct (leaves g) → (bs : List (List ℕ)) → Blocks g bs → HasDone g (joined bs) → (m : ℕ) → m ∈ list → m ∈ joined bs

  both_in : (a b : Process) (p q : List ℕ) → AreIn a p → AreIn b q → AreDistinct (leaves a ++ leaves b) → (bs : List (List ℕ)) → Blocks (Parallel a b) bs →
      HasDone (Parallel a b) (joined bs) → (m : ℕ) → m ∈ (p ++ q) → m ∈ joined bs
  both_in a b p q in_a in_b d bs (x, y, ha, hb, sh) has_done m member =
      let (da, db, apart) = distinct_parts (leaves a) (leaves b) d in
      let s = shuffle-joined sh in
      ⊎_elim
      (λ l. mem_shuffle_left s m (in_a da x ha (λ n here is. half_left a b d x y bs ha hb sh n here (has_done n (mem_append_left n (leaves a) (leaves b) here) is)) m l))
      (λ r. mem_shuffle_right s m (in_b db y hb (λ n here is. half_right a b d x y bs ha hb sh n here (has_done n (mem_append_right n (leaves a) (leaves b) here) is)) m r))
      (mem-append m p q member)

  -- the side that is begun is the one that is executed
  one_in : (a b : Process) (p : List ℕ) → AreIn a p → AreDistinct (leaves a ++ leaves b) → (bs : List (List ℕ)) → Blocks a bs ⊎ Blocks b bs →
      HasDone (Choice a b) (joined bs) → (n : ℕ) → n ∈ leaves a → done n ≡ true → (m : ℕ) → m ∈ p → m ∈ joined bs
  one_in a b p in_a d bs (inl h) has_done n here is m member =
      let (da, db, apart) = distinct_parts (leaves a) (leaves b) d in
      in_a da bs h (λ k in_leaves begun. has_done k (mem_append_left k (leaves a) (leaves b) in_leaves) begun) m member
  one_in a b p in_a d bs (inr h) has_done n here is m member =
      let (da, db, apart) = distinct_parts (leaves a) (leaves b) d in
      absurd (apart n here (leaf_of_blocks b bs h n (has_done n (mem_append_left n (leaves a) (leaves b) here) is)))

  other_in : (a b : Process) (q : List ℕ) → AreIn b q → AreDistinct (leaves a ++ leaves b) → (bs : List (List ℕ)) → Blocks a bs ⊎ Blocks b bs →
      HasDone (Choice a b) (joined bs) → (n : ℕ) → n ∈ leaves b → done n ≡ true → (m : ℕ) → m ∈ q → m ∈ joined bs
  other_in a b q in_b d bs (inr h) has_done n here is m member =
      let (da, db, apart) = distinct_parts (leaves a) (leaves b) d in
      in_b db bs h (λ k in_leaves begun. has_done k (mem_append_right k (leaves a) (leaves b) in_leaves) begun) m member
  other_in a b q in_b d bs (inl h) has_done n here is m member =
      let (da, db, apart) = distinct_parts (leaves a) (leaves b) d in
      absurd (apart n (leaf_of_blocks a bs h n (has_done n (mem_append_right n (leaves a) (leaves b) here) is)) here)

  choice_in : (a b : Process) (p q : List ℕ) → AreIn a p → AreIn b q → AreDistinct (leaves a ++ leaves b) → (bs : List (List ℕ)) → Blocks a bs ⊎ Blocks b bs →
      HasDone (Choice a b) (joined bs) → (o other : Option ℕ) → first done a ≡ o → first done b ≡ other → (m : ℕ) →
      m ∈ cond (is_some o) p (cond (is_some other) q []) → m ∈ joined bs
  choice_in a b p q in_a in_b d bs h has_done (Some n) other is is' m member =
      let (here, begun) = first_in done a n is in one_in a b p in_a d bs h has_done n here begun m member
  choice_in a b p q in_a in_b d bs h has_done None (Some n) is is' m member =
      let (here, begun) = first_in done b n is' in other_in a b q in_b d bs h has_done n here begun m member
  choice_in a b p q in_a in_b d bs h has_done None None is is' m member = absurd member

  task_in : (k : ℕ) (b : Bool) (bs : List (List ℕ)) → bs ≡ (k ∷ []) ∷ [] → (m : ℕ) → m ∈ cond b [] (k ∷ []) → m ∈ joined bs
  task_in k true bs is m member = absurd member
  task_in k false bs is m member = subst (λ l. m ∈ joined l) (sym is) member

  certain_in : (g : Process) → AreIn g (certain done g)
  certain_in Empty d bs h has_done m member = absurd member
  certain_in (Task k) d bs h has_done m member = task_in k (done k) bs h m member
  certain_in (Sequence a b) d bs h has_done m member =
      both_in a b (certain done a) (certain done b) (certain_in a) (certain_in b) d bs (beside a b bs h) has_done m member
  certain_in (Parallel a b) d bs h has_done m member =
      both_in a b (certain done a) (certain done b) (certain_in a) (certain_in b) d bs h has_done m member
  certain_in (Choice a b) d bs h has_done m member =
      choice_in a b (certain done a) (certain done b) (certain_in a) (certain_in b) d bs h has_done (first done a) (first done b) refl refl m member
  certain_in (Isolated a) d bs (x, h, is) has_done m member =
      let same : joined bs ≡ joined x = ap joined is ∙ joined-as_one x in
      subst (λ t. m ∈ t) (sym same) (certain_in a d x h (λ n here begun. subst (λ t. n ∈ t) same (has_done n here begun)) m member)

  -- Which leaves they are

  left_half : (a b : Process) (m : ℕ) → IsLeft a m ⊎ IsLeft b m → (m ∈ (leaves a ++ leaves b)) × (done m ≡ false)
  left_half a b m (inl (here, is)) = (mem_append_left m (leaves a) (leaves b) here, is)
  left_half a b m (inr (here, is)) = (mem_append_right m (leaves a) (leaves b) here, is)

  task_left : (k m : ℕ) (b : Bool) → done k ≡ b → m ∈ cond b [] (k ∷ []) → (m ∈ (k ∷ [])) × (done m ≡ false)
  task_left k m true is member = absurd member
  task_left k m false is member = (member, subst (λ n. done n ≡ false) (sym (only_one m k member)) is)

  choice_left : (a b : Process) (m : ℕ) (p q : List ℕ) (o other : Bool) → (m ∈ p → IsLeft a m) → (m ∈ q → IsLeft b m) → m ∈ cond o p (cond other q []) →
      (m ∈ (leaves a ++ leaves b)) × (done m ≡ false)
  choice_left a b m p q true other left_a left_b member = left_half a b m (inl (left_a member))
  choice_left a b m p q false true left_a left_b member = left_half a b m (inr (left_b member))
  choice_left a b m p q false false left_a left_b member = absurd member

  certain_leaf : (g : Process) (m : ℕ) → m ∈ certain done g → IsLeft g m
  certain_leaf Empty m member = absurd member
  certain_leaf (Task k) m member = task_left k m (done k) refl member
  certain_leaf (Sequence a b) m member =
      left_half a b m (⊎_elim (λ l. inl (certain_leaf a m l)) (λ r. inr (certain_leaf b m r)) (mem-append m (certain done a) (certain done b) member))
  certain_leaf (Parallel a b) m member =
      left_half a b m (⊎_elim (λ l. inl (certain_leaf a m l)) (λ r. inr (certain_leaf b m r)) (mem-append m (certain done a) (certain done b) member))
  certain_leaf (Choice a b) m member =
      choice_left a b m (certain done a) (certain done b) (is_some (first done a)) (is_some (first done b)) (certain_leaf a m) (certain_leaf b m) member
  certain_leaf (Isolated a) m member = certain_leaf a m member

  -- Leaves before a leaf

  module _ (leaf : ℕ) where
    -- the leaf is one of the goal, and the other one that is not done
    abbrev AreLeft : Process → ℕ → Type 0
    AreLeft g m = (leaf ∈ leaves g) × (m ∈ leaves g) × (done m ≡ false)

    both_left : (a b : Process) (m : ℕ) → AreLeft a m ⊎ AreLeft b m → (leaf ∈ (leaves a ++ leaves b)) × (m ∈ (leaves a ++ leaves b)) × (done m ≡ false)
    both_left a b m (inl (l, here, is)) = (mem_append_left leaf (leaves a) (leaves b) l, mem_append_left m (leaves a) (leaves b) here, is)
    both_left a b m (inr (l, here, is)) = (mem_append_right leaf (leaves a) (leaves b) l, mem_append_right m (leaves a) (leaves b) here, is)

    sequence_left : (a b : Process) (m : ℕ) (t : Bool) → has (λ n. nat_eq n leaf) b ≡ t → (m ∈ before done leaf a → AreLeft a m) → (m ∈ before done leaf b → AreLeft b m) →
        m ∈ cond t (certain done a ++ before done leaf b) (before done leaf a) → (leaf ∈ (leaves a ++ leaves b)) × (m ∈ (leaves a ++ leaves b)) × (done m ≡ false)
    sequence_left a b m true is left_a left_b member =
        ⊎_elim
        (λ l. let (here, undone) = certain_leaf a m l in
        (mem_append_right leaf (leaves a) (leaves b) (has_it leaf b is), mem_append_left m (leaves a) (leaves b) here, undone))
        (λ r. both_left a b m (inr (left_b r)))
        (mem-append m (certain done a) (before done leaf b) member)
    sequence_left a b m false is left_a left_b member = both_left a b m (inl (left_a member))

    pub before_leaf : (g : Process) (m : ℕ) → m ∈ before done leaf g → AreLeft g m
    before_leaf Empty m member = absurd member
    before_leaf (Task k) m member = absurd member
    before_leaf (Sequence a b) m member =
        sequence_left a b m (has (λ n. nat_eq n leaf) b) refl (before_leaf a m) (before_leaf b m) member
    before_leaf (Parallel a b) m member =
        both_left a b m (⊎_elim (λ l. inl (before_leaf a m l)) (λ r. inr (before_leaf b m r)) (mem-append m (before done leaf a) (before done leaf b) member))
    before_leaf (Choice a b) m member =
        both_left a b m (⊎_elim (λ l. inl (before_leaf a m l)) (λ r. inr (before_leaf b m r)) (mem-append m (before done leaf a) (before done leaf b) member))
    before_leaf (Isolated a) m member = before_leaf a m member

    -- each of some leaves stands before it
    abbrev AreBefore : Process → List ℕ → Type 0
    AreBefore g list = AreDistinct (leaves g) → (bs : List (List ℕ)) → Blocks g bs → HasDone g (joined bs) → leaf ∈ joined bs → (m : ℕ) → m ∈ list →
        StandsBefore m leaf (joined bs)

    both_before : (a b : Process) → AreBefore a (before done leaf a) → AreBefore b (before done leaf b) → AreDistinct (leaves a ++ leaves b) → (bs : List (List ℕ)) →
        Blocks (Parallel a b) bs → HasDone (Parallel a b) (joined bs) → leaf ∈ joined bs → (m : ℕ) → m ∈ (before done leaf a ++ before done leaf b) →
        StandsBefore m leaf (joined bs)
    both_before a b in_a in_b d bs (x, y, ha, hb, sh) has_done there m member =
        let (da, db, apart) = distinct_parts (leaves a) (leaves b) d in
        let s = shuffle-joined sh in
        ⊎_elim
        (λ l. before_in_shuffle s m leaf (in_a da x ha
        (λ n here is. half_left a b d x y bs ha hb sh n here (has_done n (mem_append_left n (leaves a) (leaves b) here) is))
        (half_left a b d x y bs ha hb sh leaf (before_leaf a m l).0 there) m l))
        (λ r. before_in_shuffle (shuffle_swap s) m leaf (in_b db y hb
        (λ n here is. half_right a b d x y bs ha hb sh n here (has_done n (mem_append_right n (leaves a) (leaves b) here) is))
        (half_right a b d x y bs ha hb sh leaf (before_leaf b m r).0 there) m r))
        (mem-append m (before done leaf a) (before done leaf b) member)

    sequence_before : (a b : Process) → AreBefore a (before done leaf a) → AreBefore b (before done leaf b) → AreDistinct (leaves a ++ leaves b) → (bs : List (List ℕ)) →
        Blocks (Sequence a b) bs → HasDone (Sequence a b) (joined bs) → leaf ∈ joined bs → (m : ℕ) → (t : Bool) → has (λ n. nat_eq n leaf) b ≡ t →
        m ∈ cond t (certain done a ++ before done leaf b) (before done leaf a) → StandsBefore m leaf (joined bs)
    sequence_before a b in_a in_b d bs h has_done there m true is member =
        ⊎_elim
        (λ l.
        let (x, y, ha, hb, e) = h in
        let (da, db, apart) = distinct_parts (leaves a) (leaves b) d in
        let sh : Shuffle x y bs = subst (Shuffle x y) (sym e) (shuffle-append x y) in
        let whole : joined bs ≡ joined x ++ joined y = ap joined e ∙ joined-append x y in
        let first_part : m ∈ joined x = certain_in a da x ha
        (λ n here begun. half_left a b d x y bs ha hb sh n here (has_done n (mem_append_left n (leaves a) (leaves b) here) begun)) m l in
        let second_part : leaf ∈ joined y = half_right a b d x y bs ha hb sh leaf (has_it leaf b is) there in
        subst (StandsBefore m leaf) (sym whole) (before_across m leaf (joined x) (joined y) first_part second_part))
        (λ r. both_before a b in_a in_b d bs (beside a b bs h) has_done there m (mem_append_right m (before done leaf a) (before done leaf b) r))
        (mem-append m (certain done a) (before done leaf b) member)
    sequence_before a b in_a in_b d bs h has_done there m false is member =
        both_before a b in_a in_b d bs (beside a b bs h) has_done there m (mem_append_left m (before done leaf a) (before done leaf b) member)

    choice_before : (a b : Process) → AreBefore a (before done leaf a) → AreBefore b (before done leaf b) → AreDistinct (leaves a ++ leaves b) → (bs : List (List ℕ)) →
        Blocks a bs ⊎ Blocks b bs → HasDone (Choice a b) (joined bs) → leaf ∈ joined bs → (m : ℕ) →
        (m ∈ before done leaf a) ⊎ (m ∈ before done leaf b) → StandsBefore m leaf (joined bs)
    choice_before a b in_a in_b d bs (inl h) has_done there m (inl l) =
        let (da, db, apart) = distinct_parts (leaves a) (leaves b) d in
        in_a da bs h (λ n here begun. has_done n (mem_append_left n (leaves a) (leaves b) here) begun) there m l
    choice_before a b in_a in_b d bs (inr h) has_done there m (inr r) =
        let (da, db, apart) = distinct_parts (leaves a) (leaves b) d in
        in_b db bs h (λ n here begun. has_done n (mem_append_right n (leaves a) (leaves b) here) begun) there m r
    choice_before a b in_a in_b d bs (inl h) has_done there m (inr r) =
        let (da, db, apart) = distinct_parts (leaves a) (leaves b) d in
        absurd (apart leaf (leaf_of_blocks a bs h leaf there) (before_leaf b m r).0)
    choice_before a b in_a in_b d bs (inr h) has_done there m (inl l) =
        let (da, db, apart) = distinct_parts (leaves a) (leaves b) d in
        absurd (apart leaf (before_leaf a m l).0 (leaf_of_blocks b bs h leaf there))

    pub before_in : (g : Process) → AreBefore g (before done leaf g)
    before_in Empty d bs h has_done there m member = absurd member
    before_in (Task k) d bs h has_done there m member = absurd member
    before_in (Sequence a b) d bs h has_done there m member =
        sequence_before a b (before_in a) (before_in b) d bs h has_done there m (has (λ n. nat_eq n leaf) b) refl member
    before_in (Parallel a b) d bs h has_done there m member = both_before a b (before_in a) (before_in b) d bs h has_done there m member
    before_in (Choice a b) d bs h has_done there m member =
        choice_before a b (before_in a) (before_in b) d bs h has_done there m (mem-append m (before done leaf a) (before done leaf b) member)
    before_in (Isolated a) d bs (x, h, is) has_done there m member =
        let same : joined bs ≡ joined x = ap joined is ∙ joined-as_one x in
        subst (StandsBefore m leaf) (sym same)
        (before_in a d x h (λ n here begun. subst (λ t. n ∈ t) same (has_done n here begun)) (subst (λ t. leaf ∈ t) same there) m member)

    -- A leaf on the other side

    -- it is done, and no trace has both
    abbrev Excludes : Process → ℕ → Type 0
    Excludes g m = (leaf ∈ leaves g) × (m ∈ leaves g) × (done m ≡ true) × ((bs : List (List ℕ)) → Blocks g bs → leaf ∈ joined bs → ¬ (m ∈ joined bs))

    both_exclude : (a b : Process) → AreDistinct (leaves a ++ leaves b) → (m : ℕ) → Excludes a m ⊎ Excludes b m → Excludes (Parallel a b) m
    both_exclude a b d m (inl (l, here, is, none)) = (
      mem_append_left leaf (leaves a) (leaves b) l,
      mem_append_left m (leaves a) (leaves b) here,
      is,
      λ bs (x, y, ha, hb, sh) there other. none x ha (half_left a b d x y bs ha hb sh leaf l there) (half_left a b d x y bs ha hb sh m here other),
    )
    both_exclude a b d m (inr (l, here, is, none)) = (
      mem_append_right leaf (leaves a) (leaves b) l,
      mem_append_right m (leaves a) (leaves b) here,
      is,
      λ bs (x, y, ha, hb, sh) there other. none y hb (half_right a b d x y bs ha hb sh leaf l there) (half_right a b d x y bs ha hb sh m here other),
    )

    sequence_excludes : (a b : Process) (m : ℕ) → Excludes (Parallel a b) m → Excludes (Sequence a b) m
    sequence_excludes a b m (l, here, is, none) = (l, here, is, λ bs h. none bs (beside a b bs h))

    -- one on either side
    sides_exclude : (a b : Process) → AreDistinct (leaves a ++ leaves b) → (m : ℕ) → done m ≡ true →
        ((leaf ∈ leaves a) × (m ∈ leaves b)) ⊎ ((leaf ∈ leaves b) × (m ∈ leaves a)) → Excludes (Choice a b) m
    sides_exclude a b d m is (inl (l, here)) =
        let apart = (distinct_parts (leaves a) (leaves b) d).2 in (
          mem_append_left leaf (leaves a) (leaves b) l,
          mem_append_right m (leaves a) (leaves b) here,
          is,
          λ bs h there other. ⊎_elim (λ k. apart m (leaf_of_blocks a bs k m other) here) (λ k. apart leaf l (leaf_of_blocks b bs k leaf there)) h,
        )
    sides_exclude a b d m is (inr (l, here)) =
        let apart = (distinct_parts (leaves a) (leaves b) d).2 in (
          mem_append_right leaf (leaves a) (leaves b) l,
          mem_append_left m (leaves a) (leaves b) here,
          is,
          λ bs h there other. ⊎_elim (λ k. apart leaf (leaf_of_blocks a bs k leaf there) l) (λ k. apart m here (leaf_of_blocks b bs k m other)) h,
        )

    -- both on one side
    side_excludes : (a b : Process) → AreDistinct (leaves a ++ leaves b) → (m : ℕ) → Excludes a m ⊎ Excludes b m → Excludes (Choice a b) m
    side_excludes a b d m (inl (l, here, is, none)) =
        let apart = (distinct_parts (leaves a) (leaves b) d).2 in (
          mem_append_left leaf (leaves a) (leaves b) l,
          mem_append_left m (leaves a) (leaves b) here,
          is,
          λ bs h there other. ⊎_elim (λ k. none bs k there other) (λ k. apart leaf l (leaf_of_blocks b bs k leaf there)) h,
        )
    side_excludes a b d m (inr (l, here, is, none)) =
        let apart = (distinct_parts (leaves a) (leaves b) d).2 in (
          mem_append_right leaf (leaves a) (leaves b) l,
          mem_append_right m (leaves a) (leaves b) here,
          is,
          λ bs h there other. ⊎_elim (λ k. apart leaf (leaf_of_blocks a bs k leaf there) l) (λ k. none bs k there other) h,
        )

    choice_excludes : (a b : Process) → AreDistinct (leaves a ++ leaves b) → (m : ℕ) → (other_side done leaf a ≡ Some m → Excludes a m) →
        (other_side done leaf b ≡ Some m → Excludes b m) → (s t : Bool) → has (λ n. nat_eq n leaf) a ≡ s → has (λ n. nat_eq n leaf) b ≡ t →
        cond s (or_else (first done b) (other_side done leaf a)) (cond t (or_else (first done a) (other_side done leaf b)) None) ≡ Some m → Excludes (Choice a b) m
    choice_excludes a b d m in_a in_b true t has_a has_b is =
        ⊎_elim
        (λ f. let (here, begun) = first_in done b m f in sides_exclude a b d m begun (inl (has_it leaf a has_a, here)))
        (λ o. side_excludes a b d m (inl (in_a o)))
        (or_some (first done b) (other_side done leaf a) m is)
    choice_excludes a b d m in_a in_b false true has_a has_b is =
        ⊎_elim
        (λ f. let (here, begun) = first_in done a m f in sides_exclude a b d m begun (inr (has_it leaf b has_b, here)))
        (λ o. side_excludes a b d m (inr (in_b o)))
        (or_some (first done a) (other_side done leaf b) m is)
    choice_excludes a b d m in_a in_b false false has_a has_b is = cc

    pub other_excludes : (g : Process) → AreDistinct (leaves g) → (m : ℕ) → other_side done leaf g ≡ Some m → Excludes g m
    other_excludes Empty d m is = cc
    other_excludes (Task k) d m is = cc
    other_excludes (Sequence a b) d m is =
        let (da, db, apart) = distinct_parts (leaves a) (leaves b) d in
        sequence_excludes a b m (both_exclude a b d m
        (⊎_elim (λ l. inl (other_excludes a da m l)) (λ r. inr (other_excludes b db m r)) (or_some (other_side done leaf a) (other_side done leaf b) m is)))
    other_excludes (Parallel a b) d m is =
        let (da, db, apart) = distinct_parts (leaves a) (leaves b) d in
        both_exclude a b d m
        (⊎_elim (λ l. inl (other_excludes a da m l)) (λ r. inr (other_excludes b db m r)) (or_some (other_side done leaf a) (other_side done leaf b) m is))
    other_excludes (Choice a b) d m is =
        let (da, db, apart) = distinct_parts (leaves a) (leaves b) d in
        choice_excludes a b d m (other_excludes a da m) (other_excludes b db m) (has (λ n. nat_eq n leaf) a) (has (λ n. nat_eq n leaf) b) refl refl is
    other_excludes (Isolated a) d m is =
        let (l, here, begun, none) = other_excludes a d m is in (
          l,
          here,
          begun,
          λ bs (x, h, e) there other.
              let same : joined bs ≡ joined x = ap joined e ∙ joined-as_one x in
              none x h (subst (λ t. leaf ∈ t) same there) (subst (λ t. m ∈ t) same other),
        )
