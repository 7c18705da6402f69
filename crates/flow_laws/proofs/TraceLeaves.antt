-- What the executions of a goal hold.
use Rattle.std.proofs.Common.{◌≡◌, ℕ, List, [], ◌∷◌, ◌++◌, refl, sym, ap, ◌∙◌, subst, inl, ⊎_elim, append-nil}
use Rattle.flow_model.specs.Lists.{◌∈◌, AreDistinct, joined}
use Rattle.flow_model.specs.Process.{Process, Empty, Task, Sequence, Parallel, Choice, Isolated, leaves, IsChoiceFree}
use Rattle.flow_model.specs.Trace.{Blocks, Trace, Shuffle, both_end, from_left, from_right, as_one}
use Rattle.flow_model.proofs.Lists.{mem-append, distinct_parts, mem_by_halves}
use Rattle.flow_laws.proofs.Shuffles.{shuffle-append, shuffle-joined, of_shuffle, mem_shuffle_left, mem_shuffle_right, distinct-shuffle, mem_shuffle}

pub joined-as_one : (bs : List (List ℕ)) → joined (as_one bs) ≡ joined bs
joined-as_one [] = refl
joined-as_one (b ∷ bs) = append-nil (b ++ joined bs)

-- an execution of a sequence is one of its halves beside one another
pub beside : (a b : Process) (bs : List (List ℕ)) → Blocks (Sequence a b) bs → Blocks (Parallel a b) bs
beside a b bs (x, y, ha, hb, e) = (x, y, ha, hb, subst (Shuffle x y) (sym e) (shuffle-append x y))

-- each goal has an execution
pub some_blocks : (g : Process) → (bs : List (List ℕ)) × Blocks g bs
some_blocks Empty = ([], refl)
some_blocks (Task n) = ((n ∷ []) ∷ [], refl)
some_blocks (Sequence a b) =
    let (x, hx) = some_blocks a in let (y, hy) = some_blocks b in (x ++ y, (x, y, hx, hy, refl))
some_blocks (Parallel a b) =
    let (x, hx) = some_blocks a in let (y, hy) = some_blocks b in (x ++ y, (x, y, hx, hy, shuffle-append x y))
some_blocks (Choice a b) = let (x, hx) = some_blocks a in (x, inl hx)
some_blocks (Isolated a) = let (x, hx) = some_blocks a in (as_one x, (x, hx, refl))

-- Members of an execution

no_shuffle : {a b c : List (List ℕ)} → Shuffle a b c → a ≡ [] → b ≡ [] → c ≡ []
no_shuffle both_end e k = refl
no_shuffle (from_left s) e k = cc
no_shuffle (from_right s) e k = cc

-- of blocks whose leaves are to be these: each leaf that is done is one of them, each of them is done where no choice is
-- left, none is done twice where none stands twice, and where none is done there is no block
record AreDone (is_choice_free : Type 0) (list : List ℕ) (bs : List (List ℕ)) : Type 0 where
  of_goal : (n : ℕ) → n ∈ joined bs → n ∈ list
  all : is_choice_free → (n : ℕ) → n ∈ list → n ∈ joined bs
  once : AreDistinct list → AreDistinct (joined bs)
  none : ((n : ℕ) → ¬ (n ∈ joined bs)) → bs ≡ []

halves_done : (P Q : Type 0) (a b : List ℕ) (x y bs : List (List ℕ)) → AreDone P a x → AreDone Q b y → Shuffle x y bs → AreDone (P × Q) (a ++ b) bs
halves_done P Q a b x y bs p q t = let s = shuffle-joined t in record {
  of_goal = λ n m. mem_by_halves n a b (p.of_goal n) (q.of_goal n) (of_shuffle s n m);
  all = λ (f, g) n m. mem_shuffle s n (p.all f n) (q.all g n) (mem-append n a b m);
  once = λ d. let (da, db, apart) = distinct_parts a b d in
      distinct-shuffle s (p.once da) (q.once db) (λ n m k. apart n (p.of_goal n m) (q.of_goal n k));
  none = λ no. no_shuffle t (p.none (λ n m. no n (mem_shuffle_left s n m))) (q.none (λ n m. no n (mem_shuffle_right s n m)));
}

are_done : (g : Process) (bs : List (List ℕ)) → Blocks g bs → AreDone (IsChoiceFree g) (leaves g) bs
are_done Empty bs h = subst (AreDone (Unit {0}) []) (sym h) (record { of_goal = λ n m. m; all = λ f n m. m; once = λ d. d; none = λ no. refl })
are_done (Task k) bs h = subst (AreDone (Unit {0}) (k ∷ [])) (sym h)
    (record { of_goal = λ n m. m; all = λ f n m. m; once = λ d. d; none = λ no. absurd (no k (inl refl)) })
are_done (Sequence a b) bs (x, y, ha, hb, e) =
    halves_done _ _ (leaves a) (leaves b) x y bs (are_done a x ha) (are_done b y hb) (subst (Shuffle x y) (sym e) (shuffle-append x y))
are_done (Parallel a b) bs (x, y, ha, hb, s) = halves_done _ _ (leaves a) (leaves b) x y bs (are_done a x ha) (are_done b y hb) s
are_done (Choice a b) bs h = record {
  of_goal = λ n m. mem_by_halves n (leaves a) (leaves b) (λ k. (are_done a bs k).of_goal n m) (λ k. (are_done b bs k).of_goal n m) h;
  all = λ f. absurd f;
  once = λ d. let (da, db, _) = distinct_parts (leaves a) (leaves b) d in ⊎_elim (λ k. (are_done a bs k).once da) (λ k. (are_done b bs k).once db) h;
  none = λ no. ⊎_elim (λ k. (are_done a bs k).none no) (λ k. (are_done b bs k).none no) h;
}
are_done (Isolated a) bs (x, h, e) = let inner = are_done a x h in let same : joined bs ≡ joined x = ap joined e ∙ joined-as_one x in record {
  of_goal = λ n m. inner.of_goal n (subst (λ w. n ∈ w) same m);
  all = λ f n m. subst (λ w. n ∈ w) (sym same) (inner.all f n m);
  once = λ d. subst AreDistinct (sym same) (inner.once d);
  none = λ no. e ∙ ap as_one (inner.none (λ n m. no n (subst (λ w. n ∈ w) (sym same) m)));
}

-- each leaf that is done is one of the goal
pub leaf_of_blocks : (g : Process) (bs : List (List ℕ)) → Blocks g bs → (n : ℕ) → n ∈ joined bs → n ∈ leaves g
leaf_of_blocks g bs h = (are_done g bs h).of_goal

-- each leaf of the goal is done
pub leaf_in_blocks : (q : Process) → IsChoiceFree q → (bs : List (List ℕ)) → Blocks q bs → (n : ℕ) → n ∈ leaves q → n ∈ joined bs
leaf_in_blocks q f bs h = (are_done q bs h).all f

pub blocks_of_none : (g : Process) (bs : List (List ℕ)) → Blocks g bs → ((n : ℕ) → ¬ (n ∈ joined bs)) → bs ≡ []
blocks_of_none g bs h = (are_done g bs h).none

pub leaf_of_trace : (g : Process) (t : List ℕ) → Trace g t → (n : ℕ) → n ∈ t → n ∈ leaves g
leaf_of_trace g t (bs, h, e) n m = leaf_of_blocks g bs h n (subst (λ w. n ∈ w) e m)

pub leaf_in_trace : (q : Process) → IsChoiceFree q → (t : List ℕ) → Trace q t → (n : ℕ) → n ∈ leaves q → n ∈ t
leaf_in_trace q f t (bs, h, e) n m = subst (λ w. n ∈ w) (sym e) (leaf_in_blocks q f bs h n m)

pub distinct_trace : (g : Process) → AreDistinct (leaves g) → (t : List ℕ) → Trace g t → AreDistinct t
distinct_trace g d t (bs, h, e) = subst AreDistinct (sym e) ((are_done g bs h).once d)
