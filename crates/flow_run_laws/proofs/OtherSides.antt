-- An execution of one unfolding of a folded goal gives way to one of another, which takes other
-- sides of choices that are not begun: blocks of the sides that go are replaced by blocks of those
-- that come, and all else stays in its order.
use Rattle.std.proofs.Common.{ℕ, List, [], ◌∷◌, ◌++◌, refl, sym, subst, append_assoc, append-nil, inl, inr, ⊎_elim}
use Rattle.flow_model.specs.Lists.{◌∈◌, Each, Begins, StandsBefore, joined}
use Rattle.flow_model.specs.Process.{Process, Empty, Task, Sequence, Parallel, Choice, Isolated, leaves}
use Rattle.flow_model.specs.Trace.{Shuffle, both_end, from_left, from_right, as_one, Blocks, Trace}
use Rattle.flow_model.specs.Folding.{fixed_leaves}
use Rattle.flow_model.proofs.Lists.{Apart, mem_append_left, mem_append_right, mem-append, each-append, each_member, each_from_members, before_right}
use Rattle.flow_model.proofs.MadeLists.{joined-append, mem_joined}
use Rattle.flow_laws.specs.Resolutions.{Resolves}
use Rattle.flow_laws.proofs.TraceLeaves.{some_blocks, leaf_of_blocks}
use Rattle.flow_laws.proofs.ResolutionsLemmas.{blocks_of_goal, mem-leaves_of_goal}
use Rattle.flow_fold_laws.proofs.Unfoldings.{fixed_in_goal}
use Rattle.flow_fold_laws.proofs.TakenSides.{Takes, empty, task, sequence, parallel, left, right, isolated}

-- Lists in which some members give way

-- the second list is the first with other members in the place of some
pub data GivesWay {A : Type 0} (Other : A → Type 0) : List A → List A → Type 0 where
  ends : GivesWay Other [] []
  stays : {x : A} {a b : List A} → GivesWay Other a b → GivesWay Other (x ∷ a) (x ∷ b)
  goes : {x : A} {a b : List A} (new : List A) → Other x → Each Other new → GivesWay Other a b → GivesWay Other (x ∷ a) (new ++ b)

gives-append : {A : Type 0} {Other : A → Type 0} {a b c d : List A} → GivesWay Other a b → GivesWay Other c d → GivesWay Other (a ++ c) (b ++ d)
gives-append ends k = k
gives-append (stays h) k = stays (gives-append h k)
gives-append {Other = Other} {c = c} {d = d} (goes {x} {a} {b} new o e h) k =
    subst (GivesWay Other (x ∷ a ++ c)) (sym (append_assoc new b d)) (goes new o e (gives-append h k))

gives_same : {A : Type 0} (Other : A → Type 0) (a : List A) → GivesWay Other a a
gives_same Other [] = ends
gives_same Other (x ∷ a) = stays (gives_same Other a)

gives_nothing : {A : Type 0} (Other : A → Type 0) (a : List A) → Each Other a → GivesWay Other a []
gives_nothing Other [] h = ends
gives_nothing Other (x ∷ a) (o, h) = goes [] o tt (gives_nothing Other a h)

-- a whole list gives way, if it has a member
all_goes : {A : Type 0} (Other : A → Type 0) (x : A) (a new : List A) → Other x → Each Other a → Each Other new → GivesWay Other (x ∷ a) new
all_goes Other x a new o h k = subst (GivesWay Other (x ∷ a)) (append-nil new) (goes new o k (gives_nothing Other a h))

all_from_left : {A : Type 0} (new : List A) {a b c : List A} → Shuffle a b c → Shuffle (new ++ a) b (new ++ c)
all_from_left [] s = s
all_from_left (x ∷ new) s = from_left (all_from_left new s)

all_from_right : {A : Type 0} (new : List A) {a b c : List A} → Shuffle a b c → Shuffle a (new ++ b) (new ++ c)
all_from_right [] s = s
all_from_right (x ∷ new) s = from_right (all_from_right new s)

gives-shuffle : {A : Type 0} {Other : A → Type 0} {a b c u v : List A} → Shuffle a b c → GivesWay Other a u → GivesWay Other b v →
    (w : List A) × Shuffle u v w × GivesWay Other c w
gives-shuffle both_end ends ends = ([], both_end, ends)
gives-shuffle (from_left {x = x} s) (stays h) k = let (w, r, g) = gives-shuffle s h k in (x ∷ w, from_left r, stays g)
gives-shuffle (from_left s) (goes new o e h) k = let (w, r, g) = gives-shuffle s h k in (new ++ w, all_from_left new r, goes new o e g)
gives-shuffle (from_right {x = x} s) h (stays k) = let (w, r, g) = gives-shuffle s h k in (x ∷ w, from_right r, stays g)
gives-shuffle (from_right s) h (goes new o e k) = let (w, r, g) = gives-shuffle s h k in (new ++ w, all_from_right new r, goes new o e g)

-- a front none of whose members gives way stays
pub front_stays : {A : Type 0} (Other : A → Type 0) (front rest list : List A) → ((x : A) → x ∈ front → ¬ (Other x)) →
    GivesWay Other (front ++ rest) list → Begins list front
front_stays Other [] rest list none h = (list, refl)
front_stays Other (x ∷ front) rest list none (stays {b = b} h) =
    let (more, e) = front_stays Other front rest b (λ y m. none y (inr m)) h in (more, λ i. x ∷ e i)
front_stays Other (x ∷ front) rest list none (goes new o e h) = absurd (none x (inl refl) o)

-- members that do not give way

module _ {A : Type 0} (Other : A → Type 0) where
  pub member_stays : (x : A) → ¬ (Other x) → {a b : List A} → GivesWay Other a b → x ∈ a → x ∈ b
  member_stays x not_other ends m = m
  member_stays x not_other (stays h) (inl e) = inl e
  member_stays x not_other (stays h) (inr m) = inr (member_stays x not_other h m)
  member_stays x not_other (goes new o e h) (inl k) = absurd (not_other (subst Other (sym k) o))
  member_stays x not_other (goes {b = b} new o e h) (inr m) = mem_append_right x new b (member_stays x not_other h m)

  pub member_stood : (x : A) → ¬ (Other x) → {a b : List A} → GivesWay Other a b → x ∈ b → x ∈ a
  member_stood x not_other ends m = m
  member_stood x not_other (stays h) (inl e) = inl e
  member_stood x not_other (stays h) (inr m) = inr (member_stood x not_other h m)
  member_stood x not_other (goes {b = b} new o e h) m =
      ⊎_elim (λ k. absurd (not_other (each_member Other new e x k))) (λ k. inr (member_stood x not_other h k)) (mem-append x new b m)

  pub order_stays : (x y : A) → ¬ (Other x) → ¬ (Other y) → {a b : List A} → GivesWay Other a b → StandsBefore x y a → StandsBefore x y b
  order_stays x y not_x not_y ends h = h
  order_stays x y not_x not_y (stays g) (inl (e, m)) = inl (e, member_stays y not_y g m)
  order_stays x y not_x not_y (stays g) (inr h) = inr (order_stays x y not_x not_y g h)
  order_stays x y not_x not_y (goes new o e g) (inl (k, m)) = absurd (not_x (subst Other (sym k) o))
  order_stays x y not_x not_y (goes {b = b} new o e g) (inr h) = before_right x y new b (order_stays x y not_x not_y g h)

  -- what stands first is not one of the new ones
  past_new : (x y : A) → ¬ (Other x) → (new b : List A) → Each Other new → StandsBefore x y (new ++ b) → StandsBefore x y b
  past_new x y not_x [] b e h = h
  past_new x y not_x (z ∷ new) b (o, e) (inl (k, m)) = absurd (not_x (subst Other (sym k) o))
  past_new x y not_x (z ∷ new) b (o, e) (inr h) = past_new x y not_x new b e h

  pub order_stood : (x y : A) → ¬ (Other x) → ¬ (Other y) → {a b : List A} → GivesWay Other a b → StandsBefore x y b → StandsBefore x y a
  order_stood x y not_x not_y ends h = h
  order_stood x y not_x not_y (stays g) (inl (e, m)) = inl (e, member_stood y not_y g m)
  order_stood x y not_x not_y (stays g) (inr h) = inr (order_stood x y not_x not_y g h)
  order_stood x y not_x not_y (goes {b = b} new o e g) h = inr (order_stood x y not_x not_y g (past_new x y not_x new b e h))

-- Blocks

-- it has a leaf, and each leaf of it is another
abbrev IsOtherBlock : (ℕ → Type 0) → List ℕ → Type 0
IsOtherBlock Other [] = ⊥
IsOtherBlock Other (n ∷ ns) = Other n × Each Other ns

each_other : (Other : ℕ → Type 0) (block : List ℕ) → IsOtherBlock Other block → Each Other block
each_other Other [] h = absurd h
each_other Other (n ∷ ns) h = h

each_joined : (Other : ℕ → Type 0) (bs : List (List ℕ)) → Each (IsOtherBlock Other) bs → Each Other (joined bs)
each_joined Other [] h = tt
each_joined Other (block ∷ bs) (b, h) = each-append Other block (joined bs) (each_other Other block b) (each_joined Other bs h)

gives-joined : (Other : ℕ → Type 0) {bs cs : List (List ℕ)} → GivesWay (IsOtherBlock Other) bs cs → GivesWay Other (joined bs) (joined cs)
gives-joined Other ends = ends
gives-joined Other (stays {x} h) = gives-append (gives_same Other x) (gives-joined Other h)
gives-joined Other (goes {x = []} new o e h) = absurd o
gives-joined Other (goes {x = n ∷ ns} {a} {b} new (o, os) e h) =
    subst (GivesWay Other ((n ∷ ns) ++ joined a)) (sym (joined-append new b))
    (gives-append (all_goes Other n ns (joined new) o os (each_joined Other new e)) (gives-joined Other h))

-- a block has a leaf

abbrev HasLeaf : List ℕ → Type 0
HasLeaf [] = ⊥
HasLeaf (n ∷ ns) = Unit {0}

each-shuffle : {A : Type 0} (P : A → Type 0) {a b c : List A} → Shuffle a b c → Each P a → Each P b → Each P c
each-shuffle P both_end h k = tt
each-shuffle P (from_left s) (p, h) k = (p, each-shuffle P s h k)
each-shuffle P (from_right s) h (p, k) = (p, each-shuffle P s h k)

one_has_leaf : (bs : List (List ℕ)) → Each HasLeaf bs → Each HasLeaf (as_one bs)
one_has_leaf [] h = tt
one_has_leaf ([] ∷ bs) h = absurd h.0
one_has_leaf ((n ∷ ns) ∷ bs) h = (tt, tt)

blocks_have_leaves : (g : Process) (bs : List (List ℕ)) → Blocks g bs → Each HasLeaf bs
blocks_have_leaves Empty bs e = subst (Each HasLeaf) (sym e) tt
blocks_have_leaves (Task n) bs e = subst (Each HasLeaf) (sym e) (tt, tt)
blocks_have_leaves (Sequence a b) bs (x, y, hx, hy, e) =
    subst (Each HasLeaf) (sym e) (each-append HasLeaf x y (blocks_have_leaves a x hx) (blocks_have_leaves b y hy))
blocks_have_leaves (Parallel a b) bs (x, y, hx, hy, s) = each-shuffle HasLeaf s (blocks_have_leaves a x hx) (blocks_have_leaves b y hy)
blocks_have_leaves (Choice a b) bs h = ⊎_elim (blocks_have_leaves a bs) (blocks_have_leaves b bs) h
blocks_have_leaves (Isolated a) bs (x, h, e) = subst (Each HasLeaf) (sym e) (one_has_leaf x (blocks_have_leaves a x h))

other_block : (Other : ℕ → Type 0) (block : List ℕ) → HasLeaf block → ((n : ℕ) → n ∈ block → Other n) → IsOtherBlock Other block
other_block Other [] h all = absurd h
other_block Other (n ∷ ns) h all = (all n (inl refl), each_from_members Other ns (λ k m. all k (inr m)))

-- the blocks of a goal of which each leaf is another
other_blocks : (Other : ℕ → Type 0) (g : Process) (bs : List (List ℕ)) → Blocks g bs → ((n : ℕ) → n ∈ leaves g → Other n) → Each (IsOtherBlock Other) bs
other_blocks Other g bs h all = each_from_members (IsOtherBlock Other) bs (λ block m.
    other_block Other block (each_member HasLeaf bs (blocks_have_leaves g bs h) block m) (λ n k. all n (leaf_of_blocks g bs h n (mem_joined n bs block m k))))

-- Two unfoldings

pub takes_resolves : (D : ℕ → Type 0) {q u : Process} → Takes D q u → Resolves q u
takes_resolves D empty = refl
takes_resolves D task = refl
takes_resolves D (sequence {x = x} {y = y} apart h k) = (x, y, takes_resolves D h, takes_resolves D k, refl)
takes_resolves D (parallel {x = x} {y = y} apart h k) = (x, y, takes_resolves D h, takes_resolves D k, refl)
takes_resolves D (left apart busy other h) = inl (takes_resolves D h)
takes_resolves D (right apart busy other h) = inr (takes_resolves D h)
takes_resolves D (isolated {a} h) = (a, takes_resolves D h, refl)

-- blocks of u, to which those of v give way
abbrev HasOther : (ℕ → Type 0) → Process → List (List ℕ) → Type 0
HasOther Other u bs = (cs : List (List ℕ)) × Blocks u cs × GivesWay (IsOtherBlock Other) bs cs

-- each leaf of the goal is another that is neither outside choices nor done
abbrev OthersAre : (ℕ → Type 0) → (ℕ → Type 0) → Process → Type 0
OthersAre D Other q = (n : ℕ) → n ∈ leaves q → ¬ (n ∈ fixed_leaves q) → ¬ (D n) → Other n

-- where one side was taken and the other is to come
other_side : (D Other : ℕ → Type 0) (g u v : Process) → Resolves g v → ((n : ℕ) → n ∈ leaves u → Other n) → ((n : ℕ) → n ∈ leaves g → Other n) →
    ¬ (Blocks g []) → (bs : List (List ℕ)) → Blocks v bs → HasOther Other u bs
other_side D Other g u v r new old busy [] h = absurd (busy (blocks_of_goal g v [] r h))
other_side D Other g u v r new old busy (block ∷ bs) h =
    let (o, os) = other_blocks Other v (block ∷ bs) h (λ n m. old n (mem-leaves_of_goal g v r n m)) in
    let (cs, k) = some_blocks u in
    (cs, k, all_goes (IsOtherBlock Other) block bs cs o os (other_blocks Other u cs k new))

-- in each half of a goal
in_halves : (D Other : ℕ → Type 0) (a b : Process) → Apart (leaves a) (leaves b) → OthersAre D Other (Parallel a b) → OthersAre D Other a × OthersAre D Other b
in_halves D Other a b apart others = (
  λ n m loose. others n (mem_append_left n (leaves a) (leaves b) m)
      (λ k. ⊎_elim loose (λ f. apart n m (fixed_in_goal b n f)) (mem-append n (fixed_leaves a) (fixed_leaves b) k)),
  λ n m loose. others n (mem_append_right n (leaves a) (leaves b) m)
      (λ k. ⊎_elim (λ f. apart n (fixed_in_goal a n f) m) loose (mem-append n (fixed_leaves a) (fixed_leaves b) k)),
)

pub gives_other : (D Other : ℕ → Type 0) {q u v : Process} → Takes D q u → Takes D q v → OthersAre D Other q → (bs : List (List ℕ)) → Blocks v bs →
    HasOther Other u bs
gives_other D Other empty empty others bs h = (bs, h, gives_same (IsOtherBlock Other) bs)
gives_other D Other task task others bs h = (bs, h, gives_same (IsOtherBlock Other) bs)
gives_other D Other (sequence {a} {b} apart h k) (sequence _ r s) others bs (x, y, hx, hy, e) =
    let (in_left, in_right) = in_halves D Other a b apart others in
    let (u, hu, g) = gives_other D Other h r in_left x hx in
    let (v, hv, l) = gives_other D Other k s in_right y hy in
    (u ++ v, (u, v, hu, hv, refl), subst (λ bs. GivesWay (IsOtherBlock Other) bs (u ++ v)) (sym e) (gives-append g l))
gives_other D Other (parallel {a} {b} apart h k) (parallel _ r s) others bs (x, y, hx, hy, t) =
    let (in_left, in_right) = in_halves D Other a b apart others in
    let (u, hu, g) = gives_other D Other h r in_left x hx in
    let (v, hv, l) = gives_other D Other k s in_right y hy in
    let (w, i, m) = gives-shuffle t g l in
    (w, (u, v, hu, hv, i), m)
gives_other D Other (left {a} {b} apart _ _ h) (left _ _ _ r) others bs k =
    gives_other D Other h r (λ n m f. others n (mem_append_left n (leaves a) (leaves b) m) (λ i. i)) bs k
gives_other D Other (right {a} {b} apart _ _ h) (right _ _ _ r) others bs k =
    gives_other D Other h r (λ n m f. others n (mem_append_right n (leaves a) (leaves b) m) (λ i. i)) bs k
gives_other D Other (left {a} {b} {x} apart busy none h) (right {y = y} _ _ gone r) others bs k =
    other_side D Other b x y (takes_resolves D r)
    (λ n m. let l = mem-leaves_of_goal a x (takes_resolves D h) n m in others n (mem_append_left n (leaves a) (leaves b) l) (λ i. i) (λ d. gone (n, l, d)))
    (λ n m. others n (mem_append_right n (leaves a) (leaves b) m) (λ i. i) (λ d. none (n, m, d))) busy bs k
gives_other D Other (right {a} {b} {y} apart busy none h) (left {x = x} _ _ gone r) others bs k =
    other_side D Other a y x (takes_resolves D r)
    (λ n m. let l = mem-leaves_of_goal b y (takes_resolves D h) n m in others n (mem_append_right n (leaves a) (leaves b) l) (λ i. i) (λ d. gone (n, l, d)))
    (λ n m. others n (mem_append_left n (leaves a) (leaves b) m) (λ i. i) (λ d. none (n, m, d))) busy bs k
gives_other D Other (isolated h) (isolated r) others bs k = (bs, k, gives_same (IsOtherBlock Other) bs)

-- an execution of u, to which that of v gives way
pub trace_gives_way : (D Other : ℕ → Type 0) {q u v : Process} → Takes D q u → Takes D q v → OthersAre D Other q → (t : List ℕ) → Trace v t →
    (s : List ℕ) × Trace u s × GivesWay Other t s
trace_gives_way D Other h k others t (bs, b, e) =
    let (cs, c, g) = gives_other D Other h k others bs b in
    (joined cs, (cs, c, refl), subst (λ l. GivesWay Other l (joined cs)) (sym e) (gives-joined Other g))
