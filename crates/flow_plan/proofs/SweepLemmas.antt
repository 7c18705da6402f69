-- One mark that is read for rows.
use Rattle.std.proofs.Common.{◌≡◌, None, Option, IfSome, get_or, ◌<◌, ◌≤◌, ◌==◌, ◌||◌, Bool, false, ℕ, ◌+◌, zero, suc, List, [], ◌∷◌, ◌++◌, length, reverse, Some, MatchOption, slice_get, inl, inr, ◌⊎◌, refl, sym, ◌∙◌, ap, subst, arith}
use Rattle.std.specs.Borrow.{Bor}
use Rattle.std.specs.List.{HoldsAt}
use Rattle.std.specs.Option.{option_copied}
use Rattle.std.proofs.lemmas.List.{reverse-append}
use Rattle.std.proofs.lemmas.Option.{slice_get_past, slice_get-get_or}
use Rattle.leaf_rows.specs.Leaves.{has_leaf}
use Rattle.leaf_rows.specs.declared.leaf_set.LeafSet.{LeafSet}
use Rattle.flow_model.specs.Process.{Process}
use Rattle.flow_model.specs.Ready.{InSequence}
use Rattle.flow_goal.specs.declared.node.Node.{Node}
use Rattle.flow_goal.specs.declared.node.Node.TheVariants.{Nop, Leaf, Serial, Fork, Split, Join, Open, Close, Choose, Or, Chosen}
use Rattle.flow_plan.specs.RowMarks.{IsSame, HasThose, IsOneMore, MakesRows, MakesRowsBy, StandsFor, StandForAll, Completes, Passes}
use Rattle.flow_plan.specs.Rows.{AreRowsOf}
use Rattle.flow_plan.specs.declared.sweep.Ahead.{Ahead}
use Rattle.flow_plan.specs.declared.sweep.Ahead.TheVariants.{Behind, Joined}
use Rattle.flow_plan.specs.declared.sweep.Forked.{Forked}
use Rattle.flow_plan.specs.declared.sweep.Sweep.{Sweep}

-- what a slice gives at a place, as it stands there
pub got : {T : Type 0} (xs : List T) (i : ℕ) (r : Option (Bor T)) → IfSome r (λ x. x.now ≡ get_or xs i x.now) →
    MatchOption r (length xs ≤ i) (λ x. (i < length xs) × HoldsAt {X = T} (λ y. x.now ≡ y) xs i) → option_copied r ≡ slice_get xs i
got xs i None is past = sym (slice_get_past xs i past)
got xs i (Some x) is there = ap Some is ∙ sym (slice_get-get_or xs i x.now there.0)

kept_get : {w : ℕ} → (sets : List (LeafSet w)) (x : LeafSet w) (i : ℕ) (set : LeafSet w) → slice_get sets i ≡ Some set → slice_get (sets ++ x ∷ []) i ≡ Some set
kept_get [] x i set at = absurd (cc)
kept_get (y ∷ sets) x zero set at = at
kept_get (y ∷ sets) x (suc i) set at = kept_get sets x i set at

last_get : {w : ℕ} → (sets : List (LeafSet w)) (x : LeafSet w) → slice_get (sets ++ x ∷ []) (length sets) ≡ Some x
last_get [] x = refl
last_get (y ∷ sets) x = last_get sets x

one_longer : {w : ℕ} → (sets : List (LeafSet w)) (x : LeafSet w) → length sets + 1 ≡ length (sets ++ x ∷ [])
one_longer [] x = refl
one_longer (y ∷ sets) x = omega (arith, one_longer sets x)

-- ---- what stands for a test

-- one row more, or one set more, changes nothing of it
row_kept : {w : ℕ} → (ns : List ℕ) (rows joined : List (LeafSet w)) (x : LeafSet w) (a : Ahead) (test : ℕ → Bool) →
    StandsFor ns rows joined a test → StandsFor ns (rows ++ x ∷ []) joined a test
row_kept ns rows joined x (Behind i) test (n, row, at, here, is) = (n, row, at, kept_get rows x i row here, is)
row_kept ns rows joined x (Joined i) test stands = stands

set_kept : {w : ℕ} → (ns : List ℕ) (rows joined : List (LeafSet w)) (x : LeafSet w) (a : Ahead) (test : ℕ → Bool) →
    StandsFor ns rows joined a test → StandsFor ns rows (joined ++ x ∷ []) a test
set_kept ns rows joined x (Behind i) test stands = stands
set_kept ns rows joined x (Joined i) test (set, here, is) = (set, kept_get joined x i set here, is)

row_keeps_all : {w : ℕ} → (ns : List ℕ) (rows joined : List (LeafSet w)) (x : LeafSet w) (stack : List Forked) (forks : List ((ℕ → Bool) × (ℕ → Bool))) →
    StandForAll ns rows joined stack forks → StandForAll ns (rows ++ x ∷ []) joined stack forks
row_keeps_all ns rows joined x [] [] are = tt
row_keeps_all ns rows joined x [] (tests ∷ forks) are = absurd are
row_keeps_all ns rows joined x (fork ∷ stack) [] are = absurd are
row_keeps_all ns rows joined x (fork ∷ stack) (tests ∷ forks) are = (
  row_kept ns rows joined x fork.both tests.0 are.0,
  row_kept ns rows joined x fork.first tests.1 are.1,
  row_keeps_all ns rows joined x stack forks are.2,
)

set_keeps_all : {w : ℕ} → (ns : List ℕ) (rows joined : List (LeafSet w)) (x : LeafSet w) (stack : List Forked) (forks : List ((ℕ → Bool) × (ℕ → Bool))) →
    StandForAll ns rows joined stack forks → StandForAll ns rows (joined ++ x ∷ []) stack forks
set_keeps_all ns rows joined x [] [] are = tt
set_keeps_all ns rows joined x [] (tests ∷ forks) are = absurd are
set_keeps_all ns rows joined x (fork ∷ stack) [] are = absurd are
set_keeps_all ns rows joined x (fork ∷ stack) (tests ∷ forks) are = (
  set_kept ns rows joined x fork.both tests.0 are.0,
  set_kept ns rows joined x fork.first tests.1 are.1,
  set_keeps_all ns rows joined x stack forks are.2,
)

-- a set that is made of it has just those that pass
pub behind_has : {w : ℕ} → (ns : List ℕ) (rows joined : List (LeafSet w)) (i n : ℕ) (row set : LeafSet w) → slice_get ns i ≡ Some n → slice_get rows i ≡ Some row →
    ((x : ℕ) → has_leaf set x ≡ (x == n || has_leaf row x)) → (test : ℕ → Bool) → StandsFor ns rows joined (Behind i) test → HasThose test set
behind_has ns rows joined i n row set at here is test (m, other, there, same, tells) x =
    let leaf : Some n ≡ Some m = sym at ∙ there in
    let one : Some row ≡ Some other = sym here ∙ same in
    let made = is x in
    let told = tells x in cc

pub joined_has : {w : ℕ} → (ns : List ℕ) (rows joined : List (LeafSet w)) (i : ℕ) (set : LeafSet w) → slice_get joined i ≡ Some set →
    (test : ℕ → Bool) → StandsFor ns rows joined (Joined i) test → HasThose test set
joined_has ns rows joined i set here test (other, same, tells) x =
    let one : Some set ≡ Some other = sym here ∙ same in
    let told = tells x in cc

-- all tests that it stands for are the same
stand_same : {w : ℕ} → (ns : List ℕ) (rows joined : List (LeafSet w)) (a : Ahead) (one two : ℕ → Bool) →
    StandsFor ns rows joined a one → StandsFor ns rows joined a two → IsSame one two
stand_same ns rows joined (Behind i) one two (n, row, at, here, is) (m, other, there, same, tells) x =
    let leaf : Some n ≡ Some m = sym at ∙ there in
    let also : Some row ≡ Some other = sym here ∙ same in
    let made = is x in
    let told = tells x in cc
stand_same ns rows joined (Joined i) one two (set, here, is) stands x = sym (is x) ∙ joined_has ns rows joined i set here two stands x

-- ---- one mark

-- there is a next leaf, or nothing leads to the rows
by_leaf : {w : ℕ} → (q : Process) (nodes : List Node) (ns : List ℕ) (joined : List (LeafSet w)) (stack : List Forked) (rows : List (LeafSet w)) (row : LeafSet w)
    (ahead : ℕ → Bool) (forks : List ((ℕ → Bool) × (ℕ → Bool))) (o : Option ℕ) → slice_get ns (length rows) ≡ o → HasThose ahead row → StandForAll ns rows joined stack forks →
    MatchOption o ⊥ (λ n. (row : LeafSet w) → HasThose ahead row → MakesRows q nodes ns (length rows + 1) (λ x. x == n || ahead x) forks (rows ++ row ∷ [])) →
    MakesRowsBy q nodes ns joined (Behind (length rows)) stack (rows ++ row ∷ [])
by_leaf q nodes ns joined stack rows row ahead forks None at has are h = absurd h
by_leaf q nodes ns joined stack rows row ahead forks (Some n) at has are h = (
  (λ x. x == n || ahead x),
  forks,
  (n, row, at, last_get rows row, λ x. ap (λ (b : Bool). x == n || b) (sym (has x))),
  row_keeps_all ns rows joined row stack forks are,
  subst (λ (k : ℕ). MakesRows q nodes ns k (λ x. x == n || ahead x) forks (rows ++ row ∷ [])) (one_longer rows row) (h row has),
)

module _ {w : ℕ} (q : Process) (nodes : List Node) (ns : List ℕ) (joined : List (LeafSet w)) (a : Ahead) (stack : List Forked) (rows : List (LeafSet w)) where
  pub leaf_passed : (new : List (LeafSet w)) → ((test : ℕ → Bool) → StandsFor ns rows joined a test → IsOneMore test rows new) →
      MakesRowsBy q (Leaf ∷ nodes) ns joined a stack rows → MakesRowsBy q nodes ns joined (Behind (length rows)) stack new
  leaf_passed new adds (ahead, forks, is, are, h) =
      let (row, same, has) = adds ahead is in
      subst (λ (l : List (LeafSet w)). MakesRowsBy q nodes ns joined (Behind (length rows)) stack l) (sym same)
      (by_leaf q nodes ns joined stack rows row ahead forks (slice_get ns (length rows)) refl has are h)

  pub fork_passed : MakesRowsBy q (Fork ∷ nodes) ns joined a stack rows → MakesRowsBy q nodes ns joined a (record { both = a; first = a } ∷ stack) rows
  fork_passed (ahead, forks, is, are, h) = (ahead, (ahead, ahead) ∷ forks, is, (is, is, are), h)

module _ {w : ℕ} (q : Process) (nodes : List Node) (ns : List ℕ) (joined : List (LeafSet w)) (a : Ahead) (fork : Forked) (stack : List Forked) (rows : List (LeafSet w)) where
  pub split_passed : MakesRowsBy q (Split ∷ nodes) ns joined a (fork ∷ stack) rows →
      MakesRowsBy q nodes ns joined fork.both (record { both = fork.both; first = a } ∷ stack) rows
  split_passed (ahead, [], is, are, h) = absurd are
  split_passed (ahead, tests ∷ forks, is, are, h) = (tests.0, (tests.0, ahead) ∷ forks, are.0, (are.0, is, are.2), h)

  -- two goals beside one another, one of which has no leaf, or none
  pub join_first : a ≡ fork.both → MakesRowsBy q (Join ∷ nodes) ns joined a (fork ∷ stack) rows → MakesRowsBy q nodes ns joined fork.first stack rows
  join_first e (ahead, [], is, are, h) = absurd are
  join_first e (ahead, tests ∷ forks, is, are, h) =
      let there = subst (λ (b : Ahead). StandsFor ns rows joined b tests.0) (sym e) are.0 in
      (tests.1, forks, are.1, are.2, h tests.1 (inl (stand_same ns rows joined a ahead tests.0 is there, λ x. refl)))

  pub join_second : fork.first ≡ fork.both → MakesRowsBy q (Join ∷ nodes) ns joined a (fork ∷ stack) rows → MakesRowsBy q nodes ns joined a stack rows
  join_second e (ahead, [], is, are, h) = absurd are
  join_second e (ahead, tests ∷ forks, is, are, h) =
      let there = subst (λ (b : Ahead). StandsFor ns rows joined b tests.0) (sym e) are.0 in
      (ahead, forks, is, are.2, h ahead (inr (inl (stand_same ns rows joined fork.first tests.1 tests.0 are.1 there, λ x. refl))))

  pub join_passed : (empty one all : LeafSet w) → ((x : ℕ) → has_leaf empty x ≡ false) →
      ((test : ℕ → Bool) → StandsFor ns rows joined a test → (x : ℕ) → has_leaf one x ≡ (has_leaf empty x || test x)) →
      ((test : ℕ → Bool) → StandsFor ns rows joined fork.first test → (x : ℕ) → has_leaf all x ≡ (has_leaf one x || test x)) →
      MakesRowsBy q (Join ∷ nodes) ns joined a (fork ∷ stack) rows → MakesRowsBy q nodes ns (joined ++ all ∷ []) (Joined (length joined)) stack rows
  join_passed empty one all none put also (ahead, [], is, are, h) = absurd are
  join_passed empty one all none put also (ahead, tests ∷ forks, is, are, h) =
      let has_one : HasThose ahead one = λ x. put ahead is x ∙ ap (λ (b : Bool). b || ahead x) (none x) in (
        (λ x. has_leaf all x),
        forks,
        (all, last_get joined all, λ x. refl),
        set_keeps_all ns rows joined all stack forks are.2,
        h (λ x. has_leaf all x) (inr (inr (λ x. also tests.1 are.1 x ∙ ap (λ (b : Bool). b || tests.1 x) (has_one x)))),
      )

-- the last one is on top
pub top_of : (stack more : List Forked) (fork : Forked) → more ≡ stack ++ fork ∷ [] → reverse more ≡ fork ∷ reverse stack
top_of stack more fork e = ap reverse e ∙ reverse-append stack (fork ∷ [])

-- marks that say nothing of rows
pub nothing_passed : {w : ℕ} → (node : Node) (ns : List ℕ) (s : Sweep w) → (node ≡ Nop) ⊎ ((node ≡ Serial) ⊎ ((node ≡ Open) ⊎ (node ≡ Close))) → Passes node ns s s
nothing_passed node ns s (inl e) = subst (λ (node : Node). Passes node ns s s) (sym e) (λ q nodes h. h)
nothing_passed node ns s (inr (inl e)) = subst (λ (node : Node). Passes node ns s s) (sym e) (λ q nodes h. h)
nothing_passed node ns s (inr (inr (inl e))) = subst (λ (node : Node). Passes node ns s s) (sym e) (λ q nodes h. h)
nothing_passed node ns s (inr (inr (inr e))) = subst (λ (node : Node). Passes node ns s s) (sym e) (λ q nodes h. h)

-- two marks that are read alike
pub by_either : (P : Node → Type 0) (node one two : Node) → (node ≡ one) ⊎ (node ≡ two) → P one → P two → P node
by_either P node one two (inl e) h k = subst P (sym e) h
by_either P node one two (inr e) h k = subst P (sym e) k

-- ---- after the last leaf

-- where each leaf has its row, these are the rows
no_more : {w : ℕ} → (q : Process) (ns : List ℕ) (nodes : List Node) (k : ℕ) (ahead : ℕ → Bool) (forks : List ((ℕ → Bool) × (ℕ → Bool))) (rows : List (LeafSet w)) →
    slice_get ns k ≡ None → MakesRows q nodes ns k ahead forks rows → AreRowsOf (InSequence q) ns rows
no_more q ns [] k ahead forks rows none h = h
no_more {w} q ns (Leaf ∷ nodes) k ahead forks rows none h = absurd
    (subst (λ o. MatchOption o ⊥ (λ n. (row : LeafSet w) → HasThose ahead row → MakesRows q nodes ns (k + 1) (λ x. x == n || ahead x) forks (rows ++ row ∷ []))) none h)
no_more q ns (Nop ∷ nodes) k ahead forks rows none h = no_more q ns nodes k ahead forks rows none h
no_more q ns (Serial ∷ nodes) k ahead forks rows none h = no_more q ns nodes k ahead forks rows none h
no_more q ns (Open ∷ nodes) k ahead forks rows none h = no_more q ns nodes k ahead forks rows none h
no_more q ns (Close ∷ nodes) k ahead forks rows none h = no_more q ns nodes k ahead forks rows none h
no_more q ns (Fork ∷ nodes) k ahead forks rows none h = no_more q ns nodes k ahead ((ahead, ahead) ∷ forks) rows none h
no_more q ns (Choose ∷ nodes) k ahead forks rows none h = no_more q ns nodes k ahead ((ahead, ahead) ∷ forks) rows none h
no_more q ns (Split ∷ nodes) k ahead [] rows none h = absurd h
no_more q ns (Split ∷ nodes) k ahead (top ∷ more) rows none h = no_more q ns nodes k top.0 ((top.0, ahead) ∷ more) rows none h
no_more q ns (Or ∷ nodes) k ahead [] rows none h = absurd h
no_more q ns (Or ∷ nodes) k ahead (top ∷ more) rows none h = no_more q ns nodes k top.0 ((top.0, ahead) ∷ more) rows none h
no_more q ns (Join ∷ nodes) k ahead [] rows none h = absurd h
no_more q ns (Join ∷ nodes) k ahead (top ∷ more) rows none h =
    no_more q ns nodes k (λ x. ahead x || top.1 x) more rows none (h (λ x. ahead x || top.1 x) (inr (inr (λ x. refl))))
no_more q ns (Chosen ∷ nodes) k ahead [] rows none h = absurd h
no_more q ns (Chosen ∷ nodes) k ahead (top ∷ more) rows none h =
    no_more q ns nodes k (λ x. ahead x || top.1 x) more rows none (h (λ x. ahead x || top.1 x) (inr (inr (λ x. refl))))

pub all_read : {w : ℕ} → (q : Process) (nodes : List Node) (ns : List ℕ) (s : Sweep w) → length s.rows.items ≡ length ns → Completes q nodes ns s → AreRowsOf (InSequence q) ns s.rows.items
all_read q nodes ns s e (ahead, forks, is, are, h) =
    no_more q ns nodes (length s.rows.items) ahead forks s.rows.items (slice_get_past ns (length s.rows.items) (omega (arith, e))) h
