-- What is read from the nodes of a goal.
use Rattle.std.proofs.Common.{◌≡◌, ℕ, ◌+◌, ◌<◌, ◌≤◌, zero, suc, get_or, List, [], ◌∷◌, ◌++◌, length, drop, Some, slice_get, refl, sym, ◌∙◌, ap, subst, append_assoc, append-nil, zero-add, add-zero, length-append, arith}
use Rattle.flow_goal.specs.Written.{IsWritten}
use Rattle.std.specs.List.Sorted.{IsStrictlyIncreasing}
use Rattle.flow_model.specs.Process.{Process, Empty, Task, Sequence, Parallel, Choice, Isolated, leaves}
use Rattle.flow_model.specs.Folding.{IsFolded, fixed_leaves}
use Rattle.flow_goal.specs.declared.node.Node.{Node}
use Rattle.flow_goal.specs.declared.node.Node.TheVariants.{Serial, Fork, Split, Join, Open, Close, Choose, Or, Chosen}
use Rattle.flow_goal.specs.Written.{nodes_of, leaf_of, read_on}

-- the leaves from the place on begin with those
abbrev pub StandAt : List ℕ → ℕ → List ℕ → Type 0
StandAt ns k front = (back : List ℕ) × (drop k ns ≡ front ++ back)

leaf_there : (ns : List ℕ) (k n : ℕ) (back : List ℕ) → drop k ns ≡ n ∷ back → leaf_of ns k ≡ Task n
leaf_there [] zero n back at = absurd (cc)
leaf_there [] (suc k) n back at = absurd (cc)
leaf_there (m ∷ ns) zero n back at = let same : m ≡ n = cc in ap Task same
leaf_there (m ∷ ns) (suc k) n back at = leaf_there ns k n back at

drop_more : (ns : List ℕ) (k : ℕ) (front back : List ℕ) → drop k ns ≡ front ++ back → drop (k + length front) ns ≡ back
drop_more ns k [] back at = ap (λ (j : ℕ). drop j ns) (add-zero k) ∙ at
drop_more [] zero (n ∷ front) back at = absurd (cc)
drop_more (m ∷ ns) zero (n ∷ front) back at =
    let tail : ns ≡ front ++ back = cc in
    ap (λ (j : ℕ). drop j (m ∷ ns)) (zero-add (suc (length front))) ∙ ap (λ (j : ℕ). drop j ns) (sym (zero-add (length front))) ∙ drop_more ns zero front back tail
drop_more [] (suc k) (n ∷ front) back at = absurd (cc)
drop_more (m ∷ ns) (suc k) (n ∷ front) back at =
    let e : suc k + suc (length front) ≡ suc (k + suc (length front)) = omega arith in
    ap (λ (j : ℕ). drop j (m ∷ ns)) e ∙ drop_more ns k (n ∷ front) back at

pub first_stand : (ns : List ℕ) (k : ℕ) (a b : List ℕ) → StandAt ns k (a ++ b) → StandAt ns k a
first_stand ns k a b at = (b ++ at.0, at.1 ∙ append_assoc a b at.0)

pub second_stand : (ns : List ℕ) (k : ℕ) (a b : List ℕ) → StandAt ns k (a ++ b) → StandAt ns (k + length a) b
second_stand ns k a b at = (at.0, drop_more ns k a (b ++ at.0) (at.1 ∙ append_assoc a b at.0))

pub both_long : (k : ℕ) (a b : List ℕ) → k + length a + length b ≡ k + length (a ++ b)
both_long k a b = omega (arith, length-append a b)

-- the leaf that stands at a place
pub leaf_stands : (ns : List ℕ) (k n : ℕ) (back : List ℕ) → drop k ns ≡ n ∷ back → slice_get ns k ≡ Some n
leaf_stands [] zero n back at = absurd (cc)
leaf_stands [] (suc k) n back at = absurd (cc)
leaf_stands (m ∷ ns) zero n back at = let same : m ≡ n = cc in ap Some same
leaf_stands (m ∷ ns) (suc k) n back at = leaf_stands ns k n back at

-- the marks of two goals before others
pub sequence_nodes : (a b : Process) (nodes : List Node) → nodes_of (Sequence a b) ++ nodes ≡ nodes_of a ++ (nodes_of b ++ (Serial ∷ nodes))
sequence_nodes a b nodes =
    append_assoc (nodes_of a) (nodes_of b ++ Serial ∷ []) nodes ∙ ap (λ l. nodes_of a ++ l) (append_assoc (nodes_of b) (Serial ∷ []) nodes)

pub parallel_nodes : (a b : Process) (nodes : List Node) → nodes_of (Parallel a b) ++ nodes ≡ Fork ∷ (nodes_of a ++ (Split ∷ (nodes_of b ++ (Join ∷ nodes))))
parallel_nodes a b nodes =
    ap (λ l. Fork ∷ l) (append_assoc (nodes_of a) (Split ∷ (nodes_of b ++ Join ∷ [])) nodes
    ∙ ap (λ l. nodes_of a ++ (Split ∷ l)) (append_assoc (nodes_of b) (Join ∷ []) nodes))

pub choice_nodes : (a b : Process) (nodes : List Node) → nodes_of (Choice a b) ++ nodes ≡ Choose ∷ (nodes_of a ++ (Or ∷ (nodes_of b ++ (Chosen ∷ nodes))))
choice_nodes a b nodes =
    ap (λ l. Choose ∷ l) (append_assoc (nodes_of a) (Or ∷ (nodes_of b ++ Chosen ∷ [])) nodes
    ∙ ap (λ l. nodes_of a ++ (Or ∷ l)) (append_assoc (nodes_of b) (Chosen ∷ []) nodes))

pub isolated_nodes : (a : Process) (nodes : List Node) → nodes_of (Isolated a) ++ nodes ≡ Open ∷ (nodes_of a ++ (Close ∷ nodes))
isolated_nodes a nodes = ap (λ l. Open ∷ l) (append_assoc (nodes_of a) (Close ∷ []) nodes)

-- the nodes of a goal put it on the stack
pub read_nodes : (g : Process) (more : List Node) (ns : List ℕ) (k : ℕ) (stack : List Process) → StandAt ns k (leaves g) →
    read_on (nodes_of g ++ more) ns k stack ≡ read_on more ns (k + length (leaves g)) (g ∷ stack)
read_nodes Empty more ns k stack at = ap (λ (j : ℕ). read_on more ns j (Empty ∷ stack)) (omega arith)
read_nodes (Task n) more ns k stack at =
    ap (λ (g : Process). read_on more ns (suc k) (g ∷ stack)) (leaf_there ns k n at.0 at.1)
    ∙ ap (λ (j : ℕ). read_on more ns j (Task n ∷ stack)) (omega arith)
read_nodes (Sequence a b) more ns k stack at =
    ap (λ (l : List Node). read_on l ns k stack) (sequence_nodes a b more)
    ∙ read_nodes a (nodes_of b ++ (Serial ∷ more)) ns k stack (first_stand ns k (leaves a) (leaves b) at)
    ∙ read_nodes b (Serial ∷ more) ns (k + length (leaves a)) (a ∷ stack) (second_stand ns k (leaves a) (leaves b) at)
    ∙ ap (λ (j : ℕ). read_on more ns j (Sequence a b ∷ stack)) (both_long k (leaves a) (leaves b))
read_nodes (Parallel a b) more ns k stack at =
    ap (λ (l : List Node). read_on l ns k stack) (parallel_nodes a b more)
    ∙ read_nodes a (Split ∷ (nodes_of b ++ (Join ∷ more))) ns k stack (first_stand ns k (leaves a) (leaves b) at)
    ∙ read_nodes b (Join ∷ more) ns (k + length (leaves a)) (a ∷ stack) (second_stand ns k (leaves a) (leaves b) at)
    ∙ ap (λ (j : ℕ). read_on more ns j (Parallel a b ∷ stack)) (both_long k (leaves a) (leaves b))
read_nodes (Choice a b) more ns k stack at =
    ap (λ (l : List Node). read_on l ns k stack) (choice_nodes a b more)
    ∙ read_nodes a (Or ∷ (nodes_of b ++ (Chosen ∷ more))) ns k stack (first_stand ns k (leaves a) (leaves b) at)
    ∙ read_nodes b (Chosen ∷ more) ns (k + length (leaves a)) (a ∷ stack) (second_stand ns k (leaves a) (leaves b) at)
    ∙ ap (λ (j : ℕ). read_on more ns j (Choice a b ∷ stack)) (both_long k (leaves a) (leaves b))
read_nodes (Isolated a) more ns k stack at =
    ap (λ (l : List Node). read_on l ns k stack) (isolated_nodes a more)
    ∙ read_nodes a (Close ∷ more) ns k stack at

-- the nodes and leaves of a goal are read as that goal
pub read_whole : (g : Process) (nodes : List Node) (ns : List ℕ) → ns ≡ leaves g → nodes ≡ nodes_of g → read_on nodes ns 0 [] ≡ g
read_whole g nodes ns listed are =
    ap (λ (l : List Node). read_on l ns 0 []) (are ∙ sym (append-nil (nodes_of g))) ∙ read_nodes g [] ns 0 [] ([], listed ∙ sym (append-nil (leaves g)))

pub read_resolved : (g : Process) (nodes : List Node) (ns fixed : List ℕ) → IsFolded g → ns ≡ leaves g → fixed ≡ fixed_leaves g → IsStrictlyIncreasing ns →
    nodes ≡ nodes_of g → IsWritten nodes ns fixed
read_resolved g nodes ns fixed folded listed outside rising are =
    let is : read_on nodes ns 0 [] ≡ g = read_whole g nodes ns listed are in record {
      resolved = record {
        folded = subst (λ (g : Process). IsFolded g) (sym is) folded;
        listed = listed ∙ ap leaves (sym is);
        rising = rising;
        fixed_are = outside ∙ ap fixed_leaves (sym is);
      };
      nodes_are = are ∙ ap nodes_of (sym is);
    }

-- the leaf at a place, by a look
pub leaf_found : (ns : List ℕ) (k : ℕ) → k < length ns → Task (get_or ns k 0) ≡ leaf_of ns k
leaf_found [] k within = absurd (omega (arith, within))
leaf_found (m ∷ ns) zero within = refl
leaf_found (m ∷ ns) (suc k) within = leaf_found ns k (omega (arith, within))

pub leaf_missing : (ns : List ℕ) (k : ℕ) → length ns ≤ k → Empty ≡ leaf_of ns k
leaf_missing [] k past = refl
leaf_missing (m ∷ ns) zero past = absurd (omega (arith, past))
leaf_missing (m ∷ ns) (suc k) past = leaf_missing ns k (omega (arith, past))
