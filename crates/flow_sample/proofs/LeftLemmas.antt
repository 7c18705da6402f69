-- The leaves on left sides: read from marks, they are those of the goal with the left side taken at each choice, in which those
-- lead forward that do in the goal.
use Rattle.std.proofs.Common.{◌≡◌, ◌≢◌, ◌<◌, ◌+◌, ℕ, zero, suc, List, [], ◌∷◌, ◌++◌, drop, slice_get, Some, None, refl, sym, ◌∙◌, ap, subst, inl, inr, arith, append_assoc, append-nil}
use Rattle.std.proofs.lemmas.List.{drop_all, drop_more}
use Rattle.std.proofs.lemmas.Option.{slice_get_cases, slice_get_within, get_or_from_slice_get}
use Rattle.std.specs.List.Sorted.{IsStrictlyIncreasing}
use Rattle.flow_model.specs.Lists.{Each, AreInOrder}
use Rattle.flow_model.specs.Process.{Process, Empty, Task, Sequence, Parallel, Choice, Isolated, leaves}
use Rattle.flow_model.specs.Resolution.{OptionTrace}
use Rattle.flow_model.proofs.Lists.{before_or_after}
use Rattle.flow_laws.specs.WellFormed.{AreOfLeaves}
use Rattle.flow_laws.proofs.ThinnedLists.{Thins, thins_all, thins_none, thins-append, before_in_thins}
use Rattle.flow_fold_laws.specs.Unfolding.{IsFoldedOrdered}
use Rattle.flow_goal.specs.LeftSides.{left_sides}
use Rattle.flow_goal.specs.Written.{nodes_of}
use Rattle.flow_goal.specs.declared.node.Node.{Node}
use Rattle.flow_goal.specs.declared.node.Node.TheVariants.{Leaf, Serial, Split, Join, Close, Or, Chosen}
use Rattle.flow_goal.proofs.WrittenLemmas.{sequence_nodes, parallel_nodes, choice_nodes, isolated_nodes}
use Rattle.flow_plan.specs.declared.token.OrderToken.{OrderToken}
use Rattle.flow_plan.specs.Planned.{pairs_of}
use Rattle.flow_sample.specs.LeftLeaves.{WalksOn, left_read}
use Rattle.flow_sample.specs.declared.left_leaves.LeftWalk.{LeftWalk}
use Rattle.flow_sample.proofs.ForwardLemmas.{straight}
use Rattle.flow_sample.proofs.RisingLemmas.{rises}
use Rattle.flow_goal.proofs.KeptLemmas.{left_sides_free}
use Rattle.flow_sample.proofs.SideLemmas.{left_of_leaves, left_traced}

-- Marks

-- the leaves of a goal, and those behind it, by its marks and those behind them
read_by : (nodes more : List Node) (ns ms : List ℕ) (passed : ℕ) (out : List ℕ) → nodes ≡ more → ns ≡ ms → left_read more ms passed ≡ out → left_read nodes ns passed ≡ out
read_by nodes more ns ms passed out e f h = (λ i. left_read (e i) (f i) passed) ∙ h

-- where they are passed over, none is taken
passed_over : (g : Process) (nodes : List Node) (ns : List ℕ) (passed : ℕ) → left_read (nodes_of g ++ nodes) (leaves g ++ ns) (suc passed) ≡ left_read nodes ns (suc passed)
passed_over Empty nodes ns passed = refl
passed_over (Task n) nodes ns passed = refl
passed_over (Sequence a b) nodes ns passed =
    read_by _ _ _ _ (suc passed) _ (sequence_nodes a b nodes) (append_assoc (leaves a) (leaves b) ns)
    (passed_over a (nodes_of b ++ (Serial ∷ nodes)) (leaves b ++ ns) passed ∙ passed_over b (Serial ∷ nodes) ns passed)
passed_over (Parallel a b) nodes ns passed =
    read_by _ _ _ _ (suc passed) _ (parallel_nodes a b nodes) (append_assoc (leaves a) (leaves b) ns)
    (passed_over a (Split ∷ (nodes_of b ++ (Join ∷ nodes))) (leaves b ++ ns) passed ∙ passed_over b (Join ∷ nodes) ns passed)
passed_over (Choice a b) nodes ns passed =
    read_by _ _ _ _ (suc passed) _ (choice_nodes a b nodes) (append_assoc (leaves a) (leaves b) ns)
    (passed_over a (Or ∷ (nodes_of b ++ (Chosen ∷ nodes))) (leaves b ++ ns) passed ∙ passed_over b (Chosen ∷ nodes) ns (suc passed))
passed_over (Isolated a) nodes ns passed =
    read_by _ _ _ _ (suc passed) _ (isolated_nodes a nodes) refl (passed_over a (Close ∷ nodes) ns passed)

left_taken : (g : Process) (nodes : List Node) (ns : List ℕ) → left_read (nodes_of g ++ nodes) (leaves g ++ ns) 0 ≡ leaves (left_sides g) ++ left_read nodes ns 0
left_taken Empty nodes ns = refl
left_taken (Task n) nodes ns = refl
left_taken (Sequence a b) nodes ns =
    read_by _ _ _ _ 0 _ (sequence_nodes a b nodes) (append_assoc (leaves a) (leaves b) ns)
    (left_taken a (nodes_of b ++ (Serial ∷ nodes)) (leaves b ++ ns) ∙ ap (λ l. leaves (left_sides a) ++ l) (left_taken b (Serial ∷ nodes) ns)
    ∙ sym (append_assoc (leaves (left_sides a)) (leaves (left_sides b)) (left_read nodes ns 0)))
left_taken (Parallel a b) nodes ns =
    read_by _ _ _ _ 0 _ (parallel_nodes a b nodes) (append_assoc (leaves a) (leaves b) ns)
    (left_taken a (Split ∷ (nodes_of b ++ (Join ∷ nodes))) (leaves b ++ ns) ∙ ap (λ l. leaves (left_sides a) ++ l) (left_taken b (Join ∷ nodes) ns)
    ∙ sym (append_assoc (leaves (left_sides a)) (leaves (left_sides b)) (left_read nodes ns 0)))
left_taken (Choice a b) nodes ns =
    read_by _ _ _ _ 0 _ (choice_nodes a b nodes) (append_assoc (leaves a) (leaves b) ns)
    (left_taken a (Or ∷ (nodes_of b ++ (Chosen ∷ nodes))) (leaves b ++ ns) ∙ ap (λ l. leaves (left_sides a) ++ l) (passed_over b (Chosen ∷ nodes) ns 0))
left_taken (Isolated a) nodes ns = read_by _ _ _ _ 0 _ (isolated_nodes a nodes) refl (left_taken a (Close ∷ nodes) ns)

-- the whole goal
pub all_taken : (q : Process) (nodes : List Node) (ns : List ℕ) → nodes ≡ nodes_of q → ns ≡ leaves q → left_read nodes ns 0 ≡ leaves (left_sides q)
all_taken q nodes ns e f =
    read_by nodes (nodes_of q ++ []) ns (leaves q ++ []) 0 (leaves (left_sides q)) (e ∙ sym (append-nil (nodes_of q))) (f ∙ sym (append-nil (leaves q)))
    (left_taken q [] [] ∙ append-nil (leaves (left_sides q)))

-- what is left of a list at a place

pub drop_at : (ns : List ℕ) (k n : ℕ) → slice_get ns k ≡ Some n → drop k ns ≡ n ∷ drop (k + 1) ns
drop_at ns k n at = drop_more ns k n (slice_get_within ns k n at) ∙ ap (λ m. m ∷ drop (k + 1) ns) (get_or_from_slice_get ns k n n at)

pub drop_past : (ns : List ℕ) (k : ℕ) → slice_get ns k ≡ None → drop k ns ≡ []
drop_past ns k at = elim (slice_get_cases ns k).1 [
  | inl h ↦ let some : None ≡ Some h.0 = sym at ∙ h.2 in absurd (cc)
  | inr h ↦ drop_all k ns h.0
]

-- one leaf

past : (nodes : List Node) (ns : List ℕ) (passed : ℕ) → ns ≡ [] → left_read (Leaf ∷ nodes) ns passed ≡ left_read nodes ns passed
past nodes ns passed e = ap (λ l. left_read (Leaf ∷ nodes) l passed) e ∙ sym (ap (λ l. left_read nodes l passed) e)

over : (nodes : List Node) (n : ℕ) (ns : List ℕ) (passed : ℕ) → passed ≢ 0 → left_read (Leaf ∷ nodes) (n ∷ ns) passed ≡ left_read nodes ns passed
over nodes n ns zero some = absurd (some refl)
over nodes n ns (suc passed) some = refl

takes : (nodes : List Node) (n : ℕ) (ns : List ℕ) (passed : ℕ) → passed ≡ 0 → left_read (Leaf ∷ nodes) (n ∷ ns) passed ≡ n ∷ left_read nodes ns passed
takes nodes n ns zero none = refl
takes nodes n ns (suc passed) none = absurd (omega (arith, none))

pub leaf_past : (walk : LeftWalk) (ns : List ℕ) → slice_get ns walk.place ≡ None → WalksOn ns Leaf walk walk
leaf_past walk ns at nodes = ap (λ l. walk.taken.items ++ l) (past nodes (drop walk.place ns) walk.passed (drop_past ns walk.place at))

pub leaf_over : (old new : LeftWalk) (ns : List ℕ) (n : ℕ) → slice_get ns old.place ≡ Some n → old.passed ≢ 0 → new.place ≡ old.place + 1 → new.passed ≡ old.passed →
    new.taken ≡ old.taken → WalksOn ns Leaf old new
leaf_over old new ns n at some place passed taken nodes =
    ap (λ l. old.taken.items ++ l)
    (ap (λ l. left_read (Leaf ∷ nodes) l old.passed) (drop_at ns old.place n at) ∙ over nodes n (drop (old.place + 1) ns) old.passed some)
    ∙ sym (λ i. (taken i).items ++ left_read nodes (drop (place i) ns) (passed i))

pub leaf_takes : (old new : LeftWalk) (ns : List ℕ) (n : ℕ) → slice_get ns old.place ≡ Some n → old.passed ≡ 0 → new.place ≡ old.place + 1 → new.passed ≡ old.passed →
    new.taken.items ≡ old.taken.items ++ n ∷ [] → WalksOn ns Leaf old new
leaf_takes old new ns n at none place passed taken nodes =
    ap (λ l. old.taken.items ++ l)
    (ap (λ l. left_read (Leaf ∷ nodes) l old.passed) (drop_at ns old.place n at) ∙ takes nodes n (drop (old.place + 1) ns) old.passed none)
    ∙ sym (append_assoc old.taken.items (n ∷ []) (left_read nodes (drop (old.place + 1) ns) old.passed))
    ∙ sym (λ i. taken i ++ left_read nodes (drop (place i) ns) (passed i))

-- Order

left_thins : (q : Process) → Thins (leaves (left_sides q)) (leaves q)
left_thins Empty = thins_all []
left_thins (Task n) = thins_all (n ∷ [])
left_thins (Sequence a b) = thins-append (left_thins a) (left_thins b)
left_thins (Parallel a b) = thins-append (left_thins a) (left_thins b)
left_thins (Choice a b) = subst (λ l. Thins l (leaves a ++ leaves b)) (append-nil (leaves (left_sides a))) (thins-append (left_thins a) (thins_none (leaves b)))
left_thins (Isolated a) = left_thins a

-- pairs that lead forward are in order there
left_order : (q : Process) → IsStrictlyIncreasing (leaves q) → (tokens : List OrderToken) → AreOfLeaves (left_sides q) (pairs_of tokens) →
    Each (λ (token : OrderToken). token.sender < token.receiver) tokens → AreInOrder (pairs_of tokens) (leaves (left_sides q))
left_order q rising [] of_leaves forward = tt
left_order q rising (t ∷ tokens) of_leaves forward =
    let less = forward.0 in (
      elim (before_or_after t.sender t.receiver (leaves (left_sides q)) of_leaves.0.0 of_leaves.0.1 (λ e. omega (arith, e, less))) [
        | inl h ↦ h
        | inr h ↦ absurd (omega (arith, less, rises (leaves q) rising t.receiver t.sender (before_in_thins (left_thins q) t.receiver t.sender h)))
      ],
      left_order q rising tokens of_leaves.1 forward.1,
    )

pub left_run : (q : Process) (tokens : List OrderToken) → IsFoldedOrdered q (pairs_of tokens) → IsStrictlyIncreasing (leaves q) →
    Each (λ (token : OrderToken). token.sender < token.receiver) tokens → OptionTrace (record { resolution = q; order = pairs_of tokens }) (leaves (left_sides q))
left_run q tokens w rising forward =
    left_traced q (pairs_of tokens) w (leaves (left_sides q))
    (straight (left_sides q) (left_sides_free q), left_order q rising tokens (left_of_leaves q (pairs_of tokens) w) forward)
