-- Goals whose choices all stay, and goals without choices that are made of them.
use Rattle.std.proofs.Common.{◌≡◌, ℕ, ◌<◌, List, inl, refl, sym, ap, subst}
use Rattle.flow_model.specs.Lists.{◌∈◌, Each}
use Rattle.flow_model.specs.Process.{Process, Empty, Task, Sequence, Parallel, Choice, Isolated, leaves, IsChoiceFree}
use Rattle.flow_model.specs.Resolution.{resolutions}
use Rattle.flow_model.specs.Folding.{outside_choices, fixed_leaves}
use Rattle.flow_model.proofs.Lists.{each_member, each_from_members, each_to}
use Rattle.flow_laws.specs.Resolutions.{Resolves}
use Rattle.flow_laws.proofs.ResolutionsLemmas.{mem-resolutions, mem-leaves_of_goal}
use Rattle.flow_fold_laws.proofs.Unfoldings.{fixed_in_goal, fixed_in_unfolding}
use Rattle.flow_fold_laws.proofs.OutsideChoices.{outside_choice_free, outside_none}
use Rattle.flow_goal.proofs.KeptLemmas.{left_sides_free}
use Rattle.flow_goal.specs.LeftSides.{left_sides}
use Rattle.flow_goal.specs.Resolved.{Resolved, IsResolved}

-- both leaves of each pair are among those
abbrev pub ArePairsOf : List ℕ → List (ℕ × ℕ) → Type 0
ArePairsOf ns pairs = Each (λ pair. (pair.0 ∈ ns) × (pair.1 ∈ ns)) pairs

-- ---- the left side at each choice

pub left_sides_resolve : (q : Process) → Resolves q (left_sides q)
left_sides_resolve Empty = refl
left_sides_resolve (Task n) = refl
left_sides_resolve (Sequence a b) = (left_sides a, left_sides b, left_sides_resolve a, left_sides_resolve b, refl)
left_sides_resolve (Parallel a b) = (left_sides a, left_sides b, left_sides_resolve a, left_sides_resolve b, refl)
left_sides_resolve (Choice a b) = inl (left_sides_resolve a)
left_sides_resolve (Isolated a) = (left_sides a, left_sides_resolve a, refl)

-- they are an unfolding
pub left_sides_unfold : (q : Process) → left_sides q ∈ resolutions q
left_sides_unfold q = mem-resolutions q (left_sides q) (left_sides_resolve q)

-- where there is no choice, each leaf is outside choices
pub fixed_of_choice_free : (q : Process) → IsChoiceFree q → fixed_leaves q ≡ leaves q
fixed_of_choice_free q free = ap leaves (outside_none q free)

-- ---- the plan of a goal that is made of another

-- what holds of each leaf of a goal
each_leaf : (P : ℕ → Type 0) (q u : Process) → ((n : ℕ) → n ∈ leaves u → n ∈ leaves q) → Each P (leaves q) → Each P (leaves u)
each_leaf P q u within all = each_from_members P (leaves u) (λ n m. each_member P (leaves q) all n (within n m))

module _ (g : Resolved) (q : Process) (is : IsResolved g) where
  -- its leaves have places too
  made_small : (bound : ℕ) (ns : List ℕ) → ((n : ℕ) → n ∈ leaves g.process → n ∈ leaves q) → ns ≡ leaves q → Each (λ n. n < bound) ns → Each (λ n. n < bound) g.leaves
  made_small bound ns within listed small =
      subst (Each (λ n. n < bound)) (sym is.listed) (each_leaf (λ n. n < bound) q g.process within (subst (Each (λ n. n < bound)) listed small))

  -- the leaves of the pairs are outside choices in it too
  made_fixed : (pairs : List (ℕ × ℕ)) → ((n : ℕ) → n ∈ fixed_leaves q → n ∈ fixed_leaves g.process) → ArePairsOf (fixed_leaves q) pairs → ArePairsOf g.fixed pairs
  made_fixed pairs within of_fixed = subst (λ (ns : List ℕ). ArePairsOf ns pairs) (sym is.fixed_are)
      (each_to (λ pair. (pair.0 ∈ fixed_leaves q) × (pair.1 ∈ fixed_leaves q)) (λ pair. (pair.0 ∈ fixed_leaves g.process) × (pair.1 ∈ fixed_leaves g.process)) pairs
      (λ pair (first, second). (within pair.0 first, within pair.1 second)) of_fixed)

module _ (g : Resolved) (q : Process) (is : IsResolved g) (left : g.process ≡ left_sides q) where
  pub left_small : (bound : ℕ) (ns : List ℕ) → ns ≡ leaves q → Each (λ n. n < bound) ns → Each (λ n. n < bound) g.leaves
  left_small bound ns = made_small g q is bound ns (λ n m. mem-leaves_of_goal q (left_sides q) (left_sides_resolve q) n (subst (λ (p : Process). n ∈ leaves p) left m))

  pub left_fixed : (pairs : List (ℕ × ℕ)) → ArePairsOf (fixed_leaves q) pairs → ArePairsOf g.fixed pairs
  left_fixed pairs = made_fixed g q is pairs (λ n m. subst (λ (p : Process). n ∈ fixed_leaves p) (sym left)
      (subst (λ (ns : List ℕ). n ∈ ns) (sym (fixed_of_choice_free (left_sides q) (left_sides_free q))) (fixed_in_unfolding q (left_sides q) (left_sides_resolve q) n m)))

module _ (g : Resolved) (q : Process) (is : IsResolved g) (outside : g.process ≡ outside_choices q) where
  pub outside_small : (bound : ℕ) (ns : List ℕ) → ns ≡ leaves q → Each (λ n. n < bound) ns → Each (λ n. n < bound) g.leaves
  outside_small bound ns = made_small g q is bound ns (λ n m. fixed_in_goal q n (subst (λ (p : Process). n ∈ leaves p) outside m))

  pub outside_fixed : (pairs : List (ℕ × ℕ)) → ArePairsOf (fixed_leaves q) pairs → ArePairsOf g.fixed pairs
  outside_fixed pairs = made_fixed g q is pairs (λ n m. subst (λ (p : Process). n ∈ fixed_leaves p) (sym outside)
      (subst (λ (ns : List ℕ). n ∈ ns) (sym (fixed_of_choice_free (outside_choices q) (outside_choice_free q))) m))
