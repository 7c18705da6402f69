-- The ways of a constraint: lists of pairs of leaves that stand in order (Apply, after Davulcu and others 1998).
use Rattle.std.specs.Prelude.{ℕ, Bool, true, false, ◌==◌, ◌||◌, if◌then◌else◌, List, [], ◌∷◌, ◌++◌, Option, Some, None}
use Rattle.std.specs.List.{find}
use Rattle.flow_model.specs.declared.labels.Label.{Label}
use Rattle.flow_model.specs.Facts.{event_at, is_event}
use Rattle.flow_model.specs.Lists.{each_with_each}
use Rattle.flow_model.specs.Constraint.{Constraint, Always, Impossible, Must, Never, Order, Not, And, Or}

-- constraints with chains split into pairs, and negation carried inward
pub data Normal : Type 0 where
  always : Normal
  impossible : Normal
  must : ℕ → Normal
  never : ℕ → Normal
  -- both happen, the first before the second
  before : ℕ → ℕ → Normal
  not_before : ℕ → ℕ → Normal
  both : Normal → Normal → Normal
  either : Normal → Normal → Normal

-- a chain as its pairs; one event is a must, none is always met
abbrev pub chain : List ℕ → Normal
chain [] = always
chain (a ∷ []) = must a
chain (a ∷ b ∷ []) = before a b
chain (a ∷ b ∷ c ∷ more) = both (before a b) (chain (b ∷ c ∷ more))

-- the negation of a chain
abbrev pub broken_chain : List ℕ → Normal
broken_chain [] = impossible
broken_chain (a ∷ []) = never a
broken_chain (a ∷ b ∷ []) = not_before a b
broken_chain (a ∷ b ∷ c ∷ more) = either (not_before a b) (broken_chain (b ∷ c ∷ more))

-- the normal form of a constraint where the flag is true, and else of its negation
abbrev pub normal_form : Constraint → Bool → Normal
normal_form Always true = always
normal_form Always false = impossible
normal_form Impossible true = impossible
normal_form Impossible false = always
normal_form (Must e) true = must e
normal_form (Must e) false = never e
normal_form (Never e) true = never e
normal_form (Never e) false = must e
normal_form (Order es) true = chain es
normal_form (Order es) false = broken_chain es
normal_form (Not c) true = normal_form c false
normal_form (Not c) false = normal_form c true
normal_form (And c d) true = both (normal_form c true) (normal_form d true)
normal_form (And c d) false = either (normal_form c false) (normal_form d false)
normal_form (Or c d) true = either (normal_form c true) (normal_form d true)
normal_form (Or c d) false = both (normal_form c false) (normal_form d false)

-- the leaf of an event among these leaves
abbrev pub leaf_of_event : List Label → List ℕ → ℕ → Option ℕ
leaf_of_event labels ls e = find (λ n. is_event e (event_at labels n)) ls

-- the one way that asks for nothing
abbrev pub free_way : List (List (ℕ × ℕ))
free_way = [] ∷ []

-- it is the list of the one way that asks for nothing
abbrev pub is_free : List (List (ℕ × ℕ)) → Bool
is_free [] = false
is_free ((pair ∷ pairs) ∷ ways) = false
is_free ([] ∷ []) = true
is_free ([] ∷ way ∷ ways) = false

abbrev pub ways_of_must : Option ℕ → List (List (ℕ × ℕ))
ways_of_must None = []
ways_of_must (Some leaf) = free_way

abbrev pub ways_of_never : Option ℕ → List (List (ℕ × ℕ))
ways_of_never None = free_way
ways_of_never (Some leaf) = []

-- both leaves are there: the first stands before the second
abbrev pub ways_of_before : Option ℕ → Option ℕ → List (List (ℕ × ℕ))
ways_of_before None b = []
ways_of_before (Some x) None = []
ways_of_before (Some x) (Some y) = ((x, y) ∷ []) ∷ []

-- one of the leaves is not there, or the second stands before the first
abbrev pub ways_of_not_before : Option ℕ → Option ℕ → List (List (ℕ × ℕ))
ways_of_not_before None b = free_way
ways_of_not_before (Some x) None = free_way
ways_of_not_before (Some x) (Some y) = ((y, x) ∷ []) ∷ []

-- the ways of a normal form over a set of leaves, by the leaf that each event has there
abbrev pub ways : Normal → (ℕ → Option ℕ) → List (List (ℕ × ℕ))
ways always leaf = free_way
ways impossible leaf = []
ways (must e) leaf = ways_of_must (leaf e)
ways (never e) leaf = ways_of_never (leaf e)
ways (before a b) leaf = if a == b then [] else ways_of_before (leaf a) (leaf b)
ways (not_before a b) leaf = if a == b then free_way else ways_of_not_before (leaf a) (leaf b)
ways (both x y) leaf = each_with_each (λ v w. v ++ w) (ways x leaf) (ways y leaf)
ways (either x y) leaf = one_or (ways x leaf) (ways y leaf)
  where
    one_or : List (List (ℕ × ℕ)) → List (List (ℕ × ℕ)) → List (List (ℕ × ℕ))
    one_or vs ws = if is_free vs || is_free ws then free_way else vs ++ ws

-- the ways of a constraint over a set of leaves
abbrev pub ways_of : Constraint → List Label → List ℕ → List (List (ℕ × ℕ))
ways_of c labels ls = ways (normal_form c true) (leaf_of_event labels ls)
