-- Words on lists that the definitions share.
use Rattle.std.specs.Prelude.{◌≡◌, ℕ, zero, suc, ◌+◌, List, [], ◌∷◌, ◌++◌, ◌⊎◌}

infix 40 ◌∈◌
-- x is a member of the list
abbrev pub ◌∈◌ : {A : Type 0} → A → List A → Type 0
x ∈ [] = ⊥
x ∈ (y ∷ ys) = (x ≡ y) ⊎ (x ∈ ys)

-- each member has P
abbrev pub Each : {A : Type 0} → (A → Type 0) → List A → Type 0
Each P [] = Unit {0}
Each P (x ∷ xs) = P x × Each P xs

-- no member stands twice
abbrev pub AreDistinct : {A : Type 0} → List A → Type 0
AreDistinct [] = Unit {0}
AreDistinct (x ∷ xs) = ¬ (x ∈ xs) × AreDistinct xs

-- the list begins with that front
abbrev pub Begins : {A : Type 0} → List A → List A → Type 0
Begins {A} list front = (rest : List A) × (list ≡ front ++ rest)

-- x stands in the list, and y somewhere after it
abbrev pub StandsBefore : {A : Type 0} → A → A → List A → Type 0
StandsBefore x y [] = ⊥
StandsBefore x y (z ∷ zs) = ((x ≡ z) × (y ∈ zs)) ⊎ StandsBefore x y zs

-- of each pair, the first stands before the second
abbrev pub AreInOrder : {A : Type 0} → List (A × A) → List A → Type 0
AreInOrder pairs list = Each (λ pair. StandsBefore pair.0 pair.1 list) pairs

-- the first list is an order of the second: the same members, each as often
abbrev pub IsOrderOf : {A : Type 0} → List A → List A → Type 0
IsOrderOf [] members = members ≡ []
IsOrderOf {A} (x ∷ order) members =
    (front back : List A) × (members ≡ front ++ x ∷ back) × IsOrderOf order (front ++ back)

-- lists joined end to end
abbrev pub joined : {A : Type 0} → List (List A) → List A
joined [] = []
joined (x ∷ xs) = x ++ joined xs

-- so many numbers, rising by one from the first
abbrev pub numbers_from : ℕ → ℕ → List ℕ
numbers_from first zero = []
numbers_from first (suc count) = first ∷ numbers_from (first + 1) count

-- f of each member of the first list and each of the second, the second running faster
abbrev pub each_with_each : {A B C : Type 0} → (A → B → C) → List A → List B → List C
each_with_each f [] ys = []
each_with_each {A} {B} {C} f (x ∷ xs) ys = with_each ys ++ each_with_each f xs ys
  where
    with_each : List B → List C
    with_each [] = []
    with_each (y ∷ ys) = f x y ∷ with_each ys
