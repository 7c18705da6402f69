-- Lists in which each member has a relation to all behind it.
use Rattle.std.proofs.Common.{◌≡◌, ◌<◌, ℕ, zero, suc, inl, inr, List, [], ◌∷◌, ◌++◌, drop, Option, Some, None, slice_get, filter_map, refl, arith}
use Rattle.flow_model.specs.Lists.{◌∈◌, Each}
use Rattle.flow_model.proofs.Lists.{each-append, each_from_members, each_member}
use Rattle.flow_model.proofs.MadeLists.{of_filter_map}
use Rattle.flow_standing.specs.Undone.{ArePairwise}

each_place : {A : Type 0} (P : A → Type 0) (list : List A) → ((j : ℕ) (y : A) → slice_get list j ≡ Some y → P y) → Each P list
each_place P [] h = tt
each_place P (x ∷ list) h = (h 0 x refl, each_place P list (λ j y e. h (suc j) y e))

-- what is so of the members at two places
pub pairwise_places : {A : Type 0} (R : A → A → Type 0) (list : List A) →
    ((i j : ℕ) (x y : A) → i < j → slice_get list i ≡ Some x → slice_get list j ≡ Some y → R x y) → ArePairwise R list
pairwise_places R [] h = tt
pairwise_places R (x ∷ list) h =
    (each_place (R x) list (λ j y e. h 0 (suc j) x y (omega arith) refl e), pairwise_places R list (λ i j u v l a b. h (suc i) (suc j) u v (omega arith) a b))

pub pairwise-drop : {A : Type 0} (R : A → A → Type 0) (n : ℕ) (list : List A) → ArePairwise R list → ArePairwise R (drop n list)
pairwise-drop R zero list h = h
pairwise-drop R (suc n) [] h = h
pairwise-drop R (suc n) (x ∷ list) h = pairwise-drop R n list h.1

pub pairwise-append : {A : Type 0} (R : A → A → Type 0) (a b : List A) → ArePairwise R a → ArePairwise R b → ((x y : A) → x ∈ a → y ∈ b → R x y) → ArePairwise R (a ++ b)
pairwise-append R [] b ha hb across = hb
pairwise-append R (x ∷ a) b ha hb across =
    (each-append (R x) a b ha.0 (each_from_members (R x) b (λ y m. across x y (inl refl) m)), pairwise-append R a b ha.1 hb (λ u v m k. across u v (inr m) k))

-- of what a filter makes of them
pub pairwise-filter_map : {A B : Type 0} (R : A → A → Type 0) (S : B → B → Type 0) (f : A → Option B) (list : List A) →
    ((x y : A) (a b : B) → R x y → f x ≡ Some a → f y ≡ Some b → S a b) → ArePairwise R list → ArePairwise S (filter_map f list)
pairwise-filter_map R S f [] to h = tt
pairwise-filter_map {A} {B} R S f (x ∷ list) to h = step (f x) refl (pairwise-filter_map R S f list to h.1)
  where
    step : (o : Option B) → f x ≡ o → ArePairwise S (filter_map f list) → ArePairwise S (filter_map f (x ∷ list))
    step None e rest = rw e rest
    step (Some a) e rest = rw e (
      each_from_members (S a) (filter_map f list) (λ b m. let (y, there, is) = of_filter_map f b list m in to x y a b (each_member (R x) list h.0 y there) e is),
      rest,
    )
