-- Places of a list that are looked at one after another.
use Rattle.std.proofs.Common.{Bool, true, false, true≢false, IsTrue, ◌↔◌, ◌≡◌, ◌<◌, ◌≤◌, ◌+◌, ◌∙◌, ◌⊎◌, ℕ, zero, suc, List, [], ◌∷◌, ◌++◌, length, take, get_or, None, slice_get, inl, inr, refl, sym, ap, subst, arith}
use Rattle.std.proofs.lemmas.List.{take_more, take_all}
use Rattle.flow_model.specs.Lists.{◌∈◌}
use Rattle.flow_model.proofs.Lists.{mem-append}

-- no place before the bound has P
abbrev pub NoneBefore : (ℕ → Type 0) → ℕ → Type 0
NoneBefore P bound = (place : ℕ) → place < bound → ¬ (P place)

-- past the end of a list nothing stands
pub none_at : {A : Type 0} (xs : List A) (first place : ℕ) → slice_get xs first ≡ None → first ≤ place → slice_get xs place ≡ None
none_at [] first place e past = refl
none_at (x ∷ xs) zero place e past = absurd (cc)
none_at (x ∷ xs) (suc first) zero e past = absurd (omega arith)
none_at (x ∷ xs) (suc first) (suc place) e past = none_at xs first place e (omega arith)

-- some member of the first so many, and none of them
abbrev pub SomeIn : {A : Type 0} → (A → Type 0) → List A → Type 0
SomeIn {A} P xs = (x : A) × (x ∈ xs) × P x

pub none_of_none : {A : Type 0} (P : A → Type 0) (xs : List A) → ¬ (SomeIn P (take 0 xs))
none_of_none P xs some = absurd some.1

pub none_of_more : {A : Type 0} (P : A → Type 0) (xs : List A) (k : ℕ) (d x : A) → k < length xs → x ≡ get_or xs k d → ¬ (SomeIn P (take k xs)) → ¬ (P x) → ¬ (SomeIn P (take (k + 1) xs))
none_of_more {A} P xs k d x within is none last some =
    let all : take (k + 1) xs ≡ take k xs ++ x ∷ [] = take_more xs k d within ∙ ap (λ (y : A). take k xs ++ y ∷ []) (sym is) in
    let there : some.0 ∈ (take k xs ++ x ∷ []) = subst (λ (l : List A). some.0 ∈ l) all some.1 in
    elim (mem-append some.0 (take k xs) (x ∷ []) there) [
      | inl before ↦ none (some.0, before, some.2)
      | inr (inl same) ↦ last (subst P same some.2)
      | inr (inr nothing) ↦ absurd nothing
    ]

pub none_of_all : {A : Type 0} (P : A → Type 0) (xs : List A) (k : ℕ) → length xs ≤ k → ¬ (SomeIn P (take k xs)) → ¬ (SomeIn P xs)
none_of_all {A} P xs k past none = subst (λ (l : List A). ¬ (SomeIn P l)) (take_all k xs past) none

stands_at : {A : Type 0} (P : A → Type 0) (xs : List A) (k : ℕ) (d : A) → k < length xs → P (get_or xs k d) → SomeIn P xs
stands_at P (x ∷ xs) zero d within has = (x, inl refl, has)
stands_at P (x ∷ xs) (suc k) d within has = let more = stands_at P xs k d (omega arith) has in (more.0, inr more.1, more.2)
stands_at P [] k d within has = absurd (omega arith)

pub some_at : {A : Type 0} (P : A → Type 0) (xs : List A) (k : ℕ) (d x : A) → k < length xs → x ≡ get_or xs k d → P x → SomeIn P xs
some_at P xs k d x within is has = stands_at P xs k d within (subst P is has)

-- one test after another: the first is true, or it is false and the second decides
pub first_holds : {A B : Type 0} (r : Bool) → r ≡ true → IsTrue r ↔ A → IsTrue r ↔ (A ⊎ B)
first_holds r holds test = ((λ t. inl (test.0 t)), (λ either. holds))

pub second_decides : {A B : Type 0} (r s : Bool) → r ≡ false → IsTrue r ↔ A → IsTrue s ↔ B → IsTrue s ↔ (A ⊎ B)
second_decides {A} {B} r s fails first second = (
  (λ t. inr (second.0 t)),
  (λ (either : A ⊎ B). elim either [
    | inl a ↦ absurd (true≢false (sym (first.1 a) ∙ fails))
    | inr b ↦ second.1 b
  ]),
)
