-- Each of one list with each of another.
use Rattle.std.proofs.Common.{◌≡◌, List, [], ◌∷◌, ◌++◌, map, refl, sym, ap, ◌∙◌, append_assoc}
use Rattle.std.proofs.lemmas.List.{map-append}
use Rattle.flow_model.specs.Lists.{each_with_each}

pub each_with_each-append : {A B C : Type 0} (f : A → B → C) (xs ys : List A) (zs : List B) →
    each_with_each f (xs ++ ys) zs ≡ each_with_each f xs zs ++ each_with_each f ys zs
each_with_each-append f [] ys zs = refl
each_with_each-append f (x ∷ xs) ys zs =
    ap (λ w. map (f x) zs ++ w) (each_with_each-append f xs ys zs)
    ∙ sym (append_assoc (map (f x) zs) (each_with_each f xs zs) (each_with_each f ys zs))

module _ {A : Type 0} (f : A → A → A) (assoc : (x y z : A) → f (f x y) z ≡ f x (f y z)) where
  map_twice : (x y : A) (zs : List A) → map (f (f x y)) zs ≡ map (f x) (map (f y) zs)
  map_twice x y [] = refl
  map_twice x y (z ∷ zs) = λ i. assoc x y z i ∷ map_twice x y zs i

  pub each_front : (x : A) (ys zs : List A) → each_with_each f (map (f x) ys) zs ≡ map (f x) (each_with_each f ys zs)
  each_front x [] zs = refl
  each_front x (y ∷ ys) zs =
      (λ i. map_twice x y zs i ++ each_front x ys zs i) ∙ sym (map-append (f x) (map (f y) zs) (each_with_each f ys zs))

  pub each_assoc : (xs ys zs : List A) → each_with_each f (each_with_each f xs ys) zs ≡ each_with_each f xs (each_with_each f ys zs)
  each_assoc [] ys zs = refl
  each_assoc (x ∷ xs) ys zs =
      each_with_each-append f (map (f x) ys) (each_with_each f xs ys) zs ∙ (λ i. each_front x ys zs i ++ each_assoc xs ys zs i)
