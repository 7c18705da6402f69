-- The events that bear on who may take an event, and the others.
use Rattle.std.proofs.Common.{◌≡◌, ◌<◌, ◌+◌, ◌↔◌, ◌⊎◌, ℕ, List, [], ◌∷◌, ◌++◌, length, take, get_or, inl, inr, ⊎_elim, refl, sym, ap, subst}
use Rattle.std.proofs.lemmas.List.{take_more}
use Rattle.flow_model.specs.Lists.{◌∈◌}
use Rattle.flow_model.proofs.Lists.{mem-append, mem_append_left, mem_append_right}

-- one event more, to the one list or to the other
module _ (events near far : List ℕ) (k : ℕ) (within : k < length events) (all : (f : ℕ) → (f ∈ take k events) ↔ ((f ∈ near) ⊎ (f ∈ far))) where
  abbrev x : List ℕ
  x = get_or events k 0 ∷ []

  more : take (k + 1) events ≡ take k events ++ x
  more = take_more events k 0 within

  pub near_more : (more_near same_far : List ℕ) → more_near ≡ near ++ get_or events k 0 ∷ [] → same_far ≡ far →
      (f : ℕ) → (f ∈ take (k + 1) events) ↔ ((f ∈ more_near) ⊎ (f ∈ same_far))
  near_more more_near same_far is same f = (
    λ m. ⊎_elim
        (λ old. ⊎_elim (λ n. inl (subst (λ (l : List ℕ). f ∈ l) (sym is) (mem_append_left f near x n))) (λ g. inr (subst (λ (l : List ℕ). f ∈ l) (sym same) g)) ((all f).0 old))
        (λ new. inl (subst (λ (l : List ℕ). f ∈ l) (sym is) (mem_append_right f near x new)))
        (mem-append f (take k events) x (subst (λ (l : List ℕ). f ∈ l) more m)),
    λ h. subst (λ (l : List ℕ). f ∈ l) (sym more) (⊎_elim
        (λ n. ⊎_elim (λ old. mem_append_left f (take k events) x ((all f).1 (inl old))) (λ new. mem_append_right f (take k events) x new)
        (mem-append f near x (subst (λ (l : List ℕ). f ∈ l) is n)))
        (λ g. mem_append_left f (take k events) x ((all f).1 (inr (subst (λ (l : List ℕ). f ∈ l) same g)))) h),
  )

  pub far_more : (same_near more_far : List ℕ) → same_near ≡ near → more_far ≡ far ++ get_or events k 0 ∷ [] →
      (f : ℕ) → (f ∈ take (k + 1) events) ↔ ((f ∈ same_near) ⊎ (f ∈ more_far))
  far_more same_near more_far same is f = (
    λ m. ⊎_elim
        (λ old. ⊎_elim (λ n. inl (subst (λ (l : List ℕ). f ∈ l) (sym same) n)) (λ g. inr (subst (λ (l : List ℕ). f ∈ l) (sym is) (mem_append_left f far x g))) ((all f).0 old))
        (λ new. inr (subst (λ (l : List ℕ). f ∈ l) (sym is) (mem_append_right f far x new)))
        (mem-append f (take k events) x (subst (λ (l : List ℕ). f ∈ l) more m)),
    λ h. subst (λ (l : List ℕ). f ∈ l) (sym more) (⊎_elim
        (λ n. mem_append_left f (take k events) x ((all f).1 (inl (subst (λ (l : List ℕ). f ∈ l) same n))))
        (λ g. ⊎_elim (λ old. mem_append_left f (take k events) x ((all f).1 (inr old))) (λ new. mem_append_right f (take k events) x new)
        (mem-append f far x (subst (λ (l : List ℕ). f ∈ l) is g))) h),
  )

pub take_front : (p q : List ℕ) → take (length p) (p ++ q) ≡ p
take_front [] q = refl
take_front (y ∷ p) q = ap (λ l. y ∷ l) (take_front p q)
