-- Members by their places.
use Rattle.std.proofs.Common.{◌≡◌, ◌≢◌, ℕ, zero, suc, ◌+◌, ◌<◌, List, [], ◌∷◌, ◌++◌, length, get_or, slice_get, take, Some, refl, sym, ap, subst, inl, inr, ◌⊎◌}
use Rattle.std.proofs.lemmas.List.{take_more}
use Rattle.flow_model.specs.Lists.{◌∈◌, AreDistinct}

not_in_more : {A : Type 0} (x y : A) (list : List A) → ¬ (x ∈ list) → x ≢ y → ¬ (x ∈ (list ++ y ∷ []))
not_in_more x y [] h other (inl e) = other e
not_in_more x y [] h other (inr m) = absurd m
not_in_more x y (z ∷ list) h other (inl e) = h (inl e)
not_in_more x y (z ∷ list) h other (inr m) = not_in_more x y list (λ k. h (inr k)) other m

-- where it is not among the first ones nor the next one, it is not among one more
pub not_in_first : {A : Type 0} (x d : A) (list : List A) (i : ℕ) → i < length list → ¬ (x ∈ take i list) → x ≢ get_or list i d → ¬ (x ∈ take (i + 1) list)
not_in_first x d list i lt h other m = not_in_more x (get_or list i d) (take i list) h other (subst (λ l. x ∈ l) (take_more list i d lt) m)

-- a member has a place
pub place_of : {A : Type 0} (list : List A) (x : A) → x ∈ list → (i : ℕ) × (slice_get list i ≡ Some x)
place_of [] x m = absurd m
place_of (y ∷ list) x (inl e) = (zero, ap Some (sym e))
place_of (y ∷ list) x (inr m) = let (i, at) = place_of list x m in (suc i, at)

pub at_end : {A : Type 0} (list : List A) (x : A) → slice_get (list ++ x ∷ []) (length list) ≡ Some x
at_end [] x = refl
at_end (y ∷ list) x = at_end list x

-- with one more at the end, what stands at a place stood there, or is that one
pub at_more : {A : Type 0} (list : List A) (y : A) (i : ℕ) (x : A) → slice_get (list ++ y ∷ []) i ≡ Some x → (slice_get list i ≡ Some x) ⊎ ((i ≡ length list) × (y ≡ x))
at_more [] y zero x e = inr (refl, (let f : Some y ≡ Some x = e in cc))
at_more [] y (suc i) x e = cc
at_more (z ∷ list) y zero x e = inl e
at_more (z ∷ list) y (suc i) x e = go (at_more list y i x e)
  where
    go : (slice_get list i ≡ Some x) ⊎ ((i ≡ length list) × (y ≡ x)) → (slice_get list i ≡ Some x) ⊎ ((suc i ≡ length (z ∷ list)) × (y ≡ x))
    go (inl f) = inl f
    go (inr (f, same)) = inr (ap suc f, same)

pub distinct_more : {A : Type 0} (list : List A) (x : A) → AreDistinct list → ¬ (x ∈ list) → AreDistinct (list ++ x ∷ [])
distinct_more [] x d other = ((λ m. absurd m), tt)
distinct_more (y ∷ list) x d other =
    (not_in_more y x list d.0 (λ e. other (inl (sym e))), distinct_more list x d.1 (λ m. other (inr m)))
