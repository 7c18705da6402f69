-- Places of lists that are pushed, cut and read from behind.
use Rattle.std.proofs.Common.{◌≡◌, ◌<◌, ◌≤◌, ℕ, zero, suc, ◌⊎◌, inl, inr, ⊎_elim, List, [], ◌∷◌, ◌++◌, length, take, drop, Option, Some, None, slice_get, refl, sym, ap, arith}
use Rattle.flow_model.specs.Lists.{◌∈◌}
use Rattle.flow_model.proofs.MadeLists.{some_same}

pub of_push : {A : Type 0} (list : List A) (x y : A) (q : ℕ) → slice_get (list ++ x ∷ []) q ≡ Some y → (slice_get list q ≡ Some y) ⊎ ((q ≡ length list) × (x ≡ y))
of_push [] x y zero e = inr (refl, some_same x y e)
of_push [] x y (suc q) e = cc
of_push (z ∷ list) x y zero e = inl e
of_push (z ∷ list) x y (suc q) e = ⊎_elim (λ h. inl h) (λ p. inr (ap (λ n. suc n) p.0, p.1)) (of_push list x y q e)

pub of_take : {A : Type 0} (n : ℕ) (list : List A) (q : ℕ) (x : A) → slice_get (take n list) q ≡ Some x → (slice_get list q ≡ Some x) × (q < n)
of_take zero list q x e = cc
of_take (suc n) [] q x e = cc
of_take (suc n) (y ∷ list) zero x e = (e, omega arith)
of_take (suc n) (y ∷ list) (suc q) x e = let h = of_take n list q x e in (h.0, omega (arith, h.1))

pub of_drop : {A : Type 0} (n : ℕ) (list : List A) (x : A) → x ∈ drop n list → (q : ℕ) × (n ≤ q) × (slice_get list q ≡ Some x)
of_drop zero [] x m = absurd m
of_drop zero (y ∷ list) x (inl e) = (0, omega arith, ap Some (sym e))
of_drop zero (y ∷ list) x (inr m) = let h = of_drop zero list x m in (suc h.0, omega arith, h.2)
of_drop (suc n) [] x m = absurd m
of_drop (suc n) (y ∷ list) x m = let h = of_drop n list x m in let l : n ≤ h.0 = h.1 in (suc h.0, omega arith, h.2)

pub mem_drop : {A : Type 0} (n : ℕ) (list : List A) (q : ℕ) (x : A) → n ≤ q → slice_get list q ≡ Some x → x ∈ drop n list
mem_drop zero [] q x l e = cc
mem_drop zero (y ∷ list) zero x l e = inl (sym (some_same y x e))
mem_drop zero (y ∷ list) (suc q) x l e = inr (mem_drop zero list q x (omega arith) e)
mem_drop (suc n) [] q x l e = cc
mem_drop (suc n) (y ∷ list) zero x l e = absurd (omega arith)
mem_drop (suc n) (y ∷ list) (suc q) x l e = mem_drop n list q x (omega arith) e

-- what an option holds, as a list
abbrev pub listed : {A : Type 0} → Option A → List A
listed None = []
listed (Some x) = x ∷ []
