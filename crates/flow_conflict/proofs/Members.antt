-- Members of lists of numbers, and what stays of them without one number.
use Rattle.std.proofs.Common.{◌≡◌, ◌≢◌, ◌==◌, ℕ, Bool, true, false, not, cond, List, [], ◌∷◌, ◌++◌, ◌⊎◌, arith, refl, sym, ◌∙◌, inl, inr, ⊎_elim}
use Rattle.std.proofs.lemmas.Bool.Decides.{nat_tests}
use Rattle.flow_model.specs.Lists.{◌∈◌}
use Rattle.flow_model.proofs.Lists.{mem_append_left, mem_append_right, mem-append}
use Rattle.flow_conflict.specs.Lists.{IsAmong, without}

-- a member of the list without that place is one of the whole
pub mem_less : {A : Type 0} (x y : A) (a b : List A) → x ∈ (a ++ b) → x ∈ (a ++ y ∷ b)
mem_less x y a b h = ⊎_elim (mem_append_left x a (y ∷ b)) (λ m. mem_append_right x a (y ∷ b) (inr m)) (mem-append x a b h)

-- and a member of the whole is that one or in the rest
pub mem_with : {A : Type 0} (x y : A) (a b : List A) → x ∈ (a ++ y ∷ b) → (x ≡ y) ⊎ (x ∈ (a ++ b))
mem_with x y a b h =
    ⊎_elim (λ m. inr (mem_append_left x a b m)) (⊎_elim inl (λ m. inr (mem_append_right x a b m))) (mem-append x a (y ∷ b) h)

pub only_one : {A : Type 0} (x y : A) → x ∈ (y ∷ []) → x ≡ y
only_one x y = ⊎_elim (λ e. e) absurd

-- Without one number

kept_or_not : (b : Bool) (y x : ℕ) (r : List ℕ) → y ∈ cond b (x ∷ r) r → ((b ≡ true) × (y ≡ x)) ⊎ (y ∈ r)
kept_or_not true y x r (inl e) = inl (refl, e)
kept_or_not true y x r (inr m) = inr m
kept_or_not false y x r m = inr m

in_rest : (b : Bool) (y x : ℕ) (r : List ℕ) → y ∈ r → y ∈ cond b (x ∷ r) r
in_rest true y x r m = inr m
in_rest false y x r m = m

in_front : (b : Bool) (y x : ℕ) (r : List ℕ) → b ≡ true → y ≡ x → y ∈ cond b (x ∷ r) r
in_front true y x r t e = inl e
in_front false y x r t e = cc

differs : (x c : ℕ) → not (x == c) ≡ true → x ≢ c
differs x c t e = grind (arith, nat_tests)

passes : (x c : ℕ) → x ≢ c → not (x == c) ≡ true
passes x c n = grind (arith, nat_tests)

pub mem-without : (y c : ℕ) (xs : List ℕ) → y ∈ without xs c → (y ∈ xs) × (y ≢ c)
mem-without y c [] m = absurd m
mem-without y c (x ∷ xs) m =
    ⊎_elim (λ h. (inl h.1, λ e. differs x c h.0 (sym h.1 ∙ e))) (λ r. let k = mem-without y c xs r in (inr k.0, k.1))
    (kept_or_not (not (x == c)) y x (without xs c) m)

pub mem_in_without : (y c : ℕ) (xs : List ℕ) → y ≢ c → y ∈ xs → y ∈ without xs c
mem_in_without y c [] n m = m
mem_in_without y c (x ∷ xs) n (inl e) = in_front (not (x == c)) y x (without xs c) (passes x c (λ f. n (e ∙ f))) e
mem_in_without y c (x ∷ xs) n (inr m) = in_rest (not (x == c)) y x (without xs c) (mem_in_without y c xs n m)

-- of fewer there stay fewer
pub without_among : (fewer more : List ℕ) (c : ℕ) → IsAmong fewer more → IsAmong (without fewer c) (without more c)
without_among fewer more c among y m =
    let k = mem-without y c fewer m in mem_in_without y c more k.1 (among y k.0)

-- without what stands in the middle, the rest is left
pub without_middle : (a b : List ℕ) (x : ℕ) → IsAmong (without (a ++ x ∷ b) x) (a ++ b)
without_middle a b x y m =
    let k = mem-without y x (a ++ x ∷ b) m in ⊎_elim (λ e. absurd (k.1 e)) (λ h. h) (mem_with y x a b k.0)
