-- Claims by their numbers.
use Rattle.std.proofs.Common.{◌≡◌, ◌<◌, ◌+◌, ℕ, zero, suc, Bool, true, nat_eq, List, [], ◌∷◌, ◌++◌, length, set, Option, Some, None, slice_get, inl, inr, IsSomeAnd, refl, ap, ◌∙◌, subst, arith}
use Rattle.std.specs.List.{find}
use Rattle.std.proofs.lemmas.Option.{slice_get_cases}
use Rattle.std.proofs.lemmas.Bool.{eq-eqb, ne_eqb}
use Rattle.flow_model.specs.Run.{Claim, answer}
use Rattle.flow_residual.specs.declared.given.Given.{Given}
use Rattle.flow_residual.specs.Given.{claim_of, claims_from}

pub claims_counted : (k : ℕ) (gs : List Given) → length (claims_from k gs) ≡ length gs
claims_counted k [] = refl
claims_counted k (g ∷ gs) = ap suc (claims_counted (k + 1) gs)

pub claims_from-append : (k : ℕ) (gs : List Given) (g : Given) → claims_from k (gs ++ g ∷ []) ≡ claims_from k gs ++ claim_of (k + length gs) g ∷ []
claims_from-append k [] g = ap (λ n. claim_of n g ∷ []) (omega arith)
claims_from-append k (h ∷ gs) g =
    ap (λ cs. claim_of k h ∷ cs) (claims_from-append (k + 1) gs g ∙ ap (λ n. claims_from (k + 1) gs ++ claim_of n g ∷ []) (omega arith))

abbrev at : ℕ → Claim → Bool
at number = λ (claim : Claim). nat_eq claim.number number

-- what is found by the number
abbrev pub told : ℕ → Option Given → Option Claim
told number None = None
told number (Some g) = Some (claim_of number g)

-- the claim at a place has the number that is counted there
find-claims_from : (k i n : ℕ) (gs : List Given) → n ≡ k + i → find (at n) (claims_from k gs) ≡ told n (slice_get gs i)
find-claims_from k i n [] same = refl
find-claims_from k zero n (x ∷ gs) same =
    let here : k ≡ n = omega arith in rw (eq-eqb k n here) (ap (λ m. Some (claim_of m x)) here)
find-claims_from k (suc i) n (x ∷ gs) same = rw (ne_eqb k n (omega arith)) (find-claims_from (k + 1) i n gs (omega arith))

-- there is none of a number that is not counted
find-claims_before : (k n : ℕ) (gs : List Given) → n < k → find (at n) (claims_from k gs) ≡ None
find-claims_before k n [] h = refl
find-claims_before k n (x ∷ gs) h = rw (ne_eqb k n (omega arith)) (find-claims_before (k + 1) n gs (omega arith))

-- the claim, answered
abbrev pub answered : Given → Given
answered g = record g { answered = true }

-- a number before those that are counted answers none
answer-before : (k n : ℕ) (gs : List Given) → n < k → answer n (claims_from k gs) ≡ claims_from k gs
answer-before k n [] h = refl
answer-before k n (x ∷ gs) h = rw (ne_eqb k n (omega arith), answer-before (k + 1) n gs (omega arith)) refl

-- answering a claim answers the one at its place
pub answer-claims_from : (k i n : ℕ) (gs : List Given) (g : Given) → n ≡ k + i → slice_get gs i ≡ Some g →
    answer n (claims_from k gs) ≡ claims_from k (set gs i (answered g))
answer-claims_from k i n [] g same h = cc
answer-claims_from k zero n (x ∷ gs) g same h =
    let e : x ≡ g = cc in rw (eq-eqb k n (omega arith), answer-before (k + 1) n gs (omega arith), e) refl
answer-claims_from k (suc i) n (x ∷ gs) g same h =
    rw (ne_eqb k n (omega arith), answer-claims_from (k + 1) i n gs g (omega arith) h) refl

abbrev pub claim_in : List Given → ℕ → Option Claim
claim_in gs number = find (λ (claim : Claim). nat_eq claim.number number) (claims_from 1 gs)

pub none_of_zero : (gs : List Given) → claim_in gs 0 ≡ None
none_of_zero gs = find-claims_before 1 0 gs (omega arith)

pub claim_is : (gs : List Given) (number place : ℕ) → number ≡ 1 + place → claim_in gs number ≡ told number (slice_get gs place)
claim_is gs number place same = find-claims_from 1 place number gs same

-- the place of a claim that was given
pub record IsThere (gs : List Given) (number : ℕ) : Type 0 where
  pub place : ℕ
  pub number_is : number ≡ 1 + place
  pub within : place < length gs

pub there : (P : Claim → Type 0) (gs : List Given) (number : ℕ) → IsSomeAnd (claim_in gs number) P → IsThere gs number
there P gs zero h = absurd (subst (λ o. IsSomeAnd o P) (none_of_zero gs) h)
there P gs (suc i) h = elim (slice_get_cases gs i).1 [
  | inl f ↦ record { place = i; number_is = omega arith; within = f.1 }
  | inr p ↦ absurd (subst (λ o. IsSomeAnd o P) (claim_is gs (suc i) i (omega arith) ∙ ap (told (suc i)) p.1) h)
]
