-- Users by their numbers, and claims by the entries that gave them.
use Rattle.std.proofs.Common.{◌≡◌, ◌⊎◌, inl, inr, ⊎_elim, ◌<◌, ◌+◌, ◌-◌, ◌≤◌, ℕ, Bool, true, false, zero, suc, List, [], ◌∷◌, ◌++◌, length, map, take, get_or, Some, None, refl, sym, ap, subst, ◌∙◌, arith, length-append}
use Rattle.std.specs.Prelude.{slice_get, codes, if◌then◌else◌}
use Rattle.std.specs.Option.{unwrap_or}
use Rattle.std.proofs.lemmas.List.{take_more, take_all, map-append}
use Rattle.flow_model.specs.Lists.{◌∈◌}
use Rattle.flow_case.specs.RulesOf.{IsUser}
use Rattle.flow_case_book.specs.People.{name_of, IsNumberOf}
use Rattle.flow_model.proofs.Lists.{mem-append}

-- one more of a list whose members are seen through f
front : {A B : Type 0} (f : A → B) (xs : List A) (k : ℕ) (d : A) → k < length xs → map f (take (k + 1) xs) ≡ map f (take k xs) ++ f (get_or xs k d) ∷ []
front f xs k d within = ap (map f) (take_more xs k d within) ∙ map-append f (take k xs) (get_or xs k d ∷ [])

-- x is none of so many, and not the next
pub not_among : {A B : Type 0} (f : A → B) (xs : List A) (k : ℕ) (d : A) (x : B) → k < length xs → ¬ (x ∈ map f (take k xs)) → ¬ (f (get_or xs k d) ≡ x) →
    ¬ (x ∈ map f (take (k + 1) xs))
not_among f xs k d x within none other m =
    ⊎_elim none (⊎_elim (λ e. other (sym e)) (λ n. n))
    (mem-append x (map f (take k xs)) (f (get_or xs k d) ∷ []) (subst (λ l. x ∈ l) (front f xs k d within) m))

-- x is none of all
pub not_in_all : {A B : Type 0} (f : A → B) (xs : List A) (k : ℕ) (x : B) → length xs ≤ k → ¬ (x ∈ map f (take k xs)) → ¬ (x ∈ map f xs)
not_in_all f xs k x past none = subst (λ l. ¬ (x ∈ map f l)) (take_all k xs past) none

-- the member at a place
pub stands_at : {A B : Type 0} (f : A → B) (xs : List A) (k : ℕ) (d : A) (x : B) → k < length xs → f (get_or xs k d) ≡ x → slice_get (map f xs) k ≡ Some x
stands_at f [] k d x within e = absurd (omega (arith, within))
stands_at f (y ∷ ys) zero d x within e = ap Some e
stands_at f (y ∷ ys) (suc k) d x within e = stands_at f ys k d x (omega (arith, within)) e

-- fewer names
pub map_take : {A B : Type 0} (f : A → B) (xs : List A) (n : ℕ) → map f (take n xs) ≡ take n (map f xs)
map_take f xs zero = refl
map_take f [] (suc n) = refl
map_take f (x ∷ xs) (suc n) = ap (λ l. f x ∷ l) (map_take f xs n)

-- what stands in a list is a member
pub member_of : {A : Type 0} (xs : List A) (k : ℕ) (x : A) → slice_get xs k ≡ Some x → x ∈ xs
member_of [] k x e = cc
member_of (y ∷ ys) zero x e = let f : Some y ≡ Some x = e in let same : y ≡ x = cc in inl (sym same)
member_of (y ∷ ys) (suc k) x e = inr (member_of ys k x e)

behind : {A : Type 0} (xs : List A) (x : A) → slice_get (xs ++ x ∷ []) (length xs) ≡ Some x
behind [] x = refl
behind (y ∷ ys) x = behind ys x

-- who stands last has the number of all
pub user_last : (before after : List (List ℕ)) (name : List ℕ) → after ≡ before ++ name ∷ [] → IsUser after (length after) name
user_last before after name more =
    let size : length after ≡ length before + 1 = ap length more ∙ length-append before (name ∷ []) in
    let last : length after - 1 ≡ length before = omega (arith, size) in
    (omega (arith, size), ap (λ l. slice_get l (length after - 1)) more ∙ ap (slice_get (before ++ name ∷ [])) last ∙ behind before name)

-- the name of a number

pub named : (names : List (List ℕ)) (number : ℕ) (name : List ℕ) → ¬ (number ≡ 0) → slice_get names (number - 1) ≡ Some name → name ≡ name_of names number
named names zero name some e = absurd (some refl)
named names (suc k) name some e =
    let same : suc k - 1 ≡ k = omega arith in
    ap (λ o. unwrap_or o (codes "nobody")) (sym (subst (λ n. slice_get names n ≡ Some name) same e))

none_past : {A : Type 0} (xs : List A) (k : ℕ) → length xs ≤ k → slice_get xs k ≡ None
none_past [] k past = refl
none_past (y ∷ ys) zero past = absurd (omega (arith, past))
none_past (y ∷ ys) (suc k) past = none_past ys k (omega (arith, past))

pub unnamed : (names : List (List ℕ)) (number : ℕ) → ¬ (number ≡ 0) → length names ≤ number - 1 → codes "nobody" ≡ name_of names number
unnamed names zero some past = absurd (some refl)
unnamed names (suc k) some past = ap (λ o. unwrap_or o (codes "nobody")) (sym (none_past names k (omega (arith, past))))

-- the number of who speaks

pub speaks_known : (others : Bool) (names : List (List ℕ)) (name : List ℕ) (number : ℕ) → IsUser names number name → IsNumberOf others names name number
speaks_known others names name number user = inl user

pub speaks_none : (others : Bool) (names : List (List ℕ)) (name : List ℕ) (number : ℕ) → ¬ (name ∈ names) → others ≡ false → number ≡ 0 → IsNumberOf others names name number
speaks_none others names name number unknown is none =
    inr (unknown, subst (λ (b : Bool). number ≡ (if b then length names + 1 else 0)) (sym is) none)

pub speaks_next : (others : Bool) (names after : List (List ℕ)) (name : List ℕ) (number : ℕ) → ¬ (name ∈ names) → others ≡ true → after ≡ names ++ name ∷ [] → number ≡ length after →
    IsNumberOf others names name number
speaks_next others names after name number unknown is more count =
    inr (unknown, subst (λ (b : Bool). number ≡ (if b then length names + 1 else 0)) (sym is) (count ∙ ap length more ∙ length-append names (name ∷ [])))
