-- A list that is made of another, a member for each.
use Rattle.std.proofs.Common.{◌≡◌, ◌<◌, ◌≤◌, ◌+◌, ◌∙◌, ℕ, zero, suc, List, [], ◌∷◌, ◌++◌, length, map, take, get_or, refl, sym, ap, subst, arith}
use Rattle.std.proofs.lemmas.List.{map-append, take_more, take_all}
use Rattle.flow_model.specs.Lists.{Each}
use Rattle.flow_model.proofs.Lists.{each-append}

abbrev pub itself : ℕ → ℕ
itself n = n

pub mapped_itself : (xs : List ℕ) → map itself xs ≡ xs
mapped_itself [] = refl
mapped_itself (x ∷ xs) = ap (λ (l : List ℕ). x ∷ l) (mapped_itself xs)

-- the marks of what is made are those of the first so many
abbrev pub Mapped : {A B C : Type 0} → (A → C) → (B → C) → List B → ℕ → List A → Type 0
Mapped f g from k made = map f made ≡ map g (take k from)

pub mapped_none : {A B C : Type 0} (f : A → C) (g : B → C) (from : List B) → Mapped f g from 0 []
mapped_none f g from = refl

pub mapped_more : {A B C : Type 0} (f : A → C) (g : B → C) (from : List B) (k : ℕ) (d : B) (made new : List A) (x : A) → k < length from → new ≡ made ++ x ∷ [] →
    f x ≡ g (get_or from k d) → Mapped f g from k made → Mapped f g from (k + 1) new
mapped_more f g from k d made new x within added same so_far =
    ap (map f) added ∙ map-append f made (x ∷ [])
    ∙ ap (λ l. l ++ f x ∷ []) so_far
    ∙ ap (λ m. map g (take k from) ++ m ∷ []) same
    ∙ sym (map-append g (take k from) (get_or from k d ∷ []))
    ∙ ap (map g) (sym (take_more from k d within))

pub mapped_all : {A B C : Type 0} (f : A → C) (g : B → C) (from : List B) (k : ℕ) (made : List A) → length from ≤ k → Mapped f g from k made → map f made ≡ map g from
mapped_all f g from k made past so_far = so_far ∙ ap (map g) (take_all k from past)

-- one more that has P
pub each_more : {A : Type 0} (P : A → Type 0) (made new : List A) (x : A) → new ≡ made ++ x ∷ [] → Each P made → P x → Each P new
each_more {A} P made new x added each has = subst (Each P) (sym added) (each-append P made (x ∷ []) each (has, tt))

-- what each has, the next has
pub each_at : {A : Type 0} (P : A → Type 0) (xs : List A) (k : ℕ) (d : A) → k < length xs → Each P xs → P (get_or xs k d)
each_at P [] k d within each = absurd (omega arith)
each_at P (x ∷ xs) zero d within each = each.0
each_at P (x ∷ xs) (suc k) d within each = each_at P xs k d (omega arith) each.1
