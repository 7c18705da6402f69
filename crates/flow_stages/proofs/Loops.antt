-- What holds of the elements that a loop has gone over.
use Rattle.std.proofs.Common.{◌<◌, ◌≤◌, ◌+◌, ℕ, List, [], ◌∷◌, length, take, get_or, sym, subst, ⊎_elim}
use Rattle.std.proofs.lemmas.List.{take_more, take_all}
use Rattle.flow_model.specs.Lists.{◌∈◌, Each}
use Rattle.flow_model.proofs.Lists.{mem-append, mem_here, only_one, each-append}
use Rattle.flow_policy.proofs.RowLemmas.{around}

-- of one more
pub all_next : {A : Type 0} (P : A → Type 0) (list : List A) (k : ℕ) (d : A) → k < length list → ((x : A) → x ∈ take k list → P x) → P (get_or list k d) → (x : A) → x ∈ take (k + 1) list → P x
all_next {A} P list k d within all here x m = ⊎_elim (all x) (λ one. subst P (sym (only_one x (get_or list k d) one)) here)
    (mem-append x (take k list) (get_or list k d ∷ []) (subst (λ (l : List A). x ∈ l) (take_more list k d within) m))

-- of all
pub all_gone : {A : Type 0} (P : A → Type 0) (list : List A) (k : ℕ) → length list ≤ k → ((x : A) → x ∈ take k list → P x) → (x : A) → x ∈ list → P x
all_gone {A} P list k past all x m = all x (subst (λ (l : List A). x ∈ l) (sym (take_all k list past)) m)

-- an element is one of the list
pub here_in : {A : Type 0} (list : List A) (k : ℕ) (d : A) → k < length list → get_or list k d ∈ list
here_in {A} list k d within = subst (λ (l : List A). get_or list k d ∈ l) (sym (around list k d within)) (mem_here (get_or list k d) (take k list) _)

pub each_next : {A : Type 0} (P : A → Type 0) (list : List A) (k : ℕ) (d : A) → k < length list → Each P (take k list) → P (get_or list k d) → Each P (take (k + 1) list)
each_next P list k d within all here = subst (Each P) (sym (take_more list k d within)) (each-append P (take k list) (get_or list k d ∷ []) all (here, tt))
