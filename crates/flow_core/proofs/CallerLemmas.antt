-- What different callers made, taken together.
use Rattle.std.proofs.Common.{◌≡◌, ◌+◌, ℕ, cond, List, [], ◌∷◌, length, ◌==◌, refl, sym, ◌∙◌, subst, inl, inr, arith}
use Rattle.std.proofs.lemmas.Bool.{eq-eqb, ne_eqb}
use Rattle.std.proofs.lemmas.List.Sums.{sum_by-cons}
use Rattle.std.specs.List.{sum_by}
use Rattle.flow_model.specs.declared.history.Entry.{Entry}
use Rattle.flow_model.specs.Lists.{◌∈◌, AreDistinct, Each}
use Rattle.flow_core.specs.Callers.{count_made}

-- 1 where both are one caller
abbrev one_at : ℕ → ℕ → ℕ
one_at n by = cond (n == by) 1 0

counted_nowhere : (n : ℕ) (callers : List ℕ) → ¬ (n ∈ callers) → sum_by (one_at n) callers ≡ 0
counted_nowhere n [] out = refl
counted_nowhere n (c ∷ cs) out =
    sum_by-cons (one_at n) c cs ∙ (λ i. cond (ne_eqb n c (λ e. out (inl e)) i) 1 0 + counted_nowhere n cs (λ m. out (inr m)) i)

counted_once : (n : ℕ) (callers : List ℕ) → AreDistinct callers → n ∈ callers → sum_by (one_at n) callers ≡ 1
counted_once n [] distinct there = absurd there
counted_once n (c ∷ cs) (out, rest) (inl e) =
    sum_by-cons (one_at n) c cs ∙ (λ i. cond (eq-eqb n c e i) 1 0 + counted_nowhere n cs (subst (λ x. ¬ (x ∈ cs)) (sym e) out) i)
counted_once n (c ∷ cs) (out, rest) (inr m) =
    sum_by-cons (one_at n) c cs ∙ (λ i. cond (ne_eqb n c (λ e. out (subst (λ x. x ∈ cs) e m)) i) 1 0 + counted_once n cs rest m i)

none_made : (callers : List ℕ) → sum_by (count_made []) callers ≡ 0
none_made [] = refl
none_made (c ∷ cs) = sum_by-cons (count_made []) c cs ∙ (λ i. 0 + none_made cs i)

one_more : (entry : Entry) (history : List Entry) (callers : List ℕ) →
    sum_by (count_made (entry ∷ history)) callers ≡ sum_by (one_at entry.by) callers + sum_by (count_made history) callers
one_more entry history [] = refl
one_more entry history (c ∷ cs) =
    let all = sum_by-cons (count_made (entry ∷ history)) c cs in
    let first = sum_by-cons (one_at entry.by) c cs in
    let others = sum_by-cons (count_made history) c cs in
    let here : count_made (entry ∷ history) c ≡ one_at entry.by c + count_made history c = sum_by-cons (λ (x : Entry). one_at x.by c) entry history in
    let more = one_more entry history cs in
    omega arith

pub callers_made_all : (history : List Entry) (callers : List ℕ) → AreDistinct callers → Each (λ (entry : Entry). entry.by ∈ callers) history →
    sum_by (count_made history) callers ≡ length history
callers_made_all [] callers distinct within = none_made callers
callers_made_all (entry ∷ history) callers distinct (here, within) =
    let more = one_more entry history callers in
    let once = counted_once entry.by callers distinct here in
    let rest = callers_made_all history callers distinct within in
    omega arith
