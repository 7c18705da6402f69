-- Members of lists by their places.
use Rattle.std.proofs.Common.{◌≡◌, ◌==◌, ◌||◌, ◌+◌, ◌<◌, ℕ, zero, suc, Bool, true, false, if◌then◌else◌, List, [], ◌∷◌, length, take, get_or, refl, sym, ap, ◌∙◌, arith}
use Rattle.std.specs.List.{All, list_any}
use Rattle.std.proofs.lemmas.Bool.Decides.{nat_tests}
use Rattle.std.proofs.lemmas.List.Folds.{list_any_more}
use Rattle.flow_model.specs.Lists.{Each}
use Rattle.flow_facts.specs.Held.{is_held}

pub All-from-Each : {A : Type 0} (P : A → Type 0) (xs : List A) → Each P xs → All P xs
All-from-Each P [] each k d within = absurd (omega arith)
All-from-Each P (x ∷ xs) (here, each) zero d within = here
All-from-Each P (x ∷ xs) (here, each) (suc k) d within = All-from-Each P xs each k d (omega arith)

test_turned : (a b : ℕ) → (a == b) ≡ (b == a)
test_turned a b = grind (arith, nat_tests)

set_or_was : (here was : Bool) → (if here then true else was) ≡ (was || here)
set_or_was true true = refl
set_or_was true false = refl
set_or_was false true = refl
set_or_was false false = refl

-- one fact more of the list is held
pub held_more : (facts facts' : List Bool) (held : List ℕ) (i : ℕ) → i < length held
    → ((n : ℕ) → is_held facts' n ≡ (if n == get_or held i 0 then true else is_held facts n))
    → ((n : ℕ) → is_held facts n ≡ list_any (λ h. h == n) (take i held)) → (n : ℕ) → is_held facts' n ≡ list_any (λ h. h == n) (take (i + 1) held)
held_more facts facts' held i within now so_far n =
    now n ∙ ap (λ b. if b then true else is_held facts n) (test_turned n (get_or held i 0)) ∙ set_or_was (get_or held i 0 == n) (is_held facts n)
    ∙ ap (λ b. b || (get_or held i 0 == n)) (so_far n) ∙ sym (list_any_more (λ h. h == n) held i 0 within)
