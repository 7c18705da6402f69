-- Claims by the entries that gave them, and what is due of entries, one after another.
use Rattle.std.proofs.Common.{◌≡◌, ◌⊎◌, inl, inr, ⊎_elim, ◌<◌, ◌+◌, ◌≤◌, ℕ, zero, suc, List, [], ◌∷◌, ◌++◌, length, map, take, get_or, refl, sym, ap, subst, ◌∙◌, arith}
use Rattle.std.proofs.lemmas.List.{take_more, take_all, map-append}
use Rattle.flow_model.specs.Lists.{◌∈◌}
use Rattle.flow_model.proofs.Lists.{mem-append}
use Rattle.flow_model.specs.declared.history.Entry.{Entry}
use Rattle.flow_model.specs.declared.history.Step.TheVariants.{Took}
use Rattle.flow_core.specs.Run.{Run}
use Rattle.flow_trail.specs.declared.due.Due.{Due}
use Rattle.flow_trail.specs.Due.{Entered, entered_of}
use Rattle.flow_case_book.specs.Due.{IsGivenOn, IsDue, AreDue}

-- a member of a list
pub member_at : {A : Type 0} (xs : List A) (k : ℕ) (d : A) → k < length xs → get_or xs k d ∈ xs
member_at [] k d within = absurd (omega (arith, within))
member_at (y ∷ ys) zero d within = inl refl
member_at (y ∷ ys) (suc k) d within = inr (member_at ys k d (omega (arith, within)))

-- none of so many entries gave the claim, and not the next
pub not_given : (history : List Entry) (claim k : ℕ) (d : Entry) → k < length history → ((leaf : ℕ) → ¬ (IsGivenOn (take k history) claim leaf)) →
    ((leaf : ℕ) → ¬ ((get_or history k d).step ≡ Took claim leaf)) → (leaf : ℕ) → ¬ (IsGivenOn (take (k + 1) history) claim leaf)
not_given history claim k d within none other leaf (entry, m, took) =
    ⊎_elim (λ i. none leaf (entry, i, took)) (⊎_elim (λ e. other leaf (ap (λ (x : Entry). x.step) (sym e) ∙ took)) (λ n. n))
    (mem-append entry (take k history) (get_or history k d ∷ []) (subst (λ l. entry ∈ l) (take_more history k d within) m))

-- none of all gave it
pub none_gave : (history : List Entry) (claim k : ℕ) → length history ≤ k → ((leaf : ℕ) → ¬ (IsGivenOn (take k history) claim leaf)) → (leaf : ℕ) → ¬ (IsGivenOn history claim leaf)
none_gave history claim k past none = subst (λ h. (leaf : ℕ) → ¬ (IsGivenOn h claim leaf)) (take_all k history past) none

-- what is due of so many entries, and of the next
due_more : (names : List (List ℕ)) (r : Run) (entries : List Entry) (dues : List Entered) (entry : Entry) (due : Entered) →
    AreDue names r entries dues → IsDue names r entry due → AreDue names r (entries ++ entry ∷ []) (dues ++ due ∷ [])
due_more names r [] [] entry due so_far more = (more, tt)
due_more names r [] (d ∷ ds) entry due so_far more = absurd so_far
due_more names r (e ∷ es) [] entry due so_far more = absurd so_far
due_more names r (e ∷ es) (d ∷ ds) entry due (first, rest) more = (first, due_more names r es ds entry due rest more)

pub one_more_due : (names : List (List ℕ)) (r : Run) (history : List Entry) (k : ℕ) (d : Entry) (before after : List Due) (due : Due) → k < length history → after ≡ before ++ due ∷ [] →
    AreDue names r (take k history) (map entered_of before) → IsDue names r (get_or history k d) (entered_of due) → AreDue names r (take (k + 1) history) (map entered_of after)
one_more_due names r history k d before after due within more so_far next =
    subst (λ h. AreDue names r h (map entered_of after)) (sym (take_more history k d within))
    (subst (AreDue names r (take k history ++ get_or history k d ∷ [])) (sym (ap (map entered_of) more ∙ map-append entered_of before (due ∷ [])))
    (due_more names r (take k history) (map entered_of before) (get_or history k d) (entered_of due) so_far next))

pub all_due : (names : List (List ℕ)) (r : Run) (history : List Entry) (k : ℕ) (dues : List Entered) → length history ≤ k → AreDue names r (take k history) dues → AreDue names r history dues
all_due names r history k dues past so_far = subst (λ h. AreDue names r h dues) (take_all k history past) so_far
