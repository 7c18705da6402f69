-- Words, and what they ask for.
use Rattle.std.proofs.Common.{◌≡◌, ◌<◌, ◌≤◌, ◌∙◌, ℕ, List, [], ◌∷◌, length, map, get_or, codes, Some, None, refl, sym, ap, subst, arith}
use Rattle.std.specs.Prelude.{slice_get, option_map}
use Rattle.std.proofs.lemmas.Option.{slice_get-map, slice_get-get_or, slice_get_past}
use Rattle.flow_keep_cli.specs.Words.{IsSteps, IsCall, IsNoCall}

-- a list of four, by its last three
four : {A : Type 0} (xs : List A) (p o n : A) → 4 ≤ length xs → length xs < 5 → p ≡ get_or xs 1 p → o ≡ get_or xs 2 o → n ≡ get_or xs 3 n → (name : A) × (name ∷ p ∷ o ∷ n ∷ [] ≡ xs)
four (a ∷ b ∷ c ∷ d ∷ []) p o n some few ep eo en = (a, (λ i. a ∷ ep i ∷ eo i ∷ en i ∷ []))
four [] p o n some few ep eo en = absurd (omega (arith, some))
four (a ∷ []) p o n some few ep eo en = absurd (omega (arith, some))
four (a ∷ b ∷ []) p o n some few ep eo en = absurd (omega (arith, some))
four (a ∷ b ∷ c ∷ []) p o n some few ep eo en = absurd (omega (arith, some))
four (a ∷ b ∷ c ∷ d ∷ e ∷ xs) p o n some few ep eo en = absurd (omega (arith, few))

module _ {A : Type 0} (bytes : A → List ℕ) (words : List A) (path option number : A) (some : 4 ≤ length words) (few : length words < 5)
    (second : path ≡ get_or words 1 path) (third : option ≡ get_or words 2 option) (fourth : number ≡ get_or words 3 number) (named : bytes option ≡ codes "--steps") where
  pub steps_called : (steps : ℕ) → IsSteps (bytes number) steps → IsCall (map bytes words) (bytes path) steps
  steps_called steps is =
      let split = four words path option number some few second third fourth in
      subst (λ (ws : List A). IsCall (map bytes ws) (bytes path) steps) split.1 (refl, named, is)

  pub steps_not_called : ((steps : ℕ) → ¬ (IsSteps (bytes number) steps)) → IsNoCall (map bytes words)
  steps_not_called none file steps call =
      let split = four words path option number some few second third fourth in
      none steps (subst (λ (ws : List A). IsCall (map bytes ws) file steps) (sym split.1) call).2

-- the word behind the first, and that there is none
pub second_is : {A : Type 0} (bytes : A → List ℕ) (words : List A) (word : A) → 1 < length words → word ≡ get_or words 1 word → slice_get (map bytes words) 1 ≡ Some (bytes word)
second_is bytes words word some is = slice_get-map bytes words 1 ∙ ap (option_map bytes) (slice_get-get_or words 1 word some ∙ ap Some (sym is))

pub no_second : {A : Type 0} (bytes : A → List ℕ) (words : List A) → length words ≤ 1 → slice_get (map bytes words) 1 ≡ None
no_second bytes words few = slice_get-map bytes words 1 ∙ ap (option_map bytes) (slice_get_past words 1 few)
