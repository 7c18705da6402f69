-- A part of a text with a machine of its own: what may follow its states, where it is said what may follow its value.
use Rattle.std.proofs.Common.{◌≡◌, ℕ, List, [], ◌∷◌}
use Rattle.flow_grammar.specs.Symbol.{Symbol, Placed, at, Deepens, closing, semicolon}
use Rattle.flow_grammar.specs.Machine.{Step, reading, whole, stuck}

-- what may follow a value
abbrev pub Follow : Type 0 → Type 1
Follow V = V → List Placed → Type 0

abbrev pub StepNext : {S V : Type 0} → (S → List Placed → Follow V → Type 0) → Step S V → List Placed → Follow V → Type 0
StepNext R (reading s) w K = R s w K
StepNext R (whole x) w K = K x w
StepNext R stuck w K = ⊥

abbrev pub StepFront : {S V : Type 0} → (S → Symbol → Step S V) → (S → ℕ) → (S → List Placed → Follow V → Type 0) → S → List Placed → Follow V → Type 0
StepFront step depth R s [] K = ⊥
StepFront step depth R s (at n t ∷ w) K = (Deepens t → n ≡ depth s) × StepNext R (step s t) w K

-- what may follow a whole goal or rule inside these frames, where T says what may follow a member outside them
abbrev pub Closing : {S F L : Type 0} → (Follow S → ℕ → L → List Placed → Type 0) → (List F → ℕ) → (F → S → L) → Follow S → List F → Follow S
Closing T height wrap K [] s w = (r : List Placed) × (at 0 semicolon ∷ r ≡ w) × K s r
Closing T height wrap K (f ∷ fs) s w =
    (v : List Placed) × (at (height (f ∷ fs)) closing ∷ v ≡ w) × T (λ x r. Closing T height wrap K fs x r) (height fs) (wrap f s) v
