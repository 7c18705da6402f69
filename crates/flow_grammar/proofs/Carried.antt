-- A part that is read inside the whole: what may follow its states and its value may follow the whole's, and the other way round.
use Rattle.std.proofs.Common.{◌≡◌, ℕ, Option, List, [], ◌∷◌, ◌∙◌, subst}
use Rattle.flow_grammar.specs.Symbol.{Symbol, Placed, at}
use Rattle.flow_grammar.specs.Machine.{Step, reading, whole, stuck, carry}
use Rattle.flow_grammar.proofs.Parts.{Follow, StepNext, StepFront}
use Rattle.flow_grammar.proofs.Runs.{OnNext, Front}

module _ {S V T X : Type 0} (Q : S → List Placed → Follow V → Type 0) (R : T → List Placed → X → Type 0) (within : S → T) (after : V → T) (K : Follow V) (x : X) where
  pub carried : ((s : S) (w : List Placed) → Q s w K → R (within s) w x) → ((v : V) (w : List Placed) → K v w → R (after v) w x) →
      (o : Step S V) (w : List Placed) → StepNext Q o w K → OnNext R (carry within after o) w x
  carried one all (reading s) w h = one s w h
  carried one all (whole v) w h = all v w h
  carried one all stuck w h = h

  pub carried_back : ((s : S) (w : List Placed) → R (within s) w x → Q s w K) → ((v : V) (w : List Placed) → R (after v) w x → K v w) →
      (o : Step S V) (w : List Placed) → OnNext R (carry within after o) w x → StepNext Q o w K
  carried_back one all (reading s) w h = one s w h
  carried_back one all (whole v) w h = all v w h
  carried_back one all stuck w h = h

  pub front_carried : (step : S → Symbol → Step S V) (depth : S → ℕ) (step' : T → Symbol → Option T) (finish : T → Option X) (depth' : T → ℕ) →
      ((s : S) (w : List Placed) → Q s w K → R (within s) w x) → ((v : V) (w : List Placed) → K v w → R (after v) w x) →
      (s : S) → depth s ≡ depth' (within s) → ((t : Symbol) → carry within after (step s t) ≡ step' (within s) t) →
      (w : List Placed) → StepFront step depth Q s w K → Front step' finish depth' R (within s) w x
  front_carried step depth step' finish depth' one all s same steps [] h = absurd h
  front_carried step depth step' finish depth' one all s same steps (at n t ∷ w) (d, h) =
      (λ deep. d deep ∙ same, subst (λ o. OnNext R o w x) (steps t) (carried one all (step s t) w h))
