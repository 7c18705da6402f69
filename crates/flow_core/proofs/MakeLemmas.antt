-- An entry may be made exactly where the history with it is legal.
use Rattle.std.proofs.Common.{◌≡◌, ◌<◌, ◌+◌, ◌↔◌, ℕ, Bool, true, false, List, [], ◌∷◌, ◌++◌, length, IsTrue, refl, sym, arith, true≢false}
use Rattle.flow_model.specs.declared.history.Entry.{Entry}
use Rattle.flow_model.specs.Schema.{Schema}
use Rattle.flow_model.specs.Run.{RunState, first_state, next_state, state_after, IsAllowed, IsLegal, IsLegalFrom}
use Rattle.flow_core.specs.Run.{Run, schema}
use Rattle.flow_core.specs.Make.{CanMake, Makes}
use Rattle.flow_core.proofs.Steps.{legal-append}

-- what the last entry of a legal history was allowed by
last_allowed : (w : Schema) (limit : ℕ) (s : RunState) (made : ℕ) (history : List Entry) (entry : Entry) → IsLegalFrom w limit s made (history ++ entry ∷ []) →
    ((state_after w s history).committed ≡ false) × (made + length history < limit) × IsAllowed w (state_after w s history) entry.step
last_allowed w limit s made [] entry (going, room, allowed, rest) = (going, (let r : made + 0 < limit = omega arith in r), allowed)
last_allowed w limit s made (e ∷ history) entry (going, room, allowed, rest) =
    let last = last_allowed w limit (next_state w s e.step) (made + 1) history entry rest in
    (last.0, (let within = last.1 in let r : made + length (e ∷ history) < limit = omega arith in r), last.2)

-- of a run whose history is legal
module _ (r : Run) (legal : IsLegal (schema r) r.limit r.history) (entry : Entry) where
  pub legal_made : CanMake r entry.step → IsLegal (schema r) r.limit (r.history ++ entry ∷ [])
  legal_made can =
      legal-append (schema r) r.limit first_state 0 r.history entry legal can.going
      (let room = can.room in let within : 0 + length r.history < r.limit = omega arith in within) can.allowed

  pub made_legal : IsLegal (schema r) r.limit (r.history ++ entry ∷ []) → CanMake r entry.step
  made_legal longer =
      let last = last_allowed (schema r) r.limit first_state 0 r.history entry longer in
      record { going = last.0; room = (let within = last.1 in let room : length r.history < r.limit = omega arith in room); allowed = last.2 }

  pub made_where : (made : Bool) (after : Run) → Makes r entry.by entry.step made after → IsTrue made ↔ IsLegal (schema r) r.limit (r.history ++ entry ∷ [])
  made_where true after (can, is) = (λ yes. legal_made can, λ longer. refl)
  made_where false after (cannot, is) = (λ yes. absurd (true≢false (sym yes)), λ longer. absurd (cannot (made_legal longer)))
