-- What an input is answered, where no read fails.
use Rattle.std.proofs.Common.{◌≡◌, ◌≢◌, ◌<◌, ℕ, Bool, false, List, Option, Some, Result, Ok, Err, refl, arith}
use Rattle.std.specs.Prelude.{◌↔◌, IfOk}
use Rattle.std.specs.declared.alloc.AllocError.{AllocError}
use Rattle.flow_model.specs.declared.history.Call.{Call}
use Rattle.flow_model.specs.declared.history.Outcome.{Outcome}
use Rattle.flow_words.specs.declared.request.Request.{Request}
use Rattle.flow_front.specs.declared.output.Output.{Output}
use Rattle.flow_front.specs.declared.status.Status.{Status}
use Rattle.flow_front.specs.declared.status.Status.TheVariants as status
use Rattle.flow_cli.specs.Output.{Reads, WritesAs, IsWhole, IsOfInput, IsOutcome}
use Rattle.flow_c.specs.Calls.{IsAnswer}

-- an answer that is whole, and not for wrong words or a failed read
of_input : (ending : Status) → IsWhole ending → ending ≢ status.Words → ((ending ≡ status.ReadFault) ↔ (0 < 0)) → IsOfInput ending
of_input status.Fine whole words fault = tt
of_input status.No whole words fault = tt
of_input status.Spent whole words fault = tt
of_input status.Input whole words fault = tt
of_input status.Words whole words fault = absurd (words refl)
of_input status.ReadFault whole words fault = absurd (let no : 0 < 0 = fault.0 refl in omega arith)
of_input status.WriteFault whole words fault = absurd whole
of_input status.Memory whole words fault = absurd whole

pub answered : (request : Request) (input : List ℕ) (left : Option (List ℕ)) (result : Result Output AllocError) →
    ((gives : Call → Outcome → Bool) →
    IfOk result (λ output. IsOutcome (WritesAs request.mode gives request (Some input)) (Reads request.mode) (Some input) left 0 0 output.status output.text.items)) →
    IfOk result (λ output. IsAnswer request input output.status output.text.items)
answered request input left (Ok output) told =
    let one = told (λ _ _. false) in
    record { writes = λ gives. (told gives).writes; read = of_input output.status one.whole one.words one.fault }
answered request input left (Err error) told = tt
