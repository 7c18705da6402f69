-- What is read of a source, by what comes of it.
use Rattle.std.proofs.Common.{inl, inr, ℕ, List, Option, Err}
use Rattle.flow_findings.specs.declared.refused.Refused.{Refused}
use Rattle.flow_findings.specs.declared.refused.Refused.TheVariants as refused
use Rattle.flow_front.specs.declared.output.Output.{Output}
use Rattle.flow_front.specs.declared.stop.Stop.{Stop}
use Rattle.flow_front.specs.declared.stop.Stop.TheVariants as stop
use Rattle.flow_front.specs.Refusal.{the_source, IsCause}
use Rattle.flow_front.specs.Input.{IsReadWhole, LeavesSource}
use Rattle.flow_front.specs.Status.{Tells}
use Rattle.flow_front.specs.Stop.{IsStop, TellsStop}
use Rattle.flow_keep_cli.specs.declared.asked.Looked.{Looked}
use Rattle.flow_keep_cli.specs.declared.asked.Looked.TheVariants as looked
use Rattle.flow_keep_cli.specs.Asked.{IsTakenBy}

pub taken_whole : (left left' : Option (List ℕ)) (came : Looked) → IsReadWhole left left' → IsTakenBy left left' came
taken_whole left left' (looked.Ready asked) whole = whole
taken_whole left left' (looked.Refused output) whole = inl whole

module _ (T : Type 0) (left left' : Option (List ℕ)) (events : List (List ℕ)) (output : Output) where
  taken_refused : (why : Refused) → IsCause (the_source left) why → LeavesSource {A = T} left left' (Err (stop.Refused why)) →
      Tells events why output.status output.text.items → IsTakenBy left left' (looked.Refused output)
  taken_refused refused.Read cause leaves told = inr (inr told.status_is)
  taken_refused refused.TooLong cause leaves told = inr (inl (told.status_is, leaves))
  taken_refused (refused.Text refusal) cause leaves told = inl leaves
  taken_refused other cause leaves told = absurd cause

  pub taken_stopped : (why : Stop) → IsStop (IsCause (the_source left)) why → LeavesSource {A = T} left left' (Err why) →
      TellsStop events why output.status output.text.items → IsTakenBy left left' (looked.Refused output)
  taken_stopped (stop.Refused why) cause leaves told = taken_refused why cause leaves told
  taken_stopped stop.NoMemory cause leaves told = absurd told
