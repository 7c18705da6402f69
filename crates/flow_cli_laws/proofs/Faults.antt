-- What is written where a source failed.
use Rattle.std.proofs.Common.{◌≡◌, ℕ, Bool, List, [], Some, Ok, Err, inl, inr, sym, subst}
use Rattle.flow_model.specs.declared.history.Call.{Call}
use Rattle.flow_model.specs.declared.history.Outcome.{Outcome}
use Rattle.flow_findings.specs.declared.refused.Refused.{Refused}
use Rattle.flow_findings.specs.declared.refused.Refused.TheVariants as refused
use Rattle.flow_findings.specs.Refusing.{refused_text}
use Rattle.flow_words.specs.declared.purpose.Purpose.TheVariants.{Answer, Help, Version}
use Rattle.flow_words.specs.declared.request.Mode.{Mode}
use Rattle.flow_words.specs.declared.request.Mode.TheVariants.{Gen, Large}
use Rattle.flow_words.specs.declared.request.Request.{Request}
use Rattle.flow_front.specs.declared.status.Status.TheVariants as status
use Rattle.flow_front.specs.Status.{Tells}
use Rattle.flow_front.specs.Refusal.{the_source, IsCause}
use Rattle.flow_front.proofs.Stages.{no_refusal}
use Rattle.flow_cli.specs.Finding.{summarized}
use Rattle.flow_cli.specs.Output.{Finds, WritesOf, WritesAs, IsOfInput}
use Rattle.flow_cli.proofs.Outcomes.{of_finding, came_of_input}
use Rattle.flow_cli_laws.specs.Single.{FaultsAreTold}

module _ (input output : List ℕ) where
  source_told : (why : Refused) → IsCause (the_source (Some input)) why → Tells [] why status.ReadFault output → output ≡ refused_text [] refused.Read
  source_told refused.Read cause told = told.output_is
  source_told refused.TooLong cause told = absurd (let no : status.ReadFault ≡ status.Input = told.status_is in cc)
  source_told (refused.Text r) cause told = absurd (let no : status.ReadFault ≡ status.Input = told.status_is in cc)
  source_told why cause told = absurd cause

  -- the answer to what was read is no fault
  read_told : (mode : Mode) (gives : Call → Outcome → Bool) (request : Request) → WritesOf (Finds mode gives request) (Some input) status.ReadFault output →
      output ≡ refused_text [] refused.Read
  read_told mode gives request (inl p) = source_told p.why p.cause p.told
  read_told mode gives request (inr p) =
      let (came, may, is) = p.told in absurd (subst IsOfInput (sym is.status_is) (came_of_input mode gives request p.said p.second came may))

  mode_told : (gives : Call → Outcome → Bool) (mode : Mode) (request : Request) → WritesAs mode gives request (Some input) status.ReadFault output →
      output ≡ refused_text [] refused.Read
  mode_told gives Gen request h = absurd (subst IsOfInput (sym h.status_is) tt)
  mode_told gives Large request (Ok found, runs, is) = absurd (subst IsOfInput (sym is.status_is) (of_finding found))
  mode_told gives Large request (Err why, (w, x, (summary, (meant, is, none))), written) = no_refusal (output ≡ refused_text [] refused.Read) (summarized summary meant) why none
  mode_told gives mode request h = read_told mode gives request h

pub faults_are_told : FaultsAreTold
faults_are_told gives words input output (inl (none, told)) = let no : status.ReadFault ≡ status.Words = told.status_is in cc
faults_are_told gives words input output (inr (Answer request, call, h)) = mode_told input output gives request.mode request h
faults_are_told gives words input output (inr (Help, asks, h)) = let no : status.ReadFault ≡ status.Fine = h.0 in cc
faults_are_told gives words input output (inr (Version, asks, h)) = let no : status.ReadFault ≡ status.Fine = h.0 in cc
