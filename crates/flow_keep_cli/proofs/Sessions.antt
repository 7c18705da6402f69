-- A kept session whose commands were all replied to, and its report.
use Rattle.std.proofs.Common.{◌≡◌, ◌∙◌, ◌⊎◌, inl, inr, ℕ, List, [], length, take, Option, None, Some, refl, sym, subst, ap, append-nil}
use Rattle.std.specs.Io.KnownBytes.{Appends}
use Rattle.std.proofs.KnownBytes.{Appends-trans}
use Rattle.flow_model.specs.Verdict.{drive_verdict}
use Rattle.flow_workflow.specs.Definition.{Definition, schema_of}
use Rattle.flow_core.specs.Run.{Run, schema}
use Rattle.flow_core.specs.Lawful.{IsLawful}
use Rattle.flow_record.specs.declared.command.Command.{Command}
use Rattle.flow_reply.specs.Replies.{Drives}
use Rattle.flow_reply.specs.Session.{driven_text}
use Rattle.flow_core.proofs.Growth.{SameRun}
use Rattle.flow_reply.proofs.SessionLemmas.{drives_same}
use Rattle.flow_keep.specs.Records.{Keeps}
use Rattle.flow_keep_cli.specs.declared.status.KeepStatus.{KeepStatus}
use Rattle.flow_keep_cli.specs.Session.{driver, driven_report, IsCut, BehindStatus, IsWhole}
use Rattle.flow_keep_cli.specs.Course.{IsReported}
use Rattle.flow_keep_cli.proofs.Cuts.{cut_after, cut_with}

pub appends_nothing : (held : Option (List ℕ)) → Appends held held []
appends_nothing None = tt
appends_nothing (Some bytes) = sym (append-nil bytes)

module _ (first last : Run) (commands : List Command) (text : List ℕ) (held held' held'' : Option (List ℕ)) (result : KeepStatus) (tells : Type 0) (seen : List ℕ) (images : List ℕ → Type 0)
    (driven : Drives first driver commands text last) (written : Appends held held' text) (lawful : IsLawful (schema last) last.limit last.history)
    (read : tells → Keeps last.history seen) (kept : tells → (file : List ℕ) → images file → Keeps last.history file) where
  same : SameRun first last
  same = drives_same driver first last commands text driven

  whole : (status : KeepStatus) → IsWhole first commands [] status held held'' tells seen images → result ≡ status → IsWhole first commands [] result held held'' tells seen images
  whole status w is = subst (λ (s : KeepStatus). IsWhole first commands [] s held held'' tells seen images) (sym is) w

  cut : (more : List ℕ) → BehindStatus commands result last (length commands) more → Appends held' held'' more →
      IsCut first commands (BehindStatus commands result) [] held held'' tells images
  cut more behind later = cut_after first last commands (BehindStatus commands result) text more held held' held'' tells images driven behind written later kept

  -- the session is gone through, or cut off within its report
  pub reported : IsReported last held' held'' result →
      IsCut first commands (BehindStatus commands result) [] held held'' tells images ⊎ IsWhole first commands [] result held held'' tells seen images
  reported (inl (inl (is, appended))) = inr (record {
    driven = record { replies = text; last = last; verdict = drive_verdict (schema last) last.limit last.history };
    session = record {
      driven = driven;
      lawful = subst (λ (n : ℕ). IsLawful (schema first) n last.history) same.1 (subst (λ (v : Definition). IsLawful (schema_of v) last.limit last.history) same.0 lawful);
      verdict_is = ap (λ (v : Definition). drive_verdict (schema_of v) last.limit last.history) same.0 ∙ ap (λ (n : ℕ). drive_verdict (schema first) n last.history) same.1;
    };
    status_is = is;
    written = Appends-trans held held' held'' text (driven_report last) written appended;
    read = read;
    durable = kept;
  })
  reported (inl (inr (is, (n, less, part)))) =
      inl (cut (take n (driven_report last))
      (subst (λ (s : KeepStatus). BehindStatus commands s last (length commands) (take n (driven_report last))) (sym is) (driven_report last, inr (inl (refl, refl)), (n, less, refl)))
      part)
  reported (inr (is, nothing)) =
      inl (cut [] (subst (λ (s : KeepStatus). BehindStatus commands s last (length commands) []) (sym is) refl)
      (subst (λ (h : Option (List ℕ)). Appends held' h []) (sym nothing) (appends_nothing held')))

-- a line was written before
pub with_front : (first : Run) (commands : List Command) (front : List ℕ) (held held' held'' : Option (List ℕ)) (result : KeepStatus) (tells : Type 0) (seen : List ℕ) (images : List ℕ → Type 0) →
    Appends held held' front →
    IsCut first commands (BehindStatus commands result) [] held' held'' tells images ⊎ IsWhole first commands [] result held' held'' tells seen images →
    IsCut first commands (BehindStatus commands result) front held held'' tells images ⊎ IsWhole first commands front result held held'' tells seen images
with_front first commands front held held' held'' result tells seen images written (inl c) =
    inl (cut_with first commands (BehindStatus commands result) front held held' held'' tells images written c)
with_front first commands front held held' held'' result tells seen images written (inr w) = inr (record {
  driven = w.driven;
  session = w.session;
  status_is = w.status_is;
  written = Appends-trans held held' held'' front (driven_text w.driven) written w.written;
  read = w.read;
  durable = w.durable;
})
