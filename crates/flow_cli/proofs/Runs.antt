-- Runs by workers that came to an end.
use Rattle.std.proofs.Common.{◌≡◌, ◌≤◌, ℕ, Bool, List, length, ◌++◌, codes, refl, ap, ◌∙◌, subst}
use Rattle.serde_json.specs.Written.{compact_text}
use Rattle.flow_model.specs.declared.history.Call.{Call}
use Rattle.flow_model.specs.declared.history.Entry.{Entry}
use Rattle.flow_model.specs.declared.history.Outcome.{Outcome}
use Rattle.flow_model.specs.Lists.{Each}
use Rattle.flow_model.specs.Run.{Waits}
use Rattle.flow_model.specs.Verdict as model
use Rattle.flow_workflow.specs.Definition.{Definition, schema_of}
use Rattle.flow_core.specs.Run.{Run, schema, now}
use Rattle.flow_core.specs.Lawful.{IsLawful}
use Rattle.flow_core.specs.Next.{IsWaiting}
use Rattle.flow_core.proofs.RisingLists.{just_as}
use Rattle.flow_core.specs.declared.end.End.{End}
use Rattle.flow_core.specs.declared.end.End.TheVariants as end
use Rattle.flow_crew.specs.Ends.{IsEnd}
use Rattle.flow_crew.specs.Invariant.{IsByWorkers}
use Rattle.flow_plan.specs.declared.counts.Counts.{Counts}
use Rattle.flow_plan.specs.Compilation.{Compilation, IsCompiled}
use Rattle.flow_reply.specs.declared.summary.Summary.{Summary}
use Rattle.flow_reply.specs.declared.verdict.Verdict.{Verdict}
use Rattle.flow_reply.specs.declared.verdict.Verdict.TheVariants.{Ended}
use Rattle.flow_reply.specs.Conclusion.{Means, verdict_text}
use Rattle.flow_reply.specs.Summary.{summary_object, IsSummary}
use Rattle.flow_reply.proofs.OneReply.{one_words}
use Rattle.flow_cli.specs.Finding.{summary_line}
use Rattle.flow_cli.specs.Large.{summary_of, IsSummaryOf}
use Rattle.flow_cli.specs.Run.{IsRunOf, HasRun}

-- the verdict that an end is
meant_by : (r : Run) (e : End) → IsEnd r e →
    (meant : model.Verdict) × Means r (Ended e) meant × model.IsRunVerdict (schema r) r.limit r.history meant
meant_by r end.Committed h = (model.committed, refl, h)
meant_by r end.Spent h = (model.spent, refl, h)
meant_by r (end.NoOther leaf) h = (model.no_other leaf, refl, h)
meant_by r end.Stuck (waiting, h) =
    (model.stuck waiting, (waiting, just_as (Waits (schema r) (now r)) (IsWaiting r) waiting h.4 (λ leaf waits. (h.3, waits)) (λ leaf is. is.1), refl), h)

pub run_of : (gives : Call → Outcome → Bool) (w : Definition) (steps workers : ℕ) (r : Run) (e : End) → r.definition ≡ w → r.limit ≡ steps → IsEnd r e →
    IsLawful (schema r) r.limit r.history → IsByWorkers gives r → Each (λ (entry : Entry). entry.by ≤ workers) r.history →
    HasRun gives w steps workers r (Ended e)
run_of gives w steps workers r e definition limit is lawful by callers =
    let (meant, means, stands) = meant_by r e is in (
      meant,
      record {
        definition_is = definition;
        limit_is = limit;
        lawful = subst (λ (n : ℕ). IsLawful (schema_of w) n r.history) limit (subst (λ (v : Definition). IsLawful (schema_of v) r.limit r.history) definition lawful);
        by_workers = by;
        callers = callers;
        stands = subst (λ (n : ℕ). model.IsRunVerdict (schema_of w) n r.history meant) limit
            (subst (λ (v : Definition). model.IsRunVerdict (schema_of v) r.limit r.history meant) definition stands);
      },
      means,
    )

-- the line that is printed of a run with its verdict
pub summed_as : (r : Run) (summary : Summary) (meant : model.Verdict) (text : List ℕ) → Means r summary.verdict meant → IsSummary r summary text → text ≡ summary_line summary meant
summed_as r summary meant text means (words, told, is) =
    is ∙ ap (λ (ws : List ℕ). compact_text (summary_object summary ws) ++ codes "\n") (one_words r summary.verdict words (verdict_text meant) told (meant, means, refl))

-- the numbers of a run of a generated workflow
pub summarizes : (gives : Call → Outcome → Bool) (w : Definition) (seed size steps workers : ℕ) (c : Compilation) (last : Run) (verdict : Verdict) (meant : model.Verdict)
    (counts : Counts) (summary : Summary) → IsCompiled (schema_of w) c → c.counts.live ≡ length c.plans → IsRunOf gives w steps workers last meant → Means last verdict meant →
    counts ≡ c.counts → summary ≡ summary_of counts seed size last verdict → IsSummaryOf gives w seed size steps workers summary meant
summarizes gives w seed size steps workers c last verdict meant counts summary compiled live run means counted is = record {
  compilation = c;
  compiled = compiled;
  live_counted = live;
  last = last;
  run = run;
  verdict = verdict;
  means = means;
  summary_is = is ∙ ap (λ (n : Counts). summary_of n seed size last verdict) counted;
}
