-- Runs of generated workflows in which every task succeeds.
use Rattle.std.proofs.Common.{◌≡◌, ℕ, ◌+◌, ◌*◌, ◌≤◌, Bool, true, List, [], length, Some, None, Result, Ok, inl, inr, sym, ap, ap₂, subst, ◌∙◌, arith}
use Rattle.flow_model.specs.declared.history.Call.{Call}
use Rattle.flow_model.specs.declared.history.Outcome.{Outcome}
use Rattle.flow_model.specs.Facts.{event_at}
use Rattle.flow_model.specs.Process.{leaves}
use Rattle.flow_model.specs.Resolution.{resolutions}
use Rattle.flow_model.specs.Run.{state_of}
use Rattle.flow_model.specs.Verdict as model
use Rattle.flow_laws.specs.WellFormed.{IsWellFormed}
use Rattle.flow_core.specs.Run.{Run}
use Rattle.flow_crew.specs.Done.{NeverFails, HoldsEventsAlone}
use Rattle.flow_crew.proofs.DoneRuns.{are_plain, counted}
use Rattle.flow_crew.proofs.TraceLengths.{resolution_done}
use Rattle.flow_plan.specs.declared.counts.Counts.{Counts}
use Rattle.flow_workflow.specs.Definition.{Definition, schema_of}
use Rattle.flow_expand.specs.Workflows.{IsExpanded}
use Rattle.flow_gen.specs.Generated.{generated}
use Rattle.flow_gen.specs.Laws.{choice_count}
use Rattle.flow_gen.proofs.Expanded.{the_definition, leaves_are_counted, leaves_are_events, labels_never_wait}
use Rattle.flow_gen.proofs.Consistent.{workflows_are_consistent}
use Rattle.flow_gen.proofs.Limits.{choices_take_four, workflows_are_within_limits}
use Rattle.flow_findings.specs.declared.refused.Refused.{Refused}
use Rattle.flow_reply.specs.declared.summary.Summary.{Summary}
use Rattle.flow_words.specs.declared.request.Mode.{Mode}
use Rattle.flow_words.specs.declared.request.Request.{Request}
use Rattle.flow_words.specs.declared.purpose.Purpose.{Purpose}
use Rattle.flow_words.specs.declared.purpose.Purpose.TheVariants.{Answer}
use Rattle.flow_words.specs.Words.{IsWithin, OnePurpose}
use Rattle.flow_front.specs.declared.status.Status.{Status}
use Rattle.flow_reply.specs.Verdict.{ended}
use Rattle.flow_cli.specs.Finding.{Finding, summarized, summary_line, IsWritten}
use Rattle.flow_cli.specs.Large.{summary_of, IsSummaryOf}
use Rattle.flow_cli.specs.Run.{IsRunOf}
use Rattle.flow_cli.specs.Output.{WritesAs, WritesFor, IsSummarized}
use Rattle.flow_cli_laws.specs.Done.{AlwaysSucceeds, TellsSuccess, DoneLargeRunsAreTold, DoneLinesAreSingle}
use Rattle.flow_cli_laws.proofs.DoneReports.{succeeds, commits_at_once}
use Rattle.flow_cli_laws.proofs.Expansions.{well_formed}
use Rattle.flow_cli_laws.proofs.Once.{counts_once}

-- ---- a run

module _ (gives : Call → Outcome → Bool) (request : Request) (w : Definition) (within : IsWithin request) (expanded : IsExpanded (generated request.seed request.size) w)
    (never_fails : NeverFails gives (schema_of w)) (room : 2 * (8 * request.size) + 1 ≤ request.steps) where
  formed : IsWellFormed (schema_of w)
  formed = well_formed (generated request.seed request.size) w expanded

  all : AlwaysSucceeds gives w
  all = record {
    within = workflows_are_within_limits request.seed request.size w within.size_some within.size_few expanded;
    consistent = workflows_are_consistent request.seed request.size w within.size_some within.size_few expanded;
    never_waits = labels_never_wait request.seed request.size w within.size_some within.size_few expanded;
    never_fails = never_fails;
  }

  label_count : length w.tree.labels ≡ 8 * request.size
  label_count = leaves_are_counted request.seed request.size w within.size_some within.size_few expanded

  enough : 2 * length w.tree.labels + 1 ≤ request.steps
  enough = omega (arith, label_count, room)

  events_alone : HoldsEventsAlone (schema_of w)
  events_alone leaf (inside, none) =
      let is : event_at w.tree.labels leaf ≡ Some leaf =
      leaves_are_events request.seed request.size w within.size_some within.size_few expanded leaf (omega (arith, inside, label_count)) in
      absurd (let no : None ≡ Some leaf = sym none ∙ is in cc)

  abbrev MayEnd : Run → model.Verdict → Type 0
  MayEnd last meant = IsRunOf gives w request.steps request.workers last meant

  commits : (last : Run) (meant : model.Verdict) → MayEnd last meant → meant ≡ model.committed
  commits last meant run = commits_at_once gives w request.steps request.workers formed all enough last meant run

  -- the leaves that a committed one has done
  done_count : (last : Run) → MayEnd last model.committed →
      length (state_of (schema_of w) last.history).journal + 4 * choice_count request.seed request.size ≡ 8 * request.size
  done_count last run =
      let (q, m, long) = resolution_done w.tree.process (state_of (schema_of w) last.history).journal (run.lawful.executed run.stands).0.0 in
      omega (arith, long, choices_take_four request.seed request.size w within.size_some within.size_few expanded q m)

  -- and its entries
  entry_count : (last : Run) → MayEnd last model.committed → length last.history ≡ 2 * length (state_of (schema_of w) last.history).journal + 1
  entry_count last run =
      subst (λ (v : Definition). HoldsEventsAlone (schema_of v) → (state_of (schema_of v) last.history).committed ≡ true →
      length last.history ≡ 2 * length (state_of (schema_of v) last.history).journal + 1) run.definition_is
      (counted gives last (succeeds gives w request.steps request.workers formed all enough last model.committed run)) events_alone run.stands

  committed_told : (summary : Summary) (status : Status) (output : List ℕ) (is : IsSummaryOf gives w request.seed request.size request.steps request.workers summary model.committed) →
      status ≡ ended model.committed → output ≡ summary_line summary model.committed → TellsSuccess gives request w status output
  committed_told summary status output is status_is output_is =
      let journal : summary.journal ≡ length (state_of (schema_of w) is.last.history).journal =
      ap (λ (s : Summary). s.journal) is.summary_is ∙ ap (λ (v : Definition). length (state_of (schema_of v) is.last.history).journal) is.run.definition_is in
      let history : summary.history ≡ length is.last.history = ap (λ (s : Summary). s.history) is.summary_is in record {
        summary = summary;
        is = is;
        plain = are_plain gives is.last (succeeds gives w request.steps request.workers formed all enough is.last model.committed is.run);
        leaves_is = ap (λ (s : Summary). s.leaves) is.summary_is ∙ ap (λ (v : Definition). length v.tree.labels) is.run.definition_is ∙ label_count;
        journal_is = omega (arith, journal, done_count is.last is.run);
        history_is = omega (arith, journal, history, entry_count is.last is.run);
        status_is = status_is;
        output_is = output_is;
      }

  told : (summary : Summary) (meant : model.Verdict) (status : Status) (output : List ℕ) → IsSummaryOf gives w request.seed request.size request.steps request.workers summary meant →
      status ≡ ended meant → output ≡ summary_line summary meant → TellsSuccess gives request w status output
  told summary meant status output is status_is output_is =
      let same = commits is.last meant is.run in
      committed_told summary status output (subst (IsSummaryOf gives w request.seed request.size request.steps request.workers summary) same is)
      (status_is ∙ ap ended same) (output_is ∙ ap (summary_line summary) same)

  summarized_told : (came : Result Finding Refused) (v : Definition) (summary : Summary) (meant : model.Verdict) (status : Status) (output : List ℕ) → v ≡ w →
      IsSummaryOf gives v request.seed request.size request.steps request.workers summary meant → came ≡ Ok (summarized summary meant) → IsWritten [] came status output →
      TellsSuccess gives request w status output
  summarized_told came v summary meant status output same is found written =
      let told_so : IsWritten [] (Ok (summarized summary meant)) status output = subst (λ c. IsWritten [] c status output) found written in
      told summary meant status output
      (subst (λ (u : Definition). IsSummaryOf gives u request.seed request.size request.steps request.workers summary meant) same is) told_so.status_is told_so.output_is

  writes_told : (status : Status) (output : List ℕ) → IsSummarized gives request status output → TellsSuccess gives request w status output
  writes_told status output (came, (v, expands, (summary, (meant, is, found))), written) =
      let one = the_definition request.seed request.size within.size_some within.size_few v expands
      ∙ sym (the_definition request.seed request.size within.size_some within.size_few w expanded) in
      summarized_told came v summary meant status output one is found written

-- words are for one purpose
pub large_runs_are_told : OnePurpose → DoneLargeRunsAreTold
large_runs_are_told one gives words request w source asks status output (inl (none, told)) = absurd (none (Answer request) asks.call)
large_runs_are_told one gives words request w source asks status output (inr (purpose, is_for, writes)) =
    writes_told gives request w asks.within asks.expanded asks.never_fails asks.room status output
    (subst (λ (m : Mode). WritesAs m gives request source status output) asks.large
    (subst (λ (p : Purpose). WritesFor p gives source status output) (one words purpose (Answer request) is_for asks.call) writes))

-- ---- two lines

one_line : (s t : Summary) → s.bulk ≡ t.bulk → s.history ≡ t.history → s.journal ≡ t.journal → s.leaves ≡ t.leaves → s.live ≡ t.live → s.options ≡ t.options →
    s.resolutions ≡ t.resolutions → s.seed ≡ t.seed → s.size ≡ t.size → summary_line s model.committed ≡ summary_line t model.committed
one_line s t bulk history journal leaves live options resolutions seed size = λ i. summary_line (record {
  bulk = bulk i;
  history = history i;
  journal = journal i;
  leaves = leaves i;
  live = live i;
  options = options i;
  resolutions = resolutions i;
  seed = seed i;
  size = size i;
  verdict = s.verdict;
}) model.committed

module _ (gives allows : Call → Outcome → Bool) (request other : Request) (w : Definition) (seeds : request.seed ≡ other.seed) (sizes : request.size ≡ other.size)
    (status ending : Status) (output text : List ℕ) where
  -- of one workflow
  same_told : TellsSuccess gives request w status output → TellsSuccess allows other w ending text → (status ≡ ending) × (output ≡ text)
  same_told a b =
      let counts : a.is.compilation.counts ≡ b.is.compilation.counts =
      counts_once (schema_of w) a.is.compilation b.is.compilation a.is.compiled b.is.compiled a.is.live_counted b.is.live_counted in
      let field : (f : Summary → ℕ) → f (summary_of a.is.compilation.counts request.seed request.size a.is.last a.is.verdict)
      ≡ f (summary_of b.is.compilation.counts other.seed other.size b.is.last b.is.verdict) → f a.summary ≡ f b.summary =
      λ f same. ap f a.is.summary_is ∙ same ∙ sym (ap f b.is.summary_is) in
      let choices : choice_count request.seed request.size ≡ choice_count other.seed other.size = ap₂ choice_count seeds sizes in
      let journal : a.summary.journal ≡ b.summary.journal = omega (arith, a.journal_is, b.journal_is, choices, sizes) in (
        a.status_is ∙ sym b.status_is,
        a.output_is ∙ one_line a.summary b.summary
            (field (λ (s : Summary). s.bulk) (ap (λ (c : Counts). c.bulk) counts))
            (omega (arith, a.history_is, b.history_is, journal))
            journal
            (omega (arith, a.leaves_is, b.leaves_is, sizes))
            (field (λ (s : Summary). s.live) (ap (λ (c : Counts). c.live) counts))
            (field (λ (s : Summary). s.options) (ap (λ (c : Counts). c.options) counts))
            (field (λ (s : Summary). s.resolutions) (ap (λ (c : Counts). c.resolutions) counts))
            (field (λ (s : Summary). s.seed) seeds)
            (field (λ (s : Summary). s.size) sizes)
            ∙ sym b.output_is,
      )

pub lines_are_single : OnePurpose → DoneLinesAreSingle
lines_are_single one gives allows words others request other w v source from a b seeds sizes status ending output text writes written =
    let expanded : IsExpanded (generated request.seed request.size) v =
    subst (λ (n : ℕ). IsExpanded (generated n request.size) v) (sym seeds) (subst (λ (n : ℕ). IsExpanded (generated other.seed n) v) (sym sizes) b.expanded) in
    let same : v ≡ w = the_definition request.seed request.size a.within.size_some a.within.size_few v expanded
    ∙ sym (the_definition request.seed request.size a.within.size_some a.within.size_few w a.expanded) in
    same_told gives allows request other w seeds sizes status ending output text
    (large_runs_are_told one gives words request w source a status output writes)
    (subst (λ (u : Definition). TellsSuccess allows other u ending text) same (large_runs_are_told one allows others other v from b ending text written))
