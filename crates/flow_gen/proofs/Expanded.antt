-- A generated workflow is expanded.
use Rattle.std.proofs.Common.{◌≡◌, ℕ, ◌+◌, ◌*◌, ◌<◌, ◌≤◌, List, [], ◌∷◌, Some, slice_get, length, map, take, drop, refl, sym, ap, subst, ◌∙◌, inl, inr, arith}
use Rattle.std.specs.List.{flat_map}
use Rattle.std.specs.Str.{bytes_eq}
use Rattle.std.specs.Cmp.Lexicographic.{bytes_decides}
use Rattle.std.proofs.lemmas.List.{length-map}
use Rattle.std.proofs.lemmas.Option.{same_Some}
use Rattle.flow_model.specs.declared.limits.TheConstants.{MOST_RULE_NAMES, GREATEST_SIZE}
use Rattle.flow_model.specs.declared.labels.Note.TheVariants.{Done}
use Rattle.flow_model.specs.declared.labels.Label.{Label}
use Rattle.flow_model.specs.declared.labels.Label.TheVariants.{Event}
use Rattle.flow_model.specs.Lists.{◌∈◌, Each, AreDistinct, numbers_from}
use Rattle.flow_model.specs.Facts.{event_at}
use Rattle.flow_model.specs.Process.{leaves}
use Rattle.flow_model.specs.Trace.{Trace}
use Rattle.flow_model.proofs.MadeLists.{distinct-filter_map, numbers_from_below, distinct-numbers_from, length-numbers_from}
use Rattle.flow_laws.specs.Histories.{NeverWaits}
use Rattle.flow_laws.proofs.TraceLeaves.{leaf_of_trace, distinct_trace}
use Rattle.flow_goal.specs.Repeats.{HoldsNoneTwice, HoldsTwice}
use Rattle.flow_goal.proofs.Repetitions.{not_unique}
use Rattle.flow_form.specs.Form.{Shape}
use Rattle.flow_form.specs.Script.{event, flow}
use Rattle.flow_form.specs.Names.{event_names, names_in_rule}
use Rattle.flow_workflow.specs.Definition.{Definition}
use Rattle.flow_workflow.specs.Numbers.{event_number}
use Rattle.flow_workflow.proofs.FirstPlaces.{place_in}
use Rattle.flow_workflow.specs.declared.refusal.ExpandRefusal.TheVariants as refusal
use Rattle.flow_workflow.specs.declared.refusal.Part.TheVariants as part
use Rattle.flow_expand.specs.Steps.{IsRecursive}
use Rattle.flow_expand.specs.Expansion.{Expansion, Becomes, size_of}
use Rattle.flow_expand.specs.Numbers.{numbered, labelled_of, facts_of, notes_of}
use Rattle.flow_expand.specs.Refusals.{IsMeasured, rule_name_count, flow_count}
use Rattle.flow_expand.specs.Workflows.{IsExpanded, definition_of}
use Rattle.flow_expand.proofs.LeavesLemmas.{labels_counted, leaves_in_row}
use Rattle.flow_expand.proofs.Endings.{no_recursion, becomes_one}
use Rattle.flow_gen.specs.Generated.{event_name, all_draws, kinds, constraints, generated}
use Rattle.flow_gen.specs.Laws.{WorkflowsAreExpanded, ExpansionsAreNotRefused, LeavesAreCounted, LeavesAreEvents, LabelsNeverWait, NotesAreDone, choice_count}
use Rattle.flow_gen.proofs.EventNames.{distinct_names}
use Rattle.flow_gen.proofs.Parts.{declares, get_number}
use Rattle.flow_gen.proofs.SaidTexts.{kind_count, rule_draws, event_declared, names_are_good}
use Rattle.flow_gen.proofs.Rows.{IsRow, HasRow, goal_row}

-- No sub-workflow is declared

no_flow : (ns : List ℕ) (n : List ℕ) (s : Shape) → ¬ (flow n s ∈ map (λ k. event (event_name k) Done) ns)
no_flow [] n s m = absurd m
no_flow (k ∷ ns) n s (inl e) = cc
no_flow (k ∷ ns) n s (inr m) = no_flow ns n s m

names_count : (first : ℕ) (ds : List ℕ) → length (flat_map names_in_rule (constraints first ds)) ≤ length ds
names_count first (f ∷ g ∷ ds) = omega (arith, names_count (first + 8) ds)
names_count first fewer = omega arith

few_flows : (seed size : ℕ) → flow_count (generated seed size) ≡ 0
few_flows seed size = ap (λ (ns : List (List ℕ)). length ns) (declares (numbers_from 0 (8 * size))).no_flow

events_never_wait : (f : ℕ → ℕ) (ns : List ℕ) → Each NeverWaits (map (λ k. Event (f k)) ns)
events_never_wait f [] = tt
events_never_wait f (n ∷ ns) = (tt, events_never_wait f ns)

all_done : (ns : List ℕ) → Each (λ note. note ≡ Done) (notes_of (map (λ k. event (event_name k) Done) ns))
all_done [] = tt
all_done (n ∷ ns) = (refl, all_done ns)

event_of_label : (labels : List Label) (x k : ℕ) → slice_get labels x ≡ Some (Event k) → event_at labels x ≡ Some k
event_of_label labels x k e = rw e refl

module _ (seed size : ℕ) (some : 1 ≤ size) (few : size ≤ GREATEST_SIZE) where
  pub whole_row : HasRow (generated seed size).decls 0 (8 * size) (choice_count seed size) (generated seed size).goal
  whole_row =
      let ks = kinds 0 (take size (all_draws seed size)) in
      let many : length ks ≡ size = kind_count seed size in
      subst (λ n. HasRow (generated seed size).decls 0 (8 * n) (choice_count seed size) (generated seed size).goal) many
      (goal_row (generated seed size).decls (8 * size) (λ k h. (event_declared seed size (event_name k) (k, (h, refl))).0) ks (omega (arith, many, some)) (omega (arith, many)))

  abbrev pub expansion : Expansion
  expansion = whole_row.0

  pub row : IsRow (event_names (generated seed size).decls) 0 (8 * size) (choice_count seed size) expansion
  row = whole_row.1.1

  pub leaves_are : leaves (numbered 0 expansion) ≡ numbers_from 0 (8 * size)
  leaves_are =
      let events = event_names (generated seed size).decls in
      leaves_in_row 0 expansion ∙ ap (λ n. numbers_from 0 n) (sym (labels_counted events [] expansion) ∙ ap (λ (ls : List Label). length ls) (row.labels [])
      ∙ length-map (numbers_from 0 (8 * size)) (λ k. Event (event_number events (event_name k))) ∙ length-numbers_from 0 (8 * size))

  -- it is the only one
  pub the_expansion : (e : Expansion) → Becomes (generated seed size).decls (generated seed size).goal e → e ≡ expansion
  the_expansion e b =
      becomes_one (generated seed size).decls (names_are_good seed size some few).once (generated seed size).goal e expansion b whole_row.1.0

  pub the_definition : (w : Definition) → IsExpanded (generated seed size) w → w ≡ definition_of (generated seed size) expansion
  the_definition w h = h.is ∙ ap (definition_of (generated seed size)) (the_expansion h.expansion h.measured.fitting.becomes)

  not_recursive : ¬ (IsRecursive (generated seed size).decls)
  not_recursive = no_recursion (generated seed size).decls (names_are_good seed size some few).once (λ n s m. absurd (no_flow (numbers_from 0 (8 * size)) n s m))

  few_rule_names : rule_name_count (generated seed size) ≤ MOST_RULE_NAMES
  few_rule_names = omega (arith, names_count 0 (drop size (all_draws seed size)), rule_draws seed size, few)

  is_measured : IsMeasured (generated seed size) expansion
  is_measured = record {
    fitting = record {
      finite = record { few = omega (arith, few_flows seed size); ending = not_recursive };
      becomes = whole_row.1.0;
      fits = omega (arith, row.ends, row.isolations, few);
    };
    few_names = few_rule_names;
  }

  -- Its leaves are the events, each once

  pub number_is : (k : ℕ) → k < 8 * size → event_number (event_names (generated seed size).decls) (event_name k) ≡ k
  number_is k h =
      ap (λ names. event_number names (event_name k)) (declares (numbers_from 0 (8 * size))).events
      ∙ place_in bytes_eq bytes_decides (map event_name (numbers_from 0 (8 * size))) k (event_name k) (distinct_names 0 (8 * size) (omega (arith, few)))
      (get_number event_name (8 * size) k h)

  -- leaf x is of event x
  pub leaf_event : (x : ℕ) → x < 8 * size → event_at (labelled_of (generated seed size).decls expansion).labels x ≡ Some x
  leaf_event x h =
      let decls = (generated seed size).decls in
      event_of_label (labelled_of decls expansion).labels x x
      (ap (λ (ls : List Label). slice_get ls x) (row.labels (facts_of decls expansion)) ∙ get_number (λ k. Event (event_number (event_names decls) (event_name k))) (8 * size) x h
      ∙ ap (λ k. Some (Event k)) (number_is x h))

  -- and there are no more of them
  pub label_count : length (labelled_of (generated seed size).decls expansion).labels ≡ 8 * size
  label_count =
      let decls = (generated seed size).decls in
      ap (λ (ls : List Label). length ls) (row.labels (facts_of decls expansion)) ∙ length-map (numbers_from 0 (8 * size)) (λ k. Event (event_number (event_names decls) (event_name k)))
      ∙ length-numbers_from 0 (8 * size)

  pub never_wait : Each NeverWaits (labelled_of (generated seed size).decls expansion).labels
  never_wait =
      let decls = (generated seed size).decls in
      subst (λ (ls : List Label). Each NeverWaits ls) (sym (row.labels (facts_of decls expansion)))
      (events_never_wait (λ k. event_number (event_names decls) (event_name k)) (numbers_from 0 (8 * size)))

  trace_below : (t : List ℕ) → Trace (numbered 0 expansion) t → (x : ℕ) → x ∈ t → x < 8 * size
  trace_below t trace x m =
      let i = subst (λ ns. x ∈ ns) leaves_are (leaf_of_trace (numbered 0 expansion) t trace x m) in omega (arith, numbers_from_below 0 (8 * size) x i)

  pub none_twice : HoldsNoneTwice (labelled_of (generated seed size).decls expansion)
  none_twice t trace =
      distinct-filter_map (event_at (labelled_of (generated seed size).decls expansion).labels) t
      (distinct_trace (numbered 0 expansion) (subst (λ (ns : List ℕ). AreDistinct ns) (sym leaves_are) (distinct-numbers_from 0 (8 * size))) t trace)
      (λ x y k i j other one two. other
      (same_Some x y (sym (leaf_event x (trace_below t trace x i)) ∙ one ∙ sym two ∙ leaf_event y (trace_below t trace y j))))

pub workflows_are_expanded : WorkflowsAreExpanded
workflows_are_expanded seed size some few = (
  definition_of (generated seed size) (expansion seed size some few),
  record { expansion = expansion seed size some few; measured = is_measured seed size some few; unique = none_twice seed size some few; is = refl },
)

pub leaves_are_counted : LeavesAreCounted
leaves_are_counted seed size w some few h = ap (λ (v : Definition). length v.tree.labels) (the_definition seed size some few w h) ∙ label_count seed size some few

pub leaves_are_events : LeavesAreEvents
leaves_are_events seed size w some few h leaf less =
    subst (λ (v : Definition). event_at v.tree.labels leaf ≡ Some leaf) (sym (the_definition seed size some few w h)) (leaf_event seed size some few leaf less)

pub labels_never_wait : LabelsNeverWait
labels_never_wait seed size w some few h =
    subst (λ (v : Definition). Each NeverWaits v.tree.labels) (sym (the_definition seed size some few w h)) (never_wait seed size some few)

pub notes_are_done : NotesAreDone
notes_are_done seed size w h = subst (λ (v : Definition). Each (λ note. note ≡ Done) v.notes) (sym h.is) (all_done (numbers_from 0 (8 * size)))

pub expansions_are_not_refused : ExpansionsAreNotRefused
expansions_are_not_refused seed size (refusal.TooLarge part.Flows count) some few h = absurd (omega (arith, h.many, few_flows seed size))
expansions_are_not_refused seed size (refusal.TooLarge part.Goal count) some few h =
    let size_is = ap (λ (f : Expansion). size_of f) (the_expansion seed size some few h.expansion h.becomes) in
    absurd (omega (arith, h.large, size_is, (is_measured seed size some few).fitting.fits))
expansions_are_not_refused seed size (refusal.TooLarge part.Rules count) some few h = absurd (omega (arith, h.many, few_rule_names seed size some few))
expansions_are_not_refused seed size (refusal.Recursive chain) some few h =
    absurd (not_recursive seed size some few (h.recursive.first, (h.recursive.between, h.recursive.steps)))
expansions_are_not_refused seed size (refusal.Twice found) some few h =
    let same = the_expansion seed size some few h.expansion h.measured.fitting.becomes in
    let twice = subst (λ (f : Expansion). HoldsTwice (labelled_of (generated seed size).decls f) found.event found.first found.second) same h.first.twice in
    absurd (not_unique (labelled_of (generated seed size).decls (expansion seed size some few)) found.event found.first found.second twice (none_twice seed size some few))
expansions_are_not_refused seed size refusal.NoMemory some few h = refl
