-- The history of a core is lawful, and its world is what its journal leaves.
use Rattle.std.proofs.Common.{◌≡◌, ◌+◌, ℕ, true, false, true≢false, List, [], ◌∷◌, sym, ap, ◌∙◌}
use Rattle.flow_model.specs.declared.history.Entry.{Entry}
use Rattle.flow_model.specs.declared.history.Step.{Step}
use Rattle.flow_model.specs.declared.history.Step.TheVariants.{Failed, Committed}
use Rattle.flow_model.specs.declared.history.FailEffect.TheVariants.{Kept}
use Rattle.flow_model.specs.Facts.{state_with}
use Rattle.flow_model.specs.Schema.{Schema, IsGood}
use Rattle.flow_model.specs.Run.{RunState, first_state, next_state, state_after, database, IsAllowed, IsLegalFrom}
use Rattle.flow_laws.proofs.NeverAtALoss.{sound_state}
use Rattle.flow_workflow.specs.Definition.{Definition, schema_of}
use Rattle.flow_facts.specs.Course.{Course, after_all, state_of_world}
use Rattle.flow_facts.proofs.JournalLabels.{replay-labels_at}
use Rattle.flow_core.specs.declared.run.Core.TheInside.{Inside}
use Rattle.flow_core.specs.Invariant.{IsCourseOf, IsRunning}
use Rattle.flow_core.proofs.Steps.{sound_now}
use Rattle.flow_core.specs.Lawful.{IsLawful}

-- only a commit ends a run, and it finds the journal good
good_step : (w : Schema) (s : RunState) (step : Step) → s.committed ≡ false → IsAllowed w s step → (next_state w s step).committed ≡ true → IsGood w (next_state w s step).journal
good_step w s Committed going a c = a.1
good_step w s (Failed claim Kept) going a c = absurd (true≢false (sym c ∙ going))
good_step w s other going a c = absurd (true≢false (sym c ∙ going))

-- a legal history that is committed ends with a good journal
good_end : (w : Schema) (limit : ℕ) (s : RunState) (made : ℕ) (history : List Entry) → IsLegalFrom w limit s made history →
    (s.committed ≡ true → IsGood w s.journal) → (state_after w s history).committed ≡ true → IsGood w (state_after w s history).journal
good_end w limit s made [] legal so_far c = so_far c
good_end w limit s made (entry ∷ entries) legal so_far c =
    good_end w limit (next_state w s entry.step) (made + 1) entries legal.3 (good_step w s entry.step legal.0 legal.2) c

pub lawful : (i : Inside) → IsRunning i → IsLawful (schema_of i.workflow) i.limit i.history.items
lawful i kept =
    let k = kept.kept in record {
      legal = k.legal;
      sound = sound_state (schema_of i.workflow) k.remains.well_formed k.consistent i.limit i.history.items k.legal;
      executed = λ over. (
        good_end (schema_of i.workflow) i.limit first_state 0 i.history.items k.legal (λ none. absurd (true≢false (sym none))) over,
        (sound_now i kept).runs,
      );
    }

-- what holds is what the journal leaves
pub world_is : (w : Definition) (s : RunState) (v : Course) → IsCourseOf w s v → state_of_world v ≡ database (schema_of w) s
world_is w s v course =
    ap (λ (held : List ℕ). after_all (state_with held) v.labels) course.held_is ∙ ap (after_all (state_with w.held)) course.labels_are
    ∙ sym (replay-labels_at w.tree.labels (state_with w.held) s.journal)
