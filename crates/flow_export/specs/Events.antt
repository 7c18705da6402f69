-- The events of a history, as an event log has them.
use Rattle.std.specs.Prelude.{◌≡◌, ℕ, ◌+◌, Bool, false, ◌==◌, if◌then◌else◌, List, [], ◌∷◌, ◌++◌, map, Option, Some, None}
use Rattle.std.specs.List.{filter, filter_map, list_any}
use Rattle.flow_model.specs.declared.history.Entry.{Entry}
use Rattle.flow_model.specs.declared.history.Step.{Step}
use Rattle.flow_model.specs.declared.history.Step.TheVariants.{Took, Done, Failed, Late, Did, Rewound, Committed}
use Rattle.flow_model.specs.Schema.{Schema}
use Rattle.flow_model.specs.Run.{leaf_of_claim, state_of}
use Rattle.flow_standing.specs.declared.trail.Doing.{Doing}
use Rattle.flow_standing.specs.declared.undone.TakenBack.{TakenBack}
use Rattle.flow_standing.specs.Trail.{AreDoings}
use Rattle.flow_standing.specs.Undone.{AreTakenBack}
use Rattle.flow_export.specs.declared.log_event.Lifecycle.{Lifecycle}
use Rattle.flow_export.specs.declared.log_event.Lifecycle.TheVariants as life
use Rattle.flow_export.specs.declared.log_event.LogEvent.{LogEvent}

abbrev pub event : ℕ → ℕ → Lifecycle → Bool → LogEvent
event place leaf lifecycle counts = record { place = place; leaf = leaf; lifecycle = lifecycle; counts = counts }

-- what an option holds, as a list
abbrev pub listed : {A : Type 0} → Option A → List A
listed None = []
listed (Some x) = x ∷ []

-- the entry at the place put a leaf on the journal that stands there in the end
abbrev pub is_counted : List Doing → ℕ → Bool
is_counted doings place = list_any (λ doing. doing.place == place) doings

-- the task that the step back at the place took, if it is one of it
abbrev pub undone_by : ℕ → TakenBack → Option LogEvent
undone_by place taken = if taken.rewound == place then Some (event place taken.leaf life.Undone false) else None

-- the event of the entry at the place, by the leaves of the claims; a step back and the end have none of their own
abbrev pub event_at : (ℕ → ℕ) → List Doing → ℕ → Step → Option LogEvent
event_at leaf_of doings place (Took claim leaf) = Some (event place leaf life.Start false)
event_at leaf_of doings place (Done claim) = Some (event place (leaf_of claim) life.Complete (is_counted doings place))
event_at leaf_of doings place (Failed claim effect) = Some (event place (leaf_of claim) life.Fail false)
event_at leaf_of doings place (Late claim) = Some (event place (leaf_of claim) life.Late false)
event_at leaf_of doings place (Did leaf) = Some (event place leaf life.Complete (is_counted doings place))
event_at leaf_of doings place (Rewound index) = None
event_at leaf_of doings place Committed = None

-- the events of the entry at the place: a step back has the tasks that it took
abbrev pub events_at : (ℕ → ℕ) → List Doing → List TakenBack → ℕ → Step → List LogEvent
events_at leaf_of doings taken place (Rewound index) = filter_map (undone_by place) taken
events_at leaf_of doings taken place other = listed (event_at leaf_of doings place other)

-- those of the entries from the place on
abbrev pub events_from : (ℕ → ℕ) → List Doing → List TakenBack → ℕ → List Entry → List LogEvent
events_from leaf_of doings taken place [] = []
events_from leaf_of doings taken place (entry ∷ entries) =
    events_at leaf_of doings taken place entry.step ++ events_from leaf_of doings taken (place + 1) entries

-- The log of a history: each entry's events, in order. What counts is what put the leaves on the journal, and what is undone is what
-- steps back took.
pub record IsLog (w : Schema) (history : List Entry) (events : List LogEvent) : Type 0 where
  pub doings : List Doing
  pub are_doings : AreDoings w history doings
  pub taken : List TakenBack
  pub are_taken : AreTakenBack w history taken
  pub events_are : events ≡ events_from (leaf_of_claim (state_of w history)) doings taken 0 history

-- the leaves of the events that count
abbrev pub counted_leaves : List LogEvent → List ℕ
counted_leaves events = map (λ (x : LogEvent). x.leaf) (filter (λ (x : LogEvent). x.counts) events)
