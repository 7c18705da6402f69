-- Updates that can be done at once, since no choice is closed off by them.
use Rattle.std.specs.Prelude.{◌≡◌, ◌⊎◌, ℕ, List, [], ◌∷◌, length, Option, Some, slice_get, Result}
use Rattle.flow_ask.specs.declared.ask.Ask.{Ask}
use Rattle.flow_ask.specs.declared.ask.Ask.TheVariants.{Do}
use Rattle.flow_ask.specs.declared.made.Made.{Made}
use Rattle.flow_ask.specs.declared.refusal.Refusal.{Refusal}
use Rattle.flow_model.specs.declared.labels.Label.{Label}
use Rattle.flow_model.specs.declared.labels.Label.TheVariants.{Ins, Del}
use Rattle.flow_model.specs.declared.history.Step.TheVariants.{Did}
use Rattle.flow_model.specs.Run.{IsOpen}
use Rattle.flow_core.specs.Run.{Run, schema, now, with_entry, HasEntryLeft}
use Rattle.flow_core.specs.Next.{CanAct}
use Rattle.flow_core.specs.Answers.{IsLeast}
use Rattle.flow_names.specs.Meaning.{NoneHas}

-- the label is that of an update
abbrev pub IsUpdate : Option Label → Type 0
IsUpdate (Some (Ins fact)) = Unit {0}
IsUpdate (Some (Del fact)) = Unit {0}
IsUpdate other = ⊥

-- the leaf is an update, and may be done now
pub record IsUpdateNow (r : Run) (leaf : ℕ) : Type 0 where
  pub update : IsUpdate (slice_get (schema r).labels leaf)
  pub may : CanAct r leaf

-- at the end of the journal of the first run, which the other has with one leaf more, another choice is still free
abbrev pub IsOpenBehind : Run → Run → Type 0
IsOpenBehind r after = IsOpen (schema after) (now after) (length (now r).journal)

-- once the leaf is done, another choice is free at its place
abbrev pub ClosesChoice : Run → ℕ → ℕ → Type 0
ClosesChoice r by leaf = IsOpenBehind r (with_entry r by (Did leaf))

-- The caller does the updates one after another, and the run is this afterwards: each is the least that may be done, and closes off no
-- choice.
abbrev pub AreTidy : Run → ℕ → List ℕ → Run → Type 0
AreTidy r by [] after = after ≡ r
AreTidy r by (leaf ∷ leaves) after =
    IsLeast (IsUpdateNow r) leaf × ¬ (ClosesChoice r by leaf) × AreTidy (with_entry r by (Did leaf)) by leaves after

-- Why there are no more: no update may be done, or there is no room, or whatever was asked for the least made no entry; or the least,
-- which was done and is not told, closes off a choice.
abbrev pub IsLastTidy : {S : Type 0} → (S → Run) → (S → Ask → ℕ → Result Made Refusal → S → Type 0) → Run → ℕ → S → Type 0
IsLastTidy {S} run answers r by after =
    ((run after ≡ r) × (NoneHas (IsUpdateNow r) ⊎ (¬ (HasEntryLeft r)
    ⊎ ((before : S) × (leaf : ℕ) × (answer : Result Made Refusal) × (run before ≡ r) × IsLeast (IsUpdateNow r) leaf × answers before (Do leaf) by answer after))))
    ⊎ ((leaf : ℕ) × IsLeast (IsUpdateNow r) leaf × ClosesChoice r by leaf × (run after ≡ with_entry r by (Did leaf)))

-- these updates are done, and no more
abbrev pub Tidies : {S : Type 0} → (S → Run) → (S → Ask → ℕ → Result Made Refusal → S → Type 0) → Run → ℕ → List ℕ → S → Type 0
Tidies run answers r by leaves after = (mid : Run) × AreTidy r by leaves mid × IsLastTidy run answers mid by after
