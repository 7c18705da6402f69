-- What opening leaves on a disk, which record it does not take, and when it tells a fault.
use Rattle.std.specs.Prelude.{◌≡◌, ◌<◌, ◌≤◌, ℕ, ◌+◌, List, [], ◌∷◌, ◌++◌, map, length, Result, Ok, Err}
use Rattle.flow_model.specs.declared.history.Entry.{Entry}
use Rattle.flow_model.specs.Lists.{Each}
use Rattle.flow_model.specs.Schema.{Schema}
use Rattle.flow_model.specs.Run.{IsLegal}
use Rattle.flow_record.specs.History.{IsSmall}
use Rattle.flow_keep.specs.Records.{records, body_of}
use Rattle.flow_keep.specs.declared.refusal.KeepRefusal.{KeepRefusal}
use Rattle.flow_keep.specs.declared.refusal.KeepRefusal.TheVariants.{DiskFault, Foreign, NoMemory}

-- no sync succeeded after the one moment, up to the other
abbrev pub NoneSince : (ℕ → Type 0) → ℕ → ℕ → Type 0
NoneSince synced since now = (s : ℕ) → since < s → s ≤ now → ¬ (synced s)

-- a sync succeeded after the one moment, up to the other
abbrev pub SomeSince : (ℕ → Type 0) → ℕ → ℕ → Type 0
SomeSince synced since now = (s : ℕ) × (since < s) × (s ≤ now) × synced s

-- From the first sync of the call on each image keeps the records that a read gave at its beginning. Until then each
-- image is one that a crash could have left at its beginning.
pub record KeepsRecords {D : Type 0} (moment : D → ℕ) (image : D → ℕ → List ℕ → Type 0) (synced : D → ℕ → Type 0) (seen : D → List ℕ) (old new : D) : Type 0 where
  pub later : moment old ≤ moment new
  pub keeps : (t : ℕ) (c : List ℕ) → t ≤ moment old → image old t c → image new t c
  pub past : (t : ℕ) (c : List ℕ) → t < moment old → image new t c → image old t c
  pub until : (t : ℕ) (c : List ℕ) → moment old ≤ t → t ≤ moment new → NoneSince (synced new) (moment old) t → image new t c → image old (moment old) c
  pub from : (s t : ℕ) (c : List ℕ) → synced new s → moment old < s → s ≤ t → t ≤ moment new → image new t c → records c ≡ records (seen old)

-- what was synced before the call is known as before
pub record KeepsSyncs (before : ℕ) (old new : ℕ → Type 0) : Type 0 where
  pub keeps : (t : ℕ) → t ≤ before → old t → new t
  pub past : (t : ℕ) → t ≤ before → new t → old t

-- The record of that number is the first that tells no entry, or one that is not legal after those before it. An entry whose
-- numbers are of 32 bits is told by its bytes.
pub record IsForeign (w : Schema) (limit : ℕ) (bodies : List (List ℕ)) (index : ℕ) : Type 0 where
  pub earlier : List Entry
  pub small : Each IsSmall earlier
  pub legal : IsLegal w limit earlier
  pub counted : length earlier ≡ index
  pub body : List ℕ
  pub later : List (List ℕ)
  pub split : bodies ≡ map body_of earlier ++ body ∷ later
  pub none : (entry : Entry) → IsSmall entry → body_of entry ≡ body → ¬ (IsLegal w limit (earlier ++ entry ∷ []))

-- each record tells an entry that is legal after those before it
pub record HasNoForeign (w : Schema) (limit : ℕ) (bodies : List (List ℕ)) : Type 0 where
  pub none : (index : ℕ) → ¬ (IsForeign w limit bodies index)

-- the number of a foreign record has P
abbrev pub OnForeign : {T : Type 0} → (ℕ → Type 0) → Result T KeepRefusal → Type 0
OnForeign P (Err (Foreign index)) = P index
OnForeign P other = Unit {0}

-- The count of faults rises, by one, exactly where it is the disk that failed. No memory is asked for.
abbrev pub CountsRefusal : {T : Type 0} → ℕ → ℕ → Result T KeepRefusal → Type 0
CountsRefusal before now (Ok value) = now ≡ before
CountsRefusal before now (Err DiskFault) = now ≡ before + 1
CountsRefusal before now (Err (Foreign index)) = now ≡ before
CountsRefusal before now (Err NoMemory) = ⊥
