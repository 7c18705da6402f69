-- A history that is told by records, and followed entry by entry.
use Rattle.std.specs.Prelude.{◌≡◌, ◌<◌, ℕ, List, [], ◌∷◌, ◌++◌, length}
use Rattle.flow_model.specs.declared.history.Entry.{Entry}
use Rattle.flow_model.specs.Lists.{Each}
use Rattle.flow_record.specs.History.{IsSmall}
use Rattle.flow_core.specs.Run.{Run, with_entry}
use Rattle.flow_core.specs.Make.{CanMake}
use Rattle.flow_roles.specs.Desked.{Desked}
use Rattle.flow_step.specs.Records.{record_of, records_of}

-- each entry may be made once those before it are, and this comes of them all
abbrev pub Makes : {S : Type 0} → (S → Entry → Type 0) → (S → Entry → S) → S → List Entry → S → Type 0
Makes may grown first [] last = last ≡ first
Makes may grown first (entry ∷ entries) last = may first entry × Makes may grown (grown first entry) entries last

-- the bytes are the records of such entries
pub record IsFollowed {S : Type 0} (may : S → Entry → Type 0) (grown : S → Entry → S) (first : S) (bytes : List ℕ) (last : S) : Type 0 where
  pub entries : List Entry
  pub told : bytes ≡ records_of entries
  pub small : Each IsSmall entries
  pub made : Makes may grown first entries last

-- The record of that number is the first that tells no entry which may be made after those before it.
pub record IsIllegalAt {S : Type 0} (may : S → Entry → Type 0) (grown : S → Entry → S) (first : S) (bytes : List ℕ) (number : ℕ) : Type 0 where
  pub earlier : List Entry
  pub small : Each IsSmall earlier
  pub last : S
  pub made : Makes may grown first earlier last
  pub counted : length earlier ≡ number
  pub rest : List ℕ
  pub split : bytes ≡ records_of earlier ++ rest
  pub some : 0 < length rest
  pub none : (entry : Entry) (more : List ℕ) → IsSmall entry → rest ≡ record_of entry ++ more → ¬ (may last entry)

-- ---- of a run, and of a desk over one

-- the run has that entry more
abbrev pub run_grown : Run → Entry → Run
run_grown r entry = with_entry r entry.by entry.step

-- the entry may be made next in the run
abbrev pub run_may : Run → Entry → Type 0
run_may r entry = CanMake r entry.step

-- the desk's run has that entry more
abbrev pub desk_grown : Desked → Entry → Desked
desk_grown d entry = record d { run = run_grown d.run entry }
