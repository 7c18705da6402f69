-- What the lines of a trail tell of entries.
use Rattle.std.specs.Prelude.{◌≡◌, ◌⊎◌, ℕ, ◌+◌, ◌-◌, ◌<◌, Bool, true, false, if◌then◌else◌, List, [], ◌∷◌, ◌++◌, length, drop}
use Rattle.std.specs.String.{string_bytes}
use Rattle.sha2.specs.Sha256.{sha256}
use Rattle.flow_trail.specs.declared.line.TrailEnd.{TrailEnd}
use Rattle.flow_trail.specs.declared.due.Due.{Due}
use Rattle.flow_trail.specs.declared.due.Tale.{Tale}
use Rattle.flow_trail.specs.declared.due.Tale.TheVariants as tale
use Rattle.flow_trail.specs.declared.refusal.ReadRefusal.{ReadRefusal}
use Rattle.flow_trail.specs.declared.refusal.ReadRefusal.TheVariants as read
use Rattle.flow_trail.specs.declared.refusal.VerifyRefusal.{VerifyRefusal}
use Rattle.flow_trail.specs.declared.refusal.VerifyRefusal.TheVariants as verify
use Rattle.flow_trail.specs.Lines.{Said, told, void, remark, end_of}

-- by whom an entry was made, the step in words, and the name of its task
pub record Entered : Type 0 where
  pub by : List ℕ
  pub entry : List ℕ
  pub task : List ℕ

abbrev pub entered_of : Due → Entered
entered_of due = record { by = string_bytes due.by; entry = string_bytes due.entry; task = string_bytes due.task }

-- where a trail begins, by the bytes of the workflow and of the policy
abbrev pub first_end : List ℕ → List ℕ → TrailEnd
first_end workflow policy = record { seal = sha256 (workflow ++ 0 ∷ policy); count = 0; last_told = false }

-- why a trail is not whole that is not read
abbrev pub of_read : ReadRefusal → VerifyRefusal
of_read (read.BadLine line) = verify.BadLine line
of_read read.NoMemory = verify.NoMemory

-- the next line is void
abbrev pub begins_void : List Said → Bool
begins_void [] = false
begins_void (told at by entry task note ∷ more) = false
begins_void (void at ∷ more) = true
begins_void (remark about text entry by at ∷ more) = false

-- what a line tells, in front of what those behind it tell
abbrev pub told_by : Said → Bool → List Entered → List Entered
told_by (told at by entry task note) voided more = if voided then more else record { by = by; entry = entry; task = task } ∷ more
told_by (void at) voided more = more
told_by (remark about text entry by at) voided more = more

-- the entries that lines tell, in order: a line in front of a void one tells none
abbrev pub tells : List Said → List Entered
tells [] = []
tells (said ∷ more) = told_by said (begins_void more) (tells more)

-- The lines tell just these entries, in order, or these and one that has not come, in the last line.
abbrev pub Tells : TrailEnd → List Said → List Entered → Type 0
Tells e saying due = (tells saying ≡ due) ⊎ (((next : Entered) × (tells saying ≡ due ++ next ∷ [])) × ((end_of e saying).last_told ≡ true))

-- it is not the entry that is due first, or it is one more, and lines stand behind it
abbrev pub IsUndue : List Entered → Entered → ℕ → Type 0
IsUndue [] next behind = 0 < behind
IsUndue (first ∷ due) next behind = ¬ (first ≡ next)

-- The lines before the one of that number, from 1, tell the first entries that are due; that line tells one, and another than the next.
pub record IsOther (saying : List Said) (due : List Entered) (line : ℕ) : Type 0 where
  pub earlier : List Entered
  pub left : List Entered
  pub due_is : due ≡ earlier ++ left
  pub next : Entered
  pub more : List Entered
  pub all : tells saying ≡ earlier ++ next ∷ more
  pub there : tells (drop (line - 1) saying) ≡ next ∷ more
  pub undue : IsUndue left next (length (drop line saying))

-- The lines tell the first entries that are due, and no line tells the one of that number, from 1.
pub record IsMissing (saying : List Said) (due : List Entered) (number : ℕ) : Type 0 where
  pub left : List Entered
  pub due_is : due ≡ tells saying ++ left
  pub some : 0 < length left
  pub counted : length (tells saying) + 1 ≡ number

-- what the first of the lines tells, where these entries are due
abbrev pub IsTale : List Said → List Entered → Tale → Type 0
IsTale saying due tale.Nothing = tells saying ≡ tells (drop 1 saying)
IsTale saying due tale.Expected = (first : Entered) × (due ≡ first ∷ drop 1 due) × (tells saying ≡ first ∷ tells (drop 1 saying))
IsTale saying due tale.Next = (due ≡ []) × ((next : Entered) × (tells saying ≡ next ∷ [])) × ((e : TrailEnd) → (end_of e saying).last_told ≡ true)
IsTale saying due tale.Other = (next : Entered) × (tells saying ≡ next ∷ tells (drop 1 saying)) × IsUndue due next (length (drop 1 saying))
