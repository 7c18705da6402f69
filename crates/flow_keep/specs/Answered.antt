-- What the calls of a keep answer, by what its core answers.
use Rattle.std.specs.Prelude.{◌≡◌, ◌⊎◌, ℕ, ◌+◌, Bool, true, false, List, take, Option, Result, Ok, Err}
use Rattle.flow_ask.specs.declared.ask.Ask.{Ask}
use Rattle.flow_ask.specs.declared.made.Made.{Made}
use Rattle.flow_ask.specs.declared.refusal.Refusal.{Refusal}
use Rattle.flow_ask.specs.declared.refusal.Refusal.TheVariants as refusal
use Rattle.flow_core.specs.Run.{Run}
use Rattle.flow_core.specs.Ask.{HasOneMore}
use Rattle.flow_disk.specs.Disk.{Leaves}
use Rattle.flow_keep.specs.Records.{Keeps}
use Rattle.flow_keep.specs.Kept.{KeepsEither, GainsRecord}
use Rattle.flow_keep.specs.declared.refusal.KeptRefusal.{KeptRefusal}
use Rattle.flow_keep.specs.declared.refusal.KeptRefusal.TheVariants.{Broken, Core, DiskFault}

-- The answer of the core, where no earlier call failed and none fails now. After a call that fails the core has the entry, and
-- from then on every call answers that the keep is broken, and changes nothing.
abbrev pub IsKeptAnswer : {S A R : Type 0} → (Result A R → S → Type 0) → (S → Type 0) → Bool → S → Result A (KeptRefusal R) → Bool → S → Type 0
IsKeptAnswer Answers HasMore broken r (Ok value) broken' after = (broken ≡ false) × (broken' ≡ false) × Answers (Ok value) after
IsKeptAnswer Answers HasMore broken r (Err (Core refusal)) broken' after = (broken ≡ false) × (broken' ≡ false) × Answers (Err refusal) after
IsKeptAnswer Answers HasMore broken r (Err Broken) broken' after = (broken ≡ true) × (broken' ≡ true) × (after ≡ r)
IsKeptAnswer {S} {A} {R} Answers HasMore broken r (Err DiskFault) broken' after =
    (broken ≡ false) × (broken' ≡ true) × ((answer : Result A R) × Answers answer after × HasMore after)

-- the answer is told, or else that the disk failed
abbrev pub IsTold : {A R : Type 0} → Result A R → Bool → Result A (KeptRefusal R) → Type 0
IsTold (Ok value) false told = told ≡ Ok value
IsTold (Err refusal) false told = told ≡ Err (Core refusal)
IsTold answer true told = told ≡ Err DiskFault

-- the count of faults rises, by one, exactly where the disk failed in this call
abbrev pub CountsKept : {A R : Type 0} → ℕ → ℕ → Result A (KeptRefusal R) → Type 0
CountsKept before now (Err DiskFault) = now ≡ before + 1
CountsKept before now other = now ≡ before

-- why nothing came of an ask, of the run or of the disk
abbrev pub of_kept : KeptRefusal Refusal → Refusal
of_kept Broken = refusal.Broken
of_kept (Core refusal) = refusal
of_kept DiskFault = refusal.Disk

-- A keep answers the ask so: it is broken; or it answers as its run does, with the entry in the file; or the disk fails, once the run has answered.
abbrev pub KeepAnswers : {S : Type 0} → (S → Run) → (S → Ask → ℕ → Result Made Refusal → S → Type 0) →
    Bool → S → Ask → ℕ → Result Made Refusal → Bool → S → Type 0
KeepAnswers run answers broken s ask by answer broken' after =
    ((broken ≡ true) × (broken' ≡ true) × (answer ≡ Err refusal.Broken) × (after ≡ s))
    ⊎ (((broken ≡ false) × (broken' ≡ false) × answers s ask by answer after)
    ⊎ ((broken ≡ false) × (broken' ≡ true) × (answer ≡ Err refusal.Disk)
    × ((told : Result Made Refusal) × answers s ask by told after × HasOneMore (run s) ask by (run after))))

-- the count of faults rises, by one, exactly where the keep breaks in this call
abbrev pub CountsDisk : Bool → Bool → ℕ → ℕ → Type 0
CountsDisk false true before now = now ≡ before + 1
CountsDisk broken broken' before now = now ≡ before

-- ---- what a call leaves on the disk, where the run was the one and is the other

-- The file stays the same file. Where the run stays, so does the disk. Else the file gains just the record of the entry that came, and at each
-- moment of the call a crash leaves a file that keeps the history before or the history after. Afterwards it leaves the history after, or, where the disk
-- failed in this call, one of the two.
pub record LeavesKept {D : Type 0} (tells : Type 0) (moment : D → ℕ) (image : D → ℕ → List ℕ → Type 0) (seen : D → List ℕ) (chosen : D → Option ℕ)
    (before after : Run) (old new : D) (broken broken' : Bool) : Type 0 where
  pub same_file : chosen new ≡ chosen old
  pub same_disk : after ≡ before → new ≡ old
  pub gains : tells → broken' ≡ false → GainsRecord before.history after.history (seen old) (seen new)
  pub any_moment : tells → broken ≡ false → Leaves moment image old new (KeepsEither before.history after.history)
  pub acknowledged : tells → broken' ≡ false → (c : List ℕ) → image new (moment new) c → Keeps after.history c
  pub after_fault : tells → broken ≡ false → (c : List ℕ) → image new (moment new) c → KeepsEither before.history after.history c

-- the run with so many of its entries
abbrev pub front : ℕ → Run → Run
front count r = record r { history = take count r.history }
