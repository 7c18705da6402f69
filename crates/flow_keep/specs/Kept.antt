-- What is on the disk where no call of a keep has failed.
use Rattle.std.specs.Prelude.{◌≡◌, ◌≢◌, ◌⊎◌, ℕ, ◌*◌, ◌<◌, List, [], ◌∷◌, ◌++◌, length, get_or}
use Rattle.std.specs.Coded.{×_prop, Unit-prop, le_prop}
use Rattle.flow_model.specs.declared.history.Entry.{Entry}
use Rattle.flow_model.specs.declared.history.Step.{Step}
use Rattle.flow_model.specs.declared.history.Step.TheVariants.{Took, Done, Failed, Late, Did, Rewound, Committed}
use Rattle.flow_model.specs.Lists.{Each}
use Rattle.flow_record.specs.History.{IsSmall, HasSmallNumbers}
use Rattle.flow_disk.specs.Disk.{Holds}
use Rattle.flow_keep.specs.Records.{records, body_of, Keeps}

-- behind the records stands a byte that is no open gate, and a crash leaves just these bytes
pub record IsSettled (seen : List ℕ) (image : List ℕ → Type 0) : Type 0 where
  pub there : 16 * length (records seen) < length seen
  pub shut : get_or seen (16 * length (records seen)) 0 ≢ 1
  pub durable : (c : List ℕ) → image c → c ≡ seen

pub record IsKept (history : List Entry) (seen : List ℕ) (image : List ℕ → Type 0) : Type 0 where
  pub settled : IsSettled seen image
  pub keeps : Keeps history seen

-- behind so many records the file ends, or has an open gate with too little behind it
abbrev pub NeedsGate : List ℕ → ℕ → Type 0
NeedsGate file count = (16 * count ≡ length file) ⊎ (get_or file (16 * count) 0 ≡ 1)

-- a byte stands there that is no open gate
abbrev pub HasGate : List ℕ → ℕ → Type 0
HasGate file count = (16 * count < length file) × (get_or file (16 * count) 0 ≢ 1)

-- the file keeps these records, or these and one more
abbrev pub IsBeforeOrAfter : List (List ℕ) → List ℕ → List ℕ → Type 0
IsBeforeOrAfter bodies body file = (records file ≡ bodies) ⊎ (records file ≡ bodies ++ body ∷ [])

-- the file keeps the one history or the other
abbrev pub KeepsEither : List Entry → List Entry → List ℕ → Type 0
KeepsEither before after file = Keeps before file ⊎ Keeps after file

-- the file gains the record of the entry that came, with a zero byte behind it, and is else as it was
abbrev pub GainsRecord : List Entry → List Entry → List ℕ → List ℕ → Type 0
GainsRecord before after old new =
    (entry : Entry) → after ≡ before ++ entry ∷ [] → Holds old (16 * length before) (1 ∷ (body_of entry ++ 0 ∷ [])) new

-- that numbers are of 32 bits has one proof, so a type may keep it
numbers-prop : (step : Step) → IsProp (HasSmallNumbers step)
numbers-prop (Took claim leaf) = ×_prop le_prop le_prop
numbers-prop (Done claim) = le_prop
numbers-prop (Failed claim effect) = le_prop
numbers-prop (Late claim) = le_prop
numbers-prop (Did leaf) = le_prop
numbers-prop (Rewound index) = le_prop
numbers-prop Committed = Unit-prop

pub small-prop : (history : List Entry) → IsProp (Each IsSmall history)
small-prop [] = Unit-prop
small-prop (entry ∷ history) = ×_prop (×_prop le_prop (numbers-prop entry.step)) (small-prop history)
