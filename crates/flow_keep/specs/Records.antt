-- The records of a file: blocks of sixteen bytes, a gate and fifteen bytes that tell an entry.
use Rattle.std.specs.Prelude.{◌≡◌, ℕ, zero, suc, Bool, ◌&&◌, ◌==◌, nat_lt, if◌then◌else◌, List, [], ◌∷◌, ◌++◌, map, length, get_or, take, drop, Option, Some, None}
use Rattle.std.specs.Int.{w32, to_be_bytes}
use Rattle.flow_model.specs.declared.history.Entry.{Entry}
use Rattle.flow_model.specs.declared.history.Step.{Step}
use Rattle.flow_model.specs.declared.history.Step.TheVariants.{Took, Done, Failed, Late, Did, Rewound, Committed}
use Rattle.flow_model.specs.declared.history.FailEffect.TheVariants.{Switched, Kept}

-- ---- an entry as bytes

-- the kind of what an entry does
abbrev pub kind_of : Step → ℕ
kind_of (Took claim leaf) = 0
kind_of (Done claim) = 1
kind_of (Failed claim Switched) = 2
kind_of (Failed claim Kept) = 3
kind_of (Late claim) = 4
kind_of (Did leaf) = 5
kind_of (Rewound index) = 6
kind_of Committed = 7

abbrev pub first_of : Step → ℕ
first_of (Took claim leaf) = claim
first_of (Done claim) = claim
first_of (Failed claim effect) = claim
first_of (Late claim) = claim
first_of (Did leaf) = leaf
first_of (Rewound index) = index
first_of Committed = 0

abbrev pub second_of : Step → ℕ
second_of (Took claim leaf) = leaf
second_of other = 0

-- what an entry of that kind and with those numbers does
abbrev pub step_of : ℕ → ℕ → ℕ → Option Step
step_of kind first second =
    if kind == 0 then Some (Took first second)
    else if kind == 1 then Some (Done first)
    else if kind == 2 then Some (Failed first Switched)
    else if kind == 3 then Some (Failed first Kept)
    else if kind == 4 then Some (Late first)
    else if kind == 5 then Some (Did first)
    else if kind == 6 then Some (Rewound first)
    else if kind == 7 then Some Committed
    else None

-- the fifteen bytes of an entry: its kind, two zeros, its caller, and its two numbers, each with its high byte first
abbrev pub body_of : Entry → List ℕ
body_of entry =
    kind_of entry.step ∷ 0 ∷ 0 ∷ (to_be_bytes w32 entry.by ++ (to_be_bytes w32 (first_of entry.step) ++ to_be_bytes w32 (second_of entry.step)))

-- ---- files of records

-- the bytes begin with an open gate, its record and one byte more
abbrev pub is_open : List ℕ → Bool
is_open bytes = (get_or bytes 0 0 == 1) && nat_lt 16 (length bytes)

abbrev pub body_at : List ℕ → List ℕ
body_at bytes = take 15 (drop 1 bytes)

-- so many records at most, up to the first that is not open
abbrev pub records_within : ℕ → List ℕ → List (List ℕ)
records_within zero bytes = []
records_within (suc n) bytes = if is_open bytes then body_at bytes ∷ records_within n (drop 16 bytes) else []

-- the records before the first that is not open
abbrev pub records : List ℕ → List (List ℕ)
records bytes = records_within (length bytes) bytes

-- the file keeps this history, and nothing else
abbrev pub Keeps : List Entry → List ℕ → Type 0
Keeps history file = records file ≡ map body_of history

-- open records with these bodies
abbrev pub blocks : List (List ℕ) → List ℕ
blocks [] = []
blocks (body ∷ bodies) = 1 ∷ (body ++ blocks bodies)
