-- What a log takes from the records of a CSV file: a row of each record that has a case and an activity.
use Rattle.std.specs.Prelude.{◌≡◌, ◌≢◌, ◌⊎◌, ◌+◌, ◌++◌, ◌∷◌, ℕ, List, [], false, length, map, Option, Some, None, IsUtf8, slice_get}
use Rattle.std.proofs.Common.{Vec, Global}
use Rattle.csv.specs.Reading.{AreRecords, default_config, strip_bom}
use Rattle.csv.specs.Records.{field_at}
use Rattle.csv.specs.declared.parser.State.TheVariants as st
use Rattle.flow_event_log.specs.declared.columns.Columns.{Columns}
use Rattle.flow_event_log.specs.declared.event_log.EventLog.{EventLog}
use Rattle.flow_event_log.specs.declared.reading.Reading.{Reading}
use Rattle.flow_event_log.specs.Logs.{rows_in, cases_in, activities_in}

-- a text of some letters
abbrev pub IsName : List ℕ → Type 0
IsName name = (name ≢ []) × IsUtf8 name

-- there is a field at that place, if a place is asked for
abbrev pub HasAt : Option ℕ → List (List ℕ) → Type 0
HasAt None fields = Unit {0}
HasAt (Some place) fields = (field : List ℕ) × (field_at fields place ≡ Some field)

-- the record has this case and this activity in their columns, and a field in that of the time
abbrev pub HasFields : Columns → List (List ℕ) → List ℕ → List ℕ → Type 0
HasFields columns fields case activity = (field_at fields columns.case ≡ Some case) × (field_at fields columns.activity ≡ Some activity) × HasAt columns.time fields

-- the row of a record: its case and its activity
abbrev pub IsRow : Columns → List (List ℕ) → List ℕ × List ℕ → Type 0
IsRow columns fields row = HasFields columns fields row.0 row.1 × (IsName row.0 × IsName row.1)

-- the row of a record, or none where the record is bad
abbrev pub IsTaken : Columns → List (List ℕ) → List (List ℕ × List ℕ) → Type 0
IsTaken columns fields rows =
    ((row : List ℕ × List ℕ) × IsRow columns fields row × (rows ≡ row ∷ []))
    ⊎ (((row : List ℕ × List ℕ) → ¬ (IsRow columns fields row)) × (rows ≡ []))

-- the rows of records, in order
abbrev pub AreTaken : Columns → List (List (List ℕ)) → List (List ℕ × List ℕ) → Type 0
AreTaken columns [] rows = rows ≡ []
AreTaken columns (fields ∷ records) rows =
    (one more : List (List ℕ × List ℕ)) × IsTaken columns fields one × AreTaken columns records more × (rows ≡ one ++ more)

-- the rows of a log are those of the records, and so many records were left out
pub record IsTakenFrom (columns : Columns) (records : List (List (List ℕ))) (rows : List (List ℕ × List ℕ)) (left_out : ℕ) : Type 0 where
  pub taken : AreTaken columns records rows
  pub all : length rows + left_out ≡ length records

abbrev pub texts_of : List (Vec ℕ Global) → List (List ℕ)
texts_of texts = map (λ (text : Vec ℕ Global). text.items) texts

-- the names of columns
abbrev pub header_of : Reading → List (List ℕ)
header_of reading = texts_of reading.header.items

-- the log was read from the text: its first record has the names of the columns, and the others are taken, in order where the events
-- of each case stand in the order of their times
pub record IsReadFrom (text : List ℕ) (reading : Reading) : Type 0 where
  pub records : List (List (List ℕ))
  pub are : AreRecords default_config st.StartRecord (strip_bom text) (header_of reading ∷ records)
  pub taken : reading.was_sorted ≡ false → IsTakenFrom reading.columns records (rows_in reading.log) reading.left_out

-- all of them are texts of some letters
abbrev pub AreNames : List (List ℕ) → Type 0
AreNames names = (k : ℕ) (name : List ℕ) → slice_get names k ≡ Some name → IsName name

abbrev pub HasNames : EventLog → Type 0
HasNames log = AreNames (cases_in log) × AreNames (activities_in log)

-- what a reading has taken more by one record
pub record TakesUp (old : Reading) (fields : List (List ℕ)) (new : Reading) : Type 0 where
  pub rows : List (List ℕ × List ℕ)
  pub taken : IsTaken old.columns fields rows
  pub grown : rows_in new.log ≡ rows_in old.log ++ rows
  pub all : length rows + new.left_out ≡ 1 + old.left_out
  pub names : HasNames new.log
  pub columns : new.columns ≡ old.columns
  pub header : header_of new ≡ header_of old
  pub was_sorted : new.was_sorted ≡ old.was_sorted
