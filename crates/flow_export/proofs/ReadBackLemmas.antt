-- A log in CSV is read back, a record at a time.
use Rattle.std.proofs.Common.{◌≡◌, ℕ, List, [], ◌∷◌, ◌++◌, codes, map, Some, refl}
use Rattle.std.specs.Fmt.{decimal}
use Rattle.csv.specs.Machine.{next_record}
use Rattle.csv.specs.Reading.{Reached, default_config}
use Rattle.csv.specs.declared.parser.State.TheVariants as st
use Rattle.csv.proofs.RoundTrip.{read-write-many}
use Rattle.flow_export.specs.Rows.{Row, kind_word, word_of, yes_no, csv_names, csv_fields, csv_record, csv_lines}
use Rattle.flow_export.specs.ReadBack.{CsvIsReadBack}

row_read : (r : Row) (tail : List ℕ) → next_record default_config st.StartRecord [] [] (csv_record (csv_fields r) ++ tail) ≡ Some (csv_fields r, st.StartRecord, tail)
row_read r tail = read-write-many r.case_name (decimal r.entry)
    (r.activity ∷ kind_word r.is_task ∷ decimal r.leaf ∷ word_of r.lifecycle ∷ r.tale.at ∷ r.tale.by ∷ yes_no r.counts ∷ r.tale.note ∷ []) tail

names_read : (tail : List ℕ) → next_record default_config st.StartRecord [] [] (csv_record csv_names ++ tail) ≡ Some (csv_names, st.StartRecord, tail)
names_read tail = read-write-many (codes "case") (codes "entry")
    (codes "activity" ∷ codes "kind" ∷ codes "leaf" ∷ codes "lifecycle" ∷ codes "timestamp" ∷ codes "resource" ∷ codes "counts" ∷ codes "note" ∷ []) tail

rows_read : (rows : List Row) → Reached default_config st.StartRecord (csv_lines rows) (map csv_fields rows) st.StartRecord []
unfolding Reached
rows_read [] = (refl, refl)
rows_read (r ∷ rows) = ((csv_fields r, st.StartRecord, csv_lines rows), row_read r (csv_lines rows), refl, rows_read rows)

pub all_read : CsvIsReadBack
unfolding Reached next_record
all_read rows = (st.StartRecord, [], ((csv_names, st.StartRecord, csv_lines rows), names_read (csv_lines rows), refl, rows_read rows), refl)
