-- What is read of a log.
use Rattle.std.specs.Prelude.{List, ◌∷◌, map}
use Rattle.csv.specs.Reading.{AreRecords, default_config}
use Rattle.csv.specs.declared.parser.State.TheVariants as st
use Rattle.flow_export.specs.Rows.{Row, csv_names, csv_fields, csv_text}

-- the records of the text are the names of the columns and the fields of each row, in order
abbrev pub CsvIsReadBack : Type 0
CsvIsReadBack = (rows : List Row) → AreRecords default_config st.StartRecord (csv_text rows) (csv_names ∷ map csv_fields rows)
