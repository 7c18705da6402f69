-- Who made the entries that the lines of a trail tell.
use Rattle.std.specs.Prelude.{Bool, if◌then◌else◌, List, [], ◌∷◌}
use Rattle.flow_trail.specs.Lines.{Said, told}
use Rattle.flow_trail.specs.Due.{begins_void}
use Rattle.flow_export.specs.declared.log_row.Teller.{Teller}
use Rattle.flow_export.specs.Rows.{Tale}
use Rattle.flow_export.specs.Rows as rows

-- who made an entry, when, and what is noted
abbrev pub tale_in : Teller → Tale
tale_in = rows.told

-- of a line, in front of those of the lines behind it
abbrev pub made_by : Said → Bool → List Tale → List Tale
made_by (told at by entry task note) voided more = if voided then more else record { at = at; by = by; note = note } ∷ more
made_by other voided more = more

-- of all lines, in order: a line in front of a void one tells no entry
abbrev pub makers : List Said → List Tale
makers [] = []
makers (said ∷ more) = made_by said (begins_void more) (makers more)
