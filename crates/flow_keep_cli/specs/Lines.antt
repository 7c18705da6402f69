-- The lines that only a kept run has.
use Rattle.std.specs.Prelude.{ℕ, List, ◌++◌, codes}
use Rattle.std.specs.Fmt.{decimal}

-- how many entries were kept when the call began
abbrev pub kept_line : ℕ → List ℕ
kept_line count = codes "kept " ++ decimal count ++ codes "\n"

-- the words are no call
abbrev pub words_text : List ℕ
words_text = codes "refused: words\nusage: flowkeep PATH [--steps N]\n"

-- what help is given
abbrev pub help_text : List ℕ
help_text = codes "usage: flowkeep PATH [--steps N]\n\nDrives a workflow by a session, and keeps the run in the file PATH. Standard input has the\nworkflow, a line `%%` and the session. With the file of an earlier call the run goes on.\n\n  --steps N   the greatest number of entries of the history; 65536 where it is not given\n  --help      writes this text\n"

-- the disk failed when the file was chosen, or later
abbrev pub open_line : List ℕ
open_line = codes "refused: open\n"

abbrev pub disk_line : List ℕ
disk_line = codes "refused: disk\n"

-- the record of that number is the first that is of no run of the workflow
abbrev pub foreign_line : ℕ → List ℕ
foreign_line index = codes "refused: foreign " ++ decimal index ++ codes "\n"
