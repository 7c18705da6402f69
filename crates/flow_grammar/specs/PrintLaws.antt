-- What is printed is read back.
use Rattle.std.specs.Prelude.{◌≡◌, List}
use Rattle.flow_form.specs.Script.{Said}
use Rattle.flow_grammar.specs.Symbol.{Symbol}
use Rattle.flow_grammar.specs.Machine.{gives, read_script}
use Rattle.flow_grammar.specs.Texts.{SpellsScript, Derives}
use Rattle.flow_grammar.specs.Made.{IsWellMade}
use Rattle.flow_grammar.specs.Print.{print_script, IsWithin}

-- the print of what is well made, and not too deep, says it
abbrev pub PrintSaysIt : Type 0
PrintSaysIt = (s : Said) → IsWellMade s → IsWithin s → Derives SpellsScript (print_script s) s

-- what a text says is printed no deeper than the text
abbrev pub PrintIsNoDeeper : Type 0
PrintIsNoDeeper = (ts : List Symbol) (s : Said) → Derives SpellsScript ts s → IsWithin s

-- so what was read, printed, is read back
abbrev pub PrintIsReadBack : Type 0
PrintIsReadBack = (ts : List Symbol) (s : Said) → read_script ts ≡ gives s → read_script (print_script s) ≡ gives s
