-- How the program is called, in words.
use Rattle.std.specs.Prelude.{List, [], ◌∷◌, ◌++◌, codes}
use Rattle.std.specs.List.{flat_map}
use Rattle.clap.specs.Words.{Rule, Text}
use Rattle.flow_words.specs.Command.{number_rules}
use Rattle.flow_words.specs.Words.{mode_word}
use Rattle.flow_words.specs.declared.request.Mode.{Mode}
use Rattle.flow_words.specs.declared.request.Mode.TheVariants.{Drive, Run, Check, Verify, Trace, Gen, Large, Duty, Audit}

abbrev pub modes : List Mode
modes = Drive ∷ Run ∷ Check ∷ Verify ∷ Trace ∷ Gen ∷ Large ∷ Duty ∷ Audit ∷ []

abbrev pub mode_text : Mode → Text
mode_text mode = codes " " ++ mode_word mode

-- an option of that name
abbrev pub option_text : Text → Text
option_text name = codes " [--" ++ name ++ codes " N]"

-- a line with the options that the command knows, and one with the modes
abbrev pub usage_text : Text
usage_text =
    codes "usage: flow MODE" ++ flat_map (λ (rule : Rule). option_text rule.id) number_rules
    ++ codes "\nmodes:" ++ flat_map mode_text modes ++ codes "\n"
