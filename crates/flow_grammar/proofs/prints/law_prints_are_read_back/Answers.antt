use Rattle.flow_grammar.proofs.PrintedTexts.{print_says_it, print_is_no_deeper, print_is_read_back}
use Rattle.flow_grammar.proofs.prints.law_prints_are_read_back.Goals as goal

pub returns : goal.returns
returns c = record { says_it = print_says_it; no_deeper = print_is_no_deeper; read_back = print_is_read_back }
