-- A few texts as symbols, and what the machine makes of them.
use Rattle.std.specs.Prelude.{◌≡◌, List, [], ◌∷◌, ◌++◌, replicate}
use Rattle.flow_form.specs.declared.refusal.Wanted.TheVariants as want
use Rattle.flow_model.specs.declared.labels.Note.TheVariants.{Done, FailFirst}
use Rattle.flow_form.specs.Form.{named}
use Rattle.flow_form.specs.RuleForm.{must, never, negated, all, any, followed, no_more}
use Rattle.flow_form.specs.Script.{Said, event}
use Rattle.flow_grammar.specs.Symbol.{Symbol, event_word, goal_word, constraint_word, holds_word, redundant_word, must_word, never_word, order_word, not_word, and_word, or_word, iso_word, fail_word, star, a_name, a_number, opening, closing, comma, semicolon}
use Rattle.flow_grammar.specs.Machine.{gives, expected, too_deep, read_script, read_query}
use Rattle.flow_grammar.specs.Print.{print_script}

abbrev pub a : Symbol
a = a_name (97 ∷ [])

abbrev pub b : Symbol
b = a_name (98 ∷ [])

-- event a fail 2, b; goal ((a)); constraint not (must a or never b) and (must b);
abbrev pub crowded : List Symbol
crowded =
    event_word ∷ a ∷ fail_word ∷ a_number 2 ∷ comma ∷ b ∷ semicolon ∷
    goal_word ∷ opening ∷ opening ∷ a ∷ closing ∷ closing ∷ semicolon ∷
    constraint_word ∷ not_word ∷ opening ∷ must_word ∷ a ∷ or_word ∷ never_word ∷ b ∷ closing ∷ and_word ∷ opening ∷ must_word ∷ b ∷ closing ∷ semicolon ∷ []

-- event a fail 2; event b; goal a; constraint not (must a or never b) and must b;
abbrev pub printed : List Symbol
printed =
    event_word ∷ a ∷ fail_word ∷ a_number 2 ∷ semicolon ∷ event_word ∷ b ∷ semicolon ∷
    goal_word ∷ a ∷ semicolon ∷
    constraint_word ∷ not_word ∷ opening ∷ must_word ∷ a ∷ or_word ∷ never_word ∷ b ∷ closing ∷ and_word ∷ must_word ∷ b ∷ semicolon ∷ []

abbrev pub said_there : Said
said_there = record {
  decls = event (97 ∷ []) (FailFirst 2) ∷ event (98 ∷ []) Done ∷ [];
  goal = named (97 ∷ []);
  rules = all (followed (negated (any (followed (must (97 ∷ [])) (followed (never (98 ∷ [])) no_more)))) (followed (must (98 ∷ [])) no_more)) ∷ [];
}

abbrev pub CrowdedIsRead : Type 0
CrowdedIsRead = read_script crowded ≡ gives said_there

abbrev pub ItIsPrinted : Type 0
ItIsPrinted = print_script said_there ≡ printed

-- nothing at all
abbrev pub NothingThere : Type 0
NothingThere = read_script [] ≡ expected want.Declaration 0

-- event a, b; goal a * (b
abbrev pub OpenParenthesis : Type 0
OpenParenthesis =
    read_script (event_word ∷ a ∷ comma ∷ b ∷ semicolon ∷ goal_word ∷ a ∷ star ∷ opening ∷ b ∷ []) ≡ expected want.Closing 10

-- event a 1;
abbrev pub NumberAfterEvent : Type 0
NumberAfterEvent = read_script (event_word ∷ a ∷ a_number 1 ∷ semicolon ∷ []) ≡ expected want.Semicolon 2

-- goal a * ;
abbrev pub NothingAfterStar : Type 0
NothingAfterStar = read_script (goal_word ∷ a ∷ star ∷ semicolon ∷ []) ≡ expected want.Atom 3

-- goal a; constraint order a;
abbrev pub OrderOfOne : Type 0
OrderOfOne = read_script (goal_word ∷ a ∷ semicolon ∷ constraint_word ∷ order_word ∷ a ∷ semicolon ∷ []) ≡ expected want.Name 6

-- goal, and 201 open parentheses
abbrev pub TooManyParentheses : Type 0
TooManyParentheses = read_script (goal_word ∷ replicate 201 opening) ≡ too_deep 201

-- goal, 200 open parentheses, iso: its parenthesis is too deep, and nothing else may come
abbrev pub IsoTooDeep : Type 0
IsoTooDeep = read_script (goal_word ∷ replicate 200 opening ++ iso_word ∷ opening ∷ []) ≡ too_deep 202

abbrev pub IsoWithNothing : Type 0
IsoWithNothing = read_script (goal_word ∷ replicate 200 opening ++ iso_word ∷ semicolon ∷ []) ≡ expected want.Opening 202

-- a parenthesis that is too deep, where none may come
abbrev pub NoParenthesis : Type 0
NoParenthesis = read_script (goal_word ∷ replicate 200 opening ++ a ∷ opening ∷ []) ≡ expected want.Closing 202

-- holds, and 200 nots; holds, and 201
abbrev pub ManyNots : Type 0
ManyNots = read_query (holds_word ∷ replicate 200 not_word) ≡ expected want.Rule 201

abbrev pub TooManyNots : Type 0
TooManyNots = read_query (holds_word ∷ replicate 201 not_word) ≡ too_deep 201

-- holds must a
abbrev pub UnfinishedQuery : Type 0
UnfinishedQuery = read_query (holds_word ∷ must_word ∷ a ∷ []) ≡ expected want.Semicolon 3

-- redundant 3; 4
abbrev pub MoreAfterQuery : Type 0
MoreAfterQuery = read_query (redundant_word ∷ a_number 3 ∷ semicolon ∷ a_number 4 ∷ []) ≡ expected want.End 3
