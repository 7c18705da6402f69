-- Tokens as symbols of the grammar.
use Rattle.std.specs.Prelude.{ℕ, Bool, if◌then◌else◌, nat_eq, List, map, slice_index_or, Option, Some, None, codes}
use Rattle.std.specs.Cmp.Lexicographic.{pointwise}
use Rattle.flow_lex.specs.declared.token.Token.{Token}
use Rattle.flow_lex.specs.declared.token.TokenKind.{TokenKind}
use Rattle.flow_lex.specs.declared.token.TokenKind.TheVariants.{Word, Number, Mark}
use Rattle.flow_lex.specs.Bytes.{number_value}
use Rattle.flow_lex.specs.Tokens.{bytes_of}
use Rattle.flow_grammar.specs.Symbol as grammar
use Rattle.flow_grammar.specs.Symbol.{fact_word, event_word, flow_word, goal_word, constraint_word, nop_word, iso_word, ins_word, del_word, must_word, never_word, order_word, precedes_word, needs_word, not_word, and_word, or_word, done_word, fail_word, holds_word, redundant_word, a_name, a_number, star, bar, plus, opening, closing, comma, semicolon, equals, question, exclamation}
use Rattle.flow_reader.specs.declared.symbol.Symbol as read
use Rattle.flow_reader.specs.declared.symbol.Symbol.TheVariants as code

-- a symbol of the code as one of the grammar
abbrev pub meant : read.Symbol → grammar.Symbol
meant code.Fact = fact_word
meant code.Event = event_word
meant code.Flow = flow_word
meant code.Goal = goal_word
meant code.Constraint = constraint_word
meant code.Nop = nop_word
meant code.Iso = iso_word
meant code.Ins = ins_word
meant code.Del = del_word
meant code.Must = must_word
meant code.Never = never_word
meant code.Order = order_word
meant code.Precedes = precedes_word
meant code.Needs = needs_word
meant code.Not = not_word
meant code.And = and_word
meant code.Or = or_word
meant code.Done = done_word
meant code.Fail = fail_word
meant code.Holds = holds_word
meant code.Redundant = redundant_word
meant (code.Name n) = a_name n.now
meant (code.Number n) = a_number n
meant code.Star = star
meant code.Bar = bar
meant code.Plus = plus
meant code.Opening = opening
meant code.Closing = closing
meant code.Comma = comma
meant code.Semicolon = semicolon
meant code.Equals = equals
meant code.Question = question
meant code.Exclamation = exclamation

-- the word is spelled so
abbrev pub is : List ℕ → List ℕ → Bool
is word text = pointwise nat_eq word text

-- reserved words of declarations
abbrev pub word_of_declarations : List ℕ → Option grammar.Symbol
word_of_declarations w =
    if is w (codes "event") then Some event_word
    else (if is w (codes "fact") then Some fact_word
    else (if is w (codes "flow") then Some flow_word
    else (if is w (codes "goal") then Some goal_word
    else (if is w (codes "constraint") then Some constraint_word
    else (if is w (codes "done") then Some done_word
    else (if is w (codes "fail") then Some fail_word
    else None))))))

-- reserved words of goals and queries
abbrev pub word_of_goals : List ℕ → Option grammar.Symbol
word_of_goals w =
    if is w (codes "nop") then Some nop_word
    else (if is w (codes "iso") then Some iso_word
    else (if is w (codes "ins") then Some ins_word
    else (if is w (codes "del") then Some del_word
    else (if is w (codes "holds") then Some holds_word
    else (if is w (codes "redundant") then Some redundant_word
    else None)))))

-- reserved words of constraints
abbrev pub word_of_constraints : List ℕ → Option grammar.Symbol
word_of_constraints w =
    if is w (codes "must") then Some must_word
    else (if is w (codes "never") then Some never_word
    else (if is w (codes "order") then Some order_word
    else (if is w (codes "precedes") then Some precedes_word
    else (if is w (codes "needs") then Some needs_word
    else (if is w (codes "not") then Some not_word
    else (if is w (codes "and") then Some and_word
    else (if is w (codes "or") then Some or_word
    else None)))))))

abbrev pub or_else : {A : Type 0} → Option A → Option A → Option A
or_else (Some x) other = Some x
or_else None other = other

abbrev pub reserved : List ℕ → Option grammar.Symbol
reserved w = or_else (word_of_declarations w) (or_else (word_of_goals w) (word_of_constraints w))

-- a word is reserved, or a name
abbrev pub word_symbol : List ℕ → grammar.Symbol
word_symbol w = from (reserved w)
  where
    from : Option grammar.Symbol → grammar.Symbol
    from (Some s) = s
    from None = a_name w

-- a mark; of other bytes no mark is made
abbrev pub mark_symbol : ℕ → grammar.Symbol
mark_symbol b =
    if nat_eq b 42 then star
    else (if nat_eq b 124 then bar
    else (if nat_eq b 43 then plus
    else (if nat_eq b 40 then opening
    else (if nat_eq b 41 then closing
    else (if nat_eq b 44 then comma
    else (if nat_eq b 59 then semicolon
    else (if nat_eq b 61 then equals
    else (if nat_eq b 63 then question
    else exclamation))))))))

-- a token as its symbol
abbrev pub symbol_of : List ℕ → Token → grammar.Symbol
symbol_of text token = from token.kind
  where
    from : TokenKind → grammar.Symbol
    from Word = word_symbol (bytes_of text token)
    from Number = a_number (number_value (bytes_of text token))
    from Mark = mark_symbol (slice_index_or text token.start 0)

abbrev pub symbols_of : List ℕ → List Token → List grammar.Symbol
symbols_of text tokens = map (symbol_of text) tokens
