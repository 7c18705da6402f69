-- A word that is not read as a name is reserved.
use Rattle.std.proofs.Common.{◌≡◌, ℕ, ◌-◌, false, List, length, take, drop, refl, ap, ◌∙◌, arith, Bor}
use Rattle.std.specs.Prelude.{Option, Some, None, not, is_some}
use Rattle.std.proofs.lemmas.List.{take_all}
use Rattle.flow_grammar.specs.Symbol as grammar
use Rattle.flow_grammar.specs.Symbol.{a_name}
use Rattle.flow_reader.specs.Symbols.{meant, reserved, word_symbol}
use Rattle.flow_reader.specs.declared.symbol.Symbol as read
use Rattle.flow_reader.specs.declared.symbol.Symbol.TheVariants as code

not_named : (s : read.Symbol) (w : List ℕ) → meant s ≡ a_name w → ((n : Bor (List ℕ)) → s ≡ code.Name n → ⊥) → ⊥
not_named (code.Name n) w e other = other n refl
not_named _ w e other = absurd (cc)

-- the symbol of a word, by what is reserved
symbol_from : Option grammar.Symbol → List ℕ → grammar.Symbol
symbol_from (Some s) w = s
symbol_from None w = a_name w

by_reserved : (o : Option grammar.Symbol) (w : List ℕ) (s : read.Symbol) → meant s ≡ symbol_from o w → ((n : Bor (List ℕ)) → s ≡ code.Name n → ⊥) → false ≡ not (is_some o)
unfolding symbol_from
by_reserved (Some t) w s is other = refl
by_reserved None w s is other = absurd (not_named s w is other)

symbols_same : (o : Option grammar.Symbol) (w : List ℕ) → reserved w ≡ o → word_symbol w ≡ symbol_from o w
unfolding symbol_from
symbols_same (Some t) w e = rw e refl
symbols_same None w e = rw e refl

whole : (w : List ℕ) → take (length w - 0) (drop 0 w) ≡ w
whole w = take_all (length w - 0) w (omega arith)

pub not_free : (w : List ℕ) (s : read.Symbol) → meant s ≡ word_symbol (take (length w - 0) (drop 0 w)) → ((n : Bor (List ℕ)) → s ≡ code.Name n → ⊥) → false ≡ not (is_some (reserved w))
not_free w s is other = by_reserved (reserved w) w s (is ∙ ap word_symbol (whole w) ∙ symbols_same (reserved w) w refl) other
