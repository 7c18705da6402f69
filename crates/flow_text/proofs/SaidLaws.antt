-- A text says one thing, and what can be printed is said by its print.
use Rattle.std.proofs.Common.{◌≡◌, sym, ap, subst, ◌∙◌}
use Rattle.std.specs.Prelude.{None}
use Rattle.flow_lex.specs.Tokens.{Lexed, lexed}
use Rattle.flow_grammar.specs.Texts.{Derives, SpellsScript}
use Rattle.flow_grammar.proofs.Reading.{scripts_are_read}
use Rattle.flow_grammar.proofs.PrintedTexts.{print_says_it, print_is_no_deeper}
use Rattle.flow_grammar.proofs.MadeTexts.{scripts_are_well_made}
use Rattle.flow_reader.specs.Symbols.{symbols_of}
use Rattle.flow_text.specs.Printed.{printed}
use Rattle.flow_text.proofs.PrintedTexts.{prints_ascii, prints_cut, prints_symbols}
use Rattle.flow_text.proofs.SaidPrintable.{said_is_printable}
use Rattle.flow_text.specs.Laws.{TextsSayOneThing, PrintsSayIt, PrintsAreReadBack}

pub texts_say_one_thing : TextsSayOneThing
texts_say_one_thing text a b one two =
    let same : one.writes.tokens ≡ two.writes.tokens
    = ap (λ (l : Lexed). l.tokens) (sym one.writes.has_tokens.lexed ∙ two.writes.has_tokens.lexed) in
    let (w, e, shallow, spells) = one.writes.derives in
    let (v, e', shallow', spells') = two.writes.derives in
    scripts_are_read.says_one_thing w v a b (e ∙ ap (symbols_of text) same ∙ sym e') spells spells'

whole : (l : Lexed) → l.bad ≡ None → l ≡ record { tokens = l.tokens; bad = None }
whole l e = ap (λ bad. record { tokens = l.tokens; bad = bad }) e

pub prints_say_it : PrintsSayIt
prints_say_it s printable made within names = record {
  writes = record {
    tokens = (lexed (printed s)).tokens;
    has_tokens = record { ascii = prints_ascii s printable; lexed = whole (lexed (printed s)) (prints_cut s printable) };
    derives = subst (λ ts. Derives SpellsScript ts s) (sym (prints_symbols s printable)) (print_says_it s made within);
  };
  named = names;
}

pub prints_are_read_back : PrintsAreReadBack
prints_are_read_back text s h =
    let (w, e, shallow, spells) = h.writes.derives in
    prints_say_it s (said_is_printable text h.writes.tokens s h.writes.has_tokens.lexed h.writes.derives) (scripts_are_well_made w s spells).0
    (print_is_no_deeper (symbols_of text h.writes.tokens) s h.writes.derives) h.named
