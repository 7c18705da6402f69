use Rattle.std.proofs.Common.{◌≡◌, true, false, ap, sym, ◌∙◌, subst}
use Rattle.flow_trail.specs.Lines.{said_of, CanFollow, line_text}
use Rattle.flow_trail.proofs.GuessLemmas.{guess_is}
use Rattle.flow_trail.proofs.read.confirm.Goals as goal

pub returns-then-not-allows : goal.returns-then-not-allows
returns-then-not-allows c = λ said sayable follows spells.
    let same = guess_is c.args.end c.args.text.now said sayable follows spells c.args.line c.requires in
    let can : CanFollow c.args.end (said_of c.args.line) = subst (CanFollow c.args.end) (sym same) follows in
    let yes : c.allows.result ≡ true = c.allows.ensures.1 can in
    let no : false ≡ true = sym c.if-not-allows.true ∙ yes in cc

pub returns : goal.returns
returns c = λ said sayable follows spells.
    let same = guess_is c.args.end c.args.text.now said sayable follows spells c.args.line c.requires in
    let text = c.deref.ensures.value ∙ c.in_ok-printed.ensures.text ∙ ap (line_text c.args.end) same ∙ sym spells in
    let yes : c.is_same.result ≡ true = c.is_same.ensures.1 text in
    let no : false ≡ true = sym c.if-is_same.false ∙ yes in cc
