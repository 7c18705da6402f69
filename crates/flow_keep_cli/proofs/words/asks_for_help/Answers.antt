use Rattle.std.proofs.Common.{rules, ◌≡◌, ◌∙◌, codes, Some, sym, ap}
use Rattle.std.proofs.lemmas.Option.{same_Some}
use Rattle.std.specs.String.{string_bytes}
use Rattle.flow_keep_cli.proofs.Calls.{second_is, no_second}
use Rattle.flow_keep_cli.proofs.words.asks_for_help.Goals as goal

pub returns-in-Some : goal.returns-in-Some
returns-in-Some c =
    let lookup = c.in-Some.ensures.lookup in
    let word = c.in-Some.word.now in
    let at = second_is (λ word. string_bytes word) c.args.words.now word lookup.3.0 lookup.1 in (
      (λ yes. at ∙ ap Some (let same : string_bytes word ≡ codes "--help" = search rules in same)),
      (λ is. let same : string_bytes word ≡ codes "--help" = same_Some _ _ (sym at ∙ is) in search rules),
    )

pub returns-in-None : goal.returns-in-None
returns-in-None c =
    let none = no_second (λ word. string_bytes word) c.args.words.now c.in-None.ensures.lookup.3 in
    ((λ yes. cc), (λ is. let never = sym none ∙ is in cc))
