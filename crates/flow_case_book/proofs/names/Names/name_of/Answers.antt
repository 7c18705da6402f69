use Rattle.std.proofs.Common.{◌≡◌, ◌-◌, ◌≤◌, Some, length, map, sym, ap, subst, ◌∙◌}
use Rattle.std.proofs.lemmas.List.{length-map}
use Rattle.std.specs.Prelude.{slice_get}
use Rattle.std.specs.String.{string_bytes}
use Rattle.flow_case_book.specs.People.{names_in}
use Rattle.flow_case_book.proofs.PeopleLemmas.{stands_at, named, unnamed}
use Rattle.flow_case_book.proofs.names.Names.name_of.Goals as goal

pub returns-in-Some : goal.returns-in-Some
returns-in-Some c =
    let n = c.args.number in
    let found = c.in-Some.ensures.lookup in
    let here = stands_at string_bytes c.deref.result.now (n - 1) c.in-Some.name.now (string_bytes c.in-Some.name.now) found.3.0 (ap string_bytes (sym found.1)) in
    c.as_str.ensures.value
    ∙ named (names_in c.args.self.now) n (string_bytes c.in-Some.name.now) c.if-number-eq0.false
    (subst (λ l. slice_get (map string_bytes l) (n - 1) ≡ Some (string_bytes c.in-Some.name.now)) c.deref.ensures.value here)

pub returns-in-None : goal.returns-in-None
returns-in-None c =
    let n = c.args.number in
    let past : length c.args.self.now.names.items ≤ n - 1 = subst (λ l. length l ≤ n - 1) c.deref.ensures.value c.in-None.ensures.lookup.3 in
    unnamed (names_in c.args.self.now) n c.if-number-eq0.false (subst (λ k. k ≤ n - 1) (sym (length-map c.args.self.now.names.items string_bytes)) past)
