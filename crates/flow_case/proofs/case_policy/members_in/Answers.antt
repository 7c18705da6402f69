use Rattle.std.proofs.Common.{◌≡◌, [], map, sym, ap, ◌∙◌}
use Rattle.std.proofs.lemmas.Result.{IfOk-weaker}
use Rattle.std.specs.List.{flat_map}
use Rattle.flow_reader.specs.Symbols.{symbols_of}
use Rattle.flow_policy.specs.Policy.{memberships}
use Rattle.flow_case.specs.declared.members.Reading.TheVariants.{Begins}
use Rattle.flow_case.specs.Members.{said, members_from}
use Rattle.flow_case.proofs.MemberLemmas.{with_list, members_said}
use Rattle.flow_case.proofs.case_policy.members_in.Goals as goal

pub returns : goal.returns
returns c = λ statements says.
    let text = c.args.text.now in
    let tokens = c.deref.result.now in
    IfOk-weaker c.members_of.result (λ members. map said members.items ≡ members_from Begins [] (symbols_of text tokens)) (λ members. map said members.items ≡ flat_map memberships statements)
    (λ members is. members_said text tokens statements (map said members.items) (c.in-Ok.ensures.tokens ∙ ap with_list (sym c.deref.ensures.value)) is says) c.members_of.ensures
