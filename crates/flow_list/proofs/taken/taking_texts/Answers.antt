use Rattle.std.proofs.Common.{inl, ◌∙◌}
use Rattle.flow_list.proofs.taken.taking_texts.Goals as goal

pub returns-in_ok-since-in-Some : goal.returns-in_ok-since-in-Some
returns-in_ok-since-in-Some c =
    let user = c.in_ok-user-in-Some.ensures.ok ∙ c.as_str.ensures.value in
    let since = c.in_ok-since-in-Some.ensures.ok ∙ c.as_str-in-Some.ensures.value in
    inl (c.in-Some.ensures.0, c.in-Some.teller.now, c.in-Some.ensures.1, c.in-Some.ensures.2, user, since)
