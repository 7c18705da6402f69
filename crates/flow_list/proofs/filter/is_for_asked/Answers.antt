use Rattle.std.proofs.Common.{◌↔◌, ℕ, String, Global, List, Option, IsTrue, sym, subst}
use Rattle.flow_list.specs.Filter.{IsFor, IsForAny}
use Rattle.flow_list.proofs.filter.is_for_asked.Goals as goal

pub returns-in-Some : goal.returns-in-Some
returns-in-Some c =
    subst (λ (user : Option (String Global)). IsTrue c.is_for.result ↔ IsForAny c.args.texts.now.users user c.args.line.now) (sym c.in-Some.is)
    (subst (λ (name : List ℕ). IsTrue c.is_for.result ↔ IsFor c.args.texts.now.users name c.args.line.now) c.as_str.ensures.value c.is_for.ensures)
