use Rattle.std.proofs.Common.{[], ◌∷◌, refl}
use Rattle.flow_grammar.specs.Roles.{constant_roles}
use Rattle.flow_text.specs.Named.{roles_of}
use Rattle.flow_text.proofs.NamedLemmas.{constants_join}
use Rattle.flow_text.proofs.Pushed.{goes_on, all_put}
use Rattle.flow_text.proofs.named.list_constants.Goals as goal

pub loop-constant-preserved : goal.loop-constant-preserved
loop-constant-preserved c =
    goes_on constant_roles _ c.loop-constant.constant-index c.constant-item.result (roles_of c.loop-constant.list.items) (roles_of c.list_constant.new.list.items) (constant_roles (c.constant-item.result ∷ [])) _
    c.loop-constant-test.true c.constant-item.is (constants_join c.constant-item.result) c.in_ok-list_constant.ensures c.loop-constant.invariant

pub returns : goal.returns
returns c = all_put constant_roles _ c.loop-constant.constant-index _ (roles_of c.loop-constant.list.items) refl c.loop-constant-test.false c.loop-constant.invariant
