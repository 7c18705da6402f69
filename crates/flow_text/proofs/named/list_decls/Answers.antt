use Rattle.std.proofs.Common.{refl, map, flat_map}
use Rattle.flow_form.specs.Script.{declared}
use Rattle.flow_grammar.specs.Roles.{declared_roles}
use Rattle.flow_text.specs.Named.{roles_of}
use Rattle.flow_text.proofs.Pushed.{goes_on, all_put}
use Rattle.flow_text.proofs.named.list_decls.Goals as goal

pub loop-decl-preserved : goal.loop-decl-preserved
loop-decl-preserved c =
    goes_on (λ ds. flat_map declared_roles (map declared ds)) _ c.loop-decl.decl-index c.decl-item.result (roles_of c.loop-decl.list.items) (roles_of c.list_decl.new.list.items) (declared_roles (declared c.decl-item.result)) _
    c.loop-decl-test.true c.decl-item.is (λ ds. refl) c.in_ok-list_decl.ensures c.loop-decl.invariant

pub returns : goal.returns
returns c = all_put (λ ds. flat_map declared_roles (map declared ds)) _ c.loop-decl.decl-index _ (roles_of c.loop-decl.list.items) refl c.loop-decl-test.false c.loop-decl.invariant
