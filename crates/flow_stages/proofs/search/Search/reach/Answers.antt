use Rattle.std.proofs.Common.{◌≡◌, ◌++◌, ◌∷◌, [], List, inl, refl, sym, subst}
use Rattle.flow_model.specs.Lists.{◌∈◌}
use Rattle.flow_model.proofs.Lists.{mem_here, each-append}
use Rattle.flow_workflow.specs.Definition.{schema_of}
use Rattle.flow_stages.specs.declared.nodes.Node.{Node}
use Rattle.flow_stages.specs.Listed.{IsListed, IsQuiet, AreQuiet, IsReached, AreReached}
use Rattle.flow_stages.proofs.Closure.{told_on}
use Rattle.flow_stages.proofs.search.Search.reach.Goals as goal

pub returns-then-is_known-clause-covered : goal.returns-then-is_known-clause-covered
returns-then-is_known-clause-covered c = λ _ list was.
    let w = schema_of c.args.self.now.workflow.now in
    inl (subst (λ (l : List Node). IsListed w l list) c.deref.ensures.value (c.if-is_known.ensures w list refl was))

pub returns-in_ok-push-in_default : goal.returns-in_ok-push-in_default
returns-in_ok-push-in_default c =
    let w = schema_of c.args.self.now.workflow.now in
    let d = c.args.self.now.staff.policy.now.duties in
    let p = c.args.self.now.plan.now in
    let question = c.args.self.now.question in
    let old = c.args.nodes.now.items in
    let node : Node = c.args.node in
    let items : c.push.new.self.items ≡ old ++ node ∷ [] = c.in_ok-push-in_default.ensures.items in record {
      grows = (node ∷ [], items);
      reached = subst (AreReached w p) (sym items) (each-append (IsReached w p) old (node ∷ []) c.requires.reached (c.requires.new, tt));
      told = told_on w d p question c.look.new.states c.in_ok-look.look (c.in_ok-look.ensures.told c.requires.new) c.in_default.not-Hopeless;
      fewer = c.look.ensures.fewer;
      quiet = λ going before. subst (AreQuiet w d p question) (sym items)
          (each-append (λ (n : Node). IsQuiet w d p question n.stage) old (node ∷ []) before (c.in_ok-look.ensures.quiet going, tt));
      covered = λ going list was. inl (node, subst (λ (l : List Node). node ∈ l) (sym items) (mem_here node old []), was);
    }
