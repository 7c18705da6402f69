use Rattle.std.proofs.Common.{◌+◌, ◌<◌, ◌^◌, length, sym, subst}
use Rattle.flow_workflow.specs.Numbered.{AreNumbered, IsAdded}
use Rattle.flow_workflow.proofs.NumberedLemmas.{key_added, key_numbered}
use Rattle.flow_workflow.proofs.numbered.Numbered.put.Goals as goal

pub returns-clause-keys : goal.returns-clause-keys
returns-clause-keys g c =
    subst (IsAdded c.args.self.now c.args.key) (sym c.in_ok-place.ensures.keys)
    (key_added g.K.PartialEq.eq g.met.K.Eq.laws.refl g.met.K.Key.same c.self.inside.places.keys c.args.self.now c.args.key c.self.view_is)

pub invariant_of-self-2 : goal.invariant_of-self-2
invariant_of-self-2 g c =
    subst AreNumbered (sym c.in_ok-place.ensures.keys)
    (key_numbered g.K.PartialEq.eq g.met.K.Eq.laws.refl g.met.K.Key.same c.self.inside.places.keys c.args.key c.self.invariant
    (subst (λ keys. length keys + 1 < 2 ^ 32) (sym c.self.view_is) c.requires))

pub returns-clause-distinct : goal.returns-clause-distinct
returns-clause-distinct g c = (invariant_of-self-2 g c).distinct
