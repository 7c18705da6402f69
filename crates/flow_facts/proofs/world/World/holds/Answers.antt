use Rattle.std.proofs.Common.{◌≡◌, ◌∙◌, ℕ, Bool, true, false, not, refl, sym, subst}
use Rattle.std.specs.Prelude.{◌↔◌, IsTrue}
use Rattle.flow_model.specs.declared.labels.Label.{Label}
use Rattle.flow_model.specs.declared.labels.Label.TheVariants.{Test, Absent}
use Rattle.flow_model.specs.Facts.{State, Holds}
use Rattle.flow_facts.specs.Course.{state_of_world}
use Rattle.flow_facts.proofs.world.World.holds.Goals as goal

is_not : (b v : Bool) → b ≡ v → IsTrue (not b) ↔ (v ≡ false)
is_not true v e = ((λ h. let f : false ≡ true = h in absurd (cc)), (λ h. let f : true ≡ false = e ∙ h in absurd (cc)))
is_not false v e = ((λ h. sym e), (λ h. refl))

absent_holds : (s : State) (label : Label) (fact : ℕ) (b : Bool) → label ≡ Absent fact → b ≡ s fact → IsTrue (not b) ↔ Holds s label
absent_holds s label fact b is same = subst (λ (l : Label). IsTrue (not b) ↔ Holds s l) (sym is) (is_not b (s fact) same)

test_holds : (s : State) (label : Label) (fact : ℕ) (b : Bool) → label ≡ Test fact → b ≡ s fact → IsTrue b ↔ Holds s label
test_holds s label fact b is same = subst (λ (l : Label). IsTrue b ↔ Holds s l) (sym is) ((λ h. sym same ∙ h), (λ h. same ∙ h))

pub returns-in-Absent : goal.returns-in-Absent
returns-in-Absent c = absent_holds (state_of_world c.args.self.now) c.args.label c.in-Absent.fact c.has-in-Absent.result c.in-Absent.is c.has-in-Absent.ensures.now

pub returns-in-Test : goal.returns-in-Test
returns-in-Test c = test_holds (state_of_world c.args.self.now) c.args.label c.in-Test.fact c.has.result c.in-Test.is c.has.ensures.now
