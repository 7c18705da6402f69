-- The shapes of forms, by variant.
use Rattle.std.proofs.Common.{◌≡◌, List, map, sym, ap, ◌∙◌, Vec, Box, Global}
use Rattle.flow_facts.specs.Atom.{Atom}
use Rattle.flow_facts.specs.declared.name.Name.{Name}
use Rattle.flow_form.specs.declared.form.Form.{Form, Nop, Test, Absent, Ins, Del, Iso, Serial, Beside, Either}
use Rattle.flow_form.specs.declared.form.Form.TheVariants.{rolls-Nop, rolls-Test, rolls-Absent, rolls-Ins, rolls-Del, rolls-Iso, rolls-Serial, rolls-Beside, rolls-Either}
use Rattle.flow_form.specs.declared.form.Form.TheFolds.{fold-roll-Form}
use Rattle.flow_form.specs.declared.form.Form.TheOpen as open_form
use Rattle.flow_form.specs.Form.{Shape, shapes, nop, test, absent, ins, del, iso, serial, beside, either, shape_step, shape_of}
use Rattle.flow_form.specs.declared.rule_form.RuleForm.{RuleForm, Order, Not}
use Rattle.flow_form.specs.declared.rule_form.RuleForm.TheVariants.{rolls-Order, rolls-Not}
use Rattle.flow_form.specs.declared.rule_form.RuleForm.TheFolds.{fold-roll-RuleForm}
use Rattle.flow_form.specs.declared.rule_form.RuleForm.TheOpen as open_rule
use Rattle.flow_form.specs.RuleForm.{RuleShape, order, negated, rule_step, rule_shape_of}

pub shape_of-Nop : (f : Form) → f ≡ Nop → shape_of f ≡ nop
shape_of-Nop f e = ap shape_of (e ∙ sym rolls-Nop) ∙ fold-roll-Form Shape shape_step open_form.Nop

pub shape_of-Test : (f : Form) (a : Atom) → f ≡ Test a → shape_of f ≡ test a
shape_of-Test f a e = ap shape_of (e ∙ sym (rolls-Test a)) ∙ fold-roll-Form Shape shape_step (open_form.Test a)

pub shape_of-Absent : (f : Form) (a : Atom) → f ≡ Absent a → shape_of f ≡ absent a
shape_of-Absent f a e = ap shape_of (e ∙ sym (rolls-Absent a)) ∙ fold-roll-Form Shape shape_step (open_form.Absent a)

pub shape_of-Ins : (f : Form) (a : Atom) → f ≡ Ins a → shape_of f ≡ ins a
shape_of-Ins f a e = ap shape_of (e ∙ sym (rolls-Ins a)) ∙ fold-roll-Form Shape shape_step (open_form.Ins a)

pub shape_of-Del : (f : Form) (a : Atom) → f ≡ Del a → shape_of f ≡ del a
shape_of-Del f a e = ap shape_of (e ∙ sym (rolls-Del a)) ∙ fold-roll-Form Shape shape_step (open_form.Del a)

pub shape_of-Serial : (f : Form) (forms : Vec Form Global) (xs : List Form) → f ≡ Serial forms → xs ≡ forms.items → shape_of f ≡ serial (shapes (map shape_of xs))
shape_of-Serial f forms xs e g = ap shape_of (e ∙ sym (rolls-Serial forms)) ∙ fold-roll-Form Shape shape_step (open_form.Serial forms) ∙ ap (λ l. serial (shapes (map shape_of l))) (sym g)

pub shape_of-Beside : (f : Form) (forms : Vec Form Global) (xs : List Form) → f ≡ Beside forms → xs ≡ forms.items → shape_of f ≡ beside (shapes (map shape_of xs))
shape_of-Beside f forms xs e g = ap shape_of (e ∙ sym (rolls-Beside forms)) ∙ fold-roll-Form Shape shape_step (open_form.Beside forms) ∙ ap (λ l. beside (shapes (map shape_of l))) (sym g)

pub shape_of-Either : (f : Form) (forms : Vec Form Global) (xs : List Form) → f ≡ Either forms → xs ≡ forms.items → shape_of f ≡ either (shapes (map shape_of xs))
shape_of-Either f forms xs e g = ap shape_of (e ∙ sym (rolls-Either forms)) ∙ fold-roll-Form Shape shape_step (open_form.Either forms) ∙ ap (λ l. either (shapes (map shape_of l))) (sym g)

pub shape_of-Iso : (f : Form) (part : Box Form Global) → f ≡ Iso part → shape_of f ≡ iso (shape_of part.value)
shape_of-Iso f part e = ap shape_of (e ∙ sym (rolls-Iso part)) ∙ fold-roll-Form Shape shape_step (open_form.Iso part)

pub shape_of-Order : (f : RuleForm) (names : Vec Name Global) → f ≡ Order names → rule_shape_of f ≡ order names.items
shape_of-Order f names e = ap rule_shape_of (e ∙ sym (rolls-Order names)) ∙ fold-roll-RuleForm RuleShape rule_step (open_rule.Order names)

pub shape_of-Not : (f : RuleForm) (part : Box RuleForm Global) → f ≡ Not part → rule_shape_of f ≡ negated (rule_shape_of part.value)
shape_of-Not f part e = ap rule_shape_of (e ∙ sym (rolls-Not part)) ∙ fold-roll-RuleForm RuleShape rule_step (open_rule.Not part)
