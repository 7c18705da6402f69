use Rattle.std.proofs.Common.{◌≡◌, ℕ, Option, Some, None, MatchOption, List, [], ◌∷◌, ◌++◌, length, length-append, map, vec_len, Vec, Global, refl, sym, ap, ◌∙◌, arith}
use Rattle.std.proofs.lemmas.Option.{none-some}
use Rattle.flow_form.specs.declared.form.Form.{Form, Serial}
use Rattle.flow_form.specs.Form.{Shape, serial, shapes, shape_of}
use Rattle.flow_gen.specs.Generated.{in_turn}
use Rattle.flow_form.proofs.Shapes.{shape_of-Serial}
use Rattle.flow_gen.proofs.goals.goal_of.Goals as goal
use Rattle.flow_gen.proofs.goals.goal_of.Goals.{else-len-eq1-via-else-len-eq1, else-len-eq1-via-then-len-eq1+in-None-1}

only_in_turn : (forms rest : List Form) (only : Form) (whole : List Shape) → map shape_of forms ≡ whole → forms ≡ rest ++ only ∷ [] → length forms ≡ 1 →
    shape_of only ≡ in_turn whole
only_in_turn forms [] only whole is popped one = ap (λ (fs : List Form). in_turn (map shape_of fs)) (sym popped) ∙ ap in_turn is
only_in_turn forms (f ∷ rest) only whole is popped one =
    absurd (omega (arith, ap (λ (fs : List Form). length fs) popped, length-append rest (only ∷ []), one))

all_in_turn : (forms : List Form) (whole : List Shape) → map shape_of forms ≡ whole → ¬ (length forms ≡ 1) → serial (shapes (map shape_of forms)) ≡ in_turn whole
all_in_turn [] whole is several = ap in_turn is
all_in_turn (f ∷ []) whole is several = absurd (several refl)
all_in_turn (f ∷ g ∷ forms) whole is several = ap in_turn is

-- of a list of one, `pop` gives that one
not_none : {T : Type 0} (P : Type 0) (Q : T → Type 0) (popped : Option T) (n : ℕ) → MatchOption popped ((n ≡ 0) × P) Q → n ≡ 1 → ¬ (popped ≡ None)
not_none P Q None n h one none = omega (arith, h.0, one)
not_none P Q (Some x) n h one none = none-some x (sym none)

pub returns : goal.returns
returns c =
    only_in_turn c.in_ok-forms.forms.items c.pop.new.self.items c.in-Some.only _ c.in_ok-forms.ensures c.in-Some.ensures.items
    (omega (arith, c.in_ok-forms.forms.ok.0, c.len.ensures, c.if-len-eq1.true))

pub returns-2 : goal.returns-2
returns-2 c = elim c.else-len-eq1.branch [
  | else-len-eq1-via-else-len-eq1 w ↦
      ap (λ (forms : Vec Form Global). shape_of (Serial forms)) w.forms-is ∙ shape_of-Serial _ c.in_ok-forms.forms _ refl refl
      ∙ all_in_turn c.in_ok-forms.forms.items _ c.in_ok-forms.ensures (λ one. w.if-len-eq1.false (omega (arith, one, c.in_ok-forms.forms.ok.0, c.len.ensures)))
  | else-len-eq1-via-then-len-eq1+in-None-1 w ↦
      let none : w.pop.result ≡ None = cc in
      absurd (not_none _ _ w.pop.result (vec_len c.in_ok-forms.forms) w.pop.ensures.cases (sym c.len.ensures ∙ w.if-len-eq1.true) none)
]
