-- A goal as it is written, without pointers.
use Rattle.std.specs.Prelude.{ℕ, List, [], ◌∷◌, ◌≤◌, length}
use Rattle.flow_facts.specs.Atom.{Atom}
use Rattle.flow_form.specs.declared.form.Form.{Form}
use Rattle.flow_form.specs.declared.form.Form.TheOpen as open_form
use Rattle.flow_form.specs.declared.form.Form.TheOpen.{Form-F}
use Rattle.flow_form.specs.declared.form.Form.TheFolds.{fold-Form}

mutual
  pub data Shape : Type 0 where
    nop : Shape
    -- an event or a sub-workflow
    named : List ℕ → Shape
    test : Atom → Shape
    absent : Atom → Shape
    ins : Atom → Shape
    del : Atom → Shape
    iso : Shape → Shape
    serial : Shapes → Shape
    beside : Shapes → Shape
    either : Shapes → Shape

  -- a list of shapes
  pub data Shapes : Type 0 where
    no_more : Shapes
    followed : Shape → Shapes → Shapes

abbrev pub shapes : List Shape → Shapes
shapes [] = no_more
shapes (s ∷ ss) = followed s (shapes ss)

abbrev pub members : Shapes → List Shape
members no_more = []
members (followed s ss) = s ∷ members ss

-- one form, with the shape of each inner form in its place
abbrev pub shape_step : Form-F Shape → Shape
shape_step open_form.Nop = nop
shape_step (open_form.Name n) = named n
shape_step (open_form.Test a) = test a
shape_step (open_form.Absent a) = absent a
shape_step (open_form.Ins a) = ins a
shape_step (open_form.Del a) = del a
shape_step (open_form.Iso f) = iso f.value
shape_step (open_form.Serial fs) = serial (shapes fs.items)
shape_step (open_form.Beside fs) = beside (shapes fs.items)
shape_step (open_form.Either fs) = either (shapes fs.items)

abbrev pub shape_of : Form → Shape
shape_of = fold-Form Shape shape_step

-- each list in it has two or more members
abbrev mutual
  pub IsGrouped : Shape → Type 0
  IsGrouped (iso s) = IsGrouped s
  IsGrouped (serial ss) = (2 ≤ length (members ss)) × AreGrouped ss
  IsGrouped (beside ss) = (2 ≤ length (members ss)) × AreGrouped ss
  IsGrouped (either ss) = (2 ≤ length (members ss)) × AreGrouped ss
  IsGrouped _ = Unit {0}

  pub AreGrouped : Shapes → Type 0
  AreGrouped no_more = Unit {0}
  AreGrouped (followed s ss) = IsGrouped s × AreGrouped ss
