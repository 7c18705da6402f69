-- What arrows in one lane have of it.
use Rattle.std.specs.Prelude.{◌≡◌, ◌<◌, ◌≤◌, ℕ, List, [], ◌∷◌}
use Rattle.flow_model.specs.Lists.{Each}
use Rattle.flow_view.specs.declared.arrow.Arrow.{Arrow}
use Rattle.flow_view.specs.declared.shape.Shape.{Shape}
use Rattle.flow_svg.specs.declared.courses.Course.{Course}
use Rattle.flow_svg.specs.Courses.{left_end, right_end, courses_of}

-- if both are in one lane, the first ends left of where the other begins
abbrev pub EndsLeftOf : Course → Course → Type 0
EndsLeftOf c later = c.lane ≡ later.lane → right_end c < left_end later

-- so does each of them and each behind it
abbrev pub AreApart : List Course → Type 0
AreApart [] = Unit {0}
AreApart (c ∷ later) = Each (EndsLeftOf c) later × AreApart later

-- whatever the picture is
abbrev pub ArrowsAreApart : Type 0
ArrowsAreApart = (shapes : List Shape) (top : ℕ) (arrows : List Arrow) → AreApart (courses_of shapes top arrows)

-- both of its ends are in what an arrow takes of its lane
pub record TakesItsEnds (c : Course) : Type 0 where
  pub from_start : left_end c ≤ c.start
  pub to_start : c.start ≤ right_end c
  pub from_end : left_end c ≤ c.end
  pub to_end : c.end ≤ right_end c

abbrev pub EachTakesItsEnds : Type 0
EachTakesItsEnds = (c : Course) → TakesItsEnds c
