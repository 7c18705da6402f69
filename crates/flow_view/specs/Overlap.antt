-- Where what is drawn lies, and what of it overlaps.
use Rattle.std.specs.Prelude.{◌<◌, ◌≤◌, ◌⊎◌, ℕ, List, [], ◌∷◌}
use Rattle.flow_model.specs.Lists.{◌∈◌, Each}
use Rattle.flow_view.specs.declared.shape.Place.{Place}
use Rattle.flow_view.specs.declared.shape.Shape.{Shape}
use Rattle.flow_view.specs.declared.shape.Shape.TheVariants.{Leaf, Frame, Bar, Line}

-- one place lies in another, and is not empty
pub record LiesIn (outer inner : Place) : Type 0 where
  pub from_left : outer.left ≤ inner.left
  pub wide : inner.left < inner.right
  pub to_right : inner.right ≤ outer.right
  pub from_top : outer.top ≤ inner.top
  pub high : inner.top < inner.bottom
  pub to_bottom : inner.bottom ≤ outer.bottom

-- a level line lies in the place
pub record LineLiesIn (outer : Place) (left right at : ℕ) : Type 0 where
  pub from_left : outer.left ≤ left
  pub long : left < right
  pub to_right : right ≤ outer.right
  pub from_top : outer.top ≤ at
  pub to_bottom : at ≤ outer.bottom

abbrev pub ShapeLiesIn : Place → Shape → Type 0
ShapeLiesIn outer (Leaf n p) = LiesIn outer p
ShapeLiesIn outer (Frame f p) = LiesIn outer p
ShapeLiesIn outer (Bar sides p) = LiesIn outer p
ShapeLiesIn outer (Line left right at) = LineLiesIn outer left right at

-- one of them ends before the other begins
abbrev pub AreApart : Place → Place → Type 0
AreApart p q = ((p.right < q.left) ⊎ (q.right < p.left)) ⊎ ((p.bottom < q.top) ⊎ (q.bottom < p.top))

-- a shape that is drawn later is apart from the place
abbrev pub IsApartFrom : Place → Shape → Type 0
IsApartFrom p (Leaf n q) = AreApart p q
IsApartFrom p (Frame f q) = AreApart p q
IsApartFrom p (Bar sides q) = AreApart p q
IsApartFrom p (Line left right at) = Unit {0}

-- or it lies in it
abbrev pub IsApartOrIn : Place → Shape → Type 0
IsApartOrIn p (Leaf n q) = AreApart p q ⊎ LiesIn p q
IsApartOrIn p (Frame f q) = AreApart p q ⊎ LiesIn p q
IsApartOrIn p (Bar sides q) = AreApart p q ⊎ LiesIn p q
IsApartOrIn p (Line left right at) = Unit {0}

-- the second, which is drawn later, is apart from the first, or the first is a frame that encloses it
abbrev pub Clears : Shape → Shape → Type 0
Clears (Leaf n p) later = IsApartFrom p later
Clears (Frame f p) later = IsApartOrIn p later
Clears (Bar sides p) later = IsApartFrom p later
Clears (Line left right at) later = Unit {0}

-- boxes, bars and frames overlap only where a frame encloses what is drawn later
abbrev pub DoNotOverlap : List Shape → Type 0
DoNotOverlap [] = Unit {0}
DoNotOverlap (s ∷ later) = Each (Clears s) later × DoNotOverlap later

-- the box of the one leaf ends left of where that of the other begins
abbrev pub EndsLeftOf : List Shape → ℕ → ℕ → Type 0
EndsLeftOf shapes x y = (p q : Place) → Leaf x p ∈ shapes → Leaf y q ∈ shapes → p.right < q.left

-- the whole canvas
abbrev pub canvas_place : ℕ → ℕ → Place
canvas_place width height = record { left = 0; top = 0; right = width; bottom = height }
