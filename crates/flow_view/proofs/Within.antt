-- What is drawn of a part lies in its own place.
use Rattle.std.proofs.Common.{◌≡◌, ◌+◌, ◌-◌, ◌*◌, ◌≤◌, ◌<◌, ℕ, Bool, true, false, cond, nat_lt, List, [], ◌∷◌, ◌++◌, arith, max, refl, subst}
use Rattle.std.proofs.lemmas.Bool.{ltb-true}
use Rattle.flow_model.specs.Lists.{Each}
use Rattle.flow_model.proofs.Lists.{each-append, each_to}
use Rattle.flow_view.specs.declared.scene.Fork.{Fork}
use Rattle.flow_view.specs.declared.scene.Sides.{Sides}
use Rattle.flow_view.specs.declared.shape.Place.{Place}
use Rattle.flow_view.specs.declared.shape.Shape.{Shape}
use Rattle.flow_view.specs.declared.shape.Shape.TheVariants.{Leaf, Frame, Bar, Line}
use Rattle.flow_view.specs.declared.span.Span.{Span}
use Rattle.flow_view.specs.declared.size.TheConstants.{BAR, FORK, SPLIT}
use Rattle.flow_view.specs.Overlap.{LiesIn, LineLiesIn, ShapeLiesIn, canvas_place}
use Rattle.flow_view.specs.Shapes.{line, led, start, place, shapes_in, left_span, right_span, between_bars, upper, lower, in_frame, bar, canvas, shapes_of}
use Rattle.flow_view.specs.Sizes.{width, half, canvas_width, canvas_height}
use Rattle.flow_view.specs.Sketch.{Sketch, gap, box, row, forked, framed}
use Rattle.flow_view.proofs.Rooms.{Room, RoomForSides, room_left, room_right, room_above, room_below, room_between, room_bare, room_framed, room_on_canvas}

-- boxes lie in the inner place, and lines in the outer one
abbrev pub Held : Place → Place → Shape → Type 0
Held outer inner (Leaf n p) = LiesIn inner p
Held outer inner (Frame f p) = LiesIn inner p
Held outer inner (Bar sides p) = LiesIn inner p
Held outer inner (Line left right at) = LineLiesIn outer left right at

-- one place is part of another
pub record IsPart (large small : Place) : Type 0 where
  pub left : large.left ≤ small.left
  pub right : small.right ≤ large.right
  pub top : large.top ≤ small.top
  pub bottom : small.bottom ≤ large.bottom

pub lies_more : (large small p : Place) → IsPart large small → LiesIn small p → LiesIn large p
lies_more large small p part lies = record {
  from_left = omega arith;
  wide = lies.wide;
  to_right = omega arith;
  from_top = omega arith;
  high = lies.high;
  to_bottom = omega arith;
}

held_more : (o i o2 i2 : Place) → IsPart o2 o → IsPart i2 i → (x : Shape) → Held o i x → Held o2 i2 x
held_more o i o2 i2 po pi (Leaf n p) h = lies_more i2 i p pi h
held_more o i o2 i2 po pi (Frame f p) h = lies_more i2 i p pi h
held_more o i o2 i2 po pi (Bar s p) h = lies_more i2 i p pi h
held_more o i o2 i2 po pi (Line left right at) h =
    record { from_left = omega arith; long = h.long; to_right = omega arith; from_top = omega arith; to_bottom = omega arith }

each_more : (o i o2 i2 : Place) → IsPart o2 o → IsPart i2 i → (xs : List Shape) → Each (Held o i) xs → Each (Held o2 i2) xs
each_more o i o2 i2 po pi xs h = each_to (Held o i) (Held o2 i2) xs (held_more o i o2 i2 po pi) h

-- a part that is so wide, and reaches so far up and down: where its boxes lie, and where its lines do
abbrev pub inner : Span → ℕ → ℕ → Place
inner s wide up = place (start s) wide s.axis up

abbrev pub outer : Span → ℕ → Place
outer s up = record { left = s.left; top = s.axis - up; right = s.right; bottom = s.axis + up }

abbrev pub Holds : Span → ℕ → ℕ → List Shape → Type 0
Holds s wide up xs = Each (Held (outer s up) (inner s wide up)) xs

line_held : (s : Span) (wide up left right : ℕ) → s.left ≤ left → right ≤ s.right → Holds s wide up (line left right s.axis)
line_held s wide up left right from to = cases (nat_lt left right) refl
  where
    cases : (b : Bool) → nat_lt left right ≡ b → Holds s wide up (cond b (Line left right s.axis ∷ []) [])
    cases true e = let long = ltb-true left right e in (record { from_left = from; long = long; to_right = to; from_top = omega arith; to_bottom = omega arith }, tt)
    cases false e = tt

led_held : (s : Span) (wide up : ℕ) (xs : List Shape) → start s + wide ≤ s.right → Holds s wide up xs → Holds s wide up (led s wide xs)
led_held s wide up xs room h =
    each-append (Held (outer s up) (inner s wide up)) (line s.left (start s) s.axis ++ xs) (line (start s + wide) s.right s.axis)
    (each-append (Held (outer s up) (inner s wide up)) (line s.left (start s) s.axis) xs (line_held s wide up s.left (start s) (omega arith) (omega arith)) h)
    (line_held s wide up (start s + wide) s.right (omega arith) (omega arith))

-- one of two parts that are drawn behind one another
both_held : (s : Span) (wide up : ℕ) (sa : Span) (wa ua : ℕ) (sb : Span) (wb ub : ℕ) (xs ys : List Shape) →
    IsPart (outer s up) (outer sa ua) → IsPart (inner s wide up) (inner sa wa ua) → IsPart (outer s up) (outer sb ub) → IsPart (inner s wide up) (inner sb wb ub) →
    Holds sa wa ua xs → Holds sb wb ub ys → Holds s wide up (xs ++ ys)
both_held s wide up sa wa ua sb wb ub xs ys oa ia ob ib h k =
    each-append (Held (outer s up) (inner s wide up)) xs ys
    (each_more (outer sa ua) (inner sa wa ua) (outer s up) (inner s wide up) oa ia xs h)
    (each_more (outer sb ub) (inner sb wb ub) (outer s up) (inner s wide up) ob ib ys k)

abbrev pub sides_drawn : Sketch → Sketch → Span → List Shape
sides_drawn a b t = shapes_in a (upper (half b) t) ++ shapes_in b (lower (half a) t)

-- the sides of a fork
pub sides_held : (a b : Sketch) (t : Span) → RoomForSides a b t → Holds (upper (half b) t) (width a) (half a) (shapes_in a (upper (half b) t)) →
    Holds (lower (half a) t) (width b) (half b) (shapes_in b (lower (half a) t)) → Holds t (max (width a) (width b)) (half a + SPLIT + half b) (sides_drawn a b t)
sides_held a b t room h k =
    let w = room.wide in
    let high = room.high in
    both_held t (max (width a) (width b)) (half a + SPLIT + half b) (upper (half b) t) (width a) (half a) (lower (half a) t) (width b) (half b)
    (shapes_in a (upper (half b) t)) (shapes_in b (lower (half a) t))
    (record { left = omega arith; right = omega arith; top = omega arith; bottom = omega arith })
    (record { left = omega arith; right = omega arith; top = omega arith; bottom = omega arith })
    (record { left = omega arith; right = omega arith; top = omega arith; bottom = omega arith })
    (record { left = omega arith; right = omega arith; top = omega arith; bottom = omega arith })
    h k

-- the bars of a fork with what stands between them
abbrev pub barred_drawn : Sides → ℕ → ℕ → Span → List Shape → List Shape
barred_drawn sides wide up s xs = bar sides (start s) s.axis up ∷ (xs ++ bar sides (start s + BAR + (2 * FORK + wide)) s.axis up ∷ [])

bars_held : (sides : Sides) (wide up : ℕ) (s : Span) (xs : List Shape) → 0 < up → up ≤ s.axis → start s + (wide + 2 * (BAR + FORK)) ≤ s.right →
    Holds (between_bars wide s) wide up xs → Holds s (wide + 2 * (BAR + FORK)) up (led s (wide + 2 * (BAR + FORK)) (barred_drawn sides wide up s xs))
bars_held sides wide up s xs some high room h =
    led_held s (wide + 2 * (BAR + FORK)) up (barred_drawn sides wide up s xs) room (
      record { from_left = omega arith; wide = omega arith; to_right = omega arith; from_top = omega arith; high = omega arith; to_bottom = omega arith },
      each-append (Held (outer s up) (inner s (wide + 2 * (BAR + FORK)) up)) xs (bar sides (start s + BAR + (2 * FORK + wide)) s.axis up ∷ [])
          (each_more (outer (between_bars wide s) up) (inner (between_bars wide s) wide up) (outer s up) (inner s (wide + 2 * (BAR + FORK)) up)
          (record { left = omega arith; right = omega arith; top = omega arith; bottom = omega arith })
          (record { left = omega arith; right = omega arith; top = omega arith; bottom = omega arith }) xs h)
          (record { from_left = omega arith; wide = omega arith; to_right = omega arith; from_top = omega arith; high = omega arith; to_bottom = omega arith }, tt),
    )

fork_held : (f : Fork) (a b : Sketch) (s : Span) → ((t : Span) → RoomForSides a b t → Holds t (max (width a) (width b)) (half a + SPLIT + half b) (sides_drawn a b t)) →
    Room (forked f a b) s → Holds s (width (forked f a b)) (half (forked f a b)) (shapes_in (forked f a b) s)
fork_held f a b s sides room = cases f.barred room
  where
    cases : (v : Bool) → Room (forked (record { sides = f.sides; barred = v }) a b) s →
        Holds s (width (forked (record { sides = f.sides; barred = v }) a b)) (half a + SPLIT + half b) (shapes_in (forked (record { sides = f.sides; barred = v }) a b) s)
    cases true r =
        let w = r.wide in
        let h = r.high in
        bars_held f.sides (max (width a) (width b)) (half a + SPLIT + half b) s (sides_drawn a b (between_bars (max (width a) (width b)) s)) (omega arith) (omega arith) (omega arith)
        (sides (between_bars (max (width a) (width b)) s) (room_between f.sides a b s r))
    cases false r =
        let same : max (width a) (width b) ≡ max (width a) (width b) + 0 = omega arith in
        subst (λ w. Holds s w (half a + SPLIT + half b) (sides_drawn a b s)) same (sides s (room_bare f.sides a b s r))

-- boxes lie in the place of the part, and lines in that of the span
pub held : (a : Sketch) (s : Span) → Room a s → Holds s (width a) (half a) (shapes_in a s)
held gap s room = let w = room.wide in line_held s (width gap) (half gap) s.left s.right (omega arith) (omega arith)
held (box n letters) s room =
    let w = room.wide in
    let h = room.high in
    led_held s (width (box n letters)) (half (box n letters)) (Leaf n (place (start s) (width (box n letters)) s.axis (half (box n letters))) ∷ []) w
    (record { from_left = omega arith; wide = omega arith; to_right = omega arith; from_top = omega arith; high = omega arith; to_bottom = omega arith }, tt)
held (row a b) s room =
    let w = room.wide in
    let h = room.high in
    both_held s (width (row a b)) (half (row a b)) (left_span (width a) s) (width a) (half a) (right_span (width a) s) (width b) (half b)
    (shapes_in a (left_span (width a) s)) (shapes_in b (right_span (width a) s))
    (record { left = omega arith; right = omega arith; top = omega arith; bottom = omega arith })
    (record { left = omega arith; right = omega arith; top = omega arith; bottom = omega arith })
    (record { left = omega arith; right = omega arith; top = omega arith; bottom = omega arith })
    (record { left = omega arith; right = omega arith; top = omega arith; bottom = omega arith })
    (held a (left_span (width a) s) (room_left a b s room)) (held b (right_span (width a) s) (room_right a b s room))
held (forked f a b) s room = fork_held f a b s
    (λ t r. sides_held a b t r (held a (upper (half b) t) (room_above a b t r)) (held b (lower (half a) t) (room_below a b t r))) room
held (framed f a) s room =
    let w = room.wide in
    let h = room.high in
    led_held s (width (framed f a)) (half (framed f a)) (Frame f (place (start s) (width (framed f a)) s.axis (half (framed f a))) ∷ shapes_in a (in_frame (width (framed f a)) s)) w (
      record { from_left = omega arith; wide = omega arith; to_right = omega arith; from_top = omega arith; high = omega arith; to_bottom = omega arith },
      each_more (outer (in_frame (width (framed f a)) s) (half a)) (inner (in_frame (width (framed f a)) s) (width a) (half a))
          (outer s (half (framed f a))) (inner s (width (framed f a)) (half (framed f a)))
          (record { left = omega arith; right = omega arith; top = omega arith; bottom = omega arith })
          (record { left = omega arith; right = omega arith; top = omega arith; bottom = omega arith })
          (shapes_in a (in_frame (width (framed f a)) s)) (held a (in_frame (width (framed f a)) s) (room_framed f a s room)),
    )

-- the whole canvas
pub on_canvas : (a : Sketch) (w h : ℕ) → w ≡ canvas_width a → h ≡ canvas_height a → Each (ShapeLiesIn (canvas_place w h)) (shapes_of a)
on_canvas a w h is_wide is_high =
    each_to (Held (outer (canvas a) (half a)) (inner (canvas a) (width a) (half a))) (ShapeLiesIn (canvas_place w h)) (shapes_of a) lies
    (held a (canvas a) (room_on_canvas a))
  where
    lies : (x : Shape) → Held (outer (canvas a) (half a)) (inner (canvas a) (width a) (half a)) x → ShapeLiesIn (canvas_place w h) x
    lies (Leaf n p) k = lies_more (canvas_place w h) (inner (canvas a) (width a) (half a)) p (record { left = omega arith; right = omega arith; top = omega arith; bottom = omega arith }) k
    lies (Frame f p) k = lies_more (canvas_place w h) (inner (canvas a) (width a) (half a)) p (record { left = omega arith; right = omega arith; top = omega arith; bottom = omega arith }) k
    lies (Bar sides p) k = lies_more (canvas_place w h) (inner (canvas a) (width a) (half a)) p (record { left = omega arith; right = omega arith; top = omega arith; bottom = omega arith }) k
    lies (Line left right at) k = record { from_left = omega arith; long = k.long; to_right = omega arith; from_top = omega arith; to_bottom = omega arith }
