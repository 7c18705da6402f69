-- What is drawn of a part does not overlap but in frames.
use Rattle.std.proofs.Common.{◌+◌, ◌*◌, ◌≤◌, ◌<◌, inl, inr, ℕ, Bool, true, false, cond, nat_lt, List, [], ◌∷◌, ◌++◌, arith, max, refl}
use Rattle.flow_model.specs.Lists.{◌∈◌, Each}
use Rattle.flow_model.proofs.Lists.{each-append, each_to, each_member, each_from_members}
use Rattle.flow_view.specs.declared.scene.Fork.{Fork}
use Rattle.flow_view.specs.declared.scene.Frame as frame
use Rattle.flow_view.specs.declared.scene.Sides.{Sides}
use Rattle.flow_view.specs.declared.shape.Place.{Place}
use Rattle.flow_view.specs.declared.shape.Shape.{Shape}
use Rattle.flow_view.specs.declared.shape.Shape.TheVariants.{Leaf, Frame, Bar, Line}
use Rattle.flow_view.specs.declared.span.Span.{Span}
use Rattle.flow_view.specs.declared.size.TheConstants.{BAR, FORK, SPLIT}
use Rattle.flow_view.specs.Overlap.{LiesIn, AreApart, IsApartFrom, IsApartOrIn, Clears, DoNotOverlap}
use Rattle.flow_view.specs.Shapes.{line, led, start, place, shapes_in, left_span, right_span, between_bars, upper, lower, in_frame}
use Rattle.flow_view.specs.Sizes.{width, half}
use Rattle.flow_view.specs.Sketch.{Sketch, gap, box, row, forked, framed}
use Rattle.flow_view.proofs.Rooms.{Room, RoomForSides, room_left, room_right, room_above, room_below, room_between, room_bare, room_framed}
use Rattle.flow_view.proofs.Within.{Held, Holds, inner, outer, held, sides_held, sides_drawn, barred_drawn, lies_more}

-- boxes lie in the place
abbrev BoxIn : Place → Shape → Type 0
BoxIn i (Leaf n p) = LiesIn i p
BoxIn i (Frame f p) = LiesIn i p
BoxIn i (Bar sides p) = LiesIn i p
BoxIn i (Line left right at) = Unit {0}

box_in : (o i : Place) (x : Shape) → Held o i x → BoxIn i x
box_in o i (Leaf n p) h = h
box_in o i (Frame f p) h = h
box_in o i (Bar sides p) h = h
box_in o i (Line left right at) h = tt

places_apart : (i j p q : Place) → AreApart i j → LiesIn i p → LiesIn j q → AreApart p q
places_apart i j p q (inl (inl a)) h k = inl (inl (omega arith))
places_apart i j p q (inl (inr a)) h k = inl (inr (omega arith))
places_apart i j p q (inr (inl a)) h k = inr (inl (omega arith))
places_apart i j p q (inr (inr a)) h k = inr (inr (omega arith))

apart_from : (i j p : Place) → AreApart i j → LiesIn i p → (y : Shape) → BoxIn j y → IsApartFrom p y
apart_from i j p a h (Leaf n q) k = places_apart i j p q a h k
apart_from i j p a h (Frame f q) k = places_apart i j p q a h k
apart_from i j p a h (Bar sides q) k = places_apart i j p q a h k
apart_from i j p a h (Line left right at) k = tt

apart_or_in : (p : Place) (y : Shape) → IsApartFrom p y → IsApartOrIn p y
apart_or_in p (Leaf n q) h = inl h
apart_or_in p (Frame f q) h = inl h
apart_or_in p (Bar sides q) h = inl h
apart_or_in p (Line left right at) h = tt

-- what lies in places that are apart
clears_apart : (i j : Place) → AreApart i j → (x y : Shape) → BoxIn i x → BoxIn j y → Clears x y
clears_apart i j a (Leaf n p) y h k = apart_from i j p a h y k
clears_apart i j a (Frame f p) y h k = apart_or_in p y (apart_from i j p a h y k)
clears_apart i j a (Bar sides p) y h k = apart_from i j p a h y k
clears_apart i j a (Line left right at) y h k = tt

across : (o i o2 j : Place) → AreApart i j → (xs ys : List Shape) → Each (Held o i) xs → Each (Held o2 j) ys → (x : Shape) → x ∈ xs → Each (Clears x) ys
across o i o2 j a xs ys h k x m =
    each_to (Held o2 j) (Clears x) ys (λ y hy. clears_apart i j a x y (box_in o i x (each_member (Held o i) xs h x m)) (box_in o2 j y hy)) k

clear_append : (xs ys : List Shape) → DoNotOverlap xs → DoNotOverlap ys → ((x : Shape) → x ∈ xs → Each (Clears x) ys) → DoNotOverlap (xs ++ ys)
clear_append [] ys h k c = k
clear_append (x ∷ xs) ys h k c = (each-append (Clears x) xs ys h.0 (c x (inl refl)), clear_append xs ys h.1 k (λ z m. c z (inr m)))

-- lines are in nothing's way

clears_line : (x : Shape) (left right at : ℕ) → Clears x (Line left right at)
clears_line (Leaf n p) left right at = tt
clears_line (Frame f p) left right at = tt
clears_line (Bar sides p) left right at = tt
clears_line (Line l r a) left right at = tt

line_cases : (P : List Shape → Type 0) (left right at : ℕ) → P (Line left right at ∷ []) → P [] → P (line left right at)
line_cases P left right at some none = cases (nat_lt left right)
  where
    cases : (b : Bool) → P (cond b (Line left right at ∷ []) [])
    cases true = some
    cases false = none

line_first : (left right at : ℕ) (xs : List Shape) → DoNotOverlap xs → DoNotOverlap (line left right at ++ xs)
line_first left right at xs h =
    line_cases (λ l. DoNotOverlap (l ++ xs)) left right at (each_from_members (Clears (Line left right at)) xs (λ x m. tt), h) h

line_last : (left right at : ℕ) (xs : List Shape) → DoNotOverlap xs → DoNotOverlap (xs ++ line left right at)
line_last left right at xs h =
    clear_append xs (line left right at) h (line_cases DoNotOverlap left right at (tt, tt) tt)
    (λ x m. line_cases (Each (Clears x)) left right at (clears_line x left right at, tt) tt)

led_clear : (s : Span) (wide : ℕ) (xs : List Shape) → DoNotOverlap xs → DoNotOverlap (led s wide xs)
led_clear s wide xs h = line_last (start s + wide) s.right s.axis (line s.left (start s) s.axis ++ xs) (line_first s.left (start s) s.axis xs h)

sides_clear : (a b : Sketch) (t : Span) → RoomForSides a b t → DoNotOverlap (shapes_in a (upper (half b) t)) → DoNotOverlap (shapes_in b (lower (half a) t)) → DoNotOverlap (sides_drawn a b t)
sides_clear a b t room h k =
    let high = room.high in
    clear_append (shapes_in a (upper (half b) t)) (shapes_in b (lower (half a) t)) h k
    (across (outer (upper (half b) t) (half a)) (inner (upper (half b) t) (width a) (half a)) (outer (lower (half a) t) (half b)) (inner (lower (half a) t) (width b) (half b))
    (inr (inl (omega arith))) (shapes_in a (upper (half b) t)) (shapes_in b (lower (half a) t))
    (held a (upper (half b) t) (room_above a b t room)) (held b (lower (half a) t) (room_below a b t room)))

bars_clear : (sides : Sides) (wide up : ℕ) (s : Span) (xs : List Shape) → 0 < up → up ≤ s.axis → Holds (between_bars wide s) wide up xs → DoNotOverlap xs →
    DoNotOverlap (barred_drawn sides wide up s xs)
bars_clear sides wide up s xs some high h k =
    let one = place (start s) BAR s.axis up in
    let other = place (start s + BAR + (2 * FORK + wide)) BAR s.axis up in
    let in_one : LiesIn one one = record { from_left = omega arith; wide = omega arith; to_right = omega arith; from_top = omega arith; high = omega arith; to_bottom = omega arith } in
    let in_other : LiesIn other other = record { from_left = omega arith; wide = omega arith; to_right = omega arith; from_top = omega arith; high = omega arith; to_bottom = omega arith } in (
      each-append (Clears (Bar sides one)) xs (Bar sides other ∷ [])
          (across one one (outer (between_bars wide s) up) (inner (between_bars wide s) wide up) (inl (inl (omega arith))) (Bar sides one ∷ []) xs (in_one, tt) h (Bar sides one) (inl refl))
          (inl (inl (omega arith)), tt),
      clear_append xs (Bar sides other ∷ []) k (tt, tt)
          (across (outer (between_bars wide s) up) (inner (between_bars wide s) wide up) other other (inl (inl (omega arith))) xs (Bar sides other ∷ []) h (in_other, tt)),
    )

fork_clear : (f : Fork) (a b : Sketch) (s : Span) → ((t : Span) → RoomForSides a b t → Holds t (max (width a) (width b)) (half a + SPLIT + half b) (sides_drawn a b t)) →
    ((t : Span) → RoomForSides a b t → DoNotOverlap (sides_drawn a b t)) → Room (forked f a b) s → DoNotOverlap (shapes_in (forked f a b) s)
fork_clear f a b s holds clear room = cases f.barred room
  where
    cases : (v : Bool) → Room (forked (record { sides = f.sides; barred = v }) a b) s → DoNotOverlap (shapes_in (forked (record { sides = f.sides; barred = v }) a b) s)
    cases true r =
        let h = r.high in
        let t = between_bars (max (width a) (width b)) s in
        let between = room_between f.sides a b s r in
        led_clear s (max (width a) (width b) + 2 * (BAR + FORK)) (barred_drawn f.sides (max (width a) (width b)) (half a + SPLIT + half b) s (sides_drawn a b t))
        (bars_clear f.sides (max (width a) (width b)) (half a + SPLIT + half b) s (sides_drawn a b t) (omega arith) (omega arith) (holds t between) (clear t between))
    cases false r = clear s (room_bare f.sides a b s r)

-- what a frame holds
frame_clears : (f : frame.Frame) (p o i : Place) (xs : List Shape) → ((q : Place) → LiesIn i q → LiesIn p q) → Each (Held o i) xs → Each (Clears (Frame f p)) xs
frame_clears f p o i xs more h = each_to (Held o i) (Clears (Frame f p)) xs lies h
  where
    lies : (y : Shape) → Held o i y → Clears (Frame f p) y
    lies (Leaf n q) k = inr (more q k)
    lies (Frame g q) k = inr (more q k)
    lies (Bar sides q) k = inr (more q k)
    lies (Line left right at) k = tt

-- no two overlap but in frames
pub clear : (a : Sketch) (s : Span) → Room a s → DoNotOverlap (shapes_in a s)
clear gap s room = line_cases DoNotOverlap s.left s.right s.axis (tt, tt) tt
clear (box n letters) s room = led_clear s (width (box n letters)) (Leaf n (place (start s) (width (box n letters)) s.axis (half (box n letters))) ∷ []) (tt, tt)
clear (row a b) s room =
    let one = room_left a b s room in
    let other = room_right a b s room in
    clear_append (shapes_in a (left_span (width a) s)) (shapes_in b (right_span (width a) s)) (clear a (left_span (width a) s) one) (clear b (right_span (width a) s) other)
    (across (outer (left_span (width a) s) (half a)) (inner (left_span (width a) s) (width a) (half a)) (outer (right_span (width a) s) (half b)) (inner (right_span (width a) s) (width b) (half b))
    (inl (inl (omega arith))) (shapes_in a (left_span (width a) s)) (shapes_in b (right_span (width a) s)) (held a (left_span (width a) s) one) (held b (right_span (width a) s) other))
clear (forked f a b) s room = fork_clear f a b s
    (λ t r. sides_held a b t r (held a (upper (half b) t) (room_above a b t r)) (held b (lower (half a) t) (room_below a b t r)))
    (λ t r. sides_clear a b t r (clear a (upper (half b) t) (room_above a b t r)) (clear b (lower (half a) t) (room_below a b t r))) room
clear (framed f a) s room =
    let w = room.wide in
    let h = room.high in
    let t = in_frame (width (framed f a)) s in
    let p = place (start s) (width (framed f a)) s.axis (half (framed f a)) in
    let inside = room_framed f a s room in
    led_clear s (width (framed f a)) (Frame f p ∷ shapes_in a t) (
      frame_clears f p (outer t (half a)) (inner t (width a) (half a)) (shapes_in a t)
          (λ q k. lies_more p (inner t (width a) (half a)) q (record { left = omega arith; right = omega arith; top = omega arith; bottom = omega arith }) k) (held a t inside),
      clear a t inside,
    )
