-- The boxes of leaves: each leaf has one, and one that comes before another in a series stands to the left of it.
use Rattle.std.proofs.Common.{◌≡◌, ◌+◌, ◌*◌, ◌<◌, ◌⊎◌, inl, inr, ℕ, Bool, true, false, cond, nat_lt, List, [], ◌∷◌, ◌++◌, Some, arith, max, refl, sym, ap, ◌∙◌, subst, append-nil}
use Rattle.std.specs.List.{filter_map}
use Rattle.std.proofs.lemmas.List.Elements.{filter_map-append}
use Rattle.flow_model.specs.Lists.{◌∈◌, AreDistinct}
use Rattle.flow_model.specs.Process.{Process, leaves}
use Rattle.flow_model.specs.Ready.{InSequence}
use Rattle.flow_model.proofs.Lists.{mem_append_left, mem_append_right, each_member}
use Rattle.flow_model.proofs.MadeLists.{of_filter_map, same_source, some_same}
use Rattle.flow_view.specs.declared.scene.Fork.{Fork}
use Rattle.flow_view.specs.declared.scene.Frame as frame
use Rattle.flow_view.specs.declared.scene.Frame.TheVariants.{Iso, Called}
use Rattle.flow_view.specs.declared.scene.Sides.{Sides}
use Rattle.flow_view.specs.declared.scene.Sides.TheVariants.{Beside, Either}
use Rattle.flow_view.specs.declared.shape.Place.{Place}
use Rattle.flow_view.specs.declared.shape.Shape.{Shape}
use Rattle.flow_view.specs.declared.shape.Shape.TheVariants.{Leaf, Frame, Bar, Line}
use Rattle.flow_view.specs.declared.span.Span.{Span}
use Rattle.flow_view.specs.declared.size.TheConstants.{BAR, FORK, SPLIT}
use Rattle.flow_view.specs.Overlap.{LiesIn, EndsLeftOf}
use Rattle.flow_view.specs.Shapes.{line, led, start, place, shapes_in, left_span, right_span, between_bars, upper, lower, in_frame, bar, boxed_leaf}
use Rattle.flow_view.specs.Sizes.{width, half}
use Rattle.flow_view.specs.Sketch.{Sketch, gap, box, row, forked, framed, both, framed_process, process_in}
use Rattle.flow_view.proofs.Rooms.{Room, RoomForSides, room_left, room_right, room_above, room_below, room_between, room_bare, room_framed}
use Rattle.flow_view.proofs.Within.{Held, inner, outer, held, sides_drawn, barred_drawn}

abbrev boxes : List Shape → List ℕ
boxes xs = filter_map boxed_leaf xs

no_line : (left right at : ℕ) → boxes (line left right at) ≡ []
no_line left right at = cases (nat_lt left right)
  where
    cases : (b : Bool) → boxes (cond b (Line left right at ∷ []) []) ≡ []
    cases true = refl
    cases false = refl

led_boxes : (s : Span) (wide : ℕ) (xs : List Shape) → boxes (led s wide xs) ≡ boxes xs
led_boxes s wide xs =
    let one = line s.left (start s) s.axis in
    let other = line (start s + wide) s.right s.axis in
    filter_map-append boxed_leaf (one ++ xs) other
    ∙ ap (λ l. boxes (one ++ xs) ++ l) (no_line (start s + wide) s.right s.axis)
    ∙ append-nil (boxes (one ++ xs))
    ∙ filter_map-append boxed_leaf one xs
    ∙ ap (λ l. l ++ boxes xs) (no_line s.left (start s) s.axis)

both_leaves : (sides : Sides) (p q : Process) → leaves (both sides p q) ≡ leaves p ++ leaves q
both_leaves Beside p q = refl
both_leaves Either p q = refl

framed_leaves : (f : frame.Frame) (q : Process) → leaves (framed_process f q) ≡ leaves q
framed_leaves Iso q = refl
framed_leaves (Called flow letters) q = refl

bars_boxes : (sides : Sides) (wide up : ℕ) (s : Span) (xs : List Shape) → boxes (barred_drawn sides wide up s xs) ≡ boxes xs
bars_boxes sides wide up s xs =
    filter_map-append boxed_leaf xs (bar sides (start s + BAR + (2 * FORK + wide)) s.axis up ∷ []) ∙ append-nil (boxes xs)

fork_boxes : (f : Fork) (a b : Sketch) (s : Span) → ((t : Span) → boxes (sides_drawn a b t) ≡ leaves (process_in a) ++ leaves (process_in b)) →
    boxes (shapes_in (forked f a b) s) ≡ leaves (process_in a) ++ leaves (process_in b)
fork_boxes f a b s sides = cases f.barred
  where
    cases : (v : Bool) → boxes (shapes_in (forked (record { sides = f.sides; barred = v }) a b) s) ≡ leaves (process_in a) ++ leaves (process_in b)
    cases true =
        let wide = max (width a) (width b) in
        let up = half a + SPLIT + half b in
        let drawn = sides_drawn a b (between_bars wide s) in
        led_boxes s (wide + 2 * (BAR + FORK)) (barred_drawn f.sides wide up s drawn) ∙ bars_boxes f.sides wide up s drawn ∙ sides (between_bars wide s)
    cases false = sides s

-- each leaf has one box
pub boxes_are : (a : Sketch) (s : Span) → filter_map boxed_leaf (shapes_in a s) ≡ leaves (process_in a)
boxes_are gap s = no_line s.left s.right s.axis
boxes_are (box n letters) s = led_boxes s (width (box n letters)) (Leaf n (place (start s) (width (box n letters)) s.axis (half (box n letters))) ∷ [])
boxes_are (row a b) s =
    let one = boxes_are a (left_span (width a) s) in
    let other = boxes_are b (right_span (width a) s) in
    filter_map-append boxed_leaf (shapes_in a (left_span (width a) s)) (shapes_in b (right_span (width a) s))
    ∙ ap (λ l. l ++ boxes (shapes_in b (right_span (width a) s))) one ∙ ap (λ l. leaves (process_in a) ++ l) other
boxes_are (forked f a b) s =
    fork_boxes f a b s (λ t.
    filter_map-append boxed_leaf (shapes_in a (upper (half b) t)) (shapes_in b (lower (half a) t))
    ∙ ap (λ l. l ++ boxes (shapes_in b (lower (half a) t))) (boxes_are a (upper (half b) t))
    ∙ ap (λ l. leaves (process_in a) ++ l) (boxes_are b (lower (half a) t)))
    ∙ sym (both_leaves f.sides (process_in a) (process_in b))
boxes_are (framed f a) s =
    let t = in_frame (width (framed f a)) s in
    led_boxes s (width (framed f a)) (Frame f (place (start s) (width (framed f a)) s.axis (half (framed f a))) ∷ shapes_in a t)
    ∙ boxes_are a t ∙ sym (framed_leaves f (process_in a))

-- the box of a leaf

leaf_shape : (x : Shape) (n : ℕ) → boxed_leaf x ≡ Some n → (p : Place) × (x ≡ Leaf n p)
leaf_shape (Leaf m p) n e = (p, ap (λ k. Leaf k p) (some_same m n e))
leaf_shape (Frame f p) n e = absurd (cc)
leaf_shape (Bar sides p) n e = absurd (cc)
leaf_shape (Line left right at) n e = absurd (cc)

box_having : (a : Sketch) (s : Span) (n : ℕ) → n ∈ leaves (process_in a) → (p : Place) × (Leaf n p ∈ shapes_in a s)
box_having a s n m =
    let (x, mx, e) = of_filter_map boxed_leaf n (shapes_in a s) (subst (λ l. n ∈ l) (sym (boxes_are a s)) m) in
    let (p, is) = leaf_shape x n e in
    (p, subst (λ y. y ∈ shapes_in a s) is mx)

-- among what is drawn both have boxes, that of the one left of that of the other
abbrev Turn : List Shape → ℕ → ℕ → Type 0
Turn xs x y = (p q : Place) × (Leaf x p ∈ xs) × (Leaf y q ∈ xs) × (p.right < q.left)

turn_left : (xs ys : List Shape) (x y : ℕ) → Turn xs x y → Turn (xs ++ ys) x y
turn_left xs ys x y (p, q, m, n, less) = (p, q, mem_append_left (Leaf x p) xs ys m, mem_append_left (Leaf y q) xs ys n, less)

turn_right : (xs ys : List Shape) (x y : ℕ) → Turn ys x y → Turn (xs ++ ys) x y
turn_right xs ys x y (p, q, m, n, less) = (p, q, mem_append_right (Leaf x p) xs ys m, mem_append_right (Leaf y q) xs ys n, less)

led_turn : (s : Span) (wide : ℕ) (xs : List Shape) (x y : ℕ) → Turn xs x y → Turn (led s wide xs) x y
led_turn s wide xs x y h =
    let one = line s.left (start s) s.axis in
    turn_left (one ++ xs) (line (start s + wide) s.right s.axis) x y (turn_right one xs x y h)

both_turn : (sides : Sides) (p q : Process) (x y : ℕ) → InSequence (both sides p q) x y → InSequence p x y ⊎ InSequence q x y
both_turn Beside p q x y h = h
both_turn Either p q x y h = h

framed_turn : (f : frame.Frame) (q : Process) (x y : ℕ) → InSequence (framed_process f q) x y → InSequence q x y
framed_turn Iso q x y h = h
framed_turn (Called flow letters) q x y h = h

fork_turn : (f : Fork) (a b : Sketch) (s : Span) (x y : ℕ) → ((t : Span) → RoomForSides a b t → Turn (sides_drawn a b t) x y) →
    Room (forked f a b) s → Turn (shapes_in (forked f a b) s) x y
fork_turn f a b s x y sides room = cases f.barred room
  where
    cases : (v : Bool) → Room (forked (record { sides = f.sides; barred = v }) a b) s → Turn (shapes_in (forked (record { sides = f.sides; barred = v }) a b) s) x y
    cases true r =
        let wide = max (width a) (width b) in
        let up = half a + SPLIT + half b in
        let t = between_bars wide s in
        led_turn s (wide + 2 * (BAR + FORK)) (barred_drawn f.sides wide up s (sides_drawn a b t)) x y
        (turn_right (bar f.sides (start s) s.axis up ∷ []) (sides_drawn a b t ++ bar f.sides (start s + BAR + (2 * FORK + wide)) s.axis up ∷ []) x y
        (turn_left (sides_drawn a b t) (bar f.sides (start s + BAR + (2 * FORK + wide)) s.axis up ∷ []) x y (sides t (room_between f.sides a b s r))))
    cases false r = sides s (room_bare f.sides a b s r)

row_turn : (a b : Sketch) (s : Span) → Room (row a b) s → (x y : ℕ) → x ∈ leaves (process_in a) → y ∈ leaves (process_in b) → Turn (shapes_in (row a b) s) x y
row_turn a b s room x y mx my =
    let l = left_span (width a) s in
    let r = right_span (width a) s in
    let (p, m) = box_having a l x mx in
    let (q, n) = box_having b r y my in
    let one : LiesIn (inner l (width a) (half a)) p =
    each_member (Held (outer l (half a)) (inner l (width a) (half a))) (shapes_in a l) (held a l (room_left a b s room)) (Leaf x p) m in
    let other : LiesIn (inner r (width b) (half b)) q =
    each_member (Held (outer r (half b)) (inner r (width b) (half b))) (shapes_in b r) (held b r (room_right a b s room)) (Leaf y q) n in
    (p, q, mem_append_left (Leaf x p) (shapes_in a l) (shapes_in b r) m, mem_append_right (Leaf y q) (shapes_in a l) (shapes_in b r) n, omega arith)

turn : (a : Sketch) (s : Span) → Room a s → (x y : ℕ) → InSequence (process_in a) x y → Turn (shapes_in a s) x y
turn gap s room x y h = absurd h
turn (box n letters) s room x y h = absurd h
turn (row a b) s room x y h =
    let l = left_span (width a) s in
    let r = right_span (width a) s in
    elim h [
      | inl k ↦ elim k [
        | inl m ↦ row_turn a b s room x y m.0 m.1
        | inr i ↦ turn_left (shapes_in a l) (shapes_in b r) x y (turn a l (room_left a b s room) x y i)
      ]
      | inr i ↦ turn_right (shapes_in a l) (shapes_in b r) x y (turn b r (room_right a b s room) x y i)
    ]
turn (forked f a b) s room x y h =
    fork_turn f a b s x y (λ t r. elim (both_turn f.sides (process_in a) (process_in b) x y h) [
      | inl i ↦ turn_left (shapes_in a (upper (half b) t)) (shapes_in b (lower (half a) t)) x y (turn a (upper (half b) t) (room_above a b t r) x y i)
      | inr i ↦ turn_right (shapes_in a (upper (half b) t)) (shapes_in b (lower (half a) t)) x y (turn b (lower (half a) t) (room_below a b t r) x y i)
    ]) room
turn (framed f a) s room x y h =
    let t = in_frame (width (framed f a)) s in
    let f_box = Frame f (place (start s) (width (framed f a)) s.axis (half (framed f a))) in
    led_turn s (width (framed f a)) (f_box ∷ shapes_in a t) x y
    (turn_right (f_box ∷ []) (shapes_in a t) x y (turn a t (room_framed f a s room) x y (framed_turn f (process_in a) x y h)))

-- where no leaf stands twice, what comes before in a series stands to the left
pub in_turn : (a : Sketch) (s : Span) → Room a s → AreDistinct (leaves (process_in a)) → (x y : ℕ) → InSequence (process_in a) x y → EndsLeftOf (shapes_in a s) x y
in_turn a s room distinct x y h p q m n =
    let (p2, q2, m2, n2, less) = turn a s room x y h in
    let once = same_source boxed_leaf (shapes_in a s) (subst AreDistinct (sym (boxes_are a s)) distinct) in
    let same_p : p2 ≡ p = let e : Leaf x p2 ≡ Leaf x p = once (Leaf x p2) (Leaf x p) x m2 m refl refl in cc in
    let same_q : q2 ≡ q = let e : Leaf y q2 ≡ Leaf y q = once (Leaf y q2) (Leaf y q) y n2 n refl refl in cc in
    subst (λ (o : Place). p.right < o.left) same_q (subst (λ (o : Place). o.right < q2.left) same_p less)
