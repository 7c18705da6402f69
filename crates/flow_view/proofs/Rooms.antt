-- There is room for each of a part's own parts where there is for it.
use Rattle.std.proofs.Common.{◌+◌, ◌≤◌, ℕ, true, false, arith, max}
use Rattle.flow_view.specs.declared.scene.Frame.{Frame}
use Rattle.flow_view.specs.declared.scene.Sides.{Sides}
use Rattle.flow_view.specs.declared.span.Span.{Span}
use Rattle.flow_view.specs.declared.size.TheConstants.{SPLIT}
use Rattle.flow_view.specs.Shapes.{start, left_span, right_span, between_bars, upper, lower, in_frame, canvas}
use Rattle.flow_view.specs.Sizes.{width, half}
use Rattle.flow_view.specs.Sketch.{Sketch, row, forked, framed}

-- how many parts a part is made of
abbrev pub parts : Sketch → ℕ
parts (row a b) = parts a + parts b + 2
parts (forked f a b) = parts a + parts b + 2
parts (framed f a) = parts a + 1
parts _ = 1

-- there is room for it in the span
pub record Room (s : Sketch) (span : Span) : Type 0 where
  pub wide : start span + width s ≤ span.right
  pub high : half s ≤ span.axis

pub room_left : (a b : Sketch) (span : Span) → Room (row a b) span → Room a (left_span (width a) span)
room_left a b span room = let w = room.wide in let h = room.high in record { wide = omega arith; high = omega arith }

pub room_right : (a b : Sketch) (span : Span) → Room (row a b) span → Room b (right_span (width a) span)
room_right a b span room = let w = room.wide in let h = room.high in record { wide = omega arith; high = omega arith }

-- there is room for both sides of a fork
pub record RoomForSides (a b : Sketch) (span : Span) : Type 0 where
  pub wide : start span + max (width a) (width b) ≤ span.right
  pub high : half a + SPLIT + half b ≤ span.axis

pub room_above : (a b : Sketch) (span : Span) → RoomForSides a b span → Room a (upper (half b) span)
room_above a b span room = let w = room.wide in let h = room.high in record { wide = omega arith; high = omega arith }

pub room_below : (a b : Sketch) (span : Span) → RoomForSides a b span → Room b (lower (half a) span)
room_below a b span room = let w = room.wide in let h = room.high in record { wide = omega arith; high = omega arith }

pub room_between : (sides : Sides) (a b : Sketch) (span : Span) → Room (forked (record { sides = sides; barred = true }) a b) span →
    RoomForSides a b (between_bars (max (width a) (width b)) span)
room_between sides a b span room = let w = room.wide in let h = room.high in record { wide = omega arith; high = omega arith }

pub room_bare : (sides : Sides) (a b : Sketch) (span : Span) → Room (forked (record { sides = sides; barred = false }) a b) span → RoomForSides a b span
room_bare sides a b span room = let w = room.wide in let h = room.high in record { wide = omega arith; high = omega arith }

pub room_framed : (f : Frame) (a : Sketch) (span : Span) → Room (framed f a) span → Room a (in_frame (width (framed f a)) span)
room_framed f a span room = let w = room.wide in let h = room.high in record { wide = omega arith; high = omega arith }

pub room_on_canvas : (a : Sketch) → Room a (canvas a)
room_on_canvas a = record { wide = omega arith; high = omega arith }
