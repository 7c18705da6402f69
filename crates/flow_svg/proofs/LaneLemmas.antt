-- Arrows in one lane are apart.
use Rattle.std.proofs.Common.{◌≡◌, ◌<◌, ◌≤◌, ◌+◌, ◌-◌, ℕ, Bool, true, false, if◌then◌else◌, ◌⊎◌, inl, inr, List, [], ◌∷◌, ◌++◌, length, Option, Some, None, slice_get, get_or, refl, sym, ap, subst, ◌∙◌, arith, length-append}
use Rattle.std.proofs.lemmas.Grind.{common_steps}
use Rattle.std.proofs.lemmas.Option.{slice_get-get_or}
use Rattle.flow_model.specs.Lists.{Each}
use Rattle.flow_model.proofs.Lists.{each-append, each_to}
use Rattle.flow_model.proofs.MadeLists.{some_same, slice_get_append_right}
use Rattle.flow_view.specs.declared.arrow.Arrow.{Arrow}
use Rattle.flow_view.specs.declared.shape.Place.{Place}
use Rattle.flow_view.specs.declared.shape.Shape.{Shape}
use Rattle.flow_svg.specs.declared.courses.Course.{Course}
use Rattle.flow_svg.specs.Courses.{box_of, left_end, right_end, shares, last_of, lane_in, last_lane, lane_of, ends_of, next_course, with_course, courses_after}
use Rattle.flow_svg.specs.Lanes.{EndsLeftOf, AreApart, ArrowsAreApart, EachTakesItsEnds}

pub takes_ends : EachTakesItsEnds
unfolding left_end right_end
takes_ends c = record {
  from_start = grind (arith, common_steps);
  to_start = grind (arith, common_steps);
  from_end = grind (arith, common_steps);
  to_end = grind (arith, common_steps);
}

-- the later one is in a lane below, or right of it
abbrev IsBehind : Course → Course → Type 0
IsBehind later c = (c.lane < later.lane) ⊎ ((c.lane ≡ later.lane) × (right_end c < left_end later))

-- none ends farther on than the last
abbrev IsLastOf : Course → Course → Type 0
IsLastOf last c = (c.lane < last.lane) ⊎ ((c.lane ≡ last.lane) × (right_end c ≤ right_end last))

record Kept (cs : List Course) : Type 0 where
  apart : AreApart cs
  last : (c : Course) → last_of cs ≡ Some c → Each (IsLastOf c) cs

behind_left : (later c : Course) → IsBehind later c → EndsLeftOf c later
behind_left later c (inl below) same = absurd (omega arith)
behind_left later c (inr right) same = right.1

behind_last : (later c : Course) → IsBehind later c → IsLastOf later c
behind_last later c (inl below) = inl below
behind_last later c (inr right) = let ends = takes_ends later in inr (right.0, omega arith)

one_more : (cs : List Course) (c : Course) → AreApart cs → Each (IsBehind c) cs → AreApart (cs ++ c ∷ [])
one_more [] c apart behind = (tt, tt)
one_more (d ∷ ds) c apart behind =
    (each-append (EndsLeftOf d) ds (c ∷ []) apart.0 (behind_left c d behind.0, tt), one_more ds c apart.1 behind.1)

last_pushed : (cs : List Course) (c : Course) → last_of (cs ++ c ∷ []) ≡ Some c
last_pushed cs c =
    let size : length (cs ++ c ∷ []) - 1 ≡ length cs + 0 = (let l = length-append cs (c ∷ []) in omega arith) in
    ap (slice_get (cs ++ c ∷ [])) size ∙ slice_get_append_right cs (c ∷ []) 0

shared_right : (last c : Course) → shares (Some last) c ≡ true → right_end last < left_end c
unfolding shares
shared_right last c e = grind (arith, common_steps, e)

-- the next arrow is behind each that is not behind the last
past_last : (top : ℕ) (cs : List Course) (c last : Course) → last_of cs ≡ Some last → c.lane ≡ lane_of top cs c → (d : Course) → IsLastOf last d → IsBehind c d
past_last top cs c last is lane d within =
    go (shares (Some last) c) refl within (lane ∙ ap (λ o. if shares o c then lane_in top o else lane_in top o + 20) is)
  where
    go : (b : Bool) → shares (Some last) c ≡ b → IsLastOf last d → c.lane ≡ (if b then last.lane else last.lane + 20) → IsBehind c d
    go true shared (inl below) l = inl (omega arith)
    go true shared (inr same) l = let right = shared_right last c shared in inr (same.0 ∙ sym l, omega arith)
    go false shared (inl below) l = inl (omega arith)
    go false shared (inr same) l = inl (let e = same.0 in omega arith)

behind_all : (top : ℕ) (cs : List Course) (c : Course) → Kept cs → c.lane ≡ lane_of top cs c → Each (IsBehind c) cs
behind_all top [] c kept lane = tt
behind_all top (d ∷ ds) c kept lane =
    let last = get_or (d ∷ ds) (length (d ∷ ds) - 1) d in
    let is : last_of (d ∷ ds) ≡ Some last = slice_get-get_or (d ∷ ds) (length (d ∷ ds) - 1) d (omega arith) in
    each_to (IsLastOf last) (IsBehind c) (d ∷ ds) (past_last top (d ∷ ds) c last is lane) (kept.last last is)

kept_more : (top : ℕ) (cs : List Course) (c : Course) → Kept cs → c.lane ≡ lane_of top cs c → Kept (cs ++ c ∷ [])
kept_more top cs c kept lane =
    let behind = behind_all top cs c kept lane in
    record {
      apart = one_more cs c kept.apart behind;
      last = λ e is.
          let same : c ≡ e = some_same c e (sym (last_pushed cs c) ∙ is) in
          subst (λ x. Each (IsLastOf x) (cs ++ c ∷ [])) same
          (each-append (IsLastOf c) cs (c ∷ []) (each_to (IsBehind c) (IsLastOf c) cs (behind_last c) behind) (inr (refl, omega arith), tt));
    }

-- what an arrow shares does not rest on its own lane
shares_so : (o : Option Course) (top : ℕ) (cs : List Course) (from to : Place) (arrow : Arrow) →
    shares o (ends_of top cs from to arrow) ≡ shares o (next_course top cs from to arrow)
unfolding shares left_end next_course
shares_so None top cs from to arrow = refl
shares_so (Some last) top cs from to arrow = refl

lane_next : (top : ℕ) (cs : List Course) (from to : Place) (arrow : Arrow) →
    (next_course top cs from to arrow).lane ≡ lane_of top cs (next_course top cs from to arrow)
unfolding next_course
lane_next top cs from to arrow = ap (λ b. if b then last_lane top cs else last_lane top cs + 20) (shares_so (last_of cs) top cs from to arrow)

kept_with : (top : ℕ) (cs : List Course) (from to : Option Place) (arrow : Arrow) → Kept cs → Kept (with_course top cs from to arrow)
kept_with top cs (Some from) (Some to) arrow kept = kept_more top cs (next_course top cs from to arrow) kept (lane_next top cs from to arrow)
kept_with top cs (Some from) None arrow kept = kept
kept_with top cs None to arrow kept = kept

kept_after : (shapes : List Shape) (top : ℕ) (cs : List Course) (arrows : List Arrow) → Kept cs → Kept (courses_after shapes top cs arrows)
kept_after shapes top cs [] kept = kept
kept_after shapes top cs (arrow ∷ arrows) kept =
    kept_after shapes top (with_course top cs (box_of shapes arrow.from) (box_of shapes arrow.to) arrow) arrows
    (kept_with top cs (box_of shapes arrow.from) (box_of shapes arrow.to) arrow kept)

pub arrows_apart : ArrowsAreApart
arrows_apart shapes top arrows = (kept_after shapes top [] arrows (record { apart = tt; last = λ c none. tt })).apart
