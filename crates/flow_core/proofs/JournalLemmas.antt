-- What may follow a journal, in the words of the residual, and how long a journal is.
use Rattle.std.proofs.Common.{◌≡◌, ◌<◌, ◌≤◌, ◌+◌, ℕ, List, [], ◌∷◌, ◌++◌, length, refl, sym, ap, ◌∙◌, subst, arith, length-append}
use Rattle.flow_model.specs.Lists.{◌∈◌, Each, AreDistinct, numbers_from}
use Rattle.flow_model.specs.Schema.{Schema}
use Rattle.flow_model.specs.Run.{RunState, current_leaves, IsFree, MayAllFollow, MayFollowFirst}
use Rattle.flow_laws.specs.WellFormed.{IsWellFormed}
use Rattle.flow_laws.specs.Histories.{IsSound}
use Rattle.flow_model.proofs.Lists.{mem_append_left, each_member, each_from_members, at_most}
use Rattle.flow_model.proofs.MadeLists.{distinct-numbers_from, numbers_from_below, same_order, begins_front}
use Rattle.flow_laws.proofs.TraceLeaves.{leaf_of_trace, distinct_trace}
use Rattle.flow_residual.specs.Remaining.{Remaining, IsOf, MayComeNext}
use Rattle.flow_residual.proofs.Following.{may_all_follow, may_follow_first}
use Rattle.flow_residual.proofs.QuestionLemmas.{each_comes_next, first_comes_next, comes_alone}

-- of leaves that may all follow, each may come next
pub next_of_all : (w : Schema) (s : RunState) (r : Remaining) → IsOf w s r → (list : List ℕ) (n : ℕ) → MayAllFollow w s list → n ∈ list → MayComeNext r n
next_of_all w s r f list n may there = each_member (MayComeNext r) list (each_comes_next r list ((may_all_follow w s r f list).1 may)) n there

-- a leaf that may follow first may come next
pub next_of_first : (w : Schema) (s : RunState) (r : Remaining) → IsOf w s r → (list : List ℕ) (n : ℕ) → MayFollowFirst w s n list → MayComeNext r n
next_of_first w s r f list n may = first_comes_next r n list ((may_follow_first w s r f n list).1 may)

-- the leaves of a free trace have labels
pub within_free : (w : Schema) → IsWellFormed w → (s : RunState) (t : List ℕ) → IsFree w s t → (n : ℕ) → n ∈ t → n < length w.labels
within_free w f s t free n m =
    let l : n ∈ numbers_from 0 (length w.labels) = subst (λ w. n ∈ w) f.numbered (leaf_of_trace w.goal t free.0.0 n m) in
    omega (arith, numbers_from_below 0 (length w.labels) n l)

-- each leaf of a journal has a label
pub journal_within : (w : Schema) → IsWellFormed w → (s : RunState) → IsSound w s → Each (λ n. n < length w.labels) s.journal
journal_within w f s sound =
    let (o, m, all) = sound.extends in
    let (t, trace, free, begins) = all (current_leaves s) (same_order (current_leaves s)) in
    let (rest, is) = begins_front t s.journal (current_leaves s) begins in
    each_from_members (λ n. n < length w.labels) s.journal
    (λ n there. within_free w f s t free n (subst (λ l. n ∈ l) (sym is) (mem_append_left n s.journal rest there)))

-- a journal that goes on is shorter than the goal
pub next_room : (w : Schema) (s : RunState) (r : Remaining) → IsOf w s r → (n : ℕ) → MayComeNext r n → length s.journal < length w.labels
next_room w s r f n may =
    let (o, m, all) = (may_follow_first w s r f n []).0 ((comes_alone r n [] refl).1 may) in
    let (t, trace, free, (rest, is)) = all [] refl in
    let d : AreDistinct t = distinct_trace w.goal (subst AreDistinct (sym f.well_formed.numbered) (distinct-numbers_from 0 (length w.labels))) t free.0.0 in
    let most : length t ≤ length w.labels = at_most (length w.labels) t d (λ x m. within_free w f.well_formed s t free x m) in
    let long : length t ≡ length (s.journal ++ n ∷ []) + length rest = ap length is ∙ length-append (s.journal ++ n ∷ []) rest in
    let one : length (s.journal ++ n ∷ []) ≡ length s.journal + 1 = length-append s.journal (n ∷ []) in
    omega arith
