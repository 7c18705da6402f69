-- A text cut at its dividers, one after another.
use Rattle.std.proofs.Common.{◌≡◌, ℕ, zero, suc, ◌+◌, ◌-◌, ◌<◌, ◌≤◌, ◌⊎◌, min, Bool, true, false, if◌then◌else◌, List, [], ◌∷◌, ◌++◌, length, take, drop, refl, sym, ◌∙◌, ap, subst, add-one, append_assoc, length-append, length-drop, arith, Option, Some, None, inl, inr}
use Rattle.std.proofs.lemmas.List.{drop-drop, take_all}
use Rattle.std.proofs.Math.Seq.{drop-append-add, drop-length}
use Rattle.flow_record.specs.Lines.{lines_of, cut_at}
use Rattle.flow_record.specs.Cut.{is_divider, cut_from, cut_of}
use Rattle.flow_record.proofs.LineLemmas.{IsCut, cut_is}
use Rattle.flow_record.proofs.CutLemmas.{ended, whole}
use Rattle.flow_audit.specs.Cuts.{AreCuts, cuts_from, cuts_of}
use Rattle.flow_audit.proofs.PlaceLemmas.{at_one_more}

-- What a first cut of the rest, which begins at the place, tells of all its cuts: it is at the end, and there is one journal,
-- or one ends there, and the others are cut from what stands after it.
abbrev Tells : ℕ → ℕ → ℕ → List ℕ → List (ℕ × ℕ) → ℕ × ℕ → Type 0
Tells all start place rest cuts first =
    ((first.0 ≡ all) × (cuts ≡ (start, all) ∷ []))
    ⊎ ((place ≤ first.0) × (first.0 < first.1) × (first.1 ≤ all)
    × (cuts ≡ (start, first.0) ∷ cuts_from all first.1 first.1 (lines_of (drop (first.1 - place) rest))))

module _ (all start : ℕ) where
  abbrev TellsOf : ℕ → List ℕ → Type 0
  TellsOf place rest = Tells all start place rest (cuts_from all start place (lines_of rest)) (cut_from all place (lines_of rest))

  -- the last line
  by_last : (place : ℕ) (rest : List ℕ) → place + length rest ≡ all → 0 < length rest → (t : Bool) →
      Tells all start place rest
      (if t then (start, place) ∷ cuts_from all (min (place + length rest + 1) all) (min (place + length rest + 1) all) [] else (start, all) ∷ [])
      (if t then (place, min (place + length rest + 1) all) else (all, all))
  by_last place rest placed some true =
      let ends : min (place + length rest + 1) all ≡ all = omega (arith, placed) in
      let left : min (place + length rest + 1) all - place ≡ length rest = omega (arith, placed, ends) in
      let none : drop (min (place + length rest + 1) all - place) rest ≡ [] = ap (λ n. drop n rest) left ∙ drop-length rest in
      inr (
        omega arith,
        omega (arith, placed, ends),
        omega (arith, ends),
        ap (λ (l : List ℕ). (start, place) ∷ cuts_from all (min (place + length rest + 1) all) (min (place + length rest + 1) all) (lines_of l)) (sym none),
      )
  by_last place rest placed some false = inl (refl, refl)

  -- a line before others
  by_line : (place : ℕ) (rest line more : List ℕ) → place + length rest ≡ all → rest ≡ line ++ 10 ∷ more → TellsOf (place + length line + 1) more → (t : Bool) →
      Tells all start place rest
      (if t then (start, place) ∷ cuts_from all (min (place + length line + 1) all) (min (place + length line + 1) all) (lines_of more)
      else cuts_from all start (place + length line + 1) (lines_of more))
      (if t then (place, min (place + length line + 1) all) else cut_from all (place + length line + 1) (lines_of more))
  by_line place rest line more placed is told true =
      let same = ap length is in
      let long : length rest ≡ length line + (length more + 1) = omega (arith, same, length-append line (10 ∷ more)) in
      let within : min (place + length line + 1) all - place ≡ length line + 1 = omega (arith, placed, long) in
      let left : drop (min (place + length line + 1) all - place) rest ≡ more =
      (λ k. drop (within k) (is k)) ∙ drop-append-add line (10 ∷ more) 1 in
      inr (
        omega arith,
        omega (arith, placed, long),
        omega arith,
        ap (λ (l : List ℕ). (start, place) ∷ cuts_from all (min (place + length line + 1) all) (min (place + length line + 1) all) (lines_of l)) (sym left),
      )
  by_line place rest line more placed is told false = elim told [
    | inl last ↦ inl last
    | inr next ↦
        let end = (cut_from all (place + length line + 1) (lines_of more)).0 in
        let after = (cut_from all (place + length line + 1) (lines_of more)).1 in
        let further : after - place ≡ length line + (after - (place + length line + 1) + 1) = omega (arith, next.0, next.1) in
        let left : drop (after - place) rest ≡ drop (after - (place + length line + 1)) more =
        (λ k. drop (further k) (is k)) ∙ drop-append-add line (10 ∷ more) (after - (place + length line + 1) + 1)
        ∙ ap (λ n. drop n (10 ∷ more)) (add-one (after - (place + length line + 1))) in
        inr (
          omega (arith, next.0),
          next.1,
          next.2,
          next.3 ∙ ap (λ (l : List ℕ). (start, end) ∷ cuts_from all after after (lines_of l)) (sym left),
        )
  ]

  by_cut : (place : ℕ) (rest : List ℕ) → place + length rest ≡ all →
      ((later : ℕ) (more : List ℕ) → length more < length rest → later + length more ≡ all → TellsOf later more) →
      (o : Option (List ℕ × List ℕ)) → IsCut 10 rest o → TellsOf place rest
  by_cut place [] placed again None h = inl (refl, refl)
  by_cut place (b ∷ bs) placed again None h =
      subst (λ (ls : List (List ℕ)). Tells all start place (b ∷ bs) (cuts_from all start place ls) (cut_from all place ls)) (sym (whole b bs h))
      (by_last place (b ∷ bs) placed (omega arith) (is_divider (b ∷ bs)))
  by_cut place rest placed again (Some p) h =
      let same = ap length h.0 in
      let long : length rest ≡ length p.0 + (length p.1 + 1) = omega (arith, same, length-append p.0 (10 ∷ p.1)) in
      subst (λ (ls : List (List ℕ)). Tells all start place rest (cuts_from all start place ls) (cut_from all place ls)) (sym (ap lines_of h.0 ∙ ended p.0 p.1 h.1))
      (by_line place rest p.0 p.1 placed h.0 (again (place + length p.0 + 1) p.1 (omega (arith, long)) (omega (arith, long, placed))) (is_divider p.0))

  -- by so many bytes at most
  tells : (most place : ℕ) (rest : List ℕ) → length rest ≤ most → place + length rest ≡ all → TellsOf place rest
  tells zero place rest few placed =
      by_cut place rest placed (λ later more less at. absurd (omega (arith, less, few))) (cut_at 10 rest) (cut_is 10 rest)
  tells (suc most) place rest few placed =
      by_cut place rest placed (λ later more less at. tells most later more (omega (arith, less, few)) at) (cut_at 10 rest) (cut_is 10 rest)

-- a cut in a text that begins further on
by_further : (s w place : ℕ) (line : List ℕ) (other same : ℕ × ℕ) → other ≡ (s + same.0, s + same.1) → (t : Bool) →
    (if t then (s + place, min (s + place + length line + 1) (s + w)) else other)
    ≡ (s + (if t then (place, min (place + length line + 1) w) else same).0, s + (if t then (place, min (place + length line + 1) w) else same).1)
by_further s w place line other same is true =
    let ends : min (s + place + length line + 1) (s + w) ≡ s + min (place + length line + 1) w = omega arith in ap (λ n. (s + place, n)) ends
by_further s w place line other same is false = is

further : (s w place : ℕ) (lines : List (List ℕ)) →
    cut_from (s + w) (s + place) lines ≡ (s + (cut_from w place lines).0, s + (cut_from w place lines).1)
further s w place [] = refl
further s w place (line ∷ lines) =
    let at : s + place + length line + 1 ≡ s + (place + length line + 1) = omega arith in
    by_further s w place line (cut_from (s + w) (s + place + length line + 1) lines) (cut_from w (place + length line + 1) lines)
    (ap (λ n. cut_from (s + w) n lines) at ∙ further s w (place + length line + 1) lines) (is_divider line)

-- a text from the start on, as a slice of it is told
pub the_rest : (text : List ℕ) (start : ℕ) → take (length text - start) (drop start text) ≡ drop start text
the_rest text start = take_all (length text - start) (drop start text) (omega (arith, length-drop start text))

-- those cuts are made, and what begins at the start is still to be cut
pub record AreCutTo (text : List ℕ) (cuts : List (ℕ × ℕ)) (start : ℕ) : Type 0 where
  pub left : cuts_of text ≡ cuts ++ cuts_from (length text) start start (lines_of (drop start text))
  pub within : AreCuts text cuts
  pub placed : start ≤ length text

pub none_cut : (text : List ℕ) → AreCutTo text [] 0
none_cut text = record { left = refl; within = λ i cut at. cc; placed = omega arith }

cuts_more : (text : List ℕ) (cuts : List (ℕ × ℕ)) (start end : ℕ) → AreCuts text cuts → start ≤ end → end ≤ length text → AreCuts text (cuts ++ (start, end) ∷ [])
cuts_more text cuts start end are begins ends i cut at = elim (at_one_more cuts (start, end) cut i at) [
  | inl before ↦ are i cut before
  | inr last ↦ subst (λ (c : ℕ × ℕ). (c.0 ≤ c.1) × (c.1 ≤ length text)) (sym last.1) (begins, ends)
]

module _ (text : List ℕ) (cuts : List (ℕ × ℕ)) (start : ℕ) (are : AreCutTo text cuts start) (first : ℕ × ℕ) (is : first ≡ cut_of (drop start text)) where
  abbrev all : ℕ
  all = length text

  abbrev rest : List ℕ
  rest = drop start text

  placed : start + length rest ≡ all
  placed = omega (arith, are.placed, length-drop start text)

  told : Tells all start start rest (cuts_from all start start (lines_of rest)) (start + first.0, start + first.1)
  told = subst (Tells all start start rest (cuts_from all start start (lines_of rest))) same (tells all start (length rest) start rest (omega arith) placed)
    where
      here : start ≡ start + 0
      here = omega arith

      same : cut_from all start (lines_of rest) ≡ (start + first.0, start + first.1)
      same = (λ k. cut_from (sym placed k) (here k) (lines_of rest)) ∙ further start (length rest) 0 (lines_of rest) ∙ ap (λ (c : ℕ × ℕ). (start + c.0, start + c.1)) (sym is)

  pub last_within : start + first.0 ≡ all → AreCuts text (cuts ++ (start, start + first.0) ∷ [])
  last_within ends = cuts_more text cuts start (start + first.0) are.within (omega arith) (omega (arith, ends))

  pub last_cut : start + first.0 ≡ all → cuts ++ (start, start + first.0) ∷ [] ≡ cuts_of text
  last_cut ends = elim told [
    | inl last ↦ ap (λ n. cuts ++ (start, n) ∷ []) ends ∙ sym (are.left ∙ ap (λ (cs : List (ℕ × ℕ)). cuts ++ cs) last.1)
    | inr next ↦ absurd (omega (arith, ends, next.1, next.2))
  ]

  pub next_cut : ¬ (start + first.0 ≡ all) → AreCutTo text (cuts ++ (start, start + first.0) ∷ []) (start + first.1) × (first.0 < first.1)
  next_cut goes_on = elim told [
    | inl last ↦ absurd (goes_on last.0)
    | inr next ↦
        let after : start + first.1 - start ≡ first.1 = omega arith in
        let left : drop (start + first.1 - start) rest ≡ drop (start + first.1) text = ap (λ n. drop n rest) after ∙ drop-drop first.1 start text in (
          record {
            left = are.left ∙ ap (λ (cs : List (ℕ × ℕ)). cuts ++ cs) (next.3 ∙ ap (λ (l : List ℕ). (start, start + first.0) ∷ cuts_from all (start + first.1) (start + first.1) (lines_of l)) left)
                ∙ sym (append_assoc cuts ((start, start + first.0) ∷ []) _);
            within = cuts_more text cuts start (start + first.0) are.within (omega arith) (omega (arith, next.1, next.2));
            placed = next.2;
          },
          omega (arith, next.1),
        )
  ]
