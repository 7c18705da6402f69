-- A line that is told.
use Rattle.std.proofs.Common.{◌≡◌, inl, inr, ℕ, ◌+◌, ◌-◌, List, [], ◌∷◌, ◌++◌, length, take, drop, get_or, append-nil, refl, sym, ◌∙◌, ap, subst, append_assoc, length-append, length-take, length-drop, arith, true, false, Result, Ok, Err, OnOk}
use Rattle.std.proofs.lemmas.List.{take_at, drop_at}
use Rattle.std.specs.Result.{is_err}
use Rattle.flow_disk.specs.Disk.{Leaves}
use Rattle.flow_trail.specs.declared.line.TrailEnd.{TrailEnd}
use Rattle.flow_trail.specs.Whole.{HasLines, HasEither, IsSettled, line_of}
use Rattle.flow_trail.specs.Lines.{Said, CanFollow, line_text, end_behind, end_of, trail_text, AreInOrder, Says}
use Rattle.flow_trail.specs.Kept.{SaysEither, HoldsLines}
use Rattle.flow_trail.specs.Read.{IsReadTo}
use Rattle.flow_trail.proofs.MomentLemmas.{started, weaker}
use Rattle.flow_trail.proofs.WholeLemmas.{parts, shut_behind}
use Rattle.flow_trail.proofs.ReadLemmas.{line_more}

-- what is written behind the gate of a line
pub rest_is : (line r rest : List ℕ) → line ≡ 123 ∷ r → rest ≡ drop 1 (line ++ 10 ∷ 10 ∷ []) → (line_of rest ≡ line ++ 10 ∷ []) × (drop (length rest - 1) rest ≡ 10 ∷ [])
rest_is line r rest brace is =
    let whole : rest ≡ (r ++ 10 ∷ []) ++ 10 ∷ [] = is ∙ ap (λ (l : List ℕ). drop 1 (l ++ 10 ∷ 10 ∷ [])) brace ∙ sym (append_assoc r (10 ∷ []) (10 ∷ [])) in
    let size : length (r ++ 10 ∷ []) ≡ length rest - 1 = omega (arith, ap length whole, length-append (r ++ 10 ∷ []) (10 ∷ [])) in (
      ap (λ (l : List ℕ). 123 ∷ l) (ap (take (length rest - 1)) whole ∙ take_at (r ++ 10 ∷ []) (10 ∷ []) (length rest - 1) size) ∙ ap (λ (l : List ℕ). l ++ 10 ∷ []) (sym brace),
      ap (drop (length rest - 1)) whole ∙ drop_at (r ++ 10 ∷ []) (10 ∷ []) (length rest - 1) size,
    )

-- the lines of a trail, one more told
module _ (e : TrailEnd) (saying : List Said) (said : Said) (order : AreInOrder e saying) (follows : CanFollow (end_of e saying) said) where
  more : IsReadTo e (trail_text e (saying ++ said ∷ [])) (saying ++ said ∷ []) (end_behind (end_of e saying) said) []
  more =
      let start : IsReadTo e (trail_text e saying ++ (line_text (end_of e saying) said ++ 10 ∷ [])) saying (end_of e saying) (line_text (end_of e saying) said ++ 10 ∷ []) =
      record { in_order = order; ends = refl; split = refl } in
      let next = line_more e (end_of e saying) _ _ [] saying said start refl follows in
      record { in_order = next.in_order; ends = next.ends; split = sym (append-nil _) }

  pub order_more : AreInOrder e (saying ++ said ∷ [])
  order_more = more.in_order

  pub end_more : end_behind (end_of e saying) said ≡ end_of e (saying ++ said ∷ [])
  end_more = more.ends

  pub text_more : trail_text e (saying ++ said ∷ []) ≡ trail_text e saying ++ (line_text (end_of e saying) said ++ 10 ∷ [])
  text_more =
      let start : IsReadTo e (trail_text e saying ++ (line_text (end_of e saying) said ++ 10 ∷ [])) saying (end_of e saying) (line_text (end_of e saying) said ++ 10 ∷ []) =
      record { in_order = order; ends = refl; split = refl } in
      sym ((line_more e (end_of e saying) _ _ [] saying said start refl follows).split ∙ append-nil _)

  pub either : (front line : List ℕ) → front ≡ trail_text e saying → line ≡ line_text (end_of e saying) said ++ 10 ∷ [] → (c : List ℕ) → HasEither front line c → SaysEither e saying said c
  either front line same is c (inl has) = inl (record { in_order = order; lines = subst (λ (l : List ℕ). HasLines l c) same has })
  either front line same is c (inr has) =
      let both : front ++ line ≡ trail_text e (saying ++ said ∷ []) = ap (λ (l : List ℕ). l ++ line) same ∙ ap (λ (l : List ℕ). trail_text e saying ++ l) is ∙ sym text_more in
      inr (record { in_order = order_more; lines = subst (λ (l : List ℕ). HasLines l c) both has })

-- what holds of a trail at rest
pub held_says : (e : TrailEnd) (saying : List Said) (place : ℕ) (seen : List ℕ) (image : List ℕ → Type 0) → AreInOrder e saying → HoldsLines e saying place seen image →
    (c : List ℕ) → image c → Says e saying c
held_says e saying place seen image order held c i =
    let s = held.settled in
    let whole : c ≡ trail_text e saying ++ get_or seen place 0 ∷ drop (place + 1) seen = s.durable c i ∙ parts place seen s.there ∙ ap (λ (l : List ℕ). l ++ get_or seen place 0 ∷ drop (place + 1) seen) held.lines in
    record { in_order = order; lines = subst (HasLines (trail_text e saying)) (sym whole) (shut_behind (trail_text e saying) (get_or seen place 0) (drop (place + 1) seen) s.shut) }

-- the calls of a trail that is told a line
module _ {D : Type 0} (moment : D → ℕ) (image : D → ℕ → List ℕ → Type 0) (seen : D → List ℕ) (e : TrailEnd) (saying : List Said) (said : Said) (place : ℕ) (order : AreInOrder e saying) where
  abbrev Held : D → Type 0
  Held d = HoldsLines e saying place (seen d) (image d (moment d))

  -- none was made
  pub nothing : (d : D) → Held d → Leaves moment image d d (SaysEither e saying said)
  nothing d held = started moment image d (SaysEither e saying said) (λ c i. inl (held_says e saying place (seen d) (image d (moment d)) order held c i))

  module _ (follows : CanFollow (end_of e saying) said) (rest : List ℕ) (line : line_of rest ≡ line_text (end_of e saying) said ++ 10 ∷ []) (old new : D) (held : Held old) where
    pub told_leaves : Leaves moment image old new (HasEither (take place (seen old)) (line_of rest)) → Leaves moment image old new (SaysEither e saying said)
    told_leaves calls = weaker moment image old new (HasEither (take place (seen old)) (line_of rest)) (SaysEither e saying said) (either e saying said order follows (take place (seen old)) (line_of rest) held.lines line) calls

    pub held_more : IsSettled (place + length rest) (seen new) (image new (moment new)) → take (place + length rest) (seen new) ≡ take place (seen old) ++ line_of rest →
        HoldsLines e (saying ++ said ∷ []) (place + length rest) (seen new) (image new (moment new))
    held_more settled written = record {
      settled = settled;
      lines = written ∙ ap (λ (l : List ℕ). l ++ line_of rest) held.lines ∙ ap (λ (l : List ℕ). trail_text e saying ++ l) line ∙ sym (text_more e saying said order follows);
    }

-- how many bytes the lines take, one more told
pub place_more : (e : TrailEnd) (saying : List Said) (said : Said) (place : ℕ) (rest : List ℕ) → AreInOrder e saying → CanFollow (end_of e saying) said → place ≡ length (trail_text e saying) →
    line_of rest ≡ line_text (end_of e saying) said ++ 10 ∷ [] → drop (length rest - 1) rest ≡ 10 ∷ [] → place + length rest ≡ length (trail_text e (saying ++ said ∷ []))
place_more e saying said place rest order follows is line shut =
    let text = ap length (text_more e saying said order follows) ∙ length-append (trail_text e saying) (line_text (end_of e saying) said ++ 10 ∷ []) in
    let size = ap length line in
    let some = length-drop (length rest - 1) rest in
    let one = ap length shut in
    let front = length-take (length rest - 1) rest in
    omega arith

-- what a result that is no error ensures
pub on_ok : {E : Type 0} (r : Result (Unit {0}) E) (P : Type 0) → is_err r ≡ false → OnOk r P → P
on_ok (Ok v) P none h = h
on_ok (Err e) P none h = let f : true ≡ false = none in cc
