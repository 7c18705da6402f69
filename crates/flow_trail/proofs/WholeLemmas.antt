-- What the four calls of an append leave.
use Rattle.std.proofs.Common.{◌≡◌, ◌≢◌, inl, inr, ℕ, ◌+◌, ◌-◌, ◌<◌, List, [], ◌∷◌, ◌++◌, length, get_or, take, drop, refl, sym, ap, subst, ◌∙◌, arith, append_assoc, length-append, length-take, take-append-drop, ne_eqb}
use Rattle.std.proofs.lemmas.Bool.{cases_eq}
use Rattle.std.proofs.lemmas.List.{take_at, drop_at, drop_more, get_or_at}
use Rattle.flow_disk.specs.Disk.{Holds, Torn}
use Rattle.flow_trail.specs.Whole.{HasLines, HasEither, IsSettled, line_of}

-- lines, and behind them a byte that is no brace
pub shut_behind : (lines : List ℕ) (gate : ℕ) (behind : List ℕ) → gate ≢ 123 → HasLines lines (lines ++ gate ∷ behind)
shut_behind lines gate behind shut = (gate ∷ behind, refl, rw (ne_eqb gate 123 shut) refl)

-- a file in three parts: up to a place, the byte there, and what is behind
pub parts : (place : ℕ) (file : List ℕ) → place < length file → file ≡ take place file ++ get_or file place 0 ∷ drop (place + 1) file
parts place file there = sym (take-append-drop place file) ∙ ap (λ (l : List ℕ). take place file ++ l) (drop_more file place 0 there)

module _ (place : ℕ) (seen rest : List ℕ) (there : place < length seen) (shut : get_or seen place 0 ≢ 123) (last : drop (length rest - 1) rest ≡ 10 ∷ []) where
  abbrev pub lines : List ℕ
  lines = take place seen

  abbrev pub gate : ℕ
  gate = get_or seen place 0

  abbrev pub body : List ℕ
  body = take (length rest - 1) rest

  abbrev pub behind : List ℕ
  behind = drop (place + 1 + length rest) seen

  rest_is : rest ≡ body ++ 10 ∷ []
  rest_is = sym (take-append-drop (length rest - 1) rest) ∙ ap (λ (l : List ℕ). body ++ l) last

  long : length lines ≡ place
  long = omega (arith, length-take place seen)

  some : length rest ≡ length body + 1
  some = ap length rest_is ∙ length-append body (10 ∷ [])

  split : seen ≡ (lines ++ gate ∷ []) ++ drop (place + 1) seen
  split = parts place seen there ∙ sym (append_assoc lines (gate ∷ []) (drop (place + 1) seen))

  front : length (lines ++ gate ∷ []) ≡ place + 1
  front = length-append lines (gate ∷ []) ∙ ap (λ n. n + 1) long

  first : take (place + 1) seen ≡ lines ++ gate ∷ []
  first = ap (take (place + 1)) split ∙ take_at (lines ++ gate ∷ []) (drop (place + 1) seen) (place + 1) front

  -- the gate stands in each image of the first write
  pub torn_rest : (c : List ℕ) → Torn (place + 1) (length rest) seen c → HasEither lines (line_of rest) c
  torn_rest c torn =
      let whole : c ≡ lines ++ gate ∷ drop (place + 1) c =
      sym (take-append-drop (place + 1) c) ∙ ap (λ (l : List ℕ). l ++ drop (place + 1) c) (torn.before ∙ first) ∙ append_assoc lines (gate ∷ []) (drop (place + 1) c) in
      inl (subst (HasLines lines) (sym whole) (shut_behind lines gate (drop (place + 1) c) shut))

  -- the file with the line behind the shut gate
  abbrev pub staged : List ℕ
  staged = lines ++ gate ∷ (rest ++ behind)

  pub written_rest : (c : List ℕ) → Holds seen (place + 1) rest c → c ≡ staged
  written_rest c holds =
      holds ∙ ap (λ (l : List ℕ). l ++ rest ++ behind) first ∙ append_assoc (lines ++ gate ∷ []) rest behind ∙ append_assoc lines (gate ∷ []) (rest ++ behind)

  -- the file with the line
  abbrev pub opened : List ℕ
  opened = lines ++ 123 ∷ (rest ++ behind)

  -- it is the lines, the line, and a byte that is no brace
  pub opened_is : opened ≡ (lines ++ line_of rest) ++ 10 ∷ behind
  opened_is =
      ap (λ (l : List ℕ). lines ++ 123 ∷ (l ++ behind)) rest_is ∙ ap (λ (l : List ℕ). lines ++ 123 ∷ l) (append_assoc body (10 ∷ []) behind)
      ∙ sym (append_assoc lines (123 ∷ body) (10 ∷ behind))

  take_front : take place staged ≡ lines
  take_front = take_at lines (gate ∷ (rest ++ behind)) place long

  back : drop (place + 1) staged ≡ rest ++ behind
  back = ap (drop (place + 1)) (sym (append_assoc lines (gate ∷ []) (rest ++ behind))) ∙ drop_at (lines ++ gate ∷ []) (rest ++ behind) (place + 1) front

  -- the line stands whole in each image of the second write, under any gate
  pub torn_gate : (c : List ℕ) → Torn place 1 staged c → HasEither lines (line_of rest) c
  torn_gate c torn =
      let size : length staged ≡ place + length (gate ∷ (rest ++ behind)) = length-append lines (gate ∷ (rest ++ behind)) ∙ ap (λ n. n + length (gate ∷ (rest ++ behind))) long in
      let b = get_or c place 0 in
      let whole : c ≡ lines ++ b ∷ (rest ++ behind) =
      parts place c (omega (arith, torn.no_shorter, size)) ∙ ap (λ (l : List ℕ). l ++ b ∷ drop (place + 1) c) (torn.before ∙ take_front) ∙ ap (λ (l : List ℕ). lines ++ b ∷ l) (torn.after ∙ back) in
      subst (HasEither lines (line_of rest)) (sym whole) (elim (cases_eq b 123) [
        | inl is ↦ inr (10 ∷ behind, ap (λ g. lines ++ g ∷ (rest ++ behind)) is ∙ opened_is, refl)
        | inr other ↦ inl (shut_behind lines b (rest ++ behind) other)
      ])

  pub written_gate : (c : List ℕ) → Holds staged place (123 ∷ []) c → c ≡ opened
  written_gate c holds =
      holds ∙ ap (λ (l : List ℕ). l ++ (123 ∷ []) ++ drop (place + 1) staged) take_front ∙ ap (λ (l : List ℕ). lines ++ (123 ∷ []) ++ l) back
      ∙ append_assoc lines (123 ∷ []) (rest ++ behind)

  more : length (lines ++ line_of rest) ≡ place + length rest
  more = omega (arith, length-append lines (line_of rest), long, some)

  pub opened_lines : (c : List ℕ) → c ≡ opened → take (place + length rest) c ≡ lines ++ line_of rest
  opened_lines c is = ap (take (place + length rest)) (is ∙ opened_is) ∙ take_at (lines ++ line_of rest) (10 ∷ behind) (place + length rest) more

  pub opened_settled : (image : List ℕ → Type 0) (c : List ℕ) → c ≡ opened → ((d : List ℕ) → image d → d ≡ c) → IsSettled (place + length rest) c image
  opened_settled image c is durable =
      let whole : c ≡ (lines ++ line_of rest) ++ 10 ∷ behind = is ∙ opened_is in
      let at : get_or c (place + length rest) 0 ≡ 10 = ap (λ (l : List ℕ). get_or l (place + length rest) 0) whole ∙ get_or_at (lines ++ line_of rest) 10 behind 0 (place + length rest) more in
      record {
        there = omega (arith, ap length whole, length-append (lines ++ line_of rest) (10 ∷ behind), more);
        shut = λ brace. absurd (omega (arith, at, brace));
        durable = durable;
      }
