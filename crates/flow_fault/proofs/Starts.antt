-- Where a line begins.
use Rattle.std.proofs.Common.{◌≡◌, ◌≢◌, ◌≤◌, ◌+◌, ◌-◌, ℕ, zero, suc, Bool, true, false, cond, List, [], ◌∷◌, length, take, drop, sym, ap, subst, ◌∙◌, arith}
use Rattle.std.proofs.lemmas.List.{drop-take, length-drop, take-take}
use Rattle.std.proofs.lemmas.List.Folds.{length-prefix_len}
use Rattle.std.proofs.lemmas.Bool.Decides.{nat_tests}
use Rattle.std.specs.List.{prefix_len}
use Rattle.flow_model.specs.Lists.{Each}
use Rattle.flow_lex.specs.Bytes.{is_in_line}
use Rattle.flow_fault.specs.Lines.{EndsLine, first_line}

in_line : (b : ℕ) → b ≢ 10 → is_in_line b ≡ true
in_line b other = grind (arith, nat_tests)

-- so many bytes without a line feed are all in the first line
front_in_line : (m : ℕ) (text : List ℕ) → m ≤ length text → Each (λ b. b ≢ 10) (take m text) → m ≤ prefix_len is_in_line text
front_in_line zero text within none = omega arith
front_in_line (suc m) [] within none = within
front_in_line (suc m) (b ∷ bs) within none =
    let inner : m ≤ prefix_len is_in_line bs = front_in_line m bs (omega arith) none.1 in
    let one : is_in_line b ≡ true = in_line b none.0 in
    longer (is_in_line b) m (prefix_len is_in_line bs) one inner
  where
    longer : (c : Bool) (m n : ℕ) → c ≡ true → m ≤ n → suc m ≤ cond c (1 + n) 0
    longer true m n e h = omega arith
    longer false m n e h = cc

pub place_in_line : (text : List ℕ) (start place : ℕ) → start ≤ place → place ≤ length text → Each (λ b. b ≢ 10) (drop start (take place text)) →
    place - start ≤ prefix_len is_in_line (drop start text)
place_in_line text start place before within none =
    let m : ℕ = place - start in
    let split : start + m ≡ place = omega arith in
    let same : drop start (take place text) ≡ take m (drop start text) = ap (λ n. drop start (take n text)) (sym split) ∙ drop-take start m text in
    let left : length (drop start text) ≡ length text - start = length-drop start text in
    front_in_line m (drop start text) (omega (arith, left)) (subst (Each (λ b. b ≢ 10)) same none)

-- what the code makes of a place, as what it is
pub spot_begins : (text : List ℕ) (start place : ℕ) → start ≤ place → EndsLine (take start (take place text)) → EndsLine (take start text)
spot_begins text start place before h = subst EndsLine (take-take start place text before) h

pub spot_line : (text the_line rest : List ℕ) (start long : ℕ) → rest ≡ drop start text → long ≡ prefix_len is_in_line rest → the_line ≡ take long rest →
    the_line ≡ first_line (drop start text)
spot_line text the_line rest start long same long_is line_is =
    line_is ∙ ap (λ n. take n rest) long_is ∙ ap first_line same

pub spot_within : (text the_line : List ℕ) (start place : ℕ) → start ≤ place → place ≤ length text →
    Each (λ b. b ≢ 10) (drop start (take place text)) → the_line ≡ first_line (drop start text) → place ≤ start + length the_line
spot_within text the_line start place before within none is =
    let long : length the_line ≡ prefix_len is_in_line (drop start text) = ap (λ (l : List ℕ). length l) is ∙ length-prefix_len is_in_line (drop start text) in
    let far : place - start ≤ prefix_len is_in_line (drop start text) = place_in_line text start place before within none in
    omega (arith, long, far)
