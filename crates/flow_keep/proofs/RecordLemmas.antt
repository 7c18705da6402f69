-- What a file of blocks keeps.
use Rattle.std.proofs.Common.{◌≡◌, ◌≢◌, inl, inr, ℕ, zero, suc, ◌+◌, ◌-◌, ◌*◌, ◌<◌, ◌≤◌, true, false, if◌then◌else◌, List, [], ◌∷◌, ◌++◌, length, get_or, drop, refl, sym, ap, subst, ◌∙◌, arith, append_assoc, length-append, length-drop, take-append-drop, true≢false}
use Rattle.std.proofs.lemmas.Bool.{cases_lt}
use Rattle.std.proofs.lemmas.Bool.Decides.{nat_tests}
use Rattle.std.proofs.lemmas.List.{take_at, drop_at, drop_more, drop-drop, length-take-le, nil_from_length}
use Rattle.flow_model.specs.Lists.{Each}
use Rattle.flow_keep.specs.Records.{is_open, body_at, records_within, records, blocks}

-- each has fifteen bytes
abbrev pub AreBodies : List (List ℕ) → Type 0
AreBodies bodies = Each (λ (body : List ℕ). length body ≡ 15) bodies

pub open_parts : (b : List ℕ) → is_open b ≡ true → (get_or b 0 0 ≡ 1) × (16 < length b)
open_parts b e = grind (arith, nat_tests)

pub open_made : (b : List ℕ) → get_or b 0 0 ≡ 1 → 16 < length b → is_open b ≡ true
open_made b gate long = grind (arith, nat_tests)

pub shut_gate : (b : List ℕ) → get_or b 0 0 ≢ 1 → is_open b ≡ false
shut_gate b shut = grind (arith, nat_tests)

pub shut_end : (b : List ℕ) → length b ≤ 16 → is_open b ≡ false
shut_end b short = grind (arith, nat_tests)

-- more fuel than bytes changes nothing
pub fuel : (n m : ℕ) (b : List ℕ) → length b ≤ n → length b ≤ m → records_within n b ≡ records_within m b
fuel zero zero b p q = refl
fuel zero (suc m) b p q = sym (ap (λ t. if t then body_at b ∷ records_within m (drop 16 b) else []) (shut_end b (omega arith)))
fuel (suc n) zero b p q = ap (λ t. if t then body_at b ∷ records_within n (drop 16 b) else []) (shut_end b (omega arith))
fuel (suc n) (suc m) b p q = elim (is_open b) as (λ t. is_open b ≡ t → (if t then body_at b ∷ records_within n (drop 16 b) else []) ≡ (if t then body_at b ∷ records_within m (drop 16 b) else [])) [
  | true ↦ λ e.
      let long = (open_parts b e).1 in
      let left = length-drop 16 b in
      ap (λ (l : List (List ℕ)). body_at b ∷ l) (fuel n m (drop 16 b) (omega arith) (omega arith))
  | false ↦ λ e. refl
] refl

-- the first record, if it is open, and the others
pub records_open : (b : List ℕ) → is_open b ≡ true → records b ≡ body_at b ∷ records (drop 16 b)
records_open [] e = absurd (true≢false (sym e))
records_open (x ∷ xs) e =
    let b = x ∷ xs in
    let long : 16 < length b = (open_parts b e).1 in
    let left : length (drop 16 b) ≡ length b - 16 = length-drop 16 b in
    ap (λ t. if t then body_at b ∷ records_within (length xs) (drop 16 b) else []) e
    ∙ ap (λ (l : List (List ℕ)). body_at b ∷ l) (fuel (length xs) (length (drop 16 b)) (drop 16 b) (omega arith) (omega arith))

pub records_shut : (b : List ℕ) → is_open b ≡ false → records b ≡ []
records_shut [] e = refl
records_shut (x ∷ xs) e = ap (λ t. if t then body_at (x ∷ xs) ∷ records_within (length xs) (drop 16 (x ∷ xs)) else []) e

pub length-blocks : (bodies : List (List ℕ)) → AreBodies bodies → length (blocks bodies) ≡ 16 * length bodies
length-blocks [] all = refl
length-blocks (body ∷ bodies) all = omega (arith, all.0, length-append body (blocks bodies), length-blocks bodies all.1)

-- behind some blocks the records are those of the rest
pub records_behind : (bodies : List (List ℕ)) (rest : List ℕ) → AreBodies bodies → 0 < length rest → records (blocks bodies ++ rest) ≡ bodies ++ records rest
records_behind [] rest all some = refl
records_behind (body ∷ bodies) rest all some =
    let more = blocks bodies ++ rest in
    let whole = 1 ∷ (body ++ more) in
    let same : blocks (body ∷ bodies) ++ rest ≡ whole = ap (λ (l : List ℕ). 1 ∷ l) (append_assoc body (blocks bodies) rest) in
    let long : 16 < length whole = omega (arith, all.0, length-append body more, length-append (blocks bodies) rest) in
    let here : body_at whole ≡ body = take_at body more 15 all.0 in
    let next : drop 16 whole ≡ more = drop_at body more 15 all.0 in
    ap records same ∙ records_open whole (open_made whole refl long) ∙ ap (λ (l : List ℕ). l ∷ records (drop 16 whole)) here ∙ ap (λ (l : List ℕ). body ∷ records l) next
    ∙ ap (λ (l : List (List ℕ)). body ∷ l) (records_behind bodies rest all.1 some)

-- a file is the blocks of its records, and a rest that begins with none
pub record Parts (file : List ℕ) : Type 0 where
  pub rest : List ℕ
  pub split : file ≡ blocks (records file) ++ rest
  pub shut : is_open rest ≡ false
  pub bodies : AreBodies (records file)
  pub some : 0 < length (records file) → 0 < length rest

some_left : (file : List ℕ) (p : Parts file) → 0 < length file → 0 < length p.rest
some_left file p long = elim (cases_lt 0 (length (records file))) [
  | inl more ↦ p.some more
  | inr none ↦
      let empty : records file ≡ [] = nil_from_length (records file) (omega (arith, none)) in
      let same = ap (λ (l : List ℕ). length l) (p.split ∙ ap (λ (l : List (List ℕ)). blocks l ++ p.rest) empty) in
      omega (arith, same, long)
]

parts_within : (n : ℕ) (file : List ℕ) → length file ≤ n → Parts file
parts_within zero file p =
    let shut = shut_end file (omega arith) in
    let none = records_shut file shut in
    record { rest = file; split = ap (λ (l : List (List ℕ)). blocks l ++ file) (sym none); shut = shut; bodies = subst AreBodies (sym none) tt; some = λ more. absurd (let l = ap (λ (l : List (List ℕ)). length l) none in omega (arith, more, l)) }
parts_within (suc n) file p = elim (is_open file) as (λ t. is_open file ≡ t → Parts file) [
  | true ↦ λ e.
      let long = (open_parts file e).1 in
      let left = length-drop 16 file in
      let more = parts_within n (drop 16 file) (omega arith) in
      let here = records_open file e in
      let body = body_at file in
      let fifteen : length body ≡ 15 = length-take-le 15 (drop 1 file) (omega (arith, length-drop 1 file)) in
      let front : file ≡ 1 ∷ (body ++ drop 16 file) =
      drop_more file 0 0 (omega arith) ∙ ap (λ g. g ∷ drop 1 file) (open_parts file e).0
      ∙ ap (λ (l : List ℕ). 1 ∷ l) (sym (take-append-drop 15 (drop 1 file)) ∙ ap (λ (l : List ℕ). body ++ l) (drop-drop 15 1 file)) in
      record {
        rest = more.rest;
        split = front ∙ ap (λ (l : List ℕ). 1 ∷ (body ++ l)) more.split ∙ ap (λ (l : List ℕ). 1 ∷ l) (sym (append_assoc body (blocks (records (drop 16 file))) more.rest))
            ∙ ap (λ (l : List (List ℕ)). blocks l ++ more.rest) (sym here);
        shut = more.shut;
        bodies = subst AreBodies (sym here) (fifteen, more.bodies);
        some = λ x. some_left (drop 16 file) more (omega (arith, left, long));
      }
  | false ↦ λ e.
      let none = records_shut file e in
      record { rest = file; split = ap (λ (l : List (List ℕ)). blocks l ++ file) (sym none); shut = e; bodies = subst AreBodies (sym none) tt; some = λ more. absurd (let l = ap (λ (l : List (List ℕ)). length l) none in omega (arith, more, l)) }
] refl

pub parts : (file : List ℕ) → Parts file
parts file = parts_within (length file) file (omega arith)

-- the records behind so many of them
pub records_from : (file : List ℕ) (k : ℕ) (front : List (List ℕ)) → records file ≡ front ++ records (drop (16 * k) file) →
    is_open (drop (16 * k) file) ≡ true → records file ≡ (front ++ body_at (drop (16 * k) file) ∷ []) ++ records (drop (16 * (k + 1)) file)
records_from file k front so_far open_now =
    let here = drop (16 * k) file in
    let next : drop 16 here ≡ drop (16 * (k + 1)) file = drop-drop 16 (16 * k) file ∙ ap (λ n. drop n file) (omega arith) in
    so_far ∙ ap (λ (l : List (List ℕ)). front ++ l) (records_open here open_now ∙ ap (λ (l : List ℕ). body_at here ∷ records l) next)
    ∙ sym (append_assoc front (body_at here ∷ []) (records (drop (16 * (k + 1)) file)))
