-- Texts cut at a byte, and the first line of a text with what stands after it.
use Rattle.std.proofs.Common.{◌≡◌, ℕ, suc, ◌<◌, Bool, true, false, not, List, [], ◌∷◌, ◌++◌, get_or, length, take, drop, refl, sym, ◌∙◌, ap, subst, one-add, eqb-true, eq-eqb, ne_eqb, length-append, if◌then◌else◌, arith, Option, Some, None, inl, inr}
use Rattle.std.specs.Prelude.{◌==◌}
use Rattle.std.specs.List.{position, position_or_len, list_all}
use Rattle.std.specs.Option.{option_map}
use Rattle.std.proofs.lemmas.List.Sums.{position_or_len_is}
use Rattle.memchr.specs.Find.{IsFirstByte, is_byte}
use Rattle.std.proofs.lemmas.Bool.{and_parts, and_from, and_right, not-true, lt-ltb, le-ltb, cases_Bool, cases_lt}
use Rattle.flow_record.specs.Lines.{with_byte, stripped, without_returns, lines_of, cut_at, pieces_of}

-- no such byte stands in the text
abbrev pub lacks : ℕ → List ℕ → Bool
lacks byte text = list_all (λ b. not (b == byte)) text

-- the byte before those that lack it is another
pub first_other : (byte b : ℕ) (bs : List ℕ) → lacks byte (b ∷ bs) ≡ true → (b == byte) ≡ false
first_other byte b bs h = not-true (b == byte) (and_parts (not (b == byte)) (lacks byte bs) h).0

pub others_lack : (byte b : ℕ) (bs : List ℕ) → lacks byte (b ∷ bs) ≡ true → lacks byte bs ≡ true
others_lack byte b bs h = (and_parts (not (b == byte)) (lacks byte bs) h).1

-- a text that is cut is its two parts, the first of which lacks the byte; one that is not lacks it
abbrev pub IsCut : ℕ → List ℕ → Option (List ℕ × List ℕ) → Type 0
IsCut byte text None = lacks byte text ≡ true
IsCut byte text (Some p) = (text ≡ p.0 ++ byte ∷ p.1) × (lacks byte p.0 ≡ true)

pub cut_is : (byte : ℕ) (text : List ℕ) → IsCut byte text (cut_at byte text)
cut_is byte [] = refl
cut_is byte (b ∷ bs) = step (b == byte) refl (cut_at byte bs) (cut_is byte bs)
  where
    step : (t : Bool) → (b == byte) ≡ t → (o : Option (List ℕ × List ℕ)) → IsCut byte bs o →
        IsCut byte (b ∷ bs) (if t then Some ([], bs) else option_map (with_byte b) o)
    step true e o h = (ap (λ n. n ∷ bs) (eqb-true b byte e), refl)
    step false e None h = and_from (not (b == byte)) (lacks byte bs) (rw e refl) h
    step false e (Some p) h = (ap (λ (l : List ℕ). b ∷ l) h.0, and_from (not (b == byte)) (lacks byte p.0) (rw e refl) h.1)

pub parts_are : (byte : ℕ) (text x y : List ℕ) → cut_at byte text ≡ Some (x, y) → (text ≡ x ++ byte ∷ y) × (lacks byte x ≡ true)
parts_are byte text x y e = subst (IsCut byte text) e (cut_is byte text)

pub uncut_lacks : (byte : ℕ) (text : List ℕ) → cut_at byte text ≡ None → lacks byte text ≡ true
uncut_lacks byte text e = subst (IsCut byte text) e (cut_is byte text)

-- the first place of a byte, as a search tells it

not_passed : (b : Bool) → ¬ (b ≡ true) → b ≡ false
not_passed true none = absurd (none refl)
not_passed false none = refl

pub first_place : (byte : ℕ) (text : List ℕ) (found : Option ℕ) → IsFirstByte (is_byte byte) text found → found ≡ position (λ b. b == byte) text
first_place byte text None none =
    let at : position_or_len (λ b. b == byte) text ≡ length text =
    position_or_len_is (λ b. b == byte) text (length text) 0 (omega arith) (λ k below. not_passed (get_or text k 0 == byte) (none k (omega arith) below)) (λ below. absurd (omega arith)) in
    rw (at, le-ltb (length text) (length text) (omega arith)) refl
first_place byte text (Some k) (first, passes) =
    let at : position_or_len (λ b. b == byte) text ≡ k =
    position_or_len_is (λ b. b == byte) text k 0 (omega (arith, first.high)) (λ j below. not_passed (get_or text j 0 == byte) (first.before j (omega arith) below)) (λ below. passes) in
    rw (at, lt-ltb k (length text) first.high) refl

-- it is cut at the first place of the byte
pub cut_at_place : (byte : ℕ) (text : List ℕ) → cut_at byte text ≡ option_map (λ n. (take n text, drop (suc n) text)) (position (λ b. b == byte) text)
cut_at_place byte [] = refl
cut_at_place byte (b ∷ bs) = elim (cases_Bool (b == byte)) [
  | inl e ↦ rw (e, lt-ltb 0 (suc (length bs)) (omega arith)) refl
  | inr e ↦ elim (cases_lt (position_or_len (λ c. c == byte) bs) (length bs)) [
    | inl l ↦ rw (e, one-add, cut_at_place byte bs, lt-ltb _ _ l, lt-ltb (suc (position_or_len (λ c. c == byte) bs)) (suc (length bs)) (omega arith)) refl
    | inr l ↦ rw (e, one-add, cut_at_place byte bs, le-ltb _ _ l, le-ltb (suc (position_or_len (λ c. c == byte) bs)) (suc (length bs)) (omega arith)) refl
  ]
]

-- parts that are joined are cut again
pub cut_there : (byte : ℕ) (x y : List ℕ) → lacks byte x ≡ true → cut_at byte (x ++ byte ∷ y) ≡ Some (x, y)
cut_there byte [] y h = rw (eq-eqb byte byte refl) refl
cut_there byte (b ∷ x) y h = rw (first_other byte b x h, cut_there byte x y (others_lack byte b x h)) refl

-- the pieces of a text that is cut, and of one that is not
pub pieces_cut : (byte : ℕ) (x y : List ℕ) → lacks byte x ≡ true → pieces_of byte (x ++ byte ∷ y) ≡ x ∷ pieces_of byte y
pieces_cut byte [] y h = rw (eq-eqb byte byte refl) refl
pieces_cut byte (b ∷ x) y h = rw (first_other byte b x h, pieces_cut byte x y (others_lack byte b x h)) refl

pub pieces_whole : (byte : ℕ) (text : List ℕ) → lacks byte text ≡ true → pieces_of byte text ≡ text ∷ []
pieces_whole byte [] h = refl
pieces_whole byte (b ∷ bs) h = rw (first_other byte b bs h, pieces_whole byte bs (others_lack byte b bs h)) refl

-- there is a piece
pub some_piece : (byte : ℕ) (text : List ℕ) → (piece : List ℕ) × ((pieces : List (List ℕ)) × (pieces_of byte text ≡ piece ∷ pieces))
some_piece byte text = by_cut (cut_at byte text) (cut_is byte text)
  where
    by_cut : (o : Option (List ℕ × List ℕ)) → IsCut byte text o → (piece : List ℕ) × ((pieces : List (List ℕ)) × (pieces_of byte text ≡ piece ∷ pieces))
    by_cut None h = (text, ([], pieces_whole byte text h))
    by_cut (Some p) h = (p.0, (pieces_of byte p.1, ap (pieces_of byte) h.0 ∙ pieces_cut byte p.0 p.1 h.1))

-- ---- lines

pulled : (t : Bool) (b : ℕ) (x y : List ℕ) → b ∷ (if t then x else y) ≡ (if t then b ∷ x else b ∷ y)
pulled true b x y = refl
pulled false b x y = refl

-- a line by its last byte
stripped-last : (front : List ℕ) (last : ℕ) →
    stripped (front ++ last ∷ []) ≡ (if last == 13 then front else front ++ last ∷ [])
stripped-last [] last = refl
stripped-last (b ∷ []) last = pulled (last == 13) b [] (last ∷ [])
stripped-last (b ∷ c ∷ bs) last =
    rw (stripped-last (c ∷ bs) last) (pulled (last == 13) b (c ∷ bs) (c ∷ (bs ++ last ∷ [])))

-- a line whose last byte is a carriage return
pub with_return : (line front : List ℕ) (last : ℕ) → line ≡ front ++ last ∷ [] → last ≡ 13 → front ≡ stripped line
with_return line front last e f = rw (e, stripped-last front last, f) refl

-- a line whose last byte is none
pub with_no_return : (line front : List ℕ) (last : ℕ) → line ≡ front ++ last ∷ [] → (last ≡ 13 → ⊥) → line ≡ stripped line
with_no_return line front last e f = rw (e, stripped-last front last, ne_eqb last 13 f) refl

abbrev lines_in : List ℕ → List (List ℕ)
lines_in text = lines_of (without_returns text)

-- a line that a line feed ends
ended : (x y : List ℕ) → lacks 10 x ≡ true → lines_in (x ++ 10 ∷ y) ≡ stripped x ∷ lines_in y
ended [] y h = refl
ended (b ∷ []) y h = grind (arith, cases_Bool (b == 13), first_other 10 b [] h)
ended (b ∷ c ∷ bs) y h =
    let more = others_lack 10 b (c ∷ bs) h in
    rw (first_other 10 c bs more, and_right (b == 13) false refl, first_other 10 b (c ∷ bs) h, ended (c ∷ bs) y more) refl

-- a text that no line feed ends is its only line
whole : (text : List ℕ) → 0 < length text → lacks 10 text ≡ true → lines_in text ≡ text ∷ []
whole [] some h = absurd (omega arith)
whole (b ∷ []) some h = rw (and_right (b == 13) false refl, first_other 10 b [] h) refl
whole (b ∷ c ∷ cs) some h =
    let more = others_lack 10 b (c ∷ cs) h in
    rw (first_other 10 c cs more, and_right (b == 13) false refl, first_other 10 b (c ∷ cs) h, whole (c ∷ cs) (omega arith) more) refl

-- the first line of a text that is cut at a line feed, and of one that is not
pub split_at_feed : (text line more front : List ℕ) → cut_at 10 text ≡ Some (line, more) → front ≡ stripped line →
    (lines_of (without_returns text) ≡ front ∷ lines_of (without_returns more)) × (length more < length text)
split_at_feed text line more front cut is =
    let (parts, lack) = parts_are 10 text line more cut in
    (ap lines_in parts ∙ ended line more lack ∙ ap (λ (l : List ℕ). l ∷ lines_in more) (sym is), (let same = ap length parts in omega (arith, length-append line (10 ∷ more))))

pub unsplit : (text : List ℕ) → 0 < length text → cut_at 10 text ≡ None → lines_of (without_returns text) ≡ text ∷ []
unsplit text some none = whole text some (uncut_lacks 10 text none)

-- a text that is not empty has a line
pub some_line : (text : List ℕ) → 0 < length text →
    (line : List ℕ) × ((lines : List (List ℕ)) × (lines_of (without_returns text) ≡ line ∷ lines))
some_line text some = by_cut (cut_at 10 text) (cut_is 10 text)
  where
    by_cut : (o : Option (List ℕ × List ℕ)) → IsCut 10 text o → (line : List ℕ) × ((lines : List (List ℕ)) × (lines_of (without_returns text) ≡ line ∷ lines))
    by_cut None h = (text, ([], whole text some h))
    by_cut (Some p) h = (stripped p.0, (lines_in p.1, ap lines_in h.0 ∙ ended p.0 p.1 h.1))
