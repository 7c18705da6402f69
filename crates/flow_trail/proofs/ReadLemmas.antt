-- A trail read line by line.
use Rattle.std.proofs.Common.{◌≡◌, ℕ, ◌+◌, ◌<◌, true, false, not, List, [], ◌∷◌, ◌++◌, map, length, get_or, ne_eqb, MatchOption, refl, sym, ◌∙◌, ap, subst, append_assoc, length-append, eq-eqb, arith, Option, Some, None}
use Rattle.std.specs.Prelude.{◌==◌}
use Rattle.std.specs.List.{list_any}
use Rattle.std.proofs.lemmas.Bool.{and_parts, not-true, cases_Bool}
use Rattle.std.proofs.lemmas.List.{map-append}
use Rattle.flow_record.specs.Lines.{cut_at, pieces_of}
use Rattle.flow_record.proofs.LineLemmas.{lacks, parts_are, uncut_lacks, cut_there, pieces_cut, pieces_whole}
use Rattle.flow_trail.specs.declared.line.TrailEnd.{TrailEnd}
use Rattle.flow_trail.specs.Whole.{is_open}
use Rattle.flow_trail.specs.Lines.{Said, said_of, IsSayable, CanFollow, line_text, end_behind, end_of, trail_text, AreInOrder, Says}
use Rattle.flow_trail.specs.declared.line.TrailLine.{TrailLine}
use Rattle.flow_trail.specs.Read.{IsRead, IsBadLine, IsReadTo}
use Rattle.flow_trail.proofs.PickLemmas.{line_lacks}

-- ---- pieces

-- one piece more
pub piece_more : {X : Type 0} (now : X → List ℕ) (text rest more : List ℕ) (items : List X) (x : X) →
    pieces_of 34 text ≡ map now items ++ pieces_of 34 rest → cut_at 34 rest ≡ Some (now x, more) → pieces_of 34 text ≡ map now (items ++ x ∷ []) ++ pieces_of 34 more
piece_more now text rest more items x so_far cut =
    let (is, plain) = parts_are 34 rest (now x) more cut in
    so_far ∙ ap (λ (l : List ℕ). map now items ++ pieces_of 34 l) is ∙ ap (λ (l : List (List ℕ)). map now items ++ l) (pieces_cut 34 (now x) more plain)
    ∙ sym (append_assoc (map now items) (now x ∷ []) (pieces_of 34 more)) ∙ ap (λ (l : List (List ℕ)). l ++ pieces_of 34 more) (sym (map-append now items (x ∷ [])))

-- ---- the first line

lacks_any : (byte : ℕ) (text : List ℕ) → lacks byte text ≡ true → list_any (λ b. b == byte) text ≡ false
lacks_any byte [] h = refl
lacks_any byte (b ∷ bs) h = let both = and_parts (not (b == byte)) (lacks byte bs) h in rw (not-true (b == byte) both.0, lacks_any byte bs both.1) refl

has_any : (byte : ℕ) (x y : List ℕ) → list_any (λ b. b == byte) (x ++ byte ∷ y) ≡ true
has_any byte [] y = rw (eq-eqb byte byte refl) refl
has_any byte (b ∷ x) y = grind (arith, cases_Bool (b == byte), has_any byte x y)

abbrev head_of : List ℕ → ℕ
head_of [] = 0
head_of (b ∷ bs) = b

zero_no : (a : ℕ) → a ≡ 123 → a ≡ 0 → ⊥
zero_no a one other = omega arith

apart : (a b : ℕ) → a ≡ b → a ≡ 123 → b ≡ 10 → ⊥
apart a b same one other = omega arith

abbrev first_part : Option (List ℕ × List ℕ) → List ℕ
first_part None = []
first_part (Some parts) = parts.0

-- a text that begins with a brace: no line begins there, or one does
pub uncut : (bytes : List ℕ) → cut_at 10 bytes ≡ None → is_open bytes ≡ false
uncut [] cut = refl
uncut (b ∷ bs) cut =
    let both = and_parts (not (b == 10)) (lacks 10 bs) (uncut_lacks 10 (b ∷ bs) cut) in
    grind (arith, cases_Bool (b == 123), lacks_any 10 bs both.1)

pub opens : (rest line more : List ℕ) → cut_at 10 (123 ∷ rest) ≡ Some (line, more) → is_open (123 ∷ rest) ≡ true
opens rest line more cut = by_line line (parts_are 10 (123 ∷ rest) line more cut)
  where
    by_line : (line : List ℕ) → ((123 ∷ rest) ≡ line ++ 10 ∷ more) × (lacks 10 line ≡ true) → is_open (123 ∷ rest) ≡ true
    by_line [] (is, plain) = absurd (apart 123 10 (ap head_of is) refl refl)
    by_line (b ∷ bs) (is, plain) = let tail : rest ≡ bs ++ 10 ∷ more = cc in ap (λ (l : List ℕ). is_open (123 ∷ l)) tail ∙ has_any 10 bs more

-- a text by its first byte
pub by_brace : (bytes line more : List ℕ) → get_or bytes 0 0 ≡ 123 → cut_at 10 bytes ≡ Some (line, more) → is_open bytes ≡ true
by_brace [] line more brace cut = absurd (zero_no (get_or {A = ℕ} [] 0 0) brace refl)
by_brace (b ∷ bs) line more brace cut = ap (λ n. is_open (n ∷ bs)) brace ∙ opens bs line more (ap (λ n. cut_at 10 (n ∷ bs)) (sym brace) ∙ cut)

pub not_brace : (bytes : List ℕ) → ¬ (get_or bytes 0 0 ≡ 123) → is_open bytes ≡ false
not_brace [] other = refl
not_brace (b ∷ bs) other = rw (ne_eqb b 123 other) refl

-- where a text is cut, what stands there
pub first_there : {X : Type 0} (front more : X → List ℕ) (bytes : List ℕ) (o : Option X) → get_or bytes 0 0 ≡ 123 →
    MatchOption o (cut_at 10 bytes ≡ None) (λ p. cut_at 10 bytes ≡ Some (front p, more p)) →
    MatchOption o (is_open bytes ≡ false) (λ p. (is_open bytes ≡ true) × (bytes ≡ front p ++ 10 ∷ more p) × (lacks 10 (front p) ≡ true))
first_there front more bytes None brace cut = uncut bytes cut
first_there front more bytes (Some p) brace cut =
    let parts = parts_are 10 bytes (front p) (more p) cut in (by_brace bytes (front p) (more p) brace cut, parts.0, parts.1)

-- what is left is less
pub shorter : (byte : ℕ) (rest front more : List ℕ) → cut_at byte rest ≡ Some (front, more) → length more < length rest
shorter byte rest front more cut = let is = ap length (parts_are byte rest front more cut).0 in omega (arith, is, length-append front (byte ∷ more))

-- the last piece
pub last_piece : {X : Type 0} (now : X → List ℕ) (text : List ℕ) (items : List X) (x : X) →
    pieces_of 34 text ≡ map now items ++ pieces_of 34 (now x) → cut_at 34 (now x) ≡ None → map now (items ++ x ∷ []) ≡ pieces_of 34 text
last_piece now text items x so_far cut =
    map-append now items (x ∷ []) ∙ ap (λ (l : List (List ℕ)). map now items ++ l) (sym (pieces_whole 34 (now x) (uncut_lacks 34 (now x) cut))) ∙ sym so_far

-- ---- lines

-- where lines end, one line more
pub end_append : (said : Said) (e : TrailEnd) (saying : List Said) → end_of e (saying ++ said ∷ []) ≡ end_behind (end_of e saying) said
end_append said e [] = refl
end_append said e (x ∷ xs) = end_append said (end_behind e x) xs

-- one line more
pub line_more : (e now : TrailEnd) (file rest more : List ℕ) (saying : List Said) (said : Said) → IsReadTo e file saying now rest →
    rest ≡ line_text now said ++ 10 ∷ more → CanFollow now said → IsReadTo e file (saying ++ said ∷ []) (end_behind now said) more
line_more e now file rest more saying said read is follows = record {
  in_order = order e saying read.in_order (subst (λ n. CanFollow n said) read.ends follows);
  ends = ap (λ n. end_behind n said) read.ends ∙ sym (end_append said e saying);
  split = read.split ∙ ap (λ (l : List ℕ). trail_text e saying ++ l) (is ∙ ap (λ n. line_text n said ++ 10 ∷ more) read.ends) ∙ sym (text e saying more);
}
  where
    order : (e : TrailEnd) (saying : List Said) → AreInOrder e saying → CanFollow (end_of e saying) said → AreInOrder e (saying ++ said ∷ [])
    order e [] all last = (last, tt)
    order e (x ∷ xs) all last = (all.0, order (end_behind e x) xs all.1 last)

    text : (e : TrailEnd) (saying : List Said) (more : List ℕ) → trail_text e (saying ++ said ∷ []) ++ more ≡ trail_text e saying ++ (line_text (end_of e saying) said ++ 10 ∷ more)
    text e [] more = append_assoc (line_text e said) (10 ∷ []) more
    text e (x ∷ xs) more =
        append_assoc (line_text e x) (10 ∷ trail_text (end_behind e x) (xs ++ said ∷ [])) more
        ∙ ap (λ (l : List ℕ). line_text e x ++ 10 ∷ l) (text (end_behind e x) xs more)
        ∙ sym (append_assoc (line_text e x) (10 ∷ trail_text (end_behind e x) xs) (line_text (end_of (end_behind e x) xs) said ++ 10 ∷ more))

-- nothing is read yet
pub none_read : (e : TrailEnd) (file : List ℕ) → IsReadTo e file [] e file
none_read e file = record { in_order = tt; ends = refl; split = refl }

-- all is read
pub all_said : (e now : TrailEnd) (file rest : List ℕ) (saying : List Said) → IsReadTo e file saying now rest → is_open rest ≡ false → Says e saying file
all_said e now file rest saying read shut = record { in_order = read.in_order; lines = (rest, read.split, shut) }

-- how many bytes were read
pub place_is : (e now : TrailEnd) (file rest : List ℕ) (saying : List Said) → IsReadTo e file saying now rest → length (trail_text e saying) + length rest ≡ length file
place_is e now file rest saying read = sym (ap length read.split ∙ length-append (trail_text e saying) rest)

-- the next line is none
pub is_bad : (e now : TrailEnd) (file rest text more : List ℕ) (saying : List Said) (number : ℕ) → IsReadTo e file saying now rest → rest ≡ text ++ 10 ∷ more → is_open rest ≡ true →
    lacks 10 text ≡ true → length saying + 1 ≡ number → ((said : Said) → IsSayable said → CanFollow now said → ¬ (text ≡ line_text now said)) → IsBadLine e file number
is_bad e now file rest text more saying number read is there plain counted none = record {
  before = saying;
  counted = counted;
  in_order = read.in_order;
  rest = rest;
  split = read.split;
  there = there;
  none = λ said behind sayable follows spells.
      let can : CanFollow now said = subst (λ n. CanFollow n said) (sym read.ends) follows in
      let told : rest ≡ line_text now said ++ 10 ∷ behind = spells ∙ ap (λ n. line_text n said ++ 10 ∷ behind) (sym read.ends) in
      let cut : Some (text, more) ≡ Some (line_text now said, behind) =
      sym (cut_there 10 text more plain) ∙ ap (cut_at 10) (sym is ∙ told) ∙ cut_there 10 (line_text now said) behind (line_lacks now said sayable can) in
      none said sayable can (ap first_part cut);
}

-- one line more, as it was read
pub next_read : (e now next : TrailEnd) (file rest text more : List ℕ) (saying : List Said) (line : TrailLine) → IsReadTo e file saying now rest → rest ≡ text ++ 10 ∷ more →
    IsRead now text (Some (line, next)) → IsReadTo e file (saying ++ said_of line ∷ []) next more
next_read e now next file rest text more saying line so_far split (is, follows, nexts) =
    subst (λ n. IsReadTo e file (saying ++ said_of line ∷ []) n more) (sym nexts)
    (line_more e now file rest more saying (said_of line) so_far (split ∙ ap (λ (l : List ℕ). l ++ 10 ∷ more) is) follows)
