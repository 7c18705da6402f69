-- The pieces of a line that is printed: its texts stand where they are looked for, and it has no newline.
use Rattle.std.proofs.Common.{◌≡◌, inl, inr, ℕ, ◌+◌, ◌<◌, ◌^◌, true, false, not, List, [], ◌∷◌, ◌++◌, refl, sym, ◌∙◌, ap, subst, append_assoc, arith}
use Rattle.std.specs.Prelude.{codes, ◌==◌}
use Rattle.std.specs.Fmt.{decimal}
use Rattle.std.specs.List.{list_all}
use Rattle.std.proofs.Common.{ne_eqb}
use Rattle.std.proofs.lemmas.Bool.{and_parts, and_from, lt-leb, cases_lt}
use Rattle.hex.specs.Hex.{encode_lower}
use Rattle.flow_record.specs.Lines.{pieces_of}
use Rattle.flow_record.specs.Number.{is_digit}
use Rattle.flow_record.proofs.LineLemmas.{lacks, first_other, others_lack, pieces_cut}
use Rattle.flow_record.proofs.NumberLemmas.{decimal_digits}
use Rattle.flow_trail.specs.declared.line.About.{About}
use Rattle.flow_trail.specs.declared.line.About.TheVariants.{Undone, Moved}
use Rattle.flow_trail.specs.declared.line.TrailEnd.{TrailEnd}
use Rattle.flow_trail.specs.Spelling.{spelt}
use Rattle.flow_trail.specs.Lines.{Said, told, void, remark, IsSayable, CanFollow, member, note_member, word_of, sealed_text, seal_of, line_text}
use Rattle.flow_trail.specs.Read.{IsPicked}
use Rattle.flow_trail.proofs.SpellingLemmas.{unspelt_spelt, both_lack, spelt_lacks, hex_lacks}

-- ---- numbers

digit_lacks : (byte b : ℕ) → byte < 48 → is_digit b ≡ true → not (b == byte) ≡ true
digit_lacks byte b low digit = elim (cases_lt b 48) [
  | inl small ↦ (let no : false ≡ true = rw (lt-leb 48 b small) at digit in cc)
  | inr large ↦ ap not (ne_eqb b byte (λ e. omega arith))
]

digits_lack : (byte : ℕ) (ds : List ℕ) → byte < 48 → list_all is_digit ds ≡ true → lacks byte ds ≡ true
digits_lack byte [] low all = refl
digits_lack byte (d ∷ ds) low all =
    let both = and_parts (is_digit d) (list_all is_digit ds) all in
    and_from (not (d == byte)) (lacks byte ds) (digit_lacks byte d low both.0) (digits_lack byte ds low both.1)

pub decimal_lacks : (byte n : ℕ) → byte < 48 → n < 2 ^ 32 → lacks byte (decimal n) ≡ true
decimal_lacks byte n low small = digits_lack byte (decimal n) low (decimal_digits n small)

-- ---- pieces, from the end of a text to its beginning

behind : (x y p : List ℕ) (ps : List (List ℕ)) → lacks 34 x ≡ true → pieces_of 34 y ≡ p ∷ ps → pieces_of 34 (x ++ y) ≡ (x ++ p) ∷ ps
behind [] y p ps h e = e
behind (b ∷ x) y p ps h e = rw (first_other 34 b x h, behind x y p ps (others_lack 34 b x h) e) refl

-- behind a member stands a text whose first piece is p
module _ (name text rest p : List ℕ) (ps : List (List ℕ)) (plain : lacks 34 name ≡ true) (is : pieces_of 34 rest ≡ p ∷ ps) where
  regrouped : member name text ++ rest ≡ 44 ∷ 34 ∷ (name ++ 34 ∷ 58 ∷ 34 ∷ (spelt text ++ 34 ∷ rest))
  regrouped =
      append_assoc (codes ",\"" ++ name ++ codes "\":\"" ++ spelt text) (34 ∷ []) rest
      ∙ append_assoc (codes ",\"" ++ name ++ codes "\":\"") (spelt text) (34 ∷ rest)
      ∙ append_assoc (codes ",\"" ++ name) (codes "\":\"") (spelt text ++ 34 ∷ rest)
      ∙ append_assoc (codes ",\"") name (34 ∷ 58 ∷ 34 ∷ (spelt text ++ 34 ∷ rest))

  pub member_pieces : pieces_of 34 (member name text ++ rest) ≡ (44 ∷ []) ∷ name ∷ (58 ∷ []) ∷ spelt text ∷ p ∷ ps
  member_pieces =
      ap (pieces_of 34) regrouped
      ∙ rw (pieces_cut 34 name (58 ∷ 34 ∷ (spelt text ++ 34 ∷ rest)) plain, pieces_cut 34 (spelt text) rest (spelt_lacks 34 text (omega arith) refl), is) refl

-- the seal at the end of a line
abbrev tail : List ℕ → List ℕ
tail seal = codes ",\"seal\":\"" ++ encode_lower seal ++ codes "\"}"

tail_pieces : (seal : List ℕ) → pieces_of 34 (tail seal) ≡ (44 ∷ []) ∷ codes "seal" ∷ (58 ∷ []) ∷ encode_lower seal ∷ (125 ∷ []) ∷ []
tail_pieces seal =
    ap (pieces_of 34) (append_assoc (codes ",\"seal\":\"") (encode_lower seal) (codes "\"}"))
    ∙ rw (pieces_cut 34 (encode_lower seal) (125 ∷ []) (hex_lacks 34 seal refl)) refl

-- where a line begins with a number
numbered : (n : ℕ) (rest : List ℕ) (ps : List (List ℕ)) → n < 2 ^ 32 → pieces_of 34 rest ≡ (44 ∷ []) ∷ ps →
    pieces_of 34 (codes "{\"n\":" ++ (decimal n ++ rest)) ≡ (123 ∷ []) ∷ (110 ∷ []) ∷ (58 ∷ (decimal n ++ 44 ∷ [])) ∷ ps
numbered n rest ps small is = rw (behind (decimal n) rest (44 ∷ []) ps (decimal_lacks 34 n (omega arith) small) is) refl

regroup3 : (a b c d : List ℕ) → (a ++ b ++ c) ++ d ≡ a ++ (b ++ (c ++ d))
regroup3 a b c d = simp append_assoc

regroup4 : (a b c d e : List ℕ) → (a ++ b ++ c ++ d) ++ e ≡ a ++ (b ++ (c ++ (d ++ e)))
regroup4 a b c d e = simp append_assoc

regroup6 : (a b c d e f g : List ℕ) → (a ++ b ++ c ++ d ++ e ++ f) ++ g ≡ a ++ (b ++ (c ++ (d ++ (e ++ (f ++ g)))))
regroup6 a b c d e f g = simp append_assoc

regroup7 : (a b c d e f g h : List ℕ) → (a ++ b ++ c ++ d ++ e ++ f ++ g) ++ h ≡ a ++ (b ++ (c ++ (d ++ (e ++ (f ++ (g ++ h))))))
regroup7 a b c d e f g h = simp append_assoc

-- the whole line in front of its seal
whole : (e : TrailEnd) (said : Said) → line_text e said ≡ sealed_text e said ++ tail (seal_of e said)
unfolding line_text
whole e said =
    append_assoc (sealed_text e said ++ codes ",\"seal\":\"") (encode_lower (seal_of e said)) (codes "\"}")
    ∙ append_assoc (sealed_text e said) (codes ",\"seal\":\"") (encode_lower (seal_of e said) ++ codes "\"}")
    ∙ ap (λ (l : List ℕ). sealed_text e said ++ l) (sym (append_assoc (codes ",\"seal\":\"") (encode_lower (seal_of e said)) (codes "\"}")))

-- the pieces of a line that tells an entry, up to those behind the comma behind its task
abbrev told_head : ℕ → List ℕ → List ℕ → List ℕ → List ℕ → List (List ℕ) → List (List ℕ)
told_head n at by entry task ps =
    (123 ∷ []) ∷ (110 ∷ []) ∷ (58 ∷ (decimal n ++ 44 ∷ []))
    ∷ codes "at" ∷ (58 ∷ []) ∷ spelt at ∷ (44 ∷ []) ∷ codes "by" ∷ (58 ∷ []) ∷ spelt by ∷ (44 ∷ []) ∷ codes "entry" ∷ (58 ∷ []) ∷ spelt entry
    ∷ (44 ∷ []) ∷ codes "task" ∷ (58 ∷ []) ∷ spelt task ∷ (44 ∷ []) ∷ ps

-- the four members of a line that tells an entry, in front of what has these pieces
module _ (n : ℕ) (at by entry task rest : List ℕ) (ps : List (List ℕ)) (small : n < 2 ^ 32) (is : pieces_of 34 rest ≡ (44 ∷ []) ∷ ps) where
  four : pieces_of 34 (member (codes "at") at ++ (member (codes "by") by ++ (member (codes "entry") entry ++ (member (codes "task") task ++ rest)))) ≡
      (44 ∷ []) ∷ codes "at" ∷ (58 ∷ []) ∷ spelt at ∷ (44 ∷ []) ∷ codes "by" ∷ (58 ∷ []) ∷ spelt by ∷ (44 ∷ []) ∷ codes "entry" ∷ (58 ∷ []) ∷ spelt entry
      ∷ (44 ∷ []) ∷ codes "task" ∷ (58 ∷ []) ∷ spelt task ∷ (44 ∷ []) ∷ ps
  four =
      let m4 = member_pieces (codes "task") task rest (44 ∷ []) ps refl is in
      let m3 = member_pieces (codes "entry") entry (member (codes "task") task ++ rest) _ _ refl m4 in
      let m2 = member_pieces (codes "by") by (member (codes "entry") entry ++ (member (codes "task") task ++ rest)) _ _ refl m3 in
      member_pieces (codes "at") at (member (codes "by") by ++ (member (codes "entry") entry ++ (member (codes "task") task ++ rest))) _ _ refl m2

  pub told_pieces : pieces_of 34 (codes "{\"n\":" ++ (decimal n ++ (member (codes "at") at ++ (member (codes "by") by ++ (member (codes "entry") entry ++ (member (codes "task") task ++ rest)))))) ≡
      told_head n at by entry task ps
  told_pieces = numbered n _ _ small four

-- ---- each kind of line

-- the pieces of a seal
abbrev seal_end : List ℕ → List (List ℕ)
seal_end seal = codes "seal" ∷ (58 ∷ []) ∷ encode_lower seal ∷ (125 ∷ []) ∷ []

told_short : (e : TrailEnd) (at by entry task : List ℕ) → e.count + 1 < 2 ^ 32 → pieces_of 34 (line_text e (told at by entry task [])) ≡
    told_head (e.count + 1) at by entry task (seal_end (seal_of e (told at by entry task [])))
told_short e at by entry task small =
    let said : Said = told at by entry task [] in
    ap (pieces_of 34) (whole e said ∙ regroup7 (codes "{\"n\":") (decimal (e.count + 1)) (member (codes "at") at) (member (codes "by") by) (member (codes "entry") entry) (member (codes "task") task) [] (tail (seal_of e said)))
    ∙ told_pieces (e.count + 1) at by entry task (tail (seal_of e said)) (seal_end (seal_of e said)) small (tail_pieces (seal_of e said))

told_long : (e : TrailEnd) (at by entry task : List ℕ) (b : ℕ) (bs : List ℕ) → e.count + 1 < 2 ^ 32 → pieces_of 34 (line_text e (told at by entry task (b ∷ bs))) ≡
    told_head (e.count + 1) at by entry task (codes "note" ∷ (58 ∷ []) ∷ spelt (b ∷ bs) ∷ (44 ∷ []) ∷ seal_end (seal_of e (told at by entry task (b ∷ bs))))
told_long e at by entry task b bs small =
    let said : Said = told at by entry task (b ∷ bs) in
    ap (pieces_of 34) (whole e said ∙ regroup7 (codes "{\"n\":") (decimal (e.count + 1)) (member (codes "at") at) (member (codes "by") by) (member (codes "entry") entry) (member (codes "task") task) (member (codes "note") (b ∷ bs)) (tail (seal_of e said)))
    ∙ told_pieces (e.count + 1) at by entry task (member (codes "note") (b ∷ bs) ++ tail (seal_of e said)) (codes "note" ∷ (58 ∷ []) ∷ spelt (b ∷ bs) ∷ (44 ∷ []) ∷ seal_end (seal_of e said)) small
    (member_pieces (codes "note") (b ∷ bs) (tail (seal_of e said)) (44 ∷ []) (seal_end (seal_of e said)) refl (tail_pieces (seal_of e said)))

void_pieces : (e : TrailEnd) (at : List ℕ) → e.count < 2 ^ 32 → pieces_of 34 (line_text e (void at)) ≡
    (123 ∷ []) ∷ (110 ∷ []) ∷ (58 ∷ (decimal e.count ++ 44 ∷ [])) ∷ codes "void" ∷ codes ":true," ∷ codes "at" ∷ (58 ∷ []) ∷ spelt at ∷ (44 ∷ []) ∷ seal_end (seal_of e (void at))
void_pieces e at small =
    let seal = seal_of e (void at) in
    let last = member_pieces (codes "at") at (tail seal) (44 ∷ []) (seal_end seal) refl (tail_pieces seal) in
    let rest : pieces_of 34 (codes ",\"void\":true" ++ (member (codes "at") at ++ tail seal)) ≡ (44 ∷ []) ∷ codes "void" ∷ codes ":true," ∷ codes "at" ∷ (58 ∷ []) ∷ spelt at ∷ (44 ∷ []) ∷ seal_end seal =
    pieces_cut 34 (44 ∷ []) (codes "void\":true" ++ (member (codes "at") at ++ tail seal)) refl
    ∙ ap (λ (l : List (List ℕ)). (44 ∷ []) ∷ l) (pieces_cut 34 (codes "void") (codes ":true" ++ (member (codes "at") at ++ tail seal)) refl
    ∙ ap (λ (l : List (List ℕ)). codes "void" ∷ l) (behind (codes ":true") (member (codes "at") at ++ tail seal) _ _ refl last)) in
    ap (pieces_of 34) (whole e (void at) ∙ regroup4 (codes "{\"n\":") (decimal e.count) (codes ",\"void\":true") (member (codes "at") at) (tail seal))
    ∙ numbered e.count (codes ",\"void\":true" ++ (member (codes "at") at ++ tail seal)) _ small rest

-- a remark up to its text
abbrev head : About → List ℕ
head about = codes "{\"" ++ word_of about ++ codes "\":\""

head_pieces : (about : About) (rest : List ℕ) → pieces_of 34 (head about ++ rest) ≡ (123 ∷ []) ∷ word_of about ∷ (58 ∷ []) ∷ pieces_of 34 rest
head_pieces Undone rest = refl
head_pieces Moved rest = refl

head_lacks : (about : About) → lacks 10 (head about) ≡ true
head_lacks Undone = refl
head_lacks Moved = refl

remark_pieces : (e : TrailEnd) (about : About) (text : List ℕ) (entry : ℕ) (by at : List ℕ) → entry < 2 ^ 32 → pieces_of 34 (line_text e (remark about text entry by at)) ≡
    (123 ∷ []) ∷ word_of about ∷ (58 ∷ []) ∷ spelt text ∷ (44 ∷ []) ∷ codes "entry" ∷ (58 ∷ (decimal entry ++ 44 ∷ [])) ∷ codes "by" ∷ (58 ∷ []) ∷ spelt by
    ∷ (44 ∷ []) ∷ codes "at" ∷ (58 ∷ []) ∷ spelt at ∷ (44 ∷ []) ∷ seal_end (seal_of e (remark about text entry by at))
remark_pieces e about text entry by at small =
    let said : Said = remark about text entry by at in
    let seal = seal_of e said in
    let last = member_pieces (codes "at") at (tail seal) (44 ∷ []) (seal_end seal) refl (tail_pieces seal) in
    let members = member_pieces (codes "by") by (member (codes "at") at ++ tail seal) (44 ∷ []) _ refl last in
    let number = behind (decimal entry) (member (codes "by") by ++ (member (codes "at") at ++ tail seal)) (44 ∷ []) _ (decimal_lacks 34 entry (omega arith) small) members in
    let rest = behind (58 ∷ []) (decimal entry ++ (member (codes "by") by ++ (member (codes "at") at ++ tail seal))) _ _ refl number in
    ap (pieces_of 34) (whole e said ∙ regroup6 (head about) (spelt text) (codes "\",\"entry\":") (decimal entry) (member (codes "by") by) (member (codes "at") at) (tail seal))
    ∙ head_pieces about (spelt text ++ (codes "\",\"entry\":" ++ (decimal entry ++ (member (codes "by") by ++ (member (codes "at") at ++ tail seal)))))
    ∙ ap (λ (l : List (List ℕ)). (123 ∷ []) ∷ word_of about ∷ (58 ∷ []) ∷ l)
    (pieces_cut 34 (spelt text) (44 ∷ 34 ∷ (codes "entry" ++ 34 ∷ 58 ∷ (decimal entry ++ (member (codes "by") by ++ (member (codes "at") at ++ tail seal))))) (spelt_lacks 34 text (omega arith) refl)
    ∙ ap (λ (l : List (List ℕ)). spelt text ∷ (44 ∷ []) ∷ codes "entry" ∷ l) rest)

pub line_picked : (e : TrailEnd) (said : Said) → IsSayable said → CanFollow e said → IsPicked (pieces_of 34 (line_text e said)) said
line_picked e (told at by entry task []) sayable follows =
    subst (λ (l : List (List ℕ)). IsPicked l (told at by entry task [])) (sym (told_short e at by entry task follows))
    (unspelt_spelt at, unspelt_spelt by, unspelt_spelt entry, unspelt_spelt task, inr (refl, refl))
line_picked e (told at by entry task (b ∷ bs)) sayable follows =
    subst (λ (l : List (List ℕ)). IsPicked l (told at by entry task (b ∷ bs))) (sym (told_long e at by entry task b bs follows))
    (unspelt_spelt at, unspelt_spelt by, unspelt_spelt entry, unspelt_spelt task, inl (refl, unspelt_spelt (b ∷ bs)))
line_picked e (void at) sayable follows =
    subst (λ (l : List (List ℕ)). IsPicked l (void at)) (sym (void_pieces e at follows.1.1)) (refl, unspelt_spelt at)
line_picked e (remark about text entry by at) sayable follows =
    subst (λ (l : List (List ℕ)). IsPicked l (remark about text entry by at)) (sym (remark_pieces e about text entry by at sayable.1)) (refl, refl, unspelt_spelt text, refl, unspelt_spelt by, unspelt_spelt at)

-- ---- no newline

member_lacks : (name text : List ℕ) → lacks 10 name ≡ true → lacks 10 (member name text) ≡ true
member_lacks name text plain =
    both_lack 10 (codes ",\"" ++ name ++ codes "\":\"" ++ spelt text) (codes "\"")
    (both_lack 10 (codes ",\"" ++ name ++ codes "\":\"") (spelt text) (both_lack 10 (codes ",\"" ++ name) (codes "\":\"") (both_lack 10 (codes ",\"") name refl plain) refl) (spelt_lacks 10 text (omega arith) refl)) refl

note_lacks : (note : List ℕ) → lacks 10 (note_member note) ≡ true
note_lacks [] = refl
note_lacks (b ∷ bs) = member_lacks (codes "note") (b ∷ bs) refl

sealed_lacks : (e : TrailEnd) (said : Said) → IsSayable said → CanFollow e said → lacks 10 (sealed_text e said) ≡ true
sealed_lacks e (told at by entry task note) sayable follows =
    both_lack 10 (codes "{\"n\":" ++ decimal (e.count + 1) ++ member (codes "at") at ++ member (codes "by") by ++ member (codes "entry") entry ++ member (codes "task") task) (note_member note)
    (both_lack 10 (codes "{\"n\":" ++ decimal (e.count + 1) ++ member (codes "at") at ++ member (codes "by") by ++ member (codes "entry") entry) (member (codes "task") task)
    (both_lack 10 (codes "{\"n\":" ++ decimal (e.count + 1) ++ member (codes "at") at ++ member (codes "by") by) (member (codes "entry") entry)
    (both_lack 10 (codes "{\"n\":" ++ decimal (e.count + 1) ++ member (codes "at") at) (member (codes "by") by)
    (both_lack 10 (codes "{\"n\":" ++ decimal (e.count + 1)) (member (codes "at") at)
    (both_lack 10 (codes "{\"n\":") (decimal (e.count + 1)) refl (decimal_lacks 10 (e.count + 1) (omega arith) follows))
    (member_lacks (codes "at") at refl)) (member_lacks (codes "by") by refl)) (member_lacks (codes "entry") entry refl)) (member_lacks (codes "task") task refl)) (note_lacks note)
sealed_lacks e (void at) sayable follows =
    both_lack 10 (codes "{\"n\":" ++ decimal e.count ++ codes ",\"void\":true") (member (codes "at") at)
    (both_lack 10 (codes "{\"n\":" ++ decimal e.count) (codes ",\"void\":true") (both_lack 10 (codes "{\"n\":") (decimal e.count) refl (decimal_lacks 10 e.count (omega arith) follows.1.1)) refl)
    (member_lacks (codes "at") at refl)
sealed_lacks e (remark about text entry by at) sayable follows =
    both_lack 10 (head about ++ spelt text ++ codes "\",\"entry\":" ++ decimal entry ++ member (codes "by") by) (member (codes "at") at)
    (both_lack 10 (head about ++ spelt text ++ codes "\",\"entry\":" ++ decimal entry) (member (codes "by") by)
    (both_lack 10 (head about ++ spelt text ++ codes "\",\"entry\":") (decimal entry)
    (both_lack 10 (head about ++ spelt text) (codes "\",\"entry\":") (both_lack 10 (head about) (spelt text) (head_lacks about) (spelt_lacks 10 text (omega arith) refl)) refl)
    (decimal_lacks 10 entry (omega arith) sayable.1)) (member_lacks (codes "by") by refl)) (member_lacks (codes "at") at refl)

pub line_lacks : (e : TrailEnd) (said : Said) → IsSayable said → CanFollow e said → lacks 10 (line_text e said) ≡ true
unfolding line_text
line_lacks e said sayable follows =
    both_lack 10 (sealed_text e said ++ codes ",\"seal\":\"" ++ encode_lower (seal_of e said)) (codes "\"}")
    (both_lack 10 (sealed_text e said ++ codes ",\"seal\":\"") (encode_lower (seal_of e said)) (both_lack 10 (sealed_text e said) (codes ",\"seal\":\"") (sealed_lacks e said sayable follows) refl) (hex_lacks 10 (seal_of e said) refl)) refl

-- it begins with a brace
pub line_brace : (e : TrailEnd) (said : Said) → (rest : List ℕ) × (line_text e said ≡ 123 ∷ rest)
unfolding line_text
line_brace e (told at by entry task note) = (_, refl)
line_brace e (void at) = (_, refl)
line_brace e (remark about text entry by at) = (_, refl)
