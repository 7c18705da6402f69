-- A history as a text: what is printed is read, and what is read is printed.
use Rattle.std.proofs.Common.{◌≡◌, ℕ, suc, ◌+◌, ◌<◌, ◌≤◌, ◌^◌, true, false, not, List, [], ◌∷◌, ◌++◌, length, refl, sym, ◌∙◌, ap, subst, append_assoc, append-nil, length-append, if◌then◌else◌, arith, Option, Some, None, IfSome}
use Rattle.std.specs.Prelude.{codes, ◌==◌, All}
use Rattle.std.specs.List.{list_all}
use Rattle.std.specs.Fmt.{decimal}
use Rattle.std.specs.Option.{option_map, option_and_then}
use Rattle.std.specs.Str.{bytes_eq}
use Rattle.std.proofs.lemmas.Bool.{and_parts, and_from, eqb-true, cases_Bool}
use Rattle.std.proofs.lemmas.Grind.{flat_map-append}
use Rattle.std.proofs.lemmas.List.Elements.{All-push}
use Rattle.std.proofs.lemmas.List.Folds.{list_all-append}
use Rattle.std.proofs.lemmas.Option.{IfSome_then}
use Rattle.std.proofs.lemmas.Slice.Eq.{bytes_eq-Decides}
use Rattle.flow_model.specs.declared.history.Entry.{Entry}
use Rattle.flow_model.specs.declared.history.Step.{Step}
use Rattle.flow_model.specs.declared.history.Step.TheVariants.{Took, Done, Failed, Late, Did, Rewound, Committed}
use Rattle.flow_model.specs.declared.history.FailEffect.{FailEffect}
use Rattle.flow_model.specs.declared.history.FailEffect.TheVariants.{Switched, Kept}
use Rattle.flow_record.specs.Lines.{cut_at, pieces_of}
use Rattle.flow_record.specs.Number.{is_digit, plain_number}
use Rattle.flow_record.specs.History.{step_text, entry_line, history_text, effect_of, took_of, failed_of, numbered_step, step_with, step_by, step_of, number_alone, caller_of, made_by, entry_by, entry_of, HistoryText, HasSmallNumbers, IsSmall, history, bad_line, with_entry, with_entry_line, history_from, history_of}
use Rattle.flow_record.proofs.NumberLemmas.{decimal_digits, number_there, by_test, number_back}
use Rattle.flow_record.proofs.LineLemmas.{lacks, IsCut, cut_is, parts_are, uncut_lacks, cut_there, pieces_cut, pieces_whole, some_piece}

-- ---- bytes that numbers lack

digit_other : (byte b : ℕ) → is_digit byte ≡ false → is_digit b ≡ true → not (b == byte) ≡ true
digit_other byte b other digit = grind (arith, cases_Bool (b == byte), eqb-true b byte, other, digit)

digits_lack : (byte : ℕ) (ds : List ℕ) → is_digit byte ≡ false → list_all is_digit ds ≡ true → lacks byte ds ≡ true
digits_lack byte [] other all = refl
digits_lack byte (d ∷ ds) other all =
    let both = and_parts (is_digit d) (list_all is_digit ds) all in
    and_from (not (d == byte)) (lacks byte ds) (digit_other byte d other both.0) (digits_lack byte ds other both.1)

decimal_lacks : (byte n : ℕ) → is_digit byte ≡ false → n < 2 ^ 32 → lacks byte (decimal n) ≡ true
decimal_lacks byte n other small = digits_lack byte (decimal n) other (decimal_digits n small)

both_lack : (byte : ℕ) (x y : List ℕ) → lacks byte x ≡ true → lacks byte y ≡ true → lacks byte (x ++ y) ≡ true
both_lack byte x y h k = list_all-append (λ b. not (b == byte)) x y ∙ and_from (lacks byte x) (lacks byte y) h k

-- ---- a step is read from its words

step_there : (s : Step) → HasSmallNumbers s → step_of (step_text s) ≡ Some s
step_there (Took claim leaf) (h, k) =
    ap took_of (ap (cut_at 32) (append_assoc (decimal claim) (32 ∷ []) (decimal leaf))
    ∙ cut_there 32 (decimal claim) (decimal leaf) (decimal_lacks 32 claim refl h))
    ∙ rw (number_there claim h, number_there leaf k) refl
step_there (Done claim) h = rw (number_there claim h) refl
step_there (Failed claim Switched) h =
    ap failed_of (cut_there 32 (decimal claim) (codes "switched") (decimal_lacks 32 claim refl h)) ∙ rw (number_there claim h) refl
step_there (Failed claim Kept) h =
    ap failed_of (cut_there 32 (decimal claim) (codes "kept") (decimal_lacks 32 claim refl h)) ∙ rw (number_there claim h) refl
step_there (Late claim) h = rw (number_there claim h) refl
step_there (Did leaf) h = rw (number_there leaf h) refl
step_there (Rewound index) h = rw (number_there index h) refl
step_there Committed h = refl

caller_there : (by : ℕ) → by < 2 ^ 32 → caller_of (decimal by ++ 58 ∷ []) ≡ Some by
caller_there by small = rw (cut_there 58 (decimal by) [] (decimal_lacks 58 by refl small)) (number_there by small)

-- the line of an entry, but for its line feed
abbrev body : Entry → List ℕ
body entry = decimal entry.by ++ codes ": " ++ step_text entry.step

body_is : (entry : Entry) → body entry ≡ (decimal entry.by ++ 58 ∷ []) ++ 32 ∷ step_text entry.step
body_is entry = append_assoc (decimal entry.by) (codes ": ") (step_text entry.step) ∙ sym (append_assoc (decimal entry.by) (58 ∷ []) (32 ∷ step_text entry.step))

pub entry_there : (entry : Entry) → IsSmall entry → entry_of (body entry) ≡ Some entry
entry_there entry (h, k) =
    let spaceless = both_lack 32 (decimal entry.by) (58 ∷ []) (decimal_lacks 32 entry.by refl h) refl in
    let cut = ap (cut_at 32) (body_is entry) ∙ cut_there 32 (decimal entry.by ++ 58 ∷ []) (step_text entry.step) spaceless in
    rw (cut, caller_there entry.by h, step_there entry.step k) refl

-- no line feed stands in it
step_lacks : (s : Step) → HasSmallNumbers s → lacks 10 (step_text s) ≡ true
step_lacks (Took claim leaf) (h, k) =
    both_lack 10 (codes "took " ++ decimal claim ++ codes " ") (decimal leaf)
    (both_lack 10 (codes "took " ++ decimal claim) (codes " ") (decimal_lacks 10 claim refl h) refl) (decimal_lacks 10 leaf refl k)
step_lacks (Done claim) h = decimal_lacks 10 claim refl h
step_lacks (Failed claim Switched) h = both_lack 10 (codes "failed " ++ decimal claim) (codes " switched") (decimal_lacks 10 claim refl h) refl
step_lacks (Failed claim Kept) h = both_lack 10 (codes "failed " ++ decimal claim) (codes " kept") (decimal_lacks 10 claim refl h) refl
step_lacks (Late claim) h = decimal_lacks 10 claim refl h
step_lacks (Did leaf) h = decimal_lacks 10 leaf refl h
step_lacks (Rewound index) h = decimal_lacks 10 index refl h
step_lacks Committed h = refl

body_lacks : (entry : Entry) → IsSmall entry → lacks 10 (body entry) ≡ true
body_lacks entry (h, k) =
    both_lack 10 (decimal entry.by ++ codes ": ") (step_text entry.step)
    (both_lack 10 (decimal entry.by) (codes ": ") (decimal_lacks 10 entry.by refl h) refl) (step_lacks entry.step k)

-- ---- what is read is printed

-- what is read of a text where it is cut
at_cut : {A : Type 0} (byte : ℕ) (text : List ℕ) (read : Option (List ℕ × List ℕ) → Option A) (P : A → Type 0) → IfSome (read None) P →
    ((x y : List ℕ) → text ≡ x ++ byte ∷ y → IfSome (read (Some (x, y))) P) → IfSome (read (cut_at byte text)) P
at_cut byte text read P whole cut = by_cut (cut_at byte text) (cut_is byte text)
  where
    by_cut : (o : Option (List ℕ × List ℕ)) → IsCut byte text o → IfSome (read o) P
    by_cut None h = whole
    by_cut (Some p) h = cut p.0 p.1 h.0

-- what is read by a word
by_word : {A : Type 0} (word other : List ℕ) (o p : Option A) (P : A → Type 0) → (word ≡ other → IfSome o P) → IfSome p P →
    IfSome (if bytes_eq word other then o else p) P
by_word word other o p P same else_read = by_test (bytes_eq word other) o p P (λ e. same ((bytes_eq-Decides word other).0 e)) (λ _. else_read)

-- what is read of two parts
of_both : {A B C : Type 0} (a : Option A) (b : Option B) (make : A → B → C) (P : A → Type 0) (Q : B → Type 0) (R : C → Type 0) → IfSome a P → IfSome b Q →
    ((x : A) (y : B) → P x → Q y → R (make x y)) → IfSome (option_and_then (λ x. option_map (make x) b) a) R
of_both None b make P Q R h k both = tt
of_both (Some x) None make P Q R h k both = tt
of_both (Some x) (Some y) make P Q R h k both = both x y h k

-- the word is the number's, and the words are the step's
abbrev IsOf : List ℕ → ℕ → Type 0
IsOf word n = (word ≡ decimal n) × (n < 2 ^ 32)

abbrev AreOf : List ℕ → Step → Type 0
AreOf words s = (words ≡ step_text s) × HasSmallNumbers s

abbrev effect_text : FailEffect → List ℕ
effect_text Switched = codes "switched"
effect_text Kept = codes "kept"

effect_back : (word : List ℕ) → IfSome (effect_of word) (λ effect. word ≡ effect_text effect)
effect_back word =
    let P : FailEffect → Type 0 = λ effect. word ≡ effect_text effect in
    by_word word (codes "switched") (Some Switched) _ P (λ e. e) (by_word word (codes "kept") (Some Kept) None P (λ e. e) tt)

took_back : (rest : List ℕ) → IfSome (took_of (cut_at 32 rest)) (AreOf (codes "took " ++ rest))
took_back rest = at_cut 32 rest took_of (AreOf (codes "took " ++ rest)) tt (λ x y is.
    of_both (plain_number x) (plain_number y) Took (IsOf x) (IsOf y) (AreOf (codes "took " ++ rest)) (number_back x) (number_back y) (λ claim leaf h k.
    let text : rest ≡ decimal claim ++ 32 ∷ decimal leaf = cc in
    (ap (λ (r : List ℕ). codes "took " ++ r) (text ∙ sym (append_assoc (decimal claim) (32 ∷ []) (decimal leaf))), (h.1, k.1))))

failed_back : (rest : List ℕ) → IfSome (failed_of (cut_at 32 rest)) (AreOf (codes "failed " ++ rest))
failed_back rest = at_cut 32 rest failed_of (AreOf (codes "failed " ++ rest)) tt (λ x y is.
    of_both (plain_number x) (effect_of y) Failed (IsOf x) (λ effect. y ≡ effect_text effect) (AreOf (codes "failed " ++ rest)) (number_back x) (effect_back y) (λ claim effect h k.
    let text : rest ≡ decimal claim ++ 32 ∷ effect_text effect = cc in
    (ap (λ (r : List ℕ). codes "failed " ++ r) text ∙ elim effect as (λ effect. codes "failed " ++ (decimal claim ++ 32 ∷ effect_text effect) ≡ step_text (Failed claim effect)) [ Switched ↦ refl | Kept ↦ refl ], h.1)))

-- a word and a number
numbered_back : (word rest : List ℕ) (n : ℕ) → IsOf rest n → IfSome (numbered_step word n) (AreOf (word ++ 32 ∷ rest))
numbered_back word rest n h =
    let P : Step → Type 0 = AreOf (word ++ 32 ∷ rest) in
    by_word word (codes "done") (Some (Done n)) _ P (λ e. (rw (e, h.0) refl, h.1))
    (by_word word (codes "late") (Some (Late n)) _ P (λ e. (rw (e, h.0) refl, h.1))
    (by_word word (codes "did") (Some (Did n)) _ P (λ e. (rw (e, h.0) refl, h.1))
    (by_word word (codes "rewound") (Some (Rewound n)) None P (λ e. (rw (e, h.0) refl, h.1)) tt)))

with_back : (word rest : List ℕ) → IfSome (step_with word rest) (AreOf (word ++ 32 ∷ rest))
with_back word rest =
    let P : Step → Type 0 = AreOf (word ++ 32 ∷ rest) in
    by_word word (codes "took") (took_of (cut_at 32 rest)) _ P (λ e. rw e (took_back rest))
    (by_word word (codes "failed") (failed_of (cut_at 32 rest)) _ P (λ e. rw e (failed_back rest)) (by_number (plain_number rest) (number_back rest)))
  where
    by_number : (o : Option ℕ) → IfSome o (IsOf rest) → IfSome (option_and_then (numbered_step word) o) (AreOf (word ++ 32 ∷ rest))
    by_number None h = tt
    by_number (Some n) h = numbered_back word rest n h

step_back : (words : List ℕ) → IfSome (step_of words) (AreOf words)
step_back words = at_cut 32 words (step_by words) (AreOf words)
    (by_word words (codes "committed") (Some Committed) None (AreOf words) (λ e. (e, tt)) tt)
    (λ x y is. subst (λ (w : List ℕ). IfSome (step_with x y) (AreOf w)) (sym is) (with_back x y))

caller_back : (text : List ℕ) → IfSome (caller_of text) (λ by. (text ≡ decimal by ++ 58 ∷ []) × (by < 2 ^ 32))
caller_back text = at_cut 58 text number_alone (λ by. (text ≡ decimal by ++ 58 ∷ []) × (by < 2 ^ 32)) tt alone
  where
    alone : (x y : List ℕ) → text ≡ x ++ 58 ∷ y → IfSome (number_alone (Some (x, y))) (λ by. (text ≡ decimal by ++ 58 ∷ []) × (by < 2 ^ 32))
    alone x [] is = IfSome_then (plain_number x) (number_back x) (λ by h. (is ∙ ap (λ (ds : List ℕ). ds ++ 58 ∷ []) h.0, h.1))
    alone x (b ∷ bs) is = tt

-- the line is the entry's
abbrev pub IsLineOf : List ℕ → Entry → Type 0
IsLineOf line entry = (line ≡ body entry) × IsSmall entry

entry_back : (line : List ℕ) → IfSome (entry_of line) (IsLineOf line)
entry_back line = at_cut 32 line entry_by (IsLineOf line) tt (λ x y is.
    of_both (caller_of x) (step_of y) made_by (λ by. (x ≡ decimal by ++ 58 ∷ []) × (by < 2 ^ 32)) (AreOf y) (IsLineOf line) (caller_back x) (step_back y) (λ by s h k.
    let text : line ≡ (decimal by ++ 58 ∷ []) ++ 32 ∷ step_text s = cc in (text ∙ sym (body_is (made_by by s)), (h.1, k.1))))

-- ---- the lines of a history

-- the entries before those of the history
abbrev pub with_entries : List Entry → HistoryText → HistoryText
with_entries front (history more) = history (front ++ more)
with_entries front (bad_line line) = bad_line line

no_entries : (said : HistoryText) → said ≡ with_entries [] said
no_entries (history more) = refl
no_entries (bad_line line) = refl

one_entry : (entry : Entry) (front : List Entry) (said : HistoryText) → with_entry entry (with_entries front said) ≡ with_entries (entry ∷ front) said
one_entry entry front (history more) = refl
one_entry entry front (bad_line line) = refl

-- a line before those of a text
more_lines : (number : ℕ) (line text : List ℕ) →
    history_from number (line ∷ pieces_of 10 text) ≡ with_entry_line number (entry_of line) (history_from (number + 1) (pieces_of 10 text))
more_lines number line text = let (piece, (pieces, is)) = some_piece 10 text in rw is (lines_are number line piece pieces)
  where
    lines_are : (number : ℕ) (line piece : List ℕ) (pieces : List (List ℕ)) →
        history_from number (line ∷ piece ∷ pieces) ≡ with_entry_line number (entry_of line) (history_from (number + 1) (piece ∷ pieces))
    lines_are number [] piece pieces = refl
    lines_are number (b ∷ bs) piece pieces = refl

-- the lines of entries before a text
pub front_there : (front : List Entry) (number : ℕ) (rest : List ℕ) → All IsSmall front →
    history_from number (pieces_of 10 (history_text front ++ rest)) ≡ with_entries front (history_from (number + length front) (pieces_of 10 rest))
front_there [] number rest small = let same : number + 0 ≡ number = omega arith in rw same (no_entries (history_from number (pieces_of 10 rest)))
front_there (entry ∷ front) number rest small =
    let here : IsSmall entry = small 0 entry (omega arith) in
    let others : All IsSmall front = λ k d h. small (suc k) d (omega arith) in
    let text : history_text (entry ∷ front) ++ rest ≡ body entry ++ 10 ∷ (history_text front ++ rest) =
    append_assoc (entry_line entry) (history_text front) rest ∙ append_assoc (body entry) (10 ∷ []) (history_text front ++ rest) in
    let place : number + 1 + length front ≡ number + suc (length front) = omega arith in
    ap (λ (t : List ℕ). history_from number (pieces_of 10 t)) text
    ∙ ap (history_from number) (pieces_cut 10 (body entry) (history_text front ++ rest) (body_lacks entry here))
    ∙ more_lines number (body entry) (history_text front ++ rest)
    ∙ rw (entry_there entry here, front_there front (number + 1) rest others, place) (one_entry entry front (history_from (number + suc (length front)) (pieces_of 10 rest)))

-- what is printed is read
pub history_there : (entries : List Entry) → All IsSmall entries → history_of (history_text entries) ≡ history entries
history_there entries small =
    ap history_of (sym (append-nil (history_text entries))) ∙ front_there entries 0 [] small ∙ ap history (append-nil entries)

-- the text is that of so many entries, and what is left
pub record IsReadTo (text : List ℕ) (front : List Entry) (number : ℕ) (rest : List ℕ) : Type 0 where
  pub numbered : number ≡ length front
  pub small : All IsSmall front
  pub printed : text ≡ history_text front ++ rest

module _ (text : List ℕ) (front : List Entry) (number : ℕ) (rest : List ℕ) (is : IsReadTo text front number rest) where
  -- what is left says the rest
  left : history_of text ≡ with_entries front (history_from number (pieces_of 10 rest))
  left =
      let count : 0 + length front ≡ number = omega (arith, is.numbered) in
      ap history_of is.printed ∙ front_there front 0 rest is.small ∙ ap (λ n. with_entries front (history_from n (pieces_of 10 rest))) count

  pub read_one : (line more : List ℕ) (entry : Entry) → cut_at 10 rest ≡ Some (line, more) → entry_of line ≡ Some entry →
      IsReadTo text (front ++ entry ∷ []) (number + 1) more
  read_one line more entry cut e =
      let (parts, lack) = parts_are 10 rest line more cut in
      let back : IsLineOf line entry = subst (λ (o : Option Entry). IfSome o (IsLineOf line)) e (entry_back line) in record {
        numbered = omega (arith, is.numbered, length-append front (entry ∷ []));
        small = All-push IsSmall front entry is.small back.1;
        printed = is.printed ∙ rw (parts, back.0, flat_map-append) (simp (append_assoc, append-nil) refl);
      }

  pub read_all : length rest ≡ 0 → (history_of text ≡ history front) × (text ≡ history_text front)
  read_all none = ends rest none is.printed
    where
      ends : (rest : List ℕ) → length rest ≡ 0 → text ≡ history_text front ++ rest → (history_of text ≡ history front) × (text ≡ history_text front)
      ends [] e printed = let same = printed ∙ append-nil (history_text front) in (ap history_of same ∙ history_there front is.small, same)
      ends (b ∷ bs) e printed = absurd (omega arith)

  pub read_no_entry : (line more : List ℕ) → cut_at 10 rest ≡ Some (line, more) → entry_of line ≡ None → history_of text ≡ bad_line number
  read_no_entry line more cut e =
      let (parts, lack) = parts_are 10 rest line more cut in
      left ∙ ap (with_entries front) (ap (λ (t : List ℕ). history_from number (pieces_of 10 t)) parts ∙ ap (history_from number) (pieces_cut 10 line more lack)
      ∙ more_lines number line more ∙ ap (λ o. with_entry_line number o (history_from (number + 1) (pieces_of 10 more))) e)

  pub read_no_end : 0 < length rest → cut_at 10 rest ≡ None → history_of text ≡ bad_line number
  read_no_end some none = left ∙ ap (λ pieces. with_entries front (history_from number pieces)) (pieces_whole 10 rest (uncut_lacks 10 rest none)) ∙ ends rest some
    where
      ends : (rest : List ℕ) → 0 < length rest → with_entries front (history_from number (rest ∷ [])) ≡ bad_line number
      ends [] some = absurd (omega arith)
      ends (b ∷ bs) some = refl

-- so many lines are left
pub lines_left : (rest line more : List ℕ) → cut_at 10 rest ≡ Some (line, more) →
    (length (pieces_of 10 rest) ≡ length (pieces_of 10 more) + 1) × (1 ≤ length (pieces_of 10 more)) × (length more < length rest)
lines_left rest line more cut =
    let (parts, lack) = parts_are 10 rest line more cut in (
      (let is = ap (λ (t : List ℕ). length (pieces_of 10 t)) parts ∙ ap length (pieces_cut 10 line more lack) in omega arith),
      (let (piece, (pieces, is)) = some_piece 10 more in let same = ap length is in omega arith),
      (let same = ap length parts in omega (arith, length-append line (10 ∷ more))),
    )
