-- The line that the pieces of a text are of.
use Rattle.std.proofs.Common.{◌≡◌, inl, inr, ℕ, ◌-◌, ◌<◌, ◌^◌, List, [], ◌∷◌, ◌++◌, length, take, drop, length-append, Option, Result, sym, ◌∙◌, ap, subst, arith, Some, None}
use Rattle.std.specs.Str.{IsUtf8}
use Rattle.std.specs.Str.Parse.{ParsesUnsigned}
use Rattle.std.specs.Fmt.{decimal}
use Rattle.std.specs.Result.{result_ok}
use Rattle.std.proofs.lemmas.Fmt.{parse-decimal, IsAscii-decimal}
use Rattle.std.proofs.lemmas.Str.{IsUtf8-from_ascii}
use Rattle.std.proofs.lemmas.List.{take_at}
use Rattle.flow_record.specs.Lines.{pieces_of}
use Rattle.flow_trail.specs.declared.line.TrailLine.{TrailLine}
use Rattle.flow_trail.specs.declared.line.TrailEnd.{TrailEnd}
use Rattle.flow_trail.specs.Lines.{Said, told, void, remark, said_of, IsSayable, CanFollow, line_text}
use Rattle.flow_trail.specs.Read.{text_in, IsPicked, IsGuess}
use Rattle.flow_trail.proofs.PickLemmas.{line_picked}

-- a line that tells an entry, by its texts
abbrev IsTold : List (List ℕ) → List ℕ → TrailLine → Type 0
IsTold ps note line = IsUtf8 (text_in ps 5) → IsUtf8 (text_in ps 9) → IsUtf8 (text_in ps 13) → IsUtf8 (text_in ps 17)
    → said_of line ≡ told (text_in ps 5) (text_in ps 9) (text_in ps 13) (text_in ps 17) note

module _ (ps : List (List ℕ)) (line : TrailLine) (note at by entry task : List ℕ) (made : IsTold ps note line)
    (u1 : IsUtf8 at) (u2 : IsUtf8 by) (u3 : IsUtf8 entry) (u4 : IsUtf8 task)
    (e1 : text_in ps 5 ≡ at) (e2 : text_in ps 9 ≡ by) (e3 : text_in ps 13 ≡ entry) (e4 : text_in ps 17 ≡ task) where
  told_is : said_of line ≡ told at by entry task note
  told_is =
      made (subst IsUtf8 (sym e1) u1) (subst IsUtf8 (sym e2) u2) (subst IsUtf8 (sym e3) u3) (subst IsUtf8 (sym e4) u4)
      ∙ ap (λ (x : List ℕ). told x (text_in ps 9) (text_in ps 13) (text_in ps 17) note) e1
      ∙ ap (λ (x : List ℕ). told at x (text_in ps 13) (text_in ps 17) note) e2
      ∙ ap (λ (x : List ℕ). told at by x (text_in ps 17) note) e3
      ∙ ap (λ (x : List ℕ). told at by entry x note) e4

pub short_guess : (ps ps' : List (List ℕ)) (line : TrailLine) (note : List ℕ) → ps ≡ ps' → length ps' ≡ 23 → note ≡ [] → IsTold ps note line → IsGuess ps' (Some line)
short_guess ps ps' line note same size none made (told at by entry task other) (u1, u2, u3, u4, u5) (e1, e2, e3, e4, inl long) = absurd (omega (arith, long.0, size))
short_guess ps ps' line note same size none made (told at by entry task other) (u1, u2, u3, u4, u5) (e1, e2, e3, e4, inr short) =
    told_is ps' line note at by entry task (subst (λ (l : List (List ℕ)). IsTold l note line) same made) u1 u2 u3 u4 e1 e2 e3 e4 ∙ ap (told at by entry task) (none ∙ sym short.1)
short_guess ps ps' line note same size none made (void at) sayable picked = absurd (omega (arith, picked.0, size))
short_guess ps ps' line note same size none made (remark about text entry by at) sayable picked = absurd (omega (arith, picked.0, size))

pub long_guess : (ps ps' : List (List ℕ)) (line : TrailLine) (note : List ℕ) → ps ≡ ps' → length ps' ≡ 27 → (IsUtf8 (text_in ps 21) → note ≡ text_in ps 21) → IsTold ps note line → IsGuess ps' (Some line)
long_guess ps ps' line note same size has made (told at by entry task other) (u1, u2, u3, u4, u5) (e1, e2, e3, e4, inr short) = absurd (omega (arith, short.0, size))
long_guess ps ps' line note same size has made (told at by entry task other) (u1, u2, u3, u4, u5) (e1, e2, e3, e4, inl long) =
    let note_is : note ≡ text_in ps' 21 = subst (λ (l : List (List ℕ)). IsUtf8 (text_in l 21) → note ≡ text_in l 21) same has (subst IsUtf8 (sym long.1) u5) in
    told_is ps' line note at by entry task (subst (λ (l : List (List ℕ)). IsTold l note line) same made) u1 u2 u3 u4 e1 e2 e3 e4 ∙ ap (told at by entry task) (note_is ∙ long.1)
long_guess ps ps' line note same size has made (void at) sayable picked = absurd (omega (arith, picked.0, size))
long_guess ps ps' line note same size has made (remark about text entry by at) sayable picked = absurd (omega (arith, picked.0, size))

-- a text that is a line's
module _ (e : TrailEnd) (text : List ℕ) (said : Said) (sayable : IsSayable said) (follows : CanFollow e said) (spells : text ≡ line_text e said) where
  picked : IsPicked (pieces_of 34 text) said
  picked = subst (λ (t : List ℕ). IsPicked (pieces_of 34 t) said) (sym spells) (line_picked e said sayable follows)

  pub guess_is : (line : TrailLine) → IsGuess (pieces_of 34 text) (Some line) → said_of line ≡ said
  guess_is line guess = guess said sayable picked

  pub guess_none : ¬ (IsGuess (pieces_of 34 text) None)
  guess_none guess = guess said sayable picked

-- the digits between a colon and a comma
pub digits_in : (piece : List ℕ) (n : ℕ) → piece ≡ 58 ∷ (decimal n ++ 44 ∷ []) → take ((length piece - 1) - 1) (drop 1 piece) ≡ decimal n
digits_in piece n is =
    let size : length (decimal n) ≡ (length piece - 1) - 1 = omega (arith, ap length is, length-append (decimal n) (44 ∷ [])) in
    ap (λ (l : List ℕ). take ((length piece - 1) - 1) (drop 1 l)) is ∙ take_at (decimal n) (44 ∷ []) ((length piece - 1) - 1) size

pub number_is : (piece text : List ℕ) (n : ℕ) {E : Type 0} (parsed : Result ℕ E) (read : Option ℕ) → n < 2 ^ 32 → piece ≡ 58 ∷ (decimal n ++ 44 ∷ []) →
    (IsUtf8 (take ((length piece - 1) - 1) (drop 1 piece)) → text ≡ take ((length piece - 1) - 1) (drop 1 piece)) → ParsesUnsigned 32 10 text parsed → read ≡ result_ok parsed → read ≡ Some n
number_is piece text n parsed read small is clean parses gives =
    let digits = digits_in piece n is in
    let plain : IsUtf8 (take ((length piece - 1) - 1) (drop 1 piece)) = subst IsUtf8 (sym digits) (IsUtf8-from_ascii (decimal n) (IsAscii-decimal n (omega arith))) in
    gives ∙ ap result_ok (parse-decimal 32 n text parsed small (omega arith) (clean plain ∙ digits) parses)
