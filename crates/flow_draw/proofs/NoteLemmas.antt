-- A constraint that is printed alone.
use Rattle.std.proofs.Common.{◌≡◌, ℕ, ◌+◌, ◌-◌, List, [], ◌++◌, length, take, drop, sym, ap, ◌∙◌, append_assoc, append-nil, arith, length-append}
use Rattle.std.specs.Prelude.{codes}
use Rattle.std.proofs.Math.Seq.{take-append_seam}
use Rattle.flow_form.specs.RuleForm.{RuleShape}
use Rattle.flow_text.specs.Printed.{rule_text, constraint_line}
use Rattle.flow_draw.specs.Notes.{note_of}

-- the line of a constraint is its text and a line feed
pub line_of_note : (x : RuleShape) → constraint_line x ≡ note_of x ++ codes "\n"
unfolding constraint_line note_of
line_of_note x = sym (append_assoc (codes "constraint " ++ rule_text x) (codes ";") (codes "\n"))

-- it is longer than what stands before it
pub long : (t n : List ℕ) → t ≡ codes "goal nop;\n" ++ (n ++ codes "\n") → length t ≡ length n + 11
long t n e = ap length e ∙ count
  where
    count : length (codes "goal nop;\n" ++ (n ++ codes "\n")) ≡ length n + 11
    count = let k : length (n ++ codes "\n") ≡ length n + 1 = length-append n (codes "\n") in omega arith

-- what is left of it
pub cut_note : (t n line note : List ℕ) → t ≡ codes "goal nop;\n" ++ (n ++ codes "\n") → line ≡ drop 10 t → note ≡ take (length line - 1) line → note ≡ n
cut_note t n line note e f g =
    let behind : line ≡ n ++ codes "\n" = f ∙ ap (drop 10) e in
    let size : length line - 1 ≡ length n =
    (let k : length line ≡ length n + 1 = ap length behind ∙ length-append n (codes "\n") in omega arith) in
    g ∙ ap (λ k. take k line) size ∙ ap (take (length n)) behind ∙ take-append_seam n (codes "\n")

-- what a script prints that says nothing but the constraint
pub alone : (x : RuleShape) → constraint_line x ++ [] ≡ note_of x ++ codes "\n"
alone x = append-nil (constraint_line x) ∙ line_of_note x
