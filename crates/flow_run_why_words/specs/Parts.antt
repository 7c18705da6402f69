-- The text of what stands behind a workflow, in a file of its own.
use Rattle.std.specs.Prelude.{ℕ, Bool, nat_eq, List, length, drop, take, if◌then◌else◌, codes}
use Rattle.std.specs.Cmp.Lexicographic.{pointwise}

abbrev begins_with : List ℕ → List ℕ → Bool
begins_with text line = pointwise nat_eq (take (length line) text) line

-- the text behind its first line, where that is a line %%
abbrev pub part_of : List ℕ → List ℕ
part_of text =
    if begins_with text (codes "%%\n") then drop 3 text
    else if begins_with text (codes "%%\r\n") then drop 4 text
    else text
