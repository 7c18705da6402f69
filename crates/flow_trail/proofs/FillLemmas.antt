-- A buffer that is filled by one read after another.
use Rattle.std.proofs.Common.{◌≡◌, ℕ, ◌+◌, ◌≤◌, List, ◌++◌, length, take, drop, sym, ap, ◌∙◌}
use lib.Seq.{take-add}
use Rattle.std.proofs.lemmas.List.{take_at as take_front, drop_at as drop_front, length-take-le, take-append-le}

-- a list with its front taken from another, and the next piece as well
pub filled : (buffer new rest all : List ℕ) (count got : ℕ) → count ≤ length buffer → take count buffer ≡ take count all → got ≤ length new → take got new ≡ take got (drop count all) →
    take (count + got) (take count buffer ++ (new ++ rest)) ≡ take (count + got) all
filled buffer new rest all count got within front fits next =
    let long : length (take count buffer) ≡ count = length-take-le count buffer within in
    take-add count got (take count buffer ++ (new ++ rest))
    ∙ ap (λ (l : List ℕ). l ++ take got (drop count (take count buffer ++ (new ++ rest)))) (take_front (take count buffer) (new ++ rest) count long)
    ∙ ap (λ (l : List ℕ). take count buffer ++ take got l) (drop_front (take count buffer) (new ++ rest) count long)
    ∙ ap (λ (l : List ℕ). take count buffer ++ l) (take-append-le got new rest fits ∙ next)
    ∙ ap (λ (l : List ℕ). l ++ take got (drop count all)) front
    ∙ sym (take-add count got all)
