-- Lines of a trail that are read one after another.
use Rattle.std.proofs.Common.{◌≡◌, ◌∙◌, Bool, true, false, List, [], ◌∷◌, ◌++◌, map, refl, sym, ap, append-nil, append_assoc}
use Rattle.flow_trail.specs.declared.line.TrailLine.{TrailLine}
use Rattle.flow_trail.specs.Lines.{Said, said_of, told}
use Rattle.flow_trail.specs.Due.{begins_void}
use Rattle.flow_export.specs.Rows.{Tale}
use Rattle.flow_case_seen.specs.Tellers.{made_by, makers}

in_front : (said : Said) (voided : Bool) (more : List Tale) → made_by said voided more ≡ made_by said voided [] ++ more
in_front (told at by entry task note) true more = refl
in_front (told at by entry task note) false more = refl
in_front other voided more = refl

-- a line more
pub next_line : (all found new : List Tale) (rest behind : List TrailLine) (line : TrailLine) → rest ≡ line ∷ behind →
    new ≡ found ++ made_by (said_of line) (begins_void (map said_of behind)) [] → all ≡ found ++ makers (map said_of rest) → all ≡ new ++ makers (map said_of behind)
next_line all found new rest behind line e added so_far =
    so_far ∙ ap (λ (l : List TrailLine). found ++ makers (map said_of l)) e
    ∙ ap (λ (l : List Tale). found ++ l) (in_front (said_of line) (begins_void (map said_of behind)) (makers (map said_of behind)))
    ∙ sym (append_assoc found (made_by (said_of line) (begins_void (map said_of behind)) []) (makers (map said_of behind)))
    ∙ ap (λ (l : List Tale). l ++ makers (map said_of behind)) (sym added)

-- no line is left
pub no_line : (all found : List Tale) (rest : List TrailLine) → rest ≡ [] → all ≡ found ++ makers (map said_of rest) → found ≡ all
no_line all found rest e so_far =
    sym (append-nil found) ∙ ap (λ (l : List TrailLine). found ++ makers (map said_of l)) (sym e) ∙ sym so_far
