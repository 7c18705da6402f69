-- The generated workflow of a seed and a size.
use Rattle.std.specs.Prelude.{ℕ, zero, suc, ◌+◌, ◌-◌, ◌*◌, ◌%◌, ◌==◌, nat_lt, if◌then◌else◌, List, [], ◌∷◌, ◌++◌, map, take, drop, codes}
use Rattle.std.specs.Fmt.{decimal}
use Rattle.flow_model.specs.declared.labels.Note.TheVariants.{Done}
use Rattle.flow_model.specs.Lists.{numbers_from}
use Rattle.flow_form.specs.Form.{Shape, named, iso, serial, beside, either, shapes}
use Rattle.flow_form.specs.RuleForm.{RuleShape, precedes}
use Rattle.flow_form.specs.Script.{Declared, event, Said}
use Rattle.flow_gen.specs.declared.kind.Kind.{Kind}
use Rattle.flow_gen.specs.declared.kind.Kind.TheVariants.{Series, Beside, IsolatedBeside, Either}

-- the number that is drawn after x
abbrev pub drawn : ℕ → ℕ
drawn x = (75 * x + 74) % 65537

-- so many numbers, each drawn after the one before
abbrev pub draws : ℕ → ℕ → List ℕ
draws x zero = []
draws x (suc count) = drawn x ∷ draws (drawn x) count

-- the kind of a block by its draw, where so many blocks before it are choices
abbrev pub kind : ℕ → ℕ → Kind
kind choices d =
    if d % 4 == 0 then Series else if d % 4 == 1 then Beside else if d % 4 == 2 then IsolatedBeside else if nat_lt choices 6 then Either else Beside

abbrev pub choices_in : Kind → ℕ
choices_in Series = 0
choices_in Beside = 0
choices_in IsolatedBeside = 0
choices_in Either = 1

-- the kinds of blocks by their draws, after so many choices
abbrev pub kinds : ℕ → List ℕ → List Kind
kinds choices [] = []
kinds choices (d ∷ ds) = kind choices d ∷ kinds (choices + choices_in (kind choices d)) ds

-- e and the number
abbrev pub event_name : ℕ → List ℕ
event_name k = codes "e" ++ decimal k

-- so many events from that one on, one after another
abbrev pub series : ℕ → ℕ → Shape
series first count = serial (shapes (map (λ k. named (event_name k)) (numbers_from first count)))

-- a block of eight events, of which that is the first
abbrev pub block : ℕ → Kind → Shape
block first Series = series first 8
block first Beside = beside (shapes (series first 4 ∷ series (first + 4) 4 ∷ []))
block first IsolatedBeside = beside (shapes (iso (series first 4) ∷ series (first + 4) 4 ∷ []))
block first Either = either (shapes (series first 4 ∷ series (first + 4) 4 ∷ []))

-- the blocks two by two beside each other; a last one without a partner stands alone
abbrev pub pairs : ℕ → List Kind → List Shape
pairs first [] = []
pairs first (a ∷ []) = block first a ∷ []
pairs first (a ∷ b ∷ more) = beside (shapes (block first a ∷ block (first + 8) b ∷ [])) ∷ pairs (first + 16) more

-- the only one, or all of them one after another
abbrev pub in_turn : List Shape → Shape
in_turn (s ∷ []) = s
in_turn ss = serial (shapes ss)

-- one event of each block, of which that is the first event of the first, before one of the block after it
abbrev pub constraints : ℕ → List ℕ → List RuleShape
constraints first (f ∷ g ∷ ds) = precedes (event_name (first + f % 8)) (event_name (first + 8 + g % 8)) ∷ constraints (first + 8) ds
constraints first _ = []

abbrev pub events : ℕ → List Declared
events count = map (λ k. event (event_name k) Done) (numbers_from 0 count)

-- a draw for each block, then two for each two blocks that follow each other
abbrev pub all_draws : ℕ → ℕ → List ℕ
all_draws seed size = draws seed (size + 2 * (size - 1))

abbrev pub generated : ℕ → ℕ → Said
generated seed size = record {
  decls = events (8 * size);
  goal = in_turn (pairs 0 (kinds 0 (take size (all_draws seed size))));
  rules = constraints 0 (drop size (all_draws seed size));
}
