-- What a list of symbols says, and where no text goes on.
use Rattle.std.specs.Prelude.{◌≡◌, ℕ, zero, suc, ◌<◌, ◌≤◌, ◌⊎◌, List, [], ◌∷◌, take, length}
use Rattle.flow_form.specs.Script.{Said, Asked}
use Rattle.flow_grammar.specs.Symbol.{Symbol, Placed, at, symbols, IsBegunBy, Deepens}
use Rattle.flow_grammar.specs.Grammar.{ScriptText, spell_script, mean_script, QueryText, spell_query, mean_query}
use Rattle.flow_model.specs.declared.limits.TheConstants.{GREATEST_DEPTH}

-- some derivation spells w and means x
abbrev pub SpellsScript : List Placed → Said → Type 0
SpellsScript w x = (d : ScriptText) × (spell_script d ≡ w) × (mean_script d ≡ x)

abbrev pub SpellsQuery : List Placed → Asked → Type 0
SpellsQuery w x = (d : QueryText) × (spell_query d ≡ w) × (mean_query d ≡ x)

-- no `(` or `not` stands inside GREATEST_DEPTH others
abbrev pub IsShallow : List Placed → Type 0
IsShallow [] = Unit {0}
IsShallow (at n t ∷ w) = (Deepens t → n < GREATEST_DEPTH) × IsShallow w

-- at place k a `(` or `not` stands inside GREATEST_DEPTH others
abbrev pub IsDeepAt : List Placed → ℕ → Type 0
IsDeepAt [] k = ⊥
IsDeepAt (at n t ∷ w) zero = Deepens t × (GREATEST_DEPTH ≤ n)
IsDeepAt (at n t ∷ w) (suc k) = IsDeepAt w k

-- The texts are those that `Spells` has: scripts, or queries

-- these symbols say x
abbrev pub Derives : {V : Type 0} → (List Placed → V → Type 0) → List Symbol → V → Type 0
Derives Spells ts x = (w : List Placed) × (symbols w ≡ ts) × IsShallow w × Spells w x

-- they are a text, however deep
abbrev pub IsWhole : {V : Type 0} → (List Placed → V → Type 0) → List Symbol → Type 0
IsWhole {V} Spells ts = (w : List Placed) × (x : V) × (symbols w ≡ ts) × Spells w x

-- some text, however deep, begins with these symbols
abbrev pub IsViable : {V : Type 0} → (List Placed → V → Type 0) → List Symbol → Type 0
IsViable {V} Spells ts = (w : List Placed) × (x : V) × IsBegunBy ts w × Spells w x

-- some text begins with the symbols up to place k, and the one there is a `(` or `not` inside GREATEST_DEPTH others
abbrev pub StandsDeep : {V : Type 0} → (List Placed → V → Type 0) → List Symbol → ℕ → Type 0
StandsDeep {V} Spells ts k =
    (k < length ts) × ((w : List Placed) × (x : V) × IsBegunBy (take (suc k) ts) w × IsDeepAt w k × Spells w x)

-- place k is the first where no text goes on: at the symbol there, or at the end
abbrev pub IsStuckAt : {V : Type 0} → (List Placed → V → Type 0) → List Symbol → ℕ → Type 0
IsStuckAt Spells ts k =
    IsViable Spells (take k ts) × ((k < length ts) × ¬ IsViable Spells (take (suc k) ts) ⊎ (k ≡ length ts) × ¬ IsWhole Spells ts)

abbrev pub NoneDeepBefore : {V : Type 0} → (List Placed → V → Type 0) → List Symbol → ℕ → Type 0
NoneDeepBefore Spells ts k = (j : ℕ) → j < k → ¬ StandsDeep Spells ts j
