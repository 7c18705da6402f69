-- A symbol that ends a declared item, and is read after it; a symbol that nothing goes on with.
use denote.Bor.{Bor}
use Rattle.std.proofs.Common.{◌≡◌, ℕ, List, [], ◌∷◌, ◌++◌, refl, ap}
use Rattle.std.specs.Prelude.{None}
use Rattle.flow_model.specs.declared.labels.Note.TheVariants.{Done, Fail}
use Rattle.flow_facts.specs.Atom.{atom}
use Rattle.flow_form.specs.Form.{Shape}
use Rattle.flow_form.specs.RuleForm.{RuleShape}
use Rattle.flow_form.specs.Script.{Declared, fact, event}
use Rattle.flow_grammar.specs.Grammar.{Prefix, prefixed}
use Rattle.flow_grammar.specs.Machine as machine
use Rattle.flow_grammar.specs.Machine.{with_name, join_item, fact_to_declare, event_to_declare, open_declared_args, note_event, count_failures, stuck}
use Rattle.flow_reader.specs.Symbols.{meant}
use Rattle.flow_reader.specs.declared.symbol.Symbol.{Symbol}
use Rattle.flow_reader.specs.declared.symbol.Symbol.TheVariants as code

pub fact_ended : (ds new : List Declared) (relation : List ℕ) (s : Symbol) → (s ≡ code.Opening → ⊥) → new ≡ ds ++ fact (atom relation []) ∷ [] →
    join_item fact_to_declare new (meant s) ≡ open_declared_args ds relation (meant s)
fact_ended ds new relation code.Opening other said = absurd (other refl)
fact_ended ds new relation s other said = ap (λ so_far. join_item fact_to_declare so_far (meant s)) said

pub event_ended : (ds new : List Declared) (n : List ℕ) (s : Symbol) → (s ≡ code.Fail → ⊥) → (s ≡ code.Done → ⊥) → new ≡ ds ++ event n Done ∷ [] →
    join_item event_to_declare new (meant s) ≡ note_event ds n (meant s)
event_ended ds new n code.Fail other further said = absurd (other refl)
event_ended ds new n code.Done other further said = absurd (further refl)
event_ended ds new n s other further said = ap (λ so_far. join_item event_to_declare so_far (meant s)) said

pub failing_ended : (ds new : List Declared) (n : List ℕ) (s : Symbol) → ((count : ℕ) → s ≡ code.Number count → ⊥) → new ≡ ds ++ event n Fail ∷ [] →
    join_item event_to_declare new (meant s) ≡ count_failures ds n (meant s)
failing_ended ds new n (code.Number count) other said = absurd (other count refl)
failing_ended ds new n s other said = ap (λ so_far. join_item event_to_declare so_far (meant s)) said

pub no_opening : (fs : List machine.Frame) (l : machine.Level) (s : Symbol) → (s ≡ code.Opening → ⊥) → stuck ≡ machine.open_iso fs l (meant s)
no_opening fs l code.Opening other = absurd (other refl)
no_opening fs l _ other = refl

pub no_relation : (p : Prefix) (fs : List machine.Frame) (l : machine.Level) (s : Symbol) → ((name : Bor (List ℕ)) → s ≡ code.Name name → ⊥) →
    stuck ≡ machine.name_relation p fs l (meant s)
no_relation p fs l (code.Name name) other = absurd (other name refl)
no_relation p fs l _ other = refl

pub no_name : {T : Type 0} (next : List ℕ → T) (s : Symbol) → ((name : Bor (List ℕ)) → s ≡ code.Name name → ⊥) →
    None ≡ with_name next (meant s)
no_name next (code.Name name) other = absurd (other name refl)
no_name next _ _ = refl

pub no_declaration : (ds : List Declared) (s : Symbol) → (s ≡ code.Fact → ⊥) → (s ≡ code.Event → ⊥) → (s ≡ code.Flow → ⊥) → (s ≡ code.Goal → ⊥) →
    None ≡ machine.start_declaration ds (meant s)
no_declaration ds code.Fact other _ _ _ = absurd (other refl)
no_declaration ds code.Event _ other _ _ = absurd (other refl)
no_declaration ds code.Flow _ _ other _ = absurd (other refl)
no_declaration ds code.Goal _ _ _ other = absurd (other refl)
no_declaration ds _ _ _ _ _ = refl

pub no_item : (again : List Declared → machine.State) (ds : List Declared) (s : Symbol) → (s ≡ code.Comma → ⊥) → (s ≡ code.Semicolon → ⊥) →
    None ≡ join_item again ds (meant s)
no_item again ds code.Comma other _ = absurd (other refl)
no_item again ds code.Semicolon _ other = absurd (other refl)
no_item again ds _ _ _ = refl

pub no_equals : (ds : List Declared) (n : List ℕ) (s : Symbol) → (s ≡ code.Equals → ⊥) →
    None ≡ machine.begin_flow ds n (meant s)
no_equals ds n code.Equals other = absurd (other refl)
no_equals ds n _ _ = refl

pub no_constraint : (ds : List Declared) (g : Shape) (rs : List RuleShape) (s : Symbol) → (s ≡ code.Constraint → ⊥) →
    None ≡ machine.start_constraint ds g rs (meant s)
no_constraint ds g rs code.Constraint other = absurd (other refl)
no_constraint ds g rs _ _ = refl

pub no_query : (s : Symbol) → (s ≡ code.Holds → ⊥) → (s ≡ code.Redundant → ⊥) →
    None ≡ machine.start_query (meant s)
no_query code.Holds other _ = absurd (other refl)
no_query code.Redundant _ other = absurd (other refl)
no_query _ _ _ = refl

pub no_number : (s : Symbol) → ((number : ℕ) → s ≡ code.Number number → ⊥) →
    None ≡ machine.read_number (meant s)
no_number (code.Number number) other = absurd (other number refl)
no_number _ _ = refl

pub no_end : (n : ℕ) (s : Symbol) → (s ≡ code.Semicolon → ⊥) →
    None ≡ machine.end_number n (meant s)
no_end n code.Semicolon other = absurd (other refl)
no_end n _ _ = refl

pub no_atom : (fs : List machine.Frame) (l : machine.Level) (s : Symbol) → (s ≡ code.Nop → ⊥) → ((name : Bor (List ℕ)) → s ≡ code.Name name → ⊥) → (s ≡ code.Question → ⊥) → (s ≡ code.Exclamation → ⊥) → (s ≡ code.Ins → ⊥) → (s ≡ code.Del → ⊥) → (s ≡ code.Iso → ⊥) → (s ≡ code.Opening → ⊥) →
    stuck ≡ machine.start_atom fs l (meant s)
no_atom fs l code.Nop other _ _ _ _ _ _ _ = absurd (other refl)
no_atom fs l (code.Name name) _ other _ _ _ _ _ _ = absurd (other name refl)
no_atom fs l code.Question _ _ other _ _ _ _ _ = absurd (other refl)
no_atom fs l code.Exclamation _ _ _ other _ _ _ _ = absurd (other refl)
no_atom fs l code.Ins _ _ _ _ other _ _ _ = absurd (other refl)
no_atom fs l code.Del _ _ _ _ _ other _ _ = absurd (other refl)
no_atom fs l code.Iso _ _ _ _ _ _ other _ = absurd (other refl)
no_atom fs l code.Opening _ _ _ _ _ _ _ other = absurd (other refl)
no_atom fs l _ _ _ _ _ _ _ _ _ = refl

pub no_join : (fs : List machine.Frame) (l : machine.Level) (s : Symbol) → (s ≡ code.Star → ⊥) → (s ≡ code.Bar → ⊥) → (s ≡ code.Plus → ⊥) → (s ≡ code.Semicolon → ⊥) → (s ≡ code.Closing → ⊥) →
    stuck ≡ machine.join_atom fs l (meant s)
no_join fs l code.Star other _ _ _ _ = absurd (other refl)
no_join fs l code.Bar _ other _ _ _ = absurd (other refl)
no_join fs l code.Plus _ _ other _ _ = absurd (other refl)
no_join fs l code.Semicolon _ _ _ other _ = absurd (other refl)
no_join fs l code.Closing _ _ _ _ other = absurd (other refl)
no_join [] l _ _ _ _ _ _ = refl
no_join (f ∷ fs) l _ _ _ _ _ _ = refl

pub no_unit : (fs : List machine.RuleFrame) (l : machine.RuleLevel) (k : ℕ) (s : Symbol) → (s ≡ code.Not → ⊥) → (s ≡ code.Opening → ⊥) → (s ≡ code.Must → ⊥) → (s ≡ code.Never → ⊥) → (s ≡ code.Order → ⊥) → (s ≡ code.Precedes → ⊥) → (s ≡ code.Needs → ⊥) →
    stuck ≡ machine.start_unit fs l k (meant s)
no_unit fs l k code.Not other _ _ _ _ _ _ = absurd (other refl)
no_unit fs l k code.Opening _ other _ _ _ _ _ = absurd (other refl)
no_unit fs l k code.Must _ _ other _ _ _ _ = absurd (other refl)
no_unit fs l k code.Never _ _ _ other _ _ _ = absurd (other refl)
no_unit fs l k code.Order _ _ _ _ other _ _ = absurd (other refl)
no_unit fs l k code.Precedes _ _ _ _ _ other _ = absurd (other refl)
no_unit fs l k code.Needs _ _ _ _ _ _ other = absurd (other refl)
no_unit fs l k _ _ _ _ _ _ _ _ = refl

pub no_rule_join : (fs : List machine.RuleFrame) (l : machine.RuleLevel) (s : Symbol) → (s ≡ code.And → ⊥) → (s ≡ code.Or → ⊥) → (s ≡ code.Semicolon → ⊥) → (s ≡ code.Closing → ⊥) →
    stuck ≡ machine.join_unit fs l (meant s)
no_rule_join fs l code.And other _ _ _ = absurd (other refl)
no_rule_join fs l code.Or _ other _ _ = absurd (other refl)
no_rule_join fs l code.Semicolon _ _ other _ = absurd (other refl)
no_rule_join fs l code.Closing _ _ _ other = absurd (other refl)
no_rule_join [] l _ _ _ _ _ = refl
no_rule_join (f ∷ fs) l _ _ _ _ _ = refl

pub no_missing_name : (names : machine.Names) (fs : List machine.RuleFrame) (l : machine.RuleLevel) (k : ℕ) (s : Symbol) → ((name : Bor (List ℕ)) → s ≡ code.Name name → ⊥) →
    stuck ≡ machine.read_name names fs l k (meant s)
no_missing_name names fs l k (code.Name name) other = absurd (other name refl)
no_missing_name names fs l k _ _ = refl

pub atom_ended : (p : Prefix) (relation : List ℕ) (fs : List machine.Frame) (l new : machine.Level) (s : Symbol) → (s ≡ code.Opening → ⊥) →
    new ≡ machine.push l (prefixed p (atom relation [])) → machine.join_atom fs new (meant s) ≡ machine.open_args p relation fs l (meant s)
atom_ended p relation fs l new code.Opening other said = absurd (other refl)
atom_ended p relation fs l new s other said = ap (λ so_far. machine.join_atom fs so_far (meant s)) said
