-- The laws of reading, of a machine whose states know what may follow them.
use Rattle.std.proofs.Common.{◌≡◌, ℕ, Some, List, subst}
use Rattle.std.specs.Prelude.{Option, option_map}
use Rattle.flow_form.specs.declared.refusal.Wanted.{Wanted}
use Rattle.flow_grammar.specs.Symbol.{Symbol, Placed}
use Rattle.flow_grammar.specs.Machine.{Reading, gives, expected, too_deep, run, standing, step_script, finish_script, wanted_script, depth_script, script_start, read_script, step_query, finish_query, wanted_query, depth_query, query_needed, read_query, script_wants, query_wants}
use Rattle.flow_grammar.specs.Texts.{SpellsScript, SpellsQuery}
use Rattle.flow_grammar.specs.Laws.{ReadsJustThese, SaysOneThing, IsStuckJustThere, IsTooDeepJustThere, WantsWhatCouldCome, TellsWhatIsWanted}
use Rattle.flow_grammar.proofs.Runs.{Knows, Wants, Holds, IsSo, is_so, one_meaning, IsFound, one_reading}
use Rattle.flow_grammar.proofs.ScriptStates as scripts
use Rattle.flow_grammar.proofs.QueryStates as queries
use Rattle.flow_grammar.proofs.WantedKinds as kinds

-- the machine is that of the grammar
pub record IsMachine {V : Type 0} (Spells : List Placed → V → Type 0) (wants : List Symbol → Option Wanted) (read : List Symbol → Reading V) : Type 0 where
  pub reads : ReadsJustThese Spells read
  pub says_one_thing : SaysOneThing Spells
  pub is_stuck : IsStuckJustThere Spells read
  pub is_too_deep : IsTooDeepJustThere Spells read
  pub wants_what_could_come : WantsWhatCouldCome Spells read
  pub tells_what_is_wanted : TellsWhatIsWanted wants read

is_machine : {S V : Type 0} (step : S → Symbol → Option S) (finish : S → Option V) (wanted : S → Wanted) (depth : S → ℕ) (R : S → List Placed → V → Type 0) →
    Knows step finish depth R → Wants step finish wanted → (start : S) →
    IsMachine (R start) (λ ts. option_map wanted (standing step (Some start) ts)) (run step finish wanted depth start)
is_machine {S} {V} step finish wanted depth R k comes s = record {
  reads = λ ts x. (so ts (gives x), found ts (gives x));
  says_one_thing = λ w v x y. one_meaning step finish wanted depth R k comes w v s x y;
  is_stuck = λ ts i. (λ (kind, e). (so ts (expected kind i) e).stands, found ts (expected (wanted s) i));
  is_too_deep = λ ts i. (so ts (too_deep i), found ts (too_deep i));
  wants_what_could_come = λ ts kind i e. let told = so ts (expected kind i) e in (told.comes, told.ends);
  tells_what_is_wanted = λ ts kind i e. (so ts (expected kind i) e).by_the_table;
}
  where
    so : (ts : List Symbol) (r : Reading V) → run step finish wanted depth s ts ≡ r → IsSo step finish wanted depth R k comes s ts r
    so ts r e = subst (IsSo step finish wanted depth R k comes s ts) e (is_so step finish wanted depth R k comes ts s)

    found : (ts : List Symbol) (r : Reading V) → Holds step finish wanted depth R k comes s ts r → IsFound (run step finish wanted depth s ts) r
    found ts r = one_reading step finish wanted depth R k comes ts s _ r (is_so step finish wanted depth R k comes ts s)

pub scripts_are_read : IsMachine SpellsScript script_wants read_script
scripts_are_read = is_machine step_script finish_script wanted_script depth_script scripts.Rest scripts.script_knows kinds.script_wants script_start

pub queries_are_read : IsMachine SpellsQuery query_wants read_query
queries_are_read = is_machine step_query finish_query wanted_query depth_query queries.Rest queries.query_knows kinds.query_wants query_needed
