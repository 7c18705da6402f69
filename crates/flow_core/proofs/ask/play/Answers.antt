use Rattle.std.proofs.Common.{◌≡◌, ◌<◌, ◌≤◌, ◌+◌, ℕ, List, [], ◌∷◌, ◌++◌, length, take, set, get_or, refl, sym, ◌∙◌, subst, subst₂, arith, length-set}
use Rattle.std.proofs.lemmas.List.{length-replicate, take_all, take_more, take_more_set}
use Rattle.flow_ask.specs.declared.ask.Ask.{Ask}
use Rattle.flow_ask.specs.declared.ask.Ask.TheVariants.{Take}
use Rattle.flow_core.specs.declared.ask.Told.{Told}
use Rattle.flow_core.specs.Run.{Run}
use Rattle.flow_core.specs.Ask.{IsTold, IsPlayed}
use Rattle.flow_core.proofs.ask.play.Goals as goal

-- one ask more
played-append : (r : Run) (by : ℕ) (asks : List Ask) (tolds : List Told) (middle : Run) (ask : Ask) (told : Told) (after : Run) →
    IsPlayed r by asks tolds middle → IsTold middle ask by told after → IsPlayed r by (asks ++ ask ∷ []) (tolds ++ told ∷ []) after
played-append r by [] [] middle ask told after e one = (after, subst (λ (m : Run). IsTold m ask by told after) e one, refl)
played-append r by [] (t ∷ ts) middle ask told after e one = absurd e
played-append r by (a ∷ more) [] middle ask told after e one = absurd e
played-append r by (a ∷ more) (t ∷ ts) middle ask told after (next, first, rest) one = (next, first, played-append next by more ts middle ask told after rest one)

pub loop-index-preserved : goal.loop-index-preserved
loop-index-preserved g c =
    let i : ℕ = c.loop-index.index in
    let asks : take (i + 1) c.args.asks.now ≡ take i c.args.asks.now ++ get_or c.args.asks.now i (Take 0) ∷ [] =
    take_more c.args.asks.now i (Take 0) (let e : length c.args.asks.now ≡ g.row.N = c.told-asks in let h : i < g.row.N = c.loop-index-test.true in omega arith) in
    let tolds : take (i + 1) (set c.loop-index.told i c.from.result) ≡ take i c.loop-index.told ++ c.from.result ∷ [] =
    take_more_set c.loop-index.told i c.from.result (let e : length c.loop-index.told ≡ g.row.N = c.loop-index.invariant.as_many in let h : i < g.row.N = c.loop-index-test.true in omega arith) in
    record {
      played = subst₂ (λ (asks : List Ask) (tolds : List Told). IsPlayed c.args.core.now c.args.by asks tolds c.answer.new.self) (sym asks) (sym tolds)
          (played-append c.args.core.now c.args.by (take i c.args.asks.now) (take i c.loop-index.told) c.loop-index.core (get_or c.args.asks.now i (Take 0)) c.from.result c.answer.new.self
          c.loop-index.invariant.played (c.answer.result, c.answer.ensures, c.from.ensures));
      as_many = length-set c.loop-index.told i c.from.result ∙ c.loop-index.invariant.as_many;
    }

pub returns : goal.returns
returns g c =
    let i : ℕ = c.loop-index.index in
    let asks : take i c.args.asks.now ≡ c.args.asks.now = take_all i c.args.asks.now (let e : length c.args.asks.now ≡ g.row.N = c.told-asks in let h : g.row.N ≤ i = c.loop-index-test.false in omega arith) in
    let tolds : take i c.loop-index.told ≡ c.loop-index.told =
    take_all i c.loop-index.told (let e : length c.loop-index.told ≡ g.row.N = c.loop-index.invariant.as_many in let h : g.row.N ≤ i = c.loop-index-test.false in omega arith) in
    subst₂ (λ (asks : List Ask) (tolds : List Told). IsPlayed c.args.core.now c.args.by asks tolds c.loop-index.core) asks tolds c.loop-index.invariant.played

pub loop-index-init : goal.loop-index-init
loop-index-init g c = record { played = refl; as_many = length-replicate g.row.N _ }
