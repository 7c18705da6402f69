use Rattle.std.proofs.Common.{arith, ◌∙◌, ◌≡◌, ◌<◌, ℕ, List, [], ◌∷◌, Option, Some, set, slice_get, subst, sym, inl, ⊎_elim, length}
use Rattle.std.proofs.lemmas.Option.{slice_get_within}
use Rattle.flow_model.specs.Lists.{◌∈◌}
use Rattle.flow_form.specs.Script.{Declared}
use Rattle.flow_expand.specs.declared.lay.Stage.{Stage}
use Rattle.flow_expand.specs.declared.lay.Stage.TheVariants as stage
use Rattle.flow_expand.specs.Settlement.{IsPath, IsIdle, work_left}
use Rattle.flow_expand.specs.Directory.{decls_of}
use Rattle.flow_model.proofs.Lists.{last_none}
use Rattle.flow_expand.proofs.SettlementLemmas.{settled, last_some, stays_begun, stays_twice, get_set_same, get_set_cases, laid_begun, seen_kept, stays_at}
use Rattle.flow_expand.proofs.settlement.Settlement.settle.Goals as goal

-- where none waits, the one that begins to wait is the whole path
path_first : (decls : List Declared) (laid : List Stage) (k : ℕ) (path : List ℕ) → IsIdle laid → k < length laid → path ≡ k ∷ [] → IsPath decls (set laid k stage.Begun) path
path_first decls laid k path idle lt is = subst (IsPath decls (set laid k stage.Begun)) (sym is) alone
  where
    alone : IsPath decls (set laid k stage.Begun) (k ∷ [])
    alone = record {
      steps = tt;
      distinct = ((λ m. absurd m), tt);
      begun = λ j m. ⊎_elim (λ e. subst (λ i. slice_get (set laid k stage.Begun) i ≡ Some stage.Begun) (sym e) (get_set_same laid k stage.Begun lt)) (λ n. absurd n) m;
      only = λ j at. ⊎_elim (λ p. inl p.0) (λ old. absurd (idle j old)) (get_set_cases laid k j stage.Begun stage.Begun at);
    }

not_both : (o : Option Stage) → o ≡ Some stage.Begun → o ≡ Some stage.Unlaid → ⊥
not_both o e f =
    let both : Some stage.Begun ≡ Some stage.Unlaid = sym e ∙ f in
    cc

pub loop-flow-init : goal.loop-flow-init
loop-flow-init c =
    let s = c.args.self.now in
    let laid = s.laid.items in
    let start = c.args.start in
    let lt : start < length laid = slice_get_within laid start stage.Unlaid c.requires.unlaid in
    record {
      settlement = record {
        laid = laid_begun c.args.directory.now laid s.layout.items start c.requires.settlement.laid;
        many = c.requires.settlement.many;
        calls = c.requires.settlement.calls;
        counted = c.requires.settlement.counted;
        seen = seen_kept s.calls.items s.seen.items laid (set laid start stage.Begun) (λ j. stays_at laid (set laid start stage.Begun) j (stays_begun laid start c.requires.unlaid)) c.requires.settlement.seen;
      };
      path = path_first (decls_of c.args.directory.now) laid start c.in_ok-path.path.items c.requires.idle lt c.in_ok-path.ensures.items;
      stays = stays_begun laid start c.requires.unlaid;
      begun = not_both (slice_get (set laid start stage.Begun) start) (get_set_same laid start stage.Begun lt);
    }

pub loop-flow-preserved : goal.loop-flow-preserved
loop-flow-preserved c = record {
  settlement = c.in_ok-advance.ensures.settlement;
  path = c.in_ok-advance.ensures.path;
  stays = stays_twice c.args.self.now.laid.items c.loop-flow.self.laid.items c.advance.new.self.laid.items c.loop-flow.invariant.stays c.in_ok-advance.ensures.stays;
  begun = λ e. c.loop-flow.invariant.begun (c.in_ok-advance.ensures.stays.unlaid c.args.start e);
}

pub returns : goal.returns
returns c =
    let laid = c.loop-flow.self.laid.items in
    let none : c.loop-flow.path.items ≡ [] = sym c.deref.ensures.value ∙ last_none c.deref.result.now (sym c.last.ensures.value ∙ sym c.in_default.ensures) in
    let lt : c.args.start < length laid =
    subst (λ n. c.args.start < n) (sym c.loop-flow.invariant.stays.as_many) (slice_get_within c.args.self.now.laid.items c.args.start stage.Unlaid c.requires.unlaid) in
    let idle : IsIdle laid = λ k at. absurd (subst (λ path. k ∈ path) none (c.loop-flow.invariant.path.only k at)) in
    record {
      settlement = c.loop-flow.invariant.settlement;
      idle = idle;
      stays = c.loop-flow.invariant.stays;
      start = ⊎_elim (λ unlaid. absurd (c.loop-flow.invariant.begun unlaid)) (λ there. there) (settled laid c.args.start idle lt);
      found = tt;
    }

pub index_mut-requires : goal.index_mut-requires
index_mut-requires c = omega (arith, slice_get_within c.args.self.now.laid.items c.args.start stage.Unlaid c.requires.unlaid, c.args.self.now.laid.ok.0)

pub advance-requires-clause-last : goal.advance-requires-clause-last
advance-requires-clause-last c =
    last_some c.deref.result.now c.loop-flow.path.items c.loop-flow.path.len c.in-Some.flow c.deref.ensures.value c.loop-flow.path.ok.0 (sym c.last.ensures.value ∙ sym c.in-Some.ensures)

pub loop-flow-smaller : goal.loop-flow-smaller
loop-flow-smaller c =
    let less : work_left c.advance.new.self.laid.items < work_left c.loop-flow.self.laid.items = omega (arith, c.in_ok-advance.ensures.less) in
    less
