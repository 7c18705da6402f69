use Rattle.std.proofs.Common.{rules, arith, ◌≡◌, ◌<◌, ℕ, length, slice_get, Option, Some, None, true, refl, sym, subst, ap, ◌∙◌}
use Rattle.flow_model.specs.Lists.{◌∈◌, Each}
use Rattle.std.specs.Prelude.{IfSome, MatchOption, is_some}
use Rattle.flow_form.specs.Form.{shape_of}
use Rattle.flow_form.specs.Names.{names_in}
use Rattle.flow_expand.specs.Lay.{IsLaid, IsLaidAt, IsSettled}
use Rattle.flow_expand.proofs.Declarations.{flow_at}
use Rattle.flow_expand.proofs.LayLemmas.{ready}
use Rattle.flow_expand.proofs.SettlementLemmas.{laid_set, calls_many, list_at, calls_at, calls_found, named_call, all_laid, seen_to, seen_moved, seen_kept, laid_stays}
use Rattle.flow_expand.proofs.settlement.Settlement.attempt.Goals as goal

some_to : (o : Option ℕ) (P : ℕ → Type 0) → ((k : ℕ) → o ≡ Some k → P k) → IfSome o P
some_to None P f = tt
some_to (Some k) P f = f k refl

where_some : (o : Option ℕ) (P : Type 0) (Q : ℕ → Type 0) → true ≡ is_some o → ((k : ℕ) → Q k) → MatchOption o P Q
where_some None P Q e f = absurd (cc)
where_some (Some k) P Q e f = f k

pub returns-then-is_some-clause-waits : goal.returns-then-is_some-clause-waits
returns-then-is_some-clause-waits c =
    let d = c.args.directory.now in
    let s = c.args.self.now in
    let within : c.args.flow < length d.goals.items = subst (λ n. c.args.flow < n) d.goals.ok.0 c.requires.within in
    let list = c.index.result.now in
    let at = list_at d s c.args.flow list c.requires.settlement c.requires.within c.index.ensures in
    some_to c.call_at-next.result _ (λ k e.
    let there = ap (λ l. slice_get l c.first_unlaid-ahead.result) (sym c.as_slice-named.ensures.value) ∙ sym c.call_at-next.ensures ∙ e in (
      calls_found d s.calls.items c.args.flow c.first_unlaid-ahead.result k list c.requires.settlement.laid.directory c.requires.settlement.calls within at there,
      λ laid. c.first_unlaid-ahead.ensures.next k (sym c.call_at-next.ensures ∙ e) (subst (λ l. IsLaidAt l k) (sym c.deref.ensures.value) laid),
    ))

pub lay-requires-clause-ready : goal.lay-requires-clause-ready
lay-requires-clause-ready c =
    let d = c.args.directory.now in
    let s = c.args.self.now in
    let within : c.args.flow < length d.goals.items = subst (λ n. c.args.flow < n) d.goals.ok.0 c.requires.within in
    let list = c.index.result.now in
    let at = list_at d s c.args.flow list c.requires.settlement c.requires.within c.index.ensures in
    let passed = seen_to d s c.args.flow c.index-2.result.now c.first_unlaid-ahead.result list _ _ c.requires.settlement at c.requires.within c.index-2.ensures c.as_slice-named.ensures.value c.deref.ensures.value
    c.first_unlaid-ahead.ensures.passed in
    let f = c.index-3.result.now in
    let h = c.requires.settlement.laid.directory in
    let (n, there) = flow_at d h c.args.flow f within c.index-3.ensures in
    let none : c.call_at-next.result ≡ None = search rules in
    let ends = ap (λ l. slice_get l c.first_unlaid-ahead.result) (sym c.as_slice-named.ensures.value) ∙ sym c.call_at-next.ensures ∙ none in
    let is = calls_at d s.calls.items c.args.flow list f c.requires.settlement.calls at within c.index-3.ensures in
    subst (λ l. Each (IsSettled d l) (names_in (shape_of f.now))) (sym c.deref-2.ensures.value)
    (ready d s.laid.items (names_in (shape_of f.now)) h (h.closed c.args.flow n (shape_of f.now) there)
    (λ m k used e. all_laid s.laid.items c.first_unlaid-ahead.result list.items ends passed k (subst (λ l. k ∈ l) (sym is) (named_call d.flows (names_in (shape_of f.now)) m k used e))))

pub returns-clause-settlement : goal.returns-clause-settlement
returns-clause-settlement c =
    let d = c.args.directory.now in
    let s = c.args.self.now in
    let within : c.args.flow < length d.goals.items = subst (λ n. c.args.flow < n) d.goals.ok.0 c.requires.within in
    let list = c.index.result.now in
    let at = list_at d s c.args.flow list c.requires.settlement c.requires.within c.index.ensures in
    let passed = seen_to d s c.args.flow c.index-2.result.now c.first_unlaid-ahead.result list _ _ c.requires.settlement at c.requires.within c.index-2.ensures c.as_slice-named.ensures.value c.deref.ensures.value
    c.first_unlaid-ahead.ensures.passed in
    let f = c.index-3.result.now in
    let (n, there) = flow_at d c.requires.settlement.laid.directory c.args.flow f within c.index-3.ensures in
    record {
      laid = laid_set d s.laid.items s.layout.items c.lay.new.layout.items c.args.flow n (shape_of f.now) c.in_ok-root.root c.requires.settlement.laid c.in_ok-root.ensures.grown there c.in_ok-root.ensures.ok;
      many = c.requires.settlement.many;
      calls = c.requires.settlement.calls;
      counted = c.requires.settlement.counted;
      seen = seen_kept s.calls.items _ s.laid.items _ (λ j. laid_stays s.laid.items c.args.flow j c.in_ok-root.root)
          (seen_moved s.calls.items s.seen.items s.laid.items c.args.flow c.first_unlaid-ahead.result list at c.requires.settlement.seen passed);
    }

pub returns-then-is_some-clause-settlement : goal.returns-then-is_some-clause-settlement
returns-then-is_some-clause-settlement c =
    let d = c.args.directory.now in
    let s = c.args.self.now in
    let list = c.index.result.now in
    let at = list_at d s c.args.flow list c.requires.settlement c.requires.within c.index.ensures in
    let passed = seen_to d s c.args.flow c.index-2.result.now c.first_unlaid-ahead.result list _ _ c.requires.settlement at c.requires.within c.index-2.ensures c.as_slice-named.ensures.value c.deref.ensures.value
    c.first_unlaid-ahead.ensures.passed in
    record {
      laid = c.requires.settlement.laid;
      many = c.requires.settlement.many;
      calls = c.requires.settlement.calls;
      counted = c.requires.settlement.counted;
      seen = seen_moved s.calls.items s.seen.items s.laid.items c.args.flow c.first_unlaid-ahead.result list at c.requires.settlement.seen passed;
    }

pub index-requires : goal.index-requires
index-requires c =
    omega (arith, calls_many c.args.directory.now c.args.self.now.calls.items c.requires.settlement.calls, c.args.self.now.calls.ok.0, c.args.directory.now.goals.ok.0, c.requires.within)

pub lay-requires-clause-laid : goal.lay-requires-clause-laid
lay-requires-clause-laid c = subst (λ l. IsLaid c.args.directory.now l c.args.self.now.layout.items) (sym c.deref-2.ensures.value) c.requires.settlement.laid

pub returns-clause-laid : goal.returns-clause-laid
returns-clause-laid c = (c.in_ok-root.root, refl)

pub returns-then-is_some-clause-laid : goal.returns-then-is_some-clause-laid
returns-then-is_some-clause-laid c = where_some c.call_at-next.result _ _ c.if-is_some.ensures (λ k. refl)
