use Rattle.std.proofs.Common.{◌≡◌, ◌++◌, ◌∙◌, [], ℕ, List, ap, subst, sym}
use Rattle.std.proofs.lemmas.Result.{IfOk-weaker}
use Rattle.flow_conflict.proofs.Conflicts.{asked_below, asked_rises, conflict_found, conflict_outside, same_conflict}
use Rattle.flow_conflict.proofs.search.+enough.Goals as goal

pub judge-requires-clause-rising : goal.judge-requires-clause-rising
judge-requires-clause-rising g t c =
    let judge = c.args.judge.now in
    asked_rises (g.J.Judge.is_met judge) (g.J.Judge.size judge) c.args.before.now c.args.candidates.now c.args.behind.now c.deref.result.now
    (c.deref.ensures.value ∙ c.in_ok-others.ensures) c.requires

pub judge-requires-clause-below : goal.judge-requires-clause-below
judge-requires-clause-below g t c =
    let judge = c.args.judge.now in
    asked_below (g.J.Judge.is_met judge) (g.J.Judge.size judge) c.args.before.now c.args.candidates.now c.args.behind.now c.deref.result.now
    (c.deref.ensures.value ∙ c.in_ok-others.ensures) c.requires

pub returns-in-Unmet : goal.returns-in-Unmet
returns-in-Unmet g t c =
    let judge = c.args.judge.now in
    let met = g.J.Judge.is_met judge in
    let count = g.J.Judge.size judge in
    let before : List ℕ = c.args.before.now in
    let behind : List ℕ = c.args.behind.now in
    let asked : c.deref.result.now ≡ before ++ behind = c.deref.ensures.value ∙ c.in_ok-others.ensures in
    let told = rw c.in-Unmet.is at c.in_ok-judge.ensures in
    let none : [] ≡ c.new.result.items = sym c.new.ensures.items in
    same_conflict met count ((before ++ []) ++ behind) ((before ++ c.new.result.items) ++ behind) (ap (λ (l : List ℕ). (before ++ l) ++ behind) none)
    (conflict_outside met count before c.args.candidates.now behind c.requires (λ m. told.1 (subst met (sym asked) m)))

pub returns : goal.returns
returns g t c =
    let judge = c.args.judge.now in
    let met = g.J.Judge.is_met judge in
    let count = g.J.Judge.size judge in
    let behind : List ℕ = c.args.behind.now in
    let late : List ℕ = c.in_ok-late.late.items in
    let tail : c.deref-4.result.now ≡ late ++ behind =
    c.deref-4.ensures.value ∙ c.in_ok-with_late.ensures ∙ ap (λ (l : List ℕ). l ++ behind) c.deref-3.ensures.value in
    IfOk-weaker c.joined-4.result (λ both. both.items ≡ c.deref-5.result.now ++ c.deref-6.result.now) _
    (λ both made. conflict_found met count c.args.before.now c.in_ok-early.early.items late behind c.deref-4.result.now both.items c.deref-5.result.now c.deref-6.result.now
    made c.deref-5.ensures.value c.deref-6.ensures.value tail c.in_ok-early.ensures)
    c.joined-4.ensures
