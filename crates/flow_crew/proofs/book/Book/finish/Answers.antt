use Rattle.std.proofs.Common.{◌≡◌, ℕ, MatchOption, Option, Some, None, is_some, true, refl, sym, ap, subst}
use Rattle.flow_core.specs.Run.{Run, schema, now}
use Rattle.flow_core.specs.Answers.{IsUnanswered}
use Rattle.flow_model.specs.Verdict.{call_of}
use Rattle.flow_model.specs.declared.history.Call.{Call}
use Rattle.flow_core.specs.declared.end.End.{End}
use Rattle.flow_crew.specs.Ends.{HasEnd, HasNoEnd, IsEnd}
use Rattle.flow_crew.specs.Moves.{IsOut}
use Rattle.flow_crew.proofs.Endings.{IsWithin, legal_within}
use Rattle.flow_crew.proofs.Continuing.{Goes, GoesFurther, goes, stays, goes_on_from, further_then, fewer_left, begun, begun_further, begun_waits, begun_over, posted, posted_further, out_by_claim}
use Rattle.flow_crew.proofs.book.Book.finish.Goals as goal
use Rattle.flow_crew.proofs.book.Book.finish.Goals.{in-Perform, in-Wait}

some_end : (r : Run) (o : Option End) → HasEnd r → MatchOption o (HasNoEnd r) (IsEnd r) → is_some o ≡ true
some_end r None stands h = absurd (h stands.0 stands.1)
some_end r (Some end) stands h = refl

-- what is told of a call that was found
out_of : (run r : Run) (claim : ℕ) (o : Option Call) (call : Call) → run ≡ r → o ≡ Some call →
    MatchOption o (¬ (IsUnanswered (now run) claim)) (λ (call : Call). IsUnanswered (now run) claim × (call ≡ call_of (schema run) (now run) claim)) → IsOut r call
out_of run r claim o call same is h =
    let told = subst (λ o. MatchOption o (¬ (IsUnanswered (now run) claim)) (λ (call : Call). IsUnanswered (now run) claim × (call ≡ call_of (schema run) (now run) claim))) is h in
    subst (λ (r : Run). IsOut r call) same (out_by_claim run claim call told.0 told.1)

pub loop-call-init : goal.loop-call-init
loop-call-init g c =
    stays c.args.self.now c.args.by c.args.self.now refl (legal_within c.args.self.now c.core.ensures.by_workers.run_legal.0)

pub loop-call-preserved-in-Went : goal.loop-call-preserved-in-Went
loop-call-preserved-in-Went g c =
    let mid = c.loop-call.self in
    goes_on_from c.args.self.now c.args.by mid c.begin.new.self c.loop-call.invariant (begun mid c.args.by c.begin.result c.begin.new.self c.loop-call.invariant.within c.begin.ensures)

pub loop-call-smaller-in-Went : goal.loop-call-smaller-in-Went
loop-call-smaller-in-Went g c =
    let mid = c.loop-call.self in
    fewer_left mid c.args.by c.begin.new.self (begun_further mid c.args.by c.begin.result c.begin.new.self c.loop-call.invariant.within c.begin.ensures (ap goes c.in-Went.is))

pub unwrap-requires : goal.unwrap-requires
unwrap-requires g c =
    let mid = c.loop-call.self in
    some_end c.begin.new.self c.verdict.result (begun_over mid c.args.by c.begin.new.self c.in-Over.ensures) c.verdict.ensures

pub loop-call-smaller : goal.loop-call-smaller
loop-call-smaller g c =
    let mid = c.loop-call.self in
    let next = c.begin.new.self in
    let last = c.post.new.self in
    let within : IsWithin next = (begun mid c.args.by c.begin.result next c.loop-call.invariant.within c.begin.ensures).within in
    let further : GoesFurther mid c.args.by last = elim c.match-begin.branch [
      | in-Perform w ↦ (further_then mid c.args.by next last (begun_further mid c.args.by c.begin.result next c.loop-call.invariant.within c.begin.ensures (ap goes w.in-Perform.is))
          (posted next c.match-begin.call c.perform-outcome.result c.args.by last within c.post.ensures))
      | in-Wait w ↦ (let waits = begun_waits mid c.args.by w.in-Wait.claim next w.in-Wait.ensures in
          let out : IsOut next c.match-begin.call = subst (IsOut next) (sym w.call-is)
          (out_of w.core-in-Wait.result.now next w.in-Wait.claim w.call_of.result w.unwrap-call.result w.core-in-Wait.ensures.run w.unwrap-call.ensures w.call_of.ensures) in
          subst (λ (r : Run). GoesFurther r c.args.by last) waits.2
          (posted_further next c.match-begin.call c.perform-outcome.result c.args.by last within (subst HasNoEnd (sym waits.2) waits.0) out c.post.ensures))
    ] in
    fewer_left mid c.args.by last further

pub loop-call-preserved : goal.loop-call-preserved
loop-call-preserved g c =
    let mid = c.loop-call.self in
    let next = c.begin.new.self in
    let first : Goes mid c.args.by next = begun mid c.args.by c.begin.result next c.loop-call.invariant.within c.begin.ensures in
    goes_on_from c.args.self.now c.args.by mid c.post.new.self c.loop-call.invariant
    (goes_on_from mid c.args.by next c.post.new.self first
    (posted next c.match-begin.call c.perform-outcome.result c.args.by c.post.new.self first.within c.post.ensures))

pub returns-in-Over-clause-continued : goal.returns-in-Over-clause-continued
returns-in-Over-clause-continued g c =
    let mid = c.loop-call.self in
    (goes_on_from c.args.self.now c.args.by mid c.begin.new.self c.loop-call.invariant (begun mid c.args.by c.begin.result c.begin.new.self c.loop-call.invariant.within c.begin.ensures)).continued
