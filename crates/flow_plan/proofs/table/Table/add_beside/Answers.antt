use Rattle.std.proofs.Common.{◌∷◌, IsTrue, inl, ⊎_elim, sym, ◌∙◌}
use Rattle.std.proofs.lemmas.Bool.{true≢false}
use Rattle.flow_plan.specs.Orders.{MayFollowInEveryOrder}
use Rattle.flow_plan.proofs.Widths.{apart_cut, follows_small, joined, list_cut, next_cut, past_width}
use Rattle.flow_plan.proofs.table.Table.add_beside.Goals as goal

pub returns-then-not-is_within : goal.returns-then-not-is_within
returns-then-not-is_within g c = λ p table done list next_is claims_are distinct apart_is n. (
  λ found. inl found,
  λ either. ⊎_elim (λ found. found)
      (λ all. absurd (past_width p c.args.self.now table done list c.args.claims.now claims_are (λ small. true≢false (sym (c.is_within.ensures.1 small) ∙ c.if-not-is_within.true)) n all))
      either,
)

pub returns : goal.returns
returns g c = λ p table done list next_is claims_are distinct apart_is.
    let t = c.args.self.now in
    joined c.args.found.now c.put_in.new.found c.resized-so_far.result c.beside-more.result (λ n. MayFollowInEveryOrder p (λ x. IsTrue (done x)) (n ∷ list)) c.resized-so_far.ensures c.put_in.ensures
    (follows_small p done list c.args.next.now next_is)
    (c.beside-more.ensures p table done list (next_cut p t table (λ x. IsTrue (done x)) c.args.next.now c.resized-here.result c.resized-here.ensures next_is)
    (list_cut list c.args.claims.now c.resized-mine.result c.resized-mine.ensures (c.is_within.ensures.0 c.if-not-is_within.false) claims_are)
    distinct (apart_cut p t table list c.args.apart.now c.resized-closed.result c.resized-closed.ensures apart_is))
