use Rattle.std.proofs.Common.{ℕ, IsTrue, [], ◌∷◌, arith}
use Rattle.leaf_rows.proofs.Members.{has_leaf-within}
use Rattle.flow_model.specs.Ready.{DoneOr}
use Rattle.flow_plan.specs.Orders.{MayComeNext, MayFollowInEveryOrder}
use Rattle.flow_plan.proofs.Widths.{apart_cut, joined, list_cut, next_cut, next_small, within_cut}
use Rattle.flow_plan.proofs.table.Table.add_before_all.Goals as goal

pub before_all-more-requires : goal.before_all-more-requires
before_all-more-requires g c =
    let wide = c.args.self.now.all.sized in (
      omega (arith, wide),
      (omega (arith, wide), within_cut c.args.claims.now c.args.next.now c.resized-mine.result c.resized-here.result c.resized-mine.ensures c.resized-here.ensures c.requires),
    )

pub returns : goal.returns
returns g c = λ p table done list next_is claims_are distinct apart_is.
    let t = c.args.self.now in
    let D : ℕ → Type 0 = λ x. IsTrue (done x) in
    joined c.args.found.now c.put_in.new.found c.resized-so_far.result c.before_all-more.result (λ n. MayComeNext p D n × MayFollowInEveryOrder p (DoneOr D (n ∷ [])) list) c.resized-so_far.ensures c.put_in.ensures
    (λ n both. has_leaf-within c.args.next.now n ((next_is n).1 both.0))
    (c.before_all-more.ensures p table done list (next_cut p t table D c.args.next.now c.resized-here.result c.resized-here.ensures next_is)
    (list_cut list c.args.claims.now c.resized-mine.result c.resized-mine.ensures (next_small p t table D c.args.claims.now c.args.next.now next_is c.requires) claims_are)
    distinct (apart_cut p t table list c.args.apart.now c.resized-closed.result c.resized-closed.ensures apart_is))
