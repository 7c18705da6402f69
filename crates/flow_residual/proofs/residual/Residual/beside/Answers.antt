use Rattle.std.proofs.Common.{◌++◌, ◌∷◌, [], refl}
use Rattle.flow_residual.proofs.SetLemmas.{set_push}
use Rattle.flow_residual.proofs.residual.Residual.beside.Goals as goal

pub returns-in-Some-row_of : goal.returns-in-Some-row_of
returns-in-Some-row_of c =
    let claims = c.args.claims.now in
    let leaf = c.args.leaf in
    c.all_beside.ensures (claims ++ leaf ∷ []) (set_push c.in-Some.taken c.insert.new.self claims (claims ++ leaf ∷ []) leaf c.insert.ensures refl c.in-Some.ensures.some.1) c.requires.takes
