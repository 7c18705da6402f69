use Rattle.std.proofs.Common.{◌<◌, ℕ, length, arith}
use Rattle.std.proofs.lemmas.Option.{slice_get-get_or}
use Rattle.flow_reason.proofs.GivenUpLemmas.{bans_of, stands_banned}
use Rattle.flow_reason.proofs.given_up.is_banned.Goals as goal

pub returns : goal.returns
returns c =
    let r = c.args.core.now in
    let leaf : ℕ = c.args.leaf in
    let below : leaf < length c.args.stand.now = omega (arith, c.requires.leaf, c.requires.standings.count) in
    let stands = c.requires.standings.each leaf _ (slice_get-get_or c.args.stand.now leaf _ below) in (
      λ yes. bans_of r c.history.ensures.lawful leaf _ stands (c.is_of_ban.ensures.0 yes),
      λ banned. c.is_of_ban.ensures.1 (stands_banned r c.history.ensures.lawful leaf _ stands banned),
    )
