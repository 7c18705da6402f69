use Rattle.std.proofs.Common.{◌≡◌, map, take, fold}
use Rattle.flow_model.specs.Lists.{Each}
use Rattle.flow_policy.specs.Mentions.{said_in}
use Rattle.flow_policy.specs.Numbering.{Names, AreTablesOf, IsListed, numbered, nothing_numbered, with_mention}
use Rattle.flow_policy.proofs.draft.Draft.of.Given as goal

-- the names so far are listed, and the draft is what they assign
abbrev pub invariant-loop-mention : goal.invariant-loop-mention
invariant-loop-mention l = (names : Names) → AreTablesOf names l.staff l.events →
    Each (IsListed names) (map said_in (take l.mention-index l.mentions))
    × (numbered l.draft ≡ fold (with_mention names) nothing_numbered (map said_in (take l.mention-index l.mentions)))
