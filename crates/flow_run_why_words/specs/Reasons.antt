-- Reasons of leaves, in words and as members of an object of JSON.
use Rattle.std.specs.Prelude.{ℕ, Bool, true, false, List, [], ◌∷◌, ◌++◌, map, codes}
use Rattle.std.specs.Fmt.{decimal}
use Rattle.flow_workflow.specs.Definition.{Definition}
use Rattle.flow_workflow.specs.Label.{leaf_text}
use Rattle.flow_standing.specs.declared.claims.Out.{Out}
use Rattle.flow_reason.specs.declared.reason.Reason.{Reason}
use Rattle.flow_reason.specs.declared.reason.Reason.TheVariants as reason
use Rattle.flow_writer.specs.Json.{text_member, number_member, truth_member, list_member}

-- the word of a reason
abbrev pub reason_word : Reason → List ℕ
reason_word reason.NoLeaf = codes "no_leaf"
reason_word reason.Free = codes "free"
reason_word reason.Over = codes "over"
reason_word (reason.Done entry) = codes "done"
reason_word (reason.Out claim entry user) = codes "out"
reason_word (reason.False fact wanted leaves) = codes "false"
reason_word (reason.OtherSide leaf) = codes "other_side"
reason_word (reason.Waits leaves) = codes "waits"
reason_word (reason.Isolated leaves) = codes "isolated"
reason_word (reason.WaitsByConstraints constraints undecided) = codes "waits_by_constraints"
reason_word (reason.Claims claims) = codes "claims"
reason_word reason.GivenUp = codes "given_up"
reason_word reason.Barred = codes "barred"
reason_word reason.Other = codes "other"

abbrev pub claim_number : Out → ℕ
claim_number out = out.call.claim

abbrev pub is_none : List ℕ → Bool
is_none [] = true
is_none (x ∷ xs) = false

-- what a reason names
abbrev pub named_members : Reason → List ℕ
named_members (reason.Done entry) = number_member (codes "entry") entry
named_members (reason.Out claim entry user) =
    number_member (codes "entry") entry ++ number_member (codes "claim") claim ++ number_member (codes "user") user
named_members (reason.False fact wanted leaves) =
    number_member (codes "fact") fact ++ truth_member (codes "wanted") wanted ++ list_member (codes "leaves") leaves.items
named_members (reason.OtherSide leaf) = list_member (codes "leaves") (leaf ∷ [])
named_members (reason.Waits leaves) = list_member (codes "leaves") leaves.items
named_members (reason.Isolated leaves) = list_member (codes "leaves") leaves.items
named_members (reason.WaitsByConstraints constraints undecided) =
    list_member (codes "constraints") constraints.items ++ truth_member (codes "least") (is_none undecided.items)
named_members (reason.Claims claims) = list_member (codes "claims") (map claim_number claims.items)
named_members _ = []

-- a leaf and its task
abbrev pub leaf_members : Definition → ℕ → List ℕ
leaf_members w leaf = codes "\"leaf\":" ++ decimal leaf ++ text_member (codes "task") (leaf_text w leaf)

-- the constraints that a reason names
abbrev pub rules_named : Reason → List ℕ
rules_named (reason.WaitsByConstraints constraints undecided) = constraints.items
rules_named _ = []

-- the leaf waits: it is not done, the run is not over, and it can be neither taken nor done now
abbrev pub is_waiting : Reason → Bool
is_waiting reason.Free = false
is_waiting (reason.Done entry) = false
is_waiting reason.Over = false
is_waiting _ = true
