-- The summary of a run of a generated workflow.
use Rattle.std.specs.Prelude.{◌≡◌, ℕ, List, ◌++◌, codes}
use Rattle.serde_json.specs.Data.{Data, member, no_members, number, object, string, unsigned}
use Rattle.serde_json.specs.Written.{compact_text}
use Rattle.flow_core.specs.Run.{Run}
use Rattle.flow_reply.specs.declared.summary.Summary.{Summary}
use Rattle.flow_reply.specs.Conclusion.{IsVerdictText}

abbrev pub count : ℕ → Data
count n = number (unsigned n)

-- the summary as an object of JSON, its verdict in these words
abbrev pub summary_object : Summary → List ℕ → Data
summary_object s words =
    object (member (codes "bulk") (count s.bulk)
    (member (codes "history") (count s.history)
    (member (codes "journal") (count s.journal)
    (member (codes "leaves") (count s.leaves)
    (member (codes "live") (count s.live)
    (member (codes "options") (count s.options)
    (member (codes "resolutions") (count s.resolutions)
    (member (codes "seed") (count s.seed)
    (member (codes "size") (count s.size)
    (member (codes "verdict") (string words) no_members))))))))))

-- the line of the summary: the object in its compact text, and a line feed
abbrev pub summary_text : Summary → List ℕ → List ℕ
summary_text s words = compact_text (summary_object s words) ++ codes "\n"

-- the line of the summary of a run
abbrev pub IsSummary : Run → Summary → List ℕ → Type 0
IsSummary r summary text = (words : List ℕ) × IsVerdictText r summary.verdict words × (text ≡ summary_text summary words)
