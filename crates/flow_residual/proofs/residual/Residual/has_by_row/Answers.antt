use Rattle.std.proofs.Common.{◌∙◌, sym, true≢false}
use Rattle.flow_residual.proofs.residual.Residual.has_by_row.Goals as goal

pub returns-then-is_subset : goal.returns-then-is_subset
returns-then-is_subset g c = c.has.ensures

pub returns-else-is_subset : goal.returns-else-is_subset
returns-else-is_subset g c = λ o at. (
  λ wrong. absurd (true≢false (sym wrong ∙ c.if-is_subset.false)),
  λ met.
      let (live, ready) = c.requires.wanted o met in
      let all = c.is_subset.ensures.1 (λ n there. (c.requires.row o at live.journal_ready n).1 (ready n there)) in
      absurd (true≢false (sym all ∙ c.if-is_subset.false)),
)
