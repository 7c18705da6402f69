use Rattle.std.proofs.Common.{◌≡◌, rules, ap, subst, List}
use Rattle.std.proofs.lemmas.List.Sorted.{answers_always, ranks_by}
use Rattle.std.specs.Cmp.Lexicographic.{slice_cmp, nat_list_cmp_total}
use Rattle.std.specs.Ordering.{is_lt, nat_cmp}
use Rattle.flow_folder_page.specs.declared.held.Held.{Held}
use Rattle.flow_folder_page.specs.Held.{since_of, IsOldestFirst}
use Rattle.flow_folder_page.proofs.held.oldest_first.Goals as goal

pub returns : goal.returns
returns c =
    subst (λ (all : List Held). IsOldestFirst all c.sort_by.new.self.items) c.in_ok-held.ensures (record {
      same = c.in_ok-sort_by.ensures.permutation;
      oldest_first = c.in_ok-sort_by.ensures.sorted (λ x y. is_lt (slice_cmp nat_cmp (since_of x) (since_of y))) (ranks_by nat_list_cmp_total since_of)
          (answers_always _ _ _ (λ f a r g h. let e : r ≡ slice_cmp nat_cmp a.0.now.since a.1.0.now.since = search rules in ap is_lt e));
      in_order = c.in_ok-sort_by.ensures.stable (λ x y. is_lt (slice_cmp nat_cmp (since_of x) (since_of y))) (ranks_by nat_list_cmp_total since_of)
          (answers_always _ _ _ (λ f a r g h. let e : r ≡ slice_cmp nat_cmp a.0.now.since a.1.0.now.since = search rules in ap is_lt e));
    })
