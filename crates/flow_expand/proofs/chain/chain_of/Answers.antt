use Rattle.std.proofs.Common.{◌≡◌, [], ◌++◌, ◌+◌, ◌<◌, ◌≤◌, ◌-◌, ℕ, List, length, map, take, drop, get_or, ap, sym, subst, ◌∙◌, arith}
use Rattle.std.specs.Prelude.{All}
use Rattle.std.proofs.lemmas.List.Elements.{All-take, All-drop}
use Rattle.std.proofs.lemmas.List.{take_rest, length-drop, length-take-le}
use Rattle.std.proofs.lemmas.Option.{slice_get_within}
use Rattle.flow_expand.specs.Directory.{decls_of}
use Rattle.flow_expand.specs.Steps.{flow_names}
use Rattle.flow_expand.proofs.Declarations.{distinct_flows}
use Rattle.flow_expand.proofs.SettlementLemmas.{path_chain}
use Rattle.flow_expand.proofs.chain.chain_of.Goals as goal

pub returns : goal.returns
returns c =
    let decls = decls_of c.args.directory.now in
    let path = c.args.path.now in
    let p = c.place_of.result in
    let low = c.place_of_least-least.result in
    let ring = take (length path - p) (drop p path) in
    let same : ring ≡ drop p path = take_rest path p in
    let found = c.as_slice-names.result.now in
    let names : found ≡ flow_names decls = c.as_slice-names.ensures.keys ∙ c.requires.directory.flows in
    let names_of : List ℕ → List (List ℕ) = λ ks. map (λ k. get_or found k []) ks in
    let written : c.push_names-2.new.chain.items ≡ names_of (drop low ring) ++ names_of (take (low + 1) ring) =
    c.in_ok-push_names-2.ensures ∙ ap (λ l. l ++ names_of (take (low + 1) ring))
    (c.in_ok-push_names.ensures ∙ (λ i. c.new-chain.ensures.items i ++ names_of (take_rest ring low i))) in
    path_chain decls path c.args.flow c.args.next p low (distinct_flows decls c.requires.directory.once) c.requires.back c.place_of.ensures
    (subst (λ r. low < length r) same c.place_of_least-least.ensures.within)
    (subst (λ (r : List ℕ). (k : ℕ) → k < length r → get_or r low 0 ≤ get_or r k 0) same c.place_of_least-least.ensures.least) c.push_names-2.new.chain.items
    (written ∙ (λ i. map (λ k. get_or (names i) k []) (drop low (same i)) ++ map (λ k. get_or (names i) k []) (take (low + 1) (same i))))

-- each number of what is left of the path has a name
rest_within : (n : ℕ) (xs : List ℕ) (p : ℕ) → All (λ k. k < n) xs → All (λ k. k < n) (take (length xs - p) (drop p xs))
rest_within n xs p h = All-take (λ k. k < n) (length xs - p) (drop p xs) (All-drop (λ k. k < n) p xs h)

ring_within : (found names : List (List ℕ)) (path : List ℕ) (p : ℕ) → found ≡ names → All (λ k. k < length names) path → All (λ k. k < length found) (take (length path - p) (drop p path))
ring_within found names path p same h = rest_within (length found) path p (subst (λ (l : List (List ℕ)). All (λ k. k < length l) path) (sym same) h)

pub push_names-requires : goal.push_names-requires
push_names-requires c =
    rest_within _ _ c.place_of_least-least.result (ring_within _ _ c.args.path.now c.place_of.result (c.as_slice-names.ensures.keys ∙ c.requires.directory.flows) c.requires.back.within)

pub push_names-requires-2 : goal.push_names-requires-2
push_names-requires-2 c =
    All-take (λ k. k < length c.as_slice-names.result.now) (c.place_of_least-least.result + 1) _
    (ring_within _ _ c.args.path.now c.place_of.result (c.as_slice-names.ensures.keys ∙ c.requires.directory.flows) c.requires.back.within)

pub place_of-requires : goal.place_of-requires
place_of-requires c = c.requires.back.there

pub place_of_least-least-requires : goal.place_of_least-least-requires
place_of_least-least-requires c =
    let path = c.args.path.now in
    let p = c.place_of.result in
    subst (λ l. 0 < length l) (sym (take_rest path p)) (omega (arith, length-drop p path, slice_get_within path p c.args.next c.place_of.ensures))

pub offset_bounds-path-place_of : goal.offset_bounds-path-place_of
offset_bounds-path-place_of c = omega (arith, slice_get_within c.args.path.now c.place_of.result c.args.next c.place_of.ensures)

pub slice_bounds-ring-count : goal.slice_bounds-ring-count
slice_bounds-ring-count c = omega (arith, slice_get_within c.args.path.now c.place_of.result c.args.next c.place_of.ensures)

pub slice_bounds-ring-start : goal.slice_bounds-ring-start
slice_bounds-ring-start c = omega (arith, slice_get_within c.args.path.now c.place_of.result c.args.next c.place_of.ensures)

pub slice_bounds-push_names-end-2 : goal.slice_bounds-push_names-end-2
slice_bounds-push_names-end-2 c = sym (length-take-le (c.place_of_least-least.result + 1) _ (omega (arith, c.place_of_least-least.ensures.within)))
