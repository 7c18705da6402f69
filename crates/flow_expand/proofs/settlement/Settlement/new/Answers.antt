use Rattle.std.proofs.Common.{◌≡◌, ℕ, zero, suc, Some, replicate, slice_get, ◌∙◌, ap, sym, arith}
use Rattle.flow_expand.specs.declared.layout.Root.{Root}
use Rattle.flow_expand.specs.declared.lay.Stage.TheVariants as stage
use Rattle.flow_expand.proofs.settlement.Settlement.new.Goals as goal

-- each element of a list of one value is that value
of_same : {A : Type 0} (n k : ℕ) (x y : A) → slice_get (replicate n x) k ≡ Some y → x ≡ y
of_same zero k x y e = absurd (cc)
of_same (suc n) zero x y e = let f : Some x ≡ Some y = e in cc
of_same (suc n) (suc k) x y e = of_same n k x y e

not_laid : (root : Root) → stage.Unlaid ≡ stage.Laid root → ⊥
not_laid root e = cc

not_begun : stage.Unlaid ≡ stage.Begun → ⊥
not_begun e = cc

pub returns-clause-settlement : goal.returns-clause-settlement
returns-clause-settlement c =
    let seen : c.in_ok-vec.field-0.items ≡ replicate c.len.result 0 = c.in_ok-vec.ensures.items_if_clones_equal (λ y e. e) in
    let laid : c.in_ok-vec-2.field-0.items ≡ replicate c.len-2.result stage.Unlaid = c.in_ok-vec-2.ensures.items_if_clones_equal (λ y e. e) in
    record {
      laid = record {
        directory = c.requires;
        flows = λ k root n s at there. let f : stage.Unlaid ≡ stage.Laid root = of_same c.len-2.result k stage.Unlaid (stage.Laid root) (ap (λ l. slice_get l k) (sym laid) ∙ at) in absurd (not_laid root f);
      };
      many = c.in_ok-vec-2.ensures.len ∙ c.len-2.ensures;
      calls = c.in_ok-calls_of.ensures;
      counted = c.in_ok-vec.ensures.len ∙ c.len.ensures;
      seen = λ k i j n list at there lt e. absurd (let none : 0 ≡ n = of_same c.len.result k 0 n (ap (λ l. slice_get l k) (sym seen) ∙ there) in omega (arith, none, lt));
    }

pub returns-clause-idle : goal.returns-clause-idle
returns-clause-idle c = λ k at.
    let laid : c.in_ok-vec-2.field-0.items ≡ replicate c.len-2.result stage.Unlaid = c.in_ok-vec-2.ensures.items_if_clones_equal (λ y e. e) in
    not_begun (of_same c.len-2.result k stage.Unlaid stage.Begun (ap (λ l. slice_get l k) (sym laid) ∙ at))
