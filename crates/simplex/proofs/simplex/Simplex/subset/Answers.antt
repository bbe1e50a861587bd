use Rattle.std.proofs.Common.{◌≡◌, ◌++◌, ◌+◌, ◌/◌, ◌%◌, false, List, ℕ, drop, subst, sym, ◌∙◌, arith}
use Rattle.std.specs.Prelude.{◌==◌}
use Rattle.std.proofs.lemmas.Bool.Decides.{nat_tests}
use Rattle.simplex.specs.Simplex.{subset_at}
use Rattle.simplex.proofs.Filled.{bit_at, bit_taken, bit_left, bits_whole}
use Rattle.simplex.proofs.simplex.Simplex.subset.Goals as goal
use Rattle.simplex.proofs.simplex.Simplex.subset.Goals.{then-bits-eq1, else-bits-eq1}

pub push-requires : goal.push-requires
push-requires c =
    bit_at c.args.self.now c.labels-label-items.result.now c.loop-label.label-index c.loop-label.bits c.args.mask c.loop-label.subset
    c.labels-label-items.ensures.value c.loop-label-test.true c.if-bits-eq1.true c.labels-label-items.ensures.simplex c.loop-label.invariant

pub loop-label-preserved : goal.loop-label-preserved
loop-label-preserved c =
    let P : List ℕ → Type 0 = λ xs. xs ++ subset_at (drop (c.loop-label.label-index + 1) c.args.self.now) (c.loop-label.bits / 2) ≡ subset_at c.args.self.now c.args.mask in
    elim c.if-bits-eq1.branch [
      | then-bits-eq1 w ↦ subst P (sym (w.subset-is ∙ w.push.ensures)) (bit_taken c.args.self.now c.labels-label-items.result.now c.loop-label.label-index c.loop-label.bits c.args.mask c.loop-label.subset
          c.labels-label-items.ensures.value c.loop-label-test.true w.if-bits-eq1.true c.loop-label.invariant)
      | else-bits-eq1 w ↦
          let odd : (c.loop-label.bits % 2 == 1) ≡ false = grind (arith, nat_tests, w.if-bits-eq1.false) in
          subst P (sym w.subset-is) (bit_left c.args.self.now c.labels-label-items.result.now c.loop-label.label-index c.loop-label.bits c.args.mask c.loop-label.subset
          c.labels-label-items.ensures.value c.loop-label-test.true odd c.loop-label.invariant)
    ]

pub returns-clause-simplex : goal.returns-clause-simplex
returns-clause-simplex c =
    bits_whole c.args.self.now c.loop-label.label-index c.loop-label.bits c.args.mask c.loop-label.subset c.labels-label-items.ensures.simplex c.loop-label.invariant
