use Rattle.std.proofs.Common.{◌≡◌, ◌++◌, ◌+◌, ◌/◌, ◌%◌, false, List, ℕ, drop, refl, subst, sym, ◌∙◌, arith}
use Rattle.std.specs.Prelude.{◌==◌}
use Rattle.std.proofs.lemmas.Bool.Decides.{nat_tests}
use Rattle.simplex.specs.Simplex.{subset_at}
use Rattle.simplex.proofs.Filled.{bit_taken, bit_left}
use Rattle.packed_keys.proofs.UnpackLaws.{next_chosen}
use Rattle.packed_keys.proofs.key.Key.among.Goals as goal
use Rattle.packed_keys.proofs.key.Key.among.Goals.{then-bits-eq1, else-bits-eq1}

pub push-key-requires : goal.push-key-requires
push-key-requires c =
    next_chosen c.args.labels.now c.loop-label.label-index c.loop-label.bits c.args.mask c.loop-label.key c.loop-label-test.true c.if-bits-eq1.true c.requires c.loop-label.invariant

pub loop-label-preserved : goal.loop-label-preserved
loop-label-preserved c =
    let s = c.args.labels.now in
    let i = c.loop-label.label-index in
    let bits = c.loop-label.bits in
    let P : List ℕ → Type 0 = λ xs. xs ++ subset_at (drop (i + 1) s) (bits / 2) ≡ subset_at s c.args.mask in
    elim c.if-bits-eq1.branch [
      | then-bits-eq1 w ↦ subst P (sym (w.key-is ∙ w.push-key.ensures)) (bit_taken s s i bits c.args.mask c.loop-label.key refl c.loop-label-test.true w.if-bits-eq1.true c.loop-label.invariant)
      | else-bits-eq1 w ↦
          let even : (bits % 2 == 1) ≡ false = grind (arith, nat_tests, w.if-bits-eq1.false) in
          subst P (sym w.key-is) (bit_left s s i bits c.args.mask c.loop-label.key refl c.loop-label-test.true even c.loop-label.invariant)
    ]
