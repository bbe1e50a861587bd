use Rattle.std.proofs.Common.{List, ℕ, get_or, sym, subst, ◌++◌, [], ◌∷◌}
use Rattle.std.specs.Bool.{IsTrue}
use Rattle.simplex.specs.Simplex.{is_simplex}
use Rattle.packed_keys.proofs.UnpackLaws.{next_label}
use Rattle.packed_keys.proofs.key.Key.of.Goals as goal

pub push-key-requires : goal.push-key-requires
push-key-requires c =
    subst (λ (s : List ℕ). IsTrue (is_simplex (s ++ get_or c.labels-label-items.result.now c.loop-label.label-index 0 ∷ []))) (sym c.loop-label.invariant)
    (next_label c.args.s.now c.labels-label-items.result.now c.loop-label.label-index c.labels-label-items.ensures.value c.loop-label-test.true c.labels-label-items.ensures.simplex)
