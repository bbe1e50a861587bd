use Rattle.std.proofs.Common.{◌≡◌, false, ℕ, List, IsTrue, subst, sym, ◌∙◌, inl, inr, arith}
use Rattle.std.proofs.lemmas.List.{take_all}
use Rattle.simplex.specs.Simplex.{is_simplex, is_within}
use Rattle.simplex.proofs.Members.{In, none}
use Rattle.facet_set.proofs.GeneratedLaws.{taken_in}
use Rattle.face_lattice.specs.Slots.{cell_at}
use Rattle.face_lattice.specs.States.{is_idle}
use Rattle.face_lattice.proofs.IdleLaws.{each_gone, still_not}
use Rattle.face_lattice.proofs.LastLaws.{lasting_again, lasting_itself}
use Rattle.face_lattice.proofs.room.drop_each.Goals as goal

pub loop-s-init : goal.loop-s-init
loop-s-init c = record { lasts = lasting_itself c.args.slab.now; fewer = λ t h. h; gone = λ s i t st w. absurd (none s i); cells = λ fs h. h }

pub loop-s-preserved : goal.loop-s-preserved
loop-s-preserved c =
    let v = c.loop-s.slab in
    let w = c.drop_idle.new.slab in
    record {
      lasts = lasting_again c.args.slab.now v w c.loop-s.invariant.lasts c.drop_idle.ensures.lasts;
      fewer = λ t h. c.loop-s.invariant.fewer t (c.drop_idle.ensures.fewer t h);
      gone = λ s i t st b. elim (taken_in c.args.list.now c.loop-s.s-index c.s-item.result s c.loop-s-test.true i) [
        | inl j ↦ still_not v w t c.drop_idle.ensures.fewer (c.loop-s.invariant.gone s j t st b)
        | inr e ↦ c.drop_idle.ensures.gone t st (subst (λ u. IsTrue (is_within t u)) (e ∙ sym c.s-item.is) b)
      ];
      cells = λ fs h. c.drop_idle.ensures.cells fs (c.loop-s.invariant.cells fs h);
    }

pub returns-clause-gone : goal.returns-clause-gone
returns-clause-gone c =
    each_gone c.args.list.now c.loop-s.slab (subst (λ xs. (s : List ℕ) → In s xs → (t : List ℕ) → IsTrue (is_simplex t) → IsTrue (is_within t s) → is_idle (cell_at c.loop-s.slab t) ≡ false) (take_all c.loop-s.s-index c.args.list.now (omega (arith, c.loop-s-test.false))) c.loop-s.invariant.gone)
