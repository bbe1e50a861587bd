use Rattle.std.proofs.Common.{◌≡◌, false, true, sym, ap, ◌∙◌, below_more, length, arith}
use Rattle.std.proofs.lemmas.Nat.{pow_pos}
use Rattle.simplex.specs.Simplex.{subset_at}
use Rattle.simplex.proofs.SubsetLaws.{subset_within}
use Rattle.facet_set.specs.Complex.{stands_in}
use Rattle.facet_set.proofs.FaceNumbers.{number_is}
use Rattle.face_lattice.proofs.ViewLaws.{facet_within, none_within}
use Rattle.face_lattice.proofs.lattice.Lattice.has_facet_in.Goals as goal

pub returns-then-is_facet : goal.returns-then-is_facet
returns-then-is_facet c =
    let fs = c.args.self.now.facets in
    let s = c.args.s.now in
    let here : stands_in fs (subset_at s c.loop-mask.mask) ≡ true = ap (stands_in fs) (sym c.subset.ensures.value) ∙ sym c.is_facet.ensures.value ∙ c.if-is_facet.true in
    sym (facet_within fs s (subset_at s c.loop-mask.mask) here (subset_within s c.loop-mask.mask))

pub loop-mask-preserved : goal.loop-mask-preserved
loop-mask-preserved c =
    let fs = c.args.self.now.facets in
    let s = c.args.s.now in
    record {
      none = below_more (λ k. stands_in fs (subset_at s k) ≡ false) c.loop-mask.mask c.loop-mask.invariant.none (ap (stands_in fs) (sym c.subset.ensures.value) ∙ sym c.is_facet.ensures.value ∙ c.if-is_facet.false);
      simplices = λ _. c.is_facet.ensures.simplices;
    }

pub returns : goal.returns
returns c =
    let n = number_is c.args.s.now c.len.result c.len.ensures.simplex c.len.ensures.value in
    sym (none_within c.args.self.now.facets c.args.s.now c.loop-mask.mask (c.loop-mask.invariant.simplices (omega (arith, n, pow_pos (length c.args.s.now), c.loop-mask-test.false))) c.len.ensures.simplex (omega (arith, n, c.loop-mask-test.false, c.loop-mask.auto.mask-end)) c.loop-mask.invariant.none)
