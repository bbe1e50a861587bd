use Rattle.std.proofs.Common.{◌++◌, ◌∷◌, [], map, take, ap, sym, subst, ◌∙◌, ℕ}
use Rattle.std.specs.Bool.{IsTrue}
use Rattle.simplex.specs.Simplex.{is_label}
use Rattle.simplex.specs.SimplexFault.{set}
use Rattle.facet_set.specs.Maps.{relabelled}
use Rattle.facet_set.proofs.MapLaws.{image_label}
use Rattle.facet_set.proofs.SetLaws.{map_more}
use Rattle.facet_set.proofs.relabelled.images.Goals as goal

pub with_images-requires : goal.with_images-requires
with_images-requires c = λ a h. subst (λ (b : ℕ). IsTrue (is_label b)) (sym (c.in_ok-images.ensures a)) (image_label c.args.pairs.now a c.requires h)

pub loop-s-preserved : goal.loop-s-preserved
loop-s-preserved c =
    c.in_ok-push.ensures.items ∙ ap (λ l. l ++ c.with_images.result ∷ []) c.loop-s.invariant
    ∙ ap (λ s. map (relabelled c.args.pairs.now) (take c.loop-s.s-index c.args.simplices.now) ++ s ∷ []) (c.with_images.ensures ∙ ap (λ (f : ℕ → ℕ). set (map f c.s-item.result)) (λ i a. c.in_ok-images.ensures a i))
    ∙ map_more (relabelled c.args.pairs.now) c.args.simplices.now c.loop-s.s-index c.s-item.result c.s-item.result c.loop-s-test.true c.s-item.is
