use Rattle.std.proofs.Common.{◌≡◌, ◌∙◌}
use Rattle.facet_set.specs.Complex.{generated}
use Rattle.facet_set.proofs.GeneratedLaws.{if_ok}
use Rattle.constructions.specs.Cyclic.{cyclic}
use Rattle.constructions.proofs.CyclicLaws.{cyclic_value}
use Rattle.constructions.proofs.cyclic_spheres.build.Goals as goal

pub returns : goal.returns
returns c =
    if_ok (λ f. f ≡ generated c.deref.result.now) (λ f. f ≡ cyclic c.args.k c.args.n) c.generated.result
    (λ f e. e ∙ cyclic_value c.args.k c.args.n c.add_starts.new.list.items c.deref.result.now c.new-list.result.items c.new-list.ensures.items c.in_ok-add_starts.ensures c.deref.ensures.value)
    c.generated.ensures
