use Rattle.std.proofs.Common.{◌∙◌, nat_eq}
use Rattle.std.specs.HashSet.{contains}
use Rattle.std.specs.Cmp.Lexicographic.{pointwise}
use Rattle.simplex.specs.Simplex.{is_simplex}
use Rattle.simplex.proofs.Members.{all_at}
use Rattle.facet_set.proofs.GeneratedLaws.{all_kept, kept_is}
use Rattle.facet_set.proofs.generated.uncovered.Goals as goal

pub returns-then-lengths-clause-value : goal.returns-then-lengths-clause-value
returns-then-lengths-clause-value c =
    c.in_ok-from_slice.ensures.items
    ∙ all_kept c.args.members.now _ _ (λ s i. all_at is_simplex s c.args.members.now c.measure-lengths.ensures.simplices i) c.measure-lengths.ensures.shortest c.measure-lengths.ensures.longest c.if-lengths.true

pub returns-clause-value : goal.returns-clause-value
returns-clause-value c =
    c.in_ok-kept.ensures
    ∙ kept_is c.args.members.now c.measure-lengths.result.shortest c.measure-lengths.result.longest (contains (pointwise nat_eq) c.in_ok-free.free) (contains (pointwise nat_eq) c.take_out.new.free)
    (λ s i. all_at is_simplex s c.args.members.now c.measure-lengths.ensures.simplices i) c.measure-lengths.ensures.shortest c.measure-lengths.ensures.longest c.in_ok-free.ensures c.take_out.ensures
