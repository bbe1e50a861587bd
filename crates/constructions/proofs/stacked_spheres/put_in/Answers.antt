use Rattle.std.proofs.Common.{◌∙◌, sym, ap}
use Rattle.simplex.specs.InOrder.{is_increasing, put}
use Rattle.simplex.specs.Simplex.{simplex_cmp}
use Rattle.std.proofs.lemmas.Cmp.{nat_list_cmp_total}
use Rattle.simplex.proofs.InOrderLaws.{is_increasing-put}
use Rattle.ranked_set.proofs.BlockLaws.{put_there}
use Rattle.ranked_set.proofs.SearchLaws.{member_at}
use Rattle.constructions.proofs.stacked_spheres.put_in.Goals as goal

pub returns-in_ok-reserve-clause-rising : goal.returns-in_ok-reserve-clause-rising
returns-in_ok-reserve-clause-rising g c =
    ap (is_increasing simplex_cmp) (c.insert.ensures.members ∙ ap (put simplex_cmp c.args.s.now) c.in_ok-reserve.ensures.members)
    ∙ is_increasing-put nat_list_cmp_total c.args.s.now c.args.facets.now.members c.has.ensures.increasing

pub returns-else-not-has-clause-value : goal.returns-else-not-has-clause-value
returns-else-not-has-clause-value g c =
    sym (put_there c.args.s.now c.args.facets.now.members c.has.ensures.increasing (member_at c.args.s.now c.args.facets.now.members (sym c.has.ensures.value ∙ c.if-not-has.false)))
