use Rattle.std.proofs.Common.{sym, ap, ◌∙◌, get_or}
use mathlib.Core.Bool.{true≢false}
use Rattle.std.specs.Prelude.{is_ok}
use Rattle.std.specs.Cmp.Lexicographic.{nat_list_cmp_total}
use Rattle.simplex.proofs.Members.{is_member_from}
use Rattle.facet_set.proofs.ComplexLaws.{exact}
use Rattle.facet_set.proofs.FacetLaws.{found_is}
use Rattle.betti_tables.proofs.boundary.place_of.Goals as goal

pub unreachable-requires : goal.unreachable-requires
unreachable-requires c =
    true≢false
    (sym (is_member_from nat_list_cmp_total exact c.args.s.now c.args.rows.now c.requires.found)
    ∙ sym (found_is c.args.rows.now c.args.s.now c.binary_search.result c.requires.rising c.binary_search.ensures.bound c.binary_search.ensures.position)
    ∙ ap is_ok c.in-Err.is)

pub returns-clause-here : goal.returns-clause-here
returns-clause-here c = exact (get_or c.args.rows.now c.in-Ok.row c.args.s.now) c.args.s.now (c.in-Ok.ensures.ok c.args.s.now)
