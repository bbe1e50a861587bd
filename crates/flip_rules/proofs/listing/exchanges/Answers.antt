use Rattle.std.proofs.Common.{ap, sym, ◌∙◌}
use Rattle.std.specs.List.{filter_map}
use Rattle.flip_rules.specs.Candidates.{open_flip}
use Rattle.flip_rules.proofs.ExchangeLaws.{open_candidates_lem}
use Rattle.flip_rules.proofs.listing.exchanges.Goals as goal

pub returns : goal.returns
returns c =
    c.from_vec.ensures
    ∙ c.in_ok-flips.ensures
    ∙ ap (filter_map open_flip) (c.as_slice.ensures ∙ c.in_ok-found.ensures)
    ∙ sym (open_candidates_lem c.args.c.now c.args.class c.requires.above)
