use Rattle.std.proofs.Common.{◌∙◌, [], ap, sym, length}
use Rattle.std.specs.List.{zip}
use Rattle.relabelling.specs.Colours.{colour}
use Rattle.relabelling.proofs.LeadLaws.{plain_kept, refined_nowhere, no_first}
use Rattle.relabelling.proofs.SeekLaws.{least_long, least_found, least_none}
use Rattle.relabelling.proofs.least.searched.Goals as goal

pub pairs-requires : goal.pairs-requires
pairs-requires c =
    ap length c.deref.ensures.value
    ∙ least_long c.args.c.now c.args.d.now c.in_ok-vertices.vertices c.search.new.images.items c.new-images.result.items c.in_ok-search.field-0 c.in_ok-vertices.ensures.value c.new-images.ensures.items c.in_ok-search.ensures.found c.if-branch.true
    c.in_ok-search.ensures.images
    ∙ ap length (sym c.as_slice-then-branch.ensures)

pub returns-then-branch : goal.returns-then-branch
returns-then-branch c =
    least_found c.args.c.now c.args.d.now c.in_ok-vertices.vertices c.search.new.images.items c.new-images.result.items c.from_vec.result c.in_ok-search.field-0 c.in_ok-vertices.ensures.value c.new-images.ensures.items c.in_ok-search.ensures.found
    c.if-branch.true c.in_ok-search.ensures.images
    (c.from_vec.ensures ∙ c.in_ok-list.ensures ∙ ap (λ l. zip l c.deref.result.now) c.as_slice-then-branch.ensures ∙ ap (zip c.in_ok-vertices.vertices) c.deref.ensures.value)

pub returns : goal.returns
returns c = least_none c.args.c.now c.args.d.now c.new-images.result.items c.in_ok-search.field-0 c.new-images.ensures.items c.in_ok-search.ensures.found c.if-branch.false

pub returns-then-not-fits : goal.returns-then-not-fits
returns-then-not-fits c =
    no_first c.args.c.now c.args.d.now
    (refined_nowhere c.args.c.now c.args.d.now [] (colour c.new-colours.result.of_c) (colour c.new-colours.result.of_d) (plain_kept c.args.c.now c.args.d.now (colour c.new-colours.result.of_c) (colour c.new-colours.result.of_d) c.new-colours.ensures.c c.new-colours.ensures.d)
    (c.in_ok-fits.ensures.apart c.if-not-fits.true))
