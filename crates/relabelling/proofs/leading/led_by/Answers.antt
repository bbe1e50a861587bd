use Rattle.std.proofs.Common.{◌∙◌, ◌<◌, [], ℕ, List, ap, get_or, length, sym, subst, rules}
use Rattle.std.specs.List.{list_all}
use Rattle.simplex.specs.Members.{In}
use Rattle.simplex.specs.Simplex.{is_label}
use Rattle.facet_set.specs.Maps.{image_of}
use Rattle.facet_set.proofs.SetLaws.{in_item}
use Rattle.relabelling.specs.Colours.{colour}
use Rattle.relabelling.proofs.ExtendLaws.{as_many}
use Rattle.relabelling.proofs.LeadLaws.{no_first, plain_kept, refined_nowhere}
use Rattle.relabelling.proofs.LeastLaws.{none_first}
use Rattle.relabelling.proofs.leading.led_by.Goals as goal

pub returns-then-count-target_count : goal.returns-then-count-target_count
returns-then-count-target_count c =
    none_first c.args.ways.now.c.now c.args.ways.now.d.now (λ n g. c.if-count-target_count.true
    (c.len-count.ensures ∙ ap length c.in_ok-vertices.ensures.value ∙ as_many c.args.ways.now.c.now c.args.ways.now.d.now n c.requires.ways.simplices c.requires.ways.complex g ∙ sym (ap length c.in_ok-targets.ensures.value) ∙ sym c.len-target_count.ensures))

pub returns-then-not-fits : goal.returns-then-not-fits
returns-then-not-fits c =
    no_first c.args.ways.now.c.now c.args.ways.now.d.now
    (refined_nowhere c.args.ways.now.c.now c.args.ways.now.d.now [] (colour c.new-colours.result.of_c) (colour c.new-colours.result.of_d) (plain_kept c.args.ways.now.c.now c.args.ways.now.d.now (colour c.new-colours.result.of_c) (colour c.new-colours.result.of_d) c.new-colours.ensures.c c.new-colours.ensures.d)
    (c.in_ok-fits.ensures.apart c.if-not-fits.true))

pub least-requires-clause-ready : goal.least-requires-clause-ready
least-requires-clause-ready c = record {
  strong = c.requires.strong;
  vertices = c.as_slice-2.ensures ∙ c.in_ok-vertices.ensures.value;
  labels = ap (list_all is_label) c.as_slice-2.ensures ∙ c.in_ok-vertices.ensures.labels;
  as_many = ap length (sym c.in_ok-vertices.ensures.value) ∙ sym c.len-count.ensures ∙ c.if-count-target_count.false ∙ c.len-target_count.ensures ∙ ap length c.in_ok-targets.ensures.value;
  facet = subst (λ (l : List (List ℕ)). In c.index-facets-0.result l) c.as_slice-facets.ensures.value (in_item c.as_slice-facets.result.now 0 c.index-facets-0.result (search rules) c.index-facets-0.is);
  some = c.begins-begins.ensures.some c.if-not-begins.false;
  first = c.begins-begins.ensures.first c.if-not-begins.false ∙ ap (λ l. get_or l 0 0) (c.as_slice.ensures ∙ sym c.as_slice-2.ensures);
  room = subst (λ n. 0 < length n) (c.as_slice.ensures ∙ sym c.as_slice-2.ensures) (c.begins-begins.ensures.labels c.if-not-begins.false);
  kept = λ m g. c.in_ok-fits.ensures.kept m g (λ a i. c.new-colours.ensures.c a ∙ sym (c.new-colours.ensures.d (image_of m a)));
}
