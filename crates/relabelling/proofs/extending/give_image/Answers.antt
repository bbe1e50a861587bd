use Rattle.std.proofs.Common.{◌∙◌, ap, sym}
use Rattle.std.specs.Prelude.{is_some, unwrap_or}
use Rattle.relabelling.proofs.WalkLaws.{extends_more, leads_elsewhere, leads_nowhere}
use Rattle.relabelling.proofs.extending.give_image.Goals as goal

pub returns-in-Some-clause-apart : goal.returns-in-Some-clause-apart
returns-in-Some-clause-apart c = λ f.
    leads_elsewhere c.args.ways.now.c.now c.args.ways.now.d.now c.args.ways.now.c_ends c.args.ways.now.d_ends c.args.images.now c.args.ridge.now c.args.label c.args.next c.in-Some.known c.image_across-image.result c.requires.ways c.requires.ends c.requires.known
    c.image_across-image.ensures (sym (c.copied.ensures ∙ c.get.ensures.value) ∙ c.in-Some.is) (sym c.is_that.ensures ∙ f)

pub returns-in_ok-insert-in-None-clause-extends : goal.returns-in_ok-insert-in-None-clause-extends
returns-in_ok-insert-in-None-clause-extends c =
    extends_more c.args.ways.now.c.now c.args.ways.now.d.now c.args.ways.now.c_ends c.args.ways.now.d_ends c.args.images.now c.insert.new.self c.args.ridge.now c.args.label c.args.next c.unwrap_or.result c.requires.ways c.requires.ends c.requires.known
    (ap is_some (sym (c.copied.ensures ∙ c.get.ensures.value) ∙ c.in-None.is)) (c.unwrap_or.ensures ∙ ap (λ o. unwrap_or o c.args.next) c.image_across-image.ensures) c.in_ok-insert-in-None.ensures.updates.0

pub returns-in_ok-insert-in-None-clause-apart : goal.returns-in_ok-insert-in-None-clause-apart
returns-in_ok-insert-in-None-clause-apart c = λ f.
    leads_nowhere c.args.ways.now.c.now c.args.ways.now.d.now c.args.ways.now.c_ends c.args.ways.now.d_ends c.args.images.now c.args.ridge.now c.args.label c.args.next c.image_across-image.result c.requires.ways c.requires.ends c.requires.known
    c.image_across-image.ensures (sym c.is_some.ensures ∙ f)
