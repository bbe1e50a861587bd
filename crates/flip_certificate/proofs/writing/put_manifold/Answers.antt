use Rattle.std.specs.List.{flat_map}
use Rattle.std.proofs.lemmas.Result.{on_ok_weaker}
use Rattle.flip_certificate.specs.declared.line.Line.TheVariants.{Heading, Complex}
use Rattle.flip_certificate.specs.declared.line.Kind.TheVariants as kind
use Rattle.flip_certificate.specs.declared.line.Word.TheVariants as word
use Rattle.flip_certificate.specs.Lines.{block_lines}
use Rattle.flip_certificate.proofs.WrittenLaws.{four_parts}
use Rattle.flip_certificate.proofs.writing.put_manifold.Goals as goal

pub returns-clause-text : goal.returns-clause-text
returns-clause-text c =
    on_ok_weaker c.put_end.result
    (four_parts c.args.out.now c.put_heading.new.out c.put_complex.new.out c.put_blocks.new.out c.put_end.new.out (Heading kind.Manifold) (Complex word.Facets c.args.start.now) (flat_map block_lines c.args.blocks.now)
    c.in_ok-put_heading.ensures c.in_ok-put_complex.ensures.text c.in_ok-put_blocks.ensures.text) c.put_end.ensures
