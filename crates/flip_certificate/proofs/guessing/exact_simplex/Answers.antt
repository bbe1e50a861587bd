use Rattle.std.proofs.Common.{sym, ap, ◌∙◌}
use Rattle.plain_text.specs.Bytes.{is_text}
use Rattle.flip_certificate.proofs.GuessedLaws.{exact_simplex_none, exact_simplex_not}
use Rattle.flip_certificate.proofs.guessing.exact_simplex.Goals as goal
use Rattle.flip_certificate.proofs.guessing.exact_simplex.Goals.{in_default-via-in-Ok+else-eq, in_default-via-in_default}

pub returns-in_default : goal.returns-in_default
returns-in_default c =
    let labels = c.args.labels.now in
    elim c.in_default.branch [
      | in_default-via-in-Ok+else-eq w ↦ exact_simplex_not labels w.in-Ok.simplex (sym w.in-Ok.is ∙ c.of.ensures.exact) (ap (λ s. is_text s labels) (sym w.labels.ensures.value) ∙ sym w.eq.ensures ∙ w.if-eq.false)
      | in_default-via-in_default w ↦ exact_simplex_none labels c.of.result c.of.ensures.exact w.in_default.not-Ok
    ]
