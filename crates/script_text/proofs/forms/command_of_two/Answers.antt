use Rattle.std.proofs.Common.{sym, ap, ◌∙◌}
use Rattle.script_text.specs.Forms.{command_by}
use Rattle.script_text.specs.declared.form.Form.TheVariants.{Two}
use Rattle.script_text.specs.declared.form.Part.TheVariants as part
use Rattle.script_text.proofs.forms.command_of_two.Goals as goal

pub returns-in-List : goal.returns-in-List
returns-in-List c =
    c.command_of_face.ensures ∙ ap (λ b. command_by (Two c.args.word (part.Name c.in-Name.x) b)) (sym c.in-List.is)
    ∙ ap (λ a. command_by (Two c.args.word a c.args.b)) (sym c.in-Name.is)
