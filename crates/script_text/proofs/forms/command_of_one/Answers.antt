use Rattle.std.proofs.Common.{sym, ap, ◌∙◌}
use Rattle.script_text.specs.Forms.{command_by}
use Rattle.script_text.specs.declared.form.Form.TheVariants.{One}
use Rattle.script_text.proofs.forms.command_of_one.Goals as goal

pub returns-in-Name : goal.returns-in-Name
returns-in-Name c = c.command_of_name.ensures ∙ ap (λ a. command_by (One c.args.word a)) (sym c.in-Name.is)
