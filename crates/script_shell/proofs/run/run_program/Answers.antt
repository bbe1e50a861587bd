use Rattle.std.proofs.Common.{rules, ◌≡◌, map, sym, subst}
use Rattle.std.specs.String.{string_bytes}
use Rattle.script_shell.specs.Output.{form_of, form_output}
use Rattle.script_shell.specs.Streams.{GrowsByFront}
use Rattle.script_shell.specs.declared.words.Form.{Form}
use Rattle.script_shell.specs.declared.words.Form.TheVariants.{Run}
use Rattle.script_shell.proofs.Answering.{front_of_stop}
use Rattle.script_shell.proofs.run.run_program.Goals as goal

pub returns-in-Run-clause-early : goal.returns-in-Run-clause-early
returns-in-Run-clause-early g c has one =
    let f = front_of_stop c.converse.result _ _ _ _ _ _ (c.converse.ensures.early one) in
    let e : form_of (map string_bytes c.args.words.now) ≡ Run = search rules in
    (f.0, f.1, subst (λ (form : Form). GrowsByFront (g.K.Sink.written c.args.sink.now) (g.K.Sink.written c.converse.new.sink) (form_output form f.0)) (sym e) f.2)
