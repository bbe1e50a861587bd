use Rattle.std.proofs.Common.{◌≡◌, ap, ◌∙◌}
use Rattle.shell_names.specs.State.{Named, put_entry, assign}
use Rattle.shell_names.proofs.StateLaws.{sums_of, sums_at, sums_assigned}
use Rattle.shell_names.proofs.names.Names.assign.Goals as goal

pub invariant_of-self-2 : goal.invariant_of-self-2
invariant_of-self-2 c =
    let s = c.args.self.now in
    let x = c.args.name.now in
    let e : c.put.new.entries.items ≡ assign x c.args.next s = c.in_ok-put.ensures.ok ∙ ap (λ (n : Named). put_entry n c.self.inside.entries.items) c.new-entry.ensures ∙ ap (assign x c.args.next) c.self.view_is in
    sums_at c.put.new.entries.items (assign x c.args.next s) c.weight_after-weight.result c.journal_without-journal.result e (sums_assigned s x c.args.next c.weight_after-weight.result c.journal_without-journal.result c.self.inside.weight c.self.inside.journal (sums_of c.self.inside.entries.items s c.self.inside.weight c.self.inside.journal c.self.view_is c.self.invariant) c.weight_after-weight.ensures.assigned c.requires.weight c.journal_without-journal.ensures)

pub returns-clause-ok : goal.returns-clause-ok
returns-clause-ok c =
    let s = c.args.self.now in
    let x = c.args.name.now in
    c.in_ok-put.ensures.ok ∙ ap (λ (n : Named). put_entry n c.self.inside.entries.items) c.new-entry.ensures ∙ ap (assign x c.args.next) c.self.view_is
