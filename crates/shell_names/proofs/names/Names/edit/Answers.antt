use Rattle.std.proofs.Common.{◌≡◌, ap, ◌∙◌}
use Rattle.shell_names.specs.State.{Named, edited, entry, journal_of}
use Rattle.shell_names.proofs.StateLaws.{entry_at, entry_name, edit_fits, put_at, sums_at, sums_put}
use Rattle.shell_names.proofs.names.Names.edit.Goals as goal

pub edit-requires : goal.edit-requires
edit-requires c =
    let s = c.args.self.now in
    let x = c.args.name.now in
    let n = c.index_mut-entry.result.now in
    edit_fits s x n c.args.next (entry_at c.self.inside.entries.items c.deref.result.now s x c.in-Some.place n c.deref.ensures.value c.self.view_is c.in-Some.ensures c.index_mut-entry.ensures.value) c.requires.journal

pub returns-in_ok-edit-clause-ok : goal.returns-in_ok-edit-clause-ok
returns-in_ok-edit-clause-ok c =
    let s = c.args.self.now in
    let x = c.args.name.now in
    put_at c.self.inside.entries.items c.deref.result.now s x c.in-Some.place c.index_mut-entry.result.now c.edit.new.self (λ (m : Named). edited m c.args.next) c.deref.ensures.value c.self.view_is c.in-Some.ensures c.index_mut-entry.ensures.value c.in_ok-edit.ensures.ok (entry_name s x)

pub invariant_of-self-in-Some : goal.invariant_of-self-in-Some
invariant_of-self-in-Some c =
    let s = c.args.self.now in
    let x = c.args.name.now in
    let n = c.index_mut-entry.result.now in
    let e = edited (entry s x) c.args.next in
    let put = put_at c.self.inside.entries.items c.deref.result.now s x c.in-Some.place n c.edit.new.self (λ (m : Named). edited m c.args.next) c.deref.ensures.value c.self.view_is c.in-Some.ensures c.index_mut-entry.ensures.value c.in_ok-edit.ensures.ok (entry_name s x) in
    let held = entry_at c.self.inside.entries.items c.deref.result.now s x c.in-Some.place n c.deref.ensures.value c.self.view_is c.in-Some.ensures c.index_mut-entry.ensures.value in
    let v : c.journal.result ≡ journal_of e = c.journal.ensures.value ∙ ap journal_of c.in_ok-edit.ensures.ok ∙ ap (λ (m : Named). journal_of (edited m c.args.next)) held in
    sums_at _ _ c.weight_after-weight.result _ put (sums_put s x e c.weight_after-weight.result c.journal_without-journal.result c.journal.result (entry_name s x) c.weight_after-weight.ensures.edited c.requires.weight c.journal_without-journal.ensures v c.requires.journal)
