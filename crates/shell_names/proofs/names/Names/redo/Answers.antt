use Rattle.std.proofs.Common.{◌≡◌, ap, ◌∙◌, sym}
use Rattle.shell_names.specs.State.{redone, entry, journal_of}
use Rattle.shell_names.proofs.StateLaws.{entry_at, redone_name, put_at, sums_of, sums_at, sums_kept}
use Rattle.shell_names.proofs.names.Names.redo.Goals as goal

pub returns-in_ok-redo-clause-ok : goal.returns-in_ok-redo-clause-ok
returns-in_ok-redo-clause-ok c =
    let s = c.args.self.now in
    let x = c.args.name.now in
    put_at c.self.inside.entries.items c.deref.result.now s x c.in-Some.place c.index_mut-entry.result.now c.redo.new.self redone c.deref.ensures.value c.self.view_is c.in-Some.ensures c.index_mut-entry.ensures.value c.in_ok-redo.ensures.ok (redone_name s x)

pub invariant_of-self-in-Some : goal.invariant_of-self-in-Some
invariant_of-self-in-Some c =
    let s = c.args.self.now in
    let x = c.args.name.now in
    let n = c.index_mut-entry.result.now in
    let e = redone (entry s x) in
    let put = put_at c.self.inside.entries.items c.deref.result.now s x c.in-Some.place n c.redo.new.self redone c.deref.ensures.value c.self.view_is c.in-Some.ensures c.index_mut-entry.ensures.value c.in_ok-redo.ensures.ok (redone_name s x) in
    let held = entry_at c.self.inside.entries.items c.deref.result.now s x c.in-Some.place n c.deref.ensures.value c.self.view_is c.in-Some.ensures c.index_mut-entry.ensures.value in
    let changed : c.redo.new.self ≡ e = c.in_ok-redo.ensures.ok ∙ ap redone held in
    let kept : journal_of e ≡ journal_of (entry s x) = ap journal_of (sym changed) ∙ c.redo.ensures.journal ∙ ap journal_of held in
    let sums = sums_of c.self.inside.entries.items s c.self.inside.weight c.self.inside.journal c.self.view_is c.self.invariant in
    sums_at _ _ c.weight_after_redo-weight.result c.self.inside.journal put (sums_kept s x e c.weight_after_redo-weight.result c.self.inside.weight c.self.inside.journal sums (redone_name s x) c.weight_after_redo-weight.ensures c.requires.weight kept)
