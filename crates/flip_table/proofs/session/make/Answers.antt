use Rattle.std.proofs.Common.{rules, ◌≡◌, ◌++◌, ◌∷◌, []}
use Rattle.flip_table.proofs.JournalLaws.{kept_after}
use Rattle.flip_table.proofs.session.make.Goals as goal

pub returns-clause-kept : goal.returns-clause-kept
returns-clause-kept c =
    let e : c.push.new.self.items ≡ c.args.journal.now.items ++ c.args.next.flip ∷ [] = search (rules, c.push.ensures.items, c.unwrap.ensures) in
    kept_after c.args.present.now c.args.next.present c.args.next.flip c.args.candidates.now.items c.args.next.candidates.items c.args.point.now c.args.next.point
    c.args.journal.now.items c.push.new.self.items c.requires.kept c.requires.next e
