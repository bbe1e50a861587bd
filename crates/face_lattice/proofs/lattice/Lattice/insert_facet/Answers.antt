use Rattle.std.proofs.Common.{ap, sym, ◌∙◌}
use mathlib.Core.Bool.{true≢false}
use Rattle.facet_set.specs.Complex.{stands_in}
use Rattle.face_lattice.specs.Lattice.{all_but}
use Rattle.face_lattice.proofs.ForgetLaws.{expected, left_over, no_member}
use Rattle.std.specs.List.{list_any}
use Rattle.simplex.specs.Simplex.{is_within}
use Rattle.face_lattice.proofs.HoldLaws.{holds_again}
use Rattle.face_lattice.proofs.lattice.Lattice.insert_facet.Goals as goal

pub put_in-requires-clause-room : goal.put_in-requires-clause-room
put_in-requires-clause-room g c = expected c.args.self.now.room c.expect.new.self.room c.args.f.now c.in_ok-expect.ensures.ok

pub returns-clause-room : goal.returns-clause-room
returns-clause-room g c =
    let room = c.args.self.now.room in
    let f = c.args.f.now in
    c.put_in.ensures.room ∙ ap (all_but f) c.in_ok-expect.ensures.ok ∙ left_over (stands_in room f) room f

pub returns-clause-holds : goal.returns-clause-holds
returns-clause-holds g c = holds_again c.args.self.now c.expect.new.self c.put_in.new.self c.expect.ensures.holds c.expect.ensures.facets c.put_in.ensures.holds

pub put_in-requires-clause-above : goal.put_in-requires-clause-above
put_in-requires-clause-above g c = ap (list_any (λ s. is_within s c.args.f.now)) c.expect.ensures.facets ∙ c.requires.above

pub returns-in_err-expect-clause-member : goal.returns-in_err-expect-clause-member
returns-in_err-expect-clause-member g c = λ h. absurd (true≢false (sym (c.in_err-expect.ensures.member h)))

pub returns-in_err-expect-clause-room : goal.returns-in_err-expect-clause-room
returns-in_err-expect-clause-room g c =
    c.in_err-expect.ensures.err
    ∙ no_member (stands_in c.args.self.now.room c.args.f.now) (all_but c.args.f.now c.args.self.now.room) (λ h. true≢false (sym (c.in_err-expect.ensures.member h)))
