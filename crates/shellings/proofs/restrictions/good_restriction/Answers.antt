use Rattle.std.proofs.Common.{◌≡◌, true, false, rules}
use Rattle.facet_set.specs.Complex.{is_face, stands_in}
use Rattle.shellings.proofs.CheckLaws.{face_so_far, new_face}
use Rattle.shellings.proofs.restrictions.good_restriction.Goals as goal

pub returns-then-is_face : goal.returns-then-is_face
returns-then-is_face c =
    let there : stands_in c.args.c.now c.args.f.now ≡ true = search rules in
    let known : is_face c.args.earlier.now c.restriction-restriction.result ≡ true = search rules in
    face_so_far c.args.c.now c.args.earlier.now c.args.f.now c.restriction-restriction.result c.requires there c.restriction-restriction.ensures known

pub returns : goal.returns
returns c =
    let there : stands_in c.args.c.now c.args.f.now ≡ true = search rules in
    let new : is_face c.args.earlier.now c.restriction-restriction.result ≡ false = search rules in
    new_face c.args.c.now c.args.earlier.now c.args.f.now c.restriction-restriction.result c.requires there c.restriction-restriction.ensures new
