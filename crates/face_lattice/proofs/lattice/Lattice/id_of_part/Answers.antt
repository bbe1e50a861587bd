use Rattle.std.proofs.Common.{IsTrue, ap, ◌∙◌, arith}
use Rattle.simplex.specs.Simplex.{is_simplex, subset_at}
use Rattle.face_lattice.specs.Lattice.{LatticeState, id_in}
use Rattle.face_lattice.specs.Slots.{id_of}
use Rattle.face_lattice.proofs.PartLaws.{part_is, part_last, part_other, part_short, parts_are}
use Rattle.face_lattice.proofs.lattice.Lattice.id_of_part.Goals.{else-outer-gt-LEN_LIMIT-via-then-outer-gt-LEN_LIMIT+else-number-outer, else-outer-gt-LEN_LIMIT-via-else-outer-gt-LEN_LIMIT}
use Rattle.face_lattice.proofs.lattice.Lattice.id_of_part.Goals as goal

pub returns-then-number-outer : goal.returns-then-number-outer
returns-then-number-outer c = part_last c.args.self.now c.args.outer.now c.args.number c.if-outer-gt-LEN_LIMIT.true (c.if-number-outer.true ∙ parts_are c.args.outer.now c.requires.outer)

pub among-requires : goal.among-requires
among-requires c =
    let s = c.args.outer.now in
    let m = c.args.number in
    elim c.else-outer-gt-LEN_LIMIT.branch [
      | else-outer-gt-LEN_LIMIT-via-then-outer-gt-LEN_LIMIT+else-number-outer w ↦
          let p = parts_are s c.requires.outer in
          let other = w.if-number-outer.false in
          part_other s m c.requires.outer (omega (arith, p, other, c.requires.number))
      | else-outer-gt-LEN_LIMIT-via-else-outer-gt-LEN_LIMIT w ↦ part_short s m c.requires.outer (omega (arith, w.if-outer-gt-LEN_LIMIT.false))
    ]

pub returns : goal.returns
returns c =
    let l = c.args.self.now in
    let s = c.args.outer.now in
    let m = c.args.number in
    let simplex : IsTrue (is_simplex (subset_at s m)) = elim c.else-outer-gt-LEN_LIMIT.branch [
      | else-outer-gt-LEN_LIMIT-via-then-outer-gt-LEN_LIMIT+else-number-outer w ↦
          let p = parts_are s c.requires.outer in
          let other = w.if-number-outer.false in
          part_other s m c.requires.outer (omega (arith, p, other, c.requires.number))
      | else-outer-gt-LEN_LIMIT-via-else-outer-gt-LEN_LIMIT w ↦ part_short s m c.requires.outer (omega (arith, w.if-outer-gt-LEN_LIMIT.false))
    ] in
    c.id.ensures.value ∙ ap (id_of c.self.inside.slab) c.among.ensures ∙ ap (λ (l : LatticeState). id_in l (subset_at s m)) c.self.view_is ∙ part_is l s m simplex
