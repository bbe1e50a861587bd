use Rattle.std.proofs.Common.{◌≡◌, ℕ, List, OnOk, ◌++◌, ◌∷◌, [], cond, sym, ap, ◌∙◌, subst}
use Rattle.face_lattice.specs.Cells.{same}
use Rattle.face_lattice.specs.Lattice.{LatticeState}
use Rattle.face_lattice.specs.Slots.{asked_at}
use Rattle.face_lattice.specs.States.{asked}
use Rattle.face_lattice.proofs.AskLaws.{keeps_either, on_err}
use Rattle.face_lattice.proofs.IdLaws.{asked_seen, asked_still}
use Rattle.face_lattice.proofs.LatticeLaws.{kept_still}
use Rattle.face_lattice.proofs.SlabLaws.{on_ok}
use Rattle.face_lattice.proofs.lattice.Lattice.ask.Goals as goal

pub invariant_of-self : goal.invariant_of-self
invariant_of-self c =
    let v = c.self.inside.slab in
    let w = c.ask.new.self in
    let k = keeps_either v w c.ask.result c.ask.ensures.keeps c.ask.ensures.err in
    record {
      kept = (kept_still v w c.self.inside.counts c.self.invariant.kept k.cells).kept;
      ready = λ t st f. k.room t _ (c.self.invariant.ready t st f);
      wide = c.self.invariant.wide;
      needed = λ s st i. c.self.invariant.needed s st (k.idle s i);
    }

pub returns-clause-facets : goal.returns-clause-facets
returns-clause-facets c =
    let v = c.self.inside.slab in
    let w = c.ask.new.self in
    (kept_still v w c.self.inside.counts c.self.invariant.kept (keeps_either v w c.ask.result c.ask.ensures.keeps c.ask.ensures.err).cells).facets ∙ ap (λ (l : LatticeState). l.facets) c.self.view_is

pub returns-clause-asked : goal.returns-clause-asked
returns-clause-asked c =
    let v = c.self.inside.slab in
    let w = c.ask.new.self in
    let a = c.args.asker in
    on_ok _ _ c.ask.result (λ k. asked_seen c.args.self.now v w (same c.args.b.now) (λ xs. xs ++ a ∷ []) (ap (λ (l : LatticeState). l.askers) (sym c.self.view_is)) k)
    (subst (λ u. OnOk c.ask.result ((t : List ℕ) → asked_at w t ≡ cond (same u t) (asked_at v t ++ a ∷ []) (asked_at v t))) c.of.ensures.value c.ask.ensures.asked)

pub returns-clause-err : goal.returns-clause-err
returns-clause-err c =
    let v = c.self.inside.slab in
    let w = c.ask.new.self in
    on_err _ _ c.ask.result (λ k. asked_still c.args.self.now v w (ap (λ (l : LatticeState). l.askers) (sym c.self.view_is)) (λ t. ap asked (k t))) c.ask.ensures.err
