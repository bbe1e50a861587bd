use Rattle.std.proofs.Common.{◌++◌, ◌∷◌, [], cond, sym, ap, ◌∙◌}
use Rattle.face_lattice.specs.Lattice.{LatticeState, askers_in, id_in}
use Rattle.face_lattice.specs.Slots.{id_of, is_some_id}
use Rattle.face_lattice.specs.States.{asked}
use Rattle.face_lattice.proofs.AskLaws.{asked_more, keeps_either, keeps_more, on_err, some_id_cell}
use Rattle.face_lattice.proofs.IdLaws.{asked_seen, asked_still}
use Rattle.face_lattice.proofs.LatticeLaws.{kept_still}
use Rattle.face_lattice.proofs.SlabLaws.{on_ok}
use Rattle.face_lattice.proofs.lattice.Lattice.ask_at.Goals as goal

pub invariant_of-self : goal.invariant_of-self
invariant_of-self c =
    let v = c.self.inside.slab in
    let w = c.ask_at.new.self in
    let k = keeps_either v w c.ask_at.result (on_ok _ _ c.ask_at.result (keeps_more v w (λ t. is_some_id c.args.id (id_of v t)) c.args.asker) c.ask_at.ensures.ok) c.ask_at.ensures.err in
    record {
      kept = (kept_still v w c.self.inside.counts c.self.invariant.kept k.cells).kept;
      ready = λ t st f. k.room t _ (c.self.invariant.ready t st f);
      wide = c.self.invariant.wide;
      needed = λ s st i. c.self.invariant.needed s st (k.idle s i);
    }

pub returns-clause-facets : goal.returns-clause-facets
returns-clause-facets c =
    let v = c.self.inside.slab in
    let w = c.ask_at.new.self in
    let k = keeps_either v w c.ask_at.result (on_ok _ _ c.ask_at.result (keeps_more v w (λ t. is_some_id c.args.id (id_of v t)) c.args.asker) c.ask_at.ensures.ok) c.ask_at.ensures.err in
    (kept_still v w c.self.inside.counts c.self.invariant.kept k.cells).facets ∙ ap (λ (l : LatticeState). l.facets) c.self.view_is

pub returns-clause-asked : goal.returns-clause-asked
returns-clause-asked c =
    let v = c.self.inside.slab in
    let w = c.ask_at.new.self in
    let a = c.args.asker in
    let id = c.args.id in
    on_ok _ _ c.ask_at.result (λ k s. asked_seen c.args.self.now v w (λ t. is_some_id id (id_of v t)) (λ xs. xs ++ a ∷ []) (ap (λ (l : LatticeState). l.askers) (sym c.self.view_is))
    (asked_more v w (λ t. is_some_id id (id_of v t)) a k (λ t h. some_id_cell v t id h)) s
    ∙ ap (λ (l : LatticeState). cond (is_some_id id (id_in l s)) (askers_in c.args.self.now s ++ a ∷ []) (askers_in c.args.self.now s)) c.self.view_is)
    c.ask_at.ensures.ok

pub returns-clause-err : goal.returns-clause-err
returns-clause-err c =
    let v = c.self.inside.slab in
    let w = c.ask_at.new.self in
    on_err _ _ c.ask_at.result (λ k. asked_still c.args.self.now v w (ap (λ (l : LatticeState). l.askers) (sym c.self.view_is)) (λ t. ap asked (k t))) c.ask_at.ensures.err
