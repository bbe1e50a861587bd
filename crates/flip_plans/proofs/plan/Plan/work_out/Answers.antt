use Rattle.std.proofs.Common.{◌≡◌, ℕ, ◌+◌, ◌^◌, ◌<◌, ◌≤◌, length, get_or, Option, Some, None, refl, sym, ap, ◌∙◌, subst, arith}
use Rattle.simplex.specs.Simplex.{subset_at}
use Rattle.facet_set.specs.Flips.{flip}
use Rattle.facet_set.specs.Star.{lies_in_join}
use Rattle.face_lattice.specs.Lattice.{id_in}
use Rattle.flip_plans.specs.declared.plan.Asking.{Asking}
use Rattle.flip_plans.specs.declared.plan.Plan.{Plan}
use Rattle.flip_plans.specs.declared.plan.SetChange.{SetChange}
use Rattle.flip_plans.proofs.AddLaws.{none_asks, none_changes, some_asks, some_changes}
use Rattle.flip_plans.proofs.PlanLaws.{Gathered, IsBroughtBy, IsGivenUpBy, Noted, gathered_none, id_at, plan_is, set_in_join}
use Rattle.flip_plans.proofs.plan.Plan.work_out.Goals as goal
use Rattle.flip_plans.proofs.plan.Plan.work_out.Goals.{in-Some+in_ok-add, in_default}

-- an option that is no Some
none_from : (o : Option ℕ) → ((x : ℕ) → o ≡ Some x → ⊥) → o ≡ None
none_from None f = refl
none_from (Some x) f = absurd (f x refl)

pub loop-id-init : goal.loop-id-init
loop-id-init c =
    let d = flip c.args.l.now.facets c.args.flip.now.a c.args.flip.now.b in
    record {
      go = gathered_none (λ (x : Asking). x.asker) (IsGivenUpBy c.args.labels.now c.args.ids.now c.args.l.now.facets d) c.clear.new.self.items c.clear.ensures.items;
      come = gathered_none (λ (x : Asking). x.asker) (IsGivenUpBy c.args.labels.now c.args.ids.now d c.args.l.now.facets) c.clear-2.new.self.items c.clear-2.ensures.items;
      changes = gathered_none (λ (x : SetChange). x.face) (IsBroughtBy c.args.labels.now c.args.ids.now c.args.l.now.facets c.args.flip.now) c.clear-3.new.self.items c.clear-3.ensures.items;
    }

pub simplex_of-s-requires : goal.simplex_of-s-requires
simplex_of-s-requires c =
    let n : Noted c.args.flip.now (id_in c.args.l.now) c.args.labels.now c.args.ids.now = record { whole = c.requires.whole; at = c.requires.ids.at; known = c.requires.ids.known } in
    let k = c.loop-id.id-index in
    let below : k < 2 ^ length c.args.labels.now = subst (λ l. k < l) c.requires.ids.len c.loop-id-test.true in
    (subset_at c.args.labels.now k, (id_at c.args.l.now.facets c.args.flip.now c.requires.allowed (id_in c.args.l.now) c.args.labels.now c.args.ids.now n k c.in-Some.id below c.in-Some.is).1)

pub add-requires-clause-id : goal.add-requires-clause-id
add-requires-clause-id c =
    let n : Noted c.args.flip.now (id_in c.args.l.now) c.args.labels.now c.args.ids.now = record { whole = c.requires.whole; at = c.requires.ids.at; known = c.requires.ids.known } in
    let k = c.loop-id.id-index in
    let below : k < 2 ^ length c.args.labels.now = subst (λ l. k < l) c.requires.ids.len c.loop-id-test.true in
    let e = (id_at c.args.l.now.facets c.args.flip.now c.requires.allowed (id_in c.args.l.now) c.args.labels.now c.args.ids.now n k c.in-Some.id below c.in-Some.is).1 in
    ap (id_in c.args.l.now) (c.simplex_of-s.ensures.value (subset_at c.args.labels.now k) e) ∙ e

pub add-requires-clause-inside : goal.add-requires-clause-inside
add-requires-clause-inside c =
    let n : Noted c.args.flip.now (id_in c.args.l.now) c.args.labels.now c.args.ids.now = record { whole = c.requires.whole; at = c.requires.ids.at; known = c.requires.ids.known } in
    let k = c.loop-id.id-index in
    let below : k < 2 ^ length c.args.labels.now = subst (λ l. k < l) c.requires.ids.len c.loop-id-test.true in
    let e = (id_at c.args.l.now.facets c.args.flip.now c.requires.allowed (id_in c.args.l.now) c.args.labels.now c.args.ids.now n k c.in-Some.id below c.in-Some.is).1 in
    ap (lies_in_join c.args.flip.now.a c.args.flip.now.b) (c.simplex_of-s.ensures.value (subset_at c.args.labels.now k) e)
    ∙ set_in_join c.args.l.now.facets c.args.flip.now c.requires.allowed (id_in c.args.l.now) c.args.labels.now c.args.ids.now n k

pub loop-id-preserved : goal.loop-id-preserved
loop-id-preserved c =
    let n : Noted c.args.flip.now (id_in c.args.l.now) c.args.labels.now c.args.ids.now = record { whole = c.requires.whole; at = c.requires.ids.at; known = c.requires.ids.known } in
    let k = c.loop-id.id-index in
    let below : k < 2 ^ length c.args.labels.now = subst (λ l. k < l) c.requires.ids.len c.loop-id-test.true in
    let d = flip c.args.l.now.facets c.args.flip.now.a c.args.flip.now.b in
    elim c.match-id.branch [
      | in-Some+in_ok-add w ↦ record {
        go = some_asks c.args.l.now.facets c.args.flip.now c.requires.allowed (id_in c.args.l.now) c.args.labels.now c.args.ids.now n k below w.in-Some.id w.simplex_of-s.result w.in-Some.is w.simplex_of-s.ensures.value
            c.args.l.now.facets d c.loop-id.self.asks_go.items c.match-id.self.asks_go.items c.loop-id.invariant.go (ap (λ (p : Plan). p.asks_go.items) w.self-is ∙ w.in_ok-add.ensures.go);
        come = some_asks c.args.l.now.facets c.args.flip.now c.requires.allowed (id_in c.args.l.now) c.args.labels.now c.args.ids.now n k below w.in-Some.id w.simplex_of-s.result w.in-Some.is w.simplex_of-s.ensures.value
            d c.args.l.now.facets c.loop-id.self.asks_come.items c.match-id.self.asks_come.items c.loop-id.invariant.come (ap (λ (p : Plan). p.asks_come.items) w.self-is ∙ w.in_ok-add.ensures.come);
        changes = subst (λ (p : Plan). Gathered (λ (x : SetChange). x.face) (IsBroughtBy c.args.labels.now c.args.ids.now c.args.l.now.facets c.args.flip.now) (k + 1) p.changes.items) (sym w.self-is)
            (some_changes c.args.l.now.facets c.args.flip.now c.requires.allowed (id_in c.args.l.now) c.args.labels.now c.args.ids.now n k below w.in-Some.id w.simplex_of-s.result w.in-Some.is w.simplex_of-s.ensures.value
            c.loop-id.self.changes.items w.add.new.self.changes.items c.loop-id.invariant.changes w.in_ok-add.ensures.changes);
      }
      | in_default w ↦
          let none = none_from (get_or c.args.ids.now k None) w.in_default.not-Some in
          record {
            go = subst (λ (p : Plan). Gathered (λ (x : Asking). x.asker) (IsGivenUpBy c.args.labels.now c.args.ids.now c.args.l.now.facets d) (k + 1) p.asks_go.items) (sym w.self-is)
                (none_asks c.args.l.now.facets c.args.flip.now c.requires.allowed (id_in c.args.l.now) c.args.labels.now c.args.ids.now n k below none c.args.l.now.facets d c.loop-id.self.asks_go.items c.loop-id.invariant.go);
            come = subst (λ (p : Plan). Gathered (λ (x : Asking). x.asker) (IsGivenUpBy c.args.labels.now c.args.ids.now d c.args.l.now.facets) (k + 1) p.asks_come.items) (sym w.self-is)
                (none_asks c.args.l.now.facets c.args.flip.now c.requires.allowed (id_in c.args.l.now) c.args.labels.now c.args.ids.now n k below none d c.args.l.now.facets c.loop-id.self.asks_come.items c.loop-id.invariant.come);
            changes = subst (λ (p : Plan). Gathered (λ (x : SetChange). x.face) (IsBroughtBy c.args.labels.now c.args.ids.now c.args.l.now.facets c.args.flip.now) (k + 1) p.changes.items) (sym w.self-is)
                (none_changes c.args.l.now.facets c.args.flip.now c.requires.allowed (id_in c.args.l.now) c.args.labels.now c.args.ids.now n k below none c.loop-id.self.changes.items c.loop-id.invariant.changes);
          }
    ]

pub returns : goal.returns
returns c =
    let n : Noted c.args.flip.now (id_in c.args.l.now) c.args.labels.now c.args.ids.now = record { whole = c.requires.whole; at = c.requires.ids.at; known = c.requires.ids.known } in
    let d = flip c.args.l.now.facets c.args.flip.now.a c.args.flip.now.b in
    let end : c.loop-id.id-index ≡ 2 ^ length c.args.labels.now = last c.loop-id.id-index (length c.args.ids.now) (2 ^ length c.args.labels.now) c.loop-id.auto.id-index-end c.loop-id-test.false c.requires.ids.len in
    plan_is c.args.l.now.facets c.args.flip.now c.requires.allowed (id_in c.args.l.now) c.args.labels.now c.args.ids.now n c.loop-id.self.asks_go.items c.loop-id.self.asks_come.items c.loop-id.self.changes.items
    (subst (λ j. Gathered (λ (x : Asking). x.asker) (IsGivenUpBy c.args.labels.now c.args.ids.now c.args.l.now.facets d) j c.loop-id.self.asks_go.items) end c.loop-id.invariant.go)
    (subst (λ j. Gathered (λ (x : Asking). x.asker) (IsGivenUpBy c.args.labels.now c.args.ids.now d c.args.l.now.facets) j c.loop-id.self.asks_come.items) end c.loop-id.invariant.come)
    (subst (λ j. Gathered (λ (x : SetChange). x.face) (IsBroughtBy c.args.labels.now c.args.ids.now c.args.l.now.facets c.args.flip.now) j c.loop-id.self.changes.items) end c.loop-id.invariant.changes)
  where
    last : (i n p : ℕ) → i ≤ n → n ≤ i → n ≡ p → i ≡ p
    last i n p h k e = omega arith
