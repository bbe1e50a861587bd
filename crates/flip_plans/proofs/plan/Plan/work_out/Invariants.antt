use Rattle.facet_set.specs.Flips.{flip}
use Rattle.flip_plans.specs.declared.plan.Asking.{Asking}
use Rattle.flip_plans.specs.declared.plan.SetChange.{SetChange}
use Rattle.flip_plans.proofs.PlanLaws.{Gathered, IsBroughtBy, IsGivenUpBy}
use Rattle.flip_plans.proofs.plan.Plan.work_out.Given as goal

abbrev pub invariant-loop-id : goal.invariant-loop-id
invariant-loop-id l =
    let d = flip l.l.facets l.flip.a l.flip.b in record {
      go : Gathered (λ (x : Asking). x.asker) (IsGivenUpBy l.labels l.ids l.l.facets d) l.id-index l.self.asks_go.items;
      come : Gathered (λ (x : Asking). x.asker) (IsGivenUpBy l.labels l.ids d l.l.facets) l.id-index l.self.asks_come.items;
      changes : Gathered (λ (x : SetChange). x.face) (IsBroughtBy l.labels l.ids l.l.facets l.flip) l.id-index l.self.changes.items;
    }
