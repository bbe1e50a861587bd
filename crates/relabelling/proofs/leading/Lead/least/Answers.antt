use Rattle.std.proofs.Common.{◌≡◌, ◌∙◌, ℕ, List, IfSome, ap, map, take, take_all, sym, subst, inl, inr}
use Rattle.std.specs.Prelude.{None, slice_index_or}
use Rattle.simplex.specs.Members.{In}
use Rattle.simplex.specs.Simplex.{is_label, is_simplex}
use Rattle.simplex.proofs.Filled.{labels_of}
use Rattle.simplex.proofs.Members.{all_at, none}
use Rattle.facet_set.specs.Maps.{image_of, relabelled}
use Rattle.facet_set.proofs.MapLaws.{in_relabelled}
use Rattle.facet_set.proofs.SetLaws.{in_item, in_place}
use Rattle.relabelling.specs.Least.{Improves}
use Rattle.relabelling.proofs.CarryLaws.{facet_carried}
use Rattle.relabelling.proofs.LeastLaws.{improves_itself, item_in, improves_on, reached_first}
use Rattle.relabelling.proofs.leading.Lead.least.Goals as goal

pub loop-place-init : goal.loop-place-init
loop-place-init c = improves_itself c.args.self.now.ways.now.c.now c.args.self.now.ways.now.d.now None _ (λ m i. none _ i)

pub least_at-requires-clause-label : goal.least_at-requires-clause-label
least_at-requires-clause-label c =
    let q = c.in_ok-places.ensures.only c.place-item.result.0 c.place-item.result.1 (subst (λ (l : List (ℕ × List ℕ)). In c.place-item.result l) c.deref-place-items.ensures.value (in_item c.deref-place-items.result.now c.loop-place.place-index c.place-item.result c.loop-place-test.true c.place-item.is)) in
    all_at is_label c.place-item.result.0 c.place-item.result.1 (labels_of c.place-item.result.1 (all_at is_simplex c.place-item.result.1 c.args.self.now.ways.now.d.now c.requires.ways.d_simplices (subst (λ l. In c.place-item.result.1 l) c.as_slice.ensures.value q.0))) q.1

pub least_at-requires-clause-facet : goal.least_at-requires-clause-facet
least_at-requires-clause-facet c =
    let q = c.in_ok-places.ensures.only c.place-item.result.0 c.place-item.result.1 (subst (λ (l : List (ℕ × List ℕ)). In c.place-item.result l) c.deref-place-items.ensures.value (in_item c.deref-place-items.result.now c.loop-place.place-index c.place-item.result c.loop-place-test.true c.place-item.is)) in
    labels_of c.place-item.result.1 (all_at is_simplex c.place-item.result.1 c.args.self.now.ways.now.d.now c.requires.ways.d_simplices (subst (λ l. In c.place-item.result.1 l) c.as_slice.ensures.value q.0))

pub loop-place-preserved : goal.loop-place-preserved
loop-place-preserved c =
    improves_on c.args.self.now.ways.now.c.now c.args.self.now.ways.now.d.now None c.loop-place.best c.in-Some.map
    (λ m. In (image_of m (slice_index_or c.args.self.now.start.now 0 0), relabelled m c.args.self.now.start.now) (take c.loop-place.place-index c.deref-place-items.result.now))
    (λ m. (image_of m (slice_index_or c.args.self.now.start.now 0 0) ≡ c.place-item.result.0) × (relabelled m c.args.self.now.start.now ≡ c.place-item.result.1)) _ c.loop-place.invariant
    (subst (λ x. IfSome x (λ n. Improves c.args.self.now.ways.now.c.now c.args.self.now.ways.now.d.now c.loop-place.best n (λ m. (image_of m (slice_index_or c.args.self.now.start.now 0 0) ≡ c.place-item.result.0) × (relabelled m c.args.self.now.start.now ≡ c.place-item.result.1)))) c.in-Some.is c.in_ok-map.ensures)
    (λ m i. elim (item_in c.deref-place-items.result.now c.loop-place.place-index c.place-item.result (image_of m (slice_index_or c.args.self.now.start.now 0 0), relabelled m c.args.self.now.start.now) c.loop-place-test.true i) [
      | inl j ↦ inl j
      | inr e ↦ inr (ap (λ (p : ℕ × List ℕ). p.0) (e ∙ sym c.place-item.is), ap (λ (p : ℕ × List ℕ). p.1) (e ∙ sym c.place-item.is))
    ])

pub returns : goal.returns
returns c =
    reached_first c.args.self.now.ways.now.c.now c.args.self.now.ways.now.d.now c.loop-place.best c.requires.ways.simplices c.requires.ways.complex (c.loop-place.invariant.map (λ m e. cc))
    (λ n g. c.loop-place.invariant.reached n g (subst (λ l. In (image_of n (slice_index_or c.args.self.now.start.now 0 0), relabelled n c.args.self.now.start.now) l) (sym (take_all c.loop-place.place-index c.deref-place-items.result.now c.loop-place-test.false))
    (subst (λ (l : List (ℕ × List ℕ)). In (image_of n (slice_index_or c.args.self.now.start.now 0 0), relabelled n c.args.self.now.start.now) l) (sym c.deref-place-items.ensures.value) (c.in_ok-places.ensures.all (image_of n (slice_index_or c.args.self.now.start.now 0 0)) (relabelled n c.args.self.now.start.now)
    (subst (λ l. In (relabelled n c.args.self.now.start.now) l) (sym c.as_slice.ensures.value) (facet_carried c.args.self.now.ways.now.c.now c.args.self.now.ways.now.d.now n c.args.self.now.start.now c.requires.ways.simplices c.requires.ways.complex g c.requires.ready.facet))
    (in_relabelled n c.args.self.now.start.now (slice_index_or c.args.self.now.start.now 0 0) (in_place c.args.self.now.start.now 0 0 c.requires.ready.some))))))
