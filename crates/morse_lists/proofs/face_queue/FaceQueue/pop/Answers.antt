use Rattle.std.proofs.Common.{◌≡◌, ℕ, List, ◌∷◌, subst}
use Rattle.std.specs.Prelude.{◌↔◌, ◌⊎◌}
use Rattle.std.specs.BinaryHeap.{heap_items}
use Rattle.simplex.specs.Members.{In, first}
use Rattle.morse_lists.specs.Queues.{faces_in, IsTakenFirst, Rank}
use Rattle.morse_lists.proofs.QueueLaws.{sizes_less, faces_less, moved_back, taken_first}
use Rattle.morse_lists.proofs.face_queue.FaceQueue.pop.Goals as goal

pub invariant_of-self-2 : goal.invariant_of-self-2
invariant_of-self-2 c =
    let r : Rank = (c.in_ok-s.field-0-0, c.in_ok-s.field-0-1) in
    record {
      order = (c.in_ok-s.ensures.heap_order c.self.invariant.order).0;
      sizes = sizes_less r (heap_items c.self.inside.heap) (heap_items c.pop.new.self) c.in_ok-s.ensures.permutation c.self.invariant.sizes;
    }

pub returns-clause-first : goal.returns-clause-first
returns-clause-first c =
    let r : Rank = (c.in_ok-s.field-0-0, c.in_ok-s.field-0-1) in
    let old = heap_items c.self.inside.heap in
    subst (IsTakenFirst r.1.0) c.self.view_is
    (taken_first r old (moved_back old (r ∷ heap_items c.pop.new.self) r c.in_ok-s.ensures.permutation first) c.self.invariant (c.in_ok-s.ensures.heap_order c.self.invariant.order).1)

pub returns-clause-members : goal.returns-clause-members
returns-clause-members c =
    let r : Rank = (c.in_ok-s.field-0-0, c.in_ok-s.field-0-1) in
    subst (λ old. (t : List ℕ) → In t old ↔ ((t ≡ r.1.0) ⊎ In t (faces_in (heap_items c.pop.new.self)))) c.self.view_is
    (λ t. faces_less r (heap_items c.self.inside.heap) (heap_items c.pop.new.self) c.in_ok-s.ensures.permutation t)
