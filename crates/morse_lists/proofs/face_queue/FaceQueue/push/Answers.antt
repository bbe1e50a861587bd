use Rattle.std.proofs.Common.{◌≡◌, ℕ, List, subst}
use Rattle.std.specs.Prelude.{◌↔◌, ◌⊎◌}
use Rattle.std.specs.BinaryHeap.{heap_items}
use Rattle.simplex.specs.Members.{In}
use Rattle.morse_lists.specs.Queues.{faces_in}
use Rattle.morse_lists.proofs.QueueLaws.{sizes_more, faces_more}
use Rattle.morse_lists.proofs.face_queue.FaceQueue.push.Goals as goal

pub invariant_of-self-2 : goal.invariant_of-self-2
invariant_of-self-2 c = record {
  order = c.in_ok-push.ensures.heap_order c.self.invariant.order;
  sizes = sizes_more _ (heap_items c.self.inside.heap) (heap_items c.push.new.self) c.in_ok-push.ensures.permutation c.len.ensures.value c.self.invariant.sizes;
}

pub returns : goal.returns
returns c =
    subst (λ old. (t : List ℕ) → In t (faces_in (heap_items c.push.new.self)) ↔ ((t ≡ c.args.s.now) ⊎ In t old)) c.self.view_is
    (λ t. faces_more _ (heap_items c.self.inside.heap) (heap_items c.push.new.self) c.in_ok-push.ensures.permutation t)
