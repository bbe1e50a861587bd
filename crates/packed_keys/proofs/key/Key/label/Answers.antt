use Rattle.std.proofs.Common.{arith}
use Rattle.packed_keys.proofs.WordLaws.{seen}
use Rattle.packed_keys.proofs.UnpackLaws.{read_first, read_second, read_third, read_last}
use Rattle.packed_keys.proofs.key.Key.label.Goals as goal
use Rattle.packed_keys.proofs.key.Key.label.Goals.{in-0, in-1, in-2, in_default}

pub returns : goal.returns
returns c =
    let p = seen _ _ _ _ _ c.self.invariant c.self.view_is in
    elim c.match-k-div3.branch [
      | in-0 w ↦ read_first _ _ _ _ _ _ _ _ p c.requires c.label_in.ensures w.in-0.is w.word-is
      | in-1 w ↦ read_second _ _ _ _ _ _ _ _ p c.requires c.label_in.ensures w.in-1.is w.word-is
      | in-2 w ↦ read_third _ _ _ _ _ _ _ _ p c.requires c.label_in.ensures w.in-2.is w.word-is
      | in_default w ↦ read_last _ _ _ _ _ _ _ _ p c.requires c.label_in.ensures (λ e. omega arith) (λ e. omega arith) (λ e. omega arith) w.word-is
    ]
