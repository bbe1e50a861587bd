-- The undecided replies of the pieces of a script, one piece after another.
use Rattle.std.proofs.Common.{◌≡◌, ℕ, ◌+◌, false, List, [], take, drop, sym, subst}
use Rattle.script_shell.specs.InVain.{AreInVain, PieceInVain}
use Rattle.script_shell.specs.Transcript.{Run, Pieces, after_piece, before_others, cut_from}

-- what holds of the first piece and of those behind it holds of all
pub vain_next : (rest : List ℕ) (n : ℕ) (r q : Run) (X : Type 0) → cut_from false rest ≡ before_others (take n rest) (cut_from false (drop (n + 1) rest)) → q ≡ after_piece r (take n rest)
    → PieceInVain r (take n rest) → (AreInVain r (cut_from false rest).ended → X) → AreInVain q (cut_from false (drop (n + 1) rest)).ended → X
vain_next rest n r q X cut run here all h =
    all (subst (λ (ps : Pieces). AreInVain r ps.ended) (sym cut) (here, subst (λ (x : Run). AreInVain x (cut_from false (drop (n + 1) rest)).ended) run h))

pub vain_end : (rest : List ℕ) (r : Run) (X : Type 0) → cut_from false rest ≡ record { ended = []; rest = rest } → (AreInVain r (cut_from false rest).ended → X) → X
vain_end rest r X cut all = all (subst (λ (ps : Pieces). AreInVain r ps.ended) (sym cut) tt)
