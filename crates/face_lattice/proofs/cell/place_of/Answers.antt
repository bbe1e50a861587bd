use Rattle.std.proofs.Common.{◌≡◌, ℕ, ◌≤◌, ◌+◌, List, length, Result, Ok, Err, IfErr, rules, sym, ap, ◌∙◌}
use Rattle.std.specs.Ordering.{nat_cmp}
use Rattle.std.specs.List.{insert}
use Rattle.std.proofs.lemmas.List.Edits.{length-insert}
use Rattle.simplex.specs.InOrder.{put}
use Rattle.face_lattice.proofs.PutLaws.{placed_at, found_at, rising_still}
use Rattle.std.specs.Prelude.{◌==◌, not}
use Rattle.simplex.proofs.SimplexLaws.{is_increasing-filter}
use Rattle.face_lattice.proofs.LossLaws.{below_at, taken_at, absent_at}
use Rattle.face_lattice.proofs.cell.place_of.Goals as goal

longer_at : (xs : List ℕ) (x : ℕ) (r : Result ℕ ℕ) → IfErr r (λ k. k ≤ length xs) → IfErr r (λ k. insert xs k x ≡ put nat_cmp x xs) → IfErr r (λ _. length (put nat_cmp x xs) ≡ length xs + 1)
longer_at xs x (Ok k) h e = tt
longer_at xs x (Err k) h e = ap length (sym e) ∙ length-insert xs k x h

pub returns-clause-here : goal.returns-clause-here
returns-clause-here c = placed_at c.args.up.now c.args.label c.binary_search.result c.requires c.binary_search.ensures.position

pub returns-clause-longer : goal.returns-clause-longer
returns-clause-longer c =
    longer_at c.args.up.now c.args.label c.binary_search.result (search rules) (placed_at c.args.up.now c.args.label c.binary_search.result c.requires c.binary_search.ensures.position)

pub returns-clause-found : goal.returns-clause-found
returns-clause-found c = found_at c.args.up.now c.args.label c.binary_search.result c.requires c.binary_search.ensures.position

pub returns-clause-rising : goal.returns-clause-rising
returns-clause-rising c = rising_still c.args.up.now c.args.label c.requires

pub returns-clause-below : goal.returns-clause-below
returns-clause-below c = below_at c.args.up.now c.args.label c.binary_search.result c.requires c.binary_search.ensures.position

pub returns-clause-taken : goal.returns-clause-taken
returns-clause-taken c = taken_at c.args.up.now c.args.label c.binary_search.result c.requires c.binary_search.ensures.position

pub returns-clause-absent : goal.returns-clause-absent
returns-clause-absent c = absent_at c.args.up.now c.args.label c.binary_search.result c.requires c.binary_search.ensures.position

pub returns-clause-fewer : goal.returns-clause-fewer
returns-clause-fewer c = is_increasing-filter nat_cmp (λ b. not (c.args.label == b)) c.args.up.now c.requires
