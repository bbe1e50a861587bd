use Rattle.std.proofs.Common.{◌≡◌, ◌++◌, map}
use Rattle.cert_replay.proofs.corners.facets_in.Given as goal

-- the facets so far and those of the corners that are left are all
abbrev pub invariant-loop-corner : goal.invariant-loop-corner
invariant-loop-corner l = l.facets.items ++ map (λ p. p.1) l.corner-iterator ≡ map (λ p. p.1) l.fn.corners
