use Rattle.std.proofs.Common.{◌≡◌, ◌∙◌, ℕ, take, length, length-take, min, ap, arith}
use Rattle.std.specs.Prelude.{nat_lt}
use Rattle.std.specs.Map.Iter.{TakesFirst, deref}
use Rattle.std.proofs.lemmas.Bool.Decides.{nat_tests}
use Rattle.std.proofs.lemmas.Iterator.{YieldsList-from_take}
use Rattle.std.proofs.lemmas.Iterator.Consumers.{YieldsList-from_shown, count_from_yields_List}
use Rattle.cert_replay.proofs.CornerLaws.{Corner, between_is}
use Rattle.cert_replay.proofs.corners.has_fewer.Goals as goal

counted_to : (n k bound : ℕ) → n ≡ min bound k → nat_lt n bound ≡ nat_lt k bound
counted_to n k bound e = grind (arith, nat_tests)

pub returns : goal.returns
returns c =
    let xs = c.take.result.iter in
    let count : c.count-count.result ≡ length (take c.args.bound xs) = count_from_yields_List c.take.result _ c.count-count.ensures.ran
    (YieldsList-from_take {s = c.take.result} c.args.bound (YieldsList-from_shown (TakesFirst (deref {X = Corner})) deref (λ s. s) (λ s t h. ap length h.0) (λ s x t h. h) xs) c.take.ensures.count) in
    counted_to c.count-count.result (length xs) c.args.bound (count ∙ length-take c.args.bound xs)
    ∙ ap (λ l. nat_lt (length l) c.args.bound) (c.take.ensures.source ∙ c.range.ensures.between tt ∙ between_is c.args.label c.args.corners.now.keys)
