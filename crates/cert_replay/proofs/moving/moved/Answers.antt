use Rattle.std.proofs.Common.{rules, ◌+◌, ◌<◌, ◌∙◌, length, ap, sym, inr}
use Rattle.flip_certificate.specs.Count.{stopped}
use Rattle.cert_replay.specs.declared.replay_fault.ReplayFault.TheVariants as fault
use Rattle.cert_replay.proofs.MovedLaws.{impure_stuck}
use Rattle.cert_replay.proofs.moving.moved.Goals as goal

pub returns-then-not-is_pure_from-clause-faults : goal.returns-then-not-is_pure_from-clause-faults
returns-then-not-is_pure_from-clause-faults c =
    let some : 0 < length c.args.flips.now = search rules in
    let r = impure_stuck c.args.start.now c.args.flips.now some (sym c.is_pure_from.ensures ∙ c.if-not-is_pure_from.true) in
    inr (r.0, ap fault.Flip (c.number.ensures ∙ ap (λ n. stopped (c.args.before + n + 1)) (sym r.1)))
