use Rattle.std.proofs.Common.{◌≡◌, ◌⊎◌, ℕ, inl, inr, false, Some, ◌∙◌, ap}
use Rattle.std.specs.Option.{is_none}
use Rattle.std.proofs.lemmas.Result.{err_from_is_err_and}
use Rattle.flip_certificate.proofs.ValidLaws.{valid_is}
use Rattle.flip_certificate.specs.Valid.{first_fault, is_valid}
use Rattle.flip_certificate.specs.declared.certificate.Certificate.{Certificate}
use Rattle.cert_replay.specs.Faults.{replay_faults}
use Rattle.cert_replay.specs.declared.replay_fault.ReplayFault.{ReplayFault}
use Rattle.cert_replay.specs.declared.replay_fault.ReplayFault.TheVariants as fault
use Rattle.cert_replay.proofs.replaying.replay.Goals as goal

pub returns-clause-valid : goal.returns-clause-valid
returns-clause-valid c = valid_is replay_faults c.args.c.now ∙ ap is_none c.in_ok-test.ensures.passed

-- a certificate with a fault is not valid
not_valid : (k : Certificate) (e : ReplayFault) → (e ≡ fault.Memory) ⊎ (first_fault replay_faults k ≡ Some e) → (e ≡ fault.Memory) ⊎ (is_valid k ≡ false)
not_valid k e (inl m) = inl m
not_valid k e (inr f) = inr (valid_is replay_faults k ∙ ap is_none f)

pub returns-in_err-test-clause-refused : goal.returns-in_err-test-clause-refused
returns-in_err-test-clause-refused c =
    let p = err_from_is_err_and c.from_residual.result c.from_residual.ensures.1 in
    rw (p.1, p.2) (not_valid c.args.c.now c.in_err-test.field-0.0 c.in_err-test.ensures.faults)
