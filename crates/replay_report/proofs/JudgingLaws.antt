-- What is said of a certificate.
use Rattle.std.proofs.Common.{◌≡◌, ℕ, ◌⊎◌, inl, inr, true, false, Option, Some, None, refl, sym, ap, ◌∙◌}
use Rattle.std.specs.Option.{is_none}
use Rattle.flip_certificate.specs.declared.certificate.Certificate.{Certificate}
use Rattle.flip_certificate.specs.Count.{flip_count}
use Rattle.flip_certificate.specs.Lines.{kind_of}
use Rattle.flip_certificate.specs.Valid.{is_valid, first_fault}
use Rattle.flip_certificate.proofs.ValidLaws.{valid_is}
use Rattle.cert_replay.specs.declared.replay_fault.ReplayFault.{ReplayFault}
use Rattle.cert_replay.specs.declared.replay_fault.ReplayFault.TheVariants.{Memory}
use Rattle.cert_replay.specs.Faults.{replay_faults}
use Rattle.flip_certificate.specs.Laws.{ReadsTheSpelled}
use Rattle.replay_report.specs.Laws.{ValidIsAccepted}
use Rattle.replay_report.specs.Report.{judged, is_good, accepted_text, refused_text}

-- a valid certificate has no fault
pub accepted_is : (c : Certificate) (n : ℕ) → is_valid c ≡ true → n ≡ flip_count c
    → accepted_text (kind_of c) n ≡ judged c (first_fault replay_faults c)
accepted_is c n v e = ap (accepted_text (kind_of c)) e ∙ ap (judged c) (sym (none_of (first_fault replay_faults c) (sym (valid_is replay_faults c) ∙ v)))
  where
    none_of : (o : Option ReplayFault) → is_none o ≡ true → o ≡ None
    none_of None h = refl
    none_of (Some f) h = cc

-- one with a fault is not valid
pub refused_is : (c : Certificate) (f : ReplayFault) → first_fault replay_faults c ≡ Some f → refused_text f ≡ judged c (first_fault replay_faults c)
refused_is c f e = ap (judged c) (sym e)

pub its_fault : (o : Option ReplayFault) (f : ReplayFault) → ((f ≡ Memory) ⊎ (o ≡ Some f)) → (f ≡ Memory → ⊥) → o ≡ Some f
its_fault o f (inl e) h = absurd (h e)
its_fault o f (inr e) h = e

pub fault_is : (c : Certificate) (f : ReplayFault) → first_fault replay_faults c ≡ Some f → false ≡ is_valid c
fault_is c f e = sym (valid_is replay_faults c ∙ ap is_none e)

-- where a certificate is read exactly where it is spelled, a valid one is accepted
pub valid_accepted : ReadsTheSpelled → ValidIsAccepted
valid_accepted law c part s v = ap is_good ((law part c).1 s) ∙ v
