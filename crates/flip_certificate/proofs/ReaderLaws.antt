-- The reader goes through the lines as the definition does, and what it answers.
use Rattle.std.proofs.Common.{◌≡◌, ℕ, ◌+◌, List, ◌∷◌, refl, sym, ap, ◌∙◌, subst, Option, Some, None, Result, Ok, Err, ◌⊎◌, inl, inr}
use Rattle.std.specs.Prelude.{IfOk, IfErr}
use Rattle.flip_certificate.specs.declared.certificate.Certificate.{Certificate}
use Rattle.flip_certificate.specs.declared.cert_fault.CertFault.{CertFault}
use Rattle.flip_certificate.specs.declared.cert_fault.CertFault.TheVariants as fault
use Rattle.flip_certificate.specs.declared.draft.Draft.{Draft}
use Rattle.flip_certificate.specs.declared.draft.Draft.TheVariants as draft
use Rattle.flip_certificate.specs.Lines.{Spells, IsFormLine}
use Rattle.flip_certificate.specs.Reading.{lines_in, read_on, reading, reading_from, stepped}
use Rattle.flip_certificate.proofs.ReadingLaws.{read_form, read_spelled, some_piece, spelled_read}

pub begun : (bytes : List ℕ) → reading_from 1 draft.Begun (lines_in bytes) ≡ reading bytes
unfolding reading
begun bytes = refl

module _ (k : ℕ) (d : Draft) (rest line : List ℕ) where
  -- one line further
  pub one_line : (behind : List ℕ) (o : Option Draft) → lines_in rest ≡ line ∷ lines_in behind → o ≡ stepped d line → reading_from k d (lines_in rest) ≡ read_on k o (λ e. reading_from (k + 1) e (lines_in behind))
  one_line behind o h g =
      let p = some_piece behind in
      ap (reading_from k d) (h ∙ ap (λ ls. line ∷ ls) p.2) ∙ ap (λ s. read_on k s (λ e. reading_from (k + 1) e (p.0 ∷ p.1))) (sym g)
      ∙ ap (λ ls. read_on k o (λ e. reading_from (k + 1) e ls)) (sym p.2)

  module _ (bytes : List ℕ) (same : reading_from k d (lines_in rest) ≡ reading bytes) where
    pub goes_on : (behind : List ℕ) (e : Draft) → lines_in rest ≡ line ∷ lines_in behind → Some e ≡ stepped d line → reading_from (k + 1) e (lines_in behind) ≡ reading bytes
    goes_on behind e h g = sym (one_line behind (Some e) h g) ∙ same

    pub stops : (behind : List ℕ) → lines_in rest ≡ line ∷ lines_in behind → None ≡ stepped d line → reading bytes ≡ Err k
    stops behind h g = sym same ∙ one_line behind None h g

-- what the answer says of the bytes, where it is what the definition says
module _ (bytes : List ℕ) where
  pub spelled_clause : (r : Result Certificate CertFault) → IfOk r (λ c. reading bytes ≡ Ok c) → IfOk r (λ c. Spells c bytes)
  spelled_clause (Ok c) h = read_spelled bytes c h
  spelled_clause (Err e) h = tt

  form_is : {k l : ℕ} → fault.Form k ≡ fault.Form l → k ≡ l
  form_is e = cc

  memory_form : {e : CertFault} {l : ℕ} → e ≡ fault.Memory → e ≡ fault.Form l → ⊥
  memory_form f g = cc

  ok_err : {c : Certificate} {l : ℕ} {r : Result Certificate ℕ} → r ≡ Ok c → r ≡ Err l → ⊥
  ok_err f g = cc

  pub form_clause : (r : Result Certificate CertFault) → IfErr r (λ e. (e ≡ fault.Memory) ⊎ ((line : ℕ) × (e ≡ fault.Form line) × (reading bytes ≡ Err line))) → IfErr r (λ e. (line : ℕ) → e ≡ fault.Form line → IsFormLine bytes line)
  form_clause (Ok c) h = tt
  form_clause (Err e) (inl m) = λ line f. absurd (memory_form m f)
  form_clause (Err e) (inr h) = λ line f. subst (IsFormLine bytes) (form_is (sym h.1 ∙ f)) (read_form bytes h.0 h.2)

  pub none_clause : (r : Result Certificate CertFault) → IfErr r (λ e. (e ≡ fault.Memory) ⊎ ((line : ℕ) × (e ≡ fault.Form line) × (reading bytes ≡ Err line))) → IfErr r (λ e. (e ≡ fault.Memory) ⊎ ((c : Certificate) → Spells c bytes → ⊥))
  none_clause (Ok c) h = tt
  none_clause (Err e) (inl m) = inl m
  none_clause (Err e) (inr h) = inr (λ c s. ok_err (spelled_read c bytes s) h.2)
