-- The sizes kept with the steps are those of the changes.
use Rattle.std.proofs.Common.{◌≡◌, ◌≤◌, ℕ, ◌+◌, List, [], ◌∷◌, refl, ap, ◌∙◌, arith}
use Rattle.std.proofs.lemmas.List.Sums.{sum_by-cons}
use Rattle.facet_set.specs.Change.{apart}
use Rattle.shell_names.specs.declared.trail.Step.{Step}
use Rattle.shell_names.specs.State.{Complex, Named, changes_along, journal_of, edited, undone, redone}
use Rattle.shell_names.specs.Limits.{journal_limit}
use Rattle.shell_names.specs.Steps.{complexes, sizes, AreMeasured, IsEntry}

-- a change has one size in both directions
pub apart_back : (c d : Complex) → apart c d ≡ apart d c
apart_back c d = omega arith

pub changes_measured : (c : Complex) (steps : List Step) → AreMeasured c steps → changes_along c (complexes steps) ≡ sizes steps
changes_measured c [] h = refl
changes_measured c (s ∷ steps) h =
    let e = sum_by-cons (λ (s : Step). s.size) s steps in
    let k = changes_measured s.complex steps h.1 in
    omega (arith, e, k, h.0)

-- the name with these steps
abbrev pub of_steps : List ℕ → List Step → Complex → List Step → Named
of_steps x past present future = record { name = x; past = complexes past; present = present; future = complexes future }

-- the sizes of all changes of a name, by the sums of its two sides
pub journal_sizes : (x : List ℕ) (past : List Step) (present : Complex) (future : List Step) (n : Named) → of_steps x past present future ≡ n → IsEntry present past future → journal_of n ≡ sizes past + sizes future
journal_sizes x past present future n e h =
    let a = changes_measured present past h.past_measured in
    let b = changes_measured present future h.future_measured in
    let k = ap journal_of e in
    omega (arith, a, b, k)

-- the same after an edit
pub edited_sizes : (x : List ℕ) (past : List Step) (present : Complex) (future : List Step) (n : Named) (c : Complex) → of_steps x past present future ≡ n → AreMeasured present past → journal_of (edited n c) ≡ apart present c + sizes past
edited_sizes x past present future n c e h =
    let a = changes_measured present past h in
    let k = ap (λ (m : Named). journal_of (edited m c)) e in
    omega (arith, a, k, apart_back c present)

-- the steps of a name after an edit
pub edited_entry : (present next : Complex) (past future : List Step) (size : ℕ) → IsEntry present past future → size ≡ apart present next → apart present next + sizes past ≤ journal_limit → IsEntry next (record { complex = present; size = size } ∷ past) []
edited_entry present next past future size h e few =
    let step : Step = record { complex = present; size = size } in
    let s = sum_by-cons (λ (s : Step). s.size) step past in
    record { past_measured = (e ∙ apart_back present next, h.past_measured); future_measured = tt; few = omega (arith, s, e, few) }

-- going one complex back or forth keeps the sizes of all changes
pub undone_journal : (n : Named) → journal_of (undone n) ≡ journal_of n
undone_journal n = by n.past refl
  where
    by : (past : List Complex) → n.past ≡ past → journal_of (undone n) ≡ journal_of n
    by [] e = rw e refl
    by (c ∷ past) e = let a = apart_back c n.present in rw e (omega (arith, a))

pub redone_journal : (n : Named) → journal_of (redone n) ≡ journal_of n
redone_journal n = by n.future refl
  where
    by : (future : List Complex) → n.future ≡ future → journal_of (redone n) ≡ journal_of n
    by [] e = rw e refl
    by (c ∷ future) e = let a = apart_back c n.present in rw e (omega (arith, a))
