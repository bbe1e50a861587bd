-- Two steps of a stream are one.
use Rattle.std.proofs.Common.{◌≡◌, ℕ, ◌+◌, ◌≤◌, inl, inr, List, ◌++◌, length, take, drop, Option, None, Some, Result, Ok, Err, sym, ap, ◌∙◌, subst, arith, append-nil, length-append}
use Rattle.std.proofs.lemmas.List.{take-take}
use Rattle.std.proofs.Math.Seq.{take-add}
use Rattle.std.specs.Prelude.{IfSome}
use Rattle.run_ends.specs.Counts.{Rose}
use Rattle.run_ends.specs.Ends.{AtEnd, Loses}
use Rattle.run_ends.proofs.EndLaws.{loses_twice}
use Rattle.script_shell.specs.Streams.{Gave}

-- a front, and then a part of the rest
pub two_fronts : (text : List ℕ) (at n m : ℕ) → n ≤ m → take at text ++ take n (take m (drop at text)) ≡ take (at + n) text
two_fronts text at n m h = ap (λ xs. take at text ++ xs) (take-take n m (drop at text) h) ∙ sym (take-add at n text)

-- a count that rose from a later value rose from an earlier one
pub rose_before : (a b c : ℕ) → a ≤ b → Rose b c → Rose a c
rose_before a b c h (inl l) = inl (omega arith)
rose_before a b c h (inr e) = inr e

-- what was given before, and what was given then
pub gave_after : (a b c : Option (List ℕ)) (xs : List ℕ) (m n k : ℕ) → Loses a b xs → n ≡ m + length xs → ((bytes : List ℕ) × Gave b c n k bytes) → (bytes : List ℕ) × Gave a c m k bytes
gave_after a b c xs m n k h e g = (xs ++ g.0, record { lost = loses_twice a b c xs g.0 h g.1.lost; count = omega (arith, g.1.count, e, length-append xs g.0) })

-- what holds of all that was given holds of all that was left, where it is told
pub if_told : (a b : Option (List ℕ)) (bs : List ℕ) (P : List ℕ → Type 0) → Loses a b bs → AtEnd b → P bs → IfSome a P
if_told None b bs P h e p = tt
if_told (Some xs) None bs P h e p = elim h [ ]
if_told (Some xs) (Some ys) bs P h e p = subst P (sym (h ∙ ap (λ z. bs ++ z) e ∙ append-nil bs)) p

-- an answer is no error
pub ok_no_err : {T E : Type 0} (x : T) (e : E) → ◌≡◌ {A = Result T E} (Ok x) (Err e) → ⊥
ok_no_err x e h = cc
