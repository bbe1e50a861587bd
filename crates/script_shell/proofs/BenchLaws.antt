-- In a bench nothing is refused: its bounds keep each condition of its three commands.
use Rattle.std.proofs.Common.{◌≡◌, ℕ, ◌+◌, Bool, true, false, cond, not, ◌&&◌, ◌||◌, List, [], ◌∷◌, refl, sym, ap, ◌∙◌, arith, Option, Some, None}
use Rattle.std.specs.Prelude.{codes, is_some, nat_le}
use Rattle.std.proofs.lemmas.Bool.{le-leb}
use Rattle.simplex.specs.Simplex.{label_limit, len_limit}
use Rattle.facet_set.specs.Numbers.{is_pure, size, weight, weight_limit}
use Rattle.annealer.specs.Budget.{is_in_budget}
use Rattle.constructions.specs.Stacked.{stacked}
use Rattle.plain_text.specs.Bytes.{number_of, is_text}
use Rattle.script_text.specs.Reading.{command_of}
use Rattle.script_text.specs.Tokens.{is_blank}
use Rattle.script_text.specs.declared.command.Command.{Command}
use Rattle.script_text.specs.declared.command.Command.TheVariants as command
use Rattle.script_text.specs.declared.command.Maker.TheVariants as maker
use Rattle.script_text.specs.declared.command.Question.TheVariants as question
use Rattle.conditions.specs.declared.condition.Condition.{Condition}
use Rattle.conditions.specs.declared.condition.Condition.TheVariants as condition
use Rattle.shell_names.specs.State.{State, named, total_weight}
use Rattle.script_shell.specs.Bench.{is_within}
use Rattle.script_shell.specs.Commands.{failed, meaning}
use Rattle.script_shell.specs.Laws.{BenchRefusesNothing}
use Rattle.script_shell.specs.Limits.{standard}
use Rattle.script_shell.specs.Output.{bench_form, form_of}
use Rattle.script_shell.specs.Transcript.{Run, after_piece, is_refused_in, is_refusing, piece_refuses, refuses, start, state_in}
use Rattle.script_shell.specs.declared.words.Form.TheVariants as form
use Rattle.script_shell.proofs.BenchReading.{IsSpelled, asked, asked_is, decided, decided_is, made, made_is, script_cut, spelled}
use Rattle.script_shell.proofs.BenchStack.{IsBench, bench_is, budget_passes, dim_passes, labels_pass, len_passes, pure_sphere, size_passes, some_facet, weight_within}

-- ---- the numbers of the form
-- they are spelled as they were read, and are within the bounds
pub record IsAsked (d n seed : ℕ) : Type 0 where
  pub dim : IsSpelled d
  pub flips : IsSpelled n
  pub word : IsSpelled seed
  pub bench : IsBench d n

of_numbers : (a b c : List ℕ) (d n seed : ℕ) → bench_form (number_of a) (number_of b) (number_of c) ≡ form.Bench d n seed → IsAsked d n seed
of_numbers a b c d n seed h = by (number_of a) (number_of b) (number_of c) refl refl refl h
  where
    by : (o p q : Option ℕ) → number_of a ≡ o → number_of b ≡ p → number_of c ≡ q → bench_form o p q ≡ form.Bench d n seed → IsAsked d n seed
    by None p q e f g h = absurd (cc)
    by (Some x) None q e f g h = absurd (cc)
    by (Some x) (Some y) None e f g h = absurd (cc)
    by (Some x) (Some y) (Some z) e f g h = within (is_within x y) refl h
      where
        within : (v : Bool) → is_within x y ≡ v → cond v (form.Bench x y z) form.NoForm ≡ form.Bench d n seed → IsAsked d n seed
        within false k i = absurd (cc)
        within true k i =
            let first : x ≡ d = cc in
            let second : y ≡ n = cc in
            let third : z ≡ seed = cc in
            record {
              dim = spelled a d (e ∙ ap Some first);
              flips = spelled b n (f ∙ ap Some second);
              word = spelled c seed (g ∙ ap Some third);
              bench = bench_is d n (ap (λ u. is_within u n) (sym first) ∙ ap (is_within x) (sym second) ∙ k);
            }

of_form : (words : List (List ℕ)) (d n seed : ℕ) → form_of words ≡ form.Bench d n seed → IsAsked d n seed
of_form [] d n seed h = absurd (cc)
of_form (w ∷ []) d n seed h = absurd (one (is_text w (codes "run")) (is_text w (codes "replay")) h)
  where
    one : (u v : Bool) → cond u form.Run (cond v form.Replay form.NoForm) ≡ form.Bench d n seed → ⊥
    one true v e = cc
    one false true e = cc
    one false false e = cc
of_form (w ∷ a ∷ []) d n seed h = absurd (cc)
of_form (w ∷ a ∷ b ∷ []) d n seed h = absurd (cc)
of_form (w ∷ a ∷ b ∷ c ∷ []) d n seed h = four (is_text w (codes "bench")) h
  where
    four : (v : Bool) → cond v (bench_form (number_of a) (number_of b) (number_of c)) form.NoForm ≡ form.Bench d n seed → IsAsked d n seed
    four true e = of_numbers a b c d n seed e
    four false e = absurd (cc)
of_form (w ∷ a ∷ b ∷ c ∷ e ∷ ws) d n seed h = absurd (cc)

-- ---- a piece that is a command with no condition that fails
and_false : (b : Bool) → (b && false) ≡ false
and_false true = refl
and_false false = refl

state_is : (s : State) (p : List ℕ) (k : Command) → command_of p ≡ Some k → failed standard s k ≡ None → state_in s (command_of p) ≡ (meaning standard s k).after
state_is s p k e f = ap (state_in s) e ∙ ap state_by f
  where
    state_by : Option Condition → State
    state_by None = (meaning standard s k).after
    state_by (Some c) = s

-- the piece is not refused, and what follows goes on from the state after it
passed : (r : Run) (p rest : List ℕ) (ps : List (List ℕ)) (k : Command) → is_blank p ≡ false → command_of p ≡ Some k → failed standard r.state k ≡ None
    → refuses r (p ∷ ps) rest ≡ refuses (record { count = r.count + 1; state = (meaning standard r.state k).after }) ps rest
passed r p rest ps k blank e f =
    let kept : piece_refuses r p ≡ false = ap (λ v. not (is_blank p) && v) (ap (is_refused_in r.state) e ∙ ap is_some f) ∙ and_false (not (is_blank p)) in
    ap (λ v. v || refuses (after_piece r p) ps rest) kept
    ∙ ap (λ v. refuses (cond v r (record { count = r.count + 1; state = state_in r.state (command_of p) })) ps rest) blank
    ∙ ap (λ s. refuses (record { count = r.count + 1; state = s }) ps rest) (state_is r.state p k e f)

-- ---- the three commands
weight_passes : (d n seed : ℕ) → IsBench d n → nat_le (total_weight (named (codes "X") (stacked d n seed) ∷ [])) weight_limit ≡ true
weight_passes d n seed b = let h = weight_within d n seed b in le-leb (0 + weight (stacked d n seed)) weight_limit (omega (arith, h))

made_passes : (d n seed : ℕ) → IsBench d n → failed standard [] (command.Make (codes "X") (maker.Stacked d n seed)) ≡ None
made_passes d n seed b =
    let last = cond (nat_le (total_weight (named (codes "X") (stacked d n seed) ∷ [])) weight_limit) None (Some condition.SizeLimit) in
    let third = cond (nat_le (d + 2 + n) label_limit) last (Some condition.LabelRange) in
    let second = cond (nat_le (d + 1) len_limit) third (Some condition.DimLimit) in
    ap (λ v. cond v second (Some condition.Range)) (dim_passes d n seed b)
    ∙ ap (λ v. cond v third (Some condition.DimLimit)) (len_passes d n seed b)
    ∙ ap (λ v. cond v last (Some condition.LabelRange)) (labels_pass d n seed b)
    ∙ ap (λ v. cond v None (Some condition.SizeLimit)) (weight_passes d n seed b)

decided_passes : (d n seed : ℕ) → IsBench d n → failed standard (named (codes "X") (stacked d n seed) ∷ []) (command.Sphere (codes "X") n seed) ≡ None
decided_passes d n seed b =
    let c = stacked d n seed in
    let last = cond (is_in_budget c n) None (Some condition.Budget) in
    let third = cond (nat_le 1 (size c)) last (Some condition.DimRange) in
    let second = cond (is_pure c) third (Some condition.NotPure) in
    ap (λ v. cond v second (Some condition.Void)) (some_facet d n seed b)
    ∙ ap (λ v. cond v third (Some condition.NotPure)) (pure_sphere d n seed b)
    ∙ ap (λ v. cond v last (Some condition.DimRange)) (size_passes d n seed b)
    ∙ ap (λ v. cond v None (Some condition.Budget)) (budget_passes d n seed b)

three_pass : (d n seed : ℕ) → IsAsked d n seed → refuses start (made d n seed ∷ asked ∷ decided n seed ∷ []) [] ≡ false
three_pass d n seed a =
    let s : State = named (codes "X") (stacked d n seed) ∷ [] in
    passed start (made d n seed) [] (asked ∷ decided n seed ∷ []) (command.Make (codes "X") (maker.Stacked d n seed)) refl (made_is d n seed a.dim a.flips a.word) (made_passes d n seed a.bench)
    ∙ passed (record { count = 1; state = s }) asked [] (decided n seed ∷ []) (command.Ask (codes "X") question.Fvec) refl asked_is refl
    ∙ passed (record { count = 2; state = s }) (decided n seed) [] [] (command.Sphere (codes "X") n seed) refl (decided_is n seed a.flips a.word) (decided_passes d n seed a.bench)

pub nothing_refused : BenchRefusesNothing
unfolding is_refusing
nothing_refused words d n seed h =
    let a = of_form words d n seed h in
    ap (λ ps. refuses start ps.ended ps.rest) (script_cut d n seed a.dim a.flips a.word) ∙ three_pass d n seed a
