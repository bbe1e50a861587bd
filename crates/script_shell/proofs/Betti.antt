-- The limit on the numbers of faces.
use Rattle.std.proofs.Common.{◌≡◌, ℕ, zero, suc, ◌+◌, ◌⊎◌, inl, inr, Bool, true, false, ◌&&◌, cond, leb, [], ◌∷◌, map, Option, Some, None, refl, sym, ap, ◌∙◌}
use Rattle.std.specs.List.{list_all, range_with_len}
use Rattle.std.specs.Option.{is_some}
use Rattle.std.specs.Prelude.{nat_le, not}
use Rattle.simplex.specs.FirstFailing.{first_failing}
use Rattle.facet_set.specs.Numbers.{face_count, f_vector, size}
use Rattle.gf2_rank.specs.Matrix.{side_limit}
use Rattle.betti_tables.specs.Limits.{limit_test, limit_fault}
use Rattle.betti_tables.specs.declared.betti_fault.BettiFault.{BettiFault}
use Rattle.betti_tables.specs.declared.betti_fault.BettiFault.TheVariants as fault
use Rattle.conditions.specs.declared.condition.Condition.TheVariants as condition
use Rattle.shell_names.specs.State.{Complex}
use Rattle.script_shell.specs.Stops.{StopsAt, betti_stop}

-- whether each number of faces is within the limit
abbrev pub are_few : Complex → Bool
are_few c = list_all (λ n. nat_le n side_limit) (f_vector c)

few_from : (c : Complex) (a m : ℕ) → not (is_some (first_failing (map (limit_test c) (range_with_len a m)))) ≡ list_all (λ n. nat_le n side_limit) (map (face_count c) (range_with_len (a + 1) m))
few_from c a zero = refl
few_from c a (suc m) =
    elim (leb (face_count c (a + 1)) side_limit) as
    (λ v. not (is_some (cond v (first_failing (map (limit_test c) (range_with_len (a + 1) m))) (Some (fault.RankLimit a)))) ≡ (v && list_all (λ n. nat_le n side_limit) (map (face_count c) (range_with_len (a + 1 + 1) m)))) [
      | true ↦ few_from c (a + 1) m
      | false ↦ refl
    ]

few_is : (c : Complex) → not (is_some (limit_fault c)) ≡ are_few c
unfolding limit_fault
few_is c = few_from c 0 (size c)

-- with no fault each number of faces is within the limit
pub few_passes : (c : Complex) → limit_fault c ≡ None → first_failing ((are_few c, condition.RankLimit) ∷ []) ≡ None
few_passes c h =
    ap (λ b. cond b None (Some condition.RankLimit)) (sym (few_is c) ∙ ap (λ (o : Option BettiFault). not (is_some o)) h)

few_fails : (c : Complex) (e : BettiFault) → limit_fault c ≡ Some e → first_failing ((are_few c, condition.RankLimit) ∷ []) ≡ Some condition.RankLimit
few_fails c e h =
    ap (λ b. cond b None (Some condition.RankLimit)) (sym (few_is c) ∙ ap (λ (o : Option BettiFault). not (is_some o)) h)

pub few_stops : (c : Complex) (e : BettiFault) → (e ≡ fault.Memory) ⊎ (limit_fault c ≡ Some e) → StopsAt (betti_stop e) (first_failing ((are_few c, condition.RankLimit) ∷ []))
few_stops c (fault.RankLimit k) (inl h) = cc
few_stops c (fault.RankLimit k) (inr h) = few_fails c (fault.RankLimit k) h
few_stops c fault.Memory h = tt
