-- What is kept of the options of a complex.
use Rattle.std.proofs.Common.{◌≡◌, ℕ, zero, suc, ◌+◌, ◌-◌, ◌≤◌, ◌<◌, true, false, cond, ◌&&◌, ◌⊎◌, inl, inr, List, [], ◌∷◌, ◌++◌, map, length, get_or, refl, sym, ap, ◌∙◌, subst, arith, Bool, Option, Some, None}
use Rattle.std.specs.Bool.{IsTrue}
use Rattle.std.specs.Prelude.{slice_get, ◌↔◌, nat_lt, option_map}
use Rattle.std.specs.Option.{IfSome, IsSome}
use Rattle.std.specs.List.{range_with_len, list_all, filter_map}
use Rattle.std.proofs.lemmas.Bool.Decides.{nat_tests}
use Rattle.std.proofs.lemmas.List.FromFn.{length-map-range_with_len, get_or-map-range_with_len, map-range_with_len_more}
use Rattle.std.proofs.lemmas.Option.{slice_get_past}
use Rattle.simplex.specs.declared.flip.Flip.{Flip}
use Rattle.simplex.specs.FirstFailing.{first_failing}
use Rattle.simplex.specs.Simplex.{is_simplex}
use Rattle.simplex.proofs.InOrderLaws.{and_left, and_right, and_both}
use Rattle.simplex.proofs.Members.{In, later, at_head}
use Rattle.simplex.proofs.Decided.{all_pass, no_some}
use Rattle.facet_set.specs.Complex.{is_complex}
use Rattle.facet_set.specs.Numbers.{size, is_pure}
use Rattle.facet_set.specs.Flips.{fresh, options, flip_parts}
use Rattle.facet_set.proofs.OptionLaws.{from_options}
use Rattle.flip_rules.specs.declared.candidate.Candidate.{Candidate}
use Rattle.flip_rules.specs.declared.flip_fault.FlipFault.TheVariants.{NotPure, Size, Overlap, Star, Present}
use Rattle.flip_rules.specs.Candidates.{candidates, open_flip}
use Rattle.flip_rules.specs.Tallies.{flip_of}
use Rattle.flip_rules.specs.Tests.{flip_tests}
use Rattle.flip_rules.proofs.ExchangeLaws.{none_impure, none_above, no_candidates_above, open_candidates_lem}
use Rattle.flip_rules.proofs.SubdivisionLaws.{subdivisions_are, no_subdivisions}
use Rattle.flip_table.specs.Kept.{candidate_lists, new_point}

-- ---- the lists of candidates

-- one more class
pub lists_more : (c : List (List ℕ)) (lists more : List (List Candidate)) (i : ℕ) (l : List Candidate) → lists ≡ map (λ k. candidates c (k + 1)) (range_with_len 0 i)
    → l ≡ candidates c (i + 1) → more ≡ lists ++ l ∷ [] → more ≡ map (λ k. candidates c (k + 1)) (range_with_len 0 (i + 1))
lists_more c lists more i l e f g = g ∙ (λ z. e z ++ f z ∷ []) ∙ sym (map-range_with_len_more (λ k. candidates c (k + 1)) 0 i i (omega arith))

list_count : (c : List (List ℕ)) (lists : List (List Candidate)) → lists ≡ candidate_lists c → length lists ≡ size c - 1
list_count c lists e = ap length e ∙ length-map-range_with_len (λ k. candidates c (k + 1)) 0 (size c - 1)

-- the list at a place is that of the class
pub list_at : (c : List (List ℕ)) (lists : List (List Candidate)) (i : ℕ) (l d : List Candidate) → lists ≡ candidate_lists c → 0 < i → i - 1 < length lists → l ≡ get_or lists (i - 1) d → l ≡ candidates c i
list_at c lists i l d e some h f =
    let len = list_count c lists e in
    f
    ∙ ap (λ ls. get_or ls (i - 1) d) e
    ∙ get_or-map-range_with_len (λ k. candidates c (k + 1)) 0 (size c - 1) (i - 1) (i - 1) d (omega arith) (omega arith)
    ∙ ap (candidates c) (omega arith)

-- and where there is no list, the class has no candidates
pub list_none : (c : List (List ℕ)) (lists : List (List Candidate)) (i : ℕ) → lists ≡ candidate_lists c → 0 < i → length lists ≤ i - 1 → [] ≡ candidates c i
list_none c lists i e some h = let len = list_count c lists e in no_candidates_above c i (omega arith)

-- ---- the options of a class that is not 0
pub open_length : (c : List (List ℕ)) (i n : ℕ) (l : List Candidate) → 0 < i → l ≡ candidates c i → n ≡ length (filter_map open_flip l) → n ≡ length (options c i)
open_length c i n l h e f = f ∙ ap (λ l. length (filter_map open_flip l)) e ∙ ap length (sym (open_candidates_lem c i h))

pub open_place : (c : List (List ℕ)) (i k : ℕ) (l : List Candidate) (o : Option Flip) → 0 < i → l ≡ candidates c i → o ≡ slice_get (filter_map open_flip l) k → o ≡ slice_get (options c i) k
open_place c i k l o h e f = f ∙ ap (λ l. slice_get (filter_map open_flip l) k) e ∙ ap (λ l. slice_get l k) (sym (open_candidates_lem c i h))

-- ---- the options of class 0
module _ (c : List (List ℕ)) where
  pub no_point : new_point c ≡ None → [] ≡ options c 0
  no_point e =
      elim (is_pure c) as (λ v. is_pure c ≡ v → [] ≡ options c 0) [
        | false ↦ λ h. none_impure c 0 h
        | true ↦ λ h. elim (nat_lt 0 (size c)) as (λ v. nat_lt 0 (size c) ≡ v → [] ≡ options c 0) [
          | false ↦ λ k. none_above c 0 (none_in (size c) k)
          | true ↦ λ k. elim (fresh c) as (λ o. fresh c ≡ o → [] ≡ options c 0) [
            | None ↦ λ f. no_subdivisions c f
            | Some x ↦ λ f. absurd (no_some (new_point c) e (subst IsSome (sym (ap (λ v. cond v (option_map (λ x. x ∷ []) (fresh c)) None) (and_both _ _ h k) ∙ ap (option_map (λ x. x ∷ [])) f)) refl))
          ] refl
        ] refl
      ] refl
    where
      none_in : (n : ℕ) → nat_lt 0 n ≡ false → n ≤ 0
      none_in n h = grind (arith, nat_tests)

  pub pointed : IsTrue (list_all is_simplex c) → IsTrue (is_complex c) → (b : List ℕ) → new_point c ≡ Some b → map (λ a. flip_of a b) c ≡ options c 0
  pointed simple cx b e =
      let g = given_some (is_pure c && nat_lt 0 (size c)) (option_map (λ x. x ∷ []) (fresh c)) b e in
      let r = mapped (fresh c) refl g.1 in
      ap (λ b. map (λ a. flip_of a b) c) (sym r.2) ∙ subdivisions_are c simple cx (and_left _ _ g.0) (some_in (size c) (and_right (is_pure c) _ g.0)) r.0 r.1
    where
      given_some : (v : Bool) (o : Option (List ℕ)) (b : List ℕ) → cond v o None ≡ Some b → (v ≡ true) × (o ≡ Some b)
      given_some true o b e = (refl, e)
      given_some false o b e = cc

      mapped : (o : Option ℕ) → fresh c ≡ o → option_map (λ x. x ∷ []) o ≡ Some b → (x : ℕ) × (fresh c ≡ Some x) × (x ∷ [] ≡ b)
      mapped None f e = cc
      mapped (Some x) f e = (x, f, cc)

      some_in : (n : ℕ) → nat_lt 0 n ≡ true → 0 < n
      some_in n h = grind (arith, nat_tests)

got : {X : Type 0} (xs : List X) (n : ℕ) (x : X) → slice_get xs n ≡ Some x → In x xs
got [] n x e = cc
got (y ∷ xs) zero x e = at_head x y xs cc
got (y ∷ xs) (suc n) x e = later (got xs n x e)

pub option_passes : (c : List (List ℕ)) (i k : ℕ) → IfSome (slice_get (options c i) k) (λ m. first_failing (flip_tests c m) ≡ None)
option_passes c i k = by (slice_get (options c i) k) refl
  where
    by : (o : Option Flip) → slice_get (options c i) k ≡ o → IfSome o (λ m. first_failing (flip_tests c m) ≡ None)
    by None e = tt
    by (Some m) e = all_pass (flip_parts c m.a m.b) (NotPure ∷ Size ∷ Overlap ∷ Star ∷ Present ∷ []) (from_options c i m (got (options c i) k m e)).0

-- there is no option at a place exactly where the complex is not pure or there are not so many
pub option_none : (c : List (List ℕ)) (i k : ℕ) → (slice_get (options c i) k ≡ None) ↔ ((is_pure c ≡ false) ⊎ (length (options c i) ≤ k))
option_none c i k = (there, back)
  where
    there : slice_get (options c i) k ≡ None → (is_pure c ≡ false) ⊎ (length (options c i) ≤ k)
    there e = inr (by (options c i) k e)
      where
        by : (xs : List Flip) (n : ℕ) → slice_get xs n ≡ None → length xs ≤ n
        by [] n e = omega arith
        by (x ∷ xs) zero e = cc
        by (x ∷ xs) (suc n) e = let r = by xs n e in omega arith

    back : (is_pure c ≡ false) ⊎ (length (options c i) ≤ k) → slice_get (options c i) k ≡ None
    back (inl h) = ap (λ xs. slice_get xs k) (sym (none_impure c i h))
    back (inr h) = slice_get_past (options c i) k h
