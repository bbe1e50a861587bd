-- What the tests of the verdicts say where none fails.
use Rattle.std.proofs.Common.{◌≡◌, ℕ, ◌+◌, ◌*◌, ◌^◌, ◌≤◌, Bool, true, false, ◌&&◌, List, [], ◌∷◌, length, refl, arith, leb, ltb, None}
use Rattle.std.specs.Prelude.{◌==◌}
use Rattle.std.specs.List.{list_all}
use Rattle.std.proofs.lemmas.Bool.Decides.{nat_tests}
use Rattle.simplex.specs.FirstFailing.{first_failing}
use Rattle.simplex.specs.Simplex.{label_limit}
use Rattle.simplex.proofs.InOrderLaws.{and_left, and_right, and_both}
use Rattle.simplex.proofs.Decided.{equal_at}
use Rattle.facet_set.specs.Complex.{verts}
use Rattle.facet_set.specs.Numbers.{is_pure, size, weight_limit}
use Rattle.annealer.specs.Budget.{is_in_budget, most_facets}
use Rattle.flip_certificate.specs.Lines.{is_start}
use Rattle.verdicts.specs.Ready.{IsReady}
use Rattle.verdicts.specs.Tests.{sphere_tests, equivalent_tests, manifold_tests, links_limit}

-- where none fails, all hold
all_hold : {F : Type 0} (ts : List (Bool × F)) → first_failing ts ≡ None → list_all (λ t. t.0) ts ≡ true
all_hold [] h = refl
all_hold ((true, f) ∷ ts) h = all_hold ts h
all_hold ((false, f) ∷ ts) h = cc

ready_from : (n : ℕ) (c : List (List ℕ)) (budget : ℕ) → is_start c ≡ true → is_pure c ≡ true → leb n (size c) ≡ true → is_in_budget c budget ≡ true → IsReady n c budget
ready_from n c budget start pure low room = record {
  start = start;
  pure = and_both _ _ pure low;
  room = labels (and_right (leb (most_facets c budget * 2 ^ size c) weight_limit) _ room);
}
  where
    labels : leb (length (verts c) + budget) label_limit ≡ true → length (verts c) + budget ≤ label_limit
    labels e = grind (arith, nat_tests)

ready_of : (n : ℕ) (c : List (List ℕ)) (budget : ℕ) (some rest : Bool) → is_start c ≡ true → (some && (is_pure c && (leb n (size c) && (is_in_budget c budget && rest)))) ≡ true → IsReady n c budget
ready_of n c budget some rest start h =
    let pure : (is_pure c && (leb n (size c) && (is_in_budget c budget && rest))) ≡ true = and_right some _ h in
    let low : (leb n (size c) && (is_in_budget c budget && rest)) ≡ true = and_right (is_pure c) _ pure in
    let room : (is_in_budget c budget && rest) ≡ true = and_right (leb n (size c)) _ low in
    ready_from n c budget start (and_left (is_pure c) _ pure) (and_left (leb n (size c)) _ low) (and_left (is_in_budget c budget) rest room)

pub sphere_ready : (c : List (List ℕ)) (budget : ℕ) → is_start c ≡ true → first_failing (sphere_tests c budget) ≡ None → IsReady 1 c budget
sphere_ready c budget start h = ready_of 1 c budget (ltb 0 (length c)) true start (all_hold (sphere_tests c budget) h)

pub manifold_ready : (c : List (List ℕ)) (budget : ℕ) → is_start c ≡ true → first_failing (manifold_tests c budget) ≡ None → IsReady 2 c budget
manifold_ready c budget start h = ready_of 2 c budget (ltb 0 (length c)) (leb (length (verts c) * budget) links_limit && true) start (all_hold (manifold_tests c budget) h)

each_holds : (p q r s t u v w x : Bool) → (p && (q && (r && (s && (t && (u && (v && (w && (x && true))))))))) ≡ true → (r ≡ true) × (s ≡ true) × (t ≡ true) × (u ≡ true) × (w ≡ true) × (x ≡ true) × (v ≡ true)
each_holds true true true true true true true true true h = (refl, refl, refl, refl, refl, refl, refl)
each_holds true true true true true true true true false h = cc
each_holds true true true true true true true false x h = cc
each_holds true true true true true true false w x h = cc
each_holds true true true true true false v w x h = cc
each_holds true true true true false u v w x h = cc
each_holds true true true false t u v w x h = cc
each_holds true true false s t u v w x h = cc
each_holds true false r s t u v w x h = cc
each_holds false q r s t u v w x h = cc

module _ (c d : List (List ℕ)) (budget : ℕ) (start_c : is_start c ≡ true) (start_d : is_start d ≡ true) (h : first_failing (equivalent_tests c d budget) ≡ None) where
  held : (is_pure c ≡ true) × (is_pure d ≡ true) × (leb 1 (size c) ≡ true) × (leb 1 (size d) ≡ true) × (is_in_budget c budget ≡ true) × (is_in_budget d budget ≡ true) × ((size c == size d) ≡ true)
  held =
      each_holds (ltb 0 (length c)) (ltb 0 (length d)) (is_pure c) (is_pure d) (leb 1 (size c)) (leb 1 (size d)) (size c == size d) (is_in_budget c budget) (is_in_budget d budget)
      (all_hold (equivalent_tests c d budget) h)

  pub first_ready : IsReady 1 c budget
  first_ready = ready_from 1 c budget start_c held.0 held.2 held.4

  pub second_ready : IsReady 1 d budget
  second_ready = ready_from 1 d budget start_d held.1 held.3 held.5

  pub sizes_alike : size c ≡ size d
  sizes_alike = equal_at (size c) (size d) held.6
