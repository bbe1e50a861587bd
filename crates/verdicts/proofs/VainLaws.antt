-- An undecided verdict belongs to a walk that made its whole budget and met no simplex boundary.
use Rattle.std.proofs.Common.{◌≡◌, ℕ, zero, suc, ◌+◌, ◌≤◌, ◌<◌, Bool, true, false, not, cond, List, [], ◌∷◌, length, leb, refl, sym, ap, ◌∙◌, subst, ◌⊎◌, inl, inr, arith, Option, Some, None}
use mathlib.Core.Bool.{true≢false}
use Rattle.std.specs.Option.{IsSome}
use Rattle.std.specs.List.{list_all, find}
use Rattle.std.proofs.lemmas.Bool.Decides.{nat_tests}
use Rattle.simplex.specs.declared.flip.Flip.{Flip}
use Rattle.simplex.specs.FirstFailing.{first_failing}
use Rattle.simplex.specs.Simplex.{is_simplex, label_limit}
use Rattle.simplex.proofs.Decided.{no_some, not_true}
use Rattle.simplex.proofs.InOrderLaws.{and_left, and_right}
use Rattle.simplex.proofs.Members.{In, first, later}
use Rattle.facet_set.specs.Complex.{is_complex, verts}
use Rattle.facet_set.specs.Flips.{flip, is_simplex_boundary, after}
use Rattle.facet_set.specs.Numbers.{is_pure, size}
use Rattle.rand_pcg.specs.Lcg.{Lcg}
use Rattle.seeded_words.specs.Words.{after_word, generator, words, words_from}
use Rattle.annealer.specs.Walk.{flips_by, pick}
use Rattle.annealer.proofs.CourseLaws.{flips_next, flips_stop}
use Rattle.annealer.proofs.PickExists.{always_picks_lem}
use Rattle.relabelling.specs.Bijections.{first_map}
use Rattle.relabelling.proofs.BoundaryLaws.{boundaries_are_carried_lem}
use Rattle.flip_certificate.specs.Lines.{is_start}
use Rattle.flip_certificate.specs.Valid.{vertex_link}
use Rattle.flip_certificate.specs.declared.certificate.Certificate.TheVariants.{Sphere}
use Rattle.verdicts.specs.Laws.{SphereVain, EquivalentVain, ManifoldVain}
use Rattle.verdicts.specs.Ready.{IsReady}
use Rattle.verdicts.specs.Sound.{WalkedInVain, MetOrInVain, OneInVain, UndecidedInVain, CountedInVain}
use Rattle.verdicts.specs.Tests.{sphere_tests, equivalent_tests, manifold_tests}
use Rattle.verdicts.specs.Verdicts.{sphere_of, equivalent_of, equivalence_by, manifold_of, manifold_by, first_unmet, found, reached, meets}
use Rattle.verdicts.specs.declared.verdict.Verdict.{Verdict}
use Rattle.verdicts.specs.declared.verdict.Verdict.TheVariants.{Yes, Undecided}
use Rattle.verdicts.proofs.PickedFlips.{pick_goes, pick_flip}
use Rattle.verdicts.proofs.ReadyLaws.{sphere_ready, first_ready, second_ready, sizes_alike, manifold_ready}
use Rattle.verdicts.proofs.VertexLinks.{link_ready}
use Rattle.verdicts.proofs.WayLaws.{simple_next, complex_next, pure_next, size_next, verts_next, goal_met, goal_simple, goal_complex, goal_size}

-- ---- a walk that has not met

length-words : (n : ℕ) (g : Lcg) → length (words_from n g) ≡ n
length-words zero g = refl
length-words (suc n) g = ap suc (length-words n (after_word g))

-- while labels are left, it makes a flip for each word
unmet_makes : (c : List (List ℕ)) (heat : ℕ) (ws : List ℕ) → list_all is_simplex c ≡ true → is_complex c ≡ true → is_pure c ≡ true → 0 < size c → length (verts c) + length ws ≤ label_limit
    → is_simplex_boundary (after c (flips_by c heat ws)) ≡ false → length (flips_by c heat ws) ≡ length ws
unmet_makes c heat [] simple cx pure some room unmet = refl
unmet_makes c heat (w ∷ ws) simple cx pure some room unmet = by (is_simplex_boundary c) refl (λ d k. unmet_makes d k ws)
  where
    Rest : Type 0
    Rest =
        (d : List (List ℕ)) (k : ℕ) → list_all is_simplex d ≡ true → is_complex d ≡ true → is_pure d ≡ true → 0 < size d → length (verts d) + length ws ≤ label_limit
        → is_simplex_boundary (after d (flips_by d k ws)) ≡ false → length (flips_by d k ws) ≡ length ws

    free : length (verts c) < label_limit
    free = omega (arith, room)

    picked : (o : Option (Flip × ℕ)) → pick c heat w ≡ o → is_simplex_boundary c ≡ false → Rest → length (flips_by c heat (w ∷ ws)) ≡ suc (length ws)
    picked None e away rest = absurd (no_some (pick c heat w) e (always_picks_lem c heat w simple cx pure some free))
    picked (Some p) e away rest =
        let f = pick_flip c heat w p simple e in
        let ok = pick_goes c heat w p e in
        let n = size_next c p.0 simple cx f ok in
        let v = verts_next c p.0 simple cx f ok in
        let split = flips_next c heat w ws p.0 p.1 away e in
        ap length split
        ∙ ap suc (rest (flip c p.0.a p.0.b) p.1 (simple_next c p.0 simple cx f ok) (complex_next c p.0 simple cx f ok) (pure_next c p.0 simple cx f ok) (omega (arith, n, some)) (omega (arith, v, room))
        (sym (ap (λ l. is_simplex_boundary (after c l)) split) ∙ unmet))

    by : (v : Bool) → is_simplex_boundary c ≡ v → Rest → length (flips_by c heat (w ∷ ws)) ≡ suc (length ws)
    by true e rest = absurd (true≢false (sym e ∙ sym (ap (λ l. is_simplex_boundary (after c l)) (flips_stop c heat (w ∷ ws) e)) ∙ unmet))
    by false e rest = picked (pick c heat w) refl e rest

in_vain : (n : ℕ) (c : List (List ℕ)) (budget seed : ℕ) → 1 ≤ n → IsReady n c budget → meets c budget seed ≡ false → WalkedInVain c budget seed
in_vain n c budget seed one h unmet = record {
  made = unmet_makes c 0 (words budget seed) (and_left _ _ h.start) (and_right (list_all is_simplex c) _ h.start) (and_left _ _ h.pure) (some (and_right (is_pure c) _ h.pure)) (room counted h.room) unmet ∙ counted;
  unmet = unmet;
}
  where
    counted : length (words budget seed) ≡ budget
    counted = length-words budget (generator seed)

    some : leb n (size c) ≡ true → 0 < size c
    some e = grind (arith, nat_tests)

    room : length (words budget seed) ≡ budget → length (verts c) + budget ≤ label_limit → length (verts c) + length (words budget seed) ≤ label_limit
    room e k = omega (arith, e, k)

met_or_in_vain : (c : List (List ℕ)) (budget seed : ℕ) → IsReady 1 c budget → MetOrInVain c budget seed
met_or_in_vain c budget seed h = by (meets c budget seed) refl
  where
    by : (v : Bool) → meets c budget seed ≡ v → MetOrInVain c budget seed
    by true e = inl e
    by false e = inr (in_vain 1 c budget seed (omega arith) h e)

-- ---- the sphere

pub sphere_vain_lem : SphereVain
sphere_vain_lem c budget seed start passed = by (meets c budget seed) refl
  where
    by : (v : Bool) → meets c budget seed ≡ v → UndecidedInVain c budget seed (cond v (Yes (Sphere c (found c budget seed))) (Undecided budget))
    by true e = tt
    by false e = in_vain 1 c budget seed (omega arith) (sphere_ready c budget start passed) e

pub sphere_is_vain : (c : List (List ℕ)) (budget seed : ℕ) (v : Verdict) → is_start c ≡ true → first_failing (sphere_tests c budget) ≡ None → v ≡ sphere_of c budget seed → UndecidedInVain c budget seed v
sphere_is_vain c budget seed v start passed e = subst (UndecidedInVain c budget seed) (sym e) (sphere_vain_lem c budget seed start passed)

-- ---- the equivalence

module _ (c d : List (List ℕ)) (budget seed : ℕ) (start_c : is_start c ≡ true) (start_d : is_start d ≡ true) (passed : first_failing (equivalent_tests c d budget) ≡ None) where
  ready_c : IsReady 1 c budget
  ready_c = first_ready c d budget start_c start_d passed

  ready_d : IsReady 1 d budget
  ready_d = second_ready c d budget start_c start_d passed

  -- where both met, a bijection carries the one simplex boundary to the other
  both_met : meets c budget seed ≡ true → meets d budget seed ≡ true → IsSome (first_map (reached c budget seed) (reached d budget seed))
  both_met e f =
      boundaries_are_carried_lem (reached c budget seed) (reached d budget seed) (goal_simple c budget seed start_c) (goal_complex c budget seed start_c) (goal_simple d budget seed start_d) (goal_complex d budget seed start_d)
      (goal_met c budget seed e) (goal_met d budget seed f) (goal_size c budget seed start_c ∙ sizes_alike c d budget start_c start_d passed ∙ sym (goal_size d budget seed start_d))

  one_in_vain : first_map (reached c budget seed) (reached d budget seed) ≡ None → OneInVain c d budget seed
  one_in_vain e = record {
    some = by (meets c budget seed) (meets d budget seed) refl refl;
    first = met_or_in_vain c budget seed ready_c;
    second = met_or_in_vain d budget seed ready_d;
  }
    where
      by : (v w : Bool) → meets c budget seed ≡ v → meets d budget seed ≡ w → WalkedInVain c budget seed ⊎ WalkedInVain d budget seed
      by false w f g = inl (in_vain 1 c budget seed (omega arith) ready_c f)
      by true false f g = inr (in_vain 1 d budget seed (omega arith) ready_d g)
      by true true f g = absurd (no_some (first_map (reached c budget seed) (reached d budget seed)) e (both_met f g))

  given_vain : (o : Option (List (ℕ × ℕ))) → first_map (reached c budget seed) (reached d budget seed) ≡ o → CountedInVain c d budget seed (equivalence_by o c d budget seed)
  given_vain (Some m) e = tt
  given_vain None e = one_in_vain e

pub equivalent_vain_lem : EquivalentVain
equivalent_vain_lem c d budget seed start_c start_d passed = given_vain c d budget seed start_c start_d passed (first_map (reached c budget seed) (reached d budget seed)) refl

pub equivalent_is_vain : (c d : List (List ℕ)) (budget seed : ℕ) (v : Verdict) → is_start c ≡ true → is_start d ≡ true → first_failing (equivalent_tests c d budget) ≡ None → v ≡ equivalent_of c d budget seed
    → CountedInVain c d budget seed v
equivalent_is_vain c d budget seed v start_c start_d passed e = subst (CountedInVain c d budget seed) (sym e) (equivalent_vain_lem c d budget seed start_c start_d passed)

-- ---- the manifold

found_some : (p : ℕ → Bool) (xs : List ℕ) (x : ℕ) → find p xs ≡ Some x → In x xs × (p x ≡ true)
found_some p [] x e = cc
found_some p (y ∷ xs) x e = by (p y) refl e (found_some p xs x)
  where
    by : (v : Bool) → p y ≡ v → cond v (Some y) (find p xs) ≡ Some x → (find p xs ≡ Some x → In x xs × (p x ≡ true)) → In x (y ∷ xs) × (p x ≡ true)
    by true f g r = let same : y ≡ x = cc in (subst (λ z. In z (y ∷ xs)) same first, ap p (sym same) ∙ f)
    by false f g r = let q = r g in (later q.0, q.1)

pub manifold_vain_lem : ManifoldVain
manifold_vain_lem c budget seed start passed = by (first_unmet c budget seed) refl
  where
    ready : IsReady 2 c budget
    ready = manifold_ready c budget start passed

    by : (o : Option ℕ) → first_unmet c budget seed ≡ o → UndecidedInVain c budget seed (manifold_by o c budget seed)
    by (Some v) e =
        let q = found_some (λ v. not (meets (vertex_link c v) budget seed)) (verts c) v e in
        (q.0, in_vain 1 (vertex_link c v) budget seed (omega arith) (link_ready c v ready.start ready.pure q.0 budget ready.room) (not_true (meets (vertex_link c v) budget seed) q.1))
    by None e = tt

pub manifold_is_vain : (c : List (List ℕ)) (budget seed : ℕ) (v : Verdict) → is_start c ≡ true → first_failing (manifold_tests c budget) ≡ None → v ≡ manifold_of c budget seed → UndecidedInVain c budget seed v
manifold_is_vain c budget seed v start passed e = subst (UndecidedInVain c budget seed) (sym e) (manifold_vain_lem c budget seed start passed)
