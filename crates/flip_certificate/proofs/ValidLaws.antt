-- A certificate is valid exactly where it has no first fault.
use Rattle.std.proofs.Common.{◌≡◌, ℕ, suc, ◌+◌, ◌≤◌, Bool, true, false, cond, ◌&&◌, List, [], ◌∷◌, length, refl, sym, ap, ◌∙◌, arith, leb, Some}
use Rattle.std.specs.Prelude.{◌==◌, nat_eq}
use Rattle.std.specs.Option.{is_none}
use Rattle.std.specs.List.{list_all}
use Rattle.std.specs.Cmp.Lexicographic.{pointwise}
use Rattle.std.proofs.lemmas.Bool.Decides.{nat_tests}
use Rattle.simplex.specs.declared.flip.Flip.{Flip}
use Rattle.simplex.proofs.InOrderLaws.{and_left, and_right, and_both}
use Rattle.simplex.specs.Members.{In, first, later}
use Rattle.facet_set.specs.Complex.{verts}
use Rattle.facet_set.specs.Numbers.{size, is_pure}
use Rattle.facet_set.specs.Flips.{goes, after, is_simplex_boundary, same_facets}
use Rattle.facet_set.proofs.FlipLaws.{parts_of, pure_at}
use Rattle.facet_set.proofs.OptionLaws.{from_verts}
use Rattle.flip_certificate.specs.declared.block.Block.{Block}
use Rattle.flip_certificate.specs.declared.certificate.Certificate.{Certificate}
use Rattle.flip_certificate.specs.declared.certificate.Certificate.TheVariants.{Sphere, Equivalent, Manifold}
use Rattle.flip_certificate.specs.Valid.{is_valid, is_sphere, is_pure_from, first_fault, tests, block_tests, Faults, vertex_link, block_vertices}
use Rattle.simplex.specs.FirstFailing.{first_failing}
use Rattle.facet_set.specs.Maps.{is_map, image}

none_fails : {F : Type 0} (ts : List (Bool × F)) → is_none (first_failing ts) ≡ list_all (λ t. t.0) ts
none_fails [] = refl
none_fails (t ∷ ts) = elim (t.0) as (λ v. is_none (cond v (first_failing ts) (Some t.1)) ≡ (v && list_all (λ u. u.0) ts)) [ true ↦ none_fails ts | false ↦ refl ]

and_assoc : (a b c : Bool) → ((a && b) && c) ≡ (a && (b && c))
and_assoc true b c = refl
and_assoc false b c = refl

and_true : (a : Bool) → (a && true) ≡ a
and_true true = refl
and_true false = refl

-- a label on the way to a simplex boundary
some_of : (s : List ℕ) (n : ℕ) → length s ≡ suc n → (x : ℕ) × In x s
some_of [] n h = absurd (omega arith)
some_of (x ∷ s) n h = (x, first)

filled : (s : List ℕ) (x : ℕ) → In x s → 1 ≤ length s
filled s x first = omega arith
filled s x (later i) = omega arith

-- a complex from which flips go to a simplex boundary is pure and has a label
pure_given : (c : List (List ℕ)) (ms : List Flip) → goes c ms ≡ true → is_simplex_boundary (after c ms) ≡ true → is_pure_from 1 c ≡ true
pure_given c [] h k =
    let pure : is_pure c ≡ true = and_left _ _ (and_left _ _ k) in
    let count : (length (verts c) == size c + 1) ≡ true = and_right (is_pure c) _ (and_left _ _ k) in
    let x = some_of (verts c) (size c) (number count) in
    let t = from_verts c x.0 x.1 in
    let n = filled t.0 x.0 t.2 in
    let e = pure_at c t.0 pure t.1 in
    and_both _ _ pure (one (omega arith))
  where
    number : (length (verts c) == size c + 1) ≡ true → length (verts c) ≡ suc (size c)
    number e = grind (arith, nat_tests)

    one : 1 ≤ size c → leb 1 (size c) ≡ true
    one e = grind (arith, nat_tests)
pure_given c (m ∷ ms) h k =
    let p = parts_of c m.a m.b (and_left _ _ h) in
    let x = p.sizes.0 in let y = p.sizes.1 in let z = p.sizes.2 in
    and_both _ _ p.pure (one (omega arith))
  where
    one : 1 ≤ size c → leb 1 (size c) ≡ true
    one e = grind (arith, nat_tests)

implied : (p g s : Bool) → (g ≡ true → s ≡ true → p ≡ true) → ((p && g) && s) ≡ (g && s)
implied p true true f = ap (λ v. (v && true) && true) (f refl refl)
implied true true false f = refl
implied false true false f = refl
implied true false s f = refl
implied false false s f = refl

pub sphere_is : (c : List (List ℕ)) (ms : List Flip) → is_sphere c ms ≡ (goes c ms && is_simplex_boundary (after c ms))
sphere_is c ms = implied (is_pure_from 1 c) (goes c ms) (is_simplex_boundary (after c ms)) (pure_given c ms)

module _ {F : Type 0} (faults : Faults F) where
  blocks_are : (n : ℕ) (c : List (List ℕ)) (bs : List Block) → list_all (λ (b : Block). is_sphere (vertex_link c b.vertex) b.flips) bs ≡ list_all (λ (t : Bool × F). t.0) (block_tests faults n c bs)
  blocks_are n c [] = refl
  blocks_are n c (b ∷ bs) =
      (λ i. sphere_is (vertex_link c b.vertex) b.flips i && blocks_are (n + length b.flips) c bs i)
      ∙ and_assoc (goes (vertex_link c b.vertex) b.flips) (is_simplex_boundary (after (vertex_link c b.vertex) b.flips)) _

  pub valid_is : (k : Certificate) → is_valid k ≡ is_none (first_fault faults k)
  valid_is (Sphere c ms) =
      and_assoc (is_pure_from 1 c) (goes c ms) (is_simplex_boundary (after c ms))
      ∙ ap (λ v. is_pure_from 1 c && (goes c ms && v)) (sym (and_true (is_simplex_boundary (after c ms))))
      ∙ sym (none_fails (tests faults (Sphere c ms)))
  valid_is (Equivalent c d before m second) =
      regroup (is_pure_from 1 c && is_pure_from 1 d) (goes c before) (is_map m (after c before)) (goes (image m (after c before)) second) (same_facets (after (image m (after c before)) second) d)
      ∙ sym (none_fails (tests faults (Equivalent c d before m second)))
    where
      regroup : (a b c d e : Bool) → ((((a && b) && c) && d) && e) ≡ (a && (b && (c && (d && (e && true)))))
      regroup true true true true true = refl
      regroup true true true true false = refl
      regroup true true true false e = refl
      regroup true true false d e = refl
      regroup true false c d e = refl
      regroup false b c d e = refl
  valid_is (Manifold c blocks) =
      and_assoc (is_pure_from 2 c) (pointwise nat_eq (block_vertices blocks) (verts c)) _
      ∙ ap (λ v. is_pure_from 2 c && (pointwise nat_eq (block_vertices blocks) (verts c) && v)) (blocks_are 0 c blocks)
      ∙ sym (none_fails (tests faults (Manifold c blocks)))
