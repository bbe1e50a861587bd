-- What lists of steps keep, and what that tells apart.
use Rattle.std.proofs.Common.{◌≡◌, ℕ, suc, ◌-◌, leb, Bool, true, false, cond, List, [], ◌∷◌, ℤ, pos, ◌-ℤ◌, Some, None, refl, sym, ap, ◌∙◌, arith}
use Rattle.std.specs.Prelude.{◌==◌}
use Rattle.std.specs.Bool.{beq}
use Rattle.std.specs.Ordering.{int_eq}
use Rattle.std.specs.List.{list_all}
use Rattle.std.proofs.lemmas.Bool.Decides.{Decides-int_eq}
use Rattle.std.proofs.lemmas.Int.{ints}
use Rattle.simplex.specs.FirstFailing.{first_failing}
use Rattle.simplex.specs.Simplex.{is_simplex}
use Rattle.simplex.specs.declared.flip.Flip.{Flip}
use Rattle.simplex.proofs.Decided.{equal_itself, no_some}
use Rattle.simplex.proofs.InOrderLaws.{and_left, and_right}
use Rattle.facet_set.specs.Connection.{is_closed, components}
use Rattle.facet_set.specs.Flips.{after, allowed, flip, goes}
use Rattle.facet_set.specs.Maps.{image}
use Rattle.facet_set.specs.Numbers.{f_vector, size}
use Rattle.facet_set.proofs.FlipLaws.{parts_of}
use Rattle.face_vectors.specs.Vectors.{alternating}
use Rattle.invariants.specs.Invariants.{first_difference, invariants_of, reason, sphere_invariants}
use Rattle.invariants.specs.Laws.{IsPureComplex, StepsKeepInvariants, DifferenceTellsApart, ReasonTellsNoSphere, ReasonIsNoDimension}
use Rattle.invariants.specs.Leads.{Leads, here, flipped, renamed, is_flip, is_relabelling}
use Rattle.invariants.specs.declared.invariants.Invariants.{Invariants}
use Rattle.invariants.specs.declared.difference.Difference.TheVariants.{Dim, Closed, Euler, Components}
use Rattle.invariants.proofs.Boundary.{boundary_invariants}
use Rattle.invariants.proofs.Closed.{closed_stays}
use Rattle.invariants.proofs.Components.{components_stay}
use Rattle.invariants.proofs.Euler.{euler_stays}
use Rattle.invariants.proofs.Renames.{image_is_pure, image_size, image_closed, image_euler, image_components}
use Rattle.invariants.proofs.Swaps.{Swap, after_is, size_same}

all_same : (c d : List (List ℕ)) → size d ≡ size c → is_closed d ≡ is_closed c → alternating (f_vector d) ≡ alternating (f_vector c) → components d ≡ components c → invariants_of d ≡ invariants_of c
all_same c d n k e p = λ i. record { dim = pos (n i) -ℤ pos 1; closed = k i; euler = e i; components = cond (leb 2 (n i)) (p i) 0 }

flip_keeps : (c : List (List ℕ)) (m : Flip) → IsPureComplex c → is_flip m ≡ true → allowed c m.a m.b ≡ true → IsPureComplex (flip c m.a m.b) × (invariants_of (flip c m.a m.b) ≡ invariants_of c)
flip_keeps c m h f ok = (after_is c d m.a m.b w, all_same c d (size_same c d m.a m.b w) (closed_stays c d m.a m.b w) (euler_stays c d m.a m.b w) (components_stay c d m.a m.b w))
  where
    d : List (List ℕ)
    d = flip c m.a m.b

    w : Swap c d m.a m.b
    w = record { before = h; gone = and_left _ _ f; come = and_right (is_simplex m.a) _ f; parts = parts_of c m.a m.b ok; turned = refl }

renaming_keeps : (c : List (List ℕ)) (m : List (ℕ × ℕ)) → IsPureComplex c → is_relabelling m c ≡ true → IsPureComplex (image m c) × (invariants_of (image m c) ≡ invariants_of c)
renaming_keeps c m h r = (image_is_pure c m h r, all_same c (image m c) (image_size c m h r) (image_closed c m h r) (image_euler c m h r) (image_components c m h r))

steps_keep : {c d : List (List ℕ)} → IsPureComplex c → Leads c d → IsPureComplex d × (invariants_of d ≡ invariants_of c)
steps_keep h here = (h, refl)
steps_keep h (flipped {c = c} m f ok rest) =
    let k = flip_keeps c m h f ok in
    let r = steps_keep k.0 rest in
    (r.0, r.1 ∙ k.1)
steps_keep h (renamed {c = c} m ok rest) =
    let k = renaming_keeps c m h ok in
    let r = steps_keep k.0 rest in
    (r.0, r.1 ∙ k.1)

pub steps_keep_invariants_lem : StepsKeepInvariants
steps_keep_invariants_lem c d h l = steps_keep h l

-- ---- what differs
beq_itself : (v : Bool) → beq v v ≡ true
beq_itself true = refl
beq_itself false = refl

pub no_difference : (x : Invariants) → first_difference x x ≡ None
no_difference x =
    let dims : int_eq x.dim x.dim ≡ true = (Decides-int_eq x.dim x.dim).1 refl in
    let eulers : int_eq x.euler x.euler ≡ true = (Decides-int_eq x.euler x.euler).1 refl in
    λ i. first_failing (
    (dims i, Dim x.dim x.dim)
    ∷ (beq_itself x.closed i, Closed x.closed x.closed)
    ∷ (eulers i, Euler x.euler x.euler)
    ∷ (equal_itself x.components i, Components x.components x.components)
    ∷ [])

pub difference_tells_apart_lem : DifferenceTellsApart
difference_tells_apart_lem c d h k some = (
  λ l. no_some (first_difference (invariants_of c) (invariants_of d)) (ap (first_difference (invariants_of c)) (steps_keep h l).1 ∙ no_difference (invariants_of c)) some,
  λ l. no_some (first_difference (invariants_of c) (invariants_of d)) (ap (first_difference (invariants_of c)) (sym (steps_keep k l).1) ∙ no_difference (invariants_of c)) some,
)

pub leads_join : {c d e : List (List ℕ)} → Leads c d → Leads d e → Leads c e
leads_join here r = r
leads_join (flipped m f ok l) r = flipped m f ok (leads_join l r)
leads_join (renamed m ok l) r = renamed m ok (leads_join l r)

pub leads_after : (c : List (List ℕ)) (ms : List Flip) → list_all is_flip ms ≡ true → goes c ms ≡ true → Leads c (after c ms)
leads_after c [] f g = here
leads_after c (m ∷ ms) f g = flipped m (and_left _ _ f) (and_left _ _ g) (leads_after (flip c m.a m.b) ms (and_right (is_flip m) _ f) (and_right (allowed c m.a m.b) _ g))

pub reason_tells_no_sphere_lem : ReasonTellsNoSphere
reason_tells_no_sphere_lem c ms h big some f g round =
    let r = steps_keep h (leads_after c ms f g) in
    let dims = ap (λ (x : Invariants). x.dim) r.1 in
    let same : size (after c ms) ≡ suc (size c - 1) = omega (arith, ints, dims, big) in
    let is = sym r.1 ∙ boundary_invariants (after c ms) (size c - 1) r.0 round same in
    no_some (reason c) (ap (λ x. first_difference x (sphere_invariants (size c - 1))) is ∙ no_difference (sphere_invariants (size c - 1))) some

-- ---- reasons
later_tests : (x y : Invariants) (left right : ℤ) (p q r : Bool) → first_failing ((p, Closed x.closed y.closed) ∷ (q, Euler x.euler y.euler) ∷ (r, Components x.components y.components) ∷ []) ≡ Some (Dim left right) → ⊥
later_tests x y left right false q r e = cc
later_tests x y left right true false r e = cc
later_tests x y left right true true false e = cc
later_tests x y left right true true true e = cc

pub reason_is_no_dimension_lem : ReasonIsNoDimension
reason_is_no_dimension_lem c left right big e =
    let x = invariants_of c in
    let y = sphere_invariants (size c - 1) in
    let same : x.dim ≡ y.dim = omega (arith, ints, big) in
    let passes : int_eq x.dim y.dim ≡ true = (Decides-int_eq x.dim y.dim).1 same in
    let rest = first_failing ((beq x.closed y.closed, Closed x.closed y.closed) ∷ (int_eq x.euler y.euler, Euler x.euler y.euler) ∷ (x.components == y.components, Components x.components y.components) ∷ []) in
    later_tests x y left right (beq x.closed y.closed) (int_eq x.euler y.euler) (x.components == y.components) (sym (ap (λ v. cond v rest (Some (Dim x.dim y.dim))) passes) ∙ e)
