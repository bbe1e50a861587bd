-- The options of a class are its allowed flips, in order.
use Rattle.std.proofs.Common.{◌≡◌, ℕ, zero, suc, ◌+◌, ◌-◌, ◌<◌, true, cond, ◌&&◌, List, [], ◌∷◌, map, length, refl, sym, ap, ◌∙◌, subst, inl, inr, arith, Option, Some, None}
use Rattle.std.specs.Bool.{IsTrue}
use Rattle.std.specs.Prelude.{◌==◌, option_to_list, is_some}
use Rattle.std.specs.List.{list_all, filter, filter_map, flat_map, cons_option}
use Rattle.std.proofs.lemmas.Bool.Decides.{nat_tests}
use Rattle.std.proofs.lemmas.Cmp.{nat_list_cmp_total}
use Rattle.simplex.specs.declared.flip.Flip.{Flip}
use Rattle.simplex.specs.InOrder.{is_increasing}
use Rattle.simplex.specs.Simplex.{is_simplex, is_within, simplex_cmp, subsets, union, without}
use Rattle.simplex.proofs.Filled.{rising_of}
use Rattle.simplex.proofs.InOrderLaws.{and_both, is_increasing-in_order}
use Rattle.simplex.proofs.Members.{In, first, later, cases, none, all_at, all_from, in_filter, from_filter}
use Rattle.simplex.proofs.SimplexLaws.{is_increasing-filter}
use Rattle.facet_set.specs.Complex.{faces, is_face}
use Rattle.facet_set.specs.Numbers.{size, faces_of_size}
use Rattle.facet_set.specs.Flips.{allowed, fresh, counterpart, option_of, options}
use Rattle.facet_set.specs.OptionLaws.{OptionMembers, OptionsIncrease}
use Rattle.facet_set.proofs.ComplexLaws.{is_set, in_faces, face_from}
use Rattle.facet_set.proofs.FlipLaws.{Parts, parts_of, in_ball}
use Rattle.facet_set.proofs.OptionLaws.{from_options, from_filter_map, given, link_vertices_is}

module _ {X Y : Type 0} (f : X → Option Y) where
  in_filter_map : (x : X) (y : Y) (xs : List X) → In x xs → f x ≡ Some y → In y (filter_map f xs)
  in_filter_map x y [] i e = absurd (none x i)
  in_filter_map x y (z ∷ xs) i e =
      elim (cases i) [
        | inl p ↦ subst (λ r. In y (cons_option r (filter_map f xs))) (sym (ap f (sym p) ∙ e)) first
        | inr j ↦ elim (f z) as (λ r. In y (cons_option r (filter_map f xs))) [ None ↦ in_filter_map x y xs j e | Some w ↦ later (in_filter_map x y xs j e) ]
      ]

  -- where what is made shows what it was made from
  shown : (g : Y → X) → ((x : X) (y : Y) → f x ≡ Some y → g y ≡ x) → (xs : List X) → map g (filter_map f xs) ≡ filter (λ x. is_some (f x)) xs
  shown g h [] = refl
  shown g h (x ∷ xs) =
      elim (f x) as (λ r. f x ≡ r → map g (cons_option r (filter_map f xs)) ≡ cond (is_some r) (x ∷ filter (λ x. is_some (f x)) xs) (filter (λ x. is_some (f x)) xs)) [
        | None ↦ λ e. shown g h xs
        | Some y ↦ λ e. let p = h x y e in let q = shown g h xs in cc
      ] refl

-- the face of an option is the one that it was made for
made_for : (c : List (List ℕ)) (i : ℕ) (a : List ℕ) (m : Flip) → option_of c i a ≡ Some m → (m.a ≡ a) × (m.b ≡ counterpart c i a)
made_for c i a m e =
    let b = counterpart c i a in
    let q = given (allowed c a b && (length b == i + 1)) (record { a = a; b = b }) m e in
    (ap (λ (n : Flip). n.a) (sym q.1), ap (λ (n : Flip). n.b) (sym q.1))

made : (c : List (List ℕ)) (i : ℕ) (m : Flip) → allowed c m.a m.b ≡ true → length m.b ≡ i + 1 → m.b ≡ counterpart c i m.a → option_of c i m.a ≡ Some m
made c i m h n e =
    let number : (length m.b == i + 1) ≡ true = grind (arith, nat_tests) in
    let both : (allowed c m.a m.b && (length m.b == i + 1)) ≡ true = and_both _ _ h number in
    subst (λ (b : List ℕ). cond (allowed c m.a b && (length b == i + 1)) (Some (record { a = m.a; b = b })) None ≡ Some m) e
    (ap (λ v. cond v (Some m) None) both)

partner_of : (c : List (List ℕ)) (i : ℕ) (m : Flip) → list_all is_simplex c ≡ true → is_set m.b ≡ true → Parts c m.a m.b → length m.b ≡ i + 1 → (i ≡ 0 → m.b ≡ option_to_list (fresh c)) → m.b ≡ counterpart c i m.a
partner_of c zero m h u p n f = f refl
partner_of c (suc i) m h u p n f = link_vertices_is c m.a m.b u (omega arith) p

some_label : (b : List ℕ) → 0 < length b → (x : ℕ) × In x b
some_label [] h = absurd (omega arith)
some_label (x ∷ b) h = (x, first)

goes_out : (c : List (List ℕ)) (a b : List ℕ) → Parts c a b → is_face c a ≡ true
goes_out c a b p =
    let x = some_label b p.sizes.1 in
    let t = union a (without b x.0) in
    let r = from_filter (is_within a) t c (subst (λ l. In t l) (sym p.star) (in_ball a b x.0 x.1)) in
    face_from c a t r.0 r.1

pub option_members_lem : OptionMembers
option_members_lem c i m h ha hb = (there, back)
  where
    there : In m (options c i) → (IsTrue (allowed c m.a m.b)) × (length m.b ≡ i + 1) × (i ≡ 0 → m.b ≡ option_to_list (fresh c))
    there j =
        let q = from_options c i m j in
        let r = from_filter_map (option_of c i) m (faces_of_size c (size c - i)) j in
        (q.0, q.1, λ e. (made_for c i r.0 m r.2).1 ∙ ap (λ k. counterpart c k r.0) e)

    back : (IsTrue (allowed c m.a m.b)) × (length m.b ≡ i + 1) × (i ≡ 0 → m.b ≡ option_to_list (fresh c)) → In m (options c i)
    back q =
        let p = parts_of c m.a m.b q.0 in
        let sum = p.sizes.2 in
        let len = q.1 in
        let count : length m.a ≡ size c - i = omega arith in
        let test : (length m.a == size c - i) ≡ true = grind (arith, nat_tests) in
        let sets : list_all is_set c ≡ true = all_from is_set c (λ s k. rising_of s (all_at is_simplex s c h k)) in
        in_filter_map (option_of c i) m.a m (faces_of_size c (size c - i))
        (in_filter (λ s. length s == size c - i) m.a (faces c) (in_faces c m.a sets (rising_of m.a ha) (goes_out c m.a m.b p)) test)
        (made c i m q.0 q.1 (partner_of c i m h (rising_of m.b hb) p q.1 q.2))

pub options_increase_lem : OptionsIncrease
options_increase_lem c i =
    ap (is_increasing simplex_cmp) (shown (option_of c i) (λ (m : Flip). m.a) (λ a m e. (made_for c i a m e).0) (faces_of_size c (size c - i)))
    ∙ is_increasing-filter simplex_cmp (λ a. is_some (option_of c i a)) (faces_of_size c (size c - i))
    (is_increasing-filter simplex_cmp (λ s. length s == size c - i) (faces c) (is_increasing-in_order nat_list_cmp_total (flat_map subsets c)))
