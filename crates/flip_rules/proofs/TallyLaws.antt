-- The tallies of the faces of facets.
use Rattle.std.proofs.Common.{◌≡◌, ℕ, ◌-◌, ◌^◌, ◌≤◌, min, leb, Bool, true, false, not, cond, ◌||◌, List, [], ◌∷◌, ◌++◌, length, length-append, Option, Some, None, refl, sym, ap, ◌∙◌, inl, arith}
use Rattle.std.specs.Bool.{IsTrue}
use Rattle.std.specs.Prelude.{◌==◌}
use Rattle.std.specs.Ordering.{nat_cmp}
use Rattle.std.specs.List.{list_all, filter, flat_map}
use Rattle.std.specs.Cmp.Lexicographic.{nat_list_eq_equiv}
use Rattle.std.proofs.lemmas.Bool.Decides.{nat_tests}
use Rattle.std.proofs.lemmas.Cmp.{nat_cmp_total}
use Rattle.std.proofs.lemmas.Map.Views.{Contains-keys_from_lookup, IsSome-lookup_from_Contains}
use Rattle.indexmap.specs.IndexMap.{IndexMap, get, keys}
use Rattle.simplex.specs.InOrder.{in_order}
use Rattle.simplex.specs.Simplex.{has, is_simplex, minus, union, simplex_cmp}
use Rattle.simplex.proofs.InOrderLaws.{is_increasing-in_order}
use Rattle.simplex.proofs.Members.{in_contains, contains_in}
use Rattle.simplex.proofs.SimplexLaws.{in_union, is_increasing-filter, is_increasing-union, within_length, in_within}
use Rattle.facet_set.specs.Complex.{verts}
use Rattle.facet_set.specs.Numbers.{faces_of_size}
use Rattle.facet_set.proofs.ComplexLaws.{is_set}
use Rattle.facet_set.proofs.FaceTables.{link_more, kept_more, faces_of_keys}
use Rattle.facet_set.proofs.GeneratedLaws.{same_at}
use Rattle.flip_rules.specs.declared.tally.Tally.{Tally}
use Rattle.flip_rules.specs.declared.tallies.Sizes.{Sizes}
use Rattle.flip_rules.specs.Tallies.{same, fitting, joined, tally_of, kept_at, with_facet, put_facet, after_facet, AreTalliesOf}

tally_is : (d e : ℕ) (up vp : Option (List ℕ)) → d ≡ e → up ≡ vp → let x : Tally = record { degree = d; up = up } in let y : Tally = record { degree = e; up = vp } in x ≡ y
tally_is d e up vp p q = λ i. record { degree = p i; up = q i }

pub link_rising : (fs : List (List ℕ)) (s : List ℕ) → is_set (minus (verts fs) s) ≡ true
link_rising fs s = is_increasing-filter nat_cmp (λ x. not (has s x)) (verts fs) (is_increasing-in_order nat_cmp_total (flat_map (λ t. t) fs))

-- where there is no room for some labels, there is none for more
joined_fitting : (u r : List ℕ) → is_set u ≡ true → joined (fitting u) r ≡ fitting (union u r)
joined_fitting u r h = by (leb (length u) 12) refl
  where
    by : (v : Bool) → leb (length u) 12 ≡ v → joined (cond v (Some u) None) r ≡ fitting (union u r)
    by true e = refl
    by false e =
        let l : length u ≤ length (union u r) = within_length u (union u r) h (is_increasing-union u r) (in_within u (union u r) (λ x i. in_union u r x (inl i))) in
        let n : leb (length (union u r)) 12 ≡ false = grind (arith, nat_tests) in
        sym (ap (λ v. cond v (Some (union u r)) None) n)

-- the tally of a face that lies in just these facets
abbrev among : List (List ℕ) → List ℕ → Tally
among fs s = record { degree = min (length fs) (2 ^ 64 - 1); up = fitting (minus (verts fs) s) }

one_more : (fs : List (List ℕ)) (f s : List ℕ) → among (fs ++ f ∷ []) s ≡ with_facet f s (among fs s)
one_more fs f s =
    let one = length-append fs (f ∷ []) in
    tally_is _ _ _ _ (omega (arith, one)) (ap fitting (link_more fs f s) ∙ sym (joined_fitting (minus (verts fs) s) (minus f s) (link_rising fs s)))

-- what is kept under one facet more
pub tallies_more : (c : List (List ℕ)) (f s : List ℕ) → kept_at (c ++ f ∷ []) s ≡ after_facet f s (kept_at c s)
tallies_more c f s = kept_more among put_facet (one_more []) one_more c f s

-- the keys with as many labels as the set that goes out are the faces with so many
pub keys_are : {S : Type 0} (c : List (List ℕ)) (z : Sizes) (tallies : IndexMap (List ℕ) Tally S) → IsTrue (list_all is_simplex c) → AreTalliesOf c z tallies
    → in_order simplex_cmp (filter (λ s. length s == z.gone) (keys tallies)) ≡ faces_of_size c z.gone
keys_are c z tallies simplices are =
    faces_of_keys c (keys tallies) (get same tallies) (tally_of c) z.gone simplices
    (λ s e. are s (ap (λ b. b || (length s == z.come)) e))
    (λ s i. IsSome-lookup_from_Contains nat_list_eq_equiv s tallies.entries (in_contains (keys tallies) s i))
    (λ s k. contains_in (keys tallies) s (Contains-keys_from_lookup same_at s tallies.entries k))
