-- The subsets of facets by their numbers have all faces.
use Rattle.std.proofs.Common.{◌≡◌, ℕ, ◌+◌, ◌^◌, ◌++◌, true, List, [], ◌∷◌, append_assoc, length, map, sym, ap, ◌∙◌, subst, arith}
use Rattle.std.specs.Bool.{IsTrue}
use Rattle.std.specs.List.{list_all, flat_map, range_with_len}
use Rattle.std.proofs.lemmas.List.FromFn.{map-range_with_len_more}
use Rattle.std.proofs.lemmas.Cmp.{nat_list_cmp_total}
use Rattle.simplex.specs.Simplex.{is_simplex, subsets, subset_at}
use Rattle.simplex.proofs.Filled.{rising_of, simplex-subset_at}
use Rattle.simplex.proofs.Members.{In, all_at, in_map, from_map, in_flat_map, from_flat_map, same_in_order}
use Rattle.simplex.proofs.Ranges.{in_range}
use Rattle.simplex.proofs.SubsetLaws.{subset_within, number_of}
use Rattle.facet_set.specs.Complex.{faces, simplices}
use Rattle.facet_set.proofs.ComplexLaws.{exact, in_subsets, from_subsets}
use Rattle.morse_lists.specs.Cells.{numbered}

from_numbered : (f t : List ℕ) → IsTrue (is_simplex f) → In t (numbered f) → In t (subsets f)
from_numbered f t h i =
    let q = from_map (subset_at f) t (range_with_len 0 (2 ^ length f)) i in
    subst (λ u. In u (subsets f)) (sym q.2) (in_subsets f (subset_at f q.0) (rising_of f h) (rising_of (subset_at f q.0) (simplex-subset_at f q.0 h)) (subset_within f q.0))

in_numbered : (f t : List ℕ) → IsTrue (is_simplex f) → In t (subsets f) → In t (numbered f)
in_numbered f t h i =
    let p = from_subsets f t (rising_of f h) i in
    let q = number_of f t (rising_of f h) p.0 p.1 in
    subst (λ u. In u (numbered f)) q.2 (in_map (subset_at f) q.0 (range_with_len 0 (2 ^ length f)) (in_range 0 (2 ^ length f) q.0 (omega arith) (omega (arith, q.1))))

-- all of them, each once, are the faces
pub numbered_faces : (c : List (List ℕ)) → list_all is_simplex c ≡ true → simplices (flat_map numbered c) ≡ faces c
numbered_faces c h =
    same_in_order nat_list_cmp_total exact (flat_map numbered c) (flat_map subsets c)
    (λ t i. let q = from_flat_map numbered t c i in in_flat_map subsets q.0 t c q.1 (from_numbered q.0 t (all_at is_simplex q.0 c h q.1) q.2))
    (λ t i. let q = from_flat_map subsets t c i in in_flat_map numbered q.0 t c q.1 (in_numbered q.0 t (all_at is_simplex q.0 c h q.1) q.2))

-- one subset more
pub subset_more : (f s : List ℕ) (n : ℕ) (start now new : List (List ℕ)) → new ≡ now ++ s ∷ [] → s ≡ subset_at f n → now ≡ start ++ map (subset_at f) (range_with_len 0 n) → new ≡ start ++ map (subset_at f) (range_with_len 0 (n + 1))
subset_more f s n start now new g e h =
    g ∙ ap (λ xs. xs ++ s ∷ []) h ∙ ap (λ t. (start ++ map (subset_at f) (range_with_len 0 n)) ++ t ∷ []) e
    ∙ append_assoc start (map (subset_at f) (range_with_len 0 n)) (subset_at f n ∷ [])
    ∙ ap (λ xs. start ++ xs) (sym (map-range_with_len_more (subset_at f) 0 n n (omega arith)))
