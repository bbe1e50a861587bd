-- Relabelling and its way back.
use Rattle.std.proofs.Common.{◌≡◌, ℕ, true, ◌&&◌, List, [], ◌∷◌, map, refl, sym, ap, ◌∙◌, subst}
use Rattle.std.specs.Bool.{IsTrue}
use Rattle.std.specs.List.{list_all}
use Rattle.simplex.specs.Simplex.{is_simplex, is_same}
use Rattle.simplex.specs.SimplexFault.{set}
use Rattle.simplex.proofs.InOrderLaws.{and_left, and_right}
use Rattle.simplex.proofs.Members.{In, all_at, in_map, from_map}
use Rattle.facet_set.specs.Complex.{is_complex, verts}
use Rattle.facet_set.specs.Maps.{image, image_of, is_distinct, relabelled}
use Rattle.facet_set.proofs.ComplexLaws.{is_set, same_from, generated_same, generated_again, sets_of}
use Rattle.facet_set.proofs.OptionLaws.{in_verts}
use Rattle.facet_set.proofs.SetLaws.{from_set, same_set, set_again}
use Rattle.facet_set.proofs.MapLaws.{firsts, seconds, Renames, image_pair, pair_image, in_relabelled, from_relabelled, in_image, from_image}
use Rattle.constructions.specs.Laws.{RelabelsBack}
use Rattle.constructions.specs.Relabelling.{turned, is_renaming}

firsts_turned : (m : List (ℕ × ℕ)) → firsts (turned m) ≡ seconds m
firsts_turned [] = refl
firsts_turned (p ∷ m) = ap (λ l. p.1 ∷ l) (firsts_turned m)

pub renames : (m : List (ℕ × ℕ)) (c : List (List ℕ)) → IsTrue (list_all is_simplex c) → IsTrue (is_renaming m c) → Renames m c
renames m c h r =
    let front = and_left (is_distinct (firsts m) && is_same (set (firsts m)) (verts c)) (is_distinct (seconds m)) r in
    let whole : set (firsts m) ≡ verts c = same_from (set (firsts m)) (verts c) (and_right (is_distinct (firsts m)) _ front) in
    record {
      sets = sets_of c h;
      known = λ s i a j. from_set a (firsts m) (subst (λ l. In a l) (sym whole) (in_verts c s a i j));
      apart = and_right (is_distinct (firsts m) && is_same (set (firsts m)) (verts c)) _ r;
    }

-- a label that was replaced comes back
back_at : (m : List (ℕ × ℕ)) (a : ℕ) → is_distinct (seconds m) ≡ true → In a (firsts m) → image_of (turned m) (image_of m a) ≡ a
back_at m a h i =
    pair_image (turned m) (image_of m a) a (ap is_distinct (firsts_turned m) ∙ h) (in_map (λ (p : ℕ × ℕ). (p.1, p.0)) (a, image_of m a) m (image_pair m a i))

back_whole : (m : List (ℕ × ℕ)) (c : List (List ℕ)) (s : List ℕ) → Renames m c → In s c → relabelled (turned m) (relabelled m s) ≡ s
back_whole m c s r i =
    same_set (map (image_of (turned m)) (relabelled m s)) s
    (λ a j. let p = from_map (image_of (turned m)) a (relabelled m s) j in
    let q = from_relabelled m s p.0 p.1 in
    subst (λ b. In b s) (sym (p.2 ∙ ap (image_of (turned m)) q.2 ∙ back_at m q.0 r.apart (r.known s i q.0 q.1))) q.1)
    (λ a j. subst (λ b. In b (map (image_of (turned m)) (relabelled m s))) (back_at m a r.apart (r.known s i a j)) (in_map (image_of (turned m)) (image_of m a) (relabelled m s) (in_relabelled m s a j)))
    ∙ set_again s (all_at is_set s c r.sets i)

pub relabels_back_lem : RelabelsBack
relabels_back_lem c m facets ok =
    generated_same (map (relabelled (turned m)) (image m c)) c
    (λ t i. let p = from_map (relabelled (turned m)) t (image m c) i in
    let q = from_image m c p.0 r cx p.1 in
    subst (λ s. In s c) (sym (p.2 ∙ ap (relabelled (turned m)) q.2 ∙ back_whole m c q.0 r q.1)) q.1)
    (λ s i. subst (λ t. In t (map (relabelled (turned m)) (image m c))) (back_whole m c s r i) (in_map (relabelled (turned m)) (relabelled m s) (image m c) (in_image m c s r cx i)))
    ∙ generated_again c cx
  where
    cx : is_complex c ≡ true
    cx = facets.complex

    r : Renames m c
    r = renames m c facets.simplices ok
