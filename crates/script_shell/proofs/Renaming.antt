-- Lists of numbers as a map of the vertices.
use Rattle.std.proofs.Common.{◌≡◌, ℕ, suc, Bool, true, false, ◌&&◌, List, [], ◌∷◌, map, length, refl, sym, ap, ◌∙◌, subst}
use Rattle.std.specs.Prelude.{slice_index_or}
use Rattle.std.specs.FinMap.{nat_cmp-IsAntisymmetric}
use Rattle.std.specs.List.{list_all}
use Rattle.std.specs.Ordering.{nat_cmp, match_ordering}
use Rattle.std.specs.declared.cmp.Ordering.TheVariants.{Less, Equal, Greater}
use Rattle.simplex.specs.FirstFailing.{first_failing}
use Rattle.simplex.specs.InOrder.{put}
use Rattle.simplex.specs.Simplex.{has, is_label, is_same}
use Rattle.simplex.specs.SimplexFault.{set}
use Rattle.simplex.proofs.InOrderLaws.{and_left, and_right}
use Rattle.simplex.proofs.Members.{In, later, at_head, all_at, all_from}
use Rattle.facet_set.specs.Complex.{verts}
use Rattle.facet_set.specs.Maps.{is_distinct}
use Rattle.facet_set.proofs.ComplexLaws.{same_from}
use Rattle.facet_set.proofs.SetLaws.{in_set}
use Rattle.constructions.specs.Relabelling.{is_renaming, relabel_tests}
use Rattle.conditions.specs.declared.condition.Condition.TheVariants as condition
use Rattle.script_shell.specs.Commands.{is_pair, make_tests, pair_of}
use Rattle.script_shell.specs.Relabelling.{map_tests}
use Rattle.script_shell.specs.Saturated.{saturated}
use Rattle.script_shell.proofs.Listing.{label_small, small_saturated}

-- ---- a set has as many members as its list where none of the list stands twice
length_put : (x : ℕ) (ys : List ℕ) → (In x ys → ⊥) → length (put nat_cmp x ys) ≡ suc (length ys)
length_put x [] f = refl
length_put x (y ∷ ys) f =
    elim (nat_cmp x y) as (λ r. nat_cmp x y ≡ r → length (match_ordering r (x ∷ y ∷ ys) (y ∷ ys) (y ∷ put nat_cmp x ys)) ≡ suc (suc (length ys))) [
      | Less ↦ λ e. refl
      | Equal ↦ λ e. absurd (f (at_head x y ys (nat_cmp-IsAntisymmetric x y e)))
      | Greater ↦ λ e. ap suc (length_put x ys (λ i. f (later i)))
    ] refl

-- ---- the old labels and the new ones
abbrev pub olds : List (List ℕ) → List ℕ
olds lists = map (λ l. slice_index_or l 0 0) lists

abbrev pub news : List (List ℕ) → List ℕ
news lists = map (λ l. slice_index_or l 1 0) lists

pub olds_are : (lists : List (List ℕ)) → map (λ p. p.0) (map pair_of lists) ≡ olds lists
olds_are [] = refl
olds_are (l ∷ lists) = ap (λ xs. slice_index_or l 0 0 ∷ xs) (olds_are lists)

pub news_are : (lists : List (List ℕ)) → map (λ p. p.1) (map pair_of lists) ≡ news lists
news_are [] = refl
news_are (l ∷ lists) = ap (λ xs. slice_index_or l 1 0 ∷ xs) (news_are lists)

-- whether the lists are a renaming, by the old labels and the new ones
pub renaming_is : (lists c : List (List ℕ)) (v w : Bool) → v ≡ (is_distinct (olds lists) && is_same (set (olds lists)) (verts c)) → w ≡ is_distinct (news lists)
    → (v && w) ≡ is_renaming (map pair_of lists) c
renaming_is lists c v w p q =
    ap (λ x. x && w) p ∙ ap (λ x. (is_distinct (olds lists) && is_same (set (olds lists)) (verts c)) && x) q
    ∙ ap (λ (xs : List ℕ). (is_distinct xs && is_same (set xs) (verts c)) && is_distinct (news lists)) (sym (olds_are lists))
    ∙ ap (λ (xs : List ℕ). (is_distinct (map (λ p. p.0) (map pair_of lists)) && is_same (set (map (λ p. p.0) (map pair_of lists))) (verts c)) && is_distinct xs) (sym (news_are lists))

-- the tests of the call are those of the lists
pub call_tests : (c lists : List (List ℕ)) (m : List (ℕ × ℕ)) → m ≡ map pair_of lists → list_all is_pair lists ≡ true
    → first_failing (make_tests (relabel_tests c m)) ≡ first_failing (map_tests c lists)
call_tests c lists m e all =
    ap (λ (n : List (ℕ × ℕ)). first_failing (make_tests (relabel_tests c n))) e
    ∙ ap (λ (b : Bool). first_failing ((b && is_renaming (map pair_of lists) c, condition.NotMap) ∷ (list_all (λ p. is_label p.1) (map pair_of lists), condition.LabelRange) ∷ [])) (sym all)

pub labels_are : (lists : List (List ℕ)) → list_all (λ p. is_label p.1) (map pair_of lists) ≡ list_all is_label (news lists)
labels_are [] = refl
labels_are (l ∷ lists) = ap (λ b. is_label (slice_index_or l 1 0) && b) (labels_are lists)

pub labels_at : (lists : List (List ℕ)) → list_all (λ p. is_label p.1) (map pair_of lists) ≡ list_all (λ l. is_label (slice_index_or l 1 0)) lists
labels_at [] = refl
labels_at (l ∷ lists) = ap (λ b. is_label (slice_index_or l 1 0) && b) (labels_at lists)

-- two tests, the second only where the first passes
pub and_true : (a b r : Bool) → a ≡ true → r ≡ b → r ≡ (a && b)
and_true a b r h e = e ∙ ap (λ v. v && b) (sym h)

pub and_false : (a b r : Bool) → a ≡ false → r ≡ false → r ≡ (a && b)
and_false a b r h e = e ∙ ap (λ v. v && b) (sym h)

-- numbers whose set is one of labels are labels
pub labels_by_set : (ns vs : List ℕ) → is_same (set ns) vs ≡ true → list_all is_label vs ≡ true → list_all is_label ns ≡ true
labels_by_set ns vs h k =
    all_from is_label ns (λ a i. all_at is_label a vs k (subst (λ l. In a l) (same_from (set ns) vs h) (in_set a ns i)))

-- labels are their machine numbers
same_label : (a : ℕ) → is_label a ≡ true → saturated a ≡ a
same_label a h = small_saturated a (label_small a h)

pub same_pairs : (lists : List (List ℕ)) → list_all is_label (olds lists) ≡ true → list_all is_label (news lists) ≡ true
    → map (λ l. (saturated (pair_of l).0, saturated (pair_of l).1)) lists ≡ map pair_of lists
same_pairs [] h k = refl
same_pairs (l ∷ lists) h k =
    let a : saturated (slice_index_or l 0 0) ≡ slice_index_or l 0 0 = same_label _ (and_left _ _ h) in
    let b : saturated (slice_index_or l 1 0) ≡ slice_index_or l 1 0 = same_label _ (and_left _ _ k) in
    let r = same_pairs lists (and_right (is_label (slice_index_or l 0 0)) _ h) (and_right (is_label (slice_index_or l 1 0)) _ k) in
    cc
