-- Complexes whose facets have all the same number of labels.
use Rattle.std.proofs.Common.{◌≡◌, ℕ, zero, suc, ◌+◌, ◌*◌, ◌^◌, ◌<◌, true, List, [], ◌∷◌, ◌++◌, map, length, get_or, sym, ap, ◌∙◌, inl, inr, arith, zero-mul}
use Rattle.std.specs.List.{list_all, remove}
use Rattle.std.specs.Ordering.{is_lt}
use Rattle.std.proofs.lemmas.Cmp.{nat_list_cmp_total}
use Rattle.simplex.specs.InOrder.{is_increasing, in_order}
use Rattle.simplex.specs.Simplex.{is_within, is_same, simplex_cmp}
use Rattle.simplex.proofs.InOrderLaws.{and_left, and_right, and_both, in_order_again}
use Rattle.simplex.proofs.Members.{In, first, later, cases, at_head, none, all_at, all_from, from_map, in_either, from_in_order}
use Rattle.simplex.proofs.SimplexLaws.{within_same, rest_increasing, above_at}
use Rattle.simplex.proofs.Decided.{false_from, false_at, not_true}
use Rattle.facet_set.specs.Complex.{generated, is_complex, is_maximal_in, is_proper_face}
use Rattle.facet_set.specs.ClassLaws.{IsOnce}
use Rattle.facet_set.specs.Numbers.{size, weight}
use Rattle.facet_set.proofs.FacetLaws.{below_apart}
use Rattle.facet_set.proofs.ComplexLaws.{exact, is_set, same_itself, maximal_from, generated_again}
use Rattle.facet_set.proofs.FlipLaws.{pure_at, pure_from}
use Rattle.facet_set.proofs.Counting.{count-put}

pub record IsLevel (n : ℕ) (c : List (List ℕ)) : Type 0 where
  pub rising : is_increasing simplex_cmp c ≡ true
  pub sets : (s : List ℕ) → In s c → is_set s ≡ true
  pub lengths : (s : List ℕ) → In s c → length s ≡ n

pub level_complex : (n : ℕ) (c : List (List ℕ)) → IsLevel n c → is_complex c ≡ true
level_complex n c p =
    and_both _ _ p.rising (all_from (is_maximal_in c) c (λ s i. maximal_from c s (λ t j. false_from (is_proper_face s t) (λ h.
    let same : s ≡ t = within_same s t (p.sets s i) (p.sets t j) (and_left _ _ h) (p.lengths s i ∙ sym (p.lengths t j)) in
    false_at (is_same s t) (not_true (is_same s t) (and_right (is_within s t) _ h)) (ap (is_same s) (sym same) ∙ same_itself s)))))

pub level_generated : (n : ℕ) (c : List (List ℕ)) → IsLevel n c → generated c ≡ c
level_generated n c p = generated_again c (level_complex n c p)

pub level_size : (n : ℕ) (c : List (List ℕ)) (s : List ℕ) → In s c → IsLevel n c → size c ≡ n
level_size n c s i p = sym (pure_at c s (pure_from c n s i p.lengths) i) ∙ p.lengths s i

pub level_weight : (n : ℕ) (c : List (List ℕ)) → IsLevel n c → weight c ≡ length c * 2 ^ n
level_weight n [] p = sym (zero-mul (2 ^ n))
level_weight n (s ∷ c) p = ap (λ m. length (s ∷ c) * 2 ^ m) (level_size n (s ∷ c) s first p)

-- ---- counting
pub length_in_order : (xs ys : List (List ℕ)) → IsOnce (List ℕ) xs → is_increasing simplex_cmp ys ≡ true → ((x : List ℕ) → In x xs → In x ys → ⊥) → length (in_order simplex_cmp (xs ++ ys)) ≡ length xs + length ys
length_in_order [] ys h k f = ap length (in_order_again nat_list_cmp_total exact ys k) ∙ omega arith
length_in_order (x ∷ xs) ys h k f =
    let r = length_in_order xs ys h.1 k (λ y i j. f y (later i) j) in
    let e = count-put nat_list_cmp_total exact x (in_order simplex_cmp (xs ++ ys)) (λ i. elim (in_either x xs ys (from_in_order nat_list_cmp_total exact x (xs ++ ys) i)) [ inl j ↦ h.0 j | inr j ↦ f x first j ]) in
    omega arith

-- what a function makes of a set's labels is once, where it tells them apart
pub once_map : (f : ℕ → List ℕ) (s : List ℕ) → is_set s ≡ true → ((x y : ℕ) → x < y → In x s → In y s → f x ≡ f y → ⊥) → IsOnce (List ℕ) (map f s)
once_map f [] h g = tt
once_map f (x ∷ s) h g = (
  λ i. let r = from_map f (f x) s i in g x r.0 (above_at x s r.0 h r.1) first (later r.1) r.2,
  once_map f s (rest_increasing x s h) (λ y z l i j. g y z l (later i) (later j)),
)

-- ---- a list without one member
pub member_at : {X : Type 0} (c : List X) (k : ℕ) (d : X) → k < length c → In (get_or c k d) c
member_at [] k d h = absurd (omega (arith, h))
member_at (x ∷ c) zero d h = first
member_at (x ∷ c) (suc k) d h = later (member_at c k d (omega (arith, h)))

pub from_remove : (c : List (List ℕ)) (k : ℕ) (t : List ℕ) → is_increasing simplex_cmp c ≡ true → k < length c → In t (remove c k) → In t c × (t ≡ get_or c k [] → ⊥)
from_remove [] k t h l i = absurd (omega (arith, l))
from_remove (s ∷ c) zero t h l i = (later i, λ e. below_apart s t (all_at (λ x. is_lt (simplex_cmp s x)) t c (and_left _ _ h) i) (sym e))
from_remove (s ∷ c) (suc k) t h l i = elim (cases i) [
  | inl e ↦ (at_head t s c e, λ f. below_apart s (get_or c k []) (all_at (λ x. is_lt (simplex_cmp s x)) (get_or c k []) c (and_left _ _ h) (member_at c k [] (omega (arith, l)))) (sym e ∙ f))
  | inr j ↦ let r = from_remove c k t (and_right (list_all (λ x. is_lt (simplex_cmp s x)) c) _ h) (omega (arith, l)) j in (later r.0, r.1)
]

pub in_remove : (c : List (List ℕ)) (k : ℕ) (t : List ℕ) → In t c → (t ≡ get_or c k [] → ⊥) → In t (remove c k)
in_remove [] k t i f = absurd (none t i)
in_remove (s ∷ c) zero t i f = elim (cases i) [ inl e ↦ absurd (f e) | inr j ↦ j ]
in_remove (s ∷ c) (suc k) t i f = elim (cases i) [ inl e ↦ at_head t s (remove c k) e | inr j ↦ later (in_remove c k t j f) ]
