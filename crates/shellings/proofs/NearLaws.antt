-- The facets near the one that is placed, and what stays of all others.
use Rattle.std.proofs.Common.{◌≡◌, ℕ, ◌+◌, ◌≤◌, ◌<◌, Bool, true, false, not, ◌&&◌, List, [], ◌∷◌, ◌++◌, length, take, get_or, nat_lt, refl, sym, ap, ◌∙◌, subst, ◌⊎◌, inl, inr, arith}
use Rattle.std.specs.Prelude.{◌==◌}
use Rattle.std.specs.Ordering.{nat_cmp}
use Rattle.std.specs.FinMap.{nat_cmp-IsAntisymmetric}
use Rattle.std.proofs.lemmas.Bool.Decides.{nat_tests}
use Rattle.std.proofs.lemmas.Cmp.{nat_cmp_total}
use Rattle.std.proofs.lemmas.List.{get_or_read, take_all, take_more}
use Rattle.simplex.specs.InOrder.{is_increasing}
use Rattle.simplex.specs.Simplex.{has, common, is_within, minus, without}
use Rattle.simplex.proofs.Decided.{false_at, not_from, equal_at, equal_from}
use Rattle.simplex.proofs.Members.{In, cases, none, in_either, in_filter, from_filter, same_sets}
use Rattle.simplex.proofs.SimplexLaws.{has_at, has_from, in_within, in_without, is_increasing-filter, within_in, within_same}
use Rattle.facet_set.specs.Complex.{is_face, stands_in, verts}
use Rattle.shellings.specs.declared.candidates.Candidate.{Candidate}
use Rattle.shellings.specs.Candidates.{AreFoundNarrowed, AreKept, AreNarrowed, IsNarrowed, IsSetting}
use Rattle.shellings.specs.Places.{is_one}
use Rattle.shellings.specs.Shellings.{is_good}
use Rattle.shellings.proofs.GreedyLaws.{at_place, stands_next}
use Rattle.shellings.proofs.MissingLaws.{left}
use Rattle.shellings.proofs.RidgeLaws.{filter-all, missing_one, one_missing, pure_at, rises, stands_at, stands_from}
use Rattle.shellings.proofs.IntervalLaws.{all_more}
use Rattle.simplex.proofs.InOrderLaws.{and_left}
use Rattle.shellings.proofs.StarLaws.{facet_within}

-- ---- where a place is good
pub good_when : (c l order : List (List ℕ)) (i : ℕ) (f rest : List ℕ) (ks : List Candidate) (r : Candidate) (covered : Bool) → IsSetting c l → AreKept c l ks → i < length c → f ≡ get_or c i f
    → rest ≡ minus f (get_or ks i r).free → order ≡ l → covered ≡ is_face order rest → is_good c l (get_or c i []) ≡ not covered
good_when c l order i f rest ks r covered s kept h e m o k =
    sym (stands_next c l (get_or c i []) (get_or ks i r) s (at_place c i [] h) (kept.each i r h))
    ∙ ap (λ x. not (is_face l (minus x (get_or ks i r).free))) (sym (get_or_read c i f h e []))
    ∙ ap not (sym (k ∙ ap (λ x. is_face x rest) o ∙ ap (is_face l) m))

pub rest_within : (c : List (List ℕ)) (f free rest labels : List ℕ) → In f c → labels ≡ verts c → rest ≡ minus f free → is_within rest labels ≡ true
rest_within c f free rest labels i e m =
    ap (λ s. is_within s labels) m ∙ in_within (minus f free) labels (λ a j. within_in f labels a (facet_within c f labels i e) (from_filter (λ x. not (has free x)) a f j).0)

-- ---- two simplices with a ridge in common
other_ridge : (f g : List ℕ) (a : ℕ) → is_increasing nat_cmp f ≡ true → is_increasing nat_cmp g ≡ true → length f ≡ length g → In a f → is_within (without f a) g ≡ true → (b : ℕ) × In b g × (is_within (without g b) f ≡ true)
other_ridge f g a h k n i w = by (has g a) refl
  where
    by : (v : Bool) → has g a ≡ v → (b : ℕ) × In b g × (is_within (without g b) f ≡ true)
    by true e =
        let inside : is_within f g ≡ true = in_within f g (λ b j. elim (b == a) as (λ v. (b == a) ≡ v → In b g) [
          | true ↦ λ q. subst (λ y. In y g) (sym (equal_at b a q)) (has_at g a e)
          | false ↦ λ q. within_in (without f a) g b w (in_without f a b j (λ s. false_at (b == a) q (equal_from b a s)))
        ] refl) in
        let same : f ≡ g = within_same f g h k inside n in
        (a, has_at g a e, subst (λ y. is_within (without g a) y ≡ true) (sym same) (in_within (without g a) g (λ b j. (from_filter (λ x. not (a == x)) b g j).0)))
    by false e =
        let one = one_missing f g a h i e w in
        let both : common f g ≡ common g f = same_sets nat_cmp_total nat_cmp-IsAntisymmetric (common f g) (common g f) (is_increasing-filter nat_cmp (has g) f h) (is_increasing-filter nat_cmp (has f) g k)
        (λ x j. let r = from_filter (has g) x f j in in_filter (has f) x g (has_at g x r.1) (has_from f x r.0))
        (λ x j. let r = from_filter (has f) x g j in in_filter (has g) x f (has_at f x r.1) (has_from g x r.0)) in
        let long = ap length both in
        let r = missing_one g f (omega (arith, one, long, n)) in
        (r.0, r.1, r.3)

-- a facet that has no ridge of the other keeps its free labels
not_near : (f g : List ℕ) (k : Candidate) → is_increasing nat_cmp f ≡ true → is_increasing nat_cmp g ≡ true → length f ≡ length g → ((a : ℕ) → In a g → is_within (without g a) f ≡ false) → IsNarrowed f g k k
not_near f g k h e n far = record {
  free = λ w. sym (filter-all (λ a. not (is_within (without f a) g)) k.free (λ a i. not_from (is_within (without f a) g) (λ q.
      let r = other_ridge f g a h e n (within_in k.free f a w i) q in
      false_at (is_within (without g r.0) f) (far r.0 r.1) r.2)));
  closed = λ w. (w, refl);
}

narrowed_twice : (f g : List ℕ) (a b d : Candidate) → IsNarrowed f g a b → IsNarrowed f g b d → IsNarrowed f g a d
narrowed_twice f g a b d h k = record {
  free = λ w.
      let e = h.free w in
      let inside : is_within b.free f ≡ true = in_within b.free f (λ x i. within_in a.free f x w (from_filter p x a.free (subst (λ l. In x l) e i)).0) in
      k.free inside ∙ ap (left f g) e ∙ filter-all p (left f g a.free) (λ x i. (from_filter p x a.free i).1);
  closed = λ n. let r = k.closed n in let q = h.closed r.0 in (q.0, r.1 ∙ q.1);
}
  where
    p : ℕ → Bool
    p = λ x. not (is_within (without f x) g)

-- ---- ridge after ridge
-- a facet that has none of the ridges without these labels stays as it is
pub record IsMissed (labels g f : List ℕ) (k next : Candidate) : Type 0 where
  pub same : next ≡ k
  pub far : (a : ℕ) → In a labels → is_within (without g a) f ≡ false

pub record AreNarrowedTo (c : List (List ℕ)) (g : List ℕ) (p : ℕ) (ks next : List Candidate) : Type 0 where
  pub whole : length next ≡ length ks
  pub each : (i : ℕ) (k : Candidate) → i < length c → IsNarrowed (get_or c i []) g (get_or ks i k) (get_or next i k) ⊎ IsMissed (take p g) g (get_or c i []) (get_or ks i k) (get_or next i k)

pub narrowed_none : (c : List (List ℕ)) (g : List ℕ) (ks : List Candidate) → AreNarrowedTo c g 0 ks ks
narrowed_none c g ks = record { whole = refl; each = λ i k h. inr (record { same = refl; far = λ a j. absurd (none a j) }) }

pub narrowed_more : (c : List (List ℕ)) (g found : List ℕ) (p a : ℕ) (ks now next : List Candidate) → p < length g → a ≡ get_or g p a
    → ((i : ℕ) → is_one found i ≡ (nat_lt i (length c) && is_within (without g a) (get_or c i []))) → AreFoundNarrowed c g found now next → AreNarrowedTo c g p ks now → AreNarrowedTo c g (p + 1) ks next
narrowed_more c g found p a ks now next h e f n t = record {
  whole = n.whole ∙ t.whole;
  each = λ i k below. by i k below (is_one found i) refl (t.each i k below);
}
  where
    by : (i : ℕ) (k : Candidate) → i < length c → (v : Bool) → is_one found i ≡ v
        → IsNarrowed (get_or c i []) g (get_or ks i k) (get_or now i k) ⊎ IsMissed (take p g) g (get_or c i []) (get_or ks i k) (get_or now i k)
        → IsNarrowed (get_or c i []) g (get_or ks i k) (get_or next i k) ⊎ IsMissed (take (p + 1) g) g (get_or c i []) (get_or ks i k) (get_or next i k)
    by i k below true q (inl x) = inl (narrowed_twice (get_or c i []) g (get_or ks i k) (get_or now i k) (get_or next i k) x (n.hit i k q))
    by i k below true q (inr m) = inl (subst (λ x. IsNarrowed (get_or c i []) g x (get_or next i k)) m.same (n.hit i k q))
    by i k below false q (inl x) = inl (subst (λ y. IsNarrowed (get_or c i []) g (get_or ks i k) y) (sym (n.missed i k q)) x)
    by i k below false q (inr m) = inr (record {
      same = n.missed i k q ∙ m.same;
      far = λ b j. elim (in_either b (take p g) (a ∷ []) (subst (λ l. In b l) (take_more g p a h ∙ ap (λ x. take p g ++ x ∷ []) (sym e)) j)) [
        | inl there ↦ m.far b there
        | inr here ↦ elim (cases here) [
          | inl s ↦
              let inside : nat_lt i (length c) ≡ true = grind (arith, nat_tests) in
              let out : (nat_lt i (length c) && is_within (without g a) (get_or c i [])) ≡ false = sym (f i) ∙ q in
              ap (λ y. is_within (without g y) (get_or c i [])) s ∙ (ap (λ v. v && is_within (without g a) (get_or c i [])) (sym inside) ∙ out)
          | inr z ↦ absurd (none b z)
        ]
      ];
    })

pub narrowed_all : (c l : List (List ℕ)) (g : List ℕ) (p : ℕ) (ks next : List Candidate) → IsSetting c l → stands_in c g ≡ true → length g ≤ p → AreNarrowedTo c g p ks next → AreNarrowed c g ks next
narrowed_all c l g p ks next s there h t = record {
  whole = t.whole;
  each = λ i k below. elim (t.each i k below) [
    | inl x ↦ x
    | inr m ↦
        let in_c = stands_at c (get_or c i []) (at_place c i [] below) in
        let in_g = stands_at c g there in
        subst (λ x. IsNarrowed (get_or c i []) g (get_or ks i k) x) (sym m.same)
        (not_near (get_or c i []) g (get_or ks i k) (rises c (get_or c i []) s.complex.simplices in_c) (rises c g s.complex.simplices in_g) (pure_at c (get_or c i []) s.pure in_c ∙ sym (pure_at c g s.pure in_g))
        (λ a j. m.far a (subst (λ y. In a y) (sym (take_all p g h)) j)))
  ];
}

pub ridge_within : (c : List (List ℕ)) (f rest labels : List ℕ) (a : ℕ) → In f c → labels ≡ verts c → rest ≡ without f a → is_within rest labels ≡ true
ridge_within c f rest labels a i e m =
    ap (λ s. is_within s labels) m ∙ in_within (without f a) labels (λ b j. within_in f labels b (facet_within c f labels i e) (from_filter (λ x. not (a == x)) b f j).0)

pub found_below : (k n : ℕ) (v w : Bool) → w ≡ (nat_lt k n && v) → w ≡ true → k < n
found_below k n v w e h = below (and_left (nat_lt k n) v (sym e ∙ h))
  where
    below : nat_lt k n ≡ true → k < n
    below t = grind (arith, nat_tests)

pub setting_more : (c l : List (List ℕ)) (f : List ℕ) → IsSetting c l → In f c → IsSetting c (l ++ f ∷ [])
setting_more c l f s i = record { complex = s.complex; pure = s.pure; facets = all_more (stands_in c) l f s.facets (stands_from c f i) }
