-- The faces of a skeleton.
use Rattle.std.proofs.Common.{◌≡◌, ℕ, zero, suc, ◌+◌, ◌^◌, ◌≤◌, ◌<◌, true, false, cond, ◌&&◌, eqb, min, nat_le, List, [], ◌∷◌, length, refl, sym, ap, ◌∙◌, subst, ◌⊎◌, inl, inr, arith}
use Rattle.std.specs.Prelude.{◌==◌}
use Rattle.std.specs.Bool.{IsTrue}
use Rattle.std.specs.List.{list_all, flat_map}
use Rattle.std.proofs.lemmas.Bool.Decides.{nat_tests}
use Rattle.simplex.specs.Simplex.{is_simplex, is_within, subset_at}
use Rattle.simplex.proofs.Filled.{short_of, rising_of, simplex-subset_at}
use Rattle.simplex.proofs.InOrderLaws.{and_left, and_right, and_both}
use Rattle.simplex.proofs.Members.{In, first, later, cases, at_head, none, all_at, all_from, in_filter, from_filter, in_left, in_right, in_either, in_flat_map, from_flat_map}
use Rattle.simplex.proofs.SimplexLaws.{within_in, in_within, within_itself, within_trans, within_length, above_at, rest_increasing, front_increasing}
use Rattle.simplex.proofs.SubsetLaws.{subset_within, number_of}
use Rattle.simplex.proofs.Decided.{le_at, agree}
use Rattle.facet_set.specs.Complex.{generated, is_face}
use Rattle.facet_set.specs.Parts.{skeleton}
use Rattle.facet_set.proofs.ComplexLaws.{is_set, is_face-faces_where, face_at, face_from, sets_of}
use Rattle.facet_set.proofs.LinkLaws.{parts_are}
use Rattle.local_parts.specs.Pieces.{subset_of_size, subsets_below, largest_subsets}

either : (n m : ℕ) → n ≤ suc m → (n ≡ suc m) ⊎ (n ≤ m)
either n m h = elim (eqb n (suc m)) as (λ v. eqb n (suc m) ≡ v → (n ≡ suc m) ⊎ (n ≤ m)) [
  | true ↦ λ e. inl (grind (arith, nat_tests))
  | false ↦ λ e. let d : eqb n (suc m) ≡ false = e in inr (grind (arith, nat_tests))
] refl

pub record Between (u s : List ℕ) (n : ℕ) : Type 0 where
  pub set : List ℕ
  pub rises : is_set set ≡ true
  pub below : is_within set s ≡ true
  pub above : is_within u set ≡ true
  pub long : length set ≡ n

-- between a set and one in which it lies there is a set of each number of labels
pub between : (s u : List ℕ) (n : ℕ) → is_set s ≡ true → is_set u ≡ true → is_within u s ≡ true → length u ≤ n → n ≤ length s → Between u s n
between [] u n h k w l m = record { set = []; rises = refl; below = refl; above = w; long = omega arith }
between (a ∷ s) [] n h k w l m = elim (either n (length s) m) [
  | inl e ↦ record { set = a ∷ s; rises = h; below = within_itself (a ∷ s); above = refl; long = sym e }
  | inr q ↦
      let r = between s [] n (rest_increasing a s h) refl refl l q in
      record { set = r.set; rises = r.rises; below = in_within r.set (a ∷ s) (λ x i. later (within_in r.set s x r.below i)); above = refl; long = r.long }
]
between (a ∷ s) (b ∷ u) n h k w l m = elim (either n (length s) m) [
  | inl e ↦ record { set = a ∷ s; rises = h; below = within_itself (a ∷ s); above = w; long = sym e }
  | inr q ↦ elim (cases (within_in (b ∷ u) (a ∷ s) b w first)) [
    | inl e ↦
        let sub : is_within u s ≡ true = in_within u s (λ c j. let l = above_at b u c k j in elim (cases (within_in (b ∷ u) (a ∷ s) c w (later j))) [ inl f ↦ absurd (omega arith) | inr m ↦ m ]) in
        with_head n l q e (λ p t v. between s u p (rest_increasing a s h) (rest_increasing b u k) sub t v)
    | inr i ↦
        let low = above_at a s b h i in
        let sub : is_within (b ∷ u) s ≡ true = in_within (b ∷ u) s (λ c j. elim (cases j) [
          | inl e ↦ subst (λ x. In x s) (sym e) i
          | inr m ↦ let l = above_at b u c k m in elim (cases (within_in (b ∷ u) (a ∷ s) c w (later m))) [ inl f ↦ absurd (omega arith) | inr n ↦ n ]
        ]) in
        let r = between s (b ∷ u) n (rest_increasing a s h) k sub l q in
        record { set = r.set; rises = r.rises; below = in_within r.set (a ∷ s) (λ x j. later (within_in r.set s x r.below j)); above = r.above; long = r.long }
  ]
]
  where
    with_head : (n : ℕ) → length (b ∷ u) ≤ n → n ≤ length s → b ≡ a → ((p : ℕ) → length u ≤ p → p ≤ length s → Between u s p) → Between (b ∷ u) (a ∷ s) n
    with_head zero l q e f = absurd (omega arith)
    with_head (suc p) l q e f =
        let r = f p (omega arith) (omega arith) in
        record {
          set = a ∷ r.set;
          rises = front_increasing a r.set (λ c i. above_at a s c h (within_in r.set s c r.below i)) r.rises;
          below = in_within (a ∷ r.set) (a ∷ s) (λ c i. elim (cases i) [ inl g ↦ at_head c a s g | inr j ↦ later (within_in r.set s c r.below j) ]);
          above = in_within (b ∷ u) (a ∷ r.set) (λ c i. elim (cases i) [ inl g ↦ at_head c a r.set (g ∙ e) | inr j ↦ later (within_in u r.set c r.above j) ]);
          long = omega (arith, r.long);
        }

-- ---- the largest subsets

in_below : (n : ℕ) (s t : List ℕ) (last m : ℕ) → m < last → subset_at s m ≡ t → length t ≡ n → In t (subsets_below n s last)
in_below n s t zero m h e l = absurd (omega arith)
in_below n s t (suc last) m h e l = elim (either (suc m) last (omega arith)) [
  | inl q ↦
      let same : m ≡ last = omega arith in
      let is : t ≡ subset_at s last = sym e ∙ ap (subset_at s) same in
      in_right t (subsets_below n s last) (subset_of_size n s last) (in_filter (λ u. length u == n) t (subset_at s last ∷ []) (at_head t (subset_at s last) [] is) (let g : length t ≡ n = l in grind (arith, nat_tests)))
  | inr q ↦ in_left t (subsets_below n s last) (subset_of_size n s last) (in_below n s t last m q e l)
]

from_below : (n : ℕ) (s t : List ℕ) (last : ℕ) → In t (subsets_below n s last) → (m : ℕ) × (t ≡ subset_at s m) × (length t ≡ n)
from_below n s t zero i = absurd (none t i)
from_below n s t (suc last) i = elim (in_either t (subsets_below n s last) (subset_of_size n s last) i) [
  | inl j ↦ from_below n s t last j
  | inr j ↦
      let r = from_filter (λ u. length u == n) t (subset_at s last ∷ []) j in
      (last, elim (cases r.0) [ inl e ↦ e | inr k ↦ absurd (none t k) ], size (length t) n r.1)
]
  where
    size : (k n : ℕ) → (k == n) ≡ true → k ≡ n
    size k n e = grind (arith, nat_tests)

pub record IsSmall (n : ℕ) (s t : List ℕ) : Type 0 where
  pub simplex : IsTrue (is_simplex t)
  pub below : is_within t s ≡ true
  pub short : length t ≤ n

from_largest : (n : ℕ) (s t : List ℕ) → IsTrue (is_simplex s) → In t (largest_subsets n s) → IsSmall n s t
from_largest n s t h i =
    elim (nat_le (length s) n) as (λ v. nat_le (length s) n ≡ v → In t (cond v (s ∷ []) (subsets_below n s (2 ^ length s))) → IsSmall n s t) [
      | true ↦ λ e i. elim (cases i) [
        | inl f ↦ record { simplex = subst (λ x. IsTrue (is_simplex x)) (sym f) h; below = ap (λ x. is_within x s) f ∙ within_itself s; short = (let q : length s ≤ n = grind (arith, nat_tests) in omega (arith, ap length f)) }
        | inr k ↦ absurd (none t k)
      ]
      | false ↦ λ e i.
          let r = from_below n s t (2 ^ length s) i in
          record { simplex = subst (λ x. IsTrue (is_simplex x)) (sym r.1) (simplex-subset_at s r.0 h); below = ap (λ x. is_within x s) r.1 ∙ subset_within s r.0; short = omega (arith, r.2) }
    ] refl i

-- a subset with at most n labels lies in one of them
in_largest : (n : ℕ) (s u : List ℕ) → is_set s ≡ true → is_set u ≡ true → is_within u s ≡ true → length u ≤ n → (t : List ℕ) × In t (largest_subsets n s) × (is_within u t ≡ true)
in_largest n s u h k w l =
    elim (nat_le (length s) n) as (λ v. nat_le (length s) n ≡ v → (t : List ℕ) × In t (cond v (s ∷ []) (subsets_below n s (2 ^ length s))) × (is_within u t ≡ true)) [
      | true ↦ λ e. (s, first, w)
      | false ↦ λ e.
          let q : n ≤ length s = grind (arith, nat_tests) in
          let r = between s u n h k w l q in
          let m = number_of s r.set h r.rises r.below in
          (r.set, in_below n s r.set (2 ^ length s) m.0 m.1 m.2 r.long, r.above)
    ] refl

abbrev pub tops : ℕ → List (List ℕ) → List (List ℕ)
tops n c = flat_map (largest_subsets n) c

tops_sets : (n : ℕ) (c : List (List ℕ)) → list_all is_simplex c ≡ true → list_all is_set (tops n c) ≡ true
tops_sets n c h = all_from is_set (tops n c) (λ t i.
    let r = from_flat_map (largest_subsets n) t c i in
    rising_of t (from_largest n r.0 t (all_at is_simplex r.0 c h r.1) r.2).simplex)

le_from : (a b : ℕ) → a ≤ b → nat_le a b ≡ true
le_from a b h = grind (arith, nat_tests)

-- the code's limit: no face has more than 12 labels
pub skeleton_is : (k n : ℕ) (c : List (List ℕ)) → n ≡ min k 11 + 1 → list_all is_simplex c ≡ true → generated (tops n c) ≡ skeleton c k
skeleton_is k n c e h =
    parts_are (λ b. nat_le (length b) (k + 1)) c (tops n c) (sets_of c h) (tops_sets n c h) (λ b s.
    agree (is_face (tops n c) b) (is_face c b && nat_le (length b) (k + 1))
    (λ f.
    let r = face_at (tops n c) b f in
    let m = from_flat_map (largest_subsets n) r.0 c r.1 in
    let q = from_largest n m.0 r.0 (all_at is_simplex m.0 c h m.1) m.2 in
    let l = within_length b r.0 s (rising_of r.0 q.simplex) r.2 in
    and_both _ _ (face_from c b m.0 m.1 (within_trans b r.0 m.0 r.2 q.below)) (le_from (length b) (k + 1) (omega (arith, q.short))))
    (λ f.
    let r = face_at c b (and_left _ _ f) in
    let set : is_set r.0 ≡ true = all_at is_set r.0 c (sets_of c h) r.1 in
    let l = within_length b r.0 s set r.2 in
    let m = short_of r.0 (all_at is_simplex r.0 c h r.1) in
    let p = le_at (length b) (k + 1) (and_right (is_face c b) _ f) in
    let q = in_largest n r.0 b set s r.2 (omega arith) in
    face_from (tops n c) b q.0 (in_flat_map (largest_subsets n) r.0 q.0 c r.1 q.1) q.2)
    ∙ sym (is_face-faces_where (λ b. nat_le (length b) (k + 1)) c (sets_of c h) (λ u t p q w g. let l = within_length u t p q w in let j = le_at (length t) (k + 1) g in le_from (length u) (k + 1) (omega arith)) b s))
