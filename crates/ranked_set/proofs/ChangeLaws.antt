-- What putting a simplex in and taking one out do to the blocks.
use Rattle.std.proofs.Common.{◌≡◌, ℕ, zero, suc, ◌+◌, ◌-◌, ◌<◌, ◌≤◌, true, false, List, [], ◌∷◌, ◌++◌, length, take, drop, set, get_or, Option, Some, None, refl, sym, ap, ◌∙◌, subst, inl, inr, arith, length-append, length-drop, length-take-le, take-append-drop, get_or-set_same}
use Rattle.std.specs.List.{insert, remove, slice_get}
use Rattle.std.specs.Prelude.{nat_lt}
use Rattle.std.specs.Option.{IfSome, is_some}
use Rattle.std.proofs.lemmas.List.{length-set}
use Rattle.std.proofs.lemmas.Option.{slice_get-get_or}
use Rattle.simplex.specs.InOrder.{is_member, put}
use Rattle.simplex.specs.Simplex.{simplex_cmp}
use Rattle.simplex.proofs.InOrderLaws.{and_left, and_right, and_both}
use Rattle.simplex.proofs.Members.{In, in_left, in_right}
use Rattle.ranked_set.specs.Blocks.{joined, is_filled, are_short, excess, spare_in, IsRanked, IsTidied, but}
use Rattle.ranked_set.proofs.SearchLaws.{member_from, in_place, length-put_most, length-remove, remove_is}
use Rattle.ranked_set.proofs.BlockLaws.{joined_at, cut_is, cut_ranked, IsPut, put_within_now, block_now, put_is, put_ranked, IsTaken, taken_within, taken_block, taken_inner, taken_sum, whole, taken_value, taken_rest, taken_ranked, taken_rest_whole, taken_ranked_whole}
use Rattle.ranked_set.proofs.ExcessLaws.{short_at, short-set, short-insert, short-remove, excess-set, excess-insert, excess-remove}

some_filled : (xs : List (List ℕ)) → 0 < length xs → is_filled xs ≡ true
some_filled [] h = absurd (omega arith)
some_filled (x ∷ xs) h = refl

-- ---- a simplex put in
module _ (s : List ℕ) (bs seen : List (List (List ℕ))) (k : ℕ) (b new : List (List ℕ)) (p : IsPut s bs seen bs k b) (e : new ≡ put simplex_cmp s b) (short : are_short bs ≡ true) where
  within : k < length bs
  within = put_within_now s bs seen bs k b p

  was_short : length b < 128
  was_short = subst (λ x. length x < 128) (sym (block_now s bs seen bs k b p)) (short_at bs k within short)

  most : length new ≤ length b + 1
  most = subst (λ x. length x ≤ length b + 1) (sym e) (length-put_most s b)

  grown : excess (set bs k new) + (length b - 64) ≡ excess bs + (length new - 64)
  grown = ap (λ x. excess (set bs k new) + (length x - 64)) (block_now s bs seen bs k b p) ∙ excess-set bs k new within

  pub put_short : (length new ≡ 128 → ⊥) → are_short (set bs k new) ≡ true
  put_short n = short-set bs k new short (omega (arith, n, most, was_short))

  pub put_spare : (pool : ℕ) → spare_in bs pool ≤ spare_in (set bs k new) pool + 1
  put_spare pool = omega (arith, most, grown)

  pub cut_members : (after : List (List (List ℕ))) → length new ≡ 128 → after ≡ insert (set (set bs k new) k (take 64 (get_or (set bs k new) k []))) (k + 1) (drop 64 (get_or (set bs k new) k []))
      → (joined after ≡ put simplex_cmp s (joined bs)) × IsRanked after × (are_short after ≡ true) × (excess after + 63 ≡ excess bs)
  cut_members after full cut =
      let xs = set bs k new in
      let long = get_or xs k [] in
      let is_new : long ≡ new = get_or-set_same bs k new [] within in
      let size : length long ≡ 128 = ap length is_new ∙ full in
      let at : k < length xs = subst (λ n. k < n) (sym (length-set bs k new)) within in
      let read : long ≡ get_or xs k long = is_new ∙ sym (get_or-set_same bs k new long within) in
      let lower : length (take 64 long) ≡ 64 = length-take-le 64 long (omega (arith, size)) in
      let upper : length (drop 64 long) ≡ 64 = length-drop 64 long ∙ ap (λ n. n - 64) size in
      let sum = take-append-drop 64 long in
      let ranked = put_ranked s bs seen bs k b p new e in
      let halved = excess-set xs k (take 64 long) at in
      let more = excess-insert (set xs k (take 64 long)) (k + 1) (drop 64 long) in (
        ap joined cut ∙ cut_is xs xs k long (take 64 long) (drop 64 long) refl at read sum ∙ put_is s bs seen bs k b p new e,
        subst (λ ys. IsRanked ys) (sym cut) (cut_ranked xs xs k long (take 64 long) (drop 64 long) refl at read sum (some_filled _ (omega (arith, lower))) (some_filled _ (omega (arith, upper))) ranked),
        ap are_short cut ∙ short-insert _ (k + 1) (drop 64 long) (twice bs k new (take 64 long) short (omega (arith, lower))) (omega (arith, upper)),
        ap (λ ys. excess ys + 63) cut ∙ omega (arith, halved, more, grown, size, lower, upper, most, was_short, full),
      )
    where
      twice : (xs : List (List (List ℕ))) (k : ℕ) (x y : List (List ℕ)) → are_short xs ≡ true → length y < 128 → are_short (set (set xs k x) k y) ≡ true
      twice [] k x y h l = refl
      twice (c ∷ xs) zero x y h l = short-set (c ∷ xs) zero y h l
      twice (c ∷ xs) (suc k) x y h l = and_both _ _ (and_left _ _ h) (twice xs k x y (and_right (nat_lt (length c) 128) _ h) l)

-- one block of the pool less
pub cut_spare : (bs after : List (List (List ℕ))) (pool left : ℕ) → excess after + 63 ≡ excess bs → left + 1 ≡ pool → spare_in bs pool ≤ spare_in after left + 1
cut_spare bs after pool left e f = omega (arith, e, f)

-- ---- a member taken out
module _ (s : List ℕ) (bs seen : List (List (List ℕ))) (k inner : ℕ) (b new : List (List ℕ)) (p : IsTaken bs seen bs k inner (length (joined (take k seen)) + inner) b)
    (there : get_or (get_or seen k []) inner [] ≡ s) (e : new ≡ remove b inner) (short : are_short bs ≡ true) (after : List (List (List ℕ))) (t : IsTidied (set bs k new) k after) where
  at_k : k < length bs
  at_k = taken_within bs seen bs k inner (length (joined (take k seen)) + inner) b p

  is_there : s ≡ get_or b inner []
  is_there = sym there ∙ ap (λ xs. get_or (get_or xs k []) inner []) p.seen_is ∙ ap (λ x. get_or x inner []) (sym (taken_block bs seen bs k inner (length (joined (take k seen)) + inner) b p))

  is_but : remove (joined bs) (length (joined (take k seen)) + inner) ≡ but s (joined bs)
  is_but =
      let n = length (joined (take k seen)) + inner in
      let parts = ap length (whole bs seen bs k inner n b p) in
      let sum = taken_sum bs seen bs k inner n b p in
      let in_b = taken_inner bs seen bs k inner n b p in
      let long : n < length (joined bs) = omega (arith, parts, sum, in_b, length-append (joined (take k bs)) (b ++ joined (drop (suc k) bs)), length-append b (joined (drop (suc k) bs))) in
      remove_is (joined bs) n s p.ranked.rising long (sym (taken_value bs seen bs k inner n b p s is_there))

  read : get_or (set bs k new) k [] ≡ new
  read = get_or-set_same bs k new [] at_k

  fewer : excess (set bs k new) ≤ excess bs
  fewer =
      let l : length new ≤ length b = subst (λ x. length x ≤ length b) (sym e) (length-remove b inner) in
      let g = excess-set bs k new at_k in
      let same = ap length (taken_block bs seen bs k inner (length (joined (take k seen)) + inner) b p) in
      omega (arith, l, g, same)

  set_short : are_short (set bs k new) ≡ true
  set_short =
      let l : length new ≤ length b = subst (λ x. length x ≤ length b) (sym e) (length-remove b inner) in
      let same = ap length (taken_block bs seen bs k inner (length (joined (take k seen)) + inner) b p) in
      short-set bs k new short (omega (arith, l, same, short_at bs k at_k short))

  pub taken_all : (joined after ≡ but s (joined bs)) × IsRanked after × (are_short after ≡ true) × (excess after ≤ excess bs)
  taken_all =
      let n = length (joined (take k seen)) + inner in
      elim t [
        | inl v ↦ (
          ap joined v.0 ∙ taken_rest bs seen bs k inner n b p new e ∙ is_but,
          subst (λ ys. IsRanked ys) (sym v.0) (taken_ranked bs seen bs k inner n b p new e (λ m z. v.1 m (ap length read ∙ z))),
          ap are_short v.0 ∙ set_short,
          subst (λ ys. excess ys ≤ excess bs) (sym v.0) fewer,
        )
        | inr v ↦
            let z : length new ≡ 0 = ap length (sym read) ∙ v.2 in (
              ap joined v.0 ∙ taken_rest_whole bs seen bs k inner n b p new e z ∙ is_but,
              subst (λ ys. IsRanked ys) (sym v.0) (taken_ranked_whole bs seen bs k inner n b p new e z v.1),
              ap are_short v.0 ∙ short-remove (set bs k new) k set_short,
              subst (λ ys. excess ys ≤ excess bs) (sym v.0) (omega (arith, fewer, excess-remove (set bs k new) k)),
            )
      ]

-- ---- what is found is a member
pub found_member : (s : List ℕ) (bs : List (List (List ℕ))) (k inner : ℕ) → k < length bs → inner < length (get_or bs k []) → get_or (get_or bs k []) inner [] ≡ s → is_member simplex_cmp s (joined bs) ≡ true
found_member s bs k inner h l e =
    member_from s (joined bs)
    (subst (λ xs. In s xs) (sym (joined_at bs k h)) (in_right s (joined (take k bs)) (get_or bs k [] ++ joined (drop (suc k) bs)) (in_left s (get_or bs k []) (joined (drop (suc k) bs)) (in_place (get_or bs k []) inner s l e))))

pub found_exact : {P : Type 0} (r : Option P) (f g : P → ℕ) (s : List ℕ) (bs : List (List (List ℕ))) → IfSome r (λ p. f p < length bs) → IfSome r (λ p. g p < length (get_or bs (f p) []))
    → IfSome r (λ p. get_or (get_or bs (f p) []) (g p) [] ≡ s) → (r ≡ None → is_member simplex_cmp s (joined bs) ≡ false) → is_some r ≡ is_member simplex_cmp s (joined bs)
found_exact None f g s bs h l e n = sym (n refl)
found_exact (Some p) f g s bs h l e n = sym (found_member s bs (f p) (g p) h l e)

-- ---- the member at a place
pub member_read : (bs seen : List (List (List ℕ))) (k inner place : ℕ) (b : List (List ℕ)) → IsTaken bs seen bs k inner place b → (x : List ℕ) → x ≡ get_or b inner [] → place < length (joined bs) → Some x ≡ slice_get (joined bs) place
member_read bs seen k inner place b p x e l = ap Some (taken_value bs seen bs k inner place b p x e) ∙ sym (slice_get-get_or (joined bs) place [] l)
