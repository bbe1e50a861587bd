-- The numbers of the faces of a facet in an outer set that has one label more.
use Rattle.std.proofs.Common.{◌≡◌, ℕ, zero, suc, ◌<◌, ◌+◌, ◌*◌, ◌/◌, ◌%◌, ◌^◌, true, false, cond, Option, None, List, [], ◌∷◌, length, get_or, refl, sym, ap, ◌∙◌, subst, arith}
use Rattle.std.specs.Bool.{IsTrue}
use Rattle.std.specs.Prelude.{◌==◌}
use Rattle.std.specs.List.{remove}
use Rattle.std.proofs.Math.Nat.{mod-eq_of_lt, mod-lt}
use Rattle.std.proofs.lemmas.Nat.{pow_pos, shr_split}
use Rattle.std.proofs.lemmas.List.Edits.{length-remove}
use Rattle.std.specs.Map.{lookup}
use Rattle.simplex.specs.Simplex.{is_simplex, is_within, subset_at}
use Rattle.simplex.proofs.Filled.{simplex-subset_at}
use Rattle.simplex.proofs.SubsetLaws.{subset_within, subset_odd, subset_even, odd_is, even_is}
use Rattle.face_lattice.proofs.Statements.{WholeIsNoted, PartIsNoted, NotesLast}
use Rattle.face_lattice.specs.Cells.{same}
use Rattle.face_lattice.specs.Lattice.{LatticeState, AreIdsWithin, Lacks, id_in}
use Rattle.face_lattice.specs.Slots.{SlabState, AreFound, AreNumbered, AreNoted, IsNoted, spread}
use Rattle.facet_set.proofs.FaceNumbers.{number_is}
use Rattle.face_lattice.proofs.LossLaws.{without_at}
use Rattle.face_lattice.proofs.MaskLaws.{double, odd_at, even_at}
use Rattle.face_lattice.proofs.SlabLaws.{still_noted}

twice : (h p q : ℕ) → q ≡ 2 * p → h * q ≡ 2 * (h * p)
twice zero p q e = omega arith
twice (suc h) p q e = let r = twice h p q e in omega (arith, r, e)

subset_part : (g : List ℕ) (j low high : ℕ) → low < 2 ^ j → j < length g → subset_at (remove g j) (low + high * 2 ^ j) ≡ subset_at g (low + 2 * (high * 2 ^ j))
subset_part [] j low high b l = absurd (omega (arith, l))
subset_part (a ∷ g) zero low high b l =
    let n = low + 2 * (high * 2 ^ zero) in
    let q : n / 2 ≡ low + high * 2 ^ zero = omega (arith, b) in
    let r : n % 2 ≡ 0 = omega (arith, b) in
    sym (subset_even a g n (even_at n r) ∙ ap (subset_at g) q)
subset_part (a ∷ g) (suc j) low high b l =
    let p = high * 2 ^ j in
    let two : high * 2 ^ suc j ≡ 2 * p = twice high (2 ^ j) (2 ^ suc j) (double j) in
    let m = low + high * 2 ^ suc j in
    let n = low + 2 * (high * 2 ^ suc j) in
    let mq : m / 2 ≡ low / 2 + p = omega (arith, two) in
    let nq : n / 2 ≡ low / 2 + 2 * p = omega (arith, two) in
    let rest = subset_part g j (low / 2) high (omega (arith, b, double j)) (omega (arith, l)) in
    elim (low % 2 == 1) as (λ v. (low % 2 == 1) ≡ v → subset_at (a ∷ remove g j) m ≡ subset_at (a ∷ g) n) [
      | true ↦ λ e.
          let o = odd_is low e in
          let mr : m % 2 ≡ 1 = omega (arith, two) in
          let nr : n % 2 ≡ 1 = omega (arith, two) in
          subset_odd a (remove g j) m (odd_at m mr) ∙ ap (λ k. a ∷ subset_at (remove g j) k) mq ∙ ap (λ t. a ∷ t) rest ∙ sym (subset_odd a g n (odd_at n nr) ∙ ap (λ k. a ∷ subset_at g k) nq)
      | false ↦ λ e.
          let o = even_is low e in
          let mr : m % 2 ≡ 0 = omega (arith, two) in
          let nr : n % 2 ≡ 0 = omega (arith, two) in
          subset_even a (remove g j) m (even_at m mr) ∙ ap (subset_at (remove g j)) mq ∙ rest ∙ sym (subset_even a g n (even_at n nr) ∙ ap (subset_at g) nq)
    ] refl

subset_spread : (g : List ℕ) (j k : ℕ) → j < length g → subset_at (remove g j) k ≡ subset_at g (spread (2 ^ j) k)
subset_spread g j k l =
    let low = k % 2 ^ j in
    let high = k / 2 ^ j in
    let split = shr_split k j in
    let whole : k ≡ low + high * 2 ^ j = omega (arith, split) in
    let wide : low + 2 * (high * 2 ^ j) ≡ spread (2 ^ j) k = omega (arith, split) in
    ap (subset_at (remove g j)) whole ∙ subset_part g j low high (mod-lt k (pow_pos j)) l ∙ ap (subset_at g) wide

removed_noted : (v : SlabState) (g ids : List ℕ) (j : ℕ) → j < length g → AreNumbered v g ids → AreNoted v (remove g j) (2 ^ j) ids
removed_noted v g ids j l n =
    let more : suc (length (remove g j)) ≡ length g = omega (arith, length-remove g j l) in
    let two : 2 ^ length g ≡ 2 * 2 ^ length (remove g j) = ap (λ k. 2 ^ k) (sym more) ∙ double (length (remove g j)) in
    let below = λ (k : ℕ) (h : k < 2 ^ length (remove g j)). let b : spread (2 ^ j) k < 2 ^ length g = omega (arith, h, two) in b in
    record {
      some = pow_pos j;
      below = λ k h. omega (arith, below k h, n.len);
      at = λ k h. subst (λ t. IsNoted v t (get_or ids (spread (2 ^ j) k) 0)) (sym (subset_spread g j k l)) (n.at (spread (2 ^ j) k) (below k h));
    }

pub part_noted : PartIsNoted
part_noted v g ids j s l n = subst (λ f. AreNoted v f (2 ^ j) ids) (without_at g (get_or g j 0) j s l refl) (removed_noted v g ids j l n)

pub whole_noted : WholeIsNoted
whole_noted v g ids n =
    let whole = λ (k : ℕ) (h : k < 2 ^ length g). let e : spread (2 ^ length g) k ≡ k = let m = mod-eq_of_lt h in omega (arith, m) in e in
    record {
      some = pow_pos (length g);
      below = λ k h. omega (arith, h, whole k h, n.len);
      at = λ k h. subst (λ m. IsNoted v (subset_at g k) (get_or ids m 0)) (sym (whole k h)) (n.at k h);
    }

pub numbers_last : NotesLast
numbers_last old new g ids k n = record { len = n.len; at = λ m l. still_noted old new _ _ k (n.at m l) }

-- the same by the numbers that the machine has
pub noted_as : (v : SlabState) (f : List ℕ) (len : ℕ) (ids found : List ℕ) → IsTrue (is_simplex f) → len ≡ length f → found ≡ ids → AreNumbered v f ids → AreNoted v f (1 * 2 ^ len % 2 ^ 32) found
noted_as v f len ids found s e i n = subst (λ g. AreNoted v f g found) (sym (number_is f len s e)) (whole_noted v f found (subst (λ is. AreNumbered v f is) (sym i) n))

-- the same of ids that may be missing
pub part_found : (l : LatticeState) (v : SlabState) (g : List ℕ) (j : ℕ) (f : List ℕ) (gap : ℕ) (ids : List (Option ℕ)) → Lacks g j f → gap ≡ 2 ^ j → IsTrue (is_simplex f) → l.ids ≡ v.ids → AreIdsWithin l g ids f → AreFound v f gap ids
part_found l v g j f gap ids h e st i n =
    let more : suc (length f) ≡ length g = let r = ap length h.rest in omega (arith, r, length-remove g j h.below) in
    let two : 2 ^ length g ≡ 2 * 2 ^ length f = ap (λ k. 2 ^ k) (sym more) ∙ double (length f) in
    let below = λ (k : ℕ) (b : k < 2 ^ length f). let b : spread gap k < 2 ^ length g = omega (arith, b, two) in b in
    let part = λ (k : ℕ). let p : subset_at g (spread gap k) ≡ subset_at f k = ap (λ q. subset_at g (spread q k)) e ∙ sym (subset_spread g j k h.below) ∙ ap (λ t. subset_at t k) (sym h.rest) in p in
    record {
      below = λ k b. omega (arith, below k b, n.len);
      at = λ k b.
          n.at (spread gap k) (below k b) (ap (λ t. is_within t f) (part k) ∙ subset_within f k)
          ∙ ap (λ t. cond (is_simplex t) (id_in l t) None) (part k)
          ∙ ap (λ q. cond q (id_in l (subset_at f k)) None) (simplex-subset_at f k st)
          ∙ ap (λ es. lookup (same (subset_at f k)) es) i;
    }
