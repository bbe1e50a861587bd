-- Components by the pairs of places.
use Rattle.std.proofs.Common.{◌≡◌, ℕ, ◌+◌, ◌<◌, Bool, true, false, ◌&&◌, ◌||◌, List, [], ◌∷◌, length, get_or, refl, sym, ap, ◌∙◌, subst, arith}
use Rattle.std.specs.List.{range_with_len}
use Rattle.simplex.specs.Members.{In}
use Rattle.simplex.specs.Simplex.{has}
use Rattle.simplex.proofs.InOrderLaws.{and_left, and_right, and_both}
use Rattle.simplex.proofs.Members.{none, any_from, any_at, in_map, from_map, in_flat_map, from_flat_map}
use Rattle.simplex.proofs.SimplexLaws.{has_at, has_from}
use Rattle.simplex.proofs.Ranges.{in_range}
use Rattle.facet_set.specs.Complex.{verts}
use Rattle.facet_set.specs.Connection.{Chain, here, step, classes, is_edge, components}
use Rattle.facet_set.proofs.OptionLaws.{in_verts}
use Rattle.facet_set.proofs.SetLaws.{in_place}
use Rattle.facet_set.proofs.ComplexLaws.{verts_increase}
use Rattle.local_parts.specs.Forest.{HasChains}
use Rattle.local_parts.specs.Pairs.{place, pairs_of, vertex_pairs}
use Rattle.local_parts.proofs.CountLaws.{classes_at}
use Rattle.local_parts.proofs.PlaceLaws.{place_in, place_at, listed}

edge_even : (c : List (List ℕ)) (a b : ℕ) → is_edge c a b ≡ is_edge c b a
edge_even [] a b = refl
edge_even (s ∷ c) a b = λ i. swap (has s a) (has s b) i || edge_even c a b i
  where
    swap : (v w : Bool) → (v && w) ≡ (w && v)
    swap true true = refl
    swap true false = refl
    swap false true = refl
    swap false false = refl

abbrev pub label_at : List (List ℕ) → ℕ → ℕ
label_at c i = get_or (verts c) i 0

some_label : (s : List ℕ) (a : ℕ) → In a s → In (get_or s 0 0) s
some_label s a i = in_place s 0 0 (filled s a i)
  where
    filled : (s : List ℕ) (a : ℕ) → In a s → 0 < length s
    filled [] a i = absurd (none a i)
    filled (b ∷ s) a i = omega arith

-- what the pairs of one facet are
pub record IsPairOf (c : List (List ℕ)) (q : ℕ × ℕ) : Type 0 where
  pub facet : List ℕ
  pub label : ℕ
  pub stands : In facet c
  pub lies : In label facet
  pub first_lies : In (get_or facet 0 0) facet
  pub is : q ≡ (place (verts c) (get_or facet 0 0), place (verts c) label)

pair_of : (c : List (List ℕ)) (q : ℕ × ℕ) → In q (vertex_pairs (verts c) c) → IsPairOf c q
pair_of c q i =
    let r = from_flat_map (pairs_of (verts c)) q c i in
    let m = from_map (λ a. (place (verts c) (get_or r.0 0 0), place (verts c) a)) q r.0 r.2 in
    record { facet = r.0; label = m.0; stands = r.1; lies = m.1; first_lies = some_label r.0 m.0 m.1; is = m.2 }

pub pairs_within : (c : List (List ℕ)) (q : ℕ × ℕ) → In q (vertex_pairs (verts c) c) → (q.0 < length (verts c)) × (q.1 < length (verts c))
pairs_within c q i =
    let p = pair_of c q i in
    let one = (place_in (verts c) (get_or p.facet 0 0) (in_verts c p.facet (get_or p.facet 0 0) p.stands p.first_lies)).0 in
    let two = (place_in (verts c) p.label (in_verts c p.facet p.label p.stands p.lies)).0 in
    subst (λ (w : ℕ × ℕ). (w.0 < length (verts c)) × (w.1 < length (verts c))) (sym p.is) (one, two)

abbrev pub joined_at : List (List ℕ) → ℕ → ℕ → Bool
joined_at c i j = is_edge c (label_at c i) (label_at c j)

chained : (c : List (List ℕ)) (q : ℕ × ℕ) → In q (vertex_pairs (verts c) c) → Chain (joined_at c) (range_with_len 0 (length (verts c))) q.0 q.1
chained c q i =
    let p = pair_of c q i in
    let head : ℕ = get_or p.facet 0 0 in
    let one = place_in (verts c) head (in_verts c p.facet head p.stands p.first_lies) in
    let two = place_in (verts c) p.label (in_verts c p.facet p.label p.stands p.lies) in
    let edge : is_edge c head p.label ≡ true = any_from (λ s. has s head && has s p.label) p.facet c p.stands (and_both _ _ (has_from p.facet head p.first_lies) (has_from p.facet p.label p.lies)) in
    let edge_at : joined_at c (place (verts c) head) (place (verts c) p.label) ≡ true = ap (λ a. is_edge c a (label_at c (place (verts c) p.label))) one.1 ∙ ap (is_edge c head) two.1 ∙ edge in
    subst (λ (w : ℕ × ℕ). Chain (joined_at c) (range_with_len 0 (length (verts c))) w.0 w.1) (sym p.is)
    (step edge_at (in_range 0 (length (verts c)) (place (verts c) p.label) (omega arith) (omega (arith, two.0))) here)

spanned : (c : List (List ℕ)) (f : ℕ → ℕ) → ((q : ℕ × ℕ) → In q (vertex_pairs (verts c) c) → f q.0 ≡ f q.1) → (i j : ℕ) → i < length (verts c) → j < length (verts c) → joined_at c i j ≡ true → f i ≡ f j
spanned c f h i j k l e =
    let r = any_at (λ s. has s (label_at c i) && has s (label_at c j)) c e in
    let at : (m : ℕ) → m < length (verts c) → has r.0 (label_at c m) ≡ true → f (place (verts c) (get_or r.0 0 0)) ≡ f m = λ m w t.
    h (place (verts c) (get_or r.0 0 0), place (verts c) (label_at c m)) (in_flat_map (pairs_of (verts c)) r.0 (place (verts c) (get_or r.0 0 0), place (verts c) (label_at c m)) c r.1
    (in_map (λ a. (place (verts c) (get_or r.0 0 0), place (verts c) a)) (label_at c m) r.0 (has_at r.0 (label_at c m) t)))
    ∙ ap f (place_at (verts c) m 0 (verts_increase c) w) in
    sym (at i k (and_left _ _ r.2)) ∙ at j l (and_right (has r.0 (label_at c i)) _ r.2)

pub vertex_chains : (c : List (List ℕ)) → HasChains (joined_at c) (vertex_pairs (verts c) c) (length (verts c))
vertex_chains c = record {
  even = λ i j. edge_even c (label_at c i) (label_at c j);
  chained = chained c;
  spanned = spanned c;
}

pub components_are : (c : List (List ℕ)) → length (classes (joined_at c) (range_with_len 0 (length (verts c)))) ≡ components c
components_are c =
    sym (classes_at (label_at c) (is_edge c) (range_with_len 0 (length (verts c))))
    ∙ ap (λ xs. length (classes (is_edge c) xs)) (listed 0 (verts c) (label_at c) 0 (λ k h. let e : 0 + k ≡ k = omega arith in ap (label_at c) e))

-- ---- what the code's values come to

pub these_pairs : (c facets : List (List ℕ)) (vs : List ℕ) (pairs : List (ℕ × ℕ)) → vs ≡ verts c → facets ≡ c → pairs ≡ vertex_pairs vs facets → pairs ≡ vertex_pairs (verts c) c
these_pairs c facets vs pairs e f g = g ∙ ap (λ v. vertex_pairs v facets) e ∙ ap (vertex_pairs (verts c)) f

pub these_within : (c : List (List ℕ)) (pairs : List (ℕ × ℕ)) (len : ℕ) → pairs ≡ vertex_pairs (verts c) c → len ≡ length (verts c) → (q : ℕ × ℕ) → In q pairs → (q.0 < len) × (q.1 < len)
these_within c pairs len e f q i = let w = pairs_within c q (subst (λ l. In q l) e i) in (omega (arith, w.0, f), omega (arith, w.1, f))

pub component_count : (c : List (List ℕ)) (pairs : List (ℕ × ℕ)) (len n : ℕ) → pairs ≡ vertex_pairs (verts c) c → len ≡ length (verts c)
    → ((joined : ℕ → ℕ → Bool) → HasChains joined pairs len → n ≡ length (classes joined (range_with_len 0 len))) → n ≡ components c
component_count c pairs len n e f h =
    h (joined_at c) (subst (λ l. HasChains (joined_at c) l len) (sym e) (subst (λ m. HasChains (joined_at c) (vertex_pairs (verts c) c) m) (sym f) (vertex_chains c)))
    ∙ ap (λ m. length (classes (joined_at c) (range_with_len 0 m))) f ∙ components_are c
