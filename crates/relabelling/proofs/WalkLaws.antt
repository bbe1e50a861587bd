-- A walk from facet to facet.
use Rattle.std.proofs.Common.{◌≡◌, ℕ, suc, ◌+◌, ◌<◌, ◌≤◌, Bool, true, false, not, ◌&&◌, cond, List, [], ◌∷◌, ◌++◌, map, length, length-append, take, take_all, get_or, refl, sym, ap, ◌∙◌, subst, ◌⊎◌, inl, inr, arith, Some, None}
use Rattle.std.specs.Prelude.{◌==◌, Option, nat_eq, is_some, unwrap_or, IsSome}
use Rattle.std.specs.Bool.{IsTrue}
use Rattle.std.specs.HashMap.{HashMap, get}
use Rattle.std.specs.HashSet.{contains}
use Rattle.std.specs.Cmp.Lexicographic.{pointwise}
use Rattle.std.specs.List.{list_all, filter}
use Rattle.std.proofs.lemmas.List.{take_more}
use Rattle.simplex.specs.Simplex.{is_label, is_simplex, union, without}
use Rattle.simplex.specs.SimplexFault.{set}
use Rattle.simplex.proofs.InOrderLaws.{and_left}
use Rattle.simplex.proofs.Members.{In, first, later, cases, at_head, none, all_at, in_left, in_right, in_either}
use Rattle.simplex.proofs.SimplexLaws.{in_without}
use Rattle.simplex.proofs.Decided.{false_at, equal_at, equal_from}
use Rattle.facet_set.specs.Complex.{verts}
use Rattle.facet_set.specs.Connection.{Chain, here, step, share_ridge, is_strong}
use Rattle.facet_set.specs.Maps.{image_of, relabelled, becomes}
use Rattle.facet_set.proofs.ComplexLaws.{is_set, same_itself, sets_of}
use Rattle.facet_set.proofs.GeneratedLaws.{same_at, same_is}
use Rattle.facet_set.proofs.OptionLaws.{from_verts}
use Rattle.relabelling.specs.Bijections.{is_map_to}
use Rattle.relabelling.specs.Ridges.{AreEnds, other_end}
use Rattle.relabelling.specs.Walks.{IsKnown, AreLabels, Agrees, NoneAgrees, Extends, AreWays, GoesOn, is_unseen, is_that}
use Rattle.relabelling.specs.declared.extending.Walk.{Walk}
use Rattle.relabelling.proofs.ForcedLaws.{carries, strong_chain}
use Rattle.relabelling.proofs.RidgeLaws.{closed_ends, ends_carried, told_end, told_label, across_label, across_facet, one_facet, shared_ridge}

-- ---- what a table has
pub some_at : (o : Option ℕ) → IsSome o → (b : ℕ) × (o ≡ Some b)
some_at None h = cc
some_at (Some b) h = (b, refl)

nothing_at : (o : Option ℕ) → is_some o ≡ false → o ≡ None
nothing_at None h = refl
nothing_at (Some b) h = cc

pub map_alike : (f g : ℕ → ℕ) (s : List ℕ) → ((a : ℕ) → In a s → f a ≡ g a) → map f s ≡ map g s
map_alike f g [] h = refl
map_alike f g (a ∷ s) h = λ i. h a first i ∷ map_alike f g s (λ b j. h b (later j)) i

module _ {S : Type 0} where
  pub becomes_at : (t : HashMap ℕ ℕ S) (a b : ℕ) → get nat_eq t a ≡ Some b → becomes t a ≡ b
  becomes_at t a b e = ap (λ o. unwrap_or o a) e

  -- what a label becomes is its image under each map that agrees
  pub agrees_at : (t : HashMap ℕ ℕ S) (m : List (ℕ × ℕ)) (a : ℕ) → Agrees t m → IsSome (get nat_eq t a) → becomes t a ≡ image_of m a
  agrees_at t m a g k = let b = some_at (get nat_eq t a) k in becomes_at t a b.0 b.1 ∙ sym (g a b.0 b.1)

  pub stays_known : (c d : List (List ℕ)) (t n : HashMap ℕ ℕ S) (a : ℕ) → Extends c d t n → IsSome (get nat_eq t a) → IsSome (get nat_eq n a)
  stays_known c d t n a x k = let b = some_at (get nat_eq t a) k in ap is_some (x.kept a b.0 b.1)

  pub extends_itself : (c d : List (List ℕ)) (t : HashMap ℕ ℕ S) → Extends c d t t
  extends_itself c d t = record { kept = λ a b e. e; labels = λ l. l; agrees = λ m h g. g }

  pub extends_on : (c d : List (List ℕ)) (t n l : HashMap ℕ ℕ S) → Extends c d t n → Extends c d n l → Extends c d t l
  extends_on c d t n l x y = record {
    kept = λ a b e. y.kept a b (x.kept a b e);
    labels = λ h. y.labels (x.labels h);
    agrees = λ m h g. y.agrees m h (x.agrees m h g);
  }

  -- images that are labels make labels of labels
  pub becomes_label : (t : HashMap ℕ ℕ S) → AreLabels t → (a : ℕ) → IsTrue (is_label a) → IsTrue (is_label (becomes t a))
  becomes_label t h a k = each (get nat_eq t a) refl
    where
      each : (o : Option ℕ) → get nat_eq t a ≡ o → IsTrue (is_label (becomes t a))
      each None e = ap (λ q. is_label (unwrap_or q a)) e ∙ k
      each (Some b) e = ap (λ q. is_label (unwrap_or q a)) e ∙ h a b e

  -- what no bijection agrees with stays so, and was so
  pub none_later : (c d : List (List ℕ)) (t n : HashMap ℕ ℕ S) → Extends c d t n → NoneAgrees c d t → NoneAgrees c d n
  none_later c d t n x f = λ m h g. f m h (λ a b e. g a b (x.kept a b e))

  pub none_before : (c d : List (List ℕ)) (t n : HashMap ℕ ℕ S) → Extends c d t n → NoneAgrees c d n → NoneAgrees c d t
  none_before c d t n x f = λ m h g. f m h (x.agrees m h g)

  -- the image of the label across is the label across from the image of the ridge
  pub forced_end : {R : Type 0} (c d : List (List ℕ)) (p q : HashMap (List ℕ) (ℕ × ℕ) R) (t : HashMap ℕ ℕ S) (r : List ℕ) (a b : ℕ) → AreWays c d p q → AreEnds c r a b → IsKnown t (a ∷ r)
      → (m : List (ℕ × ℕ)) → IsTrue (is_map_to c d m) → Agrees t m → other_end (get (pointwise nat_eq) q (set (map (becomes t) r))) (becomes t a) ≡ Some (image_of m b)
  forced_end c d p q t r a b w e k m h l =
      let ridge : set (map (becomes t) r) ≡ relabelled m r = ap set (map_alike (becomes t) (image_of m) r (λ x i. agrees_at t m x l (k x (later i)))) in
      let label : becomes t a ≡ image_of m a = agrees_at t m a l (k a first) in
      ap (λ z. other_end (get (pointwise nat_eq) q z) (becomes t a)) ridge ∙ ap (λ z. other_end (get (pointwise nat_eq) q (relabelled m r)) z) label
      ∙ told_end (get (pointwise nat_eq) q (relabelled m r)) d (relabelled m r) (image_of m a) (image_of m b) (w.d_told (relabelled m r)) (ends_carried c d m r a b (carries c d m w.simplices w.complex h) e)

  pub leads_nowhere : {R : Type 0} (c d : List (List ℕ)) (p q : HashMap (List ℕ) (ℕ × ℕ) R) (t : HashMap ℕ ℕ S) (r : List ℕ) (a b : ℕ) (o : Option ℕ) → AreWays c d p q → AreEnds c r a b → IsKnown t (a ∷ r)
      → o ≡ other_end (get (pointwise nat_eq) q (set (map (becomes t) r))) (becomes t a) → is_some o ≡ false → NoneAgrees c d t
  leads_nowhere c d p q t r a b o w e k is n = λ m h l. false_at (is_some o) n (ap is_some (is ∙ forced_end c d p q t r a b w e k m h l))

  pub leads_elsewhere : {R : Type 0} (c d : List (List ℕ)) (p q : HashMap (List ℕ) (ℕ × ℕ) R) (t : HashMap ℕ ℕ S) (r : List ℕ) (a b y : ℕ) (o : Option ℕ) → AreWays c d p q → AreEnds c r a b → IsKnown t (a ∷ r)
      → o ≡ other_end (get (pointwise nat_eq) q (set (map (becomes t) r))) (becomes t a) → get nat_eq t b ≡ Some y → is_that o y ≡ false → NoneAgrees c d t
  leads_elsewhere c d p q t r a b y o w e k is has n = λ m h l.
      false_at (is_that o y) n (ap (λ z. is_that z y) (is ∙ forced_end c d p q t r a b w e k m h l) ∙ equal_from (image_of m b) y (l b y has))

  -- one more image: that across from the image of a ridge
  pub extends_more : {R : Type 0} (c d : List (List ℕ)) (p q : HashMap (List ℕ) (ℕ × ℕ) R) (t n : HashMap ℕ ℕ S) (r : List ℕ) (a b v : ℕ) → AreWays c d p q → AreEnds c r a b → IsKnown t (a ∷ r) → is_some (get nat_eq t b) ≡ false
      → v ≡ unwrap_or (other_end (get (pointwise nat_eq) q (set (map (becomes t) r))) (becomes t a)) b → ((x : ℕ) → get nat_eq n x ≡ cond (nat_eq b x) (Some v) (get nat_eq t x)) → Extends c d t n
  extends_more c d p q t n r a b v w e k lacks is g = record {
    kept = λ x y h. elim (nat_eq b x) as (λ f. nat_eq b x ≡ f → get nat_eq n x ≡ Some y) [
      | true ↦ λ f. absurd (false_at (is_some (get nat_eq t b)) lacks (ap (λ z. is_some (get nat_eq t z)) (equal_at b x f) ∙ ap is_some h))
      | false ↦ λ f. g x ∙ ap (λ z. cond z (Some v) (get nat_eq t x)) f ∙ h
    ] refl;
    labels = λ l x y h. elim (nat_eq b x) as (λ f. nat_eq b x ≡ f → IsTrue (is_label y)) [
      | true ↦ λ f. let same : Some v ≡ Some y = sym (g x ∙ ap (λ z. cond z (Some v) (get nat_eq t x)) f) ∙ h in let one : v ≡ y = cc in subst (λ z. IsTrue (is_label z)) one new_label
      | false ↦ λ f. l x y (sym (g x ∙ ap (λ z. cond z (Some v) (get nat_eq t x)) f) ∙ h)
    ] refl;
    agrees = λ m h l x y o. elim (nat_eq b x) as (λ f. nat_eq b x ≡ f → image_of m x ≡ y) [
      | true ↦ λ f. let same : Some v ≡ Some y = sym (g x ∙ ap (λ z. cond z (Some v) (get nat_eq t x)) f) ∙ o in let one : v ≡ y = cc in ap (image_of m) (sym (equal_at b x f)) ∙ sym (forced m h l) ∙ one
      | false ↦ λ f. l x y (sym (g x ∙ ap (λ z. cond z (Some v) (get nat_eq t x)) f) ∙ o)
    ] refl;
  }
    where
      new_label : IsTrue (is_label v)
      new_label =
          ap is_label is ∙ told_label (get (pointwise nat_eq) q (set (map (becomes t) r))) d (set (map (becomes t) r)) (becomes t a) b (w.d_told (set (map (becomes t) r))) w.d_simplices (across_label c r b w.simplices e.1)

      forced : (m : List (ℕ × ℕ)) → IsTrue (is_map_to c d m) → Agrees t m → v ≡ image_of m b
      forced m h l = is ∙ ap (λ o. unwrap_or o b) (forced_end c d p q t r a b w e k m h l)

-- ---- the walk goes on
pub same_test : (s : List ℕ) → pointwise nat_eq s s ≡ true
same_test s = same_is s s ∙ same_itself s

pub goes_itself : (c d : List (List ℕ)) (w : Walk) → GoesOn c d w w
goes_itself c d w = record { images = extends_itself c d w.images; seen = λ t h. h; waiting = λ t i. i; reached = λ t h k. absurd (false_at _ k h); added = λ t i. inl i; work = omega arith; apart = λ h. h }

pub goes_further : (c d : List (List ℕ)) (w n l : Walk) → GoesOn c d w n → GoesOn c d n l → GoesOn c d w l
goes_further c d w n l x y = record {
  images = extends_on c d w.images n.images l.images x.images y.images;
  seen = λ t h. y.seen t (x.seen t h);
  waiting = λ t i. y.waiting t (x.waiting t i);
  reached = λ t h k. elim (is_unseen n t) as (λ v. is_unseen n t ≡ v → IsKnown l.images t × In t l.waiting.items) [
    | true ↦ λ e. y.reached t e k
    | false ↦ λ e. let r = x.reached t h e in (λ a i. stays_known c d n.images l.images a y.images (r.0 a i), y.waiting t r.1)
  ] refl;
  added = λ t i. elim (y.added t i) [
    | inl j ↦ elim (x.added t j) [ inl k ↦ inl k | inr k ↦ inr (k.0, y.seen t k.1) ]
    | inr k ↦ inr k
  ];
  work = let a = x.work in let b = y.work in omega arith;
  apart = λ h e. none_before c d w.images n.images x.images (y.apart (λ k. none_later c d w.images n.images x.images (x.apart h k)) e);
}

-- a facet that was not reached is
pub now_seen : (w n : Walk) (f : List ℕ) → ((q : List ℕ) → contains (pointwise nat_eq) n.seen q ≡ cond (pointwise nat_eq f q) true (contains (pointwise nat_eq) w.seen q)) → (q : List ℕ) → is_unseen n q ≡ cond (pointwise nat_eq f q) false (is_unseen w q)
now_seen w n f g q = ap not (g q) ∙ turned (pointwise nat_eq f q) (contains (pointwise nat_eq) w.seen q)
  where
    turned : (v u : Bool) → not (cond v true u) ≡ cond v false (not u)
    turned true u = refl
    turned false u = refl

pub taken_out : (w n : Walk) (f t : List ℕ) → ((q : List ℕ) → is_unseen n q ≡ cond (pointwise nat_eq f q) false (is_unseen w q)) → is_unseen w t ≡ false → is_unseen n t ≡ false
taken_out w n f t g h = g t ∙ ap (cond (pointwise nat_eq f t) false) h ∙ cond_same (pointwise nat_eq f t)
  where
    cond_same : (v : Bool) → cond v false false ≡ false
    cond_same true = refl
    cond_same false = refl

pub out_now : (w n : Walk) (f : List ℕ) → ((q : List ℕ) → is_unseen n q ≡ cond (pointwise nat_eq f q) false (is_unseen w q)) → is_unseen n f ≡ false
out_now w n f g = g f ∙ ap (λ v. cond v false (is_unseen w f)) (same_test f)

fewer : {X : Type 0} (p q : X → Bool) (xs : List X) → ((x : X) → q x ≡ true → p x ≡ true) → length (filter q xs) ≤ length (filter p xs)
fewer p q [] h = omega arith
fewer p q (x ∷ xs) h =
    let k = fewer p q xs h in
    elim (q x) as (λ v. q x ≡ v → length (cond v (x ∷ filter q xs) (filter q xs)) ≤ length (filter p (x ∷ xs))) [
      | true ↦ λ e. let g : length (filter p (x ∷ xs)) ≡ suc (length (filter p xs)) = ap (λ v. length (cond v (x ∷ filter p xs) (filter p xs))) (h x e) in omega arith
      | false ↦ λ e. elim (p x) as (λ v. length (filter q xs) ≤ length (cond v (x ∷ filter p xs) (filter p xs))) [ true ↦ omega arith | false ↦ k ]
    ] refl

one_fewer : {X : Type 0} (p q : X → Bool) (xs : List X) (y : X) → ((x : X) → q x ≡ true → p x ≡ true) → In y xs → p y ≡ true → q y ≡ false → length (filter q xs) + 1 ≤ length (filter p xs)
one_fewer p q [] y h i a b = absurd (none y i)
one_fewer p q (x ∷ xs) y h i a b = elim (cases i) [
  | inl e ↦
      let k = fewer p q xs h in
      let f : length (filter q (x ∷ xs)) ≡ length (filter q xs) = ap (λ v. length (cond v (x ∷ filter q xs) (filter q xs))) (ap q (sym e) ∙ b) in
      let g : length (filter p (x ∷ xs)) ≡ suc (length (filter p xs)) = ap (λ v. length (cond v (x ∷ filter p xs) (filter p xs))) (ap p (sym e) ∙ a) in
      omega arith
  | inr j ↦
      let k = one_fewer p q xs y h j a b in
      elim (q x) as (λ v. q x ≡ v → length (cond v (x ∷ filter q xs) (filter q xs)) + 1 ≤ length (filter p (x ∷ xs))) [
        | true ↦ λ e. let g : length (filter p (x ∷ xs)) ≡ suc (length (filter p xs)) = ap (λ v. length (cond v (x ∷ filter p xs) (filter p xs))) (h x e) in omega arith
        | false ↦ λ e. elim (p x) as (λ v. length (filter q xs) + 1 ≤ length (cond v (x ∷ filter p xs) (filter p xs))) [ true ↦ omega arith | false ↦ k ]
      ] refl
]

still_unseen : (w n : Walk) (f t : List ℕ) → ((q : List ℕ) → is_unseen n q ≡ cond (pointwise nat_eq f q) false (is_unseen w q)) → is_unseen n t ≡ true → is_unseen w t ≡ true
still_unseen w n f t g h =
    elim (pointwise nat_eq f t) as (λ v. cond v false (is_unseen w t) ≡ true → is_unseen w t ≡ true) [ true ↦ λ e. cc | false ↦ λ e. e ] (sym (g t) ∙ h)

pub reach_new : {R : Type 0} (c d : List (List ℕ)) (p q : HashMap (List ℕ) (ℕ × ℕ) R) (w n : Walk) (r f : List ℕ) (a b : ℕ) (fresh fits : Bool) → AreWays c d p q → AreEnds c r a b → IsKnown w.images (a ∷ r) → Extends c d w.images n.images → IsSome (get nat_eq n.images b)
    → f ≡ union r (b ∷ []) → ((t : List ℕ) → is_unseen n t ≡ cond (pointwise nat_eq f t) false (is_unseen w t)) → n.waiting.items ≡ w.waiting.items ++ f ∷ [] → fresh ≡ is_unseen w f → fresh ≡ true
    → n.fits ≡ (w.fits && fits) → (fits ≡ false → NoneAgrees c d w.images) → GoesOn c d w n
reach_new c d p q w n r f a b fresh fits ways e k x kb fu g l new was both misfit = record {
  images = x;
  seen = λ t h. taken_out w n f t g h;
  waiting = λ t i. subst (λ y. In t y) (sym l) (in_left t w.waiting.items (f ∷ []) i);
  reached = λ t h m. elim (pointwise nat_eq f t) as (λ v. pointwise nat_eq f t ≡ v → IsKnown n.images t × In t n.waiting.items) [
    | true ↦ λ v. let same : f ≡ t = same_at f t v in (λ y i. known y (subst (λ z. In y z) (sym same ∙ facet) i), subst (λ y. In t y) (sym l) (in_right t w.waiting.items (f ∷ []) (at_head t f [] (sym same))))
    | false ↦ λ v. absurd (false_at (is_unseen n t) m (g t ∙ ap (λ z. cond z false (is_unseen w t)) v ∙ h))
  ] refl;
  added = λ t i. elim (in_either t w.waiting.items (f ∷ []) (subst (λ y. In t y) l i)) [
    | inl j ↦ inl j
    | inr j ↦ elim (cases j) [ inl s ↦ inr (subst (λ z. In z c) (sym (s ∙ facet)) e.1.1, ap (is_unseen n) s ∙ out_now w n f g) | inr o ↦ absurd (none t o) ]
  ];
  work =
      let longer = ap length l in
      let whole = length-append w.waiting.items (f ∷ []) in
      let less = one_fewer (is_unseen w) (is_unseen n) c f (λ t h. still_unseen w n f t g h) (subst (λ z. In z c) (sym facet) e.1.1) (sym new ∙ was) (out_now w n f g) in
      omega arith;
  apart = λ h o. elim (w.fits) as (λ v. w.fits ≡ v → NoneAgrees c d w.images) [ true ↦ λ v. misfit (sym (ap (λ z. z && fits) v) ∙ sym both ∙ o) | false ↦ λ v. h v ] refl;
}
  where
    facet : f ≡ e.1.0
    facet = fu ∙ across_facet c r b e.1 (all_at is_set e.1.0 c (sets_of c ways.simplices) e.1.1)

    known : (y : ℕ) → In y e.1.0 → IsSome (get nat_eq n.images y)
    known y i = elim (y == b) as (λ v. (y == b) ≡ v → IsSome (get nat_eq n.images y)) [
      | true ↦ λ h. subst (λ z. IsSome (get nat_eq n.images z)) (sym (equal_at y b h)) kb
      | false ↦ λ h. stays_known c d w.images n.images y x (k y (later (subst (λ z. In y z) e.1.3 (in_without e.1.0 b y i (λ s. false_at (y == b) h (equal_from y b s))))))
    ] refl

pub reach_old : (c d : List (List ℕ)) (w n : Walk) (f : List ℕ) (fresh : Bool) → n.images ≡ w.images → n.waiting.items ≡ w.waiting.items → n.fits ≡ w.fits → fresh ≡ is_unseen w f → fresh ≡ false
    → ((t : List ℕ) → is_unseen n t ≡ cond (pointwise nat_eq f t) false (is_unseen w t)) → GoesOn c d w n
reach_old c d w n f fresh im wa fi r stays g = record {
  images = subst (λ y. Extends c d w.images y) (sym im) (extends_itself c d w.images);
  seen = λ t h. taken_out w n f t g h;
  waiting = λ t i. subst (λ y. In t y) (sym wa) i;
  reached = λ t h m. absurd (false_at (is_unseen n t) m (unchanged t ∙ h));
  added = λ t i. inl (subst (λ y. In t y) wa i);
  work = let same = ap length wa in let less = fewer (is_unseen w) (is_unseen n) c (λ t h. still_unseen w n f t g h) in omega arith;
  apart = λ h e. h (sym fi ∙ e);
}
  where
    unchanged : (t : List ℕ) → is_unseen n t ≡ is_unseen w t
    unchanged t = elim (pointwise nat_eq f t) as (λ v. pointwise nat_eq f t ≡ v → is_unseen n t ≡ is_unseen w t) [
      | true ↦ λ v. g t ∙ ap (λ z. cond z false (is_unseen w t)) v ∙ sym (ap (is_unseen w) (sym (same_at f t v)) ∙ sym r ∙ stays)
      | false ↦ λ v. g t ∙ ap (λ z. cond z false (is_unseen w t)) v
    ] refl

-- the facet with the label across is reached
pub across_reached : {R : Type 0} (c d : List (List ℕ)) (p q : HashMap (List ℕ) (ℕ × ℕ) R) (n : Walk) (r f u : List ℕ) (b : ℕ) → AreWays c d p q → f ≡ union r (b ∷ []) → is_unseen n f ≡ false → In b u → without u b ≡ r → In u c → is_unseen n u ≡ false
across_reached c d p q n r f u b ways fu h i e j = ap (is_unseen n) (sym (fu ∙ across_facet c r b (u, j, i, e) (all_at is_set u c (sets_of c ways.simplices) j))) ∙ h

-- both facets of a ridge are reached
pub ends_reached : {R : Type 0} (c d : List (List ℕ)) (p q : HashMap (List ℕ) (ℕ × ℕ) R) (n : Walk) (t r u : List ℕ) (a b x : ℕ) → AreWays c d p q → AreEnds c r a b → r ≡ without t a → In t c → In a t → is_unseen n t ≡ false
    → ((v : List ℕ) → In b v → without v b ≡ r → In v c → is_unseen n v ≡ false) → In u c → In x u → without u x ≡ without t a → is_unseen n u ≡ false
ends_reached c d p q n t r u a b x ways e s i j h f k l g = elim (e.3 x (u, k, l, g ∙ sym s)) [
  | inl y ↦
      let same : t ≡ u = one_facet t u a (all_at is_set t c (sets_of c ways.simplices) i) (all_at is_set u c (sets_of c ways.simplices) k) j (subst (λ z. In z u) y l) (sym g ∙ ap (without u) y) in
      ap (is_unseen n) (sym same) ∙ h
  | inr y ↦ f u (subst (λ z. In z u) y l) (ap (without u) (sym y) ∙ g ∙ sym s) k
]

-- the label that the table tells is the other end
pub next_end : {R : Type 0} (c d : List (List ℕ)) (p q : HashMap (List ℕ) (ℕ × ℕ) R) (t r : List ℕ) (a : ℕ) (o : Option ℕ) → AreWays c d p q → In t c → In a t → r ≡ without t a → o ≡ other_end (get (pointwise nat_eq) p r) a → (b : ℕ) × (o ≡ Some b) × AreEnds c r a b
next_end c d p q t r a o ways i j s e =
    let f = closed_ends c t a (sets_of c ways.simplices) (and_left _ _ ways.complex) ways.closed i j in
    let g : AreEnds c r a f.0 = subst (λ z. AreEnds c z a f.0) (sym s) f.1 in
    (f.0, e ∙ told_end (get (pointwise nat_eq) p r) c r a f.0 (ways.c_told r) g, g)

-- ---- all neighbours of a facet
abbrev pub ReachesFrom : List (List ℕ) → Walk → List ℕ → List ℕ → Type 0
ReachesFrom c n t front = (a : ℕ) → In a front → (u : List ℕ) (x : ℕ) → In u c → In x u → without u x ≡ without t a → is_unseen n u ≡ false

pub reaches_more : (c d : List (List ℕ)) (w n : Walk) (t items : List ℕ) (i : ℕ) → i < length items → GoesOn c d w n → ReachesFrom c w t (take i items)
    → ((u : List ℕ) (x : ℕ) → In u c → In x u → without u x ≡ without t (get_or items i 0) → is_unseen n u ≡ false) → ReachesFrom c n t (take (i + 1) items)
reaches_more c d w n t items i h g f k a j u x l m e = elim (in_either a (take i items) (get_or items i 0 ∷ []) (subst (λ z. In a z) (take_more items i 0 h) j)) [
  | inl y ↦ g.seen u (f a y u x l m e)
  | inr y ↦ elim (cases y) [ inl s ↦ k u x l m (e ∙ ap (without t) s) | inr o ↦ absurd (none a o) ]
]

pub all_reached : {R : Type 0} (c d : List (List ℕ)) (p q : HashMap (List ℕ) (ℕ × ℕ) R) (n : Walk) (t items : List ℕ) (i : ℕ) → AreWays c d p q → In t c → items ≡ t → length items ≤ i → ReachesFrom c n t (take i items) → (u : List ℕ) → In u c → IsTrue (share_ridge c t u) → is_unseen n u ≡ false
all_reached c d p q n t items i ways j e h f u k s =
    let y = shared_ridge c t u (sets_of c ways.simplices) (and_left _ _ ways.closed) j k s in
    f y.0 (subst (λ z. In y.0 z) (sym (take_all i items h ∙ e)) y.2) u y.1 k y.3 y.4

-- ---- the whole walk
pub record OnWay (c : List (List ℕ)) (start : List ℕ) (w : Walk) : Type 0 where
  pub known : (t : List ℕ) → In t c → is_unseen w t ≡ false → IsKnown w.images t
  pub started : is_unseen w start ≡ false
  pub waiting : (t : List ℕ) → In t w.waiting.items → In t c × (is_unseen w t ≡ false)
  pub spread : (t : List ℕ) → In t c → is_unseen w t ≡ false → In t w.waiting.items ⊎ ((u : List ℕ) → In u c → IsTrue (share_ridge c t u) → is_unseen w u ≡ false)

pub first_on_way : (c : List (List ℕ)) (start : List ℕ) (w : Walk) (all : List ℕ → Bool) → In start c → IsKnown w.images start → ((t : List ℕ) → In t c → all t ≡ true) → ((t : List ℕ) → is_unseen w t ≡ cond (pointwise nat_eq start t) false (all t)) → w.waiting.items ≡ start ∷ [] → OnWay c start w
first_on_way c start w all i k h g l = record {
  known = λ t j e. subst (IsKnown w.images) (only t j e) k;
  started = out;
  waiting = λ t j. elim (cases (subst (λ y. In t y) l j)) [ inl e ↦ (subst (λ z. In z c) (sym e) i, ap (is_unseen w) e ∙ out) | inr o ↦ absurd (none t o) ];
  spread = λ t j e. inl (subst (λ y. In t y) (sym l) (at_head t start [] (sym (only t j e))));
}
  where
    out : is_unseen w start ≡ false
    out = g start ∙ ap (λ v. cond v false (all start)) (same_test start)

    only : (t : List ℕ) → In t c → is_unseen w t ≡ false → start ≡ t
    only t j e = elim (pointwise nat_eq start t) as (λ v. pointwise nat_eq start t ≡ v → start ≡ t) [
      | true ↦ λ v. same_at start t v
      | false ↦ λ v. absurd (false_at (is_unseen w t) e (g t ∙ ap (λ z. cond z false (all t)) v ∙ h t j))
    ] refl

pub next_on_way : (c d : List (List ℕ)) (start f : List ℕ) (w p n : Walk) → p.images ≡ w.images → ((t : List ℕ) → is_unseen p t ≡ is_unseen w t) → w.waiting.items ≡ p.waiting.items ++ f ∷ [] → OnWay c start w → GoesOn c d p n
    → ((u : List ℕ) → In u c → IsTrue (share_ridge c f u) → is_unseen n u ≡ false) → OnWay c start n
next_on_way c d start f w p n im same l o g r = record {
  known = λ t i h. elim (is_unseen p t) as (λ v. is_unseen p t ≡ v → IsKnown n.images t) [
    | true ↦ λ e. (g.reached t e h).0
    | false ↦ λ e a j. stays_known c d p.images n.images a g.images (subst (λ z. IsSome (get nat_eq z a)) (sym im) (o.known t i (sym (same t) ∙ e) a j))
  ] refl;
  started = g.seen start (same start ∙ o.started);
  waiting = λ t i. elim (g.added t i) [
    | inl j ↦ let q = o.waiting t (subst (λ y. In t y) (sym l) (in_left t p.waiting.items (f ∷ []) j)) in (q.0, g.seen t (same t ∙ q.1))
    | inr j ↦ j
  ];
  spread = λ t i h. elim (is_unseen p t) as (λ v. is_unseen p t ≡ v → In t n.waiting.items ⊎ ((u : List ℕ) → In u c → IsTrue (share_ridge c t u) → is_unseen n u ≡ false)) [
    | true ↦ λ e. inl (g.reached t e h).1
    | false ↦ λ e. elim (o.spread t i (sym (same t) ∙ e)) [
      | inl j ↦ elim (in_either t p.waiting.items (f ∷ []) (subst (λ y. In t y) l j)) [
        | inl k ↦ inl (g.waiting t k)
        | inr k ↦ elim (cases k) [ inl s ↦ inr (subst (λ z. (u : List ℕ) → In u c → IsTrue (share_ridge c z u) → is_unseen n u ≡ false) (sym s) r) | inr x ↦ absurd (none t x) ]
      ]
      | inr j ↦ inr (λ u k s. g.seen u (same u ∙ j u k s))
    ]
  ] refl;
}

seen_along : (c : List (List ℕ)) (start : List ℕ) (w : Walk) {t u : List ℕ} → OnWay c start w → w.waiting.items ≡ [] → In t c → is_unseen w t ≡ false → Chain (share_ridge c) c t u → is_unseen w u ≡ false
seen_along c start w o l i h here = h
seen_along c start w {t = t} o l i h (step {y = y} s j ch) = elim (o.spread t i h) [
  | inl k ↦ absurd (none t (subst (λ z. In t z) l k))
  | inr k ↦ seen_along c start w o l j (k y j s) ch
]

-- a walk through a strong complex that is through gives each vertex an image
pub all_known : (c : List (List ℕ)) (start : List ℕ) (w : Walk) → list_all is_simplex c ≡ true → is_strong c ≡ true → In start c → OnWay c start w → w.waiting.items ≡ [] → IsKnown w.images (verts c)
all_known c start w h strong i o l a j =
    let t = from_verts c a j in
    o.known t.0 t.1 (seen_along c start w o l i o.started (strong_chain c start t.0 (sets_of c h) strong i t.1)) a t.2

pub last_in : (l m : List (List ℕ)) (f : List ℕ) → l ≡ m ++ f ∷ [] → In f l
last_in l m f e = subst (λ y. In f y) (sym e) (in_right f m (f ∷ []) first)

pub no_length : (l : List (List ℕ)) → length l ≡ 0 → l ≡ []
no_length [] e = refl
no_length (x ∷ l) e = absurd (omega arith)

pub shorter : (l m : List (List ℕ)) (f : List ℕ) (n k s : ℕ) → l ≡ m ++ f ∷ [] → n + k ≤ length m + s → n + k < length l + s
shorter l m f n k s e h = let a = ap length e in let b = length-append m (f ∷ []) in omega arith
