-- What waits for the next greedy step, before and after a step.
use Rattle.std.proofs.Common.{◌≡◌, ℕ, ◌+◌, ◌<◌, ◌≤◌, Bool, true, false, not, cond, ◌&&◌, List, [], ◌∷◌, ◌++◌, append_assoc, get_or, length, length-append, map, take, refl, sym, ap, ◌∙◌, subst, inl, inr, arith}
use mathlib.Core.Bool.{true≢false}
use Rattle.std.specs.Prelude.{◌==◌, ◌⊎◌, Option, Some, None, is_some}
use Rattle.std.specs.Bool.{IsTrue}
use Rattle.std.proofs.lemmas.Cmp.{nat_list_cmp_total}
use Rattle.std.proofs.lemmas.List.{append-nil, map-append, take_all, take_more}
use Rattle.simplex.specs.InOrder.{is_member}
use Rattle.simplex.specs.Simplex.{is_simplex, is_same, simplex_cmp, without}
use Rattle.simplex.proofs.Filled.{rising_of}
use Rattle.simplex.proofs.InOrderLaws.{and_left, and_right, and_both}
use Rattle.simplex.proofs.Members.{In, first, cases, none, in_either, all_at, all_from, in_map, is_member_at, is_member_from}
use Rattle.simplex.proofs.Decided.{false_at, false_from}
use Rattle.facet_set.specs.Complex.{faces, is_face, stands_in}
use Rattle.facet_set.specs.Facets.{IsFacets}
use Rattle.facet_set.proofs.ComplexLaws.{exact, is_set, same_from, same_itself, from_faces, in_faces, sets_of}
use Rattle.betti_tables.specs.Ranks.{column}
use Rattle.collapse_moves.specs.Collapses.{partner, is_free, collapse, drop_face}
use Rattle.collapse_moves.proofs.CollapseLaws.{free_face}
use Rattle.collapse_moves.proofs.FreeLaws.{partner_above}
use Rattle.morse_lists.specs.declared.morse_step.MorseStep.{MorseStep}
use Rattle.morse_lists.specs.Cells.{extra, ups}
use Rattle.morse_lists.specs.Greedy.{IsFirst, IsGreedyList, IsGreedyCollapse, IsGreedyDrop}
use Rattle.morse_lists.specs.Morse.{is_bare, is_critical, is_morse_list, is_possible, is_top, is_value, free_partner, after_step}
use Rattle.morse_lists.specs.Queues.{Grows, IsReady, IsReadyBut, IsTakenFirst, Waits}
use Rattle.morse_lists.proofs.CellLaws.{ups_cut}
use Rattle.morse_lists.proofs.DropLaws.{dropped, drop_facets, facet_in_faces, left_facet, not_left, partner_cover, partner_facet, collapse_drops}
use Rattle.morse_lists.proofs.MorseLaws.{drop_fewer}
use Rattle.morse_lists.proofs.StepLaws.{collapse_at, critical_at, step_facets}
use Rattle.morse_lists.proofs.UpLaws.{facet_none, from_extra, no_partner, none_facet, one_partner, two_partners}

-- ---- what a greedy step is
pub greedy_possible : (c : List (List ℕ)) (m : MorseStep) → IsFacets c → IsGreedyCollapse c m ⊎ IsGreedyDrop c m → is_possible c m ≡ true
greedy_possible c m h g = elim g [
  | inl a ↦
      let over = partner_above c m.low m.high (sets_of c h.simplices) a.partner in
      let apart : is_critical m ≡ false = false_from (is_critical m) (λ e. over.another (same_from m.low m.high e)) in
      ap (λ v. cond v (is_top c m.low) (is_value m.high (free_partner c m.low))) apart
      ∙ ap (λ v. is_value m.high (cond v (partner c m.low) None)) a.free.passes ∙ ap (is_value m.high) a.partner ∙ same_itself m.high
  | inr a ↦
      let one : is_critical m ≡ true = ap (is_same m.low) a.one ∙ same_itself m.low in
      ap (λ v. cond v (is_top c m.low) (is_value m.high (free_partner c m.low))) one ∙ a.top.passes
]

pub greedy_is_morse : (ms : List MorseStep) (c : List (List ℕ)) → IsFacets c → IsGreedyList c ms → is_morse_list c ms ≡ true
greedy_is_morse [] c h g = g
greedy_is_morse (m ∷ ms) c h g = and_both _ _ (greedy_possible c m h g.0) (greedy_is_morse ms (after_step c m) (step_facets c m h) g.1)

-- where no facet has a label, no face has one
pub no_top : (c : List (List ℕ)) → IsFacets c → ((s : List ℕ) → IsTrue (is_simplex s) → is_top c s ≡ false) → is_bare c ≡ true
no_top c h f = all_from (λ s. length s == 0) c (λ s i. by (length s == 0) refl (f s (all_at is_simplex s c h.simplices i)) i)
  where
    by : {s : List ℕ} (b : Bool) → (length s == 0) ≡ b → is_top c s ≡ false → In s c → (length s == 0) ≡ true
    by true e g i = e
    by {s} false e g i = absurd (true≢false (sym (ap (λ b. not b && stands_in c s) e ∙ is_member_from nat_list_cmp_total exact s c i) ∙ g))

-- ---- a facet goes
module _ (c : List (List ℕ)) (f : List ℕ) (h : IsFacets c) (m : stands_in c f ≡ true) (s : List ℕ) (u : is_set s ≡ true) (beside : In s (column f) → ⊥) where
  no_extra : extra s f ≡ []
  no_extra = by (extra s f) refl
    where
      by : (vs : List ℕ) → extra s f ≡ vs → vs ≡ []
      by [] e = refl
      by (v ∷ vs) e =
          let q = from_extra s f v (subst (λ x. In v x) (sym e) first) in
          absurd (beside (subst (λ y. In y (column f)) q.rest (in_map (without f) v f q.has)))

  ups_stay : ups (faces (drop_face c f)) s ≡ ups (faces c) s
  ups_stay =
      let q = dropped c f h m in
      ap (λ l. ups l s) q.after ∙ ups_cut q.front q.back f s no_extra ∙ ap (λ l. ups l s) (sym q.before)

  partner_stays : partner (drop_face c f) s ≡ partner c s
  partner_stays = by (ups (faces c) s) refl
    where
      d : IsFacets (drop_face c f)
      d = drop_facets c f h

      by : (vs : List ℕ) → ups (faces c) s ≡ vs → partner (drop_face c f) s ≡ partner c s
      by [] e = no_partner (drop_face c f) d s u (ups_stay ∙ e) ∙ sym (no_partner c h s u e)
      by (v ∷ []) e = one_partner (drop_face c f) d s v u (ups_stay ∙ e) ∙ sym (one_partner c h s v u e)
      by (v ∷ w ∷ vs) e = two_partners (drop_face c f) d s v w vs (ups_stay ∙ e) ∙ sym (two_partners c h s v w vs e)

  pub free_before : is_free (drop_face c f) s ≡ true → is_free c s ≡ true
  free_before e = ap (λ o. not (length s == 0) && is_some o) (sym partner_stays) ∙ e

  pub top_before : is_top (drop_face c f) s ≡ true → is_top c s ≡ true
  top_before e =
      let d = drop_facets c f h in
      let stands : stands_in (drop_face c f) s ≡ true = and_right (not (length s == 0)) _ e in
      let member = drop_fewer c f s h m (facet_in_faces (drop_face c f) s d stands) in
      let face = from_faces c s (sets_of c h.simplices) member in
      and_both _ _ (and_left _ _ e) (none_facet c h s u face.1 (sym ups_stay ∙ facet_none (drop_face c f) d s stands))

-- one face less
pub drop_shorter : (c : List (List ℕ)) (f : List ℕ) → IsFacets c → stands_in c f ≡ true → length (faces (drop_face c f)) < length (faces c)
drop_shorter c f h m =
    let q = dropped c f h m in
    omega (arith, ap length q.before, ap length q.after, length-append q.front (f ∷ q.back), length-append q.front q.back)

-- ---- a step
pub record IsAfter (c d : List (List ℕ)) (m : MorseStep) : Type 0 where
  pub facets : IsFacets d
  pub shorter : length (faces d) < length (faces c)
  pub gone : In m.low (faces d) → ⊥
  pub free : (s : List ℕ) → is_set s ≡ true → (In s (column m.high) → ⊥) → (In s (column m.low) → ⊥) → is_free d s ≡ true → is_free c s ≡ true
  pub top : (s : List ℕ) → is_set s ≡ true → (In s (column m.high) → ⊥) → (In s (column m.low) → ⊥) → is_top d s ≡ true → is_top c s ≡ true

pub stepped : (c : List (List ℕ)) (m : MorseStep) → IsFacets c → IsTrue (is_simplex m.low) → is_possible c m ≡ true → IsAfter c (after_step c m) m
stepped c m h u p = by (is_critical m) refl
  where
    by : (v : Bool) → is_critical m ≡ v → IsAfter c (after_step c m) m
    by true e =
        let stands : stands_in c m.low ≡ true = and_right (not (length m.low == 0)) _ (critical_at c m p e) in
        subst (λ d. IsAfter c d m) (ap (λ v. cond v (drop_face c m.low) (collapse c m.low)) (sym e)) (record {
          facets = drop_facets c m.low h;
          shorter = drop_shorter c m.low h stands;
          gone = not_left c m.low h stands;
          free = λ s k f g. free_before c m.low h stands s k g;
          top = λ s k f g. top_before c m.low h stands s k g;
        })
    by false e =
        let q = collapse_at c m p e in
        let k = rising_of m.low u in
        let stands = partner_facet c m.low m.high h k q.partner_is in
        let d = drop_face c m.high in
        let g = drop_facets c m.high h in
        let left = left_facet c m.low m.high h k q.partner_is in
        subst (λ x. IsAfter c x m) (sym (collapse_drops c m.low m.high h k q.partner_is) ∙ ap (λ v. cond v (drop_face c m.low) (collapse c m.low)) (sym e)) (record {
          facets = drop_facets d m.low g;
          shorter = omega (arith, drop_shorter c m.high h stands, drop_shorter d m.low g left);
          gone = not_left d m.low g left;
          free = λ s w a b t. free_before c m.high h stands s w a (free_before d m.low g left s w b t);
          top = λ s w a b t. top_before c m.high h stands s w a (top_before d m.low g left s w b t);
        })

-- what is free or a facet then, is so by the step or was it before
pub ready_after : (c d : List (List ℕ)) (m : MorseStep) (free tops free_more tops_more free_all tops_all : List (List ℕ)) → IsReadyBut m.low c free tops → IsTrue (is_simplex m.low) → is_possible c m ≡ true
    → d ≡ after_step c m → Grows free free_more → Grows tops tops_more → ((s : List ℕ) → In s (column m.high) → Waits d free_more tops_more s)
    → Grows free_more free_all → Grows tops_more tops_all → ((s : List ℕ) → In s (column m.low) → Waits d free_all tops_all s) → IsReady d free_all tops_all
ready_after c d m free tops free_more tops_more free_all tops_all r u p e gf gt high hf ht below =
    record { facets = after.facets; wait = λ s k. by s k (is_member simplex_cmp s (column m.high)) (is_member simplex_cmp s (column m.low)) refl refl }
  where
    after : IsAfter c d m
    after = subst (λ x. IsAfter c x m) (sym e) (stepped c m r.facets u p)

    in_faces_of : (s : List ℕ) → IsTrue (is_simplex s) → is_face d s ≡ true → In s (faces d)
    in_faces_of s k f = in_faces d s (sets_of d after.facets.simplices) (rising_of s k) f

    by : (s : List ℕ) → IsTrue (is_simplex s) → (x y : Bool) → is_member simplex_cmp s (column m.high) ≡ x → is_member simplex_cmp s (column m.low) ≡ y → Waits d free_all tops_all s
    by s k true y f g =
        let w = high s (is_member_at nat_list_cmp_total exact s (column m.high) f) in
        record { as_free = λ t. hf s (w.as_free t); as_top = λ t. ht s (w.as_top t) }
    by s k false true f g = below s (is_member_at nat_list_cmp_total exact s (column m.low) g)
    by s k false false f g = record {
      as_free = λ t. elim (r.wait s k) [
        | inl z ↦ absurd (after.gone (subst (λ x. In x (faces d)) z (in_faces_of s k (free_face d s after.facets t))))
        | inr w ↦ hf s (gf s (w.as_free (after.free s (rising_of s k) off_high off_low t)))
      ];
      as_top = λ t. elim (r.wait s k) [
        | inl z ↦ absurd (after.gone (subst (λ x. In x (faces d)) z (facet_in_faces d s after.facets (and_right (not (length s == 0)) _ t))))
        | inr w ↦ ht s (gt s (w.as_top (after.top s (rising_of s k) off_high off_low t)))
      ];
    }
      where
        off_high : In s (column m.high) → ⊥
        off_high i = false_at _ f (is_member_from nat_list_cmp_total exact s (column m.high) i)

        off_low : In s (column m.low) → ⊥
        off_low i = false_at _ g (is_member_from nat_list_cmp_total exact s (column m.low) i)

-- at the start: each free face has one label less than a facet
pub ready_first : (c free tops : List (List ℕ)) → IsFacets c → ((f : List ℕ) → In f c → In f tops) → ((f s : List ℕ) → In f c → In s (column f) → Waits c free tops s) → IsReady c free tops
ready_first c free tops h top below = record {
  facets = h;
  wait = λ s k. record {
    as_free = λ t. by s k t (partner c s) refl;
    as_top = λ t. top s (is_member_at nat_list_cmp_total exact s c (and_right (not (length s == 0)) _ t));
  };
}
  where
    by : (s : List ℕ) → IsTrue (is_simplex s) → is_free c s ≡ true → (o : Option (List ℕ)) → partner c s ≡ o → In s free
    by s k t None e = absurd (true≢false (sym (and_right (not (length s == 0)) _ t) ∙ ap is_some e))
    by s k t (Some f) e =
        let q = partner_cover c s f h (rising_of s k) e in
        let facet = is_member_at nat_list_cmp_total exact f c (partner_facet c s f h (rising_of s k) e) in
        (below f s facet (subst (λ y. In y (column f)) q.rest (in_map (without f) q.label f q.has))).as_free t

-- ---- the first that waits
pub first_of : (test : List ℕ → Bool) (s : List ℕ) (queue : List (List ℕ)) → IsTakenFirst s queue → ((t : List ℕ) → IsTrue (is_simplex t) → IsTrue (test t) → In t queue) → IsTrue (test s) → IsFirst test s
first_of test s queue f wait p = record { passes = p; longest = λ t k q. f.longest t (wait t k q); least = λ t k q e. f.least t (wait t k q) e }

-- ---- what one partner tells
pub record IsPaired (c : List (List ℕ)) (s t : List ℕ) : Type 0 where
  pub free : is_free c s ≡ true
  pub partner_is : partner c s ≡ Some t

pub paired : (c : List (List ℕ)) (s t : List ℕ) → Some t ≡ free_partner c s → IsPaired c s t
paired c s t e = by (is_free c s) refl e
  where
    by : (b : Bool) → is_free c s ≡ b → Some t ≡ cond b (partner c s) None → IsPaired c s t
    by true f g = record { free = f; partner_is = sym g }
    by false f g = cc

pub unpaired : (c : List (List ℕ)) (s : List ℕ) → None ≡ free_partner c s → is_free c s ≡ true → ⊥
unpaired c s e f = by (partner c s) refl (and_right (not (length s == 0)) _ f)
  where
    by : (o : Option (List ℕ)) → partner c s ≡ o → is_some o ≡ true → ⊥
    by None g k = true≢false (sym k)
    by (Some t) g k = clash (e ∙ ap (λ b. cond b (partner c s) None) f ∙ g)
      where
        clash : {u : List ℕ} → None ≡ Some u → ⊥
        clash q = cc

-- without one that passes no test, all that pass it are left
pub left_over : (test : List ℕ → Bool) (s : List ℕ) (old new : List (List ℕ)) → (test s ≡ true → ⊥) → ((t : List ℕ) → In t old → (t ≡ s) ⊎ In t new)
    → ((t : List ℕ) → IsTrue (is_simplex t) → IsTrue (test t) → In t old) → (t : List ℕ) → IsTrue (is_simplex t) → IsTrue (test t) → In t new
left_over test s old new f less wait t k p = elim (less t (wait t k p)) [ inl e ↦ absurd (f (ap test (sym e) ∙ p)) | inr i ↦ i ]

-- ---- one more that waits
pub waits_more : (c free tops free_more tops_more : List (List ℕ)) (s : List ℕ) → Grows free free_more → Grows tops tops_more → Waits c free tops s → Waits c free_more tops_more s
waits_more c free tops free_more tops_more s f t w = record { as_free = λ p. f s (w.as_free p); as_top = λ p. t s (w.as_top p) }

pub below_more : (f items w : List ℕ) (i : ℕ) (c free tops free_more tops_more : List (List ℕ)) → items ≡ f → i < length items → w ≡ without f (get_or items i 0) → Grows free free_more → Grows tops tops_more
    → Waits c free_more tops_more w → ((s : List ℕ) → In s (map (without f) (take i f)) → Waits c free tops s) → (s : List ℕ) → In s (map (without f) (take (i + 1) f)) → Waits c free_more tops_more s
below_more f items w i c free tops free_more tops_more e l g gf gt here before s k =
    elim (in_either s (map (without f) (take i f)) (without f (get_or f i 0) ∷ []) (subst (λ xs. In s xs) (ap (map (without f)) (take_more f i 0 (subst (λ xs. i < length xs) e l)) ∙ map-append (without f) (take i f) (get_or f i 0 ∷ [])) k)) [
      | inl j ↦ waits_more c free tops free_more tops_more s gf gt (before s j)
      | inr j ↦ elim (cases j) [ inl q ↦ subst (λ x. Waits c free_more tops_more x) (g ∙ ap (λ xs. without f (get_or xs i 0)) e ∙ sym q) here | inr n ↦ absurd (none s n) ]
    ]

pub below_all : (f items : List ℕ) (i : ℕ) (c free tops : List (List ℕ)) → items ≡ f → length items ≤ i → ((s : List ℕ) → In s (map (without f) (take i f)) → Waits c free tops s) → (s : List ℕ) → In s (column f) → Waits c free tops s
below_all f items i c free tops e l before s k = before s (subst (λ xs. In s (map (without f) xs)) (sym (take_all i f (subst (λ xs. length xs ≤ i) e l))) k)

-- the facets so far wait, and what lies right below them
pub record HaveWaited (l c free tops : List (List ℕ)) : Type 0 where
  pub top : (f : List ℕ) → In f l → In f tops
  pub below : (f s : List ℕ) → In f l → In s (column f) → Waits c free tops s

pub waited_more : (l : List (List ℕ)) (i : ℕ) (f : List ℕ) (c free tops free_more tops_more : List (List ℕ)) → i < length l → f ≡ get_or l i f → Grows free free_more → Grows tops tops_more → In f tops_more
    → ((s : List ℕ) → In s (column f) → Waits c free_more tops_more s) → HaveWaited (take i l) c free tops → HaveWaited (take (i + 1) l) c free_more tops_more
waited_more l i f c free tops free_more tops_more h e gf gt top below before = record {
  top = λ g j. elim (split g j) [ inl k ↦ gt g (before.top g k) | inr q ↦ subst (λ x. In x tops_more) (sym q) top ];
  below = λ g s j k. elim (split g j) [ inl m ↦ waits_more c free tops free_more tops_more s gf gt (before.below g s m k) | inr q ↦ below s (subst (λ x. In s (column x)) q k) ];
}
  where
    split : (g : List ℕ) → In g (take (i + 1) l) → In g (take i l) ⊎ (g ≡ f)
    split g j = elim (in_either g (take i l) (f ∷ []) (subst (λ xs. In g xs) (take_more l i f h ∙ ap (λ x. take i l ++ x ∷ []) (sym e)) j)) [
      | inl k ↦ inl k
      | inr k ↦ elim (cases k) [ inl q ↦ inr q | inr n ↦ absurd (none g n) ]
    ]

pub ready_of : (c items free tops : List (List ℕ)) (i : ℕ) → IsFacets c → items ≡ c → length items ≤ i → HaveWaited (take i items) c free tops → IsReady c free tops
ready_of c items free tops i h e l w =
    let all : HaveWaited c c free tops = subst (λ xs. HaveWaited xs c free tops) (take_all i items l ∙ e) w in
    ready_first c free tops h all.top all.below

pub shorter_after : (c d : List (List ℕ)) (m : MorseStep) → IsFacets c → IsTrue (is_simplex m.low) → is_possible c m ≡ true → d ≡ after_step c m → length (faces d) < length (faces c)
shorter_after c d m h u p e = subst (λ x. length (faces x) < length (faces c)) (sym e) (stepped c m h u p).shorter

-- all but the free face that is taken wait
pub but_free : (c free tops new : List (List ℕ)) (f : List ℕ) → IsReady c free tops → ((s : List ℕ) → IsTrue (is_simplex s) → IsTrue (is_free c s) → (s ≡ f) ⊎ In s new) → IsReadyBut f c new tops
but_free c free tops new f r wait = record { facets = r.facets; wait = λ s u. by s u (is_free c s) refl }
  where
    by : (s : List ℕ) → IsTrue (is_simplex s) → (b : Bool) → is_free c s ≡ b → (s ≡ f) ⊎ Waits c new tops s
    by s u true e = elim (wait s u e) [ inl g ↦ inl g | inr i ↦ inr (record { as_free = λ p. i; as_top = (r.wait s u).as_top }) ]
    by s u false e = inr (record { as_free = λ p. absurd (true≢false (sym p ∙ e)); as_top = (r.wait s u).as_top })

-- all but the facet that is taken wait, where no face is free
pub but_top : (c free tops new queue : List (List ℕ)) (f : List ℕ) → IsReady c free tops → ((s : List ℕ) → IsTrue (is_simplex s) → is_free c s ≡ false) → ((s : List ℕ) → IsTrue (is_simplex s) → IsTrue (is_top c s) → (s ≡ f) ⊎ In s new)
    → IsReadyBut f c queue new
but_top c free tops new queue f r none_free wait = record { facets = r.facets; wait = λ s u. by s u (is_top c s) refl }
  where
    by : (s : List ℕ) → IsTrue (is_simplex s) → (b : Bool) → is_top c s ≡ b → (s ≡ f) ⊎ Waits c queue new s
    by s u true e = elim (wait s u e) [ inl g ↦ inl g | inr i ↦ inr (record { as_free = λ p. absurd (true≢false (sym p ∙ none_free s u)); as_top = λ p. i }) ]
    by s u false e = inr (record { as_free = λ p. absurd (true≢false (sym p ∙ none_free s u)); as_top = λ p. absurd (true≢false (sym p ∙ e)) })

-- ---- one step more
pub list_more : (c d e : List (List ℕ)) (ms new : List MorseStep) (m : MorseStep) → IsGreedyCollapse d m ⊎ IsGreedyDrop d m → e ≡ after_step d m → new ≡ ms ++ m ∷ []
    → ((rest : List MorseStep) → IsGreedyList d rest → IsGreedyList c (ms ++ rest)) → (rest : List MorseStep) → IsGreedyList e rest → IsGreedyList c (new ++ rest)
list_more c d e ms new m g f k before rest w =
    subst (IsGreedyList c) (sym (ap (λ xs. xs ++ rest) k ∙ append_assoc ms (m ∷ []) rest)) (before (m ∷ rest) (g, subst (λ x. IsGreedyList x rest) f w))

pub list_whole : (c d : List (List ℕ)) (ms : List MorseStep) → ((rest : List MorseStep) → IsGreedyList d rest → IsGreedyList c (ms ++ rest)) → is_bare d ≡ true → IsGreedyList c ms
list_whole c d ms before b = subst (IsGreedyList c) (append-nil ms) (before [] b)
