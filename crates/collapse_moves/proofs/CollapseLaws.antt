-- Collapses and droppings are deletions, and what their faces are.
use Rattle.std.proofs.Common.{◌≡◌, ℕ, Bool, true, false, not, ◌&&◌, ◌||◌, List, ◌∷◌, refl, sym, ap, ◌∙◌, subst}
use mathlib.Core.Bool.{true≢false}
use Rattle.std.specs.Bool.{IsTrue}
use Rattle.std.specs.Prelude.{◌==◌, length, Option, Some, None, is_some, Result, IfOk}
use Rattle.std.specs.List.{list_all}
use Rattle.std.proofs.lemmas.Cmp.{nat_list_cmp_total}
use Rattle.simplex.specs.InOrder.{is_increasing}
use Rattle.simplex.specs.Simplex.{is_within, is_same, simplex_cmp}
use Rattle.simplex.proofs.Filled.{rising_of}
use Rattle.simplex.proofs.InOrderLaws.{and_right, and_both}
use Rattle.simplex.proofs.Members.{In, all_at, is_member_at}
use Rattle.simplex.proofs.SimplexLaws.{within_itself, within_trans, same_labels}
use Rattle.simplex.proofs.Decided.{agree, not_true, not_from}
use Rattle.facet_set.specs.Complex.{generated, is_face, is_proper_face, is_maximal_in, faces, stands_in}
use Rattle.facet_set.specs.Facets.{IsFacets}
use Rattle.facet_set.specs.Parts.{deletion}
use Rattle.facet_set.proofs.ComplexLaws.{exact, is_set, same_from, same_itself, maximal_at, face_at, face_from, face_below, from_faces, is_face-generated, is_face-faces_where, sets_of}
use Rattle.facet_set.proofs.GeneratedLaws.{filter_same, if_ok}
use Rattle.collapse_moves.specs.Collapses.{partner, is_free, collapse, drop_face}
use Rattle.collapse_moves.specs.Laws.{CollapseFaces, DropFaces, AddFaces}
use Rattle.collapse_moves.proofs.FreeLaws.{partner_above, partner_only}

-- the simplex and those in which it lies properly are those that it lies in
not_over : (s b : List ℕ) → (not (is_same b s) && not (is_proper_face s b)) ≡ not (is_within s b)
not_over s b = by (is_same b s) (is_within s b) (is_same s b)
    (λ e. ap (is_within s) (same_from b s e) ∙ within_itself s)
    (λ e. ap (is_same b) (same_from s b e) ∙ same_itself b)
  where
    by : (v w u : Bool) → (v ≡ true → w ≡ true) → (u ≡ true → v ≡ true) → (not v && not (w && not u)) ≡ not w
    by true true u f g = refl
    by true false u f g = absurd (true≢false (sym (f refl)))
    by false true true f g = absurd (true≢false (sym (g refl)))
    by false true false f g = refl
    by false false u f g = refl

pub collapse_is : (c : List (List ℕ)) (s : List ℕ) → collapse c s ≡ deletion c s
collapse_is c s = ap generated (filter_same (λ b. not (is_same b s) && not (is_proper_face s b)) (λ b. not (is_within s b)) (faces c) (λ b i. not_over s b))

-- a facet lies in no face but itself
facet_over : (c : List (List ℕ)) (f b : List ℕ) → IsFacets c → stands_in c f ≡ true → is_set b ≡ true → is_face c b ≡ true → is_within f b ≡ true → b ≡ f
facet_over c f b h m u k w =
    let i : In f c = is_member_at nat_list_cmp_total exact f c m in
    let top : is_maximal_in c f ≡ true = all_at (is_maximal_in c) f c (and_right (is_increasing simplex_cmp c) _ h.complex) i in
    let r = face_at c b k in
    let over : is_within f r.0 ≡ true = within_trans f b r.0 w r.2 in
    let same : f ≡ r.0 = same_from f r.0 (by (is_within f r.0) (is_same f r.0) over (maximal_at c f r.0 top r.1)) in
    same_labels b f u (all_at is_set f c (sets_of c h.simplices) i) (subst (λ t. is_within b t ≡ true) (sym same) r.2) w
  where
    by : (v w : Bool) → v ≡ true → (v && not w) ≡ false → w ≡ true
    by true true a b = refl
    by true false a b = sym b
    by false w a b = absurd (true≢false (sym a))

not_facet : (c : List (List ℕ)) (f b : List ℕ) → IsFacets c → stands_in c f ≡ true → is_set b ≡ true → is_face c b ≡ true → is_same b f ≡ is_within f b
not_facet c f b h m u k =
    agree (is_same b f) (is_within f b)
    (λ e. ap (is_within f) (same_from b f e) ∙ within_itself f)
    (λ w. ap (is_same b) (sym (facet_over c f b h m u k w)) ∙ same_itself b)

pub drop_is : (c : List (List ℕ)) (f : List ℕ) → IsFacets c → stands_in c f ≡ true → drop_face c f ≡ deletion c f
drop_is c f h m =
    ap generated (filter_same (λ b. not (is_same b f)) (λ b. not (is_within f b)) (faces c) (λ b i.
    let p = from_faces c b (sets_of c h.simplices) i in
    ap not (not_facet c f b h m p.0 p.1)))

pub deletion_faces : (c : List (List ℕ)) (a b : List ℕ) → list_all is_set c ≡ true → is_set b ≡ true → is_face (deletion c a) b ≡ (is_face c b && not (is_within a b))
deletion_faces c a b h k =
    is_face-faces_where (λ s. not (is_within a s)) c h (λ s t p q w e. not_from (is_within a s) (λ u. true≢false (sym (within_trans a s t u w) ∙ not_true (is_within a t) e))) b k

pub collapsed_is : {E : Type 0} (c : List (List ℕ)) (s : List ℕ) (r : Result (List (List ℕ)) E) → IfOk r (λ d. d ≡ deletion c s) → IfOk r (λ d. d ≡ collapse c s)
collapsed_is c s r h = if_ok (λ d. d ≡ deletion c s) (λ d. d ≡ collapse c s) r (λ d e. e ∙ sym (collapse_is c s)) h

pub dropped_is : {E : Type 0} (c : List (List ℕ)) (f : List ℕ) (r : Result (List (List ℕ)) E) → IsFacets c → IsTrue (stands_in c f) → IfOk r (λ d. d ≡ deletion c f) → IfOk r (λ d. d ≡ drop_face c f)
dropped_is c f r h m k = if_ok (λ d. d ≡ deletion c f) (λ d. d ≡ drop_face c f) r (λ d e. e ∙ sym (drop_is c f h m)) k

-- ---- the faces after a collapse
beside : (c : List (List ℕ)) (s t b : List ℕ) → list_all is_set c ≡ true → partner c s ≡ Some t → is_set b ≡ true → is_face c b ≡ true → is_within s b ≡ (is_same b s || is_same b t)
beside c s t b h e u k =
    agree (is_within s b) (is_same b s || is_same b t)
    (λ w. by (is_same b s) (is_same b t) (λ f.
    let another : s ≡ b → ⊥ = λ g. true≢false (sym (ap (is_same b) g ∙ same_itself b) ∙ f) in
    ap (is_same b) (sym (partner_only c s t b h e (record { set = u; face = k; within = w; another = another }))) ∙ same_itself b))
    (λ f. elim (is_same b s) as (λ v. is_same b s ≡ v → (v || is_same b t) ≡ true → is_within s b ≡ true) [
      | true ↦ λ g _. ap (is_within s) (same_from b s g) ∙ within_itself s
      | false ↦ λ g f. ap (is_within s) (same_from b t f) ∙ (partner_above c s t h e).within
    ] refl f)
  where
    by : (v w : Bool) → (v ≡ false → w ≡ true) → (v || w) ≡ true
    by true w f = refl
    by false w f = f refl

neither : (u v w x : Bool) → (u ≡ true → v ≡ (w || x)) → (u && not v) ≡ (u && not w && not x)
neither true v true x f = ap not (f refl)
neither true v false x f = ap not (f refl)
neither false v w x f = refl

pub collapse_faces_lem : CollapseFaces
collapse_faces_lem c s t b h e k =
    ap (λ d. is_face d b) (collapse_is c s) ∙ deletion_faces c s b (sets_of c h) (rising_of b k)
    ∙ neither (is_face c b) (is_within s b) (is_same b s) (is_same b t) (λ f. beside c s t b (sets_of c h) e (rising_of b k) f)

-- ---- the faces after a facet goes or comes
same_and : (u v w : Bool) → (u ≡ true → v ≡ w) → (u && not v) ≡ (u && not w)
same_and true v w f = ap not (f refl)
same_and false v w f = refl

pub drop_faces_lem : DropFaces
drop_faces_lem c f b h x m k =
    let facets : IsFacets c = record { simplices = h; complex = x } in
    ap (λ d. is_face d b) (drop_is c f facets m) ∙ deletion_faces c f b (sets_of c h) (rising_of b k)
    ∙ same_and (is_face c b) (is_within f b) (is_same b f) (λ i. sym (not_facet c f b facets m (rising_of b k) i))

or_swap : (v w : Bool) → (v || w) ≡ (w || v)
or_swap true true = refl
or_swap true false = refl
or_swap false true = refl
or_swap false false = refl

pub add_faces_lem : AddFaces
add_faces_lem c f b h k = is_face-generated (f ∷ c) b (and_both _ _ (rising_of f k) (sets_of c h)) ∙ or_swap (is_within b f) (is_face c b)

-- ---- faces that a collapse or a dropping asks for
pub free_face : (c : List (List ℕ)) (s : List ℕ) → IsFacets c → IsTrue (is_free c s) → is_face c s ≡ true
free_face c s h e = by (partner c s) refl (and_right (not (length s == 0)) _ e)
  where
    by : (o : Option (List ℕ)) → partner c s ≡ o → is_some o ≡ true → is_face c s ≡ true
    by (Some t) f g = let a = partner_above c s t (sets_of c h.simplices) f in face_below c s t a.within a.face
    by None f g = absurd (true≢false (sym g))

pub facet_face : (c : List (List ℕ)) (f : List ℕ) → IsTrue (stands_in c f) → is_face c f ≡ true
facet_face c f m = face_from c f f (is_member_at nat_list_cmp_total exact f c m) (within_itself f)

-- what a collapse and a dropping rest on
pub ruleset collapses = (free_face, collapsed_is)

pub ruleset droppings = (facet_face, dropped_is)
