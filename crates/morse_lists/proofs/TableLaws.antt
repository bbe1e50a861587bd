-- Tables of cells say what the complex says.
use Rattle.std.proofs.Common.{◌≡◌, ℕ, ◌<◌, Bool, true, false, not, cond, ◌&&◌, List, [], ◌∷◌, length, refl, sym, ap, ◌∙◌, subst, arith}
use mathlib.Core.Bool.{true≢false}
use Rattle.std.specs.Prelude.{◌==◌, Option, Some, None, is_some}
use Rattle.std.specs.Bool.{IsTrue}
use Rattle.std.specs.HashMap.{HashMap, get, keys}
use Rattle.std.specs.List.{list_all, list_any, sum}
use Rattle.std.specs.Option.{option_map}
use Rattle.std.proofs.lemmas.Cmp.{nat_list_cmp_total}
use Rattle.std.proofs.lemmas.Map.Made.{is_some-lookup}
use Rattle.simplex.specs.Simplex.{is_simplex, is_same, is_label, union}
use Rattle.simplex.proofs.Filled.{rising_of}
use Rattle.simplex.proofs.InOrderLaws.{and_left, and_right, and_both}
use Rattle.simplex.proofs.Members.{In, first, any_at, any_from, all_at, all_from, in_filter, from_filter, is_member_at, is_member_from}
use Rattle.simplex.proofs.Decided.{agree, equal_at, equal_from, false_from, not_true, not_from}
use Rattle.facet_set.specs.Complex.{generated, is_face, is_maximal_in, faces, stands_in}
use Rattle.facet_set.specs.Facets.{IsFacets}
use Rattle.facet_set.specs.Parts.{faces_where}
use Rattle.facet_set.proofs.ComplexLaws.{exact, is_set, same_from, same_itself, generated_same, maximal_at, face_at, from_faces, in_faces, sets_of, is_face-faces_where}
use Rattle.facet_set.proofs.FaceLaws.{known_by_faces_lem}
use Rattle.facet_set.proofs.FaceNumbers.{same_from as matched}
use Rattle.facet_set.proofs.GeneratedLaws.{filter_all, same_at}
use Rattle.collapse_moves.specs.Collapses.{partner, is_free, drop_face}
use Rattle.collapse_moves.proofs.CollapseLaws.{free_face}
use Rattle.morse_lists.specs.declared.cells.Cell.{Cell}
use Rattle.morse_lists.specs.Cells.{same, extra, ups, without_labels, cell_in, cell_at, complex_in, partner_by, IsTableOf}
use Rattle.morse_lists.specs.Morse.{is_bare, is_top, free_partner}
use Rattle.morse_lists.proofs.CellLaws.{cell_less}
use Rattle.morse_lists.proofs.DropLaws.{dropped, drop_facets, faces_drop, facets_where, facet_in_faces}
use Rattle.morse_lists.proofs.ListLaws.{sum_one}
use Rattle.morse_lists.proofs.UpLaws.{facet_none, none_facet, no_partner, one_partner, two_partners, up_label}

-- a test of all members of a list
pub any_in : (s : List ℕ) (l : List (List ℕ)) → list_any (same s) l ≡ true → In s l
any_in s l h = let r = any_at (same s) l h in subst (λ t. In t l) (sym (same_at s r.0 r.2)) r.1

pub in_any : (s : List ℕ) (l : List (List ℕ)) → In s l → list_any (same s) l ≡ true
in_any s l i = any_from (same s) s l i (matched s s refl)

-- all faces generate the complex
pub faces_generate : (c : List (List ℕ)) → IsFacets c → generated (faces c) ≡ c
faces_generate c h =
    ap generated (sym (filter_all (λ b. true) (faces c) (λ b i. refl)))
    ∙ known_by_faces_lem (faces_where (λ b. true) c) c d.simplices h.simplices d.complex h.complex
    (λ s k. is_face-faces_where (λ b. true) c (sets_of c h.simplices) (λ x y p q w e. refl) s (rising_of s k) ∙ and_true (is_face c s))
  where
    d : IsFacets (faces_where (λ b. true) c)
    d = facets_where (λ b. true) c h

    and_true : (v : Bool) → (v && true) ≡ v
    and_true true = refl
    and_true false = refl

module _ {S : Type 0} (c : List (List ℕ)) (m : HashMap (List ℕ) Cell S) (h : IsTableOf c m) where
  key_is : (s : List ℕ) → list_any (same s) (keys m) ≡ list_any (same s) (faces c)
  key_is s = sym (is_some-lookup (same s) m.entries) ∙ ap is_some (h.cells s) ∙ by (list_any (same s) (faces c))
    where
      by : (b : Bool) → is_some (cond b (Some (cell_in (faces c) s)) None) ≡ b
      by true = refl
      by false = refl

  pub complex_is : complex_in m ≡ c
  complex_is =
      generated_same (keys m) (faces c)
      (λ s i. any_in s (faces c) (sym (key_is s) ∙ in_any s (keys m) i))
      (λ s i. any_in s (keys m) (key_is s ∙ in_any s (faces c) i))
      ∙ faces_generate c h.facets

  pub table_from : IsTableOf (complex_in m) m
  table_from = subst (λ d. IsTableOf d m) (sym complex_is) h

  -- what is kept at a face
  pub record IsKept (s : List ℕ) (cell : Cell) : Type 0 where
    pub member : In s (faces c)
    pub value : cell ≡ cell_in (faces c) s

  pub kept : (s : List ℕ) (cell : Cell) → Some cell ≡ get same m s → IsKept s cell
  kept s cell e = by (list_any (same s) (faces c)) refl (e ∙ h.cells s)
    where
      by : (b : Bool) → list_any (same s) (faces c) ≡ b → Some cell ≡ cond b (Some (cell_in (faces c) s)) None → IsKept s cell
      by true g f = record { member = any_in s (faces c) g; value = cc }
      by false g f = cc

  pub not_kept : (s : List ℕ) → None ≡ get same m s → In s (faces c) → ⊥
  not_kept s e i = by (list_any (same s) (faces c)) (in_any s (faces c) i) (e ∙ h.cells s)
    where
      by : (b : Bool) → b ≡ true → None ≡ cond b (Some (cell_in (faces c) s)) None → ⊥
      by true g f = cc
      by false g f = true≢false (sym g)

  kept_set : (s : List ℕ) (cell : Cell) → IsKept s cell → (is_set s ≡ true) × (is_face c s ≡ true)
  kept_set s cell k = from_faces c s (sets_of c h.facets.simplices) k.member

  -- ---- facets
  count_facet : (s : List ℕ) (cell : Cell) → IsKept s cell → (cell.count == 0) ≡ stands_in c s
  count_facet s cell k = ap (λ x. x.count == 0) k.value ∙ agree _ _
      (λ e. none_facet c h.facets s (kept_set s cell k).0 (kept_set s cell k).1 (empty (ups (faces c) s) (equal_at (length (ups (faces c) s)) 0 e)))
      (λ e. equal_from (length (ups (faces c) s)) 0 (ap length (facet_none c h.facets s e)))
    where
      empty : (vs : List ℕ) → length vs ≡ 0 → vs ≡ []
      empty [] e = refl
      empty (v ∷ vs) e = absurd (omega (arith, e))

  pub top_some : (s : List ℕ) (cell : Cell) → Some cell ≡ get same m s → false ≡ (length s == 0) → (cell.count == 0) ≡ is_top c s
  top_some s cell e n = count_facet s cell (kept s cell e) ∙ ap (λ b. not b && stands_in c s) n

  pub top_none : (s : List ℕ) → None ≡ get same m s → false ≡ is_top c s
  top_none s e = sym (false_from (is_top c s) (λ t. not_kept s e (facet_in_faces c s h.facets (and_right (not (length s == 0)) _ t))))

  -- ---- partners
  pub partner_some : (s : List ℕ) (cell : Cell) → Some cell ≡ get same m s → partner_by cell s ≡ free_partner c s
  partner_some s cell e = ap (λ x. partner_by x s) k.value ∙ by (ups (faces c) s) refl
    where
      k : IsKept s cell
      k = kept s cell e

      rises : is_set s ≡ true
      rises = (kept_set s cell k).0

      empty : Option (List ℕ)
      empty = None

      nothing : (b : Bool) (o : Option (List ℕ)) → cond (b && false) o None ≡ cond (b && false) empty None
      nothing true o = refl
      nothing false o = refl

      something : (b : Bool) (t : List ℕ) → cond (b && true) (Some t) None ≡ cond (b && is_some (Some t)) (Some t) None
      something true t = refl
      something false t = refl

      by : (vs : List ℕ) → ups (faces c) s ≡ vs → partner_by (let x : Cell = record { count = length (ups (faces c) s); sum = sum (ups (faces c) s) } in x) s ≡ free_partner c s
      by vs g = ap (λ us. partner_by (let x : Cell = record { count = length us; sum = sum us } in x) s) g ∙ on vs g
        where
          on : (us : List ℕ) → ups (faces c) s ≡ us → partner_by (let x : Cell = record { count = length us; sum = sum us } in x) s ≡ free_partner c s
          on [] f = nothing (not (length s == 0)) (Some (union s (0 ∷ []))) ∙ ap (λ o. cond (not (length s == 0) && is_some o) o None) (sym (no_partner c h.facets s rises f))
          on (v ∷ []) f =
              ap (λ n. cond (not (length s == 0) && true) (Some (union s (n ∷ []))) None) (sum_one v) ∙ something (not (length s == 0)) (union s (v ∷ []))
              ∙ ap (λ o. cond (not (length s == 0) && is_some o) o None) (sym (one_partner c h.facets s v rises f))
          on (v ∷ w ∷ us) f =
              ap (λ b. cond (not (length s == 0) && b) (Some (union s (sum (v ∷ w ∷ us) ∷ []))) None) many
              ∙ nothing (not (length s == 0)) (Some (union s (sum (v ∷ w ∷ us) ∷ []))) ∙ ap (λ o. cond (not (length s == 0) && is_some o) o None) (sym (two_partners c h.facets s v w us f))
            where
              many : (length (v ∷ w ∷ us) == 1) ≡ false
              many = false_from _ (λ q. absurd (omega (arith, equal_at (length (v ∷ w ∷ us)) 1 q)))

  pub partner_none : (s : List ℕ) → IsTrue (is_simplex s) → None ≡ get same m s → None ≡ free_partner c s
  partner_none s u e = by (is_free c s) refl
    where
      by : (b : Bool) → is_free c s ≡ b → None ≡ cond b (partner c s) None
      by true g = absurd (not_kept s e (in_faces c s (sets_of c h.facets.simplices) (rising_of s u) (free_face c s h.facets g)))
      by false g = refl

  pub partner_fits : (s : List ℕ) (cell : Cell) → Some cell ≡ get same m s → cell.count ≡ 1 → IsTrue (is_label cell.sum) × (length s < 12)
  partner_fits s cell e n = by (ups (faces c) s) refl (ap (λ x. x.count) (sym k.value) ∙ n)
    where
      k : IsKept s cell
      k = kept s cell e

      by : (vs : List ℕ) → ups (faces c) s ≡ vs → length (ups (faces c) s) ≡ 1 → IsTrue (is_label cell.sum) × (length s < 12)
      by [] g l = absurd (omega (arith, ap length g, l))
      by (v ∷ []) g l =
          let q = up_label c h.facets s v (subst (λ us. In v us) (sym g) first) in
          (subst (λ x. IsTrue (is_label x)) (sym (ap (λ x. x.sum) k.value ∙ ap sum g ∙ sum_one v)) q.0, q.1)
      by (v ∷ w ∷ vs) g l = absurd (omega (arith, ap length g, l))

  -- ---- nothing but the empty face
  pub bare_some : (cell : Cell) → Some cell ≡ get same m [] → (cell.count == 0) ≡ is_bare c
  bare_some cell e = count_facet [] cell (kept [] cell e) ∙ agree (stands_in c []) (is_bare c) all_empty back
    where
      all_empty : stands_in c [] ≡ true → is_bare c ≡ true
      all_empty t = all_from (λ s. length s == 0) c (λ s i.
          let top : is_maximal_in c [] ≡ true = all_at (is_maximal_in c) [] c (and_right _ (list_all (is_maximal_in c) c) h.facets.complex) (member t) in
          let one : is_same [] s ≡ true = must (is_same [] s) (maximal_at c [] s top i) in
          ap (λ u. length u == 0) (sym (same_from [] s one)))
        where
          member : stands_in c [] ≡ true → In [] c
          member q = is_member_at nat_list_cmp_total exact [] c q

          must : (v : Bool) → not v ≡ false → v ≡ true
          must true q = refl
          must false q = absurd (true≢false q)

      back : is_bare c ≡ true → stands_in c [] ≡ true
      back b =
          let r = face_at c [] (kept_set [] cell (kept [] cell e)).1 in
          is_member_from nat_list_cmp_total exact [] c
          (subst (λ t. In t c) (empty r.0 (equal_at (length r.0) 0 (all_at (λ s. length s == 0) r.0 c b r.1))) r.1)
        where
          empty : (t : List ℕ) → length t ≡ 0 → t ≡ []
          empty [] q = refl
          empty (x ∷ t) q = absurd (omega (arith, q))

  pub bare_none : None ≡ get same m [] → true ≡ is_bare c
  bare_none e = by c refl
    where
      by : (d : List (List ℕ)) → c ≡ d → true ≡ is_bare c
      by [] g = sym (ap is_bare g)
      by (s ∷ d) g = absurd (not_kept [] e (in_faces c [] (sets_of c h.facets.simplices) refl (ap (λ x. is_face x []) g)))

-- ---- a facet goes
pub table_drop : {S : Type 0} (c : List (List ℕ)) (f : List ℕ) (m lowered new : HashMap (List ℕ) Cell S) → IsTableOf c m → stands_in c f ≡ true
    → ((s : List ℕ) → get same lowered s ≡ option_map (without_labels (extra s f)) (get same m s)) → ((s : List ℕ) → get same new s ≡ cond (same f s) None (get same lowered s))
    → IsTableOf (drop_face c f) new
table_drop c f m lowered new h t low out = record { facets = drop_facets c f h.facets; cells = λ s. out s ∙ ap (cond (same f s) None) (low s ∙ ap (option_map (without_labels (extra s f))) (h.cells s)) ∙ at s }
  where
    d : List (List ℕ)
    d = drop_face c f

    any_left : (s : List ℕ) → list_any (same s) (faces d) ≡ (list_any (same s) (faces c) && not (same f s))
    any_left s = ap (list_any (same s)) (faces_drop c f h.facets t) ∙ agree _ _
        (λ e.
        let r = from_filter (λ b. not (is_same b f)) s (faces c) (any_in s _ e) in
        and_both _ _ (in_any s (faces c) r.0) (not_from (same f s) (λ q. true≢false (sym (ap (λ x. is_same x f) (sym (same_at f s q)) ∙ same_itself f) ∙ not_true (is_same s f) r.1))))
        (λ e.
        in_any s _ (in_filter (λ b. not (is_same b f)) s (faces c) (any_in s (faces c) (and_left _ _ e))
        (not_from (is_same s f) (λ q. true≢false (sym (matched f s (sym (same_from s f q))) ∙ not_true (same f s) (and_right (list_any (same s) (faces c)) _ e))))))

    less_at : (s : List ℕ) → without_labels (extra s f) (cell_in (faces c) s) ≡ cell_in (faces d) s
    less_at s =
        let q = dropped c f h.facets t in
        ap (λ l. without_labels (extra s f) (cell_in l s)) q.before ∙ cell_less q.front q.back f s ∙ ap (λ l. cell_in l s) (sym q.after)

    at : (s : List ℕ) → cond (same f s) None (option_map (without_labels (extra s f)) (cond (list_any (same s) (faces c)) (Some (cell_in (faces c) s)) None)) ≡ cell_at (faces d) s
    at s = by (same f s) (list_any (same s) (faces c)) ∙ sym (ap (λ b. cond b (Some (cell_in (faces d) s)) None) (any_left s))
      where
        by : (u v : Bool) → cond u None (option_map (without_labels (extra s f)) (cond v (Some (cell_in (faces c) s)) None)) ≡ cond (v && not u) (Some (cell_in (faces d) s)) None
        by true true = refl
        by true false = refl
        by false true = ap Some (less_at s)
        by false false = refl
