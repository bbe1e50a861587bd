-- How cells are told of faces, one after another.
use Rattle.std.proofs.Common.{◌≡◌, ℕ, ◌+◌, ◌<◌, ◌≤◌, Bool, true, false, cond, ◌||◌, List, [], ◌∷◌, ◌++◌, length, length-append, get_or, take, refl, sym, ap, ◌∙◌, subst, arith}
use Rattle.std.specs.Prelude.{Option, Some, None}
use Rattle.std.specs.Option.{option_map}
use Rattle.std.specs.List.{filter, list_any, sum}
use Rattle.std.proofs.lemmas.Grind.{flat_map-append}
use Rattle.std.proofs.lemmas.List.{append-nil, get_or_default, take_all, take_more}
use Rattle.simplex.specs.Simplex.{without}
use Rattle.simplex.proofs.SimplexLaws.{list_any-append}
use Rattle.facet_set.proofs.FaceNumbers.{swapped}
use Rattle.facet_set.proofs.GeneratedLaws.{same_at}
use Rattle.morse_lists.specs.declared.cells.Cell.{Cell}
use Rattle.morse_lists.specs.Cells.{same, extra, ups, blank, more, less, with_labels, without_labels, cell_in}
use Rattle.morse_lists.proofs.ListLaws.{filter_more, sum-append}

pub cell_same : (a b c d : ℕ) → a ≡ c → b ≡ d → (let x : Cell = record { count = a; sum = b } in x) ≡ (let y : Cell = record { count = c; sum = d } in y)
cell_same a b c d e f = λ i. record { count = e i; sum = f i }

pub with_more : (vs : List ℕ) (v : ℕ) (cell : Cell) → more v (with_labels vs cell) ≡ with_labels (vs ++ v ∷ []) cell
with_more vs v cell = cell_same _ _ _ _ (omega (arith, length-append vs (v ∷ []))) (omega (arith, sum-append vs (v ∷ [])))

pub without_more : (vs : List ℕ) (v : ℕ) (cell : Cell) → less v (without_labels vs cell) ≡ without_labels (vs ++ v ∷ []) cell
without_more vs v cell = cell_same _ _ _ _ (omega (arith, length-append vs (v ∷ []))) (omega (arith, sum-append vs (v ∷ [])))

pub with_both : (vs ws : List ℕ) → (let x : Cell = record { count = length vs; sum = sum vs } in with_labels ws x) ≡ (let y : Cell = record { count = length (vs ++ ws); sum = sum (vs ++ ws) } in y)
with_both vs ws = cell_same _ _ _ _ (omega (arith, length-append vs ws)) (omega (arith, sum-append vs ws))

-- a cell is changed by one label after another
module _ (one : ℕ → Cell → Cell) (all : List ℕ → Cell → Cell) (next : (vs : List ℕ) (v : ℕ) (cell : Cell) → one v (all vs cell) ≡ all (vs ++ v ∷ []) cell) where
  next_at : (vs : List ℕ) (v : ℕ) (o : Option Cell) → option_map (one v) (option_map (all vs) o) ≡ option_map (all (vs ++ v ∷ [])) o
  next_at vs v None = refl
  next_at vs v (Some cell) = ap Some (next vs v cell)

  pub label_more : (f items w : List ℕ) (i : ℕ) (old now new : List ℕ → Option Cell) → items ≡ f → i < length items → w ≡ without f (get_or items i 0)
      → ((t : List ℕ) → new t ≡ cond (same w t) (option_map (one (get_or items i 0)) (now w)) (now t))
      → ((s : List ℕ) → now s ≡ option_map (all (filter (λ v. same (without f v) s) (take i f))) (old s))
      → (s : List ℕ) → new s ≡ option_map (all (filter (λ v. same (without f v) s) (take (i + 1) f))) (old s)
  label_more f items w i old now new e l g step before s =
      step s ∙ by (same w s) refl ∙ sym (ap (λ vs. option_map (all vs) (old s)) (filter_more p f i v inside at ∙ ap (λ b. filter p (take i f) ++ cond b (v ∷ []) []) (ap (λ u. same u s) (sym here))))
    where
      v : ℕ
      v = get_or items i 0

      p : ℕ → Bool
      p x = same (without f x) s

      inside : i < length f
      inside = subst (λ xs. i < length xs) e l

      here : w ≡ without f v
      here = g

      at : v ≡ get_or f i v
      at = ap (λ xs. get_or xs i 0) e ∙ found f i v inside
        where
          found : (xs : List ℕ) (k d : ℕ) → k < length xs → get_or xs k 0 ≡ get_or xs k d
          found xs k d h = get_or_default xs k 0 d h

      by : (b : Bool) → same w s ≡ b → cond b (option_map (one v) (now w)) (now s) ≡ option_map (all (filter p (take i f) ++ cond (same w s) (v ∷ []) [])) (old s)
      by true q =
          ap (λ t. option_map (one v) (now t)) (same_at w s q) ∙ ap (option_map (one v)) (before s) ∙ next_at (filter p (take i f)) v (old s)
          ∙ sym (ap (λ b. option_map (all (filter p (take i f) ++ cond b (v ∷ []) [])) (old s)) q)
      by false q = before s ∙ ap (λ vs. option_map (all vs) (old s)) (sym (append-nil (filter p (take i f)))) ∙ sym (ap (λ b. option_map (all (filter p (take i f) ++ cond b (v ∷ []) [])) (old s)) q)

  pub labels_all : (f items : List ℕ) (i : ℕ) (s : List ℕ) (o : Option Cell) → items ≡ f → length items ≤ i → option_map (all (filter (λ v. same (without f v) s) (take i f))) o ≡ option_map (all (extra s f)) o
  labels_all f items i s o e h = ap (λ xs. option_map (all (filter (λ v. same (without f v) s) xs)) o) (take_all i f (subst (λ xs. length xs ≤ i) e h))

-- ---- one more face
pub ups_more : (l : List (List ℕ)) (f s : List ℕ) → ups (l ++ f ∷ []) s ≡ ups l s ++ extra s f
ups_more l f s = flat_map-append (extra s) l (f ∷ []) ∙ ap (λ vs. ups l s ++ vs) (append-nil (extra s f))

pub cell_more : (l : List (List ℕ)) (f s : List ℕ) → with_labels (extra s f) (cell_in l s) ≡ cell_in (l ++ f ∷ []) s
cell_more l f s = with_both (ups l s) (extra s f) ∙ ap (λ vs. let x : Cell = record { count = length vs; sum = sum vs } in x) (sym (ups_more l f s))

pub face_more : (l : List (List ℕ)) (i : ℕ) (f s : List ℕ) (now new : Option Cell) (b : Bool) → i < length l → f ≡ get_or l i f → new ≡ option_map (with_labels (extra s f)) now
    → now ≡ cond b (Some (cell_in (take i l) s)) None → new ≡ cond b (Some (cell_in (take (i + 1) l) s)) None
face_more l i f s now new b h e g k = g ∙ ap (option_map (with_labels (extra s f))) k ∙ by b
  where
    by : (v : Bool) → option_map (with_labels (extra s f)) (cond v (Some (cell_in (take i l) s)) None) ≡ cond v (Some (cell_in (take (i + 1) l) s)) None
    by true = ap Some (cell_more (take i l) f s ∙ ap (λ m. cell_in m s) (ap (λ x. take i l ++ x ∷ []) e ∙ sym (take_more l i f h)))
    by false = refl

pub blank_more : (l : List (List ℕ)) (i : ℕ) (f s : List ℕ) (now new : Option Cell) → i < length l → f ≡ get_or l i f → new ≡ cond (same f s) (Some blank) now
    → now ≡ cond (list_any (same s) (take i l)) (Some blank) None → new ≡ cond (list_any (same s) (take (i + 1) l)) (Some blank) None
blank_more l i f s now new h e g k =
    g ∙ ap (cond (same f s) (Some blank)) k ∙ by (same f s) (list_any (same s) (take i l)) (same s f) (swapped f s)
    ∙ sym (ap (λ m. cond (list_any (same s) m) (Some blank) None) (take_more l i f h ∙ ap (λ x. take i l ++ x ∷ []) (sym e)) ∙ ap (λ b. cond b (Some blank) None) (list_any-append (same s) (take i l) (f ∷ [])))
  where
    by : (u v w : Bool) → u ≡ w → cond u (Some blank) (cond v (Some blank) None) ≡ cond (v || (w || false)) (Some blank) None
    by u true w q = turn u
      where
        turn : (x : Bool) → cond x (Some blank) (Some blank) ≡ Some blank
        turn true = refl
        turn false = refl
    by true false w q = ap (λ b. cond (b || false) (Some blank) None) q
    by false false w q = ap (λ b. cond (b || false) (Some blank) None) q

-- ---- one face less
pub cell_less : (front back : List (List ℕ)) (f s : List ℕ) → without_labels (extra s f) (cell_in (front ++ f ∷ back) s) ≡ cell_in (front ++ back) s
cell_less front back f s =
    ap (λ vs. let x : Cell = record { count = length vs; sum = sum vs } in without_labels (extra s f) x) (flat_map-append (extra s) front (f ∷ back))
    ∙ cell_same _ _ _ _
    (omega (arith, length-append (ups front s) (extra s f ++ ups back s), length-append (extra s f) (ups back s), length-append (ups front s) (ups back s)))
    (omega (arith, sum-append (ups front s) (extra s f ++ ups back s), sum-append (extra s f) (ups back s), sum-append (ups front s) (ups back s)))
    ∙ ap (λ vs. let x : Cell = record { count = length vs; sum = sum vs } in x) (sym (flat_map-append (extra s) front back))

-- a face without labels for s tells nothing of it
pub ups_cut : (front back : List (List ℕ)) (f s : List ℕ) → extra s f ≡ [] → ups (front ++ back) s ≡ ups (front ++ f ∷ back) s
ups_cut front back f s e = flat_map-append (extra s) front back ∙ ap (λ vs. ups front s ++ (vs ++ ups back s)) (sym e) ∙ sym (flat_map-append (extra s) front (f ∷ back))
