-- A matrix of boundaries with its first columns written.
use Rattle.std.proofs.Common.{◌≡◌, ◌≢◌, ℕ, zero, suc, ◌+◌, ◌<◌, ◌≤◌, true, false, eqb, List, [], ◌∷◌, length, get_or, map, replicate, refl, sym, ◌∙◌, subst, arith}
use Rattle.std.specs.List.{AllZip}
use Rattle.std.proofs.lemmas.Bool.Decides.{nat_tests}
use Rattle.std.proofs.lemmas.List.{length-replicate}
use Rattle.simplex.specs.Members.{In, first, later}
use Rattle.gf2_rank.specs.Laws.{IsNamed}
use Rattle.gf2_rank.specs.Matrix.{Matrix, cols, column as rows_of, zero_matrix}
use Rattle.betti_tables.specs.Boundary.{IsWritten}
use Rattle.betti_tables.specs.Ranks.{column}
use Rattle.betti_tables.proofs.NameLaws.{same_read}

pub record IsBuilt (rows simplices : List (List ℕ)) (i : ℕ) (m : Matrix) : Type 0 where
  pub rows_are : m.rows ≡ length rows
  pub cols_are : cols m ≡ length simplices
  pub done : (k : ℕ) (d : List ℕ) → k < i → IsNamed rows (rows_of m k) (column (get_or simplices k d))
  pub left : (k : ℕ) → i ≤ k → rows_of m k ≡ []

empty_at : (n k : ℕ) → get_or (replicate n []) k (let e : List ℕ = [] in e) ≡ []
empty_at zero k = refl
empty_at (suc n) zero = refl
empty_at (suc n) (suc k) = empty_at n k

pub built_none : (rows simplices : List (List ℕ)) (m : Matrix) → m ≡ zero_matrix (length rows) (length simplices) → IsBuilt rows simplices 0 m
built_none rows simplices m e =
    subst (λ z. IsBuilt rows simplices 0 z) (sym e) (record {
      rows_are = refl;
      cols_are = length-replicate (length simplices) [];
      done = λ k d h. absurd (omega arith);
      left = λ k h. empty_at (length simplices) k;
    })

pub built_more : (rows simplices : List (List ℕ)) (i : ℕ) (s : List ℕ) (now new : Matrix) → i < length simplices → s ≡ get_or simplices i s → IsWritten rows (column s) i now new
    → IsBuilt rows simplices i now → IsBuilt rows simplices (i + 1) new
built_more rows simplices i s now new inside read w h =
    record {
      rows_are = w.rows_same ∙ h.rows_are;
      cols_are = w.cols_same ∙ h.cols_are;
      done = λ k d below.
          elim (eqb k i) as (λ v. eqb k i ≡ v → IsNamed rows (rows_of new k) (column (get_or simplices k d))) [
            | true ↦ λ e.
                let at : i ≡ k = grind (arith, nat_tests) in
                subst (λ j. IsNamed rows (rows_of new j) (column (get_or simplices j d))) at (subst (λ x. IsNamed rows (rows_of new i) (column x)) (read ∙ same_read simplices i s d inside) w.named)
            | false ↦ λ e.
                let other : k ≢ i = grind (arith, nat_tests) in
                let before : k < i = grind (arith, nat_tests) in
                subst (λ z. IsNamed rows z (column (get_or simplices k d))) (sym (w.others k other)) (h.done k d before)
          ] refl;
      left = λ k above. let other : k ≢ i = λ e. omega arith in w.others k other ∙ h.left k (omega arith);
    }

zipped : (rows simplices columns : List (List ℕ)) → length columns ≡ length simplices → ((k : ℕ) (d : List ℕ) → k < length simplices → IsNamed rows (get_or columns k []) (column (get_or simplices k d)))
    → AllZip (IsNamed rows) columns (map column simplices)
zipped rows [] [] e f = tt
zipped rows [] (c ∷ columns) e f = absurd (omega arith)
zipped rows (s ∷ simplices) [] e f = absurd (omega arith)
zipped rows (s ∷ simplices) (c ∷ columns) e f = (f 0 [] (omega arith), zipped rows simplices columns (omega arith) (λ k d h. f (suc k) d (omega arith)))

pub built_all : (rows simplices : List (List ℕ)) (i : ℕ) (m : Matrix) → length simplices ≤ i → IsBuilt rows simplices i m → AllZip (IsNamed rows) m.columns (map column simplices)
built_all rows simplices i m all h = zipped rows simplices m.columns h.cols_are (λ k d l. h.done k d (omega arith))

pub in_at : (xs : List (List ℕ)) (k : ℕ) (d : List ℕ) → k < length xs → In (get_or xs k d) xs
in_at [] k d h = absurd (omega arith)
in_at (x ∷ xs) zero d h = first
in_at (x ∷ xs) (suc k) d h = later (in_at xs k d (omega arith))
