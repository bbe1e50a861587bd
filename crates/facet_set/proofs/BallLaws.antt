-- The pieces of a ball, one after another.
use Rattle.std.proofs.Common.{◌≡◌, ℕ, ◌+◌, ◌≤◌, true, List, [], ◌∷◌, ◌++◌, map, length, get_or, drop, append_assoc, add-one, sym, ap, ◌∙◌, subst, ◌<◌, arith}
use Rattle.std.specs.List.{list_all}
use Rattle.simplex.proofs.Filled.{rising_of}
use Rattle.std.proofs.Math.Seq.{drop-cons}
use Rattle.std.proofs.lemmas.List.Elements.{Contains-get_or}
use Rattle.simplex.specs.Simplex.{without, is_simplex}
use Rattle.simplex.proofs.Members.{In, contains_in}
use Rattle.facet_set.specs.Complex.{is_complex}
use Rattle.facet_set.specs.Flips.{allowed}
use Rattle.facet_set.proofs.FlipLaws.{parts_of, small, length-without}

-- the two sets of an allowed flip have at most 13 labels
pub few_labels : (c : List (List ℕ)) (a b : List ℕ) → list_all is_simplex c ≡ true → is_complex c ≡ true → is_simplex a ≡ true → is_simplex b ≡ true → allowed c a b ≡ true → length a + length b ≤ 13
few_labels c a b simple cx sa sb ok =
    let p = parts_of c a b ok in
    let most = small c a b simple cx sa sb p in
    let n = p.sizes.2 in
    omega arith

-- a set without one of its labels, and another set
pub room : (a b items rest : List ℕ) (i : ℕ) → is_simplex a ≡ true → items ≡ a → i < length items → rest ≡ without a (get_or items i 0) → length a + length b ≤ 13 → length b + length rest ≤ 12
room a b items rest i h e k f n =
    let member : In (get_or items i 0) a = subst (λ s. In (get_or items i 0) s) e (contains_in items (get_or items i 0) (Contains-get_or items i 0 k)) in
    let less : length (without a (get_or items i 0)) + 1 ≡ length a = length-without (get_or items i 0) a (rising_of a h) member in
    let same : length rest ≡ length (without a (get_or items i 0)) = ap length f in
    omega arith

-- the next member of a list, made from the next label
pub pushed : (f : ℕ → List ℕ) (a items : List ℕ) (out more whole : List (List ℕ)) (i : ℕ) (next : List ℕ) → items ≡ a → i < length items → next ≡ f (get_or items i 0) → more ≡ out ++ next ∷ []
    → out ++ map f (drop i a) ≡ whole → more ++ map f (drop (i + 1) a) ≡ whole
pushed f a items out more whole i next e l m r h =
    let x : ℕ = get_or a i 0 in
    let split : drop i a ≡ x ∷ drop (i + 1) a = drop-cons a i 0 (subst (λ s. i < length s) e l) ∙ ap (λ n. x ∷ drop n a) (sym (add-one i)) in
    ap (λ s. s ++ map f (drop (i + 1) a)) (r ∙ ap (λ t. out ++ t ∷ []) (m ∙ ap (λ s. f (get_or s i 0)) e))
    ∙ append_assoc out (f x ∷ []) (map f (drop (i + 1) a)) ∙ ap (λ s. out ++ map f s) (sym split) ∙ h
