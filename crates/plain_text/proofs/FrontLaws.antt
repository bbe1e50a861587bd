-- Texts appended in parts.
use Rattle.std.proofs.Common.{◌≡◌, ℕ, ◌+◌, ◌<◌, ◌≤◌, List, [], ◌∷◌, ◌++◌, length, take, drop, get_or, map, Result, Ok, Err, OnErr, refl, sym, ap, ◌∙◌, append_assoc, take-append-drop}
use Rattle.std.proofs.lemmas.List.{append-nil, take_at, take_all, drop_more}
use Rattle.std.proofs.lemmas.Grind.{flat_map-append}
use Rattle.std.specs.List.{flat_map, join_with_byte}
use Rattle.plain_text.specs.Printing.{GrowsByFront}

-- what was appended is a front of the text, with the rest of it
pub front_from : (old new part more text : List ℕ) → new ≡ old ++ part → text ≡ part ++ more → GrowsByFront old new text
front_from old new part more text e h = (length part, e ∙ ap (λ xs. old ++ xs) (sym (ap (take (length part)) h ∙ take_at part more (length part) refl)))

-- a front of a part that follows what was appended
pub front_later : (old mid new done next more text : List ℕ) → mid ≡ old ++ done → GrowsByFront mid new next → text ≡ done ++ (next ++ more) → GrowsByFront old new text
front_later old mid new done next more text e f h =
    front_from old new (done ++ take f.0 next) (drop f.0 next ++ more) text
    (f.1 ∙ ap (λ xs. xs ++ take f.0 next) e ∙ append_assoc old done (take f.0 next))
    (h ∙ ap (λ xs. done ++ (xs ++ more)) (sym (take-append-drop f.0 next)) ∙ ap (λ xs. done ++ xs) (append_assoc (take f.0 next) (drop f.0 next) more) ∙ sym (append_assoc done (take f.0 next) (drop f.0 next ++ more)))

pub front_none : (old text : List ℕ) → GrowsByFront old old text
front_none old text = front_from old old [] text text (sym (append-nil old)) refl

pub join_first : {X : Type 0} (f : X → List ℕ) (x : X) (xs : List X) → join_with_byte 44 (map f (x ∷ xs)) ≡ f x ++ flat_map (λ y. 44 ∷ f y) xs
join_first f x [] = sym (append-nil (f x))
join_first f x (y ∷ xs) = ap (λ t. f x ++ 44 ∷ t) (join_first f y xs)

pub err_any : {T E : Type 0} (r : Result T E) (A : Type 0) → A → OnErr r A
err_any (Ok x) A a = tt
err_any (Err e) A a = a

module _ {X : Type 0} (f : X → List ℕ) where
  -- the text of an item behind the first
  abbrev after_comma : X → List ℕ
  after_comma y = 44 ∷ f y

  pub first_front : (old new : List ℕ) (items : List X) (x : X) (xs : List X) → items ≡ x ∷ xs → GrowsByFront old new (f x) → GrowsByFront old new (join_with_byte 44 (map f items))
  first_front old new items x xs e h =
      front_later old old new [] (f x) (flat_map after_comma xs) (join_with_byte 44 (map f items)) (sym (append-nil old)) h (ap (λ l. join_with_byte 44 (map f l)) e ∙ join_first f x xs)

  pub next_front : (old mid out new : List ℕ) (items : List X) (x : X) (xs : List X) (i : ℕ) (y d : X) → items ≡ x ∷ xs → mid ≡ old ++ f x → out ≡ mid ++ flat_map after_comma (take i xs)
      → i < length xs → y ≡ get_or xs i d → GrowsByFront out new (after_comma y) → GrowsByFront old new (join_with_byte 44 (map f items))
  next_front old mid out new items x xs i y d e a b l g h =
      let more = flat_map after_comma (drop (i + 1) xs) in
      front_later old out new (f x ++ flat_map after_comma (take i xs)) (after_comma y) more (join_with_byte 44 (map f items))
      (b ∙ ap (λ t. t ++ flat_map after_comma (take i xs)) a ∙ append_assoc old (f x) (flat_map after_comma (take i xs))) h
      (ap (λ l. join_with_byte 44 (map f l)) e ∙ join_first f x xs
      ∙ ap (λ l. f x ++ flat_map after_comma l) (sym (take-append-drop i xs))
      ∙ ap (λ t. f x ++ t) (flat_map-append after_comma (take i xs) (drop i xs))
      ∙ ap (λ l. f x ++ (flat_map after_comma (take i xs) ++ flat_map after_comma l)) (drop_more xs i d l)
      ∙ ap (λ z. f x ++ (flat_map after_comma (take i xs) ++ (after_comma z ++ more))) (sym g)
      ∙ sym (append_assoc (f x) (flat_map after_comma (take i xs)) (after_comma y ++ more)))

  pub whole_text : (old mid out : List ℕ) (items : List X) (x : X) (xs : List X) (i : ℕ) → items ≡ x ∷ xs → mid ≡ old ++ f x → out ≡ mid ++ flat_map after_comma (take i xs) → length xs ≤ i
      → out ≡ old ++ join_with_byte 44 (map f items)
  whole_text old mid out items x xs i e a b l =
      b ∙ ap (λ ys. mid ++ flat_map after_comma ys) (take_all i xs l) ∙ ap (λ t. t ++ flat_map after_comma xs) a ∙ append_assoc old (f x) (flat_map after_comma xs)
      ∙ ap (λ t. old ++ t) (sym (ap (λ l. join_with_byte 44 (map f l)) e ∙ join_first f x xs))
