-- From the end of a walk to its goal.
use Rattle.std.proofs.Common.{◌≡◌, ℕ, zero, suc, ◌+◌, ◌≤◌, ◌<◌, Bool, true, false, cond, List, [], ◌∷◌, ◌++◌, length, take, get_or, refl, sym, ap, ◌∙◌, arith, Option, None, add-one, ◌⊎◌, inl, inr}
use mathlib.Core.Bool.{true≢false}
use Rattle.std.specs.Bool.{IsTrue}
use Rattle.std.specs.Prelude.{slice_get, option_to_list}
use Rattle.std.specs.List.{list_all}
use Rattle.simplex.specs.declared.flip.Flip.{Flip}
use Rattle.simplex.specs.FirstFailing.{first_failing}
use Rattle.simplex.specs.Simplex.{is_simplex, label_limit}
use Rattle.simplex.proofs.InOrderLaws.{and_left, and_right, and_both}
use Rattle.facet_set.specs.Complex.{is_complex, verts}
use Rattle.facet_set.specs.Numbers.{size, is_pure}
use Rattle.facet_set.specs.Flips.{allowed, flip, is_simplex_boundary, after, goes}
use Rattle.facet_set.proofs.FlipLaws.{after-append}
use Rattle.flip_rules.specs.Tests.{flip_tests}
use Rattle.flip_table.specs.Session.{Standing, committed, staged_with}
use Rattle.seeded_words.specs.Words.{words_from}
use Rattle.annealer.specs.Course.{IsOnWalk, IsAtEnd}
use Rattle.annealer.specs.Walk.{standing_after, flips_by, facet_counts, place_of_least, has_met, to_goal}
use Rattle.annealer.specs.declared.course.Course.{Course}
use Rattle.annealer.proofs.CourseLaws.{allowed_passes}

-- ---- the first flips of a list

pub take_next : {X : Type 0} (xs : List X) (k : ℕ) → take k xs ++ option_to_list (slice_get xs k) ≡ take (k + 1) xs
take_next xs k = by xs k ∙ ap (λ n. take n xs) (sym (add-one k))
  where
    by : {X : Type 0} (xs : List X) (k : ℕ) → take k xs ++ option_to_list (slice_get xs k) ≡ take (suc k) xs
    by [] zero = refl
    by [] (suc k) = refl
    by (x ∷ xs) zero = refl
    by (x ∷ xs) (suc k) = ap (λ l. x ∷ l) (by xs k)

take_all : {X : Type 0} (xs : List X) → take (length xs) xs ≡ xs
take_all [] = refl
take_all (x ∷ xs) = ap (λ l. x ∷ l) (take_all xs)

take_again : {X : Type 0} (n : ℕ) (xs : List X) → take n xs ≡ take (length (take n xs)) xs
take_again zero xs = refl
take_again (suc n) [] = refl
take_again (suc n) (x ∷ xs) = ap (λ l. x ∷ l) (take_again n xs)

pub goes_take : (n : ℕ) (c : List (List ℕ)) (ms : List Flip) → goes c ms ≡ true → goes c (take n ms) ≡ true
goes_take zero c ms h = refl
goes_take (suc n) c [] h = refl
goes_take (suc n) c (m ∷ ms) h = and_both _ _ (and_left _ _ h) (goes_take n (flip c m.a m.b) ms (and_right (allowed c m.a m.b) _ h))

goes_at : (c : List (List ℕ)) (ms : List Flip) (i : ℕ) (d : Flip) → goes c ms ≡ true → i < length ms → allowed (after c (take i ms)) (get_or ms i d).a (get_or ms i d).b ≡ true
goes_at c [] i d h l = absurd (omega arith)
goes_at c (m ∷ ms) zero d h l = and_left _ _ h
goes_at c (m ∷ ms) (suc i) d h l = goes_at (flip c m.a m.b) ms i d (and_right (allowed c m.a m.b) _ h) (omega arith)

-- ---- the same flips once more

pub again_passes : (c : List (List ℕ)) (ms : List Flip) (i : ℕ) (s : Standing) (m : Flip) → goes c ms ≡ true → i < length ms → m ≡ get_or ms i m → s ≡ standing_after c (take i ms) → first_failing (flip_tests s.present m) ≡ None
again_passes c ms i s m h l e f =
    allowed_passes s.present m (ap (λ (t : Standing). allowed t.present m.a m.b) f ∙ ap (λ (k : Flip). allowed (after c (take i ms)) k.a k.b) e ∙ goes_at c ms i m h l)

pub again_next : (c : List (List ℕ)) (ms : List Flip) (i : ℕ) (s t : Standing) (m : Flip) → i < length ms → m ≡ get_or ms i m → s ≡ standing_after c (take i ms) → t ≡ committed (staged_with m s) → t ≡ standing_after c (take (i + 1) ms)
again_next c ms i s t m l e f g =
    g ∙ ap (λ (s : Standing). committed (staged_with m s)) f
    ∙ ap (λ (d : List (List ℕ)). record { present = d; journal = take i ms ++ m ∷ []; staged = None }) (sym (after-append c (take i ms) (m ∷ [])))
    ∙ ap (standing_after c) whole
  where
    at : {X : Type 0} (xs : List X) (k : ℕ) (x : X) → k < length xs → x ≡ get_or xs k x → take k xs ++ x ∷ [] ≡ take (suc k) xs
    at [] k x l e = absurd (omega arith)
    at (y ∷ xs) zero x l e = ap (λ z. z ∷ []) e
    at (y ∷ xs) (suc k) x l e = ap (λ r. y ∷ r) (at xs k x (omega arith) e)

    whole : take i ms ++ m ∷ [] ≡ take (i + 1) ms
    whole = at ms i m l e ∙ ap (λ n. take n ms) (sym (add-one i))

-- ---- the goal

pub goal_front : (c : List (List ℕ)) (ms : List Flip) (met : Bool) (made place : ℕ) → met ≡ has_met c ms → made ≡ length ms → place ≡ place_of_least (facet_counts c ms) → take (cond met made place) ms ≡ to_goal c ms
goal_front c ms met made place e f g =
    ap (λ n. take (cond met n place) ms) f ∙ ap (λ n. take (cond met (length ms) n) ms) g ∙ by met ∙ ap (λ v. cond v ms (take (place_of_least (facet_counts c ms)) ms)) e
  where
    by : (v : Bool) → take (cond v (length ms) (place_of_least (facet_counts c ms))) ms ≡ cond v ms (take (place_of_least (facet_counts c ms)) ms)
    by true = take_all ms
    by false = refl

pub goal_goes : (c : List (List ℕ)) (ms : List Flip) → goes c ms ≡ true → goes c (to_goal c ms) ≡ true
goal_goes c ms h = by (has_met c ms)
  where
    by : (v : Bool) → goes c (cond v ms (take (place_of_least (facet_counts c ms)) ms)) ≡ true
    by true = h
    by false = goes_take (place_of_least (facet_counts c ms)) c ms h

pub goal_is_front : (c : List (List ℕ)) (ms : List Flip) → to_goal c ms ≡ take (length (to_goal c ms)) ms
goal_is_front c ms = by (has_met c ms)
  where
    by : (v : Bool) → cond v ms (take (place_of_least (facet_counts c ms)) ms) ≡ take (length (cond v ms (take (place_of_least (facet_counts c ms)) ms))) ms
    by true = sym (take_all ms)
    by false = take_again (place_of_least (facet_counts c ms)) ms

pub stands_there : (c : List (List ℕ)) (s : Standing) (ms : List Flip) → s ≡ standing_after c s.journal → ms ≡ take (length ms) s.journal → length ms ≡ length s.journal → s ≡ standing_after c ms
stands_there c s ms h e f = h ∙ ap (standing_after c) (sym (e ∙ ap (λ n. take n s.journal) f ∙ take_all s.journal))

-- ---- the start and the end

started_is : (s : Standing) → s.journal ≡ [] → s.staged ≡ None → s ≡ standing_after s.present s.journal
started_is s e f = ap (λ (o : Option Flip). record { present = s.present; journal = s.journal; staged = o }) f ∙ ap (λ (d : List (List ℕ)). record { present = d; journal = s.journal; staged = None }) (sym (ap (after s.present) e))

pub on_walk_start : (x : Course) (budget : ℕ) → x.session.journal ≡ [] → x.session.staged ≡ None → x.size ≡ size x.session.present → x.fewest ≡ length x.session.present → x.place ≡ 0
    → IsTrue (list_all is_simplex x.session.present) → IsTrue (is_complex x.session.present) → IsTrue (is_pure x.session.present) → 0 < size x.session.present → length (verts x.session.present) + budget ≤ label_limit
    → IsOnWalk x.session.present (flips_by x.session.present x.heat (words_from budget x.words)) budget budget x
on_walk_start x budget e f size_is fewest_is place_is simple cx pure some room = record {
  session = started_is x.session e f;
  goes = ap (goes x.session.present) e;
  rest = ap (λ l. l ++ flips_by x.session.present x.heat (words_from budget x.words)) e;
  made = made_is (ap length e);
  size = size_is;
  fewest = fewest_is ∙ sym (ap (λ l. Rattle.annealer.specs.Walk.least (facet_counts x.session.present l)) e);
  place = place_is ∙ sym (ap (λ l. place_of_least (facet_counts x.session.present l)) e ∙ at_start (length x.session.present));
  walkable = record { simplices = simple; complex = cx; pure = pure; some = some; room = room };
}
  where
    made_is : length x.session.journal ≡ 0 → length x.session.journal + budget ≡ budget
    made_is k = omega (arith, k)

    at_start : (n : ℕ) → place_of_least (n ∷ []) ≡ 0
    at_start n = ap (λ v. cond (Rattle.std.proofs.Common.not v) (1 + 0) 0) (same n)
      where
        same : (n : ℕ) → Rattle.std.proofs.Common.eqb n n ≡ true
        same n = grind (arith, Rattle.std.proofs.lemmas.Bool.Decides.nat_tests)

module _ (c : List (List ℕ)) (whole : List Flip) (budget : ℕ) (x : Course) (h : IsAtEnd c whole budget x) where
  pub end_journal : x.session.journal ≡ whole
  end_journal = ap (λ (s : Standing). s.journal) h.session

  pub end_session : x.session ≡ standing_after c x.session.journal
  end_session = h.session ∙ ap (standing_after c) (sym end_journal)

  pub end_goes : goes c x.session.journal ≡ true
  end_goes = ap (goes c) end_journal ∙ h.goes

  pub end_place : x.place ≡ place_of_least (facet_counts c x.session.journal)
  end_place = h.place ∙ sym (ap (λ l. place_of_least (facet_counts c l)) end_journal)

  pub end_whole : (met : Bool) (made : ℕ) → met ≡ has_met c whole → made ≡ length whole → met ≡ false → made ≡ budget
  end_whole met made e f g = by h.stop
    where
      by : (is_simplex_boundary (after c whole) ≡ true) ⊎ (length whole ≡ budget) → made ≡ budget
      by (inl b) = absurd (true≢false (sym b ∙ sym e ∙ g))
      by (inr n) = f ∙ n
