-- A walk on its way.
use Rattle.std.specs.Prelude.{◌≡◌, ℕ, ◌+◌, ◌<◌, ◌≤◌, true, List, ◌++◌, length, nat_lt, Some, IsTrue, if◌then◌else◌, ◌⊎◌}
use Rattle.std.specs.List.{list_all}
use Rattle.simplex.specs.declared.flip.Flip.{Flip}
use Rattle.simplex.specs.Simplex.{is_simplex, label_limit}
use Rattle.facet_set.specs.Complex.{is_complex, verts}
use Rattle.facet_set.specs.Numbers.{size, is_pure}
use Rattle.facet_set.specs.Flips.{allowed, is_simplex_boundary, after, goes}
use Rattle.flip_table.specs.Session.{committed, staged_with}
use Rattle.seeded_words.specs.Words.{word, after_word, words_from}
use Rattle.annealer.specs.Walk.{pick, flips_by, facet_counts, least, place_of_least, standing_after}
use Rattle.annealer.specs.declared.course.Course.{Course}

-- the complex and its facets are as a walk needs them, with labels left for so many flips
pub record IsWalkable (c : List (List ℕ)) (left : ℕ) : Type 0 where
  pub simplices : IsTrue (list_all is_simplex c)
  pub complex : IsTrue (is_complex c)
  pub pure : IsTrue (is_pure c)
  pub some : 0 < size c
  pub room : length (verts c) + left ≤ label_limit

-- x is on the walk of these flips from c, with so many words left of the budget
pub record IsOnWalk (c : List (List ℕ)) (whole : List Flip) (budget left : ℕ) (x : Course) : Type 0 where
  pub session : x.session ≡ standing_after c x.session.journal
  pub goes : IsTrue (goes c x.session.journal)
  pub rest : x.session.journal ++ flips_by x.session.present x.heat (words_from left x.words) ≡ whole
  pub made : length x.session.journal + left ≡ budget
  pub size : x.size ≡ size x.session.present
  pub fewest : x.fewest ≡ least (facet_counts c x.session.journal)
  pub place : x.place ≡ place_of_least (facet_counts c x.session.journal)
  pub walkable : IsWalkable x.session.present left

-- y comes from x by one flip
pub record IsStep (x y : Course) : Type 0 where
  pub flip : Flip
  pub picked : pick x.session.present x.heat (word x.words) ≡ Some (flip, y.heat)
  pub a : IsTrue (is_simplex flip.a)
  pub b : IsTrue (is_simplex flip.b)
  pub allowed : IsTrue (allowed x.session.present flip.a flip.b)
  pub session : y.session ≡ committed (staged_with flip x.session)
  pub words : y.words ≡ after_word x.words
  pub size : y.size ≡ x.size
  pub fewest : y.fewest ≡ (if nat_lt (length y.session.present) x.fewest then length y.session.present else x.fewest)
  pub place : y.place ≡ (if nat_lt (length y.session.present) x.fewest then length y.session.journal else x.place)
  pub simplices : IsTrue (list_all is_simplex y.session.present)
  pub complex : IsTrue (is_complex y.session.present)

-- x is at the end of the walk of these flips from c
pub record IsAtEnd (c : List (List ℕ)) (whole : List Flip) (budget : ℕ) (x : Course) : Type 0 where
  pub session : x.session ≡ standing_after c whole
  pub goes : IsTrue (goes c whole)
  pub place : x.place ≡ place_of_least (facet_counts c whole)
  pub stop : (is_simplex_boundary (after c whole) ≡ true) ⊎ (length whole ≡ budget)
