-- A walk from one flip to the next.
use Rattle.std.proofs.Common.{◌≡◌, ℕ, suc, ◌+◌, ◌-◌, ◌≤◌, ◌<◌, Bool, true, false, cond, List, [], ◌∷◌, ◌++◌, length, refl, sym, ap, ◌∙◌, subst, ◌⊎◌, inl, inr, arith, Option, Some, None, append-nil, append_assoc, length-append}
use Rattle.std.specs.Bool.{IsTrue}
use Rattle.std.specs.Option.{IsSome}
use Rattle.std.specs.List.{list_all}
use Rattle.simplex.specs.declared.flip.Flip.{Flip}
use Rattle.simplex.specs.FirstFailing.{first_failing}
use Rattle.simplex.specs.Simplex.{is_simplex, label_limit}
use Rattle.simplex.proofs.Filled.{short_of}
use Rattle.simplex.proofs.InOrderLaws.{and_both}
use Rattle.simplex.proofs.Members.{In, first, all_at}
use Rattle.simplex.proofs.Decided.{none_fails, all_pass}
use Rattle.facet_set.specs.Complex.{verts}
use Rattle.facet_set.specs.Numbers.{size, is_pure}
use Rattle.facet_set.specs.Flips.{allowed, flip, flip_parts, is_simplex_boundary, after, goes}
use Rattle.facet_set.proofs.FlipLaws.{parts_of, flips_back_lem, pure_at, after-append, goes-append}
use Rattle.flip_rules.specs.declared.flip_fault.FlipFault.TheVariants.{NotPure, Size, Overlap, Star, Present}
use Rattle.flip_rules.specs.Tests.{flip_tests}
use Rattle.flip_table.specs.Session.{Standing}
use Rattle.seeded_words.specs.Words.{word, after_word, words_from}
use Rattle.annealer.specs.Course.{IsOnWalk, IsStep, IsAtEnd}
use Rattle.annealer.specs.Walk.{standing_after, pick, flips_by, facet_counts, least, place_of_least}
use Rattle.annealer.specs.declared.course.Course.{Course}
use Rattle.annealer.proofs.GoalLaws.{fewest_more, first_more}
use Rattle.annealer.proofs.PickExists.{always_picks_lem, verts_after}

-- ---- lists of flips

-- ---- tests

pub passes_allowed : (c : List (List ℕ)) (m : Flip) → first_failing (flip_tests c m) ≡ None → IsTrue (allowed c m.a m.b)
passes_allowed c m h = none_fails (flip_parts c m.a m.b) (NotPure ∷ Size ∷ Overlap ∷ Star ∷ Present ∷ []) refl h

pub allowed_passes : (c : List (List ℕ)) (m : Flip) → allowed c m.a m.b ≡ true → first_failing (flip_tests c m) ≡ None
allowed_passes c m h = all_pass (flip_parts c m.a m.b) (NotPure ∷ Size ∷ Overlap ∷ Star ∷ Present ∷ []) h

-- ---- the flips of a walk

pub flips_stop : (c : List (List ℕ)) (heat : ℕ) (ws : List ℕ) → is_simplex_boundary c ≡ true → flips_by c heat ws ≡ []
flips_stop c heat [] e = refl
flips_stop c heat (w ∷ ws) e = by (is_simplex_boundary c) e
  where
    by : (v : Bool) → v ≡ true → elim v as (λ t. List Flip) [ true ↦ [] | false ↦ elim (pick c heat w) as (λ o. List Flip) [ None ↦ [] | Some p ↦ p.0 ∷ flips_by (flip c p.0.a p.0.b) p.1 ws ] ] ≡ []
    by true f = refl
    by false f = cc

pub flips_next : (c : List (List ℕ)) (heat w : ℕ) (ws : List ℕ) (m : Flip) (k : ℕ) → is_simplex_boundary c ≡ false → pick c heat w ≡ Some (m, k) → flips_by c heat (w ∷ ws) ≡ m ∷ flips_by (flip c m.a m.b) k ws
flips_next c heat w ws m k e f = by (is_simplex_boundary c) e ∙ ap (λ (o : Option (Flip × ℕ)). elim o as (λ o. List Flip) [ None ↦ [] | Some p ↦ p.0 ∷ flips_by (flip c p.0.a p.0.b) p.1 ws ]) f
  where
    by : (v : Bool) → v ≡ false → elim v as (λ t. List Flip) [ true ↦ [] | false ↦ elim (pick c heat w) as (λ o. List Flip) [ None ↦ [] | Some p ↦ p.0 ∷ flips_by (flip c p.0.a p.0.b) p.1 ws ] ]
        ≡ elim (pick c heat w) as (λ o. List Flip) [ None ↦ [] | Some p ↦ p.0 ∷ flips_by (flip c p.0.a p.0.b) p.1 ws ]
    by true f = cc
    by false f = refl

-- ---- what the next flip needs

short : (c : List (List ℕ)) → list_all is_simplex c ≡ true → is_pure c ≡ true → size c ≤ 12
short c simple pure = by c simple pure (facet c pure)
  where
    facet : (d : List (List ℕ)) → is_pure d ≡ true → (s : List ℕ) × In s d
    facet [] h = cc
    facet (s ∷ d) h = (s, first)

    by : (d : List (List ℕ)) → list_all is_simplex d ≡ true → is_pure d ≡ true → (s : List ℕ) × In s d → size d ≤ 12
    by d simple pure s = let e = pure_at d s.0 pure s.1 in let k = short_of s.0 (all_at is_simplex s.0 d simple s.1) in omega (arith, e, k)

module _ (c : List (List ℕ)) (whole : List Flip) (budget left : ℕ) (x : Course) (h : IsOnWalk c whole budget left x) where
  pub on_staged : x.session.staged ≡ None
  on_staged = ap (λ (s : Standing). s.staged) h.session

  pub on_some : 0 < x.size
  on_some = let e = h.size in let k = h.walkable.some in omega (arith, e, k)

  pub on_bound : x.size ≤ 12
  on_bound = let e = h.size in let k = short x.session.present h.walkable.simplices h.walkable.pure in omega (arith, e, k)

  pub on_picks : 0 < left → IsSome (pick x.session.present x.heat (word x.words))
  on_picks l = always_picks_lem x.session.present x.heat (word x.words) h.walkable.simplices h.walkable.complex h.walkable.pure h.walkable.some room
    where
      room : length (verts x.session.present) < label_limit
      room = let k = h.walkable.room in omega (arith, k, l)

  journal_whole : flips_by x.session.present x.heat (words_from left x.words) ≡ [] → x.session.journal ≡ whole
  journal_whole e = sym (append-nil x.session.journal) ∙ ap (λ l. x.session.journal ++ l) (sym e) ∙ h.rest

  ended : x.session.journal ≡ whole → (is_simplex_boundary (after c whole) ≡ true) ⊎ (length whole ≡ budget) → IsAtEnd c whole budget x
  ended e s = record {
    session = h.session ∙ ap (standing_after c) e;
    goes = subst (λ l. goes c l ≡ true) e h.goes;
    place = h.place ∙ ap (λ l. place_of_least (facet_counts c l)) e;
    stop = s;
  }

  -- at a simplex boundary the walk is at its end
  pub at_boundary : is_simplex_boundary x.session.present ≡ true → IsAtEnd c whole budget x
  at_boundary b =
      let e = journal_whole (flips_stop x.session.present x.heat (words_from left x.words) b) in
      ended e (inl (ap is_simplex_boundary (sym (ap (λ (s : Standing). s.present) h.session ∙ ap (after c) e)) ∙ b))

  -- and where no word is left
  pub at_budget : left ≡ 0 → IsAtEnd c whole budget x
  at_budget z =
      let e = journal_whole (ap (λ n. flips_by x.session.present x.heat (words_from n x.words)) z) in
      ended e (inr (ap length (sym e) ∙ made))
    where
      made : length x.session.journal ≡ budget
      made = let k = h.made in omega (arith, k, z)

-- ---- one flip

module _ (c : List (List ℕ)) (whole : List Flip) (budget left : ℕ) (x y : Course) (h : IsOnWalk c whole budget (suc left) x) (away : is_simplex_boundary x.session.present ≡ false) (t : IsStep x y) where
  abbrev journal : List Flip
  journal = x.session.journal ++ t.flip ∷ []

  abbrev next : List (List ℕ)
  next = flip x.session.present t.flip.a t.flip.b

  present_is : x.session.present ≡ after c x.session.journal
  present_is = ap (λ (s : Standing). s.present) h.session

  session_is : y.session ≡ record { present = next; journal = journal; staged = None }
  session_is = t.session

  journal_is : y.session.journal ≡ journal
  journal_is = ap (λ (s : Standing). s.journal) session_is

  new_is : y.session.present ≡ next
  new_is = ap (λ (s : Standing). s.present) session_is

  next_is : next ≡ after c journal
  next_is = ap (λ d. flip d t.flip.a t.flip.b) present_is ∙ sym (after-append c x.session.journal (t.flip ∷ []))

  standing_is : y.session ≡ standing_after c y.session.journal
  standing_is = session_is ∙ ap (λ (d : List (List ℕ)). record { present = d; journal = journal; staged = None }) next_is ∙ ap (standing_after c) (sym journal_is)

  goes_is : goes c y.session.journal ≡ true
  goes_is = ap (goes c) journal_is ∙ goes-append c x.session.journal (t.flip ∷ []) h.goes (and_both _ _ (ap (λ d. allowed d t.flip.a t.flip.b) (sym present_is) ∙ t.allowed) refl)

  rest_is : y.session.journal ++ flips_by y.session.present y.heat (words_from left y.words) ≡ whole
  rest_is =
      ap (λ (s : Standing). s.journal ++ flips_by s.present y.heat (words_from left y.words)) session_is
      ∙ ap (λ g. journal ++ flips_by next y.heat (words_from left g)) t.words
      ∙ append_assoc x.session.journal (t.flip ∷ []) (flips_by next y.heat (words_from left (after_word x.words)))
      ∙ ap (λ l. x.session.journal ++ l) (sym (flips_next x.session.present x.heat (word x.words) (words_from left (after_word x.words)) t.flip y.heat away t.picked))
      ∙ h.rest

  made_is : length y.session.journal + left ≡ budget
  made_is =
      let e = ap length journal_is ∙ length-append x.session.journal (t.flip ∷ []) in
      let k = h.made in
      sum e k
    where
      sum : length y.session.journal ≡ length x.session.journal + 1 → length x.session.journal + suc left ≡ budget → length y.session.journal + left ≡ budget
      sum e k = omega (arith, e, k)

  allowed_back : (allowed next t.flip.b t.flip.a ≡ true) × (flip next t.flip.b t.flip.a ≡ x.session.present)
  allowed_back = flips_back_lem x.session.present t.flip.a t.flip.b h.walkable.simplices h.walkable.complex t.a t.b t.allowed

  pure_next : is_pure next ≡ true
  pure_next = (parts_of next t.flip.b t.flip.a allowed_back.0).pure

  size_next : size next ≡ size x.session.present
  size_next =
      let p = (parts_of next t.flip.b t.flip.a allowed_back.0).sizes.2 in
      let q = (parts_of x.session.present t.flip.a t.flip.b t.allowed).sizes.2 in
      same p q
    where
      same : length t.flip.b + length t.flip.a ≡ size next + 1 → length t.flip.a + length t.flip.b ≡ size x.session.present + 1 → size next ≡ size x.session.present
      same p q = omega (arith, p, q)

  count_is : length y.session.present ≡ length (after c journal)
  count_is = ap length (new_is ∙ next_is)

  fewest_is : y.fewest ≡ least (facet_counts c y.session.journal)
  fewest_is =
      t.fewest
      ∙ ap (λ n. cond (Rattle.std.proofs.Common.ltb n x.fewest) n x.fewest) count_is
      ∙ ap (λ k. cond (Rattle.std.proofs.Common.ltb (length (after c journal)) k) (length (after c journal)) k) h.fewest
      ∙ sym (ap (λ l. least (facet_counts c l)) journal_is ∙ fewest_more c x.session.journal t.flip)

  length_is : length y.session.journal ≡ suc (length x.session.journal)
  length_is = ap length journal_is ∙ length-append x.session.journal (t.flip ∷ []) ∙ one (length x.session.journal)
    where
      one : (n : ℕ) → n + 1 ≡ suc n
      one n = omega arith

  place_is : y.place ≡ place_of_least (facet_counts c y.session.journal)
  place_is =
      t.place
      ∙ ap (λ n. cond (Rattle.std.proofs.Common.ltb n x.fewest) (length y.session.journal) x.place) count_is
      ∙ ap (λ k. cond (Rattle.std.proofs.Common.ltb (length (after c journal)) k) (length y.session.journal) x.place) h.fewest
      ∙ ap (λ k. cond (Rattle.std.proofs.Common.ltb (length (after c journal)) (least (facet_counts c x.session.journal))) k x.place) length_is
      ∙ ap (λ k. cond (Rattle.std.proofs.Common.ltb (length (after c journal)) (least (facet_counts c x.session.journal))) (suc (length x.session.journal)) k) h.place
      ∙ sym (ap (λ l. place_of_least (facet_counts c l)) journal_is ∙ first_more c x.session.journal t.flip)

  room_is : length (verts y.session.present) + left ≤ label_limit
  room_is =
      let k = verts_after x.session.present t.flip.a t.flip.b (parts_of x.session.present t.flip.a t.flip.b t.allowed) in
      room (ap (λ d. length (verts d)) new_is) k h.walkable.room
    where
      room : length (verts y.session.present) ≡ length (verts next) → length (verts next) ≤ length (verts x.session.present) + 1 → length (verts x.session.present) + suc left ≤ label_limit → length (verts y.session.present) + left ≤ label_limit
      room e k l = omega (arith, e, k, l)

  some_is : 0 < size y.session.present
  some_is = let e = ap size new_is ∙ size_next in let k = h.walkable.some in more e k
    where
      more : size y.session.present ≡ size x.session.present → 0 < size x.session.present → 0 < size y.session.present
      more e k = omega (arith, e, k)

  pub on_walk_next : IsOnWalk c whole budget left y
  on_walk_next = record {
    session = standing_is;
    goes = goes_is;
    rest = rest_is;
    made = made_is;
    size = t.size ∙ h.size ∙ sym (ap size new_is ∙ size_next);
    fewest = fewest_is;
    place = place_is;
    walkable = record {
      simplices = t.simplices;
      complex = t.complex;
      pure = ap is_pure new_is ∙ pure_next;
      some = some_is;
      room = room_is;
    };
  }

-- the same, where the words left are counted from the budget down
pub on_walk_step : (c : List (List ℕ)) (whole : List Flip) (budget k : ℕ) (x y : Course) → k < budget → IsOnWalk c whole budget (budget - k) x → is_simplex_boundary x.session.present ≡ false → IsStep x y → IsOnWalk c whole budget (budget - (k + 1)) y
on_walk_step c whole budget k x y l h away t = on_walk_next c whole budget (budget - (k + 1)) x y (subst (λ n. IsOnWalk c whole budget n x) one h) away t
  where
    one : budget - k ≡ suc (budget - (k + 1))
    one = omega arith
