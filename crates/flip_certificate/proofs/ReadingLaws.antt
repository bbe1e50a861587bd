-- What is read line by line is what is spelled.
use Rattle.std.proofs.Common.{◌≡◌, ℕ, ◌+◌, ◌<◌, ◌≤◌, Bool, true, false, not, cond, ◌&&◌, List, [], ◌∷◌, ◌++◌, map, length, take, drop, refl, sym, ap, ◌∙◌, subst, arith, Option, Some, None, Result, Ok, Err, append_assoc, take-append-drop, length-append, length-take-le, ◌⊎◌, inl, inr}
use mathlib.Core.Bool.{true≢false}
use Rattle.std.proofs.lemmas.List.{append-nil, take_at}
use Rattle.std.specs.Prelude.{◌==◌, option_and_then}
use Rattle.std.specs.List.{list_all, flat_map, onto_first}
use Rattle.std.proofs.lemmas.Bool.Decides.{nat_tests}
use Rattle.simplex.specs.declared.flip.Flip.{Flip}
use Rattle.simplex.specs.Simplex.{is_label}
use Rattle.simplex.proofs.InOrderLaws.{and_left, and_right, and_both}
use Rattle.flip_certificate.specs.declared.line.Line.{Line}
use Rattle.flip_certificate.specs.declared.line.Line.TheVariants.{Heading, Complex, Move, Map, Link, End}
use Rattle.flip_certificate.specs.declared.line.Kind.TheVariants as kind
use Rattle.flip_certificate.specs.declared.line.Word.TheVariants as word
use Rattle.flip_certificate.specs.declared.block.Block.{Block}
use Rattle.flip_certificate.specs.declared.certificate.Certificate.{Certificate}
use Rattle.flip_certificate.specs.declared.certificate.Certificate.TheVariants as certificate
use Rattle.flip_certificate.specs.declared.draft.Draft.{Draft}
use Rattle.flip_certificate.specs.declared.draft.Draft.TheVariants as draft
use Rattle.flip_certificate.specs.Drafts.{next, block}
use Rattle.flip_certificate.specs.Lines.{Spells, BeginsLikeOne, IsFormLine, is_line, is_held, is_shaped, is_start, is_flip, is_pair, block_lines, line_text, lines_of, text_of, way_lines}
use Rattle.flip_certificate.specs.Reading.{line_of, lines_in, stepped, read_on, finished, reading_from, reading}
use Rattle.flip_certificate.specs.Laws.{ReadsTheSpelled, FormLines}
use Rattle.flip_certificate.proofs.EndsLaws.{no_feed, no_feed-line, split}
use Rattle.flip_certificate.proofs.CutLaws.{first_part}
use Rattle.flip_certificate.proofs.GuessLaws.{split_at_one}
use Rattle.flip_certificate.proofs.SpelledLaws.{all_append, none_some, some_is, line_again, line_is}
use Rattle.flip_certificate.proofs.WrittenLaws.{text_append}

-- ---- drafts

moves_more : (ms : List Flip) (m : Flip) → map Move (ms ++ m ∷ []) ≡ map Move ms ++ Move m ∷ []
moves_more [] m = refl
moves_more (n ∷ ms) m = ap (λ x. Move n ∷ x) (moves_more ms m)

blocks_more : (bs : List Block) (v : ℕ) (ms : List Flip) → flat_map block_lines (bs ++ block v ms ∷ []) ≡ flat_map block_lines bs ++ Link v ∷ map Move ms
blocks_more [] v ms = append-nil (Link v ∷ map Move ms)
blocks_more (b ∷ bs) v ms = ap (λ x. block_lines b ++ x) (blocks_more bs v ms) ∙ sym (append_assoc (block_lines b) (flat_map block_lines bs) (Link v ∷ map Move ms))

abbrev pub draft_lines : Draft → List Line
draft_lines draft.Begun = []
draft_lines (draft.Headed k) = Heading k ∷ []
draft_lines (draft.Sphere c ms) = Heading kind.Sphere ∷ Complex word.Facets c ∷ map Move ms
draft_lines (draft.From c) = Heading kind.Equivalent ∷ Complex word.From c ∷ []
draft_lines (draft.Equivalent c d ms) = Heading kind.Equivalent ∷ Complex word.From c ∷ Complex word.To d ∷ map Move ms
draft_lines (draft.Mapped c d ms p ns) = Heading kind.Equivalent ∷ Complex word.From c ∷ Complex word.To d ∷ (map Move ms ++ Map p ∷ map Move ns)
draft_lines (draft.Manifold c) = Heading kind.Manifold ∷ Complex word.Facets c ∷ []
draft_lines (draft.Linked c bs v ms) = Heading kind.Manifold ∷ Complex word.Facets c ∷ (flat_map block_lines bs ++ Link v ∷ map Move ms)
draft_lines (draft.Done k) = lines_of k

-- a draft with a line more has that line more
pub next_lines : (d : Draft) (l : Line) (e : Draft) → next d l ≡ Some e → draft_lines e ≡ draft_lines d ++ l ∷ []
next_lines draft.Begun (Heading h) e f = ap draft_lines (sym (some_is f))
next_lines draft.Begun (Complex word.Facets a) e f = absurd (none_some f)
next_lines draft.Begun (Complex word.From a) e f = absurd (none_some f)
next_lines draft.Begun (Complex word.To a) e f = absurd (none_some f)
next_lines draft.Begun (Move m) e f = absurd (none_some f)
next_lines draft.Begun (Map q) e f = absurd (none_some f)
next_lines draft.Begun (Link w) e f = absurd (none_some f)
next_lines draft.Begun End e f = absurd (none_some f)
next_lines (draft.Headed k) (Heading h) e f = absurd (none_some f)
next_lines (draft.Headed kind.Sphere) (Complex word.Facets a) e f = ap draft_lines (sym (some_is f))
next_lines (draft.Headed kind.Equivalent) (Complex word.Facets a) e f = absurd (none_some f)
next_lines (draft.Headed kind.Manifold) (Complex word.Facets a) e f = ap draft_lines (sym (some_is f))
next_lines (draft.Headed kind.Sphere) (Complex word.From a) e f = absurd (none_some f)
next_lines (draft.Headed kind.Equivalent) (Complex word.From a) e f = ap draft_lines (sym (some_is f))
next_lines (draft.Headed kind.Manifold) (Complex word.From a) e f = absurd (none_some f)
next_lines (draft.Headed kind.Sphere) (Complex word.To a) e f = absurd (none_some f)
next_lines (draft.Headed kind.Equivalent) (Complex word.To a) e f = absurd (none_some f)
next_lines (draft.Headed kind.Manifold) (Complex word.To a) e f = absurd (none_some f)
next_lines (draft.Headed k) (Move m) e f = absurd (none_some f)
next_lines (draft.Headed k) (Map q) e f = absurd (none_some f)
next_lines (draft.Headed k) (Link w) e f = absurd (none_some f)
next_lines (draft.Headed k) End e f = absurd (none_some f)
next_lines (draft.Sphere c ms) (Heading h) e f = absurd (none_some f)
next_lines (draft.Sphere c ms) (Complex word.Facets a) e f = absurd (none_some f)
next_lines (draft.Sphere c ms) (Complex word.From a) e f = absurd (none_some f)
next_lines (draft.Sphere c ms) (Complex word.To a) e f = absurd (none_some f)
next_lines (draft.Sphere c ms) (Move m) e f = ap draft_lines (sym (some_is f)) ∙ ap (λ x. Heading kind.Sphere ∷ Complex word.Facets c ∷ x) (moves_more ms m)
next_lines (draft.Sphere c ms) (Map q) e f = absurd (none_some f)
next_lines (draft.Sphere c ms) (Link w) e f = absurd (none_some f)
next_lines (draft.Sphere c ms) End e f = ap draft_lines (sym (some_is f))
next_lines (draft.From c) (Heading h) e f = absurd (none_some f)
next_lines (draft.From c) (Complex word.Facets a) e f = absurd (none_some f)
next_lines (draft.From c) (Complex word.From a) e f = absurd (none_some f)
next_lines (draft.From c) (Complex word.To a) e f = ap draft_lines (sym (some_is f))
next_lines (draft.From c) (Move m) e f = absurd (none_some f)
next_lines (draft.From c) (Map q) e f = absurd (none_some f)
next_lines (draft.From c) (Link w) e f = absurd (none_some f)
next_lines (draft.From c) End e f = absurd (none_some f)
next_lines (draft.Equivalent c d ms) (Heading h) e f = absurd (none_some f)
next_lines (draft.Equivalent c d ms) (Complex word.Facets a) e f = absurd (none_some f)
next_lines (draft.Equivalent c d ms) (Complex word.From a) e f = absurd (none_some f)
next_lines (draft.Equivalent c d ms) (Complex word.To a) e f = absurd (none_some f)
next_lines (draft.Equivalent c d ms) (Move m) e f = ap draft_lines (sym (some_is f)) ∙ ap (λ x. Heading kind.Equivalent ∷ Complex word.From c ∷ Complex word.To d ∷ x) (moves_more ms m)
next_lines (draft.Equivalent c d ms) (Map q) e f = ap draft_lines (sym (some_is f))
next_lines (draft.Equivalent c d ms) (Link w) e f = absurd (none_some f)
next_lines (draft.Equivalent c d ms) End e f = absurd (none_some f)
next_lines (draft.Mapped c d ms p ns) (Heading h) e f = absurd (none_some f)
next_lines (draft.Mapped c d ms p ns) (Complex word.Facets a) e f = absurd (none_some f)
next_lines (draft.Mapped c d ms p ns) (Complex word.From a) e f = absurd (none_some f)
next_lines (draft.Mapped c d ms p ns) (Complex word.To a) e f = absurd (none_some f)
next_lines (draft.Mapped c d ms p ns) (Move m) e f = ap draft_lines (sym (some_is f)) ∙ ap (λ x. Heading kind.Equivalent ∷ Complex word.From c ∷ Complex word.To d ∷ (map Move ms ++ Map p ∷ x)) (moves_more ns m) ∙ ap (λ x. Heading kind.Equivalent ∷ Complex word.From c ∷ Complex word.To d ∷ x) (sym (append_assoc (map Move ms) (Map p ∷ map Move ns) (Move m ∷ [])))
next_lines (draft.Mapped c d ms p ns) (Map q) e f = absurd (none_some f)
next_lines (draft.Mapped c d ms p ns) (Link w) e f = absurd (none_some f)
next_lines (draft.Mapped c d ms p ns) End e f = ap draft_lines (sym (some_is f))
next_lines (draft.Manifold c) (Heading h) e f = absurd (none_some f)
next_lines (draft.Manifold c) (Complex word.Facets a) e f = absurd (none_some f)
next_lines (draft.Manifold c) (Complex word.From a) e f = absurd (none_some f)
next_lines (draft.Manifold c) (Complex word.To a) e f = absurd (none_some f)
next_lines (draft.Manifold c) (Move m) e f = absurd (none_some f)
next_lines (draft.Manifold c) (Map q) e f = absurd (none_some f)
next_lines (draft.Manifold c) (Link w) e f = ap draft_lines (sym (some_is f))
next_lines (draft.Manifold c) End e f = ap draft_lines (sym (some_is f))
next_lines (draft.Linked c bs v ms) (Heading h) e f = absurd (none_some f)
next_lines (draft.Linked c bs v ms) (Complex word.Facets a) e f = absurd (none_some f)
next_lines (draft.Linked c bs v ms) (Complex word.From a) e f = absurd (none_some f)
next_lines (draft.Linked c bs v ms) (Complex word.To a) e f = absurd (none_some f)
next_lines (draft.Linked c bs v ms) (Move m) e f = ap draft_lines (sym (some_is f)) ∙ ap (λ x. Heading kind.Manifold ∷ Complex word.Facets c ∷ (flat_map block_lines bs ++ Link v ∷ x)) (moves_more ms m) ∙ ap (λ x. Heading kind.Manifold ∷ Complex word.Facets c ∷ x) (sym (append_assoc (flat_map block_lines bs) (Link v ∷ map Move ms) (Move m ∷ [])))
next_lines (draft.Linked c bs v ms) (Map q) e f = absurd (none_some f)
next_lines (draft.Linked c bs v ms) (Link w) e f = ap draft_lines (sym (some_is f)) ∙ ap (λ x. Heading kind.Manifold ∷ Complex word.Facets c ∷ (x ++ Link w ∷ [])) (blocks_more bs v ms)
next_lines (draft.Linked c bs v ms) End e f = ap draft_lines (sym (some_is f)) ∙ ap (λ x. Heading kind.Manifold ∷ Complex word.Facets c ∷ (x ++ End ∷ [])) (blocks_more bs v ms)
next_lines (draft.Done k) (Heading h) e f = absurd (none_some f)
next_lines (draft.Done k) (Complex word.Facets a) e f = absurd (none_some f)
next_lines (draft.Done k) (Complex word.From a) e f = absurd (none_some f)
next_lines (draft.Done k) (Complex word.To a) e f = absurd (none_some f)
next_lines (draft.Done k) (Move m) e f = absurd (none_some f)
next_lines (draft.Done k) (Map q) e f = absurd (none_some f)
next_lines (draft.Done k) (Link w) e f = absurd (none_some f)
next_lines (draft.Done k) End e f = absurd (none_some f)

-- ---- the lines of a certificate, one after another

abbrev run : Option Draft → List Line → Option Draft
run o [] = o
run o (l ∷ ls) = run (option_and_then (λ d. next d l) o) ls

run_none : (ls : List Line) → run None ls ≡ None
run_none [] = refl
run_none (l ∷ ls) = run_none ls

run_append : (o : Option Draft) (ls ms : List Line) → run o (ls ++ ms) ≡ run (run o ls) ms
run_append o [] ms = refl
run_append o (l ∷ ls) ms = run_append (option_and_then (λ d. next d l) o) ls ms

module _ (F : List Flip → Draft) (step : (ms : List Flip) (m : Flip) → next (F ms) (Move m) ≡ Some (F (ms ++ m ∷ []))) where
  run_moves : (ms ns : List Flip) (ls : List Line) → run (Some (F ms)) (map Move ns ++ ls) ≡ run (Some (F (ms ++ ns))) ls
  run_moves ms [] ls = ap (λ x. run (Some (F x)) ls) (sym (append-nil ms))
  run_moves ms (n ∷ ns) ls =
      ap (λ o. run o (map Move ns ++ ls)) (step ms n) ∙ run_moves (ms ++ n ∷ []) ns ls ∙ ap (λ x. run (Some (F x)) ls) (append_assoc ms (n ∷ []) ns)

run_blocks : (c : List (List ℕ)) (bs cs : List Block) (v : ℕ) (ms : List Flip) → run (Some (draft.Linked c bs v ms)) (flat_map block_lines cs ++ End ∷ []) ≡ Some (draft.Done (certificate.Manifold c (bs ++ block v ms ∷ cs)))
run_blocks c bs [] v ms = refl
run_blocks c bs (b ∷ cs) v ms =
    ap (λ x. run (Some (draft.Linked c (bs ++ block v ms ∷ []) b.vertex [])) x) (append_assoc (map Move b.flips) (flat_map block_lines cs) (End ∷ []))
    ∙ run_moves (draft.Linked c (bs ++ block v ms ∷ []) b.vertex) (λ ms m. refl) [] b.flips (flat_map block_lines cs ++ End ∷ [])
    ∙ run_blocks c (bs ++ block v ms ∷ []) cs b.vertex b.flips
    ∙ ap (λ x. Some (draft.Done (certificate.Manifold c x))) (append_assoc bs (block v ms ∷ []) (b ∷ cs))

run_all : (c : Certificate) → run (Some draft.Begun) (lines_of c) ≡ Some (draft.Done c)
run_all (certificate.Sphere c ms) = run_moves (draft.Sphere c) (λ ms m. refl) [] ms (End ∷ [])
run_all (certificate.Equivalent c d ms p ns) =
    ap (run (Some (draft.Equivalent c d []))) (append_assoc (map Move ms) (Map p ∷ map Move ns) (End ∷ []))
    ∙ run_moves (draft.Equivalent c d) (λ ms m. refl) [] ms (Map p ∷ (map Move ns ++ End ∷ []))
    ∙ run_moves (draft.Mapped c d ms p) (λ ms m. refl) [] ns (End ∷ [])
run_all (certificate.Manifold c []) = refl
run_all (certificate.Manifold c (b ∷ bs)) =
    ap (λ x. run (Some (draft.Linked c [] b.vertex [])) x) (append_assoc (map Move b.flips) (flat_map block_lines bs) (End ∷ []))
    ∙ run_moves (draft.Linked c [] b.vertex) (λ ms m. refl) [] b.flips (flat_map block_lines bs ++ End ∷ [])
    ∙ run_blocks c [] bs b.vertex b.flips

run_lines : (d : Draft) (ls : List Line) (e : Draft) → run (Some d) ls ≡ Some e → draft_lines e ≡ draft_lines d ++ ls
run_lines d [] e f = ap draft_lines (sym (some_is f)) ∙ sym (append-nil (draft_lines d))
run_lines d (l ∷ ls) e f = by (next d l) refl f (λ d' g. run_lines d' ls e g)
  where
    by : (o : Option Draft) → next d l ≡ o → run o ls ≡ Some e → ((d' : Draft) → run (Some d') ls ≡ Some e → draft_lines e ≡ draft_lines d' ++ ls) → draft_lines e ≡ draft_lines d ++ l ∷ ls
    by None g f more = absurd (none_some (sym (run_none ls) ∙ f))
    by (Some d') g f more = more d' f ∙ ap (λ x. x ++ ls) (next_lines d l d' g) ∙ append_assoc (draft_lines d) (l ∷ []) ls

-- ---- a draft can be completed

abbrev ended : Draft → List Line
ended draft.Begun = Heading kind.Sphere ∷ Complex word.Facets [] ∷ End ∷ []
ended (draft.Headed kind.Sphere) = Complex word.Facets [] ∷ End ∷ []
ended (draft.Headed kind.Equivalent) = Complex word.From [] ∷ Complex word.To [] ∷ Map [] ∷ End ∷ []
ended (draft.Headed kind.Manifold) = Complex word.Facets [] ∷ End ∷ []
ended (draft.Sphere c ms) = End ∷ []
ended (draft.From c) = Complex word.To [] ∷ Map [] ∷ End ∷ []
ended (draft.Equivalent c d ms) = Map [] ∷ End ∷ []
ended (draft.Mapped c d ms p ns) = End ∷ []
ended (draft.Manifold c) = End ∷ []
ended (draft.Linked c bs v ms) = End ∷ []
ended (draft.Done k) = []

abbrev whole : Draft → Certificate
whole draft.Begun = certificate.Sphere [] []
whole (draft.Headed kind.Sphere) = certificate.Sphere [] []
whole (draft.Headed kind.Equivalent) = certificate.Equivalent [] [] [] [] []
whole (draft.Headed kind.Manifold) = certificate.Manifold [] []
whole (draft.Sphere c ms) = certificate.Sphere c ms
whole (draft.From c) = certificate.Equivalent c [] [] [] []
whole (draft.Equivalent c d ms) = certificate.Equivalent c d ms [] []
whole (draft.Mapped c d ms p ns) = certificate.Equivalent c d ms p ns
whole (draft.Manifold c) = certificate.Manifold c []
whole (draft.Linked c bs v ms) = certificate.Manifold c (bs ++ block v ms ∷ [])
whole (draft.Done k) = k

whole_lines : (d : Draft) → lines_of (whole d) ≡ draft_lines d ++ ended d
whole_lines draft.Begun = refl
whole_lines (draft.Headed kind.Sphere) = refl
whole_lines (draft.Headed kind.Equivalent) = refl
whole_lines (draft.Headed kind.Manifold) = refl
whole_lines (draft.Sphere c ms) = refl
whole_lines (draft.From c) = refl
whole_lines (draft.Equivalent c d ms) = ap (λ x. Heading kind.Equivalent ∷ Complex word.From c ∷ Complex word.To d ∷ x) (append_assoc (map Move ms) (Map [] ∷ []) (End ∷ []))
whole_lines (draft.Mapped c d ms p ns) = refl
whole_lines (draft.Manifold c) = refl
whole_lines (draft.Linked c bs v ms) = ap (λ x. Heading kind.Manifold ∷ Complex word.Facets c ∷ (x ++ End ∷ [])) (blocks_more bs v ms)
whole_lines (draft.Done k) = sym (append-nil (lines_of k))

ended_good : (d : Draft) → list_all is_line (ended d) ≡ true
ended_good draft.Begun = refl
ended_good (draft.Headed kind.Sphere) = refl
ended_good (draft.Headed kind.Equivalent) = refl
ended_good (draft.Headed kind.Manifold) = refl
ended_good (draft.Sphere c ms) = refl
ended_good (draft.From c) = refl
ended_good (draft.Equivalent c d ms) = refl
ended_good (draft.Mapped c d ms p ns) = refl
ended_good (draft.Manifold c) = refl
ended_good (draft.Linked c bs v ms) = refl
ended_good (draft.Done k) = refl

-- ---- the lines of a certificate that is held and shaped are good, and the other way round

module _ {X : Type 0} (p : X → Bool) where
  all_first : (xs ys : List X) → list_all p (xs ++ ys) ≡ true → list_all p xs ≡ true
  all_first [] ys h = refl
  all_first (x ∷ xs) ys h = and_both _ _ (and_left _ _ h) (all_first xs ys (and_right (p x) _ h))

  all_second : (xs ys : List X) → list_all p (xs ++ ys) ≡ true → list_all p ys ≡ true
  all_second [] ys h = h
  all_second (x ∷ xs) ys h = all_second xs ys (and_right (p x) _ h)

moves_good : (ms : List Flip) → list_all is_flip ms ≡ true → list_all is_line (map Move ms) ≡ true
moves_good [] h = refl
moves_good (m ∷ ms) h = and_both _ _ (and_left _ _ h) (moves_good ms (and_right (is_flip m) _ h))

good_moves : (ms : List Flip) → list_all is_line (map Move ms) ≡ true → list_all is_flip ms ≡ true
good_moves [] h = refl
good_moves (m ∷ ms) h = and_both _ _ (and_left _ _ h) (good_moves ms (and_right (is_flip m) _ h))

abbrev flips_held : List Block → Bool
flips_held bs = list_all (λ (b : Block). list_all is_flip b.flips) bs

abbrev vertices_shaped : List Block → Bool
vertices_shaped bs = list_all (λ (b : Block). is_label b.vertex) bs

blocks_good : (bs : List Block) → flips_held bs ≡ true → vertices_shaped bs ≡ true → list_all is_line (flat_map block_lines bs) ≡ true
blocks_good [] h k = refl
blocks_good (b ∷ bs) h k =
    all_append is_line (block_lines b) (flat_map block_lines bs) (and_both _ _ (and_left _ _ k) (moves_good b.flips (and_left _ _ h))) (blocks_good bs (and_right (list_all is_flip b.flips) _ h) (and_right (is_label b.vertex) _ k))

good_blocks : (bs : List Block) → list_all is_line (flat_map block_lines bs) ≡ true → (flips_held bs ≡ true) × (vertices_shaped bs ≡ true)
good_blocks [] h = (refl, refl)
good_blocks (b ∷ bs) h =
    let one = all_first is_line (block_lines b) (flat_map block_lines bs) h in
    let r = good_blocks bs (all_second is_line (block_lines b) (flat_map block_lines bs) h) in
    (and_both _ _ (good_moves b.flips (and_right (is_label b.vertex) _ one)) r.0, and_both _ _ (and_left _ _ one) r.1)

lines_good : (c : Certificate) → is_held c ≡ true → is_shaped c ≡ true → list_all is_line (lines_of c) ≡ true
lines_good (certificate.Sphere c ms) h k = and_both _ _ (and_left _ _ h) (all_append is_line (map Move ms) (End ∷ []) (moves_good ms (and_right (is_start c) _ h)) refl)
lines_good (certificate.Equivalent c d ms p ns) h k =
    let three = and_left _ _ h in let two = and_left _ _ three in
    and_both _ _ (and_left _ _ two) (and_both _ _ (and_right (is_start c) _ two)
    (all_append is_line (map Move ms ++ Map p ∷ map Move ns) (End ∷ []) (all_append is_line (map Move ms) (Map p ∷ map Move ns) (moves_good ms (and_right (is_start c && is_start d) _ three))
    (and_both _ _ k (moves_good ns (and_right (is_start c && is_start d && list_all is_flip ms) _ h)))) refl))
lines_good (certificate.Manifold c bs) h k = and_both _ _ (and_left _ _ h) (all_append is_line (flat_map block_lines bs) (End ∷ []) (blocks_good bs (and_right (is_start c) _ h) k) refl)

good_lines : (c : Certificate) → list_all is_line (lines_of c) ≡ true → (is_held c ≡ true) × (is_shaped c ≡ true)
good_lines (certificate.Sphere c ms) h = (and_both _ _ (and_left _ _ h) (good_moves ms (all_first is_line (map Move ms) (End ∷ []) (and_right (is_start c) _ h))), refl)
good_lines (certificate.Equivalent c d ms p ns) h =
    let tail : (is_start d && list_all is_line (way_lines ms p ns)) ≡ true = and_right (is_start c) _ h in
    let head : is_start c ≡ true = and_left _ (is_start d && list_all is_line (way_lines ms p ns)) h in
    let to : is_start d ≡ true = and_left _ _ tail in
    let r = all_first is_line (map Move ms ++ Map p ∷ map Move ns) (End ∷ []) (and_right (is_start d) _ tail) in
    let s = all_second is_line (map Move ms) (Map p ∷ map Move ns) r in
    (and_both _ _ (and_both _ _ (and_both _ _ head to) (good_moves ms (all_first is_line (map Move ms) (Map p ∷ map Move ns) r))) (good_moves ns (and_right (list_all is_pair p) _ s)), and_left _ _ s)
good_lines (certificate.Manifold c bs) h =
    let r = good_blocks bs (all_first is_line (flat_map block_lines bs) (End ∷ []) (and_right (is_start c) _ h)) in
    (and_both _ _ (and_left _ _ h) r.0, r.1)

-- ---- pieces between line feeds

pub some_piece : (xs : List ℕ) → (l : List ℕ) × (ls : List (List ℕ)) × (lines_in xs ≡ l ∷ ls)
some_piece xs = first_part (λ c. c == 10) xs

cons_is : {X : Type 0} {x y : X} {xs ys : List X} → x ∷ xs ≡ y ∷ ys → (x ≡ y) × (xs ≡ ys)
cons_is e = (cc, cc)

ten : (x : ℕ) → (x == 10) ≡ true → x ≡ 10
ten x e = grind (arith, nat_tests)

abbrev Cut : List ℕ → List ℕ → List (List ℕ) → Type 0
Cut xs l [] = (xs ≡ l) × (no_feed l ≡ true)
Cut xs l (m ∷ ms) = (y : List ℕ) × (xs ≡ l ++ 10 ∷ y) × (no_feed l ≡ true) × (lines_in y ≡ m ∷ ms)

cut : (xs l : List ℕ) (ls : List (List ℕ)) → lines_in xs ≡ l ∷ ls → Cut xs l ls
cut [] l [] e = let r = cons_is e in (r.0, subst (λ z. no_feed z ≡ true) r.0 refl)
cut [] l (m ∷ ms) e = let r = cons_is e in absurd (nil_cons r.1)
  where
    nil_cons : [] ≡ m ∷ ms → ⊥
    nil_cons e = cc
cut (x ∷ xs) l ls e = let r = some_piece xs in by (x == 10) refl r (cut xs r.0 r.1 r.2)
  where
    by : (v : Bool) → (x == 10) ≡ v → (r : (k : List ℕ) × (ks : List (List ℕ)) × (lines_in xs ≡ k ∷ ks)) → Cut xs r.0 r.1 → Cut (x ∷ xs) l ls
    by true h r more =
        let f = cons_is (sym (ap (λ v. cond v ([] ∷ lines_in xs) (onto_first x (lines_in xs))) h) ∙ e) in
        at_feed ls (sym r.2 ∙ f.1) f.0
      where
        at_feed : (ls : List (List ℕ)) → r.0 ∷ r.1 ≡ ls → [] ≡ l → Cut (x ∷ xs) l ls
        at_feed [] g i = absurd (cons_nil g)
          where
            cons_nil : r.0 ∷ r.1 ≡ [] → ⊥
            cons_nil e = cc
        at_feed (m ∷ ms) g i = (xs, ap (λ z. z ∷ xs) (ten x h) ∙ ap (λ z. z ++ 10 ∷ xs) i, subst (λ z. no_feed z ≡ true) i refl, r.2 ∙ g)
    by false h r more =
        let f = cons_is (sym (ap (λ v. cond v ([] ∷ lines_in xs) (onto_first x (lines_in xs))) h ∙ ap (onto_first x) r.2) ∙ e) in
        further ls f.1 more f.0
      where
        further : (ls : List (List ℕ)) → r.1 ≡ ls → Cut xs r.0 r.1 → x ∷ r.0 ≡ l → Cut (x ∷ xs) l ls
        further [] g i j =
            let c : Cut xs r.0 [] = subst (Cut xs r.0) g i in
            (ap (λ z. x ∷ z) c.0 ∙ j, subst (λ z. no_feed z ≡ true) j (and_both _ _ (ap not h) c.1))
        further (m ∷ ms) g i j =
            let c : Cut xs r.0 (m ∷ ms) = subst (Cut xs r.0) g i in
            (c.0, ap (λ z. x ∷ z) c.1 ∙ ap (λ z. z ++ 10 ∷ c.0) j, subst (λ z. no_feed z ≡ true) j (and_both _ _ (ap not h) c.2), c.3)

-- ---- what is spelled is read

piece_of : (l : Line) (x : List ℕ) → lines_in (text_of (l ∷ []) ++ x) ≡ line_text l ∷ lines_in x
piece_of l x = ap (λ t. lines_in (t ++ x)) (append-nil (line_text l ++ 10 ∷ [])) ∙ ap lines_in (append_assoc (line_text l) (10 ∷ []) x) ∙ split_at_one (λ c. c == 10) (line_text l) x 10 (no_feed-line l) refl

step_again : (d : Draft) (l : Line) → is_line l ≡ true → stepped d (line_text l) ≡ next d l
step_again d l h = ap (option_and_then (next d)) (line_again l h)

read_again : (ls : List Line) (k : ℕ) (d : Draft) (c : Certificate) → list_all is_line ls ≡ true → run (Some d) ls ≡ Some (draft.Done c) → reading_from k d (lines_in (text_of ls)) ≡ Ok c
read_again [] k d c h e = ap (λ x. finished k x []) (some_is e)
read_again (l ∷ ls) k d c h e = by (next d l) refl e (some_piece (text_of ls)) (λ d' f. read_again ls (k + 1) d' c (and_right (is_line l) _ h) f)
  where
    by : (o : Option Draft) → next d l ≡ o → run o ls ≡ Some (draft.Done c) → (m : List ℕ) × (ms : List (List ℕ)) × (lines_in (text_of ls) ≡ m ∷ ms)
        → ((d' : Draft) → run (Some d') ls ≡ Some (draft.Done c) → reading_from (k + 1) d' (lines_in (text_of ls)) ≡ Ok c) → reading_from k d (lines_in (text_of (l ∷ ls))) ≡ Ok c
    by None g f r more = absurd (none_some (sym (run_none ls) ∙ f))
    by (Some d') g f r more =
        ap (λ ps. reading_from k d ps)
        (ap lines_in (append_assoc (line_text l) (10 ∷ []) (text_of ls)) ∙ split_at_one (λ c. c == 10) (line_text l) (text_of ls) 10 (no_feed-line l) refl ∙ ap (λ ps. line_text l ∷ ps) r.2)
        ∙ ap (λ o. read_on k o (λ e. reading_from (k + 1) e (r.0 ∷ r.1))) (step_again d l (and_left _ _ h) ∙ g)
        ∙ ap (reading_from (k + 1) d') (sym r.2)
        ∙ more d' f

pub spelled_read : (c : Certificate) (bytes : List ℕ) → Spells c bytes → reading bytes ≡ Ok c
unfolding reading
spelled_read c bytes s = ap (λ b. reading_from 1 draft.Begun (lines_in b)) s.text ∙ read_again (lines_of c) 1 draft.Begun c (lines_good c s.held s.shaped) (run_all c)

one_ok : (c d : Certificate) (r : Result Certificate ℕ) → r ≡ Ok c → r ≡ Ok d → c ≡ d
one_ok c d r e f = cc

pub one_certificate_lem : (c d : Certificate) (bytes : List ℕ) → Spells c bytes → Spells d bytes → c ≡ d
one_certificate_lem c d bytes s t = one_ok c d (reading bytes) (spelled_read c bytes s) (spelled_read d bytes t)

-- ---- what is read is spelled, and the line where nothing is

-- the reader stands behind these lines
record At (bytes : List ℕ) (k : ℕ) (d : Draft) (rest : List ℕ) : Type 0 where
  pub lines : List Line
  pub good : list_all is_line lines ≡ true
  pub ran : run (Some draft.Begun) lines ≡ Some d
  pub text : bytes ≡ text_of lines ++ rest
  pub number : k ≡ length lines + 1

text_more : (ls : List Line) (l : Line) → text_of (ls ++ l ∷ []) ≡ text_of ls ++ (line_text l ++ 10 ∷ [])
text_more ls l = text_append ls (l ∷ []) ∙ ap (λ t. text_of ls ++ t) (append-nil (line_text l ++ 10 ∷ []))

-- the lines so far begin some certificate
fits_at : (bytes : List ℕ) (k : ℕ) (d : Draft) (rest : List ℕ) (a : At bytes k d rest) → BeginsLikeOne bytes (length a.lines)
fits_at bytes k d rest a =
    let here : draft_lines d ≡ a.lines = run_lines draft.Begun a.lines d a.ran in
    let all : lines_of (whole d) ≡ a.lines ++ ended d = whole_lines d ∙ ap (λ ls. ls ++ ended d) here in
    let good = good_lines (whole d) (ap (list_all is_line) all ∙ all_append is_line a.lines (ended d) a.good (ended_good d)) in
    record {
      like = whole d;
      held = good.0;
      shaped = good.1;
      lines = subst (λ n. length a.lines ≤ n) (sym (ap length all ∙ length-append a.lines (ended d))) (omega arith);
      rest = rest;
      text = a.text ∙ ap (λ ls. text_of ls ++ rest) (sym (ap (take (length a.lines)) all ∙ take_at a.lines (ended d) (length a.lines) refl));
    }

-- two lists of lines whose texts begin the same bytes, of which the first is shorter
record Further (ls xs : List Line) (rest r : List ℕ) : Type 0 where
  pub line : Line
  pub more : List Line
  pub good : is_line line ≡ true
  pub parts : xs ≡ ls ++ line ∷ more
  pub text : rest ≡ line_text line ++ 10 ∷ (text_of more ++ r)

same_line : (l m : Line) → is_line l ≡ true → is_line m ≡ true → line_text l ≡ line_text m → l ≡ m
same_line l m h k e = some_is (sym (line_again l h) ∙ ap line_of e ∙ line_again m k)

further : (ls xs : List Line) (rest r : List ℕ) → list_all is_line ls ≡ true → list_all is_line xs ≡ true → length ls < length xs → text_of ls ++ rest ≡ text_of xs ++ r → Further ls xs rest r
further ls [] rest r h k l e = absurd (omega arith)
further [] (x ∷ xs) rest r h k l e = record { line = x; more = xs; good = and_left _ _ k; parts = refl; text = e ∙ append_assoc (line_text x ++ 10 ∷ []) (text_of xs) r ∙ append_assoc (line_text x) (10 ∷ []) (text_of xs ++ r) }
further (y ∷ ls) (x ∷ xs) rest r h k l e =
    let both : line_text y ++ 10 ∷ (text_of ls ++ rest) ≡ line_text x ++ 10 ∷ (text_of xs ++ r) =
    sym (append_assoc (line_text y ++ 10 ∷ []) (text_of ls) rest ∙ append_assoc (line_text y) (10 ∷ []) (text_of ls ++ rest)) ∙ e
    ∙ append_assoc (line_text x ++ 10 ∷ []) (text_of xs) r ∙ append_assoc (line_text x) (10 ∷ []) (text_of xs ++ r) in
    let s = split (line_text y) (line_text x) (text_of ls ++ rest) (text_of xs ++ r) (no_feed-line y) (no_feed-line x) both in
    let same : y ≡ x = same_line y x (and_left _ _ h) (and_left _ _ k) s.0 in
    let f = further ls xs rest r (and_right (is_line y) _ h) (and_right (is_line x) _ k) (omega arith) s.1 in
    record { line = f.line; more = f.more; good = f.good; parts = ap (λ z. x ∷ z) f.parts ∙ ap (λ z. z ∷ (ls ++ f.line ∷ f.more)) (sym same); text = f.text }

all_taken : (n : ℕ) (ls : List Line) → list_all is_line ls ≡ true → list_all is_line (take n ls) ≡ true
all_taken n ls h = all_first is_line (take n ls) (drop n ls) (ap (list_all is_line) (take-append-drop n ls) ∙ h)

-- where no line that may come next stands in front of the rest, no spelling begins with more lines
form_at : (bytes : List ℕ) (k : ℕ) (d : Draft) (rest : List ℕ) (a : At bytes k d rest) → ((x : Line) (r : List ℕ) → is_line x ≡ true → rest ≡ line_text x ++ 10 ∷ r → next d x ≡ None) → IsFormLine bytes k
form_at bytes k d rest a none = record {
  before = length a.lines;
  is = a.number;
  fits = fits_at bytes k d rest a;
  most = λ n b. not_more n b (le_or n (length a.lines));
}
  where
    le_or : (n m : ℕ) → (n ≤ m) ⊎ (m < n)
    le_or n m = grind arith

    not_more : (n : ℕ) (b : BeginsLikeOne bytes n) → (n ≤ length a.lines) ⊎ (length a.lines < n) → n ≤ length a.lines
    not_more n b (inl l) = l
    not_more n b (inr l) =
        let all = lines_of b.like in
        let good = lines_good b.like b.held b.shaped in
        let count : length (take n all) ≡ n = length-take-le n all b.lines in
        let f = further a.lines (take n all) rest b.rest a.good (all_taken n all good) (omega (arith, count, l)) (sym a.text ∙ b.text) in
        let gone : next d f.line ≡ None = none f.line (text_of f.more ++ b.rest) f.good f.text in
        let stuck : run (Some draft.Begun) (take n all) ≡ None =
        ap (run (Some draft.Begun)) f.parts ∙ run_append (Some draft.Begun) a.lines (f.line ∷ f.more) ∙ ap (λ o. run o (f.line ∷ f.more)) a.ran ∙ ap (λ o. run o f.more) gone ∙ run_none f.more in
        let ends : None ≡ Some (draft.Done b.like) =
        sym (ap (run (Some draft.Begun)) (sym (take-append-drop n all)) ∙ run_append (Some draft.Begun) (take n all) (drop n all) ∙ ap (λ o. run o (drop n all)) stuck ∙ run_none (drop n all)) ∙ run_all b.like in
        absurd (none_some ends)

-- what a reading says of the bytes
abbrev pub Told : List ℕ → Result Certificate ℕ → Type 0
Told bytes (Ok c) = Spells c bytes
Told bytes (Err line) = IsFormLine bytes line

no_feed-in : (x : List ℕ) (r : List ℕ) → no_feed (x ++ 10 ∷ r) ≡ true → ⊥
no_feed-in [] r h = true≢false (sym h)
no_feed-in (c ∷ x) r h = no_feed-in x r (and_right (not (c == 10)) _ h)

told_end : (bytes : List ℕ) (k : ℕ) (d : Draft) (rest l : List ℕ) (a : At bytes k d rest) → rest ≡ l → no_feed l ≡ true → Told bytes (finished k d l)
told_end bytes k d rest l a e h = by d l a e h
  where
    form : (d : Draft) (l : List ℕ) → At bytes k d rest → rest ≡ l → no_feed l ≡ true → IsFormLine bytes k
    form d l a e h = form_at bytes k d rest a (λ x r g f. absurd (no_feed-in (line_text x) r (ap no_feed (sym f ∙ e) ∙ h)))

    by : (d : Draft) (l : List ℕ) → At bytes k d rest → rest ≡ l → no_feed l ≡ true → Told bytes (finished k d l)
    by (draft.Done c) [] a e h =
        let here : lines_of c ≡ a.lines = run_lines draft.Begun a.lines (draft.Done c) a.ran in
        let good = good_lines c (ap (list_all is_line) here ∙ a.good) in
        record { held = good.0; shaped = good.1; text = a.text ∙ ap (λ x. text_of a.lines ++ x) e ∙ append-nil (text_of a.lines) ∙ ap text_of (sym here) }
    by (draft.Done c) (x ∷ l) a e h = form (draft.Done c) (x ∷ l) a e h
    by draft.Begun l a e h = form draft.Begun l a e h
    by (draft.Headed q) l a e h = form (draft.Headed q) l a e h
    by (draft.Sphere c ms) l a e h = form (draft.Sphere c ms) l a e h
    by (draft.From c) l a e h = form (draft.From c) l a e h
    by (draft.Equivalent c q ms) l a e h = form (draft.Equivalent c q ms) l a e h
    by (draft.Mapped c q ms p ns) l a e h = form (draft.Mapped c q ms p ns) l a e h
    by (draft.Manifold c) l a e h = form (draft.Manifold c) l a e h
    by (draft.Linked c bs v ms) l a e h = form (draft.Linked c bs v ms) l a e h

-- the reader one line further
record Moved (d : Draft) (l : List ℕ) (e : Draft) : Type 0 where
  pub line : Line
  pub good : is_line line ≡ true
  pub text : l ≡ line_text line
  pub goes : next d line ≡ Some e

moved : (d : Draft) (l : List ℕ) (e : Draft) → stepped d l ≡ Some e → Moved d l e
moved d l e f = by (line_of l) refl f
  where
    by : (o : Option Line) → line_of l ≡ o → option_and_then (next d) o ≡ Some e → Moved d l e
    by None g f = absurd (none_some f)
    by (Some x) g f = let r = line_is l x g in record { line = x; good = r.0; text = r.1; goes = f }

at_next : (bytes : List ℕ) (k : ℕ) (d : Draft) (rest l y : List ℕ) (e : Draft) → At bytes k d rest → rest ≡ l ++ 10 ∷ y → stepped d l ≡ Some e → At bytes (k + 1) e y
at_next bytes k d rest l y e a f g =
    let m = moved d l e g in
    record {
      lines = a.lines ++ m.line ∷ [];
      good = all_append is_line a.lines (m.line ∷ []) a.good (and_both _ _ m.good refl);
      ran = run_append (Some draft.Begun) a.lines (m.line ∷ []) ∙ ap (λ o. run o (m.line ∷ [])) a.ran ∙ m.goes;
      text = a.text ∙ ap (λ x. text_of a.lines ++ x) (f ∙ ap (λ t. t ++ 10 ∷ y) m.text ∙ sym (append_assoc (line_text m.line) (10 ∷ []) y))
          ∙ sym (append_assoc (text_of a.lines) (line_text m.line ++ 10 ∷ []) y) ∙ ap (λ t. t ++ y) (sym (text_more a.lines m.line));
      number = omega (arith, a.number, length-append a.lines (m.line ∷ []));
    }

form_step : (bytes : List ℕ) (k : ℕ) (d : Draft) (rest l y : List ℕ) → At bytes k d rest → rest ≡ l ++ 10 ∷ y → no_feed l ≡ true → stepped d l ≡ None → IsFormLine bytes k
form_step bytes k d rest l y a f h g =
    form_at bytes k d rest a (λ x r i e. let s = split (line_text x) l r y (no_feed-line x) h (sym e ∙ f) in sym (step_again d x i) ∙ ap (stepped d) s.0 ∙ g)

told : (bytes : List ℕ) (k : ℕ) (d : Draft) (rest : List ℕ) (ps : List (List ℕ)) → At bytes k d rest → lines_in rest ≡ ps → Told bytes (reading_from k d ps)
told bytes k d rest [] a e = let r = some_piece rest in absurd (cons_nil r.0 r.1 (sym r.2 ∙ e))
  where
    cons_nil : (m : List ℕ) (ms : List (List ℕ)) → m ∷ ms ≡ [] → ⊥
    cons_nil m ms e = cc
told bytes k d rest (l ∷ []) a e = let c = cut rest l [] e in told_end bytes k d rest l a c.0 c.1
told bytes k d rest (l ∷ m ∷ ls) a e = let c = cut rest l (m ∷ ls) e in by (stepped d l) refl c (λ d' b. told bytes (k + 1) d' c.0 (m ∷ ls) b c.3)
  where
    by : (o : Option Draft) → stepped d l ≡ o → (c : Cut rest l (m ∷ ls)) → ((d' : Draft) → At bytes (k + 1) d' c.0 → Told bytes (reading_from (k + 1) d' (m ∷ ls))) → Told bytes (read_on k o (λ e. reading_from (k + 1) e (m ∷ ls)))
    by None g c more = form_step bytes k d rest l c.0 a c.1 c.2 g
    by (Some d') g c more = more d' (at_next bytes k d rest l c.0 d' a c.1 g)

pub reading_told : (bytes : List ℕ) → Told bytes (reading bytes)
unfolding reading
reading_told bytes = told bytes 1 draft.Begun bytes (lines_in bytes) (record { lines = []; good = refl; ran = refl; text = refl; number = refl }) refl

-- what is read is spelled
pub read_spelled : (bytes : List ℕ) (c : Certificate) → reading bytes ≡ Ok c → Spells c bytes
read_spelled bytes c e = subst (Told bytes) e (reading_told bytes)

-- the line where nothing is read
pub read_form : (bytes : List ℕ) (line : ℕ) → reading bytes ≡ Err line → IsFormLine bytes line
read_form bytes line e = subst (Told bytes) e (reading_told bytes)

pub reads_the_spelled_lem : ReadsTheSpelled
reads_the_spelled_lem bytes c = (read_spelled bytes c, spelled_read c bytes)

pub form_lines_lem : FormLines
form_lines_lem = read_form
