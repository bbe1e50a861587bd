-- Each command: its conditions in order, the state after it and the reply.
use Rattle.std.specs.Prelude.{ℕ, ◌+◌, pos, Bool, ◌||◌, ◌&&◌, ◌==◌, slice_index_or, not, List, [], ◌∷◌, ◌++◌, map, length, Option, Some, None, codes, nat_lt, nat_le}
use Rattle.std.specs.List.{flat_map, list_all, range_with_len}
use Rattle.simplex.specs.FirstFailing.{first_failing}
use Rattle.simplex.specs.Simplex.{is_label}
use Rattle.simplex.specs.SimplexFault.{set, simplex_tests}
use Rattle.simplex.specs.declared.flip.Flip.{Flip}
use Rattle.simplex.specs.declared.simplex_fault.SimplexFault.{SimplexFault}
use Rattle.simplex.specs.declared.simplex_fault.SimplexFault.TheVariants.{Long, Label, Twice}
use Rattle.facet_set.specs.Complex.{generated, is_face, stands_in}
use Rattle.facet_set.specs.Connection.{components, is_closed, is_strong}
use Rattle.facet_set.specs.Flips.{flip, options}
use Rattle.facet_set.specs.Numbers.{degree, f_vector, faces_of_size, is_pure, size}
use Rattle.facet_set.specs.Parts.{boundary, deletion, link, skeleton, star}
use Rattle.facet_set.specs.Maps.{image}
use Rattle.annealer.specs.Budget.{is_in_budget}
use Rattle.annealer.specs.Walk.{goal, to_goal, walk}
use Rattle.betti_tables.specs.Ranks.{betti_vector}
use Rattle.gf2_rank.specs.Matrix.{side_limit}
use Rattle.constructions.specs.Cyclic.{cyclic, cyclic_limits}
use Rattle.constructions.specs.Gluing.{handle, handle_tests, sum_of, sum_tests}
use Rattle.constructions.specs.Joins.{cone, fit_tests, join, point, suspension, two_points}
use Rattle.constructions.specs.Relabelling.{is_renaming}
use Rattle.constructions.specs.Spheres.{bdcross, bdsimplex, sphere_tests as boundary_tests}
use Rattle.constructions.specs.Stacked.{stacked, stacked_limits}
use Rattle.constructions.specs.declared.make_fault.MakeFault.{MakeFault}
use Rattle.constructions.specs.declared.make_fault.MakeFault.TheVariants as make
use Rattle.collapse_moves.specs.Collapses.{add_face, collapse, drop_face, free_tests}
use Rattle.collapse_moves.specs.declared.free_fault.FreeFault.{FreeFault}
use Rattle.collapse_moves.specs.declared.free_fault.FreeFault.TheVariants as free
use Rattle.face_vectors.specs.Vectors.{alternating, g_vector_of, h_vector_of}
use Rattle.flip_rules.specs.Tests.{flip_tests}
use Rattle.flip_rules.specs.declared.flip_fault.FlipFault.{FlipFault}
use Rattle.flip_rules.specs.declared.flip_fault.FlipFault.TheVariants as fault
use Rattle.script_text.specs.declared.command.Command.{Command}
use Rattle.script_text.specs.declared.command.Command.TheVariants as command
use Rattle.script_text.specs.declared.command.Maker.{Maker}
use Rattle.script_text.specs.declared.command.Maker.TheVariants as maker
use Rattle.script_text.specs.declared.command.Question.{Question}
use Rattle.script_text.specs.declared.command.Question.TheVariants as question
use Rattle.script_text.specs.declared.command.Edit.{Edit}
use Rattle.script_text.specs.declared.command.Edit.TheVariants as edit
use Rattle.conditions.specs.declared.condition.Condition.{Condition}
use Rattle.conditions.specs.declared.condition.Condition.TheVariants as condition
use Rattle.reply_texts.specs.Replies.{faces_reply, facets_reply, flips_reply, number_reply, numbers_reply, ok_reply, reduced_reply, refusal_text, undecided_at_reply, undecided_reply, yes_or_no, yes_reply}
use Rattle.verdicts.specs.Tests.{equivalent_tests, manifold_tests, sphere_tests}
use Rattle.verdicts.specs.Verdicts.{equivalent_of, manifold_of, sphere_of}
use Rattle.verdicts.specs.declared.verdict.Verdict.{Verdict}
use Rattle.verdicts.specs.declared.verdict.Verdict.TheVariants.{Yes, Undecided, UndecidedAt}
use Rattle.verdicts.specs.declared.verdict_fault.VerdictFault.{VerdictFault}
use Rattle.verdicts.specs.declared.verdict_fault.VerdictFault.TheVariants as unfit
use Rattle.shell_names.specs.State.{State, Complex, holds, entry, present, assign, put_entry, edited, undone, redone, total_weight, journal}
use Rattle.script_shell.specs.declared.limits.Limits.{Limits}

-- whether a condition holds, and which one it is
abbrev pub Test : Type 0
Test = Bool × Condition

-- what a command means where it stands: its conditions in order, the state after it and its reply
pub record Meaning : Type 0 where
  pub tests : List Test
  pub after : State
  pub reply : List ℕ

-- ---- conditions of several commands

-- the condition that a list of numbers with this fault fails
abbrev pub condition_of : SimplexFault → Condition
condition_of (Long len) = condition.DimLimit
condition_of (Label at) = condition.LabelRange
condition_of (Twice label) = condition.LabelTwice

-- the conditions on a list that stands for a simplex
abbrev pub list_tests : List ℕ → List Test
list_tests numbers = map (λ t. (t.0, condition_of t.1)) (simplex_tests numbers)

-- the name is held
abbrev pub name_test : State → List ℕ → Test
name_test s x = (holds s x, condition.NoName)

-- the name is held, or there is room for one more
abbrev pub room_test : Limits → State → List ℕ → Test
room_test limits s x = (holds s x || nat_lt (length s) limits.names, condition.NamesFull)

-- there is a facet
abbrev pub void_test : Complex → Test
void_test c = (nat_lt 0 (length c), condition.Void)

-- each of the complexes has a facet, and then each is pure
abbrev pub pure_tests : List Complex → List Test
pure_tests cs = map void_test cs ++ map (λ c. (is_pure c, condition.NotPure)) cs

-- the list is a face
abbrev pub face_test : Complex → List ℕ → Test
face_test c face = (is_face c (set face), condition.NotFace)

-- the weights of all present complexes are within the limit
abbrev pub weight_test : Limits → State → Test
weight_test limits s = (nat_le (total_weight s) limits.weight, condition.SizeLimit)

-- the sizes of all changes are within the limit
abbrev pub journal_test : Limits → State → Test
journal_test limits s = (nat_le (journal s) limits.journal, condition.JournalFull)

-- ---- assignments

-- the condition that a construction with this fault fails (want of memory stands beside no test)
abbrev pub make_condition : MakeFault → Condition
make_condition make.Range = condition.Range
make_condition make.DimLimit = condition.DimLimit
make_condition make.LabelRange = condition.LabelRange
make_condition make.NotPure = condition.NotPure
make_condition make.DimDiffers = condition.DimDiffers
make_condition make.NotFacet = condition.NotFacet
make_condition make.NotMap = condition.NotMap
make_condition make.Overlap = condition.Overlap
make_condition (make.Near v) = condition.Near
make_condition make.Size = condition.SizeLimit
make_condition make.Memory = condition.SizeLimit

-- the conditions of a construction
abbrev pub make_tests : List (Bool × MakeFault) → List Test
make_tests ts = map (λ t. (t.0, make_condition t.1)) ts

-- whether the list is a label and the one that it becomes, and the two
abbrev pub is_pair : List ℕ → Bool
is_pair l = length l == 2

abbrev pub pair_of : List ℕ → ℕ × ℕ
pair_of l = (slice_index_or l 0 0, slice_index_or l 1 0)

-- what a maker asks of the names that it speaks of and of its lists, its own conditions, and the complex that it makes
pub record Making : Type 0 where
  pub names : List (List ℕ)
  pub lists : List (List ℕ)
  pub own : List Test
  pub complex : Complex

abbrev pub making : State → Maker → Making
making s (maker.Facets lists) = record { names = []; lists = lists; own = []; complex = generated (map set lists) }
making s (maker.Copy x) = record { names = x ∷ []; lists = []; own = []; complex = present s x }
making s (maker.Link x face) = record { names = x ∷ []; lists = face ∷ []; own = face_test (present s x) face ∷ []; complex = link (present s x) (set face) }
making s (maker.Star x face) = record { names = x ∷ []; lists = face ∷ []; own = face_test (present s x) face ∷ []; complex = star (present s x) (set face) }
making s (maker.Deletion x face) = record { names = x ∷ []; lists = face ∷ []; own = face_test (present s x) face ∷ []; complex = deletion (present s x) (set face) }
making s (maker.Boundary x) = record { names = x ∷ []; lists = []; own = pure_tests (present s x ∷ []); complex = boundary (present s x) }
making s (maker.Skeleton x k) = record { names = x ∷ []; lists = []; own = []; complex = skeleton (present s x) k }
making s (maker.BdSimplex d) = record { names = []; lists = []; own = make_tests (boundary_tests d); complex = bdsimplex d }
making s (maker.BdCross d) = record { names = []; lists = []; own = make_tests (boundary_tests d); complex = bdcross d }
making s (maker.Cyclic k n) = record { names = []; lists = []; own = make_tests (cyclic_limits k n); complex = cyclic k n }
making s (maker.Stacked d n seed) = record { names = []; lists = []; own = make_tests (stacked_limits d n); complex = stacked d n seed }
making s (maker.Join x y) = record { names = x ∷ y ∷ []; lists = []; own = make_tests (fit_tests (present s x) (present s y)); complex = join (present s x) (present s y) }
making s (maker.Cone x) = record { names = x ∷ []; lists = []; own = make_tests (fit_tests (present s x) point); complex = cone (present s x) }
making s (maker.Suspension x) = record { names = x ∷ []; lists = []; own = make_tests (fit_tests (present s x) two_points); complex = suspension (present s x) }
making s (maker.Sum x f y g) =
    record {
      names = x ∷ y ∷ [];
      lists = f ∷ g ∷ [];
      own = map void_test (present s x ∷ present s y ∷ []) ++ make_tests (sum_tests (present s x) f (present s y) g);
      complex = sum_of (present s x) f (present s y) g;
    }
making s (maker.Handle x f g) =
    record { names = x ∷ []; lists = f ∷ g ∷ []; own = void_test (present s x) ∷ make_tests (handle_tests (present s x) f g); complex = handle (present s x) f g }
making s (maker.Relabel x lists) =
    record {
      names = x ∷ [];
      lists = [];
      own = (list_all is_pair lists && is_renaming (map pair_of lists) (present s x), condition.NotMap)
          ∷ (list_all (λ p. is_label p.1) (map pair_of lists), condition.LabelRange)
          ∷ [];
      complex = image (map pair_of lists) (present s x);
    }

-- the conditions before those on the state after the assignment
abbrev pub making_tests : Limits → State → List ℕ → Making → List Test
making_tests limits s x m = map (name_test s) m.names ++ room_test limits s x ∷ flat_map list_tests m.lists ++ m.own

abbrev pub assignment : Limits → State → List ℕ → Making → Meaning
assignment limits s x m =
    record {
      tests = making_tests limits s x m ++ weight_test limits (assign x m.complex s) ∷ [];
      after = assign x m.complex s;
      reply = ok_reply m.complex;
    }

-- ---- questions

-- what a question asks of its lists, its own conditions, and the answer
pub record Asking : Type 0 where
  pub lists : List (List ℕ)
  pub own : List Test
  pub reply : List ℕ

abbrev pub asking : Complex → Question → Asking
asking c question.Print = record { lists = []; own = []; reply = facets_reply c }
asking c question.Fvec = record { lists = []; own = []; reply = numbers_reply (codes "fvec ") (map pos (f_vector c)) }
asking c question.Hvec = record { lists = []; own = void_test c ∷ []; reply = numbers_reply (codes "hvec ") (h_vector_of (f_vector c)) }
asking c question.Gvec = record { lists = []; own = void_test c ∷ []; reply = numbers_reply (codes "gvec ") (g_vector_of (f_vector c)) }
asking c question.Euler = record { lists = []; own = []; reply = number_reply (codes "euler ") (alternating (f_vector c)) }
asking c (question.Faces k) = record { lists = []; own = []; reply = faces_reply (faces_of_size c (k + 1)) }
asking c (question.Degree face) =
    record {
      lists = face ∷ [];
      own = face_test c face ∷ [];
      reply = number_reply (codes "degree ") (pos (degree c (set face)));
    }
asking c question.Components = record { lists = []; own = []; reply = number_reply (codes "components ") (pos (components c)) }
asking c question.Closed = record { lists = []; own = pure_tests (c ∷ []); reply = yes_or_no (codes "closed ") (is_closed c) }
asking c question.Strong = record { lists = []; own = pure_tests (c ∷ []); reply = yes_or_no (codes "strong ") (is_strong c) }
asking c question.Betti =
    record {
      lists = [];
      own = (list_all (λ n. nat_le n side_limit) (f_vector c), condition.RankLimit) ∷ [];
      reply = numbers_reply (codes "betti ") (betti_vector c);
    }
asking c question.Options =
    record { lists = []; own = pure_tests (c ∷ []); reply = numbers_reply (codes "options ") (map (λ i. pos (length (options c i))) (range_with_len 0 (size c))) }
asking c (question.OptionsOf class) =
    record {
      lists = [];
      own = pure_tests (c ∷ []) ++ (nat_lt class (size c), condition.Range) ∷ [];
      reply = flips_reply (options c class);
    }

-- the conditions of a question, without that on the name
abbrev pub asking_tests : Asking → List Test
asking_tests a = flat_map list_tests a.lists ++ a.own

abbrev pub answering : State → List ℕ → Asking → Meaning
answering s x a = record { tests = name_test s x ∷ asking_tests a; after = s; reply = a.reply }

-- ---- changes

-- the condition that a flip with this fault fails
abbrev pub flip_condition : FlipFault → Condition
flip_condition fault.NotPure = condition.NotPure
flip_condition fault.Size = condition.FlipSize
flip_condition fault.Overlap = condition.Overlap
flip_condition fault.Star = condition.FlipStar
flip_condition fault.Present = condition.FlipPresent

-- the flip of two lists
abbrev pub flip_of : List ℕ → List ℕ → Flip
flip_of a b = record { a = set a; b = set b }

-- what a change asks of its lists, its own conditions, the complex after it, and its reply
pub record Editing : Type 0 where
  pub lists : List (List ℕ)
  pub own : List Test
  pub complex : Complex
  pub reply : List ℕ

-- the bistellar flip that takes out the first set and puts in the second
abbrev pub flipping : Complex → List ℕ → List ℕ → Editing
flipping c a b =
    record {
      lists = a ∷ b ∷ [];
      own = void_test c ∷ map (λ t. (t.0, flip_condition t.1)) (flip_tests c (flip_of a b));
      complex = flip c (set a) (set b);
      reply = ok_reply (flip c (set a) (set b));
    }

-- the simplex comes as a facet, and the facets that lie in it go
abbrev pub adding : Complex → List ℕ → Editing
adding c face =
    record {
      lists = face ∷ [];
      own = (not (is_face c (set face)), condition.IsFace) ∷ [];
      complex = add_face c (set face);
      reply = ok_reply (add_face c (set face));
    }

-- the facet goes, and its other faces stay
abbrev pub dropping : Complex → List ℕ → Editing
dropping c face =
    record {
      lists = face ∷ [];
      own = (stands_in c (set face), condition.NotFacet) ∷ [];
      complex = drop_face c (set face);
      reply = ok_reply (drop_face c (set face));
    }

-- the condition that a face with this fault fails
abbrev pub free_condition : FreeFault → Condition
free_condition free.NotFace = condition.NotFace
free_condition free.NotFree = condition.NotFree

-- the elementary collapse: the free face goes, with the one face in which it lies properly
abbrev pub collapsing : Complex → List ℕ → Editing
collapsing c face =
    record {
      lists = face ∷ [];
      own = map (λ t. (t.0, free_condition t.1)) (free_tests c (set face));
      complex = collapse c (set face);
      reply = ok_reply (collapse c (set face));
    }

-- a walk of so many flips from the complex stays within the limits, where it has a dimension of at least 0
abbrev pub walk_tests : Complex → ℕ → List Test
walk_tests c budget = (nat_lt 0 (size c), condition.DimRange) ∷ (is_in_budget c budget, condition.Budget) ∷ []

-- the goal of the walk comes in place of the complex
abbrev pub reducing : Complex → ℕ → ℕ → Editing
reducing c budget seed =
    let flips = walk c seed budget in
    record {
      lists = [];
      own = pure_tests (c ∷ []) ++ walk_tests c budget;
      complex = goal c flips;
      reply = reduced_reply (to_goal c flips) (goal c flips);
    }

-- the conditions before those on the state after the change, without that on the name
abbrev pub editing_tests : Editing → List Test
editing_tests e = flat_map list_tests e.lists ++ e.own

-- the state in which the name has the complex, its past goes on by the one before, and its future is empty
abbrev pub after_edit : State → List ℕ → Complex → State
after_edit s x c = put_entry (edited (entry s x) c) s

abbrev pub change : Limits → State → List ℕ → Editing → Meaning
change limits s x e =
    record {
      tests = name_test s x ∷ editing_tests e ++ weight_test limits (after_edit s x e.complex) ∷ journal_test limits (after_edit s x e.complex) ∷ [];
      after = after_edit s x e.complex;
      reply = e.reply;
    }

-- one complex back, where the name has a past
abbrev pub after_undo : State → List ℕ → State
after_undo s x = put_entry (undone (entry s x)) s

abbrev pub undo : Limits → State → List ℕ → Meaning
undo limits s x =
    record {
      tests = name_test s x ∷ (nat_lt 0 (length (entry s x).past), condition.NoPast) ∷ weight_test limits (after_undo s x) ∷ [];
      after = after_undo s x;
      reply = ok_reply (undone (entry s x)).present;
    }

-- one complex forth, where the name has a future
abbrev pub after_redo : State → List ℕ → State
after_redo s x = put_entry (redone (entry s x)) s

abbrev pub redo : Limits → State → List ℕ → Meaning
redo limits s x =
    record {
      tests = name_test s x ∷ (nat_lt 0 (length (entry s x).future), condition.NoFuture) ∷ weight_test limits (after_redo s x) ∷ [];
      after = after_redo s x;
      reply = ok_reply (redone (entry s x)).present;
    }

abbrev pub changing : Limits → State → List ℕ → Edit → Meaning
changing limits s x (edit.Flip a b) = change limits s x (flipping (present s x) a b)
changing limits s x (edit.Add face) = change limits s x (adding (present s x) face)
changing limits s x (edit.Drop face) = change limits s x (dropping (present s x) face)
changing limits s x (edit.Collapse face) = change limits s x (collapsing (present s x) face)
changing limits s x (edit.Reduce budget seed) = change limits s x (reducing (present s x) budget seed)
changing limits s x edit.Undo = undo limits s x
changing limits s x edit.Redo = redo limits s x

-- ---- verdicts

-- the condition that a verdict with this fault fails (want of memory stands beside no test)
abbrev pub verdict_condition : VerdictFault → Condition
verdict_condition unfit.Void = condition.Void
verdict_condition unfit.NotPure = condition.NotPure
verdict_condition unfit.DimRange = condition.DimRange
verdict_condition unfit.DimDiffers = condition.DimDiffers
verdict_condition unfit.Budget = condition.Budget
verdict_condition unfit.Memory = condition.SizeLimit

-- the conditions of a verdict
abbrev pub verdict_tests : List (Bool × VerdictFault) → List Test
verdict_tests ts = map (λ t. (t.0, verdict_condition t.1)) ts

-- the reply that gives a verdict
abbrev pub verdict_reply : Verdict → List ℕ
verdict_reply (Yes k) = yes_reply k
verdict_reply (Undecided spent) = undecided_reply spent
verdict_reply (UndecidedAt vertex spent) = undecided_at_reply spent vertex

-- a verdict on the complexes of names, which changes nothing
abbrev pub verdict : State → List (List ℕ) → List (Bool × VerdictFault) → Verdict → Meaning
verdict s names ts v = record { tests = map (name_test s) names ++ verdict_tests ts; after = s; reply = verdict_reply v }

abbrev pub sphere : State → List ℕ → ℕ → ℕ → Meaning
sphere s x budget seed = verdict s (x ∷ []) (sphere_tests (present s x) budget) (sphere_of (present s x) budget seed)

abbrev pub equivalent : State → List ℕ → List ℕ → ℕ → ℕ → Meaning
equivalent s x y budget seed =
    verdict s (x ∷ y ∷ []) (equivalent_tests (present s x) (present s y) budget) (equivalent_of (present s x) (present s y) budget seed)

abbrev pub manifold : State → List ℕ → ℕ → ℕ → Meaning
manifold s x budget seed = verdict s (x ∷ []) (manifold_tests (present s x) budget) (manifold_of (present s x) budget seed)

-- ---- all commands

abbrev pub meaning : Limits → State → Command → Meaning
meaning limits s (command.Show lists) = record { tests = flat_map list_tests lists; after = s; reply = facets_reply (generated (map set lists)) }
meaning limits s (command.Make x m) = assignment limits s x (making s m)
meaning limits s (command.Ask x q) = answering s x (asking (present s x) q)
meaning limits s (command.Change x e) = changing limits s x e
meaning limits s (command.Sphere x budget seed) = sphere s x budget seed
meaning limits s (command.Equivalent x y budget seed) = equivalent s x y budget seed
meaning limits s (command.Manifold x budget seed) = manifold s x budget seed

-- the condition that refuses the command: the first that fails
abbrev pub failed : Limits → State → Command → Option Condition
failed limits s k = first_failing (meaning limits s k).tests

-- the state after the command: as before where it is refused
abbrev pub state_after : Limits → State → Command → State
state_after limits s k = by (failed limits s k)
  where
    by : Option Condition → State
    by None = (meaning limits s k).after
    by (Some c) = s

-- the reply to the command
abbrev pub reply_to : Limits → State → Command → List ℕ
reply_to limits s k = by (failed limits s k)
  where
    by : Option Condition → List ℕ
    by None = (meaning limits s k).reply
    by (Some c) = refusal_text c
