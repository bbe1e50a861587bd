use Rattle.std.proofs.Common.{◌≡◌, ℕ, List, inl, inr, sym, subst, nat_eq}
use Rattle.std.specs.Prelude.{Option, None, Some, IsSome}
use Rattle.std.specs.HashMap.{get}
use Rattle.simplex.specs.Members.{In}
use Rattle.simplex.proofs.Members.{cases}
use Rattle.simplex.proofs.SimplexLaws.{from_without}
use Rattle.relabelling.specs.Ridges.{AreEnds}
use Rattle.relabelling.proofs.WalkLaws.{next_end, ends_reached}
use Rattle.relabelling.proofs.extending.Walk.cross.Goals as goal

-- the label that was told is the end that there is
told : (l : List (List ℕ)) (r : List ℕ) (a n : ℕ) (o : Option ℕ) → o ≡ Some n → (b : ℕ) × (o ≡ Some b) × AreEnds l r a b → AreEnds l r a n
told l r a n o e h = let same : h.0 ≡ n = cc (e, h.1) in subst (λ z. AreEnds l r a z) same h.2

pub reach-requires-clause-ends : goal.reach-requires-clause-ends
reach-requires-clause-ends c =
    told c.args.ways.now.c.now c.without-ridge.result c.args.label c.in-Some.next c.other_end.result c.in-Some.is
    (next_end c.args.ways.now.c.now c.args.ways.now.d.now c.args.ways.now.c_ends c.args.ways.now.d_ends c.args.facet.now c.without-ridge.result c.args.label c.other_end.result c.requires.ways c.requires.facet c.requires.label c.without-ridge.ensures.value c.other_end.ensures)

pub reach-requires-clause-known : goal.reach-requires-clause-known
reach-requires-clause-known c = λ x i. elim (cases i) [
  | inl e ↦ subst (λ (z : ℕ). IsSome (get nat_eq c.args.self.now.images z)) (sym e) (c.requires.known c.args.label c.requires.label)
  | inr j ↦ c.requires.known x (from_without c.args.facet.now c.args.label x (subst (λ (l : List ℕ). In x l) c.without-ridge.ensures.value j)).0
]

pub returns-in-None-clause-reaches : goal.returns-in-None-clause-reaches
returns-in-None-clause-reaches c =
    let b = next_end c.args.ways.now.c.now c.args.ways.now.d.now c.args.ways.now.c_ends c.args.ways.now.d_ends c.args.facet.now c.without-ridge.result c.args.label c.other_end.result c.requires.ways c.requires.facet c.requires.label c.without-ridge.ensures.value c.other_end.ensures in
    absurd (nothing c.other_end.result b.0 c.in-None.is b.1)
  where
    nothing : (o : Option ℕ) (n : ℕ) → o ≡ None → o ≡ Some n → ⊥
    nothing o n e h = cc

pub returns-in_ok-reach-in-Some-clause-reaches : goal.returns-in_ok-reach-in-Some-clause-reaches
returns-in_ok-reach-in-Some-clause-reaches c = λ u x i j e.
    ends_reached c.args.ways.now.c.now c.args.ways.now.d.now c.args.ways.now.c_ends c.args.ways.now.d_ends c.reach.new.self c.args.facet.now c.without-ridge.result u c.args.label c.in-Some.next x c.requires.ways
    (told c.args.ways.now.c.now c.without-ridge.result c.args.label c.in-Some.next c.other_end.result c.in-Some.is
    (next_end c.args.ways.now.c.now c.args.ways.now.d.now c.args.ways.now.c_ends c.args.ways.now.d_ends c.args.facet.now c.without-ridge.result c.args.label c.other_end.result c.requires.ways c.requires.facet c.requires.label c.without-ridge.ensures.value c.other_end.ensures))
    c.without-ridge.ensures.value c.requires.facet c.requires.label (c.in_ok-reach-in-Some.ensures.goes_on.seen c.args.facet.now c.requires.seen) c.in_ok-reach-in-Some.ensures.reaches i j e
