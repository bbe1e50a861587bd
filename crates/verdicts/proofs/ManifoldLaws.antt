-- A yes of `manifold` is a sound certificate.
use Rattle.std.proofs.Common.{◌≡◌, ℕ, suc, ◌+◌, ◌<◌, Bool, true, false, not, cond, List, [], ◌∷◌, ◌++◌, map, length, take, drop, get_or, refl, sym, ap, ◌∙◌, subst, inl, inr, arith, Option, Some, None, add-one}
use Rattle.std.specs.Prelude.{nat_eq}
use Rattle.std.specs.List.{list_all, find}
use Rattle.std.specs.Cmp.Lexicographic.{pointwise}
use Rattle.std.proofs.Math.Seq.{drop-cons}
use Rattle.std.proofs.lemmas.List.{map-append, take_more}
use Rattle.std.proofs.lemmas.Bool.Decides.{nat_tests}
use Rattle.simplex.specs.Simplex.{is_label}
use Rattle.simplex.proofs.InOrderLaws.{and_left, and_both}
use Rattle.simplex.proofs.Members.{In, cases, none, all_from, all_at, from_map}
use Rattle.facet_set.specs.Complex.{verts}
use Rattle.facet_set.proofs.VertexLaws.{verts_labels}
use Rattle.flip_certificate.specs.Lines.{is_start, is_flip}
use Rattle.flip_certificate.specs.Valid.{is_pure_from, is_sphere, block_vertices, vertex_link}
use Rattle.flip_certificate.specs.declared.block.Block.{Block}
use Rattle.flip_certificate.specs.declared.certificate.Certificate.{Certificate}
use Rattle.flip_certificate.specs.declared.certificate.Certificate.TheVariants.{Manifold}
use Rattle.flip_certificate.proofs.ValidLaws.{sphere_is}
use Rattle.verdicts.specs.Laws.{ManifoldYes}
use Rattle.verdicts.specs.Ready.{IsReady}
use Rattle.verdicts.specs.Sound.{IsSound, YesIsSound}
use Rattle.verdicts.specs.Verdicts.{manifold_of, manifold_by, first_unmet, blocks_of, block_of, found, meets}
use Rattle.verdicts.specs.declared.verdict.Verdict.{Verdict}
use Rattle.verdicts.specs.declared.verdict.Verdict.TheVariants.{Yes}
use Rattle.verdicts.proofs.VertexLinks.{link_start}
use Rattle.verdicts.proofs.WayLaws.{goal_way, goal_met, goal_flips}

found_none : (p : ℕ → Bool) (xs : List ℕ) (x : ℕ) → find p xs ≡ None → In x xs → p x ≡ false
found_none p [] x e i = absurd (none x i)
found_none p (y ∷ xs) x e i = by (p y) refl e (found_none p xs x)
  where
    by : (v : Bool) → p y ≡ v → cond v (Some y) (find p xs) ≡ None → (find p xs ≡ None → In x xs → p x ≡ false) → p x ≡ false
    by true f g r = cc
    by false f g r = elim (cases i) [ inl h ↦ ap p h ∙ f | inr j ↦ r g j ]

-- the blocks' vertices are the vertices
vertices_are : (f : ℕ → Block) → ((v : ℕ) → (f v).vertex ≡ v) → (vs : List ℕ) → pointwise nat_eq (block_vertices (map f vs)) vs ≡ true
vertices_are f h [] = refl
vertices_are f h (v ∷ vs) = and_both _ _ (ap (λ n. nat_eq n v) (h v) ∙ same v) (vertices_are f h vs)
  where
    same : (n : ℕ) → nat_eq n n ≡ true
    same n = grind (arith, nat_tests)

module _ (c : List (List ℕ)) (budget seed : ℕ) (start : is_start c ≡ true) (pure : is_pure_from 2 c ≡ true) where
  module _ (e : first_unmet c budget seed ≡ None) where
    met : (v : ℕ) → In v (verts c) → meets (vertex_link c v) budget seed ≡ true
    met v i = on (meets (vertex_link c v) budget seed) (found_none (λ v. not (meets (vertex_link c v) budget seed)) (verts c) v e i)
      where
        on : (t : Bool) → not t ≡ false → t ≡ true
        on true h = refl
        on false h = sym h

    block_sphere : (v : ℕ) → In v (verts c) → is_sphere (vertex_link c v) (found (vertex_link c v) budget seed) ≡ true
    block_sphere v i =
        sphere_is (vertex_link c v) (found (vertex_link c v) budget seed)
        ∙ and_both _ _ (goal_way (vertex_link c v) budget seed) (goal_met (vertex_link c v) budget seed (met v i))

    each_block : (p : Block → Bool) → ((v : ℕ) → In v (verts c) → p (block_of c budget seed v) ≡ true) → list_all p (blocks_of c budget seed) ≡ true
    each_block p f = all_from p (blocks_of c budget seed) (λ b i. let r = from_map (block_of c budget seed) b (verts c) i in ap p r.2 ∙ f r.0 r.1)

    is_sound : IsSound (Manifold c (blocks_of c budget seed))
    is_sound = record {
      valid = and_both _ _ (and_both _ _ pure (vertices_are (block_of c budget seed) (λ v. refl) (verts c))) (each_block (λ b. is_sphere (vertex_link c b.vertex) b.flips) block_sphere);
      held = and_both _ _ start (each_block (λ b. list_all is_flip b.flips) (λ v i. goal_flips (vertex_link c v) budget seed (link_start c v start pure i)));
      shaped = each_block (λ b. is_label b.vertex) (λ v i. all_at is_label v (verts c) (verts_labels c (and_left _ _ start)) i);
    }

  given_yes : (o : Option ℕ) (k : Certificate) → first_unmet c budget seed ≡ o → manifold_by o c budget seed ≡ Yes k → IsSound k × (k ≡ Manifold c (blocks_of c budget seed))
  given_yes (Some v) k e f = cc
  given_yes None k e f =
      let same : Manifold c (blocks_of c budget seed) ≡ k = cc in
      (subst IsSound same (is_sound e), sym same)

  given_sound : (o : Option ℕ) → first_unmet c budget seed ≡ o → YesIsSound (manifold_by o c budget seed)
  given_sound (Some v) e = tt
  given_sound None e = is_sound e

pub manifold_yes_lem : ManifoldYes
manifold_yes_lem c budget seed k start pure e = given_yes c budget seed start pure (first_unmet c budget seed) k refl e

pub manifold_sound : (c : List (List ℕ)) (budget seed : ℕ) (v : Verdict) → IsReady 2 c budget → v ≡ manifold_of c budget seed → YesIsSound v
manifold_sound c budget seed v h e = subst YesIsSound (sym e) (given_sound c budget seed h.start h.pure (first_unmet c budget seed) refl)

-- ---- vertex by vertex

module _ (c : List (List ℕ)) (budget seed : ℕ) where
  abbrev pub unmet : ℕ → Bool
  unmet v = not (meets (vertex_link c v) budget seed)

  -- where the walk on the link of the vertex at the place meets, the search goes on
  pub unmet_next : (vs : List ℕ) (i v : ℕ) → i < length vs → v ≡ get_or vs i v → meets (vertex_link c v) budget seed ≡ true → find unmet (drop i vs) ≡ find unmet (drop (i + 1) vs)
  unmet_next vs i v l e h =
      ap (find unmet) (drop-cons vs i v l) ∙ ap (λ x. cond (unmet x) (Some x) (find unmet (drop (suc i) vs))) (sym e)
      ∙ ap (λ t. cond (not t) (Some v) (find unmet (drop (suc i) vs))) h ∙ ap (λ n. find unmet (drop n vs)) (sym (add-one i))

  -- and where it does not, this is the vertex
  pub unmet_here : (vs : List ℕ) (i v : ℕ) → i < length vs → v ≡ get_or vs i v → meets (vertex_link c v) budget seed ≡ false → find unmet (drop i vs) ≡ Some v
  unmet_here vs i v l e h =
      ap (find unmet) (drop-cons vs i v l) ∙ ap (λ x. cond (unmet x) (Some x) (find unmet (drop (suc i) vs))) (sym e)
      ∙ ap (λ t. cond (not t) (Some v) (find unmet (drop (suc i) vs))) h

-- one block more
pub blocks_more : (f : ℕ → Block) (vs : List ℕ) (i v : ℕ) (b : Block) (bs : List Block) → i < length vs → v ≡ get_or vs i v → b ≡ f v → bs ≡ map f (take i vs) → bs ++ b ∷ [] ≡ map f (take (i + 1) vs)
blocks_more f vs i v b bs l e g h =
    let t = take_more vs i v l in
    ap (λ x. x ++ b ∷ []) h ∙ ap (λ x. map f (take i vs) ++ x ∷ []) g ∙ sym (map-append f (take i vs) (v ∷ [])) ∙ ap (map f) (sym (t ∙ ap (λ x. take i vs ++ x ∷ []) (sym e)))
