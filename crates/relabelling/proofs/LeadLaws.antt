-- What the colours tell of the images that go on from others.
use Rattle.std.proofs.Common.{◌≡◌, ℕ, ◌<◌, Bool, true, false, cond, List, [], ◌∷◌, ◌++◌, length, get_or, Option, None, Some, IfSome, refl, sym, ap, ◌∙◌, subst, arith, append_assoc, length-append, zip, option_map}
use Rattle.std.specs.Prelude.{◌==◌, nat_eq}
use Rattle.std.specs.Cmp.Lexicographic.{pointwise}
use Rattle.simplex.proofs.InOrderLaws.{and_left, and_right}
use Rattle.simplex.proofs.Members.{In}
use Rattle.simplex.specs.Simplex.{has}
use Rattle.simplex.proofs.Decided.{false_from, false_at, equal_at, equal_from}
use Rattle.facet_set.specs.Complex.{verts}
use Rattle.facet_set.specs.Maps.{image_of, is_map}
use Rattle.facet_set.proofs.GeneratedLaws.{same_at}
use Rattle.facet_set.proofs.MapLaws.{firsts, image_apart}
use Rattle.facet_set.proofs.SetLaws.{in_place}
use Rattle.relabelling.specs.Bijections.{first_map}
use Rattle.relabelling.specs.Colours.{mix, KeepsColours, StillKept, NoneKeeps}
use Rattle.relabelling.specs.Search.{makes_map, seek, branch, LeadsKeepColours, LeadsNowhere}
use Rattle.relabelling.proofs.CarryLaws.{image_at, verts_up}
use Rattle.relabelling.proofs.SeekLaws.{seek_none, first_sought}

at_end : (is : List ℕ) (a : ℕ) → get_or (is ++ a ∷ []) (length is) 0 ≡ a
at_end [] a = refl
at_end (x ∷ is) a = at_end is a

-- the images, and one more for the next vertex
module _ (c d : List (List ℕ)) (vs is : List ℕ) (v a : ℕ) (all : vs ≡ verts c) (room : length is < length vs) (next : v ≡ get_or vs (length is) 0) where
  vertex_image : (t : List ℕ) → image_of (zip (verts c) ((is ++ a ∷ []) ++ t)) v ≡ a
  vertex_image t =
      let longer = length-append is (a ∷ []) in
      ap (λ l. image_of (zip l ((is ++ a ∷ []) ++ t)) v) (sym all) ∙ image_at vs (is ++ a ∷ []) t v (length is) (verts_up vs c all) room (sym next) (omega arith) ∙ at_end is a

  vertex : In v (verts c)
  vertex = subst (λ l. In v l) all (subst (λ z. In z vs) (sym next) (in_place vs (length is) 0 room))

  module _ (f g : ℕ → ℕ) (kept : LeadsKeepColours c d is f g) where
    kept_further : LeadsKeepColours c d (is ++ a ∷ []) f g
    kept_further = λ t mk.
        subst (λ l. KeepsColours c f g (zip (verts c) l)) (sym (append_assoc is (a ∷ []) t)) (kept (a ∷ t) (ap (makes_map c d) (sym (append_assoc is (a ∷ []) t)) ∙ mk))

    -- an image of another colour leads nowhere
    pub apart_nowhere : (f v ≡ g a → ⊥) → LeadsNowhere c d (is ++ a ∷ [])
    apart_nowhere n = λ t. false_from (makes_map c d ((is ++ a ∷ []) ++ t)) (λ mk. n (kept_further t mk v vertex ∙ ap g (vertex_image t)))

    -- the vertex and its image get colours of their own
    pub marks_kept : (h k : ℕ → ℕ) → ((x : ℕ) → h x ≡ cond (v == x) (mix (f x)) (f x)) → ((x : ℕ) → k x ≡ cond (a == x) (mix (g x)) (g x)) → LeadsKeepColours c d (is ++ a ∷ []) h k
    marks_kept h k hm km = λ t mk x i.
        let m : List (ℕ × ℕ) = zip (verts c) ((is ++ a ∷ []) ++ t) in
        let ok : is_map m c ≡ true = and_left (is_map m c) _ mk in
        let known : firsts m ≡ verts c = same_at (firsts m) (verts c) (and_left (pointwise nat_eq (firsts m) (verts c)) _ ok) in
        let keep : f x ≡ g (image_of m x) = kept_further t mk x i in
        hm x ∙ elim (v == x) as (λ w. (v == x) ≡ w → cond w (mix (f x)) (f x) ≡ k (image_of m x)) [
          | true ↦ λ q.
              let is_a : image_of m x ≡ a = ap (image_of m) (sym (equal_at v x q)) ∙ vertex_image t in
              ap mix keep ∙ sym (km (image_of m x) ∙ ap (λ w. cond w (mix (g (image_of m x))) (g (image_of m x))) (equal_from a (image_of m x) (sym is_a)))
          | false ↦ λ q.
              let not_a : (a == image_of m x) ≡ false = false_from (a == image_of m x) (λ r. false_at (v == x) q (equal_from v x
              (image_apart m v x (and_right (pointwise nat_eq (firsts m) (verts c)) _ ok) (subst (λ l. In v l) (sym known) vertex) (subst (λ l. In x l) (sym known) i) (vertex_image t ∙ equal_at a (image_of m x) r)))) in
              keep ∙ sym (km (image_of m x) ∙ ap (λ w. cond w (mix (g (image_of m x))) (g (image_of m x))) not_a)
        ] refl

pub refined_kept : (c d : List (List ℕ)) (is : List ℕ) (f g h k : ℕ → ℕ) → LeadsKeepColours c d is f g → StillKept c d f g h k → LeadsKeepColours c d is h k
refined_kept c d is f g h k kept still = λ t mk. still (zip (verts c) (is ++ t)) mk (kept t mk)

pub refined_nowhere : (c d : List (List ℕ)) (is : List ℕ) (f g : ℕ → ℕ) → LeadsKeepColours c d is f g → NoneKeeps c d f g → LeadsNowhere c d is
refined_nowhere c d is f g kept none = λ t. false_from (makes_map c d (is ++ t)) (λ mk. none (zip (verts c) (is ++ t)) mk (kept t mk))

-- one colour for all is kept
pub plain_kept : (c d : List (List ℕ)) (f g : ℕ → ℕ) → ((a : ℕ) → f a ≡ 0) → ((a : ℕ) → g a ≡ 0) → LeadsKeepColours c d [] f g
plain_kept c d f g p q = λ t mk a i. p a ∙ sym (q (image_of (zip (verts c) ([] ++ t)) a))

pub no_first : (c d : List (List ℕ)) → LeadsNowhere c d [] → None ≡ first_map c d
no_first c d n = ap (option_map (zip (verts c))) (sym (seek_none c d [] n)) ∙ sym (first_sought c d)

pub longer_kept : (c d : List (List ℕ)) (is : List ℕ) (a : ℕ) (f g : ℕ → ℕ) → LeadsKeepColours c d is f g → LeadsKeepColours c d (is ++ a ∷ []) f g
longer_kept c d is a f g kept = λ t mk.
    subst (λ l. KeepsColours c f g (zip (verts c) l)) (sym (append_assoc is (a ∷ []) t)) (kept (a ∷ t) (ap (makes_map c d) (sym (append_assoc is (a ∷ []) t)) ∙ mk))

-- an image that leads nowhere gives no branch
pub nowhere_branch : (c d : List (List ℕ)) (is items : List ℕ) (a : ℕ) → items ≡ is → LeadsNowhere c d (items ++ a ∷ []) → None ≡ branch c d is a
nowhere_branch c d is items a e n =
    sym (ap (λ o. cond (has is a) None o) (ap (λ l. seek c d (l ++ a ∷ [])) (sym e) ∙ seek_none c d (items ++ a ∷ []) n) ∙ either (has is a))
  where
    no : Option (List ℕ)
    no = None

    either : (v : Bool) → cond v no no ≡ no
    either true = refl
    either false = refl

pub told_kept : {X : Type 0} (o : Option X) (x : X) (c d : List (List ℕ)) (is : List ℕ) (p q : X → ℕ → ℕ) → o ≡ Some x → IfSome o (λ n. LeadsKeepColours c d is (p n) (q n)) → LeadsKeepColours c d is (p x) (q x)
told_kept o x c d is p q e h = subst (λ z. IfSome z (λ n. LeadsKeepColours c d is (p n) (q n))) e h
