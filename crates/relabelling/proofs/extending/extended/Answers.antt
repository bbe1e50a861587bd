use Rattle.std.proofs.Common.{◌∙◌, ◌≡◌, ℕ, List, ap, length, sym, nat_eq, IfOk, IfSome, IfNone, subst}
use Rattle.std.specs.Prelude.{Option, is_some}
use Rattle.std.specs.Map.{lookup}
use Rattle.std.specs.List.{zip}
use Rattle.facet_set.specs.Complex.{verts}
use Rattle.relabelling.specs.Walks.{Extends, IsKnown, NoneAgrees, map_of}
use Rattle.relabelling.proofs.ExtendLaws.{none_extension, whole_extension, given_known, given_labels}
use Rattle.relabelling.proofs.extending.extended.Goals as goal

pub pairs-requires : goal.pairs-requires
pairs-requires c = c.requires.images ∙ ap length (sym c.labels.ensures.value)

pub images_from-requires-clause-known : goal.images_from-requires-clause-known
images_from-requires-clause-known c = λ a i.
    ap is_some (c.in_ok-given.ensures a ∙ ap (lookup (nat_eq a)) (c.deref.ensures.value ∙ c.in_ok-leading.ensures ∙ ap (λ l. zip l c.args.images.now) c.labels.ensures.value)) ∙ given_known c.args.start.now c.args.images.now a c.requires.images i

pub images_from-requires-clause-labels : goal.images_from-requires-clause-labels
images_from-requires-clause-labels c = λ a b e.
    given_labels c.args.start.now c.args.images.now a b c.requires.labels
    (sym (c.in_ok-given.ensures a ∙ ap (lookup (nat_eq a)) (c.deref.ensures.value ∙ c.in_ok-leading.ensures ∙ ap (λ l. zip l c.args.images.now) c.labels.ensures.value)) ∙ e)

pub map_of-requires-clause-images : goal.map_of-requires-clause-images
map_of-requires-clause-images c =
    (subst (λ o. IfSome o (λ t. Extends c.args.ways.now.c.now c.args.ways.now.d.now c.in_ok-given.given t)) c.in-Some.is c.in_ok-table.ensures.extends).labels (λ a b e.
    given_labels c.args.start.now c.args.images.now a b c.requires.labels
    (sym (c.in_ok-given.ensures a ∙ ap (lookup (nat_eq a)) (c.deref.ensures.value ∙ c.in_ok-leading.ensures ∙ ap (λ l. zip l c.args.images.now) c.labels.ensures.value)) ∙ e))

pub returns-in-Some : goal.returns-in-Some
returns-in-Some c =
    subst (λ (x : Option (List (ℕ × ℕ))). IfOk c.map_of.result (λ o. o ≡ x))
    (ap (λ vs. map_of c.args.ways.now.c.now c.args.ways.now.d.now vs c.in-Some.table) c.requires.vertices
    ∙ whole_extension c.args.ways.now.c.now c.args.ways.now.d.now c.args.start.now c.args.images.now c.in_ok-given.given c.in-Some.table c.requires.ways.simplices c.requires.ways.complex c.requires.start c.requires.images
    (λ a. c.in_ok-given.ensures a ∙ ap (lookup (nat_eq a)) (c.deref.ensures.value ∙ c.in_ok-leading.ensures ∙ ap (λ l. zip l c.args.images.now) c.labels.ensures.value))
    (subst (λ o. IfSome o (λ t. Extends c.args.ways.now.c.now c.args.ways.now.d.now c.in_ok-given.given t)) c.in-Some.is c.in_ok-table.ensures.extends)
    (subst (λ o. IfSome o (λ t. IsKnown t (verts c.args.ways.now.c.now))) c.in-Some.is c.in_ok-table.ensures.known) c.requires.as_many) c.map_of.ensures

pub returns : goal.returns
returns c =
    none_extension c.args.ways.now.c.now c.args.ways.now.d.now c.args.start.now c.args.images.now c.in_ok-given.given
    (λ a. c.in_ok-given.ensures a ∙ ap (lookup (nat_eq a)) (c.deref.ensures.value ∙ c.in_ok-leading.ensures ∙ ap (λ l. zip l c.args.images.now) c.labels.ensures.value))
    (subst (λ o. IfNone o (NoneAgrees c.args.ways.now.c.now c.args.ways.now.d.now c.in_ok-given.given)) c.in-None.is c.in_ok-table.ensures.apart)
