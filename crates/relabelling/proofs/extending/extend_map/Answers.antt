use Rattle.std.proofs.Common.{◌≡◌, ◌∙◌, ℕ, List, IfOk, ap, length, sym, subst}
use Rattle.std.specs.Prelude.{Option}
use Rattle.std.specs.List.{list_all}
use Rattle.simplex.specs.Simplex.{is_label, is_simplex}
use Rattle.facet_set.specs.Complex.{is_complex, verts}
use Rattle.facet_set.specs.Connection.{is_strong}
use Rattle.simplex.specs.Members.{In}
use Rattle.relabelling.specs.Bijections.{extension}
use Rattle.relabelling.proofs.ExtendLaws.{apart_labels, apart_numbers, stands_at}
use Rattle.relabelling.proofs.extending.extend_map.Goals as goal

pub returns-then-count-target_count : goal.returns-then-count-target_count
returns-then-count-target_count c =
    apart_numbers c.args.c.now c.args.d.now c.args.start.now c.args.images.now c.in_ok-vertices.vertices c.in_ok-target_vertices.target_vertices c.len-count.result c.len-target_count.result (ap (list_all is_simplex) (sym c.in_ok-ways.ensures.c) ∙ c.in_ok-ways.ensures.ways.simplices) (ap is_complex (sym c.in_ok-ways.ensures.c) ∙ c.in_ok-ways.ensures.ways.complex) c.in_ok-vertices.ensures.value
    c.in_ok-target_vertices.ensures.value c.len-count.ensures c.len-target_count.ensures c.if-count-target_count.true

pub returns-then-not-are_labels : goal.returns-then-not-are_labels
returns-then-not-are_labels c =
    apart_labels c.args.c.now c.args.d.now c.args.start.now c.args.images.now c.are_labels.result (ap (list_all is_simplex) (sym c.in_ok-ways.ensures.c) ∙ c.in_ok-ways.ensures.ways.simplices) (ap is_complex (sym c.in_ok-ways.ensures.c) ∙ c.in_ok-ways.ensures.ways.complex) (ap (list_all is_simplex) (sym c.in_ok-ways.ensures.d) ∙ c.in_ok-ways.ensures.ways.d_simplices) (stands_at c.args.c.now c.args.start.now c.requires.start) c.are_labels.ensures
    c.if-not-are_labels.true

pub extended-requires-clause-strong : goal.extended-requires-clause-strong
extended-requires-clause-strong c = ap is_strong c.in_ok-ways.ensures.c ∙ c.requires.strong

pub extended-requires-clause-vertices : goal.extended-requires-clause-vertices
extended-requires-clause-vertices c = c.as_slice.ensures ∙ c.in_ok-vertices.ensures.value ∙ ap verts (sym c.in_ok-ways.ensures.c)

pub extended-requires-clause-vertex_labels : goal.extended-requires-clause-vertex_labels
extended-requires-clause-vertex_labels c = ap (list_all is_label) c.as_slice.ensures ∙ c.in_ok-vertices.ensures.labels

pub extended-requires-clause-as_many : goal.extended-requires-clause-as_many
extended-requires-clause-as_many c =
    ap (λ l. length (verts l)) c.in_ok-ways.ensures.c ∙ ap length (sym c.in_ok-vertices.ensures.value) ∙ sym c.len-count.ensures ∙ c.if-count-target_count.false ∙ c.len-target_count.ensures ∙ ap length c.in_ok-target_vertices.ensures.value ∙ ap (λ l. length (verts l)) (sym c.in_ok-ways.ensures.d)

pub extended-requires-clause-start : goal.extended-requires-clause-start
extended-requires-clause-start c = subst (λ l. In c.args.start.now l) (sym c.in_ok-ways.ensures.c) (stands_at c.args.c.now c.args.start.now c.requires.start)

pub extended-requires-clause-labels : goal.extended-requires-clause-labels
extended-requires-clause-labels c = sym c.are_labels.ensures ∙ c.if-not-are_labels.false

pub returns : goal.returns
returns c =
    subst (λ (x : Option (List (ℕ × ℕ))). IfOk c.extended.result (λ o. o ≡ x))
    (ap (λ l. extension l c.in_ok-ways.ways.d.now c.args.start.now c.args.images.now) c.in_ok-ways.ensures.c ∙ ap (λ l. extension c.args.c.now l c.args.start.now c.args.images.now) c.in_ok-ways.ensures.d) c.extended.ensures
