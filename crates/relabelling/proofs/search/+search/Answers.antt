use Rattle.std.proofs.Common.{◌≡◌, ◌∙◌, ◌<◌, ◌+◌, ◌++◌, ◌∷◌, [], false, List, ℕ, length, ap, sym, subst, refl, arith, IfNone, get_or, take}
use Rattle.std.specs.Prelude.{is_some, unwrap_or}
use Rattle.std.specs.Bool.{IsTrue}
use Rattle.std.specs.List.{list_all}
use Rattle.simplex.specs.Simplex.{has, is_label}
use Rattle.facet_set.specs.Maps.{is_distinct}
use Rattle.relabelling.specs.Colours.{colour}
use Rattle.relabelling.specs.Search.{seek, branch, LeadsKeepColours, LeadsNowhere}
use Rattle.relabelling.proofs.SeekLaws.{seek_hit, seek_missed, first_some, first_missed, nothing, get_or_default}
use Rattle.relabelling.proofs.CarryLaws.{distinct_end, labels_end}
use Rattle.relabelling.proofs.LeadLaws.{longer_kept, nowhere_branch, told_kept}
use Rattle.relabelling.proofs.search.+search.Goals as goal

pub leads-follow-requires : goal.leads-follow-requires
leads-follow-requires t c =
    let free : has c.args.images.now.items c.args.target ≡ false = ap (λ l. has l c.args.target) (sym c.deref-2.ensures.value) ∙ sym c.is_taken.ensures ∙ c.if-is_taken.false in (
      omega arith,
      (
        c.requires.vertices,
        (
          c.requires.targets,
          (
            c.requires.labels,
            (
              c.requires.images,
              (
                c.requires.target,
                (
                  c.requires.distinct,
                  (
                    free,
                    (
                      c.requires.room,
                      longer_kept c.args.sought.now.c.now c.args.sought.now.d.now c.args.images.now.items c.args.target (colour c.args.colours.now.of_c) (colour c.args.colours.now.of_d) c.requires.kept,
                    ),
                  ),
                ),
              ),
            ),
          ),
        ),
      ),
    )

pub leads-follow-requires-in-Some : goal.leads-follow-requires-in-Some
leads-follow-requires-in-Some t c =
    let free : has c.args.images.now.items c.args.target ≡ false = ap (λ l. has l c.args.target) (sym c.deref-2.ensures.value) ∙ sym c.is_taken.ensures ∙ c.if-is_taken.false in
    let kept : LeadsKeepColours c.args.sought.now.c.now c.args.sought.now.d.now (c.args.images.now.items ++ c.args.target ∷ []) (colour c.in-Some.next.of_c) (colour c.in-Some.next.of_d) =
    subst (λ (l : List ℕ). LeadsKeepColours c.args.sought.now.c.now c.args.sought.now.d.now (l ++ c.args.target ∷ []) (colour c.in-Some.next.of_c) (colour c.in-Some.next.of_d)) c.deref-3.ensures.value
    (told_kept _ c.in-Some.next c.args.sought.now.c.now c.args.sought.now.d.now (c.deref-3.result.now ++ c.args.target ∷ []) (λ n. colour n.of_c) (λ n. colour n.of_d) c.in-Some.is c.in_ok-next.ensures.kept) in
    (omega arith, (c.requires.vertices, (c.requires.targets, (c.requires.labels, (c.requires.images, (c.requires.target, (c.requires.distinct, (free, (c.requires.room, kept)))))))))

pub leads-returns-in-None-clause-found : goal.leads-returns-in-None-clause-found
leads-returns-in-None-clause-found t c =
    ap is_some
    (nowhere_branch c.args.sought.now.c.now c.args.sought.now.d.now c.args.images.now.items c.deref-3.result.now c.args.target c.deref-3.ensures.value
    (subst (λ o. IfNone o (LeadsNowhere c.args.sought.now.c.now c.args.sought.now.d.now (c.deref-3.result.now ++ c.args.target ∷ []))) c.in-None.is c.in_ok-next.ensures.apart))

pub leads-returns-in-None-clause-images : goal.leads-returns-in-None-clause-images
leads-returns-in-None-clause-images t c =
    ap (λ o. unwrap_or o c.args.images.now.items)
    (nowhere_branch c.args.sought.now.c.now c.args.sought.now.d.now c.args.images.now.items c.deref-3.result.now c.args.target c.deref-3.ensures.value
    (subst (λ o. IfNone o (LeadsNowhere c.args.sought.now.c.now c.args.sought.now.d.now (c.deref-3.result.now ++ c.args.target ∷ []))) c.in-None.is c.in_ok-next.ensures.apart))

pub leads-returns-then-differ-clause-found : goal.leads-returns-then-differ-clause-found
leads-returns-then-differ-clause-found t c =
    ap is_some (nowhere_branch c.args.sought.now.c.now c.args.sought.now.d.now c.args.images.now.items c.deref.result.now c.args.target c.deref.ensures.value (c.differ.ensures c.if-differ.true))

pub leads-returns-then-differ-clause-images : goal.leads-returns-then-differ-clause-images
leads-returns-then-differ-clause-images t c =
    ap (λ o. unwrap_or o c.args.images.now.items) (nowhere_branch c.args.sought.now.c.now c.args.sought.now.d.now c.args.images.now.items c.deref.result.now c.args.target c.deref.ensures.value (c.differ.ensures c.if-differ.true))

pub follow-search-requires : goal.follow-search-requires
follow-search-requires t c =
    let labels : IsTrue (list_all is_label c.push.new.self.items) = labels_end c.args.images.now.items c.push.new.self.items c.args.target c.in_ok-push.ensures.items c.requires.images c.requires.target in
    let distinct : IsTrue (is_distinct c.push.new.self.items) = ap is_distinct c.in_ok-push.ensures.items ∙ distinct_end c.args.images.now.items c.args.target c.requires.distinct c.requires.free in
    let longer = c.in_ok-push.ensures.len in
    let kept : LeadsKeepColours c.args.sought.now.c.now c.args.sought.now.d.now c.push.new.self.items (colour c.args.colours.now.of_c) (colour c.args.colours.now.of_d) =
    subst (λ (l : List ℕ). LeadsKeepColours c.args.sought.now.c.now c.args.sought.now.d.now l (colour c.args.colours.now.of_c) (colour c.args.colours.now.of_d)) (sym c.in_ok-push.ensures.items) c.requires.kept in
    (omega (arith, longer), (c.requires.vertices, (c.requires.targets, (c.requires.labels, (labels, (distinct, (omega (arith, longer), kept)))))))

pub search-returns-then-branch-clause-found : goal.search-returns-then-branch-clause-found
search-returns-then-branch-clause-found t c =
    let less : length c.args.images.now.items < length c.args.sought.now.vertices.now = let n = c.len.ensures in omega arith in
    let item : (get_or c.args.sought.now.targets.now c.loop-target.target-index 0) ≡ get_or c.args.sought.now.targets.now c.loop-target.target-index (get_or c.args.sought.now.targets.now c.loop-target.target-index 0) = get_or_default c.args.sought.now.targets.now c.loop-target.target-index 0 (get_or c.args.sought.now.targets.now c.loop-target.target-index 0) c.loop-target-test.true in
    sym (ap is_some (seek_hit c.args.sought.now.c.now c.args.sought.now.d.now c.args.images.now.items c.loop-target.images.items c.args.sought.now.vertices.now c.args.sought.now.targets.now c.loop-target.target-index (get_or c.args.sought.now.targets.now c.loop-target.target-index 0) c.in_ok-leads.field-0 c.requires.vertices c.requires.targets less c.loop-target-test.true item c.loop-target.invariant.0 c.loop-target.invariant.1 c.in_ok-leads.ensures.found c.if-branch.true) ∙ sym c.in_ok-leads.ensures.found ∙ c.if-branch.true)

pub search-returns-then-branch-clause-images : goal.search-returns-then-branch-clause-images
search-returns-then-branch-clause-images t c =
    let less : length c.args.images.now.items < length c.args.sought.now.vertices.now = let n = c.len.ensures in omega arith in
    let item : (get_or c.args.sought.now.targets.now c.loop-target.target-index 0) ≡ get_or c.args.sought.now.targets.now c.loop-target.target-index (get_or c.args.sought.now.targets.now c.loop-target.target-index 0) = get_or_default c.args.sought.now.targets.now c.loop-target.target-index 0 (get_or c.args.sought.now.targets.now c.loop-target.target-index 0) c.loop-target-test.true in
    c.in_ok-leads.ensures.images ∙ ap (λ o. unwrap_or o c.loop-target.images.items) (sym (seek_hit c.args.sought.now.c.now c.args.sought.now.d.now c.args.images.now.items c.loop-target.images.items c.args.sought.now.vertices.now c.args.sought.now.targets.now c.loop-target.target-index (get_or c.args.sought.now.targets.now c.loop-target.target-index 0) c.in_ok-leads.field-0 c.requires.vertices c.requires.targets less c.loop-target-test.true item c.loop-target.invariant.0 c.loop-target.invariant.1 c.in_ok-leads.ensures.found c.if-branch.true)) ∙ ap (unwrap_or (seek c.args.sought.now.c.now c.args.sought.now.d.now c.args.images.now.items)) c.loop-target.invariant.0

pub search-loop-target-preserved : goal.search-loop-target-preserved
search-loop-target-preserved t c =
    let out : is_some (branch c.args.sought.now.c.now c.args.sought.now.d.now c.loop-target.images.items (get_or c.args.sought.now.targets.now c.loop-target.target-index 0)) ≡ false = sym c.in_ok-leads.ensures.found ∙ c.if-branch.false in
    let same : c.leads.new.images.items ≡ c.loop-target.images.items = c.in_ok-leads.ensures.images ∙ ap (λ o. unwrap_or o c.loop-target.images.items) (nothing (branch c.args.sought.now.c.now c.args.sought.now.d.now c.loop-target.images.items (get_or c.args.sought.now.targets.now c.loop-target.target-index 0)) out) in (
      same ∙ c.loop-target.invariant.0,
      ap (λ l. first_some (branch c.args.sought.now.c.now c.args.sought.now.d.now l) (take (c.loop-target.target-index + 1) c.args.sought.now.targets.now)) same
          ∙ first_missed (branch c.args.sought.now.c.now c.args.sought.now.d.now c.loop-target.images.items) c.args.sought.now.targets.now c.loop-target.target-index (get_or c.args.sought.now.targets.now c.loop-target.target-index 0) 0 c.loop-target-test.true refl c.loop-target.invariant.1 out,
    )

pub search-returns-clause-found : goal.search-returns-clause-found
search-returns-clause-found t c =
    let less : length c.args.images.now.items < length c.args.sought.now.vertices.now = let n = c.len.ensures in omega arith in
    ap is_some (sym (seek_missed c.args.sought.now.c.now c.args.sought.now.d.now c.args.images.now.items c.loop-target.images.items c.args.sought.now.vertices.now c.args.sought.now.targets.now c.loop-target.target-index c.requires.vertices c.requires.targets less (omega arith) c.loop-target.invariant.0 c.loop-target.invariant.1))

pub search-returns-clause-images : goal.search-returns-clause-images
search-returns-clause-images t c =
    let less : length c.args.images.now.items < length c.args.sought.now.vertices.now = let n = c.len.ensures in omega arith in
    c.loop-target.invariant.0 ∙ ap (λ o. unwrap_or o c.args.images.now.items) (sym (seek_missed c.args.sought.now.c.now c.args.sought.now.d.now c.args.images.now.items c.loop-target.images.items c.args.sought.now.vertices.now c.args.sought.now.targets.now c.loop-target.target-index c.requires.vertices c.requires.targets less (omega arith) c.loop-target.invariant.0 c.loop-target.invariant.1))
