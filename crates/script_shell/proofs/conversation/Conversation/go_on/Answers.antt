use Rattle.std.proofs.Common.{rules, ◌≡◌, ◌≤◌, ◌<◌, ◌+◌, ◌-◌, ◌^◌, ◌∷◌, [], ℕ, List, false, true, arith, length, ap, sym, subst, ◌∙◌, refl, take, drop}
use Rattle.run_ends.specs.Ends.{Loses}
use Rattle.std.proofs.lemmas.List.{length-take-le}
use Rattle.std.proofs.lemmas.Result.{err_from_is_err_and}
use Rattle.script_shell.specs.Transcript.{start}
use Rattle.script_shell.proofs.Answering.{answers_all, behind_next, behind_none, behind_still, front_of_buffer, not_read, stops_at_end, stops_reading, stops_unread, stops_within}
use Rattle.script_shell.proofs.conversation.Conversation.go_on.Goals as goal

pub returns-in_err-piece-clause-early : goal.returns-in_err-piece-clause-early
returns-in_err-piece-clause-early g c =
    let p = err_from_is_err_and c.from_residual.result c.from_residual.ensures.1 in
    rw p.1 (stops_unread p.0 _ _ _ _ _ _ _ _ 0 [] false start false (behind_none _ _ [] false start false refl refl refl refl) (omega arith) refl refl)

pub reads-init : goal.reads-init
reads-init g c =
    record {
      behind = behind_none _ _ _ _ _ _ c.requires.piece c.requires.comment c.requires.run c.requires.refusing;
      standard = search rules;
      text = search rules;
      count = search rules;
      short = search rules;
      taken = search rules;
      room = search rules;
      finished = search rules;
      read_told = search rules;
      write_told = search rules;
    }

pub returns-in_err-count-clause-early : goal.returns-in_err-count-clause-early
returns-in_err-count-clause-early g c =
    let p = err_from_is_err_and c.from_residual-in_err-count.result c.from_residual-in_err-count.ensures.1 in
    rw p.1 (stops_reading c.in_err-count.field-0.0 p.0 _ _ _ _ _ _ _ _ _ _ _ _ _ c.reads.invariant.behind c.reads.invariant.taken p.2
    c.in_err-count.ensures.failed_left c.in_err-count.ensures.failed_taken c.in_err-count.ensures.gave (search rules))

pub reads-preserved : goal.reads-preserved
reads-preserved g c =
    let n = c.in_ok-count.count in
    let all : List ℕ = c.deref.result.now in
    let piece : List ℕ = c.read_bytes.new.buffer in
    let within : n ≤ length piece = search rules in
    let fits : length piece ≤ 65536 = search rules in
    let same = front_of_buffer n c.reads.piece.len piece c.reads.piece.items all c.deref.ensures.value within (subst (λ m. length piece ≤ m) (sym c.reads.invariant.room) fits) in
    let lost : Loses (g.S.Source.left c.reads.source) (g.S.Source.left c.read_bytes.new.source) (take n all) = subst (Loses (g.S.Source.left c.reads.source) (g.S.Source.left c.read_bytes.new.source)) (sym same) c.in_ok-count.ensures.bytes in
    let len : length (take n all) ≡ n = ap length same ∙ length-take-le n piece within in
    record {
      behind = behind_next _ _ _ _ _ _ _ n _ _ _ _ _ _ _ _ (take n all) c.reads.invariant.behind lost len c.in_ok-take.ensures.piece c.in_ok-take.ensures.comment
          c.in_ok-take.ensures.leads c.in_ok-take.ensures.written;
      standard = search rules;
      text = search rules;
      count = search rules;
      short = search rules;
      taken = search rules;
      room = search rules;
      finished = search rules;
      read_told = search rules;
      write_told = search rules;
    }

pub returns-in_err-take-clause-early : goal.returns-in_err-take-clause-early
returns-in_err-take-clause-early g c =
    let p = err_from_is_err_and c.from_residual-in_err-take.result c.from_residual-in_err-take.ensures.1 in
    let n = c.in_ok-count.count in
    let all : List ℕ = c.deref.result.now in
    let piece : List ℕ = c.read_bytes.new.buffer in
    let within : n ≤ length piece = search rules in
    let fits : length piece ≤ 65536 = search rules in
    let same = front_of_buffer n c.reads.piece.len piece c.reads.piece.items all c.deref.ensures.value within (subst (λ m. length piece ≤ m) (sym c.reads.invariant.room) fits) in
    let lost : Loses (g.S.Source.left c.reads.source) (g.S.Source.left c.read_bytes.new.source) (take n all) = subst (Loses (g.S.Source.left c.reads.source) (g.S.Source.left c.read_bytes.new.source)) (sym same) c.in_ok-count.ensures.bytes in
    let len : length (take n all) ≡ n = ap length same ∙ length-take-le n piece within in
    rw p.1 (stops_within p.0 _ _ _ _ _ _ _ _ _ _ _ _ _ _ (take n all) c.reads.invariant.behind c.reads.invariant.taken (not_read c.in_err-take.field-0.0 p.0 p.2) lost
    (omega (arith, len, c.in_ok-count.ensures.taken)) (omega (arith, len, within, fits)) c.in_err-take.ensures.front)

pub returns-in_err-end-clause-early : goal.returns-in_err-end-clause-early
returns-in_err-end-clause-early g c =
    let p = err_from_is_err_and c.from_residual-in_err-end.result c.from_residual-in_err-end.ensures.1 in
    let behind = behind_still _ _ _ _ _ _ c.in_ok-count.count _ c.read_bytes.new.buffer _ _ _ c.reads.invariant.behind c.in_ok-count.ensures.bytes c.if-count-eq0.true in
    rw p.1 (stops_at_end p.0 _ _ _ _ _ _ _ _ _ _ _ _ behind (omega (arith, c.in_ok-count.ensures.taken, c.if-count-eq0.true, c.reads.invariant.taken))
    (not_read c.in_err-end.field-0.0 p.0 p.2) (c.in_ok-count.ensures.end c.if-count-eq0.true) c.in_err-end.ensures.front)

pub returns-clause-all : goal.returns-clause-all
returns-clause-all g c =
    let behind = behind_still _ _ _ _ _ _ c.in_ok-count.count _ c.read_bytes.new.buffer _ _ _ c.reads.invariant.behind c.in_ok-count.ensures.bytes c.if-count-eq0.true in
    answers_all _ _ _ _ _ _ _ _ _ _ _ _ _ behind (omega (arith, c.in_ok-count.ensures.taken, c.if-count-eq0.true, c.reads.invariant.taken))
    (c.in_ok-count.ensures.end c.if-count-eq0.true) c.in_ok-end.ensures.written c.in_ok-end.ensures.refusing
