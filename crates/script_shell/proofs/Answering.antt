-- What is answered behind more bytes.
use Rattle.std.specs.Prelude.{IsErrOf}
use Rattle.std.proofs.Common.{◌≡◌, ℕ, Err, ◌+◌, ◌-◌, ◌≤◌, ◌⊎◌, inl, inr, Bool, true, false, not, ◌||◌, List, [], ◌∷◌, ◌++◌, length, take, drop, Option, refl, sym, ap, ◌∙◌, subst, arith, append_assoc, append-nil, length-append}
use Rattle.std.proofs.lemmas.List.{take-append-drop, take-append-le, take-take}
use Rattle.std.proofs.Math.Seq.{take-append_seam}
use Rattle.run_ends.specs.Ends.{AtEnd, Grows, Loses}
use Rattle.run_ends.proofs.EndLaws.{grows_none, grows_twice, loses_none, loses_twice}
use Rattle.script_text.specs.Tokens.{is_blank}
use Rattle.flip_certificate.specs.declared.certificate.Certificate.{Certificate}
use Rattle.script_shell.specs.Answering.{AnswersAll, Leads, StopsAfter, comment_after, in_front, pieces_with, read_exit, refuses_one, run_after, sink_exit}
use Rattle.script_shell.specs.InVain.{AreInVain, PieceInVain, ScriptInVain}
use Rattle.script_shell.specs.Replays.{AreSound, Replays, certificates, certificates_from, piece_certificate}
use Rattle.script_shell.specs.Streams.{Gave, GrowsByFront, GrowsPast, before_last}
use Rattle.script_shell.specs.Transcript.{Pieces, Run, after_piece, answered, answers, before_others, cut_from, is_refusing, piece_refuses, piece_text, refuses, replies, rest_text, start, transcript}
use Rattle.script_shell.specs.declared.exit.Exit.{Exit}
use Rattle.script_shell.specs.declared.exit.Exit.TheVariants.{ReadFault}
use Rattle.script_shell.specs.declared.stream.ReadEnd.{ReadEnd}
use Rattle.script_shell.specs.declared.stream.ReadEnd.TheVariants as read
use Rattle.run_ends.specs.declared.ends.SinkFault.{SinkFault}
use Rattle.run_ends.specs.declared.ends.SinkFault.TheVariants as sink
use Rattle.script_shell.proofs.Cutting.{before_all, comment_append, cut_more, front_of_ended, front_of_rest}
use Rattle.script_shell.proofs.Replaying.{replays_all, sound_both}

-- ---- pieces behind pieces

run_append : (r : Run) (ps qs : List (List ℕ)) → run_after r (ps ++ qs) ≡ run_after (run_after r ps) qs
run_append r [] qs = refl
run_append r (p ∷ ps) qs = run_append (after_piece r p) ps qs

answers_append : (r : Run) (ps qs : List (List ℕ)) → answers r (ps ++ qs) ≡ answers r ps ++ answers (run_after r ps) qs
answers_append r [] qs = refl
answers_append r (p ∷ ps) qs =
    ap (λ t. piece_text r p ++ t) (answers_append (after_piece r p) ps qs)
    ∙ sym (append_assoc (piece_text r p) (answers (after_piece r p) ps) (answers (run_after (after_piece r p) ps) qs))

or_assoc : (a b c : Bool) → ((a || b) || c) ≡ (a || (b || c))
or_assoc true b c = refl
or_assoc false b c = refl

or_false : (a : Bool) → a ≡ (a || false)
or_false true = refl
or_false false = refl

refuses_append : (r : Run) (ps qs : List (List ℕ)) → refuses_one r (ps ++ qs) ≡ (refuses_one r ps || refuses_one (run_after r ps) qs)
refuses_append r [] qs = refl
refuses_append r (p ∷ ps) qs =
    ap (λ t. piece_refuses r p || t) (refuses_append (after_piece r p) ps qs)
    ∙ sym (or_assoc (piece_refuses r p) (refuses_one (after_piece r p) ps) (refuses_one (run_after (after_piece r p) ps) qs))

certificates_append : (r : Run) (ps qs : List (List ℕ)) → certificates_from r (ps ++ qs) ≡ certificates_from r ps ++ certificates_from (run_after r ps) qs
certificates_append r [] qs = refl
certificates_append r (p ∷ ps) qs =
    ap (λ t. piece_certificate r p ++ t) (certificates_append (after_piece r p) ps qs)
    ∙ sym (append_assoc (piece_certificate r p) (certificates_from (after_piece r p) ps) (certificates_from (run_after (after_piece r p) ps) qs))

vain_append : (r : Run) (ps qs : List (List ℕ)) → AreInVain r ps → AreInVain (run_after r ps) qs → AreInVain r (ps ++ qs)
vain_append r [] qs h k = k
vain_append r (p ∷ ps) qs h k = (h.0, vain_append (after_piece r p) ps qs h.1 k)

pub leads_none : (r : Run) (b : Bool) → Leads r r b b []
leads_none r b = record { run = refl; refusing = or_false b; sound = tt; in_vain = tt }

pub leads_one : (r q : Run) (b c : Bool) (p : List ℕ) → q ≡ after_piece r p → c ≡ (b || piece_refuses r p) → AreSound (piece_certificate r p) → PieceInVain r p → Leads r q b c (p ∷ [])
leads_one r q b c p run refusing sound in_vain =
    record {
      run = run;
      refusing = refusing ∙ ap (λ t. b || t) (or_false (piece_refuses r p));
      sound = subst AreSound (sym (append-nil (piece_certificate r p))) sound;
      in_vain = (in_vain, tt);
    }

leads_on : (a b c : Run) (x y z : Bool) (ps qs : List (List ℕ)) → Leads a b x y ps → Leads b c y z qs → Leads a c x z (ps ++ qs)
leads_on a b c x y z ps qs h k =
    record {
      run = k.run ∙ ap (λ (r : Run). run_after r qs) h.run ∙ sym (run_append a ps qs);
      refusing = k.refusing ∙ ap (λ t. t || refuses_one b qs) h.refusing ∙ or_assoc x (refuses_one a ps) (refuses_one b qs)
          ∙ ap (λ (r : Run). x || (refuses_one a ps || refuses_one r qs)) h.run ∙ ap (λ t. x || t) (sym (refuses_append a ps qs));
      sound = subst AreSound (sym (certificates_append a ps qs))
          (sound_both (certificates_from a ps) (certificates_from (run_after a ps) qs) h.sound (subst (λ (r : Run). AreSound (certificates_from r qs)) h.run k.sound));
      in_vain = vain_append a ps qs h.in_vain (subst (λ (r : Run). AreInVain r qs) h.run k.in_vain);
    }

-- ---- fronts of what is written

front_whole : (old new : Option (List ℕ)) (text more : List ℕ) → Grows old new text → GrowsByFront old new (text ++ more)
front_whole old new text more h = (length text, subst (Grows old new) (sym (take-append_seam text more)) h)

front_behind : (old was new : Option (List ℕ)) (text part more : List ℕ) → Grows old was text → GrowsByFront was new part → GrowsByFront old new (text ++ (part ++ more))
front_behind old was new text part more h k =
    subst (GrowsByFront old new)
    (append_assoc text (take k.0 part) (drop k.0 part ++ more) ∙ ap (λ t. text ++ t) (sym (append_assoc (take k.0 part) (drop k.0 part) more) ∙ ap (λ t. t ++ more) (take-append-drop k.0 part)))
    (front_whole old new (text ++ take k.0 part) (drop k.0 part ++ more) (grows_twice old was new text (take k.0 part) h k.1))

front_last : (old was new : Option (List ℕ)) (text part : List ℕ) → Grows old was text → GrowsByFront was new part → GrowsByFront old new (text ++ part)
front_last old was new text part h k =
    subst (λ t. GrowsByFront old new (text ++ t)) (append-nil part) (front_behind old was new text part [] h k)

-- ---- the pieces that end in one read

-- some of them are answered, and these are to come
pub record Part (from to : Run) (x y : Bool) (all next : Pieces) (old new : Option (List ℕ)) : Type 0 where
  pub ps : List (List ℕ)
  pub cut : all ≡ before_all ps next
  pub leads : Leads from to x y ps
  pub written : Grows old new (answers from ps)

pub part_none : (r : Run) (x : Bool) (all : Pieces) (old : Option (List ℕ)) → Part r r x x all all old old
part_none r x all old = record { ps = []; cut = refl; leads = leads_none r x; written = grows_none old }

-- what is answered so far, and one more piece
answers_one : (from to : Run) (ps : List (List ℕ)) (p : List ℕ) → to ≡ run_after from ps → answers from ps ++ piece_text to p ≡ answers from (ps ++ p ∷ [])
answers_one from to ps p e =
    ap (λ (r : Run). answers from ps ++ piece_text r p) e
    ∙ ap (λ t. answers from ps ++ t) (sym (append-nil (piece_text (run_after from ps) p)))
    ∙ sym (answers_append from ps (p ∷ []))

-- the first piece to come has more bytes than those that were kept
pub piece_first : (kept more : List ℕ) (n : ℕ) (comment : Bool) → cut_from comment more ≡ before_others (take n more) (cut_from false (drop (n + 1) more))
    → pieces_with kept comment more ≡ before_others (kept ++ take n more) (cut_from false (drop (n + 1) more))
piece_first kept more n comment e = ap (in_front kept) e ∙ front_of_ended kept (take n more) (cut_from false (drop (n + 1) more))

pub part_next : (from to on : Run) (x y z : Bool) (all now next : Pieces) (p : List ℕ) (old was new : Option (List ℕ)) → Part from to x y all now old was
    → now ≡ before_others p next → Leads to on y z (p ∷ []) → Grows was new (piece_text to p) → Part from on x z all next old new
part_next from to on x y z all now next p old was new h e leads written =
    record {
      ps = h.ps ++ p ∷ [];
      cut = h.cut ∙ ap (before_all h.ps) e ∙ ap (λ (es : List (List ℕ)). let ps : Pieces = record { ended = es; rest = next.rest } in ps) (sym (append_assoc h.ps (p ∷ []) next.ended));
      leads = leads_on from to on x y z h.ps (p ∷ []) h.leads leads;
      written = subst (Grows old new) (answers_one from to h.ps p h.leads.run) (grows_twice old was new (answers from h.ps) (piece_text to p) h.written written);
    }

-- a front of all answers is written, also within the reply to the next piece
pub part_front : (from to : Run) (x y : Bool) (all now : Pieces) (old new : Option (List ℕ)) → Part from to x y all now old new → GrowsByFront old new (answers from all.ended)
part_front from to x y all now old new h =
    subst (GrowsByFront old new) (sym (ap (λ (ps : Pieces). answers from ps.ended) h.cut ∙ answers_append from h.ps now.ended))
    (front_whole old new (answers from h.ps) (answers (run_after from h.ps) now.ended) h.written)

pub part_within : (from to : Run) (x y : Bool) (all now next : Pieces) (p : List ℕ) (old was new : Option (List ℕ)) → Part from to x y all now old was
    → now ≡ before_others p next → GrowsByFront was new (piece_text to p) → GrowsByFront old new (answers from all.ended)
part_within from to x y all now next p old was new h e front =
    subst (GrowsByFront old new)
    (sym (ap (λ (ps : Pieces). answers from ps.ended) (h.cut ∙ ap (before_all h.ps) e) ∙ answers_append from h.ps (p ∷ next.ended)
    ∙ ap (λ (r : Run). answers from h.ps ++ answers r (p ∷ next.ended)) (sym h.leads.run)))
    (front_behind old was new (answers from h.ps) (piece_text to p) (answers (after_piece to p) next.ended) h.written front)

-- one more piece is answered
pub part_step : (from to on : Run) (x y z : Bool) (all : Pieces) (kept more p kept_new rest : List ℕ) (n : ℕ) (comment comment_new : Bool) (old was new : Option (List ℕ))
    → Part from to x y all (pieces_with kept comment more) old was → cut_from comment more ≡ before_others (take n more) (cut_from false (drop (n + 1) more))
    → p ≡ kept ++ take n more → Leads to on y z (p ∷ []) → Grows was new (piece_text to p) → kept_new ≡ [] → comment_new ≡ false → rest ≡ drop (n + 1) more
    → Part from on x z all (pieces_with kept_new comment_new rest) old new
part_step from to on x y z all kept more p kept_new rest n comment comment_new old was new h cut e leads written none outside others =
    let next : Pieces = cut_from false (drop (n + 1) more) in
    let first : pieces_with kept comment more ≡ before_others p next = piece_first kept more n comment cut ∙ ap (λ (q : List ℕ). before_others q next) (sym e) in
    subst (λ (ks : List ℕ). Part from on x z all (pieces_with ks comment_new rest) old new) (sym none)
    (subst (λ (b : Bool). Part from on x z all (cut_from b rest) old new) (sym outside)
    (subst (λ (cs : List ℕ). Part from on x z all (cut_from false cs) old new) (sym others)
    (part_next from to on x y z all (pieces_with kept comment more) next p old was new h first leads written)))

-- it is answered in part
pub part_stop : (from to : Run) (x y : Bool) (all : Pieces) (kept more p : List ℕ) (n : ℕ) (comment : Bool) (old was new : Option (List ℕ))
    → Part from to x y all (pieces_with kept comment more) old was → cut_from comment more ≡ before_others (take n more) (cut_from false (drop (n + 1) more))
    → p ≡ kept ++ take n more → GrowsByFront was new (piece_text to p) → GrowsByFront old new (answers from all.ended)
part_stop from to x y all kept more p n comment old was new h cut e front =
    let next : Pieces = cut_from false (drop (n + 1) more) in
    part_within from to x y all (pieces_with kept comment more) next p old was new h
    (piece_first kept more n comment cut ∙ ap (λ (q : List ℕ). before_others q next) (sym e)) front

-- whether the last byte belongs to a comment is seen from the bytes behind a piece
pub comment_behind : (before first now : Bool) (more rest bytes : List ℕ) (n : ℕ) → comment_after before more ≡ comment_after false (drop (n + 1) more)
    → now ≡ false → rest ≡ drop (n + 1) more → comment_after before more ≡ comment_after first bytes → comment_after now rest ≡ comment_after first bytes
comment_behind before first now more rest bytes n after outside others was =
    ap (λ (b : Bool). comment_after b rest) outside ∙ ap (comment_after false) others ∙ sym after ∙ was

-- no piece is to come
pub record Whole (from to : Run) (x y : Bool) (all : Pieces) (kept : List ℕ) (old new : Option (List ℕ)) : Type 0 where
  pub rest : kept ≡ all.rest
  pub leads : Leads from to x y all.ended
  pub written : Grows old new (answers from all.ended)

pub part_all : (from to : Run) (x y : Bool) (all : Pieces) (kept more : List ℕ) (comment : Bool) (old new : Option (List ℕ)) → Part from to x y all (pieces_with kept comment more) old new
    → cut_from comment more ≡ record { ended = []; rest = more } → Whole from to x y all (kept ++ more) old new
part_all from to x y all kept more comment old new h e =
    let now : pieces_with kept comment more ≡ record { ended = []; rest = kept ++ more } = ap (in_front kept) e ∙ front_of_rest kept more in
    let ended : h.ps ≡ all.ended = sym (ap (λ (ps : Pieces). ps.ended) (h.cut ∙ ap (before_all h.ps) now) ∙ append-nil h.ps) in
    record {
      rest = sym (ap (λ (ps : Pieces). ps.rest) (h.cut ∙ ap (before_all h.ps) now));
      leads = subst (Leads from to x y) ended h.leads;
      written = subst (λ ps. Grows old new (answers from ps)) ended h.written;
    }

-- ---- whole commands of more bytes

-- what is answered stays answered
pub answered_more : (xs ys : List ℕ) → (more : List ℕ) × (answered (xs ++ ys) ≡ answered xs ++ more)
unfolding answered
answered_more xs ys =
    let c : Pieces = cut_from false xs in
    let d : Pieces = in_front c.rest (cut_from (comment_after false xs) ys) in
    (answers (run_after start c.ended) d.ended, ap (λ (ps : Pieces). answers start ps.ended) (cut_more false xs ys) ∙ answers_append start c.ended d.ended)

replies_are : (r : Run) (ps : List (List ℕ)) (rest : List ℕ) → replies r ps rest ≡ answers r ps ++ rest_text (run_after r ps) rest
replies_are r [] rest = refl
replies_are r (p ∷ ps) rest =
    ap (λ t. piece_text r p ++ t) (replies_are (after_piece r p) ps rest)
    ∙ sym (append_assoc (piece_text r p) (answers (after_piece r p) ps) (rest_text (run_after (after_piece r p) ps) rest))

refuses_are : (r : Run) (ps : List (List ℕ)) (rest : List ℕ) → refuses r ps rest ≡ (refuses_one r ps || not (is_blank rest))
refuses_are r [] rest = refl
refuses_are r (p ∷ ps) rest =
    ap (λ t. piece_refuses r p || t) (refuses_are (after_piece r p) ps rest)
    ∙ sym (or_assoc (piece_refuses r p) (refuses_one (after_piece r p) ps) (not (is_blank rest)))

-- the transcript is what is answered, and then the rest
pub transcript_is : (bytes : List ℕ) → transcript bytes ≡ answered bytes ++ rest_text (run_after start (cut_from false bytes).ended) (cut_from false bytes).rest
unfolding transcript answered
transcript_is bytes = replies_are start (cut_from false bytes).ended (cut_from false bytes).rest

-- where a run stands behind the bytes that the source gave
pub record Behind (left_old left : Option (List ℕ)) (old new : Option (List ℕ)) (taken : ℕ) (kept : List ℕ) (inside : Bool) (r : Run) (refusing : Bool) : Type 0 where
  pub seen : List ℕ
  pub lost : Loses left_old left seen
  pub count : taken ≡ length seen
  pub piece : kept ≡ (cut_from false seen).rest
  pub comment : inside ≡ comment_after false seen
  pub leads : Leads start r false refusing (cut_from false seen).ended
  pub written : Grows old new (answered seen)

pub behind_none : (left old : Option (List ℕ)) (piece : List ℕ) (comment : Bool) (r : Run) (refusing : Bool) → piece ≡ [] → comment ≡ false → r ≡ start → refusing ≡ false
    → Behind left left old old 0 piece comment r refusing
unfolding answered
behind_none left old piece comment r refusing p c e f =
    record {
      seen = [];
      lost = loses_none left;
      count = refl;
      piece = p;
      comment = c;
      leads = subst (λ (q : Run). Leads start q false refusing []) (sym e) (subst (λ (b : Bool). Leads start start false b []) (sym f) (leads_none start false));
      written = grows_none old;
    }

-- the source has come to its end
pub behind_still : (left_old left left_new old new : Option (List ℕ)) (taken n : ℕ) (piece xs : List ℕ) (comment : Bool) (r : Run) (x : Bool)
    → Behind left_old left old new taken piece comment r x → Loses left left_new (take n xs) → n ≡ 0 → Behind left_old left_new old new taken piece comment r x
behind_still left_old left left_new old new taken n piece xs comment r x h lost e =
    record {
      seen = h.seen;
      lost = subst (Loses left_old left_new) (ap (λ m. h.seen ++ take m xs) e ∙ append-nil h.seen) (loses_twice left_old left left_new h.seen (take n xs) h.lost lost);
      count = h.count;
      piece = h.piece;
      comment = h.comment;
      leads = h.leads;
      written = h.written;
    }

-- the bytes of a read stand at the front of the buffer
pub front_of_buffer : (n limit : ℕ) (got items all : List ℕ) → all ≡ take limit (got ++ drop (length got) items) → n ≤ length got → length got ≤ limit → take n all ≡ take n got
front_of_buffer n limit got items all e h k =
    ap (take n) e ∙ take-take n limit (got ++ drop (length got) items) (omega (arith, h, k)) ∙ take-append-le n got (drop (length got) items) h

-- the pieces of more bytes
more_pieces : (seen got piece : List ℕ) (comment : Bool) → piece ≡ (cut_from false seen).rest → comment ≡ comment_after false seen
    → cut_from false (seen ++ got) ≡ before_all (cut_from false seen).ended (pieces_with piece comment got)
more_pieces seen got piece comment p c =
    cut_more false seen got
    ∙ ap (λ (xs : List ℕ). before_all (cut_from false seen).ended (pieces_with xs (comment_after false seen) got)) (sym p)
    ∙ ap (λ (b : Bool). before_all (cut_from false seen).ended (pieces_with piece b got)) (sym c)

more_answered : (seen got piece : List ℕ) (comment : Bool) (r : Run) → piece ≡ (cut_from false seen).rest → comment ≡ comment_after false seen → r ≡ run_after start (cut_from false seen).ended
    → answered seen ++ answers r (pieces_with piece comment got).ended ≡ answered (seen ++ got)
unfolding answered
more_answered seen got piece comment r p c e =
    let ps : List (List ℕ) = (cut_from false seen).ended in
    let qs : List (List ℕ) = (pieces_with piece comment got).ended in
    ap (λ (q : Run). answers start ps ++ answers q qs) e
    ∙ sym (ap (λ (x : Pieces). answers start x.ended) (more_pieces seen got piece comment p c) ∙ answers_append start ps qs)

pub behind_next : (left_old left left_new old was new : Option (List ℕ)) (taken n : ℕ) (piece kept : List ℕ) (comment inside : Bool) (r q : Run) (x y : Bool) (got : List ℕ)
    → Behind left_old left old was taken piece comment r x → Loses left left_new got → length got ≡ n → kept ≡ (pieces_with piece comment got).rest → inside ≡ comment_after comment got
    → Leads r q x y (pieces_with piece comment got).ended → Grows was new (answers r (pieces_with piece comment got).ended)
    → Behind left_old left_new old new (taken + n) kept inside q y
behind_next left_old left left_new old was new taken n piece kept comment inside r q x y got h lost len rest after leads written =
    let cut = more_pieces h.seen got piece comment h.piece h.comment in
    record {
      seen = h.seen ++ got;
      lost = loses_twice left_old left left_new h.seen got h.lost lost;
      count = omega (arith, h.count, len, length-append h.seen got);
      piece = rest ∙ sym (ap (λ (ps : Pieces). ps.rest) cut);
      comment = after ∙ ap (λ (b : Bool). comment_after b got) h.comment ∙ sym (comment_append false h.seen got);
      leads = subst (λ (ps : Pieces). Leads start q false y ps.ended) (sym cut)
          (leads_on start r q false x y (cut_from false h.seen).ended (pieces_with piece comment got).ended h.leads leads);
      written = subst (Grows old new) (more_answered h.seen got piece comment r h.piece h.comment h.leads.run)
          (grows_twice old was new (answered h.seen) (answers r (pieces_with piece comment got).ended) h.written written);
    }

-- ---- early ends

-- what is written begins with the answers to what the source gave before its last read
past_of : (old new : Option (List ℕ)) (seen got more : List ℕ) → length got ≤ 65536 → Grows old new (answered seen ++ more) → GrowsPast old new (answered (before_last (seen ++ got)))
past_of old new seen got more h grows =
    let n : ℕ = length (seen ++ got) - 65536 in
    let fits : n ≤ length seen = omega (arith, length-append seen got) in
    let before : take n (seen ++ got) ≡ take n seen = take-append-le n seen got fits in
    let a = answered_more (take n seen) (drop n seen) in
    let e : answered seen ≡ answered (take n seen) ++ a.0 = ap answered (sym (take-append-drop n seen)) ∙ a.1 in (
      a.0 ++ more,
      subst (Grows old new)
          (ap (λ t. t ++ more) e ∙ append_assoc (answered (take n seen)) a.0 more ∙ ap (λ t. answered t ++ (a.0 ++ more)) (sym before))
          grows,
    )

gave_behind : (left_old left left_new : Option (List ℕ)) (before middle now taken : ℕ) (seen got : List ℕ) → Loses left_old left seen → Loses left left_new got
    → taken ≡ length seen → middle ≡ before + taken → now ≡ middle + length got → Gave left_old left_new before now (seen ++ got)
gave_behind left_old left left_new before middle now taken seen got h k c e f =
    record { lost = loses_twice left_old left left_new seen got h k; count = omega (arith, c, e, f, length-append seen got) }

-- a read failed
pub stops_unread : (e : Exit) (left_old left left_new old new : Option (List ℕ)) (before middle now taken : ℕ) (piece : List ℕ) (comment : Bool) (r : Run) (x : Bool)
    → Behind left_old left old new taken piece comment r x → middle ≡ before + taken → left_new ≡ left → now ≡ middle
    → StopsAfter e left_old left_new before now old new
stops_unread e left_old left left_new old new before middle now taken piece comment r x h m l n =
    record {
      bytes = h.seen;
      gave = record { lost = subst (λ v. Loses left_old v h.seen) (sym l) h.lost; count = omega (arith, h.count) };
      exact = λ _. h.written;
      past = subst (λ t. GrowsPast old new (answered (before_last t))) (append-nil h.seen)
          (past_of old new h.seen [] [] (omega arith) (subst (Grows old new) (sym (append-nil (answered h.seen))) h.written));
      front = inl (subst (GrowsByFront old new) (append-nil (answered h.seen)) (front_whole old new (answered h.seen) [] h.written));
    }

-- the bytes of the last read are not answered
pub stops_long : (e : Exit) (left_old left left_new old new : Option (List ℕ)) (before middle now taken : ℕ) (piece : List ℕ) (comment : Bool) (r : Run) (x : Bool)
    → Behind left_old left old new taken piece comment r x → middle ≡ before + taken → (e ≡ ReadFault → ⊥) → ((got : List ℕ) × Gave left left_new middle now got) → now ≤ middle + 65536
    → StopsAfter e left_old left_new before now old new
stops_long e left_old left left_new old new before middle now taken piece comment r x h m other g most =
    let a = answered_more h.seen g.0 in
    record {
      bytes = h.seen ++ g.0;
      gave = gave_behind left_old left left_new before middle now taken h.seen g.0 h.lost g.1.lost h.count m g.1.count;
      exact = λ f. absurd (other f);
      past = past_of old new h.seen g.0 [] (omega (arith, g.1.count, most)) (subst (Grows old new) (sym (append-nil (answered h.seen))) h.written);
      front = inl (subst (GrowsByFront old new) (sym a.1) (front_whole old new (answered h.seen) a.0 h.written));
    }

-- a read gave no bytes, or too many
pub stops_reading : (end : ReadEnd) (e : Exit) (left_old left left_new old new : Option (List ℕ)) (before middle now taken : ℕ) (piece : List ℕ) (comment : Bool) (r : Run) (x : Bool)
    → Behind left_old left old new taken piece comment r x → middle ≡ before + taken → e ≡ read_exit end → (IsErrOf {T = ℕ} (Err end) read.Failed → left_new ≡ left)
    → (IsErrOf {T = ℕ} (Err end) read.Failed → now ≡ middle)
    → ((got : List ℕ) × Gave left left_new middle now got) → now ≤ middle + 65536 → StopsAfter e left_old left_new before now old new
stops_reading read.Failed e left_old left left_new old new before middle now taken piece comment r x h m by l n g most =
    stops_unread e left_old left left_new old new before middle now taken piece comment r x h m (l refl) (n refl)
stops_reading read.TooLong e left_old left left_new old new before middle now taken piece comment r x h m by l n g most =
    stops_long e left_old left left_new old new before middle now taken piece comment r x h m (λ f. cc) g most
stops_reading read.Memory e left_old left left_new old new before middle now taken piece comment r x h m by l n g most =
    stops_long e left_old left left_new old new before middle now taken piece comment r x h m (λ f. cc) g most

-- the exit of a sink is none of the source
pub not_read : (fault : SinkFault) (e : Exit) → e ≡ sink_exit fault → e ≡ ReadFault → ⊥
not_read sink.Failed e h k = cc
not_read sink.Memory e h k = cc

-- while the bytes of the last read were answered
pub stops_within : (e : Exit) (left_old left left_new old was new : Option (List ℕ)) (before middle now taken : ℕ) (piece : List ℕ) (comment : Bool) (r : Run) (x : Bool) (got : List ℕ)
    → Behind left_old left old was taken piece comment r x → middle ≡ before + taken → (e ≡ ReadFault → ⊥) → Loses left left_new got → now ≡ middle + length got → length got ≤ 65536
    → GrowsByFront was new (answers r (pieces_with piece comment got).ended) → StopsAfter e left_old left_new before now old new
stops_within e left_old left left_new old was new before middle now taken piece comment r x got h m other lost count most front =
    let text : List ℕ = answers r (pieces_with piece comment got).ended in
    record {
      bytes = h.seen ++ got;
      gave = gave_behind left_old left left_new before middle now taken h.seen got h.lost lost h.count m count;
      exact = λ f. absurd (other f);
      past = past_of old new h.seen got (take front.0 text) most (grows_twice old was new (answered h.seen) (take front.0 text) h.written front.1);
      front = inl (subst (GrowsByFront old new) (more_answered h.seen got piece comment r h.piece h.comment h.leads.run) (front_last old was new (answered h.seen) text h.written front));
    }

rest_behind : (seen piece : List ℕ) (r : Run) → piece ≡ (cut_from false seen).rest → r ≡ run_after start (cut_from false seen).ended → answered seen ++ rest_text r piece ≡ transcript seen
rest_behind seen piece r p e =
    ap (λ (q : Run). answered seen ++ rest_text q piece) e
    ∙ ap (λ (xs : List ℕ). answered seen ++ rest_text (run_after start (cut_from false seen).ended) xs) p
    ∙ sym (transcript_is seen)

-- behind the end of the source
pub stops_at_end : (e : Exit) (left_old left old was new : Option (List ℕ)) (before now taken : ℕ) (piece : List ℕ) (comment : Bool) (r : Run) (x : Bool)
    → Behind left_old left old was taken piece comment r x → now ≡ before + taken → (e ≡ ReadFault → ⊥) → AtEnd left → GrowsByFront was new (rest_text r piece)
    → StopsAfter e left_old left before now old new
stops_at_end e left_old left old was new before now taken piece comment r x h m other end front =
    record {
      bytes = h.seen;
      gave = record { lost = h.lost; count = omega (arith, h.count) };
      exact = λ f. absurd (other f);
      past = subst (λ t. GrowsPast old new (answered (before_last t))) (append-nil h.seen)
          (past_of old new h.seen [] (take front.0 (rest_text r piece)) (omega arith) (grows_twice old was new (answered h.seen) (take front.0 (rest_text r piece)) h.written front.1));
      front = inr (end, subst (GrowsByFront old new) (rest_behind h.seen piece r h.piece h.leads.run) (front_last old was new (answered h.seen) (rest_text r piece) h.written front));
    }

-- ---- the whole input

refusing_is : (seen piece : List ℕ) (x y : Bool) → x ≡ (false || refuses_one start (cut_from false seen).ended) → piece ≡ (cut_from false seen).rest → y ≡ (x || not (is_blank piece)) → y ≡ is_refusing seen
unfolding is_refusing
refusing_is seen piece x y e p f =
    f ∙ ap (λ (b : Bool). b || not (is_blank piece)) e
    ∙ ap (λ (xs : List ℕ). refuses_one start (cut_from false seen).ended || not (is_blank xs)) p
    ∙ sym (refuses_are start (cut_from false seen).ended (cut_from false seen).rest)

pub answers_all : (left_old left old was new : Option (List ℕ)) (before now taken : ℕ) (piece : List ℕ) (comment : Bool) (r : Run) (x y : Bool)
    → Behind left_old left old was taken piece comment r x → now ≡ before + taken → AtEnd left → Grows was new (rest_text r piece) → y ≡ (x || not (is_blank piece))
    → AnswersAll y left_old left before now old new
answers_all left_old left old was new before now taken piece comment r x y h m end written refusing =
    record {
      bytes = h.seen;
      gave = record { lost = h.lost; count = omega (arith, h.count) };
      end = end;
      text = subst (Grows old new) (rest_behind h.seen piece r h.piece h.leads.run) (grows_twice old was new (answered h.seen) (rest_text r piece) h.written written);
      refusing = refusing_is h.seen piece x y h.leads.refusing h.piece refusing;
      replays = replays_all h.seen h.leads.sound;
      in_vain = h.leads.in_vain;
    }

-- ---- what is written before an early end

front_more : (old new : Option (List ℕ)) (part more : List ℕ) → GrowsByFront old new part → GrowsByFront old new (part ++ more)
front_more old new part more h =
    subst (GrowsByFront old new)
    (sym (append_assoc (take h.0 part) (drop h.0 part) more) ∙ ap (λ t. t ++ more) (take-append-drop h.0 part))
    (front_whole old new (take h.0 part) (drop h.0 part ++ more) h.1)

front_either : (left_new old new : Option (List ℕ)) (bytes : List ℕ) → GrowsByFront old new (answered bytes) ⊎ (AtEnd left_new × GrowsByFront old new (transcript bytes))
    → GrowsByFront old new (transcript bytes)
front_either left_new old new bytes (inl f) =
    subst (GrowsByFront old new) (sym (transcript_is bytes))
    (front_more old new (answered bytes) (rest_text (run_after start (cut_from false bytes).ended) (cut_from false bytes).rest) f)
front_either left_new old new bytes (inr f) = f.1

pub front_of_stop : (e : Exit) (left_old left_new : Option (List ℕ)) (taken_old taken_new : ℕ) (old new : Option (List ℕ)) → StopsAfter e left_old left_new taken_old taken_new old new
    → (bytes : List ℕ) × Gave left_old left_new taken_old taken_new bytes × GrowsByFront old new (transcript bytes)
front_of_stop e left_old left_new taken_old taken_new old new h = (h.bytes, h.gave, front_either left_new old new h.bytes h.front)
