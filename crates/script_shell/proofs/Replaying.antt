-- The transcript of a script is made of lines that begin no part and of the texts of certificates.
use Rattle.std.proofs.Common.{◌≡◌, ℕ, zero, suc, ◌+◌, ◌-◌, Bool, true, false, not, cond, ◌||◌, List, [], ◌∷◌, ◌++◌, map, take, drop, refl, sym, ap, ◌∙◌, subst, Option, Some, None, arith}
use mathlib.Core.List.{append_assoc}
use Rattle.std.proofs.lemmas.List.{append-nil, map-append, length-drop, take_all}
use Rattle.std.proofs.lemmas.Grind.{flat_map-append}
use Rattle.std.proofs.lemmas.List.Elements.{All-append}
use Rattle.std.specs.Prelude.{codes, decimal, pos, length}
use Rattle.std.specs.List.{All, flat_map, list_all, range_with_len}
use Rattle.simplex.proofs.InOrderLaws.{and_both}
use Rattle.script_text.specs.Reading.{command_of}
use Rattle.script_text.specs.Tokens.{is_blank}
use Rattle.script_text.specs.declared.command.Command.{Command}
use Rattle.script_text.specs.declared.command.Command.TheVariants as command
use Rattle.script_text.specs.declared.command.Question.{Question}
use Rattle.script_text.specs.declared.command.Question.TheVariants as question
use Rattle.script_text.specs.declared.command.Edit.{Edit}
use Rattle.script_text.specs.declared.command.Edit.TheVariants as edit
use Rattle.conditions.specs.declared.condition.Condition.{Condition}
use Rattle.simplex.specs.SimplexFault.{set}
use Rattle.facet_set.specs.Complex.{generated}
use Rattle.facet_set.specs.Connection.{components, is_closed, is_strong}
use Rattle.facet_set.specs.Flips.{options}
use Rattle.facet_set.specs.Numbers.{degree, f_vector, faces_of_size, size}
use Rattle.face_vectors.specs.Vectors.{alternating, g_vector_of, h_vector_of}
use Rattle.betti_tables.specs.Ranks.{betti_vector}
use Rattle.annealer.specs.Walk.{goal, to_goal, walk}
use Rattle.shell_names.specs.State.{State, Complex, present, entry, undone, redone}
use Rattle.flip_certificate.specs.Lines.{lines_of, text_of}
use Rattle.flip_certificate.specs.declared.certificate.Certificate.{Certificate}
use Rattle.flip_certificate.proofs.EndsLaws.{no_feed-append, no_feed-decimal}
use Rattle.replay_report.specs.Report.{parts, is_accepted}
use Rattle.replay_report.specs.Laws.{Piece, line, whole, IsPiece, IsOtherLine, piece_text, certificate_texts}
use Rattle.replay_report.proofs.JudgingLaws.{valid_accepted}
use Rattle.replay_report.proofs.TranscriptLaws.{certificates_are}
use Rattle.flip_certificate.proofs.ReadingLaws.{reads_the_spelled_lem}
use Rattle.reply_texts.specs.Laws.{IsLine}
use Rattle.reply_texts.specs.Replies.{facets_reply, ok_reply, refusal_text, undecided_at_reply, undecided_reply}
use Rattle.reply_texts.proofs.LineLaws.{all_lines}
use Rattle.verdicts.specs.Sound.{YesIsSound}
use Rattle.verdicts.specs.Verdicts.{equivalent_of, manifold_of, sphere_of}
use Rattle.verdicts.specs.declared.verdict.Verdict.{Verdict}
use Rattle.verdicts.specs.declared.verdict.Verdict.TheVariants.{Yes, Undecided, UndecidedAt}
use Rattle.script_shell.specs.Commands.{adding, asking, changing, collapsing, dropping, failed, flipping, making, meaning, reply_to, verdict_reply}
use Rattle.script_shell.specs.Limits.{standard}
use Rattle.script_shell.specs.Replays.{certificate_of, certificate_for, certificate_to, certificate_in, piece_certificate, certificates_from, certificates, AreSound, Replays}
use Rattle.script_shell.specs.Transcript.{Run, Pieces, after_piece, before_others, cut_from, numbered, piece_refuses, piece_text as written, refuses, replies, reply_in, rest_text, start, transcript}
use Rattle.script_shell.specs.declared.limits.Limits.{Limits}

-- ---- a reply is a line, and the text of the certificate where there is one

abbrev pub text_for : Certificate → List ℕ
text_for k = text_of (lines_of k)

-- the text is a line with the texts of these certificates behind it
pub record IsReply (ks : List Certificate) (text : List ℕ) : Type 0 where
  pub head : List ℕ
  pub first : IsLine head
  pub whole : text ≡ head ++ flat_map text_for ks

plain_reply : (text : List ℕ) → IsLine text → IsReply [] text
plain_reply text h = record { head = text; first = h; whole = sym (append-nil text) }

question_reply : (c : Complex) (q : Question) → IsReply [] (asking c q).reply
question_reply c q = plain_reply (asking c q).reply (by q)
  where
    by : (q : Question) → IsLine (asking c q).reply
    by question.Print = all_lines.facets c
    by question.Fvec = all_lines.numbers (codes "fvec ") (map pos (f_vector c)) refl
    by question.Hvec = all_lines.numbers (codes "hvec ") (h_vector_of (f_vector c)) refl
    by question.Gvec = all_lines.numbers (codes "gvec ") (g_vector_of (f_vector c)) refl
    by question.Euler = all_lines.number (codes "euler ") (alternating (f_vector c)) refl
    by (question.Faces k) = all_lines.faces (faces_of_size c (k + 1))
    by (question.Degree face) = all_lines.number (codes "degree ") (pos (degree c (set face))) refl
    by question.Components = all_lines.number (codes "components ") (pos (components c)) refl
    by question.Closed = all_lines.yes_or_no (codes "closed ") (is_closed c) refl
    by question.Strong = all_lines.yes_or_no (codes "strong ") (is_strong c) refl
    by question.Betti = all_lines.numbers (codes "betti ") (betti_vector c) refl
    by question.Options = all_lines.numbers (codes "options ") (map (λ i. pos (length (options c i))) (range_with_len 0 (size c))) refl
    by (question.OptionsOf class) = all_lines.flips (options c class)

change_reply : (limits : Limits) (s : State) (x : List ℕ) (e : Edit) → IsReply [] (changing limits s x e).reply
change_reply limits s x e = plain_reply (changing limits s x e).reply (by e)
  where
    by : (e : Edit) → IsLine (changing limits s x e).reply
    by (edit.Flip a b) = all_lines.ok (flipping (present s x) a b).complex
    by (edit.Add face) = all_lines.ok (adding (present s x) face).complex
    by (edit.Drop face) = all_lines.ok (dropping (present s x) face).complex
    by (edit.Collapse face) = all_lines.ok (collapsing (present s x) face).complex
    by (edit.Reduce budget seed) = let flips = walk (present s x) seed budget in all_lines.reduced (to_goal (present s x) flips) (goal (present s x) flips)
    by edit.Undo = all_lines.ok (undone (entry s x)).present
    by edit.Redo = all_lines.ok (redone (entry s x)).present

verdict_is : (v : Verdict) → IsReply (certificate_of v) (verdict_reply v)
verdict_is (Yes k) =
    let y = all_lines.yes k in
    record { head = y.head; first = y.first; whole = y.whole ∙ ap (λ t. y.head ++ t) (sym (append-nil (text_for k))) }
verdict_is (Undecided spent) = plain_reply (undecided_reply spent) (all_lines.undecided spent)
verdict_is (UndecidedAt vertex spent) = plain_reply (undecided_at_reply spent vertex) (all_lines.undecided_at spent vertex)

accepted_reply : (limits : Limits) (s : State) (k : Command) → IsReply (certificate_for s k) (meaning limits s k).reply
accepted_reply limits s (command.Show lists) = plain_reply (facets_reply (generated (map set lists))) (all_lines.facets (generated (map set lists)))
accepted_reply limits s (command.Make x m) = plain_reply (ok_reply (making s m).complex) (all_lines.ok (making s m).complex)
accepted_reply limits s (command.Ask x q) = question_reply (present s x) q
accepted_reply limits s (command.Change x e) = change_reply limits s x e
accepted_reply limits s (command.Sphere x budget seed) = verdict_is (sphere_of (present s x) budget seed)
accepted_reply limits s (command.Equivalent x y budget seed) = verdict_is (equivalent_of (present s x) (present s y) budget seed)
accepted_reply limits s (command.Manifold x budget seed) = verdict_is (manifold_of (present s x) budget seed)

command_reply : (limits : Limits) (s : State) (k : Command) → IsReply (certificate_to limits s k) (reply_to limits s k)
command_reply limits s k =
    elim (failed limits s k) as (λ f. IsReply (certificate_by f) (reply_by f)) [
      | None ↦ accepted_reply limits s k
      | Some c ↦ plain_reply (refusal_text c) (all_lines.refusal c)
    ]
  where
    certificate_by : Option Condition → List Certificate
    certificate_by None = certificate_for s k
    certificate_by (Some c) = []

    reply_by : Option Condition → List ℕ
    reply_by None = (meaning limits s k).reply
    reply_by (Some c) = refusal_text c

any_reply : (s : State) (o : Option Command) → IsReply (certificate_in s o) (reply_in s o)
any_reply s None = plain_reply (codes "refused syntax" ++ 10 ∷ []) (record { words = codes "refused syntax"; ends = refl; plain = refl })
any_reply s (Some k) = command_reply standard s k

-- ---- a reply with its number

-- the line with its number begins no part
numbered_line : (n : ℕ) (head : List ℕ) → IsLine head → IsOtherLine (numbered n head)
numbered_line n head h =
    record {
      words = 91 ∷ decimal n ++ codes "] " ++ h.words;
      text = ap (numbered n) h.ends ∙ sym (shape n h.words);
      plain = no_feed-append (decimal n ++ codes "] ") h.words (no_feed-append (decimal n) (codes "] ") (no_feed-decimal n) refl) h.plain;
      other = refl;
    }
  where
    shape : (n : ℕ) (words : List ℕ) → (91 ∷ decimal n ++ codes "] " ++ words) ++ 10 ∷ [] ≡ numbered n (words ++ 10 ∷ [])
    shape n words = ap (λ t. 91 ∷ t) (append_assoc (decimal n ++ codes "] ") words (10 ∷ []))

-- ---- all of a list, and sound certificates

all_nil : {X : Type 0} (P : X → Type 0) → All P []
all_nil P k d l = absurd (omega arith)

all_cons : {X : Type 0} (P : X → Type 0) (x : X) (xs : List X) → P x → All P xs → All P (x ∷ xs)
all_cons P x xs h k zero d l = h
all_cons P x xs h k (suc i) d l = k i d (omega arith)

pub sound_both : (ks js : List Certificate) → AreSound ks → AreSound js → AreSound (ks ++ js)
sound_both [] js h k = k
sound_both (x ∷ ks) js h k = (h.0, sound_both ks js h.1 k)

-- the certificate of a sound yes
pub sound_yes : (v : Verdict) → YesIsSound v → AreSound (certificate_of v)
sound_yes (Yes k) h = (h, tt)
sound_yes (Undecided spent) h = tt
sound_yes (UndecidedAt vertex spent) h = tt

-- ---- the pieces of a transcript

-- the text is made of pieces, of which these are the certificates
pub record IsMade (ks : List Certificate) (text : List ℕ) : Type 0 where
  pub pieces : List Piece
  pub all : text ≡ flat_map piece_text pieces
  pub texts : certificate_texts pieces ≡ map text_for ks
  pub good : All IsPiece pieces

made_nil : IsMade [] []
made_nil = record { pieces = []; all = refl; texts = refl; good = all_nil IsPiece }

texts_append : (ps qs : List Piece) → certificate_texts (ps ++ qs) ≡ certificate_texts ps ++ certificate_texts qs
texts_append [] qs = refl
texts_append (line l ∷ ps) qs = texts_append ps qs
texts_append (whole c ∷ ps) qs = ap (λ x. text_for c ∷ x) (texts_append ps qs)

made_append : (ks js : List Certificate) (t u : List ℕ) → IsMade ks t → IsMade js u → IsMade (ks ++ js) (t ++ u)
made_append ks js t u m n =
    record {
      pieces = m.pieces ++ n.pieces;
      all = ap (λ x. x ++ u) m.all ∙ ap (λ x. flat_map piece_text m.pieces ++ x) n.all ∙ sym (flat_map-append piece_text m.pieces n.pieces);
      texts = texts_append m.pieces n.pieces ∙ ap (λ x. x ++ certificate_texts n.pieces) m.texts ∙ ap (λ x. map text_for ks ++ x) n.texts ∙ sym (map-append text_for ks js);
      good = All-append IsPiece m.pieces n.pieces m.good n.good;
    }

made_line : (l : List ℕ) → IsOtherLine l → IsMade [] l
made_line l h = record { pieces = line l ∷ []; all = sym (append-nil l); texts = refl; good = all_cons IsPiece (line l) [] h (all_nil IsPiece) }

made_certificates : (ks : List Certificate) → IsMade ks (flat_map text_for ks)
made_certificates [] = made_nil
made_certificates (k ∷ ks) =
    let m = made_certificates ks in
    record {
      pieces = whole k ∷ m.pieces;
      all = ap (λ x. text_for k ++ x) m.all;
      texts = ap (λ x. text_for k ∷ x) m.texts;
      good = all_cons IsPiece (whole k) m.pieces tt m.good;
    }

made_reply : (n : ℕ) (ks : List Certificate) (text : List ℕ) → IsReply ks text → IsMade ks (numbered n text)
made_reply n ks text r =
    subst (IsMade ks) (sym (ap (numbered n) r.whole ∙ shape n r.head (flat_map text_for ks)))
    (made_append [] ks (numbered n r.head) (flat_map text_for ks) (made_line (numbered n r.head) (numbered_line n r.head r.first)) (made_certificates ks))
  where
    shape : (n : ℕ) (head rest : List ℕ) → numbered n (head ++ rest) ≡ numbered n head ++ rest
    shape n head rest =
        ap (λ t. 91 ∷ t) (sym (append_assoc (decimal n ++ codes "] ") head rest))

made_piece : (r : Run) (p : List ℕ) → IsMade (piece_certificate r p) (written r p)
made_piece r p =
    elim (is_blank p) as (λ v. IsMade (cond v [] (certificate_in r.state (command_of p))) (cond v [] (numbered (r.count + 1) (reply_in r.state (command_of p))))) [
      | true ↦ made_nil
      | false ↦ made_reply (r.count + 1) (certificate_in r.state (command_of p)) (reply_in r.state (command_of p)) (any_reply r.state (command_of p))
    ]

made_rest : (r : Run) (rest : List ℕ) → IsMade [] (rest_text r rest)
made_rest r rest =
    elim (is_blank rest) as (λ v. IsMade [] (cond v [] (numbered (r.count + 1) unended))) [
      | true ↦ made_nil
      | false ↦ made_reply (r.count + 1) [] unended (plain_reply unended (record { words = codes "refused unended"; ends = refl; plain = refl }))
    ]
  where
    unended : List ℕ
    unended = codes "refused unended" ++ 10 ∷ []

made_replies : (r : Run) (ps : List (List ℕ)) (rest : List ℕ) → IsMade (certificates_from r ps) (replies r ps rest)
made_replies r [] rest = made_rest r rest
made_replies r (p ∷ ps) rest =
    made_append (piece_certificate r p) (certificates_from (after_piece r p) ps) (written r p) (replies (after_piece r p) ps rest) (made_piece r p) (made_replies (after_piece r p) ps rest)

made_transcript : (bytes : List ℕ) → IsMade (certificates bytes) (transcript bytes)
unfolding certificates transcript
made_transcript bytes = let ps = cut_from false bytes in made_replies start ps.ended ps.rest

-- ---- the report on a transcript

all_accepted : (ks : List Certificate) → AreSound ks → list_all is_accepted (map text_for ks) ≡ true
all_accepted [] h = refl
all_accepted (k ∷ ks) h =
    and_both _ _ (valid_accepted reads_the_spelled_lem k (text_for k) (record { held = h.0.held; shaped = h.0.shaped; text = refl }) h.0.valid) (all_accepted ks h.1)

pub replays : (bytes : List ℕ) → AreSound (certificates bytes) → Replays bytes
replays bytes h =
    let m = made_transcript bytes in
    let e : parts (transcript bytes) ≡ map text_for (certificates bytes) = ap parts m.all ∙ certificates_are m.pieces m.good ∙ m.texts in
    record {
      parts = e;
      sound = h;
      accepted = ap (λ ps. not (list_all is_accepted ps)) e ∙ ap not (all_accepted (certificates bytes) h);
    }

-- ---- piece by piece

pub take_rest : (xs : List ℕ) (n : ℕ) → take (length xs - n) (drop n xs) ≡ drop n xs
take_rest xs n = take_all (length xs - n) (drop n xs) (let e = length-drop n xs in omega arith)

-- where the certificates with the replies to the other pieces are sound, those from this piece on are
pub sound_next : (rest : List ℕ) (n : ℕ) (r q : Run) (X : Type 0) → cut_from false rest ≡ before_others (take n rest) (cut_from false (drop (n + 1) rest)) → q ≡ after_piece r (take n rest)
    → AreSound (piece_certificate r (take n rest)) → (AreSound (certificates_from r (cut_from false rest).ended) → X) → AreSound (certificates_from q (cut_from false (drop (n + 1) rest)).ended) → X
sound_next rest n r q X cut run sound all h =
    all (subst (λ (ps : Pieces). AreSound (certificates_from r ps.ended)) (sym cut)
    (sound_both (piece_certificate r (take n rest)) (certificates_from (after_piece r (take n rest)) (cut_from false (drop (n + 1) rest)).ended) sound
    (subst (λ (x : Run). AreSound (certificates_from x (cut_from false (drop (n + 1) rest)).ended)) run h)))

-- the same for what is written, and for what is refused
pub text_next : (rest : List ℕ) (n : ℕ) (r q : Run) (out new final : List ℕ) → cut_from false rest ≡ before_others (take n rest) (cut_from false (drop (n + 1) rest)) → q ≡ after_piece r (take n rest)
    → new ≡ out ++ written r (take n rest) → out ++ replies r (cut_from false rest).ended (cut_from false rest).rest ≡ final
    → new ++ replies q (cut_from false (drop (n + 1) rest)).ended (cut_from false (drop (n + 1) rest)).rest ≡ final
text_next rest n r q out new final cut run more all =
    let p = take n rest in
    let ps : Pieces = cut_from false (drop (n + 1) rest) in
    ap (λ t. t ++ replies q ps.ended ps.rest) more
    ∙ ap (λ (x : Run). (out ++ written r p) ++ replies x ps.ended ps.rest) run
    ∙ append_assoc out (written r p) (replies (after_piece r p) ps.ended ps.rest)
    ∙ ap (λ (x : Pieces). out ++ replies r x.ended x.rest) (sym cut)
    ∙ all

or_assoc : (a b c : Bool) → ((a || b) || c) ≡ (a || (b || c))
or_assoc true b c = refl
or_assoc false b c = refl

pub refuses_next : (rest : List ℕ) (n : ℕ) (r q : Run) (out new final : Bool) → cut_from false rest ≡ before_others (take n rest) (cut_from false (drop (n + 1) rest)) → q ≡ after_piece r (take n rest)
    → new ≡ (out || piece_refuses r (take n rest)) → (out || refuses r (cut_from false rest).ended (cut_from false rest).rest) ≡ final
    → (new || refuses q (cut_from false (drop (n + 1) rest)).ended (cut_from false (drop (n + 1) rest)).rest) ≡ final
refuses_next rest n r q out new final cut run more all =
    let p = take n rest in
    let ps : Pieces = cut_from false (drop (n + 1) rest) in
    ap (λ t. t || refuses q ps.ended ps.rest) more
    ∙ ap (λ (x : Run). (out || piece_refuses r p) || refuses x ps.ended ps.rest) run
    ∙ or_assoc out (piece_refuses r p) (refuses (after_piece r p) ps.ended ps.rest)
    ∙ ap (λ (x : Pieces). out || refuses r x.ended x.rest) (sym cut)
    ∙ all

pub sound_end : (rest : List ℕ) (r : Run) (X : Type 0) → cut_from false rest ≡ record { ended = []; rest = rest } → (AreSound (certificates_from r (cut_from false rest).ended) → X) → X
sound_end rest r X cut all = all (subst (λ (ps : Pieces). AreSound (certificates_from r ps.ended)) (sym cut) tt)

pub replays_all : (bytes : List ℕ) → AreSound (certificates_from start (cut_from false bytes).ended) → Replays bytes
unfolding certificates
replays_all bytes h = replays bytes h
