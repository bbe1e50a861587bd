-- Each reply is one line.
use Rattle.std.proofs.Common.{◌≡◌, ℕ, suc, Bool, true, false, List, [], ◌∷◌, ◌++◌, map, length, refl}
use Rattle.std.specs.Prelude.{ℤ, pos, negsuc, codes}
use Rattle.std.specs.Fmt.{decimal, signed_decimal}
use Rattle.simplex.specs.declared.flip.Flip.{Flip}
use Rattle.simplex.proofs.InOrderLaws.{and_both}
use Rattle.conditions.specs.Condition.{condition_name}
use Rattle.plain_text.specs.Printing.{facets_text, integers_text, simplex_text}
use Rattle.conditions.specs.declared.condition.Condition.{Condition}
use Rattle.conditions.specs.declared.condition.Condition.TheVariants as condition
use Rattle.flip_certificate.specs.Count.{flip_count}
use Rattle.flip_certificate.specs.Lines.{kind_of, kind_text}
use Rattle.flip_certificate.specs.declared.certificate.Certificate.{Certificate}
use Rattle.flip_certificate.specs.declared.line.Kind.{Kind}
use Rattle.flip_certificate.specs.declared.line.Kind.TheVariants as kind
use Rattle.flip_certificate.proofs.EndsLaws.{no_feed, no_feed-append, no_feed-decimal, no_feed-bracketed, no_feed-simplex, no_feed-facets, all_map}
use Rattle.reply_texts.specs.Laws.{IsLine, IsLineWith, RepliesAreLines}
use Rattle.reply_texts.specs.Replies.{line, refusal_text, facets_reply, faces_reply, ok_reply, number_reply, numbers_reply, yes_or_no, flip_text, flips_text, flips_reply, reduced_reply, undecided_reply, undecided_at_reply, yes_reply}

-- words and a text without a line feed, with one behind them, are a line
one_line : (words text : List ℕ) → no_feed words ≡ true → no_feed text ≡ true → IsLine (line (words ++ text))
one_line words text h k = record { words = words ++ text; ends = refl; plain = no_feed-append words text h k }

name_plain : (c : Condition) → no_feed (condition_name c) ≡ true
name_plain condition.NoName = refl
name_plain condition.NamesFull = refl
name_plain condition.LabelRange = refl
name_plain condition.LabelTwice = refl
name_plain condition.DimLimit = refl
name_plain condition.SizeLimit = refl
name_plain condition.Void = refl
name_plain condition.NotPure = refl
name_plain condition.DimRange = refl
name_plain condition.DimDiffers = refl
name_plain condition.NotFace = refl
name_plain condition.NotFacet = refl
name_plain condition.NotMap = refl
name_plain condition.Overlap = refl
name_plain condition.Near = refl
name_plain condition.FlipSize = refl
name_plain condition.FlipStar = refl
name_plain condition.FlipPresent = refl
name_plain condition.NotFree = refl
name_plain condition.IsFace = refl
name_plain condition.Range = refl
name_plain condition.RankLimit = refl
name_plain condition.Budget = refl
name_plain condition.JournalFull = refl
name_plain condition.NoPast = refl
name_plain condition.NoFuture = refl

integer_plain : (z : ℤ) → no_feed (signed_decimal z) ≡ true
integer_plain (pos n) = no_feed-decimal n
integer_plain (negsuc n) = no_feed-decimal (suc n)

flip_plain : (m : Flip) → no_feed (flip_text m) ≡ true
flip_plain m = no_feed-bracketed (simplex_text m.a ∷ simplex_text m.b ∷ []) (and_both _ _ (no_feed-simplex m.a) (and_both _ _ (no_feed-simplex m.b) refl))

kind_plain : (k : Kind) → no_feed (kind_text k) ≡ true
kind_plain kind.Sphere = refl
kind_plain kind.Equivalent = refl
kind_plain kind.Manifold = refl

refusal_line : (c : Condition) → IsLine (refusal_text c)
refusal_line c = one_line (codes "refused ") (condition_name c) refl (name_plain c)

facets_line : (c : List (List ℕ)) → IsLine (facets_reply c)
facets_line c = one_line (codes "facets ") (facets_text c) refl (no_feed-facets c)

faces_line : (c : List (List ℕ)) → IsLine (faces_reply c)
faces_line c = one_line (codes "faces ") (facets_text c) refl (no_feed-facets c)

ok_line : (c : List (List ℕ)) → IsLine (ok_reply c)
ok_line c = one_line (codes "ok ") (decimal (length c)) refl (no_feed-decimal (length c))

number_line : (word : List ℕ) (z : ℤ) → no_feed word ≡ true → IsLine (number_reply word z)
number_line word z h = one_line word (signed_decimal z) h (integer_plain z)

numbers_line : (word : List ℕ) (zs : List ℤ) → no_feed word ≡ true → IsLine (numbers_reply word zs)
numbers_line word zs h = one_line word (integers_text zs) h (no_feed-bracketed (map signed_decimal zs) (all_map no_feed signed_decimal integer_plain zs))

yes_or_no_line : (word : List ℕ) (b : Bool) → no_feed word ≡ true → IsLine (yes_or_no word b)
yes_or_no_line word true h = one_line word (codes "yes") h refl
yes_or_no_line word false h = one_line word (codes "no") h refl

flips_line : (ms : List Flip) → IsLine (flips_reply ms)
flips_line ms = one_line (codes "options ") (flips_text ms) refl (no_feed-bracketed (map flip_text ms) (all_map no_feed flip_text flip_plain ms))

reduced_line : (ms : List Flip) (c : List (List ℕ)) → IsLine (reduced_reply ms c)
reduced_line ms c =
    one_line (codes "reduced " ++ decimal (length ms)) (32 ∷ decimal (length c)) (no_feed-append (codes "reduced ") (decimal (length ms)) refl (no_feed-decimal (length ms))) (no_feed-decimal (length c))

undecided_line : (spent : ℕ) → IsLine (undecided_reply spent)
undecided_line spent = one_line (codes "undecided ") (decimal spent) refl (no_feed-decimal spent)

undecided_at_line : (spent vertex : ℕ) → IsLine (undecided_at_reply spent vertex)
undecided_at_line spent vertex =
    one_line (codes "undecided " ++ decimal spent ++ codes " vertex ") (decimal vertex)
    (no_feed-append (codes "undecided " ++ decimal spent) (codes " vertex ") (no_feed-append (codes "undecided ") (decimal spent) refl (no_feed-decimal spent)) refl)
    (no_feed-decimal vertex)

yes_line : (k : Certificate) → IsLineWith k (yes_reply k)
yes_line k =
    record {
      head = line (kind_text (kind_of k) ++ 32 ∷ decimal (flip_count k));
      first = one_line (kind_text (kind_of k)) (32 ∷ decimal (flip_count k)) (kind_plain (kind_of k)) (no_feed-decimal (flip_count k));
      whole = refl;
    }

pub all_lines : RepliesAreLines
all_lines =
    record {
      refusal = refusal_line;
      facets = facets_line;
      faces = faces_line;
      ok = ok_line;
      number = number_line;
      numbers = numbers_line;
      yes_or_no = yes_or_no_line;
      flips = flips_line;
      reduced = reduced_line;
      undecided = undecided_line;
      undecided_at = undecided_at_line;
      yes = yes_line;
    }
