-- What a reply is: one line, and behind that of a yes the text of its certificate.
use Rattle.std.specs.Prelude.{◌≡◌, ℕ, ℤ, Bool, not, List, ◌++◌, ◌==◌, IsTrue}
use Rattle.std.specs.List.{list_all}
use Rattle.simplex.specs.declared.flip.Flip.{Flip}
use Rattle.conditions.specs.declared.condition.Condition.{Condition}
use Rattle.flip_certificate.specs.Lines.{lines_of, text_of}
use Rattle.flip_certificate.specs.declared.certificate.Certificate.{Certificate}
use Rattle.reply_texts.specs.Replies.{line, refusal_text, facets_reply, faces_reply, ok_reply, number_reply, numbers_reply, yes_or_no, flips_reply, reduced_reply, undecided_reply, undecided_at_reply, yes_reply}

-- no line feed stands in the text
abbrev pub is_plain : List ℕ → Bool
is_plain = list_all (λ c. not (c == 10))

-- the text is one line: it ends with its line feed and has no other
pub record IsLine (text : List ℕ) : Type 0 where
  pub words : List ℕ
  pub ends : text ≡ line words
  pub plain : IsTrue (is_plain words)

-- the text is one line and the text of the certificate
pub record IsLineWith (k : Certificate) (text : List ℕ) : Type 0 where
  pub head : List ℕ
  pub first : IsLine head
  pub whole : text ≡ head ++ text_of (lines_of k)

-- each reply is one line, where its words are without a line feed, and a yes is one with its certificate
pub record RepliesAreLines : Type 0 where
  pub refusal : (c : Condition) → IsLine (refusal_text c)
  pub facets : (c : List (List ℕ)) → IsLine (facets_reply c)
  pub faces : (c : List (List ℕ)) → IsLine (faces_reply c)
  pub ok : (c : List (List ℕ)) → IsLine (ok_reply c)
  pub number : (word : List ℕ) (z : ℤ) → IsTrue (is_plain word) → IsLine (number_reply word z)
  pub numbers : (word : List ℕ) (zs : List ℤ) → IsTrue (is_plain word) → IsLine (numbers_reply word zs)
  pub yes_or_no : (word : List ℕ) (b : Bool) → IsTrue (is_plain word) → IsLine (yes_or_no word b)
  pub flips : (ms : List Flip) → IsLine (flips_reply ms)
  pub reduced : (ms : List Flip) (c : List (List ℕ)) → IsLine (reduced_reply ms c)
  pub undecided : (spent : ℕ) → IsLine (undecided_reply spent)
  pub undecided_at : (spent vertex : ℕ) → IsLine (undecided_at_reply spent vertex)
  pub yes : (k : Certificate) → IsLineWith k (yes_reply k)
