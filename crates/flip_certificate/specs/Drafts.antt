-- What may follow the first lines of a certificate.
use Rattle.std.specs.Prelude.{ℕ, List, [], ◌∷◌, ◌++◌, Option, Some, None}
use Rattle.simplex.specs.declared.flip.Flip.{Flip}
use Rattle.flip_certificate.specs.declared.line.Kind.{Kind}
use Rattle.flip_certificate.specs.declared.line.Kind.TheVariants as kind
use Rattle.flip_certificate.specs.declared.line.Word.{Word}
use Rattle.flip_certificate.specs.declared.line.Word.TheVariants as word
use Rattle.flip_certificate.specs.declared.line.Line.{Line}
use Rattle.flip_certificate.specs.declared.line.Line.TheVariants.{Heading, Complex, Move, Map, Link, End}
use Rattle.flip_certificate.specs.declared.block.Block.{Block}
use Rattle.flip_certificate.specs.declared.certificate.Certificate.TheVariants as certificate
use Rattle.flip_certificate.specs.declared.draft.Draft.{Draft}
use Rattle.flip_certificate.specs.declared.draft.Draft.TheVariants as draft

abbrev pub block : ℕ → List Flip → Block
block v ms = record { vertex = v; flips = ms }

-- the draft with a line more, by what the line is
abbrev pub after_heading : Draft → Kind → Option Draft
after_heading draft.Begun k = Some (draft.Headed k)
after_heading d k = None

abbrev pub headed : Kind → Word → List (List ℕ) → Option Draft
headed kind.Sphere word.Facets c = Some (draft.Sphere c [])
headed kind.Equivalent word.From c = Some (draft.From c)
headed kind.Manifold word.Facets c = Some (draft.Manifold c)
headed k w c = None

abbrev pub after_complex : Draft → Word → List (List ℕ) → Option Draft
after_complex (draft.Headed k) w c = headed k w c
after_complex (draft.From c) word.To d = Some (draft.Equivalent c d [])
after_complex d w c = None

abbrev pub after_move : Draft → Flip → Option Draft
after_move (draft.Sphere c ms) m = Some (draft.Sphere c (ms ++ m ∷ []))
after_move (draft.Equivalent c d ms) m = Some (draft.Equivalent c d (ms ++ m ∷ []))
after_move (draft.Mapped c d ms p ns) m = Some (draft.Mapped c d ms p (ns ++ m ∷ []))
after_move (draft.Linked c bs v ms) m = Some (draft.Linked c bs v (ms ++ m ∷ []))
after_move d m = None

abbrev pub after_map : Draft → List (ℕ × ℕ) → Option Draft
after_map (draft.Equivalent c d ms) p = Some (draft.Mapped c d ms p [])
after_map d p = None

abbrev pub after_link : Draft → ℕ → Option Draft
after_link (draft.Manifold c) v = Some (draft.Linked c [] v [])
after_link (draft.Linked c bs v ms) w = Some (draft.Linked c (bs ++ block v ms ∷ []) w [])
after_link d v = None

abbrev pub after_end : Draft → Option Draft
after_end (draft.Sphere c ms) = Some (draft.Done (certificate.Sphere c ms))
after_end (draft.Mapped c d ms p ns) = Some (draft.Done (certificate.Equivalent c d ms p ns))
after_end (draft.Manifold c) = Some (draft.Done (certificate.Manifold c []))
after_end (draft.Linked c bs v ms) = Some (draft.Done (certificate.Manifold c (bs ++ block v ms ∷ [])))
after_end d = None

-- the draft with a line more, if a certificate may go on so
abbrev pub next : Draft → Line → Option Draft
next d (Heading k) = after_heading d k
next d (Complex w c) = after_complex d w c
next d (Move m) = after_move d m
next d (Map p) = after_map d p
next d (Link v) = after_link d v
next d End = after_end d
