-- The report on all certificates in a text.
--     parts bytes          the parts of the bytes: each begins at a line that begins with `certificate ` and ends behind the next
--                          line `end`, or before the next part
--     part_text part       the line on a part: what certificate it spells, if it is valid, and else why not
--     replay_text bytes    a line for each part, and a last one with the number of parts and of those accepted
use Rattle.std.specs.Prelude.{ℕ, Bool, false, not, ◌||◌, List, [], ◌∷◌, ◌++◌, length, ◌==◌, nat_eq, slice_index_or, Option, Some, None, Result, Ok, Err, if◌then◌else◌, codes, decimal}
use Rattle.std.specs.List.{flat_map, onto_first, starts_with, count_by, list_all}
use Rattle.plain_text.specs.Bytes.{is_text}
use Rattle.flip_certificate.specs.Count.{flip_count}
use Rattle.flip_certificate.specs.Lines.{kind_of, kind_text}
use Rattle.flip_certificate.specs.Reading.{reading}
use Rattle.flip_certificate.specs.Valid.{is_valid, first_fault}
use Rattle.flip_certificate.specs.declared.certificate.Certificate.{Certificate}
use Rattle.flip_certificate.specs.declared.line.Kind.{Kind}
use Rattle.cert_replay.specs.Faults.{replay_faults}
use Rattle.cert_replay.specs.declared.replay_fault.ReplayFault.{ReplayFault}
use Rattle.cert_replay.specs.declared.replay_fault.ReplayFault.TheVariants.{Start, Flip, Map, Links, End, Memory}

-- the lines of the bytes, each with its line feed; the last may have none
abbrev pub lines_of : List ℕ → List (List ℕ)
lines_of [] = []
lines_of (c ∷ cs) = if c == 10 then (10 ∷ []) ∷ lines_of cs else onto_first c (lines_of cs)

-- whether a part begins with the line, and whether one ends with it
abbrev pub begins_part : List ℕ → Bool
begins_part l = starts_with nat_eq l (codes "certificate ")

abbrev pub ends_part : List ℕ → Bool
ends_part l = is_text l (codes "end\n") || is_text l (codes "end")

-- the lines that still belong to a part begun before them, and the parts that begin in them
abbrev pub split_parts : List (List ℕ) → List ℕ × List (List ℕ)
split_parts [] = ([], [])
split_parts (l ∷ ls) =
    let r = split_parts ls in
    if begins_part l then ([], (l ++ r.0) ∷ r.1) else (if ends_part l then (l, r.1) else (l ++ r.0, r.1))

-- the first line of the bytes; nothing where there is none
abbrev pub first_line : List ℕ → List ℕ
first_line bytes = slice_index_or (lines_of bytes) 0 []

abbrev pub parts : List ℕ → List (List ℕ)
parts bytes = (split_parts (lines_of bytes)).1

-- the words on a fault (want of memory is none)
abbrev pub fault_text : ReplayFault → List ℕ
fault_text Start = codes "start"
fault_text (Flip k) = codes "flip " ++ decimal k
fault_text Map = codes "map"
fault_text (Links at) = codes "links " ++ decimal at
fault_text (End vertex) = if vertex == 0 then codes "end" else codes "end " ++ decimal vertex
fault_text Memory = []

-- the words on a valid certificate with so many flips, and on one with this first fault
abbrev pub accepted_text : Kind → ℕ → List ℕ
accepted_text kind n = codes "accepted " ++ kind_text kind ++ 32 ∷ decimal n

abbrev pub refused_text : ReplayFault → List ℕ
refused_text fault = codes "refused " ++ fault_text fault

-- the words on a certificate, by its first fault
abbrev pub judged : Certificate → Option ReplayFault → List ℕ
judged c None = accepted_text (kind_of c) (flip_count c)
judged c (Some fault) = refused_text fault

-- the words on what was read of a part
abbrev pub read_text : Result Certificate ℕ → List ℕ
read_text (Ok c) = judged c (first_fault replay_faults c)
read_text (Err line) = codes "refused form " ++ decimal line

abbrev pub part_text : List ℕ → List ℕ
part_text part = read_text (reading part) ++ 10 ∷ []

-- whether a part spells a valid certificate
abbrev pub is_good : Result Certificate ℕ → Bool
is_good (Ok c) = is_valid c
is_good (Err line) = false

abbrev pub is_accepted : List ℕ → Bool
is_accepted part = is_good (reading part)

abbrev pub accepted_count : List ℕ → ℕ
accepted_count bytes = count_by is_accepted (parts bytes)

-- the last line
abbrev pub checked_text : ℕ → ℕ → List ℕ
checked_text count accepted = codes "checked " ++ decimal count ++ codes " accepted " ++ decimal accepted ++ 10 ∷ []

unfoldable pub replay_text : List ℕ → List ℕ
replay_text bytes = flat_map part_text (parts bytes) ++ checked_text (length (parts bytes)) (accepted_count bytes)

-- whether a part is refused
abbrev pub refuses_part : List ℕ → Bool
refuses_part bytes = not (list_all is_accepted (parts bytes))
