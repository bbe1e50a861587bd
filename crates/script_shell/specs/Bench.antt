-- The words of `bench`, and what it writes.
use Rattle.std.specs.Prelude.{ℕ, ◌+◌, ◌*◌, ◌^◌, Bool, ◌&&◌, List, [], ◌∷◌, ◌++◌, nat_le, nat_lt, nat_eq, codes, decimal}
use Rattle.std.specs.List.{filter, flat_map, starts_with}
use Rattle.simplex.specs.Simplex.{len_limit}
use Rattle.facet_set.specs.Numbers.{weight_limit}
use Rattle.replay_report.specs.Report.{lines_of, first_line, replay_text}
use Rattle.script_shell.specs.Transcript.{transcript}

-- the greatest number of flips
abbrev pub bench_limit : ℕ
bench_limit = 100000

-- the most facets of a complex in the run: those of the stacked sphere, and d more for each flip
abbrev pub most_facets : ℕ → ℕ → ℕ
most_facets d n = d + 2 + 2 * d * n

-- whether the run keeps within the limits: of labels in a facet, of flips, and of the weight
abbrev pub is_within : ℕ → ℕ → Bool
is_within d n = nat_le 1 d && nat_lt d len_limit && nat_le n bench_limit && nat_le (most_facets d n * 2 ^ (d + 1)) weight_limit

-- numbers with a space between them
abbrev pub two_numbers : ℕ → ℕ → List ℕ
two_numbers n seed = decimal n ++ 32 ∷ decimal seed

abbrev pub three_numbers : ℕ → ℕ → ℕ → List ℕ
three_numbers d n seed = decimal d ++ 32 ∷ two_numbers n seed

-- the script that is run
abbrev pub bench_script : ℕ → ℕ → ℕ → List ℕ
bench_script d n seed = codes "X := stacked " ++ three_numbers d n seed ++ codes "; fvec X; sphere X " ++ two_numbers n seed ++ codes ";"

-- the lines that begin with [
abbrev pub is_reply_line : List ℕ → Bool
is_reply_line l = starts_with nat_eq l (codes "[")

abbrev pub reply_lines : List ℕ → List ℕ
reply_lines text = flat_map (λ l. l) (filter is_reply_line (lines_of text))

-- the first line
abbrev pub bench_line : ℕ → ℕ → ℕ → List ℕ
bench_line d n seed = codes "bench " ++ three_numbers d n seed ++ 10 ∷ []

-- what is written where this is the script's transcript
abbrev pub bench_summary : List ℕ → List ℕ
bench_summary answers = reply_lines answers ++ first_line (replay_text answers)

unfoldable pub bench_text : ℕ → ℕ → ℕ → List ℕ
bench_text d n seed = bench_line d n seed ++ bench_summary (transcript (bench_script d n seed))
