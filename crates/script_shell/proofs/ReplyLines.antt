-- The lines that begin with [, one line more.
use Rattle.std.proofs.Common.{◌≡◌, ℕ, Bool, true, false, cond, List, [], ◌∷◌, ◌++◌, refl, sym, ap, ◌∙◌, append_assoc}
use Rattle.std.specs.List.{filter, flat_map}
use Rattle.replay_report.specs.Report.{lines_of}
use Rattle.script_shell.specs.Bench.{is_reply_line, reply_lines}

-- the first line, where it is one of them, and those of the rest
pub line_more : (text l rest : List ℕ) → lines_of text ≡ l ∷ lines_of rest → reply_lines text ≡ cond (is_reply_line l) l [] ++ reply_lines rest
line_more text l rest e =
    ap (λ ls. flat_map (λ (x : List ℕ). x) (filter is_reply_line ls)) e ∙ by (is_reply_line l)
  where
    by : (b : Bool) → flat_map (λ (x : List ℕ). x) (cond b (l ∷ filter is_reply_line (lines_of rest)) (filter is_reply_line (lines_of rest))) ≡ cond b l [] ++ reply_lines rest
    by true = refl
    by false = refl

pub lines_more : (old new text l rest all : List ℕ) → lines_of text ≡ l ∷ lines_of rest → old ++ reply_lines text ≡ all → new ≡ old ++ cond (is_reply_line l) l [] → new ++ reply_lines rest ≡ all
lines_more old new text l rest all e was h =
    ap (λ t. t ++ reply_lines rest) h ∙ append_assoc old (cond (is_reply_line l) l []) (reply_lines rest) ∙ ap (λ t. old ++ t) (sym (line_more text l rest e)) ∙ was
