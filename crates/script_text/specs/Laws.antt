-- What reading and spelling have to do with one another.
use Rattle.std.specs.Prelude.{◌≡◌, ◌↔◌, ℕ, List, Some}
use Rattle.script_text.specs.Grammar.{command_tokens}
use Rattle.script_text.specs.Reading.{command_of}
use Rattle.script_text.specs.Tokens.{tokens}
use Rattle.script_text.specs.declared.command.Command.{Command}

-- bytes spell a command exactly where its tokens are theirs
abbrev pub ReadsTheSpelled : Type 0
ReadsTheSpelled =
    (bytes : List ℕ) (c : Command) → (command_of bytes ≡ Some c) ↔ (tokens bytes ≡ Some (command_tokens c))

-- two commands with the same tokens are one
abbrev pub SpelledApart : Type 0
SpelledApart = (c d : Command) → command_tokens c ≡ command_tokens d → c ≡ d
