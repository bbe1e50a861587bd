-- The table of forms: which commands have a form with parts of these kinds, and which of them the word names.
use Rattle.std.specs.Prelude.{ℕ, List, [], ◌∷◌, ◌++◌, map, find, Option, Some, None}
use Rattle.std.specs.Option.{option_map}
use Rattle.plain_text.specs.Bytes.{is_text}
use Rattle.script_text.specs.Grammar.{maker_form, command_form}
use Rattle.script_text.specs.declared.form.Part.TheVariants as part
use Rattle.script_text.specs.declared.form.Form.{Form}
use Rattle.script_text.specs.declared.form.Form.TheVariants.{Alone, One, Two, Three, Four}
use Rattle.script_text.specs.declared.command.Command.{Command}
use Rattle.script_text.specs.declared.command.Command.TheVariants as command
use Rattle.script_text.specs.declared.command.Maker.{Maker}
use Rattle.script_text.specs.declared.command.Maker.TheVariants as maker
use Rattle.script_text.specs.declared.command.Question.TheVariants as question
use Rattle.script_text.specs.declared.command.Edit.TheVariants as edit

-- the lists that a list of numbers is as well: none, where it is empty
abbrev pub no_lists : List ℕ → List (List (List ℕ))
no_lists [] = [] ∷ []
no_lists (n ∷ ns) = []

-- the makers with a form of these kinds
abbrev pub makers_with : Form → List Maker
makers_with (Alone (part.Lists ls)) = maker.Facets ls ∷ []
makers_with (Alone (part.List a)) = map maker.Facets (no_lists a)
makers_with (One w (part.Name x)) = maker.Copy x ∷ maker.Boundary x ∷ maker.Cone x ∷ maker.Suspension x ∷ []
makers_with (One w (part.Number d)) = maker.BdSimplex d ∷ maker.BdCross d ∷ []
makers_with (Two w (part.Number k) (part.Number n)) = maker.Cyclic k n ∷ []
makers_with (Two w (part.Name x) (part.Name y)) = maker.Join x y ∷ []
makers_with (Two w (part.Name x) (part.Number k)) = maker.Skeleton x k ∷ []
makers_with (Two w (part.Name x) (part.List a)) =
    maker.Link x a ∷ maker.Star x a ∷ maker.Deletion x a ∷ map (maker.Relabel x) (no_lists a)
makers_with (Two w (part.Name x) (part.Lists pairs)) = maker.Relabel x pairs ∷ []
makers_with (Three w (part.Number d) (part.Number n) (part.Number seed)) = maker.Stacked d n seed ∷ []
makers_with (Three w (part.Name x) (part.List a) (part.List b)) = maker.Handle x a b ∷ []
makers_with (Four w (part.Name x) (part.List a) (part.Name y) (part.List b)) = maker.Sum x a y b ∷ []
makers_with f = []

-- the other commands with a form of these kinds
abbrev pub commands_with : Form → List Command
commands_with (One w (part.Lists ls)) = command.Show ls ∷ []
commands_with (One w (part.List a)) = map command.Show (no_lists a)
commands_with (One w (part.Name x)) =
    map (command.Ask x) (question.Print ∷ question.Fvec ∷ question.Hvec ∷ question.Gvec ∷ question.Euler
    ∷ question.Options ∷ question.Betti ∷ question.Components ∷ question.Closed ∷ question.Strong ∷ [])
    ++ map (command.Change x) (edit.Undo ∷ edit.Redo ∷ [])
commands_with (Two w (part.Name x) (part.Number k)) =
    map (command.Ask x) (question.Faces k ∷ question.OptionsOf k ∷ [])
commands_with (Two w (part.Name x) (part.List a)) =
    command.Ask x (question.Degree a) ∷ map (command.Change x) (edit.Add a ∷ edit.Drop a ∷ edit.Collapse a ∷ [])
commands_with (Three w (part.Name x) (part.List a) (part.List b)) = command.Change x (edit.Flip a b) ∷ []
commands_with (Three w (part.Name x) (part.Number budget) (part.Number seed)) =
    command.Change x (edit.Reduce budget seed) ∷ command.Sphere x budget seed ∷ command.Manifold x budget seed ∷ []
commands_with (Four w (part.Name x) (part.Name y) (part.Number budget) (part.Number seed)) =
    command.Equivalent x y budget seed ∷ []
commands_with f = []

-- the word of a form, and none where it has none
abbrev pub form_word : Form → List ℕ
form_word (Alone a) = []
form_word (One w a) = w
form_word (Two w a b) = w
form_word (Three w a b c) = w
form_word (Four w a b c d) = w

abbrev pub maker_word : Maker → List ℕ
maker_word m = form_word (maker_form m)

abbrev pub command_word : Command → List ℕ
command_word c = form_word (command_form c)

-- the maker with this form, if there is one
abbrev pub maker_by : Form → Option Maker
maker_by f = find (λ m. is_text (form_word f) (maker_word m)) (makers_with f)

-- the command with this form that is no assignment, if there is one
abbrev pub command_by : Form → Option Command
command_by f = find (λ c. is_text (form_word f) (command_word c)) (commands_with f)

-- the command with this form, behind a target or without
abbrev pub command_from : Option (List ℕ) → Form → Option Command
command_from None f = command_by f
command_from (Some x) f = option_map (command.Make x) (maker_by f)
