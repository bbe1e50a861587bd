-- The grammar: the form of each command, and its tokens.
use Rattle.std.specs.Prelude.{ℕ, Bool, true, false, List, [], ◌∷◌, ◌++◌, map, flat_map, codes, Option, Some, None}
use Rattle.script_text.specs.declared.token.Token.{Token}
use Rattle.script_text.specs.declared.token.Token.TheVariants.{Word, Assign, Open, Close, Comma}
use Rattle.script_text.specs.Fronts.{number, word}
use Rattle.script_text.specs.declared.form.Part.{Part}
use Rattle.script_text.specs.declared.form.Part.TheVariants as part
use Rattle.script_text.specs.declared.form.Form.{Form}
use Rattle.script_text.specs.declared.form.Form.TheVariants.{Alone, One, Two, Three, Four}
use Rattle.script_text.specs.declared.command.Command.{Command}
use Rattle.script_text.specs.declared.command.Command.TheVariants as command
use Rattle.script_text.specs.declared.command.Maker.{Maker}
use Rattle.script_text.specs.declared.command.Maker.TheVariants as maker
use Rattle.script_text.specs.declared.command.Question.{Question}
use Rattle.script_text.specs.declared.command.Question.TheVariants as question
use Rattle.script_text.specs.declared.command.Edit.{Edit}
use Rattle.script_text.specs.declared.command.Edit.TheVariants as edit

-- ---- the tokens of parts
-- the tokens of each, with a comma between each two
abbrev pub with_commas : List (List Token) → List Token
with_commas [] = []
with_commas (x ∷ []) = x
with_commas (x ∷ y ∷ xs) = x ++ Comma ∷ with_commas (y ∷ xs)

-- the same, and the bracket that closes it
abbrev pub closed : List (List Token) → List Token
closed xs = with_commas xs ++ Close ∷ []

-- the same between its two brackets
abbrev pub bracketed : List (List Token) → List Token
bracketed xs = Open ∷ closed xs

-- a list of numbers, and a list of such lists
abbrev pub list : List ℕ → List Token
list ns = bracketed (map number ns)

abbrev pub lists : List (List ℕ) → List Token
lists ls = bracketed (map list ls)

abbrev pub part_tokens : Part → List Token
part_tokens (part.Name x) = word x
part_tokens (part.Number n) = number n
part_tokens (part.List ns) = list ns
part_tokens (part.Lists ls) = lists ls

-- the parts of a form in order, with the word as a name
abbrev pub parts_of : Form → List Part
parts_of (Alone a) = a ∷ []
parts_of (One w a) = part.Name w ∷ a ∷ []
parts_of (Two w a b) = part.Name w ∷ a ∷ b ∷ []
parts_of (Three w a b c) = part.Name w ∷ a ∷ b ∷ c ∷ []
parts_of (Four w a b c d) = part.Name w ∷ a ∷ b ∷ c ∷ d ∷ []

abbrev pub form_tokens : Form → List Token
form_tokens f = flat_map part_tokens (parts_of f)

-- whether nothing can stand behind the form
abbrev pub is_full : Form → Bool
is_full (Alone (part.Name w)) = false
is_full (Alone a) = true
is_full (Four w a b c d) = true
is_full f = false

-- the tokens of the name before an assignment, and none where there is no such name
abbrev pub target_tokens : Option (List ℕ) → List Token
target_tokens None = []
target_tokens (Some x) = Word x ∷ Assign ∷ []

-- ---- the forms of commands
abbrev pub maker_form : Maker → Form
maker_form (maker.Facets ls) = Alone (part.Lists ls)
maker_form (maker.Copy x) = One (codes "copy") (part.Name x)
maker_form (maker.Link x face) = Two (codes "link") (part.Name x) (part.List face)
maker_form (maker.Star x face) = Two (codes "star") (part.Name x) (part.List face)
maker_form (maker.Deletion x face) = Two (codes "deletion") (part.Name x) (part.List face)
maker_form (maker.Boundary x) = One (codes "boundary") (part.Name x)
maker_form (maker.Skeleton x k) = Two (codes "skeleton") (part.Name x) (part.Number k)
maker_form (maker.BdSimplex d) = One (codes "bdsimplex") (part.Number d)
maker_form (maker.BdCross d) = One (codes "bdcross") (part.Number d)
maker_form (maker.Cyclic k n) = Two (codes "cyclic") (part.Number k) (part.Number n)
maker_form (maker.Stacked d n seed) = Three (codes "stacked") (part.Number d) (part.Number n) (part.Number seed)
maker_form (maker.Join x y) = Two (codes "join") (part.Name x) (part.Name y)
maker_form (maker.Cone x) = One (codes "cone") (part.Name x)
maker_form (maker.Suspension x) = One (codes "suspension") (part.Name x)
maker_form (maker.Sum x a y b) = Four (codes "sum") (part.Name x) (part.List a) (part.Name y) (part.List b)
maker_form (maker.Handle x a b) = Three (codes "handle") (part.Name x) (part.List a) (part.List b)
maker_form (maker.Relabel x pairs) = Two (codes "relabel") (part.Name x) (part.Lists pairs)

abbrev pub question_form : List ℕ → Question → Form
question_form x question.Print = One (codes "print") (part.Name x)
question_form x question.Fvec = One (codes "fvec") (part.Name x)
question_form x question.Hvec = One (codes "hvec") (part.Name x)
question_form x question.Gvec = One (codes "gvec") (part.Name x)
question_form x question.Euler = One (codes "euler") (part.Name x)
question_form x (question.Faces k) = Two (codes "faces") (part.Name x) (part.Number k)
question_form x (question.Degree face) = Two (codes "degree") (part.Name x) (part.List face)
question_form x question.Options = One (codes "options") (part.Name x)
question_form x (question.OptionsOf class) = Two (codes "options") (part.Name x) (part.Number class)
question_form x question.Betti = One (codes "betti") (part.Name x)
question_form x question.Components = One (codes "components") (part.Name x)
question_form x question.Closed = One (codes "closed") (part.Name x)
question_form x question.Strong = One (codes "strong") (part.Name x)

abbrev pub edit_form : List ℕ → Edit → Form
edit_form x (edit.Flip a b) = Three (codes "flip") (part.Name x) (part.List a) (part.List b)
edit_form x (edit.Add face) = Two (codes "add") (part.Name x) (part.List face)
edit_form x (edit.Drop face) = Two (codes "drop") (part.Name x) (part.List face)
edit_form x (edit.Collapse face) = Two (codes "collapse") (part.Name x) (part.List face)
edit_form x (edit.Reduce budget seed) = Three (codes "reduce") (part.Name x) (part.Number budget) (part.Number seed)
edit_form x edit.Undo = One (codes "undo") (part.Name x)
edit_form x edit.Redo = One (codes "redo") (part.Name x)

-- of an assignment the form behind its sign
abbrev pub command_form : Command → Form
command_form (command.Show ls) = One (codes "show") (part.Lists ls)
command_form (command.Make x m) = maker_form m
command_form (command.Ask x q) = question_form x q
command_form (command.Change x e) = edit_form x e
command_form (command.Sphere x budget seed) =
    Three (codes "sphere") (part.Name x) (part.Number budget) (part.Number seed)
command_form (command.Equivalent x y budget seed) =
    Four (codes "equivalent") (part.Name x) (part.Name y) (part.Number budget) (part.Number seed)
command_form (command.Manifold x budget seed) =
    Three (codes "manifold") (part.Name x) (part.Number budget) (part.Number seed)

-- the name before the sign of an assignment, if the command is one
abbrev pub target : Command → Option (List ℕ)
target (command.Make x m) = Some x
target c = None

-- the tokens of a command
abbrev pub command_tokens : Command → List Token
command_tokens c = target_tokens (target c) ++ form_tokens (command_form c)
