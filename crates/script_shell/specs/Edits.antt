-- The edits but undo and redo as one: what they ask of the present complex, and what they make of it.
use Rattle.std.specs.Prelude.{Bool, true, false, []}
use Rattle.reply_texts.specs.Replies.{ok_reply}
use Rattle.script_text.specs.declared.command.Edit.{Edit}
use Rattle.script_text.specs.declared.command.Edit.TheVariants as edit
use Rattle.shell_names.specs.State.{Complex}
use Rattle.script_shell.specs.Commands.{Editing, adding, collapsing, dropping, flipping, reducing}

-- whether the edit makes the complex anew, as all do but undo and redo
abbrev pub makes_anew : Edit → Bool
makes_anew edit.Undo = false
makes_anew edit.Redo = false
makes_anew (edit.Flip a b) = true
makes_anew (edit.Add face) = true
makes_anew (edit.Drop face) = true
makes_anew (edit.Collapse face) = true
makes_anew (edit.Reduce budget seed) = true

-- what it asks and makes, and nothing where it makes no complex anew
abbrev pub editing : Complex → Edit → Editing
editing c (edit.Flip a b) = flipping c a b
editing c (edit.Add face) = adding c face
editing c (edit.Drop face) = dropping c face
editing c (edit.Collapse face) = collapsing c face
editing c (edit.Reduce budget seed) = reducing c budget seed
editing c edit.Undo = record { lists = []; own = []; complex = c; reply = ok_reply c }
editing c edit.Redo = record { lists = []; own = []; complex = c; reply = ok_reply c }
