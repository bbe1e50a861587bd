-- A command is found from its tokens.
use Rattle.std.proofs.Common.{◌≡◌, ℕ, Bool, true, false, cond, List, [], ◌∷◌, ◌++◌, map, refl, sym, ap, ◌∙◌, Option, Some, None, option_and_then, IfSome, IsNone}
use Rattle.std.specs.Prelude.{find, flat_map}
use Rattle.std.specs.Option.{option_map}
use Rattle.std.specs.Cmp.Lexicographic.{bytes_decides}
use Rattle.plain_text.specs.Bytes.{is_text}
use Rattle.script_text.specs.declared.token.Token.{Token}
use Rattle.script_text.specs.declared.token.Token.TheVariants.{Word, Assign}
use Rattle.script_text.specs.declared.form.Part.{Part}
use Rattle.script_text.specs.declared.form.Part.TheVariants as part
use Rattle.script_text.specs.declared.form.Form.{Form}
use Rattle.script_text.specs.declared.form.Form.TheVariants.{Alone, One, Two, Three, Four}
use Rattle.script_text.specs.declared.command.Command.{Command}
use Rattle.script_text.specs.declared.command.Command.TheVariants as command
use Rattle.script_text.specs.declared.command.Maker.{Maker}
use Rattle.script_text.specs.declared.command.Maker.TheVariants as maker
use Rattle.script_text.specs.declared.command.Question.TheVariants as question
use Rattle.script_text.specs.declared.command.Edit.TheVariants as edit
use Rattle.script_text.specs.Fronts.{before, AreNormal, NoneIs}
use Rattle.script_text.specs.Grammar.{parts_of, part_tokens, form_tokens, target, target_tokens, maker_form, command_form, command_tokens}
use Rattle.script_text.specs.Forms.{makers_with, commands_with, form_word, maker_word, command_word, maker_by, command_from}
use Rattle.script_text.specs.Laws.{ReadsTheSpelled, SpelledApart}
use Rattle.script_text.specs.Reading.{form_of, command_in, command_of}
use Rattle.script_text.specs.Tokens.{tokens}
use Rattle.script_text.proofs.PartLaws.{behind}
use Rattle.script_text.proofs.PlaceLaws.{normal, normal_itself, form_again, form_only, spelled_once}

-- ---- from forms to what is found
-- the form with another word
abbrev with_word : List ℕ → Form → Form
with_word v (Alone a) = Alone a
with_word v (One w a) = One v a
with_word v (Two w a b) = Two v a b
with_word v (Three w a b c) = Three v a b c
with_word v (Four w a b c d) = Four v a b c d

word_same : (f : Form) → with_word (form_word f) f ≡ f
word_same (Alone a) = refl
word_same f = refl

-- what is found by its word has the tokens of the parts, where each has them but for its word
found_by : {X : Type 0} (spell : X → List Token) (word : X → List ℕ) (f : Form) (xs : List X)
    → map spell xs ≡ map (λ x. form_tokens (with_word (word x) f)) xs
    → (x : X) → find (λ x. is_text (form_word f) (word x)) xs ≡ Some x → spell x ≡ form_tokens f
found_by spell word f [] e x h = cc
found_by {X} spell word f (y ∷ ys) e x h = either (found_by spell word f ys there x) (is_text (form_word f) (word y)) refl h
  where
    here : spell y ≡ form_tokens (with_word (word y) f)
    here = cc

    there : map spell ys ≡ map (λ x. form_tokens (with_word (word x) f)) ys
    there = cc

    either : (find (λ x. is_text (form_word f) (word x)) ys ≡ Some x → spell x ≡ form_tokens f) → (v : Bool) → is_text (form_word f) (word y) ≡ v → cond v (Some y) (find (λ x. is_text (form_word f) (word x)) ys) ≡ Some x → spell x ≡ form_tokens f
    either later true t k =
        let g : y ≡ x = cc in
        ap spell (sym g) ∙ here ∙ ap (λ w. form_tokens (with_word w f)) (sym ((bytes_decides (form_word f) (word y)).0 t)) ∙ ap form_tokens (word_same f)
    either later false t k = later k

-- ---- the table: what stands in a row has the form that the row says, a line for each kind of form
makers_same : (f : Form) → map (λ m. form_tokens (maker_form m)) (makers_with f) ≡ map (λ m. form_tokens (with_word (maker_word m) f)) (makers_with f)
makers_same (Alone (part.List [])) = refl
makers_same (One w (part.Name x)) = refl
makers_same (Two w (part.Name x) (part.List [])) = refl
makers_same (Two w (part.Number k) (part.Number n)) = refl
makers_same (Three w (part.Number d) (part.Number n) (part.Number seed)) = refl
makers_same (Three w (part.Name x) (part.List a) (part.List b)) = refl
makers_same (Four w (part.Name x) (part.List a) (part.Name y) (part.List b)) = refl
makers_same f = refl

commands_same : (f : Form) → map command_tokens (commands_with f) ≡ map (λ c. form_tokens (with_word (command_word c) f)) (commands_with f)
commands_same (One w (part.List [])) = refl
commands_same (Two w (part.Name x) (part.Number k)) = refl
commands_same (Three w (part.Name x) (part.List a) (part.List b)) = refl
commands_same (Three w (part.Name x) (part.Number budget) (part.Number seed)) = refl
commands_same (Four w (part.Name x) (part.Name y) (part.Number budget) (part.Number seed)) = refl
commands_same f = refl

-- and each command stands in the row of its form
formed_again : (c : Command) → command_from (target c) (normal (command_form c)) ≡ Some c
formed_again (command.Show []) = refl
formed_again (command.Make x (maker.Facets [])) = refl
formed_again (command.Make x (maker.Relabel y [])) = refl
formed_again (command.Ask x question.Print) = refl
formed_again (command.Change x edit.Undo) = refl
formed_again c = refl

-- ---- the laws
formed_spelled : (t : Option (List ℕ)) (f : Form) (c : Command) → command_from t f ≡ Some c → target_tokens t ++ form_tokens f ≡ command_tokens c
formed_spelled None f c h = sym (found_by command_tokens command_word f (commands_with f) (commands_same f) c h)
formed_spelled (Some x) f c h = either (maker_by f) refl h
  where
    either : (r : Option Maker) → maker_by f ≡ r → option_map (command.Make x) r ≡ Some c → Word x ∷ Assign ∷ form_tokens f ≡ command_tokens c
    either None e k = cc
    either (Some m) e k =
        let g : command.Make x m ≡ c = cc in
        ap (λ ts. Word x ∷ Assign ∷ ts) (sym (found_by (λ n. form_tokens (maker_form n)) maker_word f (makers_with f) (makers_same f) m e)) ∙ ap command_tokens g

behind_target : (t : Option (List ℕ)) (us : List Token) (c : Command) → option_and_then (command_from t) (form_of us) ≡ Some c → target_tokens t ++ us ≡ command_tokens c
behind_target t us c h = either (form_of us) refl h
  where
    either : (r : Option Form) → form_of us ≡ r → option_and_then (command_from t) r ≡ Some c → target_tokens t ++ us ≡ command_tokens c
    either None e k = cc
    either (Some f) e k = ap (λ ts. target_tokens t ++ ts) (form_only us f e) ∙ formed_spelled t f c k

in_spelled : (ts : List Token) (c : Command) → command_in ts ≡ Some c → ts ≡ command_tokens c
in_spelled (Word x ∷ Assign ∷ ts) c h = behind_target (Some x) ts c h
in_spelled ts c h = behind_target None ts c h

by_parts : (c : Command) → command_in (command_tokens c) ≡ option_and_then (command_from (target c)) (form_of (form_tokens (command_form c)))
by_parts (command.Ask x question.Print) = refl
by_parts (command.Change x edit.Undo) = refl
by_parts c = refl

pub spelled_in : (c : Command) → command_in (command_tokens c) ≡ Some c
spelled_in c = by_parts c ∙ ap (option_and_then (command_from (target c))) (form_again (command_form c)) ∙ formed_again c

of_tokens : (r : Option (List Token)) (c : Command) → option_and_then command_in r ≡ Some c → r ≡ Some (command_tokens c)
of_tokens None c h = cc
of_tokens (Some ts) c h = ap Some (in_spelled ts c h)

pub reads_the_spelled_lem : ReadsTheSpelled
unfolding command_of
reads_the_spelled_lem bytes c = (of_tokens (tokens bytes) c, λ h. ap (option_and_then command_in) h ∙ spelled_in c)

pub spelled_apart_lem : SpelledApart
spelled_apart_lem c d e = let s : Some c ≡ Some d = sym (spelled_in c) ∙ ap command_in e ∙ spelled_in d in cc

-- where no command is spelled, none is found
pub none_found : (bytes : List ℕ) → ((c : Command) → tokens bytes ≡ Some (command_tokens c) → ⊥) → command_of bytes ≡ None
unfolding command_of
none_found bytes h = either (command_of bytes) refl
  where
    either : (r : Option Command) → command_of bytes ≡ r → r ≡ None
    either None e = refl
    either (Some c) e = absurd (h c ((reads_the_spelled_lem bytes c).0 e))

-- ---- what is read of bytes
-- no parts begin like an assignment
no_assignment : (ps : List Part) (x : List ℕ) (us : List Token) → flat_map part_tokens ps ≡ Word x ∷ Assign ∷ us → ⊥
no_assignment (part.Name w ∷ part.Name v ∷ ps) x us e = cc
no_assignment ps x us e = cc

-- the target and the parts are those that are spelled
target_is : (t s : Option (List ℕ)) (f : Form) (r : Option (List Token)) → before (target_tokens t) r ≡ Some (target_tokens s ++ form_tokens f)
    → (t ≡ None → (x : List ℕ) (us : List Token) → before (target_tokens t) r ≡ Some (Word x ∷ Assign ∷ us) → ⊥) → (t ≡ s) × (r ≡ Some (form_tokens f))
target_is None None f r e h = let b = behind [] (form_tokens f) r e in (refl, b.1 ∙ ap Some b.2)
target_is None (Some x) f r e h = absurd (h refl x (form_tokens f) e)
target_is (Some x) None f r e h = let b = behind (Word x ∷ Assign ∷ []) (form_tokens f) r e in absurd (no_assignment (parts_of f) x b.0 (sym b.2))
target_is (Some x) (Some y) f r e h =
    let b = behind (Word x ∷ Assign ∷ []) (Word y ∷ Assign ∷ form_tokens f) r e in
    let k : Word x ∷ Assign ∷ b.0 ≡ Word y ∷ Assign ∷ form_tokens f = b.2 in
    let n : x ≡ y = cc in
    let us : b.0 ≡ form_tokens f = cc in
    (ap Some n, b.1 ∙ ap Some us)

module _ (t : Option (List ℕ)) (q r : Option (List Token)) (is : q ≡ before (target_tokens t) r) where
  pub is_formed : (f : Form) (o : Option Command) → r ≡ Some (form_tokens f) → o ≡ command_from t f → IfSome o (λ c. q ≡ Some (command_tokens c))
  is_formed f None e h = tt
  is_formed f (Some c) e h = is ∙ ap (before (target_tokens t)) e ∙ ap Some (formed_spelled t f c (sym h))

  module _ (none : t ≡ None → (x : List ℕ) (us : List Token) → q ≡ Some (Word x ∷ Assign ∷ us) → ⊥) where
    spelled_target : (c : Command) → q ≡ Some (command_tokens c) → (t ≡ target c) × (r ≡ Some (form_tokens (command_form c)))
    spelled_target c k = target_is t (target c) (command_form c) r (sym is ∙ k) (λ e x us g. none e x us (is ∙ g))

    pub no_form : NoneIs form_tokens r → NoneIs command_tokens q
    no_form h c k = h (command_form c) (spelled_target c k).1

    pub not_formed : (f : Form) (o : Option Command) → r ≡ Some (form_tokens f) → AreNormal (parts_of f) → o ≡ command_from t f → IsNone o → NoneIs command_tokens q
    not_formed f (Some d) e p n h c k = cc
    not_formed f None e p n h c k =
        let g = spelled_target c k in
        let s : Some (form_tokens f) ≡ Some (form_tokens (command_form c)) = sym e ∙ g.1 in
        let u : form_tokens f ≡ form_tokens (command_form c) = cc in
        let v : f ≡ normal (command_form c) = sym (normal_itself f p) ∙ spelled_once f (command_form c) u in
        let w : None ≡ Some c = n ∙ ap (λ x. command_from x f) g.0 ∙ ap (command_from (target c)) v ∙ formed_again c in
        cc
