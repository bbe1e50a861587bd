-- What stands in front of tokens.
use Rattle.std.specs.Prelude.{◌≡◌, ℕ, Bool, true, false, List, [], ◌∷◌, ◌++◌, map, Option, Some, None}
use Rattle.script_text.specs.declared.token.Token.{Token}
use Rattle.script_text.specs.declared.token.Token.TheVariants.{Word, Number, Close, Comma}
use Rattle.script_text.specs.declared.form.Part.{Part}
use Rattle.script_text.specs.declared.form.Part.TheVariants as part

abbrev pub word : List ℕ → List Token
word w = Word w ∷ []

abbrev pub number : ℕ → List Token
number n = Number n ∷ []

-- the tokens, and behind them those of the rest, if it has any
abbrev pub before : List Token → Option (List Token) → Option (List Token)
before ts None = None
before ts (Some us) = Some (ts ++ us)

-- none of the values stands, as spelled, in front of the tokens
abbrev pub NoneBegins : {X : Type 0} → (X → List Token) → Option (List Token) → Type 0
NoneBegins {X} spell ts = (x : X) (us : List Token) → ts ≡ Some (spell x ++ us) → ⊥

-- none of the values is what the tokens spell
abbrev pub NoneIs : {X : Type 0} → (X → List Token) → Option (List Token) → Type 0
NoneIs {X} spell ts = (x : X) → ts ≡ Some (spell x) → ⊥

-- what stands behind an item of a list: behind the last the bracket, and else a comma
abbrev pub divider : Bool → Token
divider true = Close
divider false = Comma

-- the part with no lists as the list of no numbers: the tokens of both are one
abbrev pub normal_part : Part → Part
normal_part (part.Lists []) = part.List []
normal_part p = p

abbrev pub IsNormal : Part → Type 0
IsNormal p = normal_part p ≡ p

abbrev pub AreNormal : List Part → Type 0
AreNormal ps = map normal_part ps ≡ ps
