-- The parts of a command, from the front of its tokens.
use Rattle.std.proofs.Common.{◌≡◌, ℕ, ◌+◌, ◌<◌, Bool, true, false, List, [], ◌∷◌, ◌++◌, length, map, refl, sym, ap, ◌∙◌, arith, Option, Some, None, Result, Ok, Err, append_assoc, append-nil, IfOk, IsNone}
use Rattle.std.specs.Prelude.{flat_map}
use Rattle.std.proofs.lemmas.List.{map-append}
use Rattle.std.proofs.lemmas.List.Concat.{flat_map-append}
use Rattle.script_text.specs.declared.token.Token.{Token}
use Rattle.script_text.specs.declared.token.Token.TheVariants.{Word, Number, Open, Close, Comma}
use Rattle.script_text.specs.declared.form.Part.{Part}
use Rattle.script_text.specs.declared.form.Part.TheVariants as part
use Rattle.script_text.specs.declared.form.Form.{Form}
use Rattle.script_text.specs.declared.form.Form.TheVariants.{Alone, One, Two, Three, Four}
use Rattle.script_text.specs.Grammar.{with_commas, closed, bracketed, form_tokens, is_full, list, parts_of, lists, part_tokens}
use Rattle.script_text.specs.Fronts.{before, divider, number, normal_part, AreNormal, IsNormal, NoneBegins, NoneIs}

pub before_before : (ts us : List Token) (r : Option (List Token)) → before ts (before us r) ≡ before (ts ++ us) r
before_before ts us None = refl
before_before ts us (Some vs) = ap Some (sym (append_assoc ts us vs))

-- what stands behind the tokens
pub behind : (ts vs : List Token) (r : Option (List Token)) → before ts r ≡ Some vs → (us : List Token) × (r ≡ Some us) × (ts ++ us ≡ vs)
behind ts vs None e = cc
behind ts vs (Some us) e = (us, refl, cc)

pub cut : (ts us vs : List Token) → ts ++ us ≡ ts ++ vs → us ≡ vs
cut [] us vs e = e
cut (t ∷ ts) us vs e = cut ts us vs cc

-- the rest behind tokens that stand in front
pub rest_is : (ts us : List Token) (r : Option (List Token)) → before ts r ≡ Some (ts ++ us) → r ≡ Some us
rest_is ts us r e = let b = behind ts (ts ++ us) r e in b.1 ∙ ap Some (cut ts b.0 us b.2)

module _ {X : Type 0} (spell : X → List Token) where
  -- each with a comma behind it
  abbrev pub followed : List X → List Token
  followed [] = []
  followed (x ∷ xs) = spell x ++ Comma ∷ followed xs

  pub followed-push : (xs : List X) (x : X) → followed (xs ++ x ∷ []) ≡ followed xs ++ (spell x ++ Comma ∷ [])
  followed-push [] x = refl
  followed-push (y ∷ xs) x = ap (λ ts. spell y ++ Comma ∷ ts) (followed-push xs x) ∙ sym (append_assoc (spell y) (Comma ∷ followed xs) (spell x ++ Comma ∷ []))

  -- what stands behind the first, up to the bracket
  abbrev more : List X → List Token → List Token
  more [] us = Close ∷ us
  more (x ∷ xs) us = Comma ∷ spell x ++ more xs us

  closed_is : (x : X) (xs : List X) (us : List Token) → closed (map spell (x ∷ xs)) ++ us ≡ spell x ++ more xs us
  closed_is x [] us = append_assoc (spell x) (Close ∷ []) us
  closed_is x (y ∷ xs) us =
      ap (λ ts. ts ++ us) (append_assoc (spell x) (Comma ∷ with_commas (map spell (y ∷ xs))) (Close ∷ []))
      ∙ append_assoc (spell x) (Comma ∷ closed (map spell (y ∷ xs))) us
      ∙ ap (λ ts. spell x ++ Comma ∷ ts) (closed_is y xs us)

  followed_closed : (xs : List X) (x : X) → followed xs ++ (spell x ++ Close ∷ []) ≡ closed (map spell (xs ++ x ∷ []))
  followed_closed [] x = refl
  followed_closed (y ∷ []) x = append_assoc (spell y) (Comma ∷ []) (spell x ++ Close ∷ []) ∙ sym (append_assoc (spell y) (Comma ∷ spell x) (Close ∷ []))
  followed_closed (y ∷ z ∷ xs) x =
      append_assoc (spell y) (Comma ∷ followed (z ∷ xs)) (spell x ++ Close ∷ [])
      ∙ ap (λ ts. spell y ++ Comma ∷ ts) (followed_closed (z ∷ xs) x)
      ∙ sym (append_assoc (spell y) (Comma ∷ with_commas (map spell (z ∷ xs ++ x ∷ []))) (Close ∷ []))

  -- one more, and a comma
  pub next_item : (xs : List X) (x : X) (t r s u : Option (List Token)) → t ≡ before (followed xs) r → r ≡ before (spell x) s → s ≡ before (Comma ∷ []) u → t ≡ before (followed (xs ++ x ∷ [])) u
  next_item xs x t r s u a b c =
      a ∙ ap (before (followed xs)) (b ∙ ap (before (spell x)) c ∙ before_before (spell x) (Comma ∷ []) u)
      ∙ before_before (followed xs) (spell x ++ Comma ∷ []) u ∙ ap (λ ts. before ts u) (sym (followed-push xs x))

  -- one more, and the bracket
  pub last_item : (xs : List X) (x : X) (t r s u : Option (List Token)) → t ≡ before (followed xs) r → r ≡ before (spell x) s → s ≡ before (Close ∷ []) u → t ≡ before (closed (map spell (xs ++ x ∷ []))) u
  last_item xs x t r s u a b c =
      a ∙ ap (before (followed xs)) (b ∙ ap (before (spell x)) c ∙ before_before (spell x) (Close ∷ []) u)
      ∙ before_before (followed xs) (spell x ++ Close ∷ []) u ∙ ap (λ ts. before ts u) (followed_closed xs x)

  -- a list in brackets
  pub full_list : (xs : List X) (t r u : Option (List Token)) → t ≡ before (Open ∷ []) r → r ≡ before (closed (map spell xs)) u → t ≡ before (bracketed (map spell xs)) u
  full_list xs t r u a b = a ∙ ap (before (Open ∷ [])) b ∙ before_before (Open ∷ []) (closed (map spell xs)) u

  -- no list in brackets
  pub no_open : (t : Option (List Token)) → ((us : List Token) → t ≡ Some (Open ∷ us) → ⊥) → NoneBegins (λ (xs : List X). bracketed (map spell xs)) t
  no_open t h xs us e = h (closed (map spell xs) ++ us) e

  pub no_opened : (t r : Option (List Token)) → t ≡ before (Open ∷ []) r → NoneBegins (λ (xs : List X). closed (map spell xs)) r → NoneBegins (λ (xs : List X). bracketed (map spell xs)) t
  no_opened t r a h xs us e = h xs us (rest_is (Open ∷ []) (closed (map spell xs) ++ us) r (sym a ∙ e))

  pub no_closed : (t : Option (List Token)) → ((us : List Token) → t ≡ Some (Close ∷ us) → ⊥) → ((x : X) → NoneBegins (λ (xs : List X). closed (map spell (x ∷ xs))) t)
      → NoneBegins (λ (xs : List X). closed (map spell xs)) t
  no_closed t h k [] us e = h us e
  no_closed t h k (x ∷ xs) us e = k x xs us e

  -- a value that stands in front is known by its tokens
  abbrev pub Apart : Type 0
  Apart = (x y : X) (us vs : List Token) → spell x ++ us ≡ spell y ++ vs → (x ≡ y) × (us ≡ vs)

  -- none begins with a closing bracket
  abbrev pub Opens : Type 0
  Opens = (x : X) (us vs : List Token) → spell x ++ us ≡ Close ∷ vs → ⊥

  module _ (distinct : Apart) where
    pub record Rest (ts us : List Token) : Type 0 where
      pub item : X
      pub items : List X
      pub is : ts ≡ spell item ++ more items us

    left : (xs : List X) (y : X) (ys : List X) (us ts : List Token) → followed xs ++ ts ≡ spell y ++ more ys us → Rest ts us
    left [] y ys us ts e = record { item = y; items = ys; is = e }
    left (x ∷ xs) y ys us ts e = later ys (λ z zs k. left xs z zs us ts k) (distinct x y (Comma ∷ followed xs ++ ts) (more ys us) (sym (append_assoc (spell x) (Comma ∷ followed xs) ts) ∙ e)).1
      where
        later : (ys : List X) → ((z : X) (zs : List X) → followed xs ++ ts ≡ spell z ++ more zs us → Rest ts us) → Comma ∷ followed xs ++ ts ≡ more ys us → Rest ts us
        later [] f k = cc
        later (z ∷ zs) f k = f z zs cc

    rest_of : (xs : List X) (t r : Option (List Token)) (y : X) (ys : List X) (us : List Token) → t ≡ before (followed xs) r → t ≡ Some (closed (map spell (y ∷ ys)) ++ us) → (ts : List Token) × (r ≡ Some ts) × Rest ts us
    rest_of xs t r y ys us a e =
        let b = behind (followed xs) (closed (map spell (y ∷ ys)) ++ us) r (sym a ∙ e) in
        (b.0, b.1, left xs y ys us b.0 (b.2 ∙ closed_is y ys us))

    -- no item stands there
    pub no_item : (xs : List X) (t r : Option (List Token)) → t ≡ before (followed xs) r → NoneBegins spell r → (y : X) → NoneBegins (λ (ys : List X). closed (map spell (y ∷ ys))) t
    no_item xs t r a h y ys us e =
        let b = rest_of xs t r y ys us a e in
        h b.2.item (more b.2.items us) (b.1 ∙ ap Some b.2.is)

    -- neither a comma nor a bracket stands behind the item
    pub no_divider : (xs : List X) (x : X) (t r s : Option (List Token)) → t ≡ before (followed xs) r → r ≡ before (spell x) s
        → ((last : Bool) (us : List Token) → s ≡ Some (divider last ∷ us) → ⊥) → (y : X) → NoneBegins (λ (ys : List X). closed (map spell (y ∷ ys))) t
    no_divider xs x t r s a b h y ys us e =
        let f = rest_of xs t r y ys us a e in
        let g = behind (spell x) f.0 s (sym b ∙ f.1) in
        sign f.2.items (g.1 ∙ ap Some (distinct x f.2.item g.0 (more f.2.items us) (g.2 ∙ f.2.is)).1)
      where
        sign : (zs : List X) → s ≡ Some (more zs us) → ⊥
        sign [] e = h true us e
        sign (z ∷ zs) e = h false (spell z ++ more zs us) e

    more_apart : (xs ys : List X) (us vs : List Token) → more xs us ≡ more ys vs → (xs ≡ ys) × (us ≡ vs)
    more_apart [] [] us vs e = (refl, cc)
    more_apart [] (y ∷ ys) us vs e = cc
    more_apart (x ∷ xs) [] us vs e = cc
    more_apart (x ∷ xs) (y ∷ ys) us vs e =
        let k : spell x ++ more xs us ≡ spell y ++ more ys vs = cc in
        let p = distinct x y (more xs us) (more ys vs) k in
        let q = more_apart xs ys us vs p.1 in
        (cc (p.0, q.0), q.1)

    pub bracketed_apart : Opens → (xs ys : List X) (us vs : List Token) → bracketed (map spell xs) ++ us ≡ bracketed (map spell ys) ++ vs → (xs ≡ ys) × (us ≡ vs)
    bracketed_apart o [] [] us vs e = (refl, cc)
    bracketed_apart o [] (y ∷ ys) us vs e = let k : Close ∷ us ≡ closed (map spell (y ∷ ys)) ++ vs = cc in absurd (o y (more ys vs) us (sym (closed_is y ys vs) ∙ sym k))
    bracketed_apart o (x ∷ xs) [] us vs e = let k : closed (map spell (x ∷ xs)) ++ us ≡ Close ∷ vs = cc in absurd (o x (more xs us) vs (sym (closed_is x xs us) ∙ k))
    bracketed_apart o (x ∷ xs) (y ∷ ys) us vs e =
        let k : closed (map spell (x ∷ xs)) ++ us ≡ closed (map spell (y ∷ ys)) ++ vs = cc in
        let p = distinct x y (more xs us) (more ys vs) (sym (closed_is x xs us) ∙ k ∙ closed_is y ys vs) in
        let q = more_apart xs ys us vs p.1 in
        (cc (p.0, q.0), q.1)

pub number_apart : Apart number
number_apart m n us vs e = (cc, cc)

pub number_opens : Opens number
number_opens n us vs e = cc

pub list_apart : Apart list
list_apart = bracketed_apart number number_apart number_opens

pub list_opens : Opens list
list_opens ns us vs e = cc

pub lists_apart : Apart lists
lists_apart = bracketed_apart list list_apart list_opens

-- ---- a part behind an opening bracket
no_list_opens : (ns : List ℕ) (us vs : List Token) → closed (map number ns) ++ us ≡ Open ∷ vs → ⊥
no_list_opens [] us vs e = cc
no_list_opens (n ∷ []) us vs e = cc
no_list_opens (n ∷ m ∷ ns) us vs e = cc

lists_open : (l : List ℕ) (ls : List (List ℕ)) (us : List Token) → (vs : List Token) × (closed (map list (l ∷ ls)) ++ us ≡ Open ∷ vs)
lists_open l ls us = (closed (map number l) ++ more list ls us, closed_is list l ls us)

-- where a bracket opens next, it holds no numbers
pub no_nested : (t r : Option (List Token)) → t ≡ before (Open ∷ []) r → ((l : List ℕ) → NoneBegins (λ (ls : List (List ℕ)). closed (map list (l ∷ ls))) t) → NoneBegins part_tokens (before (Open ∷ []) t)
no_nested t r a h p us e = either p e
  where
    opens : (ts : List Token) → t ≡ Some ts → (vs : List Token) × (ts ≡ Open ∷ vs)
    opens ts k = let b = behind (Open ∷ []) ts r (sym a ∙ k) in (b.0, sym b.2)

    either : (p : Part) → before (Open ∷ []) t ≡ Some (part_tokens p ++ us) → ⊥
    either (part.Name x) k = let b = behind (Open ∷ []) (Word x ∷ us) t k in let f = b.2 in cc
    either (part.Number n) k = let b = behind (Open ∷ []) (Number n ∷ us) t k in let f = b.2 in cc
    either (part.List ns) k =
        let o = opens (closed (map number ns) ++ us) (rest_is (Open ∷ []) (closed (map number ns) ++ us) t k) in
        no_list_opens ns us o.0 o.1
    either (part.Lists []) k = let o = opens (Close ∷ us) (rest_is (Open ∷ []) (Close ∷ us) t k) in let f = o.1 in cc
    either (part.Lists (l ∷ ls)) k = h l ls us (rest_is (Open ∷ []) (closed (map list (l ∷ ls)) ++ us) t k)

-- where none opens, it holds no lists
pub no_flat : (t : Option (List Token)) → ((us : List Token) → t ≡ Some (Open ∷ us) → ⊥) → NoneBegins (λ (ns : List ℕ). closed (map number ns)) t → NoneBegins part_tokens (before (Open ∷ []) t)
no_flat t o h (part.Name x) us e = let b = behind (Open ∷ []) (Word x ∷ us) t e in let f = b.2 in cc
no_flat t o h (part.Number n) us e = let b = behind (Open ∷ []) (Number n ∷ us) t e in let f = b.2 in cc
no_flat t o h (part.List ns) us e = h ns us (rest_is (Open ∷ []) (closed (map number ns) ++ us) t e)
no_flat t o h (part.Lists []) us e = h [] us (rest_is (Open ∷ []) (Close ∷ us) t e)
no_flat t o h (part.Lists (l ∷ ls)) us e =
    let v = lists_open l ls us in
    o v.0 (rest_is (Open ∷ []) (closed (map list (l ∷ ls)) ++ us) t e ∙ ap Some v.1)

-- ---- parts
-- a part begins with a token
pub no_token : (t : Option (List Token)) → NoneBegins (λ (u : Token). u ∷ []) t → NoneBegins part_tokens t
no_token t h (part.Name x) us e = h (Word x) us e
no_token t h (part.Number n) us e = h (Number n) us e
no_token t h (part.List ns) us e = h Open (closed (map number ns) ++ us) e
no_token t h (part.Lists ls) us e = h Open (closed (map list ls) ++ us) e

-- with none of the signs that open no bracket
pub no_part : (s : Token) (t r : Option (List Token)) → t ≡ before (s ∷ []) r → ((x : List ℕ) → s ≡ Word x → ⊥) → ((n : ℕ) → s ≡ Number n → ⊥) → (s ≡ Open → ⊥) → NoneBegins part_tokens t
no_part s t r a w m o p us e = either p (behind (s ∷ []) (part_tokens p ++ us) r (sym a ∙ e)).2
  where
    either : (p : Part) {vs : List Token} → s ∷ vs ≡ part_tokens p ++ us → ⊥
    either (part.Name x) k = w x cc
    either (part.Number n) k = m n cc
    either (part.List ns) k = o cc
    either (part.Lists ls) k = o cc

part_apart : (p q : Part) (us vs : List Token) → part_tokens p ++ us ≡ part_tokens q ++ vs → (part_tokens p ≡ part_tokens q) × (us ≡ vs)
part_apart (part.Name x) (part.Name y) us vs e = (cc, cc)
part_apart (part.Number m) (part.Number n) us vs e = (cc, cc)
part_apart (part.List a) (part.List b) us vs e = let k = list_apart a b us vs e in (ap list k.0, k.1)
part_apart (part.List a) (part.Lists []) us vs e = let k = list_apart a [] us vs e in (ap list k.0, k.1)
part_apart (part.List a) (part.Lists (l ∷ ls)) us vs e =
    let o = lists_open l ls vs in
    let k : closed (map number a) ++ us ≡ closed (map list (l ∷ ls)) ++ vs = cc in
    absurd (no_list_opens a us o.0 (k ∙ o.1))
part_apart (part.Lists []) (part.List b) us vs e = let k = list_apart [] b us vs e in (ap list k.0, k.1)
part_apart (part.Lists (l ∷ ls)) (part.List b) us vs e =
    let o = lists_open l ls us in
    let k : closed (map list (l ∷ ls)) ++ us ≡ closed (map number b) ++ vs = cc in
    absurd (no_list_opens b vs o.0 (sym k ∙ o.1))
part_apart (part.Lists ks) (part.Lists ls) us vs e = let k = lists_apart ks ls us vs e in (ap lists k.0, k.1)
part_apart p q us vs e = cc

no_tokens : (p : Part) (us : List Token) → part_tokens p ++ us ≡ [] → ⊥
no_tokens (part.Name x) us e = cc
no_tokens p us e = cc

-- what stands behind parts is parts
rest_parts : (ps qs : List Part) (us : List Token) → flat_map part_tokens ps ++ us ≡ flat_map part_tokens qs → (rs : List Part) × (us ≡ flat_map part_tokens rs) × (length qs ≡ length ps + length rs)
rest_parts [] qs us e = (qs, e, omega arith)
rest_parts (p ∷ ps) [] us e = absurd (no_tokens p (flat_map part_tokens ps ++ us) (sym (append_assoc (part_tokens p) (flat_map part_tokens ps) us) ∙ e))
rest_parts (p ∷ ps) (q ∷ qs) us e =
    let k = part_apart p q (flat_map part_tokens ps ++ us) (flat_map part_tokens qs) (sym (append_assoc (part_tokens p) (flat_map part_tokens ps) us) ∙ e) in
    let r = rest_parts ps qs us k.1 in
    let n = r.2 in
    (r.0, r.1, omega arith)

at_most_five : (f : Form) → length (parts_of f) < 6
at_most_five (Alone a) = omega arith
at_most_five (One w a) = omega arith
at_most_five (Two w a b) = omega arith
at_most_five (Three w a b c) = omega arith
at_most_five (Four w a b c d) = omega arith

pub none_first : (t : Option (List Token)) → NoneBegins part_tokens t → NoneIs form_tokens t
none_first t h (Alone a) e = h a [] e
none_first t h (One w a) e = h (part.Name w) (flat_map part_tokens (a ∷ [])) e
none_first t h (Two w a b) e = h (part.Name w) (flat_map part_tokens (a ∷ b ∷ [])) e
none_first t h (Three w a b c) e = h (part.Name w) (flat_map part_tokens (a ∷ b ∷ c ∷ [])) e
none_first t h (Four w a b c d) e = h (part.Name w) (flat_map part_tokens (a ∷ b ∷ c ∷ d ∷ [])) e

-- no part behind the parts, but some token
pub none_next : (ps : List Part) (t r : Option (List Token)) → t ≡ before (flat_map part_tokens ps) r → (r ≡ Some [] → ⊥) → NoneBegins part_tokens r → NoneIs form_tokens t
none_next ps t r a h k qs e =
    let b = behind (flat_map part_tokens ps) (form_tokens qs) r (sym a ∙ e) in
    let f = rest_parts ps (parts_of qs) b.0 b.2 in
    either f.0 (b.1 ∙ ap Some f.1)
  where
    either : (rs : List Part) → r ≡ Some (flat_map part_tokens rs) → ⊥
    either [] g = h g
    either (p ∷ rs) g = k p (flat_map part_tokens rs) g

-- one part more than a form has
longer : (f g : Form) (us : List Token) → is_full f ≡ true → flat_map part_tokens (parts_of f) ++ us ≡ form_tokens g → length (parts_of f) < length (parts_of g) → ⊥
longer (Four w a b c d) g us n e l = let short = at_most_five g in omega arith
longer (Alone a) (Alone b) us n e l = omega arith
longer (Alone (part.Name w)) g us n e l = cc
longer (Alone (part.Number m)) (One w a) us n e l = cc
longer (Alone (part.List ns)) (One w a) us n e l = cc
longer (Alone (part.Lists ls)) (One w a) us n e l = cc
longer (Alone a) g us n e l = cc
longer f g us n e l = cc

pub too_many : (f : Form) (p : Part) (t r s : Option (List Token)) → t ≡ before (flat_map part_tokens (parts_of f)) r → r ≡ before (part_tokens p) s → is_full f ≡ true → NoneIs form_tokens t
too_many f p t r s a c n g e =
    let b = behind (flat_map part_tokens (parts_of f)) (form_tokens g) r (sym a ∙ e) in
    let k = rest_parts (parts_of f) (parts_of g) b.0 b.2 in
    let d = behind (part_tokens p) b.0 s (sym c ∙ b.1) in
    either k.0 b.0 d.0 k.2 b.2 (d.2 ∙ k.1)
  where
    either : (rs : List Part) (vs us : List Token) → length (parts_of g) ≡ length (parts_of f) + length rs → flat_map part_tokens (parts_of f) ++ vs ≡ form_tokens g → part_tokens p ++ us ≡ flat_map part_tokens rs → ⊥
    either [] vs us l q h = no_tokens p us h
    either (x ∷ rs) vs us l q h = longer f g vs n q (omega arith)

pub first_part : (p : Part) (t r : Option (List Token)) → t ≡ before (part_tokens p) r → t ≡ before (flat_map part_tokens (p ∷ [])) r
first_part p t r a = a ∙ ap (λ ts. before ts r) (sym (append-nil (part_tokens p)))

pub next_part : (ps qs : List Part) (p : Part) (t r s : Option (List Token)) → qs ≡ ps ++ p ∷ [] → t ≡ before (flat_map part_tokens ps) r → r ≡ before (part_tokens p) s → t ≡ before (flat_map part_tokens qs) s
next_part ps qs p t r s e a b =
    a ∙ ap (before (flat_map part_tokens ps)) (first_part p r s b) ∙ before_before (flat_map part_tokens ps) (flat_map part_tokens (p ∷ [])) s
    ∙ ap (λ ts. before ts s) (sym (flat_map-append part_tokens ps (p ∷ [])) ∙ sym (ap (flat_map part_tokens) e))

pub next_normal : (ps qs : List Part) (p : Part) → qs ≡ ps ++ p ∷ [] → AreNormal ps → IsNormal p → AreNormal qs
next_normal ps qs p e a b = ap (map normal_part) e ∙ map-append normal_part ps (p ∷ []) ∙ ap (λ xs. xs ++ normal_part p ∷ []) a ∙ ap (λ x. ps ++ x ∷ []) b ∙ sym e

-- what follows inside an answer that is not want of memory
pub none_inside : {P E : Type 0} (res : Result (Option P) E) (A B : Type 0) → (A → B) → IfOk res (λ r. IsNone r → A) → IfOk res (λ r. IsNone r → B)
none_inside (Ok r) A B f h = λ e. f (h e)
none_inside (Err e) A B f h = h
