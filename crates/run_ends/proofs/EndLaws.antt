-- Two steps of a source or a sink are one. For the loops of callers.
use Rattle.std.proofs.Common.{ℕ, List, [], ◌++◌, Option, Some, None, refl, sym, ap, ◌∙◌, append_assoc, append-nil}
use Rattle.run_ends.specs.Ends.{Grows, Loses}

-- nothing was appended
pub grows_none : (a : Option (List ℕ)) → Grows a a []
grows_none None = tt
grows_none (Some x) = sym (append-nil x)

-- what is appended twice is appended at once
pub grows_twice : (a b c : Option (List ℕ)) (x y : List ℕ) → Grows a b x → Grows b c y → Grows a c (x ++ y)
grows_twice None None None x y h k = tt
grows_twice None None (Some c) x y h k = k
grows_twice None (Some b) c x y h k = elim h [ ]
grows_twice (Some a) None c x y h k = elim h [ ]
grows_twice (Some a) (Some b) None x y h k = k
grows_twice (Some a) (Some b) (Some c) x y h k = k ∙ ap (λ z. z ++ y) h ∙ append_assoc a x y

-- nothing was taken
pub loses_none : (a : Option (List ℕ)) → Loses a a []
loses_none None = tt
loses_none (Some x) = refl

-- what is taken twice is taken at once
pub loses_twice : (a b c : Option (List ℕ)) (x y : List ℕ) → Loses a b x → Loses b c y → Loses a c (x ++ y)
loses_twice None None None x y h k = tt
loses_twice None None (Some c) x y h k = k
loses_twice None (Some b) c x y h k = elim h [ ]
loses_twice (Some a) None c x y h k = elim h [ ]
loses_twice (Some a) (Some b) None x y h k = k
loses_twice (Some a) (Some b) (Some c) x y h k = h ∙ ap (λ z. x ++ z) k ∙ sym (append_assoc x y c)
