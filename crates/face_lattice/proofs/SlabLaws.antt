-- What changes of the ids and the slots leave.
use Rattle.std.proofs.Common.{◌≡◌, ◌≢◌, ℕ, ◌+◌, ◌≤◌, Bool, true, false, cond, if◌then◌else◌, List, get_or, set, Option, Some, None, IsSome, is_some, Result, Ok, Err, OnOk, eqb, refl, sym, ap, ◌∙◌, subst, arith}
use mathlib.Core.Bool.{true≢false}
use Rattle.std.specs.Map.{lookup}
use Rattle.std.specs.Option.{option_map}
use Rattle.std.proofs.lemmas.List.{get_or-set_same, get_or-set_other, get_or_default, length-set}
use Rattle.simplex.proofs.Decided.{eqb_equal, eqb_apart}
use Rattle.facet_set.proofs.GeneratedLaws.{same_at}
use Rattle.facet_set.proofs.FaceNumbers.{same_from}
use Rattle.face_lattice.specs.Cells.{same}
use Rattle.face_lattice.specs.declared.slot.Slot.{Slot}
use Rattle.face_lattice.specs.Slots.{no_slot, IsLed, AreLed, IsSlab, KeepsUsed, SlabState, id_of, face_of, KeepsIds, IsNoted, AreNoted, Stays}

abbrev is_some_of : {X : Type 0} → X → Option X → X
is_some_of d None = d
is_some_of d (Some x) = x

pub none_some : {X : Type 0} (x : X) → None ≡ Some x → ⊥
none_some x e = true≢false (sym (ap there e))
  where
    there : {X : Type 0} → Option X → Bool
    there None = false
    there (Some x) = true

-- an id in use stays that of its face
pub led_still : (old new : List Slot) (s : List ℕ) (i : ℕ) → KeepsUsed old new → IsLed old s i → IsLed new s i
led_still old new s i k h =
    let e = k.at i h.within h.used in
    record { within = omega (arith, h.within, k.len); face = ap (λ w. w.face) e ∙ h.face; used = ap (λ w. w.used) e ∙ h.used }

pub leads_still : (ids : List (List ℕ × ℕ)) (old new : List Slot) → KeepsUsed old new → AreLed ids old → AreLed ids new
leads_still ids old new k h = λ s i e. led_still old new s i k (h s i e)

-- one face more
pub leads_more : (ids more : List (List ℕ × ℕ)) (old new : List Slot) (s : List ℕ) (id : ℕ) → KeepsUsed old new → AreLed ids old → IsLed new s id
    → ((t : List ℕ) → lookup (same t) more ≡ cond (same s t) (Some id) (lookup (same t) ids)) → AreLed more new
leads_more ids more old new s id k h l u = λ t i e. by t i (same s t) refl (sym (u t) ∙ e)
  where
    by : (t : List ℕ) (i : ℕ) (b : Bool) → same s t ≡ b → cond b (Some id) (lookup (same t) ids) ≡ Some i → IsLed new t i
    by t i true q e = subst (λ j. IsLed new t j) (ap (is_some_of 0) e) (subst (λ x. IsLed new x id) (same_at s t q) l)
    by t i false q e = led_still old new t i k (h t i e)

-- two faces with one id are one
pub one_face : (slots : List Slot) (s t : List ℕ) (i j : ℕ) → IsLed slots s i → IsLed slots t j → i ≡ j → s ≡ t
one_face slots s t i j h k e = sym h.face ∙ ap (λ m. (get_or slots m no_slot).face) e ∙ k.face

-- one face less, whose slot may then be any
pub leads_fewer : (ids fewer : List (List ℕ × ℕ)) (slots : List Slot) (s : List ℕ) (id : ℕ) (w : Slot) → AreLed ids slots → IsLed slots s id
    → ((t : List ℕ) → lookup (same t) fewer ≡ cond (same s t) None (lookup (same t) ids)) → AreLed fewer (set slots id w)
leads_fewer ids fewer slots s id w h l u = λ t i e. by t i (same s t) refl (sym (u t) ∙ e)
  where
    by : (t : List ℕ) (i : ℕ) (b : Bool) → same s t ≡ b → cond b None (lookup (same t) ids) ≡ Some i → IsLed (set slots id w) t i
    by t i true q e = absurd (none_some i e)
    by t i false q e =
        let k = h t i e in
        let other : i ≢ id = λ n. true≢false (sym (same_from s t (one_face slots s t id i l k (sym n))) ∙ q) in
        let at = get_or-set_other slots id i w no_slot other in
        record { within = omega (arith, k.within, length-set slots id w); face = ap (λ x. x.face) at ∙ k.face; used = ap (λ x. x.used) at ∙ k.used }

-- ---- a slot whose face stays
slots_set : (ids : List (List ℕ × ℕ)) (slots : List Slot) (id : ℕ) (d w : Slot) → AreLed ids slots → d ≡ get_or slots id d → w.face ≡ d.face → w.used ≡ d.used → AreLed ids (set slots id w)
slots_set ids slots id d w h r f u = λ t i e. by t i (h t i e) (eqb i id) refl
  where
    by : (t : List ℕ) (i : ℕ) → IsLed slots t i → (b : Bool) → eqb i id ≡ b → IsLed (set slots id w) t i
    by t i k true e =
        let n : i ≡ id = eqb_equal i id e in
        let here : get_or (set slots id w) i no_slot ≡ w = ap (λ m. get_or (set slots id w) m no_slot) n ∙ get_or-set_same slots id w no_slot (omega (arith, k.within, n)) in
        let was : d ≡ get_or slots i no_slot = r ∙ get_or_default slots id d no_slot (omega (arith, k.within, n)) ∙ ap (λ m. get_or slots m no_slot) (sym n) in
        record {
          within = omega (arith, k.within, length-set slots id w);
          face = ap (λ x. x.face) here ∙ f ∙ ap (λ x. x.face) was ∙ k.face;
          used = ap (λ x. x.used) here ∙ u ∙ ap (λ x. x.used) was ∙ k.used;
        }
    by t i k false e =
        let at = get_or-set_other slots id i w no_slot (eqb_apart i id e) in
        record { within = omega (arith, k.within, length-set slots id w); face = ap (λ x. x.face) at ∙ k.face; used = ap (λ x. x.used) at ∙ k.used }

pub slab_set : (ids : List (List ℕ × ℕ)) (slots : List Slot) (free room id : ℕ) (d w : Slot) → IsSlab ids slots free room → d ≡ get_or slots id d → w.face ≡ d.face → w.used ≡ d.used
    → IsSlab ids (set slots id w) free room
slab_set ids slots free room id d w h r f u = record {
  led = slots_set ids slots id d w h.led r f u;
  few = omega (arith, h.few, length-set slots id w);
  fits = omega (arith, h.fits, length-set slots id w);
}

-- the cell that was written
pub cell_here : (ids : List (List ℕ × ℕ)) (slots : List Slot) (id : ℕ) (s : List ℕ) (w : Slot) → IsLed slots s id → lookup (same s) ids ≡ Some id
    → option_map (λ i. (get_or (set slots id w) i no_slot).cell) (lookup (same s) ids) ≡ Some w.cell
cell_here ids slots id s w l e = ap (option_map (λ i. (get_or (set slots id w) i no_slot).cell)) e ∙ ap (λ x. Some x.cell) (get_or-set_same slots id w no_slot l.within)

pub on_ok : {A E : Type 0} (P Q : Type 0) (r : Result A E) → (P → Q) → OnOk r P → OnOk r Q
on_ok P Q (Ok x) f h = f h
on_ok P Q (Err e) f h = tt

-- ---- counts
pub at_most_one : (b : Bool) (m n : ℕ) → m ≡ n + (if b then 0 else 1) → m ≤ n + 1
at_most_one true m n h = omega (arith, h)
at_most_one false m n h = omega (arith, h)

pub one_less : (b : Bool) (m n : ℕ) → b ≡ true → m + (if b then 1 else 0) ≡ n → m + 1 ≡ n
one_less true m n e h = h
one_less false m n e h = absurd (true≢false (sym e))

-- ---- ids that do not move
pub still_noted : (old new : SlabState) (s : List ℕ) (i : ℕ) → KeepsIds old new → IsNoted old s i → IsNoted new s i
still_noted old new s i k n = record { id = ap (lookup (same s)) k.ids ∙ n.id; face = k.faces i ∙ n.face }

-- what is noted survives each change of degrees and link vertices
pub still_all_noted : (old new : SlabState) (f : List ℕ) (gap : ℕ) (is : List ℕ) → KeepsIds old new → AreNoted old f gap is → AreNoted new f gap is
still_all_noted old new f gap is k n = record { some = n.some; below = n.below; at = λ m l. still_noted old new _ _ k (n.at m l) }

-- the id that was read is that of the face
pub read_noted : (old new : SlabState) (s : List ℕ) (i j : ℕ) → KeepsIds old new → IsNoted old s i → j ≡ i → IsNoted new s j
read_noted old new s i j k n e = subst (IsNoted new s) (sym e) (still_noted old new s i k n)

pub keeps_again : (a b c : SlabState) → KeepsIds a b → KeepsIds b c → KeepsIds a c
keeps_again a b c h k = record { ids = k.ids ∙ h.ids; faces = λ i. k.faces i ∙ h.faces i }

pub led_noted : (v : SlabState) (s : List ℕ) (i : ℕ) → AreLed v.ids v.slots → id_of v s ≡ Some i → IsNoted v s i
led_noted v s i h e = record { id = e; face = (h s i e).face }

-- a noted id is that of its face
pub own_id : (v : SlabState) (s : List ℕ) (i : ℕ) → IsNoted v s i → id_of v (face_of v i) ≡ Some i
own_id v s i n = ap (id_of v) n.face ∙ n.id

-- ids stay over several changes
pub stays_again : (a b c : SlabState) → Stays a b → Stays b c → Stays a c
stays_again a b c h k = λ t there.
    let p = h t there in
    let q = k t (subst (λ o. IsSome o) (sym p.0) there) in
    (q.0 ∙ p.0, q.1 ∙ p.1)

pub noted_stays : (old new : SlabState) (s : List ℕ) (i : ℕ) → Stays old new → AreLed new.ids new.slots → IsNoted old s i → IsNoted new s i
noted_stays old new s i k l n = led_noted new s i l ((k s (ap is_some n.id)).0 ∙ n.id)
