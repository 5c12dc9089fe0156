-- This file shows that the states of a history are told apart by their numbers of changes.
use Rattle.std.proofs.Common.{◌≡◌, ◌≤◌, ◌+◌, List, [], ◌∷◌, ◌++◌, take, drop, get_or, append_assoc}
use Rattle.std.proofs.Common.{refl, sym, ap, subst, ◌∙◌, arith, ◌⊎◌, inl, inr, All, Contains}
use Rattle.std.proofs.lemmas.List.{take-append-drop, drop_more, append-nil}
use Rattle.std.proofs.lemmas.List.Elements.{Contains-append_left}
use Rattle.record_codec.specs.declared.record.Record.{Record}
use Rattle.record_codec.specs.Fitting.{IsRecord}
use Rattle.realm_insert.specs.State.{State, empty_state}
use Rattle.realm_insert.specs.Snapshots.{state_of}
use Rattle.realm_store.specs.Leading.{Leads}
use Rattle.realm_store.specs.Replaying.{LeadOn}
use Rattle.realm_store.proofs.LedOnce.{leads_once}
use Rattle.standby_core.specs.declared.frame.Frame.{Frame}
use Rattle.standby_core.specs.declared.frame.Frame.TheVariants.{Rec, Snap}
use Rattle.pair_law.specs.History.{IsHistory, IsStateOf, IsFrameOf}
use Rattle.pair_law.proofs.Rises.{texts_in_front, texts_behind, lead_once, lead_join, lead_split, lead_stays}

-- ---- two fronts of a list

-- of two fronts of a list, one is a front of the other
abbrev IsFront : List Record → List Record → Type 0
IsFront xs ys = (more : List Record) × (ys ≡ xs ++ more)

fronts : (xs ys a b : List Record) → xs ++ a ≡ ys ++ b → IsFront xs ys ⊎ IsFront ys xs
fronts [] ys a b e = inl (ys, refl)
fronts (x ∷ xs) [] a b e = inr (x ∷ xs, refl)
fronts (x ∷ xs) (y ∷ ys) a b e =
    let heads : x ≡ y = cc in
    let tails : xs ++ a ≡ ys ++ b = cc in
    elim (fronts xs ys a b tails) [
      | inl f ↦ inl (f.0, ap (λ z. y ∷ z) f.1 ∙ ap (λ z. z ∷ (xs ++ f.0)) (sym heads))
      | inr f ↦ inr (f.0, ap (λ z. x ∷ z) f.1 ∙ ap (λ z. z ∷ (ys ++ f.0)) heads)
    ]

-- ---- states

-- where one state comes before another with as many changes, they are one
same_behind : (s t : State) (before also : List Record) → All IsRecord also → LeadOn empty_state before s
    → LeadOn empty_state also t → IsFront before also → t.changes ≤ s.changes → t ≡ s
same_behind s t before also texts lead other (more, is) few =
    let split = lead_split empty_state t before more (subst (λ l. LeadOn empty_state l t) is other) in
    let same : split.0 ≡ s = lead_once empty_state split.0 s before split.1 lead in
    let rest : LeadOn s more t = subst (λ m. LeadOn m more t) same split.2 in
    lead_stays s t more (texts_behind before more (subst (λ l. All IsRecord l) is texts)) rest few

-- the records before a state of the history have texts
pub texts_before : (records : List Record) (s : State) → All IsRecord records → (here : IsStateOf records s)
    → All IsRecord here.before
texts_before records s texts here =
    texts_in_front here.before here.left (subst (λ l. All IsRecord l) here.in_order texts)

-- states of a history with as many changes are one
one_of_number : (records : List Record) (s t : State) → All IsRecord records → IsStateOf records s → IsStateOf records t
    → s.changes ≡ t.changes → s ≡ t
one_of_number records s t texts one also same =
    let there = texts_before records s texts one in
    let too = texts_before records t texts also in
    elim (fronts one.before also.before one.left also.left (sym one.in_order ∙ also.in_order)) [
      | inl f ↦ sym (same_behind s t one.before also.before too one.lead also.lead f (omega arith))
      | inr f ↦ same_behind t s also.before one.before there also.lead one.lead f (omega arith)
    ]

-- the present state is one of the history
pub present : (records : List Record) (now : State) → LeadOn empty_state records now → IsStateOf records now
present records now lead = record { before = records; left = []; in_order = sym (append-nil records); lead = lead }

-- states stay states of a longer history
pub state_stays : (records more : List Record) (s : State) → IsStateOf records s → IsStateOf (records ++ more) s
state_stays records more s one = record {
  before = one.before;
  left = one.left ++ more;
  in_order = ap (λ l. l ++ more) one.in_order ∙ append_assoc one.before one.left more;
  lead = one.lead;
}

pub frame_stays : (records more : List Record) (f : Frame) → IsFrameOf records f → IsFrameOf (records ++ more) f
frame_stays records more (Rec r) has = Contains-append_left records more r has
frame_stays records more (Snap s) one = state_stays records more (state_of s) one

-- ---- records

-- a record of a history leads from the state that it is for to a state of it
pub record IsLed (records : List Record) (r : Record) : Type 0 where
  pub old : State
  pub new : State
  pub leads : Leads old r new
  pub from : IsStateOf records old
  pub to : IsStateOf records new

led_between : (records before left : List Record) (r : Record) (old now : State) → records ≡ before ++ r ∷ left
    → LeadOn empty_state before old → LeadOn old (r ∷ left) now → IsLed records r
led_between records before left r old now is first (new, leads, rest) = record {
  old = old;
  new = new;
  leads = leads;
  from = record { before = before; left = r ∷ left; in_order = is; lead = first };
  to = record {
    before = before ++ r ∷ [];
    left = left;
    in_order = is ∙ sym (append_assoc before (r ∷ []) left);
    lead = lead_join empty_state old new before (r ∷ []) first (new, leads, refl);
  };
}

led_in : (records before left : List Record) (r : Record) (now : State) → records ≡ before ++ r ∷ left
    → LeadOn empty_state records now → IsLed records r
led_in records before left r now is lead =
    let split = lead_split empty_state now before (r ∷ left) (subst (λ l. LeadOn empty_state l now) is lead) in
    led_between records before left r split.0 now is split.1 split.2

led : (records : List Record) (now : State) (r : Record) → LeadOn empty_state records now → Contains records r
    → IsLed records r
led records now r lead (k, within, is) =
    let split : records ≡ take k records ++ get_or records k r ∷ drop (k + 1) records =
    sym (take-append-drop k records) ∙ ap (λ l. take k records ++ l) (drop_more records k r within) in
    let here : records ≡ take k records ++ r ∷ drop (k + 1) records =
    split ∙ ap (λ q. take k records ++ q ∷ drop (k + 1) records) is in
    led_in records (take k records) (drop (k + 1) records) r now here lead

-- From a state of the history, a record of it that comes next leads to a state of it, and to no other.
pub next_state : (records : List Record) (now s t : State) (r : Record) → IsHistory records now
    → IsStateOf records s → Contains records r → r.number ≡ s.changes + 1 → Leads s r t → IsStateOf records t
next_state records now s t r history here has comes leads =
    let l = led records now r history.lead has in
    let first = l.leads.number in
    let same : s ≡ l.old = one_of_number records s l.old history.have_texts here l.from (omega arith) in
    let one : t ≡ l.new = leads_once l.old t l.new r (subst (λ m. Leads m r t) same leads) l.leads in
    subst (λ m. IsStateOf records m) (sym one) l.to

-- and there is such a state
pub has_next : (records : List Record) (now s : State) (r : Record) → IsHistory records now
    → IsStateOf records s → Contains records r → r.number ≡ s.changes + 1 → (t : State) × Leads s r t
has_next records now s r history here has comes =
    let l = led records now r history.lead has in
    let first = l.leads.number in
    let same : l.old ≡ s = one_of_number records l.old s history.have_texts l.from here (omega arith) in
    (l.new, subst (λ m. Leads m r l.new) same l.leads)
