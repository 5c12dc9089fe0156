-- This file shows where a record leads that is made again.
use Rattle.std.proofs.Common.{◌≡◌, ℕ, ◌+◌, ◌<◌, Bool, true, false, List, [], ◌∷◌, ◌++◌, length, take, drop, get_or, Option, Some, None}
use Rattle.std.proofs.Common.{refl, sym, ◌∙◌, ap, subst, arith}
use Rattle.std.proofs.lemmas.List.{take_more, drop_more, take-append-drop}
use Rattle.grid_base.specs.declared.kinds.Step.{Step}
use Rattle.line_grammar.specs.declared.command.Change.{Change}
use Rattle.record_codec.specs.declared.entry.Entry.{Entry}
use Rattle.record_codec.specs.declared.record.Record.{Record}
use Rattle.realm_insert.specs.State.{State, SpendableState}
use Rattle.realm_insert.specs.Next.{Next}
use Rattle.realm_insert.specs.Refusals.{IsRefusedBy}
use Rattle.realm_insert.specs.Misfits.{MisfitsAt}
use Rattle.realm_insert.specs.declared.refusal.Refusal.{Refusal}
use Rattle.realm_insert.proofs.SameStates.{not_refused, fits}
use Rattle.realm_store.specs.Leading.{LeadsBy, LeadOnBy, Leads}
use Rattle.realm_store.specs.Accepting.{FailsAt}
use Rattle.realm_store.specs.Replaying.{IsReplayable, LeadsNowhere, RemadeBy, RemadeOnBy, Remade, record_next}
use Rattle.realm_store.proofs.LedOnce.{one_change, leads_by_once}

-- the entry leads on,
pub made_by : {state : State} {e : Entry} {engine : SpendableState} → engine.spent ≡ false → LeadsBy state e engine.state
    → RemadeBy state e true engine
made_by ready leads = record { ready = λ _. ready; led = λ _. leads; nowhere = λ no. absurd cc }

-- or to no state,
not_made_by : {state : State} {e : Entry} {engine : SpendableState} → ((after : State) → LeadsBy state e after → ⊥)
    → RemadeBy state e false engine
not_made_by nowhere = record { ready = λ no. absurd cc; led = λ no. absurd cc; nowhere = λ _. nowhere }

unspent : (b : Bool) → (b ≡ true → ⊥) → b ≡ false
unspent true never = absurd (never refl)
unspent false never = refl

module _ {state : State} {e : Entry} {c : Change} (of_line : IsReplayable e.line c) where
  -- where its line is the text of a change, it leads to what that change makes by its trace
  next_of : (after : State) → LeadsBy state e after → Next state c e.trace after
  next_of after leads =
      let same = one_change leads.change c leads.spellable of_line.spellable (sym leads.line ∙ of_line.is_text) in
      subst (λ d. Next state d e.trace after) same leads.next

  pub remade_by : (engine : SpendableState) (steps : List Step) → steps ≡ e.trace
      → (engine.spent ≡ true → ⊥) → Next state c steps engine.state → RemadeBy state e true engine
  remade_by engine steps is ready next = made_by (unspent engine.spent ready) (record {
    change = c;
    spellable = of_line.spellable;
    line = of_line.is_text;
    next = subst (λ l. Next state c l engine.state) is next;
  })

  -- and nowhere where that is refused, or fails by its trace
  pub remade_refused : (engine : SpendableState) (word : Refusal) → IsRefusedBy c state word → RemadeBy state e false engine
  remade_refused engine word refused =
      not_made_by (λ after leads. not_refused state after c e.trace word (next_of after leads) refused)

  pub remade_misfit : (engine : SpendableState) (steps : List Step) (number : ℕ) → steps ≡ e.trace → MisfitsAt c state steps number
      → RemadeBy state e false engine
  remade_misfit engine steps number is misfits =
      let of_trace = subst (λ l. MisfitsAt c state l number) is misfits in
      not_made_by (λ after leads. fits state after c e.trace number (next_of after leads) of_trace)

-- ---- the entries of a record

-- one entry more leads on
pub lead_on_by : (start mid new : State) (es : List Entry) (e : Entry) → LeadOnBy start es mid → LeadsBy mid e new
    → LeadOnBy start (es ++ e ∷ []) new
lead_on_by start mid new [] e is leads = (new, subst (λ s. LeadsBy s e new) is leads, refl)
lead_on_by start mid new (d ∷ es) e (next, first, later) leads = (next, first, lead_on_by next mid new es e later leads)

-- each is one change
lead_on_by-changes : (start end : State) (es : List Entry) → LeadOnBy start es end → end.changes ≡ start.changes + length es
lead_on_by-changes start end [] is = omega (arith, ap (λ (s : State). s.changes) is)
lead_on_by-changes start end (e ∷ es) (next, first, later) =
    omega (arith, lead_on_by-changes next end es later, first.next.changes)

-- where one leads nowhere, all of them do
stuck : (start mid : State) (before : List Entry) (e : Entry) (left : List Entry) → LeadOnBy start before mid
    → ((after : State) → LeadsBy mid e after → ⊥) → (after : State) → LeadOnBy start (before ++ e ∷ left) after → ⊥
stuck start mid [] e left is nowhere after (next, first, later) = nowhere next (subst (λ s. LeadsBy s e next) (sym is) first)
stuck start mid (d ∷ before) e left (there, first, later) nowhere after (next, also, then) =
    let same = leads_by_once start next there d also first in
    stuck there mid before e left later nowhere after (subst (λ s. LeadOnBy s (before ++ e ∷ left) after) same then)

module _ (start : State) (entries : List Entry) (i : ℕ) where
  pub lead_by_more : (mid new : State) (e d : Entry) → i < length entries → e ≡ get_or entries i d
      → LeadOnBy start (take i entries) mid → LeadsBy mid e new → LeadOnBy start (take (i + 1) entries) new
  lead_by_more mid new e d within is lead leads =
      subst (λ l. LeadOnBy start l new) (sym (take_more entries i d within))
      (lead_on_by start mid new (take i entries) (get_or entries i d) lead (subst (λ x. LeadsBy mid x new) is leads))

  -- the next leads nowhere
  pub fails_here : (mid : State) (e d : Entry) (engine : SpendableState) (number : ℕ) → i < length entries → e ≡ get_or entries i d
      → LeadOnBy start (take i entries) mid → ((after : State) → LeadsBy mid e after → ⊥) → number ≡ mid.changes + 1
      → RemadeOnBy start entries (Some number) engine
  fails_here mid e d engine number within is lead nowhere counted =
      let fails : FailsAt start (record_next start entries) number = record {
        before = take i entries;
        e = get_or entries i d;
        more = drop (i + 1) entries;
        in_order = sym (take-append-drop i entries) ∙ ap (λ l. take i entries ++ l) (drop_more entries i d within);
        mid = mid;
        lead = lead;
        nowhere = subst (λ x. (after : State) → LeadsBy mid x after → ⊥) is nowhere;
        number_is = omega (arith, counted, lead_on_by-changes start mid (take i entries) lead);
      } in record {
        ready = λ no. absurd cc;
        led = λ no. absurd cc;
        fails = λ told same. let is_told : number ≡ told = cc in subst (FailsAt start (record_next start entries)) is_told fails;
      }

-- ---- a record

-- where an entry leads nowhere, it does
pub fails_nowhere : {state : State} {r : Record} {number : ℕ} → FailsAt state r number → LeadsNowhere state r
fails_nowhere {state} fails after led = stuck state fails.mid fails.before fails.e fails.more fails.lead fails.nowhere after
    (subst (λ l. LeadOnBy state l after) fails.in_order led.entries)

-- the record with the next number is that of its entries
next_record : (state : State) (r : Record) → r.number ≡ state.changes + 1 → record_next state r.entries ≡ r
next_record state r number = λ i. record { number = sym number i; entries = r.entries }

module _ {state : State} {r : Record} {engine : SpendableState} (number : r.number ≡ state.changes + 1) {failed : Option ℕ}
    (made : RemadeOnBy state r.entries failed engine) where
  -- it leads on where its entries do,
  pub record_led : failed ≡ None → Leads state r engine.state
  record_led none = record { number = number; entries = made.led none }

  pub record_fails : (at : ℕ) → failed ≡ Some at → FailsAt state r at
  record_fails at is = subst (λ (q : Record). FailsAt state q at) (next_record state r number) (made.fails at is)

  pub remade_led : failed ≡ None → Remade state r true engine
  remade_led none = record { ready = λ _. made.ready none; led = λ _. record_led none; nowhere = λ no. absurd cc }

  -- and nowhere where one leads nowhere
  pub remade_failed : {at : ℕ} → failed ≡ Some at → Remade state r false engine
  remade_failed {at} is =
      record { ready = λ no. absurd cc; led = λ no. absurd cc; nowhere = λ _. fails_nowhere (record_fails at is) }
