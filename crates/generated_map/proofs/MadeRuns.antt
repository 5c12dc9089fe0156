-- This file shows that a run goes on by one more change.
use Rattle.std.proofs.Common.{◌≡◌, ℕ, ◌+◌, List, [], ◌∷◌, ◌++◌, false, length, refl, sym, ap, ◌∙◌, subst, arith, add-one}
use Rattle.std.proofs.lemmas.List.Sums.{sum_by-append}
use Rattle.grid_base.specs.declared.kinds.Step.{Step}
use Rattle.line_grammar.specs.declared.command.Change.{Change}
use Rattle.realm_insert.specs.State.{State, SpendableState, empty_state, fresh_state}
use Rattle.generated_map.specs.Generated.{number_after, after_four, corners_behind, change_between, generated}
use Rattle.generated_map.specs.Runs.{Takes, TakesAll}
use Rattle.generated_map.specs.Told.{LeadsTo}

-- so many changes have been made, by so many steps, and the last number that was drawn is this one
pub record IsMade (start made last steps : ℕ) (engine : SpendableState) : Type 0 where
  pub ready : engine.spent ≡ false
  pub drawn : last ≡ number_after made start
  pub leads : LeadsTo made start engine.state steps

-- one more change behind a run
takes_more : (old mid new : State) (cs : List Change) (ts : List (List Step)) (c : Change) (t : List Step)
    → TakesAll old cs ts mid → Takes mid c t new → TakesAll old (cs ++ c ∷ []) (ts ++ t ∷ []) new
takes_more old mid new [] [] c t same takes = (new, subst (λ (s : State). Takes s c t new) same takes, refl)
takes_more old mid new [] (x ∷ ts) c t run takes = absurd run
takes_more old mid new (d ∷ cs) [] c t run takes = absurd run
takes_more old mid new (d ∷ cs) (x ∷ ts) c t run takes = (run.0, run.1, takes_more run.0 mid new cs ts c t run.2 takes)

generated-more : (made start : ℕ)
    → generated (made + 1) start ≡ generated made start ++ change_between (made + 1) (corners_behind (number_after made start)) ∷ []
unfolding generated
generated-more made start = rw add-one refl

number_after-more : (made start : ℕ) → number_after (made + 1) start ≡ after_four (number_after made start)
unfolding number_after
number_after-more made start = rw add-one refl

leads_more : (start made steps more : ℕ) (old new : State) (c : Change) (trace : List Step) → LeadsTo made start old steps
    → c ≡ change_between (made + 1) (corners_behind (number_after made start)) → Takes old c trace new → more ≡ length trace
    → LeadsTo (made + 1) start new (steps + more)
leads_more start made steps more old new c trace leads is takes count = record {
  traces = leads.traces ++ trace ∷ [];
  run = rw (generated-more made start, ← is) (takes_more empty_state old new (generated made start) leads.traces c trace leads.run takes);
  sum = let all = sum_by-append {X = List Step} length leads.traces (trace ∷ []) in
      let was = leads.sum in
      omega (arith, all, was, count);
}

-- nothing is made
pub is_made-none : (start : ℕ) → IsMade start 0 start 0 fresh_state
unfolding generated number_after
is_made-none start = record { ready = refl; drawn = refl; leads = record { traces = []; run = refl; sum = refl } }

-- one more change is made, between the corners that are drawn next
pub is_made-more : (start made last steps more : ℕ) (old new : SpendableState) (c : Change) (trace : List Step)
    → IsMade start made last steps old → c ≡ change_between (made + 1) (corners_behind last) → Takes old.state c trace new.state
    → more ≡ length trace → new.spent ≡ false → IsMade start (made + 1) (after_four last) (steps + more) new
is_made-more start made last steps more old new c trace is change takes count ready = record {
  ready = ready;
  drawn = ap after_four is.drawn ∙ sym (number_after-more made start);
  leads = leads_more start made steps more old.state new.state c trace is.leads
      (change ∙ ap (λ n. change_between (made + 1) (corners_behind n)) is.drawn) takes count;
}
