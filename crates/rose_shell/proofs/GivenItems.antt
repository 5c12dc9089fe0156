-- This file shows how items of a certificate are given one after another.
use Rattle.std.proofs.Common.{◌≡◌, ◌⊎◌, inl, inr, ℕ, ◌+◌, ◌<◌, ◌≤◌, List, [], ◌∷◌, ◌++◌, length, take, drop, map, All, Ok, Err}
use Rattle.std.proofs.Common.{refl, sym, ◌∙◌, ap, subst, append_assoc, take_all}
use Rattle.std.specs.Result.{IsErrAnd}
use Rattle.std.specs.Prelude.{false, slice_index_or, Result, IfErr, OnOk, OnErr, ◌≢◌}
use Rattle.std.proofs.lemmas.List.{append-nil, take_more, drop_more, take-append-drop, map-append}
use Rattle.std.proofs.lemmas.List.Elements.{All-append, All-cons, All-nil}
use Rattle.outside_world.specs.View.{View}
use Rattle.outside_world.specs.Counts.{Rose}
use Rattle.outside_world.specs.GoesOn.{GoesOn}
use Rattle.outside_world.specs.declared.world.Outside.{Ghosts}
use Rattle.outside_world.proofs.GoingOn.{goes_on_none, goes_on_then}
use Rattle.realm_audit.specs.Items.{IsLine, text_of}
use Rattle.realm_audit.specs.declared.item.Item.{Item}
use Rattle.rose_shell.specs.declared.fault.Fault.{Fault}
use Rattle.rose_shell.specs.declared.fault.Fault.TheVariants as faults
use Rattle.rose_shell.specs.declared.status.Status.{Status}
use Rattle.rose_shell.specs.declared.status.Status.TheVariants as ends
use Rattle.rose_shell.specs.Faults.{IsCaused, TellsFault, status_of, status_after}
use Rattle.rose_shell.specs.Giving.{GaveSome, GaveAll}
use Rattle.rose_shell.specs.Certifying.{lines_of_items, CertifyingEndsBy, GivesItems}
use Rattle.rose_shell.specs.Items.{GaveItems}
use Rattle.rose_shell.proofs.Gifts.{gave_behind, gave_no_byte}
use Rattle.rose_shell.proofs.Results.{err_is}
use Rattle.rose_shell.proofs.Rises.{rose_behind}

-- the lines of items and of others
lines_of_items-append : (before after : List Item) → lines_of_items (before ++ after) ≡ lines_of_items before ++ lines_of_items after
lines_of_items-append [] after = refl
lines_of_items-append (i ∷ before) after =
    ap (λ (l : List ℕ). (text_of i ++ 10 ∷ []) ++ l) (lines_of_items-append before after)
    ∙ sym (append_assoc (text_of i ++ 10 ∷ []) (lines_of_items before) (lines_of_items after))

-- ---- what is told

-- nothing was given
gives_none : {v : View} (items : List Item) (status : Status) → CertifyingEndsBy items [] status → GivesItems v v items status
gives_none items status ends = record {
  begun = [];
  left = items;
  in_order = refl;
  are_lines = All-nil IsLine;
  unsent = [];
  some = gave_no_byte;
  ends = ends;
}

-- items behind others that were all given
gives_then : {old mid new : View} {before after : List Item} {status : Status} → GivesItems old mid before ends.Done
    → GivesItems mid new after status → GivesItems old new (before ++ after) status
gives_then {old} {mid} {new} {before} {after} first second =
    let all : before ≡ first.begun =
    first.in_order ∙ ap (λ (l : List Item). first.begun ++ l) first.ends.0 ∙ append-nil first.begun in
    let whole = subst (λ (l : List ℕ). GaveSome old mid (lines_of_items first.begun) l) first.ends.1 first.some in
    record {
      begun = first.begun ++ second.begun;
      left = second.left;
      in_order = ap (λ (l : List Item). l ++ after) all ∙ ap (λ (l : List Item). first.begun ++ l) second.in_order
          ∙ sym (append_assoc first.begun second.begun second.left);
      are_lines = All-append IsLine first.begun second.begun first.are_lines second.are_lines;
      unsent = second.unsent;
      some = subst (λ (l : List ℕ). GaveSome old new l second.unsent) (sym (lines_of_items-append first.begun second.begun))
          (gave_behind whole second.some);
      ends = second.ends;
    }

-- a fault ends the giving, whatever is left
ends_with_more : (left more : List Item) (unsent : List ℕ) (fault : Fault) → CertifyingEndsBy left unsent (status_of fault)
    → CertifyingEndsBy (left ++ more) unsent (status_of fault)
ends_with_more left more unsent faults.Source ends = ends
ends_with_more left more unsent faults.Sink ends = ends
ends_with_more left more unsent faults.Disk ends = ends
ends_with_more left more unsent faults.NoMemory ends = ends

gives_no_more : {old new : View} {items : List Item} (fault : Fault) (more : List Item) → GivesItems old new items (status_of fault)
    → GivesItems old new (items ++ more) (status_of fault)
gives_no_more fault more gives = record {
  begun = gives.begun;
  left = gives.left ++ more;
  in_order = ap (λ (l : List Item). l ++ more) gives.in_order ∙ append_assoc gives.begun gives.left more;
  are_lines = gives.are_lines;
  unsent = gives.unsent;
  some = gives.some;
  ends = ends_with_more gives.left more gives.unsent fault gives.ends;
}

-- the line of one item was given, or begun
gives_line : {old new : View} {line : List ℕ} (item : Item) (r : Result Unit Fault) → IsLine item → line ≡ text_of item ++ 10 ∷ []
    → IfErr r (λ fault. fault ≡ faults.Sink) → GaveAll old new line r → GivesItems old new (item ∷ []) (status_after r)
gives_line {old} {new} {line} item r is_line is sink gave = record {
  begun = item ∷ [];
  left = [];
  in_order = refl;
  are_lines = All-cons IsLine item [] is_line (All-nil IsLine);
  unsent = gave.unsent;
  some = subst (λ (l : List ℕ). GaveSome old new l gave.unsent) (is ∙ sym (append-nil (text_of item ++ 10 ∷ []))) gave.some;
  ends = how r sink gave.whole gave.short;
}
  where
    how : (result : Result Unit Fault) → IfErr result (λ fault. fault ≡ faults.Sink) → OnOk result (gave.unsent ≡ [])
        → OnErr result (gave.unsent ≢ []) → CertifyingEndsBy [] gave.unsent (status_after result)
    how (Ok u) sink whole short = (refl, whole)
    how (Err fault) sink whole short =
        subst (λ (f : Fault). CertifyingEndsBy [] gave.unsent (status_of f)) (sym sink) short

-- the items of a list up to this one, and what is left behind it
module _ {X : Type 0} (item_of : X → Item) (list : List X) (i : ℕ) (x : X) (lt : i < length list)
    (is : x ≡ slice_index_or list i x) where
  one_more : map item_of (take (i + 1) list) ≡ map item_of (take i list) ++ item_of x ∷ []
  one_more = ap (λ (l : List X). map item_of l) (take_more list i x lt ∙ ap (λ (y : X). take i list ++ y ∷ []) (sym is))
      ∙ map-append item_of (take i list) (x ∷ [])

  with_left : map item_of list ≡ (map item_of (take i list) ++ item_of x ∷ []) ++ map item_of (drop (i + 1) list)
  with_left =
      ap (λ (l : List X). map item_of l)
      (sym (take-append-drop i list)
      ∙ ap (λ (l : List X). take i list ++ l) (drop_more list i x lt ∙ ap (λ (y : X). y ∷ drop (i + 1) list) (sym is)))
      ∙ map-append item_of (take i list) (x ∷ drop (i + 1) list)
      ∙ sym (append_assoc (map item_of (take i list)) (item_of x ∷ []) (map item_of (drop (i + 1) list)))

-- ---- what is done

module _ {World : Type 0} {outside : Ghosts World} where
  -- a cause from a later moment on is one from before
  caused_behind : {old mid : World} (new : World) (r : Result Unit Fault) → GoesOn outside old mid
      → IfErr r (λ fault. IsCaused outside mid new fault) → IfErr r (λ fault. IsCaused outside old new fault)
  caused_behind new (Ok u) went cause = tt
  caused_behind new (Err faults.Source) went cause = rose_behind went.source_faults cause
  caused_behind new (Err faults.Sink) went cause = rose_behind went.sink_faults cause
  caused_behind new (Err faults.Disk) went cause = rose_behind went.disk_faults cause
  caused_behind new (Err faults.NoMemory) went cause = cause

  pub gave_nothing : {w : World} → outside.failed w ≡ false → GaveItems outside w w [] (Ok tt)
  gave_nothing intact = record {
    fault = tt;
    caused = tt;
    intact = intact;
    told = λ t. gives_none [] ends.Done (refl, refl);
    goes_on = goes_on_none;
  }

  -- memory ran out before the first
  pub gave_none : {w : World} (items : List Item) → outside.failed w ≡ false → GaveItems outside w w items (Err faults.NoMemory)
  gave_none items intact = record {
    fault = inr refl;
    caused = intact;
    intact = tt;
    told = λ t. gives_none items ends.NoMemory refl;
    goes_on = goes_on_none;
  }

  -- the sink is the only fault of giving a line
  pub gave_line : {old new : World} {line : List ℕ} (item : Item) (r : Result Unit Fault) → IsLine item
      → line ≡ text_of item ++ 10 ∷ [] → IfErr r (λ fault. fault ≡ faults.Sink)
      → IfErr r (λ fault. IsCaused outside old new fault) → OnOk r (outside.failed new ≡ false)
      → (outside.tells new → GaveAll (outside.view old) (outside.view new) line r) → GoesOn outside old new
      → GaveItems outside old new (item ∷ []) r
  gave_line item r is_line is sink caused intact told went = record {
    fault = either r sink;
    caused = caused;
    intact = intact;
    told = λ t. gives_line item r is_line is sink (told t);
    goes_on = went;
  }
    where
      either : (result : Result Unit Fault) → IfErr result (λ fault. fault ≡ faults.Sink)
          → IfErr result (λ fault. (fault ≡ faults.Sink) ⊎ (fault ≡ faults.NoMemory))
      either (Ok u) sink = tt
      either (Err fault) sink = inl sink

  -- items behind others
  pub gave_then : {old mid new : World} {before after : List Item} {u : Unit} {r : Result Unit Fault}
      → GaveItems outside old mid before (Ok u) → GaveItems outside mid new after r → GaveItems outside old new (before ++ after) r
  gave_then {new = new} {r = r} first second = record {
    fault = second.fault;
    caused = caused_behind new r first.goes_on second.caused;
    intact = second.intact;
    told = λ t. gives_then (first.told (second.goes_on.tells t)) (second.told t);
    goes_on = goes_on_then first.goes_on second.goes_on;
  }

  -- whatever is answered where all were given, which says nothing
  pub gave_all : {old new : World} {items : List Item} {u v : Unit} → GaveItems outside old new items (Ok u)
      → GaveItems outside old new items (Ok v)
  gave_all gave = record { fault = tt; caused = tt; intact = gave.intact; told = gave.told; goes_on = gave.goes_on }

  -- items that aren't begun, since a fault came before them
  pub gave_no_more : {old new : World} {items : List Item} {fault : Fault} (more : List Item)
      → GaveItems outside old new items (Err fault) → GaveItems outside old new (items ++ more) (Err fault)
  gave_no_more {fault = fault} more gave = record {
    fault = gave.fault;
    caused = gave.caused;
    intact = tt;
    told = λ t. gives_no_more fault more (gave.told t);
    goes_on = gave.goes_on;
  }

  -- ---- one after another

  module _ {X : Type 0} (item_of : X → Item) (list : List X) (i : ℕ) (x : X) (lt : i < length list)
      (is : x ≡ slice_index_or list i x) where
    pub gave_one : {old mid new : World} {item : Item} {u v : Unit} → GaveItems outside old mid (map item_of (take i list)) (Ok u)
        → item ≡ item_of x → GaveItems outside mid new (item ∷ []) (Ok v)
        → GaveItems outside old new (map item_of (take (i + 1) list)) (Ok tt)
    gave_one {old} {new = new} before same one =
        subst (λ (l : List Item). GaveItems outside old new l (Ok tt))
        (ap (λ (j : Item). map item_of (take i list) ++ j ∷ []) same ∙ sym (one_more item_of list i x lt is)) (gave_all (gave_then before one))

    pub gave_to : {old mid new : World} {item : Item} {u : Unit} {fault : Fault}
        → GaveItems outside old mid (map item_of (take i list)) (Ok u) → item ≡ item_of x
        → GaveItems outside mid new (item ∷ []) (Err fault) → GaveItems outside old new (map item_of list) (Err fault)
    gave_to {old} {new = new} {fault = fault} before same one =
        let left = map item_of (drop (i + 1) list) in
        subst (λ (l : List Item). GaveItems outside old new l (Err fault))
        (ap (λ (j : Item). (map item_of (take i list) ++ j ∷ []) ++ left) same ∙ sym (with_left item_of list i x lt is))
        (gave_no_more left (gave_then before one))

  module _ {X : Type 0} (item_of : X → Item) (list : List X) (i : ℕ) {old mid : World} {u : Unit}
      (before : GaveItems outside old mid (map item_of (take i list)) (Ok u)) where
    -- memory runs out behind so many
    pub gave_first : GaveItems outside old mid (map item_of list) (Err faults.NoMemory)
    gave_first =
        let all : map item_of (take i list) ++ map item_of (drop i list) ≡ map item_of list =
        sym (map-append item_of (take i list) (drop i list)) ∙ ap (λ (l : List X). map item_of l) (take-append-drop i list) in
        subst (λ (l : List Item). GaveItems outside old mid l (Err faults.NoMemory)) all
        (gave_then before (gave_none (map item_of (drop i list)) before.intact))

    -- or so many were all
    pub gave_over : length list ≤ i → GaveItems outside old mid (map item_of list) (Ok tt)
    gave_over past =
        subst (λ (l : List X). GaveItems outside old mid (map item_of l) (Ok tt)) (take_all i list past) (gave_all before)

  -- the same items
  pub gave_same : {old new : World} {items others : List Item} {r : Result Unit Fault} → items ≡ others
      → GaveItems outside old new items r → GaveItems outside old new others r
  gave_same {old} {new} {r = r} is gave = subst (λ (l : List Item). GaveItems outside old new l r) is gave

  -- a fault is handed on
  pub gave_err : {old new : World} {items : List Item} {fault : Fault} (r : Result Unit Fault) → IsErrAnd r (λ e. e ≡ fault)
      → GaveItems outside old new items (Err fault) → GaveItems outside old new items r
  gave_err {old} {new} {items} r is gave =
      subst (λ (s : Result Unit Fault). GaveItems outside old new items s) (sym (err_is r is)) gave

  -- the status that a fault ends the giving with
  module _ {old new : World} {items : List Item} {fault : Fault} {status : Status} (gave : GaveItems outside old new items (Err fault))
      (is : status ≡ status_of fault) where
    pub sink_or_memory : (status ≡ ends.SinkFault) ⊎ (status ≡ ends.NoMemory)
    sink_or_memory = elim gave.fault [
      | inl sink ↦ inl (is ∙ ap status_of sink)
      | inr memory ↦ inr (is ∙ ap status_of memory)
    ]

    pub sink_rose : status ≡ ends.SinkFault → Rose (outside.sink_faults old) (outside.sink_faults new)
    sink_rose told = elim gave.fault [
      | inl sink ↦ subst (λ (f : Fault). IsCaused outside old new f) sink gave.caused
      | inr memory ↦ let other : ends.SinkFault ≡ ends.NoMemory = sym told ∙ (is ∙ ap status_of memory) in absurd (cc)
    ]

    pub none_failed : ¬ (TellsFault status) → outside.failed new ≡ false
    none_failed none = elim gave.fault [
      | inl sink ↦ absurd (none (subst TellsFault (sym (is ∙ ap status_of sink)) tt))
      | inr memory ↦ subst (λ (f : Fault). IsCaused outside old new f) memory gave.caused
    ]
