-- This file shows that a store keeps its terms at the desk.
use Rattle.std.proofs.Common.{◌≡◌, ◌⊎◌, inl, inr, ⊎_elim, ℕ, zero, suc, ◌<◌, List, [], ◌∷◌, length, Bool, true, false}
use Rattle.std.proofs.Common.{refl, sym, ◌∙◌, ap, subst, arith}
use Rattle.std.specs.Prelude.{◌≢◌, Option, Some, None, IsSome}
use Rattle.outside_world.specs.View.{View}
use Rattle.line_grammar.specs.Lines.{Says}
use Rattle.line_grammar.specs.declared.command.Change.{Change}
use Rattle.line_grammar.specs.declared.command.Command.TheVariants as commands
use Rattle.record_codec.specs.declared.entry.Entry.{Entry}
use Rattle.realm_files.specs.Stands.{Files}
use Rattle.realm_files.specs.Writing.{RestsBetween, generation_of, next_generation}
use Rattle.realm_files.proofs.Runs.{leaves_wider}
use Rattle.realm_store.specs.Stands.{meaning}
use Rattle.realm_store.specs.Leading.{LeadOnBy}
use Rattle.realm_store.specs.Keeping.{Kept, Group, SpendableKept, state_with, present, HasGroup}
use Rattle.realm_store.specs.Keeping.{RestsAt, AllRest}
use Rattle.realm_store.specs.Making.{IsMade, Ends, kept_with}
use Rattle.realm_store.specs.Committing.{IsWritten, IsReplaced}
use Rattle.realm_store.specs.Renewing.{IsRenewed}
use Rattle.rose_shell.specs.Replies.{checkpoint_reply}
use Rattle.rose_shell.specs.Desk.{AllRestBy, StandsBetween, Settled, CutShort}
use Rattle.rose_shell.specs.Running.{StoreTerms, ready_store}
use Rattle.rose_shell.proofs.Steps.{changes_led}
use Rattle.rose_shell.proofs.Treatments.{settled_beside}

-- what the store keeps of the files is what the desk asks of them, and back
pub rests_at_desk : {v : View} {s : SpendableKept} → AllRest s.kept v → AllRestBy StoreTerms v s
rests_at_desk rest = record { stable = rest.stable; rests = rest.rests }

pub rests_in_store : {v : View} {s : SpendableKept} → AllRestBy StoreTerms v s → AllRest s.kept v
rests_in_store rest = record { stable = rest.stable; rests = rest.rests }

-- of two states the files stand for one, where the gate is there
pub either_stands : (has : Bool) (P Q E : Type 0) → (has ≡ true → P ⊎ Q) → (has ≡ true → P) ⊎ (E → Q)
either_stands true P Q E two = ⊎_elim (λ p. inl (λ _. p)) (λ q. inr (λ _. q)) (two refl)
either_stands false P Q E two = inl (λ is. absurd (cc))

-- a group is open, or none is
pub none_open : (group : Option Group) → (IsSome group → ⊥) → group ≡ None
none_open None never = refl
none_open (Some g) never = absurd (never refl)

pub not_open : (group : Option Group) → IsSome group → group ≡ None → ⊥
not_open group has none = let never = subst (λ (g : Option Group). IsSome g) none has in cc

-- a store without a group is in the state that it keeps
pub present_alone : (s : SpendableKept) → s.group ≡ None → present s ≡ s.kept.state
present_alone s none = ap (λ (g : Option Group). state_with s.kept.state g) none

-- the files keep the same, and the world is as it was
pub settled_same : {v : View} {start end : SpendableKept} → AllRest start.kept v → end.kept ≡ start.kept
    → Settled StoreTerms v v start end
settled_same {v} rest same =
    settled_beside (rests_at_desk rest) (rests_at_desk (subst (λ (k : Kept). AllRest k v) (sym same) rest))

-- what is kept before and after is not the same
kept_moves : {P : Type 0} (start end : SpendableKept) → end.kept ≢ start.kept → start.kept ≡ end.kept → P
kept_moves start end moves same = absurd (moves (sym same))

-- while a record is written the files stand for the state before it or after it
while_written : (start end : SpendableKept) (were files : Files) → end.kept ≢ start.kept
    → RestsBetween meaning start.kept end.kept files → StandsBetween StoreTerms.same StoreTerms.stands start end were files
while_written start end were files moves rests = (
  either_stands start.kept.has_gate _ _ _ (λ has. ⊎_elim (λ from. inl from) (λ at. inr (inl at)) (rests has)),
  kept_moves start end moves,
)

-- it is stable,
record_written : {old new : View} {start end : SpendableKept} → end.kept ≢ start.kept
    → IsWritten old new start.kept end.kept → AllRest end.kept new → Settled StoreTerms old new start end
record_written {old} {start = start} {end} moves written rest = record {
  leaves = leaves_wider written (λ files. while_written start end old.reads files moves);
  still = kept_moves start end moves;
  rest = rests_at_desk rest;
}

-- or the disk failed meanwhile
record_cut_off : {old new : View} {start : SpendableKept} {line reply : List ℕ} {after : Kept} → after ≢ start.kept
    → StoreTerms.answers start line reply (ready_store after) → StoreTerms.writes start line
    → IsWritten old new start.kept after → CutShort StoreTerms old new start line
record_cut_off {old} {start = start} {reply = reply} {after} moves answer may_write written = record {
  reply = reply;
  after = ready_store after;
  answer = answer;
  may_write = may_write;
  leaves = leaves_wider written (λ files. while_written start (ready_store after) old.reads files moves);
  still = kept_moves start (ready_store after) moves;
}

-- ---- changes

-- a change that is made changes the state, by its number
made_moves : {c : Change} {old new : Kept} {reply : List ℕ} → IsMade c old reply new → new ≢ old
made_moves made same = omega (arith, made.makes.next.changes, ap (λ (k : Kept). k.state.changes) same)

pub change_written : {c : Change} {old new : View} {start end : SpendableKept} {reply : List ℕ} → IsMade c start.kept reply end.kept
    → IsWritten old new start.kept end.kept → AllRest end.kept new → Settled StoreTerms old new start end
change_written made written rest = record_written (made_moves made) written rest

pub change_cut_off : {old new : View} {start : SpendableKept} {line reply : List ℕ} {after : Kept} (c : Change)
    → Says line (commands.Change c) → start.group ≡ None → IsMade c start.kept reply after
    → StoreTerms.answers start line reply (ready_store after) → IsWritten old new start.kept after
    → CutShort StoreTerms old new start line
change_cut_off c says none made answer written =
    record_cut_off (made_moves made) answer (inl (inl (c, says), none)) written

-- ---- groups

-- a group with a change changes the state, by the number of its last
group_moves : (old : Kept) (group : Group) (entries : List Entry) → 0 < length entries
    → LeadOnBy old.state entries group.state → kept_with entries old group ≢ old
group_moves old group [] some leads same = omega (arith, some)
group_moves old group (e ∷ entries) some leads same =
    omega (arith, changes_led old.state (e ∷ entries) group.state leads, ap (λ (k : Kept). k.state.changes) same)

ends_moves : {old new : SpendableKept} {count : ℕ} → Ends old count new → 0 < count → new.kept ≢ old.kept
ends_moves {old} ends some same =
    group_moves old.kept ends.group ends.group.entries (omega (arith, some, ends.count_is)) ends.leads
    (sym (ap (λ (s : SpendableKept). s.kept) ends.new_is) ∙ same)

-- one without a change leaves what is kept
group_stays : (old : Kept) (group : Group) (entries : List Entry) → length entries ≡ 0 → kept_with entries old group ≡ old
group_stays old group [] none = refl
group_stays old group (e ∷ entries) none = absurd (omega (arith, none))

ends_stays : {old new : SpendableKept} {count : ℕ} → Ends old count new → count ≡ 0 → new.kept ≡ old.kept
ends_stays {old} ends none =
    ap (λ (s : SpendableKept). s.kept) ends.new_is
    ∙ group_stays old.kept ends.group ends.group.entries (sym ends.count_is ∙ none)

-- a group is written as one record, or has no change and nothing is written
pub group_written : {old new : View} {start end : SpendableKept} (count : ℕ) → Ends start count end → (count ≡ 0 → new ≡ old)
    → IsWritten old new start.kept end.kept → AllRest start.kept old → AllRest end.kept new → Settled StoreTerms old new start end
group_written {old} {new} {start} {end} zero ends nothing written before rest =
    subst (λ (v : View). Settled StoreTerms old v start end) (sym (nothing refl)) (settled_same before (ends_stays ends refl))
group_written (suc count) ends nothing written before rest = record_written (ends_moves ends (omega arith)) written rest

pub group_cut_off : {old new : View} {start after : SpendableKept} {line reply : List ℕ} {count : ℕ} → Ends start count after → 0 < count
    → StoreTerms.answers start line reply after → Says line commands.Commit → HasGroup start → IsWritten old new start.kept after.kept
    → CutShort StoreTerms old new start line
group_cut_off {start = start} {after} {line} {reply} ends some answer says has written =
    let alone : after ≡ ready_store after.kept =
    ends.new_is ∙ ap (λ (s : SpendableKept). ready_store s.kept) (sym ends.new_is) in
    record_cut_off (ends_moves ends some) (subst (λ (s : SpendableKept). StoreTerms.answers start line reply s) alone answer)
    (inr (says, has)) written

-- ---- checkpoints

-- a checkpoint that is made changes what is kept, by the number of the generation
renewed_moves : {old new : Kept} → IsRenewed old new → new ≢ old
renewed_moves {old} renewed same =
    let next : generation_of old.place ≡ next_generation old.place =
    ap (λ (k : Kept). generation_of k.place) (sym same) ∙ ap generation_of renewed.place in
    omega (arith, next)

-- while it is made the files rest at what was kept, or at what is kept then
while_replaced : (start end : SpendableKept) (were files : Files) → end.kept ≢ start.kept
    → RestsAt start.kept files ⊎ RestsAt end.kept files → StandsBetween StoreTerms.same StoreTerms.stands start end were files
while_replaced start end were files moves rests =
    (⊎_elim (λ at. inl (λ _. inl at)) (λ at. inr (λ _. inl at)) rests, kept_moves start end moves)

-- it is made, or the disk failed meanwhile
pub checkpoint_written : {old new : View} {start end : SpendableKept} → IsRenewed start.kept end.kept
    → IsReplaced old new start.kept end.kept → AllRest end.kept new → Settled StoreTerms old new start end
checkpoint_written {old} {start = start} {end} renewed replaced rest = record {
  leaves = leaves_wider replaced (λ files. while_replaced start end old.reads files (renewed_moves renewed));
  still = kept_moves start end (renewed_moves renewed);
  rest = rests_at_desk rest;
}

pub checkpoint_cut_off : {old new : View} {start : SpendableKept} {line : List ℕ} {after : Kept} → Says line commands.Checkpoint
    → start.group ≡ None → StoreTerms.answers start line checkpoint_reply (ready_store after) → IsRenewed start.kept after
    → IsReplaced old new start.kept after → CutShort StoreTerms old new start line
checkpoint_cut_off {old} {start = start} {after = after} says none answer renewed replaced = record {
  reply = checkpoint_reply;
  after = ready_store after;
  answer = answer;
  may_write = inl (inr says, none);
  leaves = leaves_wider replaced (λ files. while_replaced start (ready_store after) old.reads files (renewed_moves renewed));
  still = kept_moves start (ready_store after) (renewed_moves renewed);
}
