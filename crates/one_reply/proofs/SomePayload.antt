-- This file shows that a valid state that fits into pages has a payload.
use Rattle.std.proofs.Common.{◌≡◌, ℕ, ◌+◌, ◌*◌, ◌<◌, ◌≤◌, ◌^◌, suc, List, [], ◌∷◌, map, length, get_or, All, AllPairs}
use Rattle.std.proofs.Common.{refl, sym, ap, subst, inl, inr, arith}
use Rattle.std.proofs.lemmas.List.{length-map}
use Rattle.std.proofs.lemmas.List.Elements.{All-map, All-contains}
use Rattle.grid_base.specs.Grid.{grid_side, product_bound}
use Rattle.grid_base.specs.Point.{GridPoint, OnGrid, IsBefore}
use Rattle.grid_base.specs.Drawing.{Drawing}
use Rattle.grid_base.specs.declared.kinds.Kind.{Kind}
use Rattle.grid_base.specs.declared.kinds.Kind.TheVariants as kinds
use Rattle.grid_base.specs.declared.original.Original.{Original}
use Rattle.line_grammar.specs.Spellable.{IsName}
use Rattle.record_codec.specs.Fitting.{IsList}
use Rattle.record_codec.specs.Payload.{IsOriginal, IsValue, IsNamed, IsKeptTrace, payload}
use Rattle.state_check.specs.Tabled.{kept_parts, AreAscending}
use Rattle.state_check.proofs.Copying.{fits_as_list}
use Rattle.value_geometry.specs.Parts.{AreOriginals, HasParts}
use Rattle.value_table.specs.declared.value.Parts.{Parts}
use Rattle.value_table.specs.declared.value.Parts.TheVariants.{Points, Ids}
use Rattle.hook_chain.specs.StandingChains.{HasValidChain}
use Rattle.hook_chain.specs.Straight.{along}
use Rattle.chain_laws.proofs.Progress.{chain_is_short}
use Rattle.realm_insert.specs.State.{State}
use Rattle.realm_insert.specs.Snapshots.{snapshot_for, kept_entry, kept_steps, IsValidState}
use Rattle.realm_insert.proofs.OneSnapshot.{state_again}
use Rattle.realm_store.specs.Stands.{Opens}
use Rattle.one_reply.specs.Payloads.{LiesOnGrid, FitsInPages}

-- ---- lists that ascend
-- from its first number on, each number of the list takes another one below the bound
room_behind : {X : Type 0} (n : X → ℕ) (bound : ℕ) (x : X) (xs : List X) → AllPairs (λ a b. n a < n b) (x ∷ xs)
    → All (λ a. n a < bound) (x ∷ xs) → length (x ∷ xs) + n x ≤ bound
room_behind n bound x [] rising below = let first = below 0 x (omega arith) in omega (arith, first)
room_behind n bound x (y ∷ ys) rising below =
    let next = rising 0 1 x (omega arith) (omega arith) in
    let rest = room_behind n bound y ys (λ i j d less within. rising (suc i) (suc j) d (omega arith) (omega arith))
    (λ k d within. below (suc k) d (omega arith)) in
    omega (arith, next, rest)

-- so it has no more of them than there are
few_below : {X : Type 0} (n : X → ℕ) (bound : ℕ) (xs : List X) → AllPairs (λ a b. n a < n b) xs → All (λ a. n a < bound) xs
    → length xs ≤ bound
few_below n bound [] rising below = omega arith
few_below n bound (x ∷ xs) rising below = let room = room_behind n bound x xs rising below in omega (arith, room)

-- points in their order are numbered column by column
abbrev place_of : GridPoint → ℕ
place_of p = grid_side * p.x + p.y

place_rises : (p q : GridPoint) → OnGrid p → OnGrid q → IsBefore p q → place_of p < place_of q
place_rises p q on on_too (inl left) = omega (arith, on.row, left)
place_rises p q on on_too (inr (column, below)) = omega (arith, column, below)

place_below : (p : GridPoint) → OnGrid p → place_of p < product_bound
place_below p on = omega (arith, on.column, on.row)

-- so those that ascend fit
points_fit : (points : List GridPoint) → AllPairs IsBefore points → All OnGrid points → IsList OnGrid points
points_fit points ascend on =
    let rising : AllPairs (λ p q. place_of p < place_of q) points =
    λ i j d less within.
    place_rises (get_or points i d) (get_or points j d) (on i d (omega (arith, less, within))) (on j d within)
    (ascend i j d less within) in
    let few = few_below place_of product_bound points rising (λ k d within. place_below (get_or points k d) (on k d within)) in
    fits_as_list OnGrid points (omega (arith, few)) on

-- and ids do
ids_fit : (ids : List ℕ) → AllPairs (λ m n. m < n) ids → All (λ id. id < 2 ^ 32) ids → IsList (λ id. id < 2 ^ 32) ids
ids_fit ids ascend below =
    let few = few_below (λ n. n) (2 ^ 32) ids ascend below in fits_as_list (λ id. id < 2 ^ 32) ids (omega (arith, few)) below

-- ---- originals
-- a chain has no more links than its original has columns and rows
original_fits : (o : Original) → o.id < 2 ^ 32 → HasValidChain o → LiesOnGrid o → IsOriginal o
original_fits o id valid on =
    let short = chain_is_short (along o) o.chain valid in
    let few : length o.chain < 2 ^ 64 =
    omega (arith, short, on.from.column, on.from.row, on.to.column, on.to.row) in
    record { id = id; from = on.from; to = on.to; chain = fits_as_list OnGrid o.chain few on.chain }

-- the ids of the state are below the next one
ids_below : (s : State) → IsValidState s → All (λ (o : Original). o.id < 2 ^ 32) s.drawing.originals
ids_below s valid k d within = let id = (valid.ids k d within).1 in omega (arith, id, valid.most_ids)

originals_fit : (s : State) → IsValidState s → FitsInPages s → IsList IsOriginal s.drawing.originals
originals_fit s valid fits =
    let originals = s.drawing.originals in
    let below = ids_below s valid in
    let few = few_below (λ (o : Original). o.id) (2 ^ 32) originals valid.ids_rise below in
    fits_as_list IsOriginal originals (omega (arith, few))
    (λ k d within.
    original_fits (get_or originals k d) (below k d within) (valid.chains k d within) (fits.originals k d within))

-- ---- values
-- ids of originals are as those are
named_below : (d : Drawing) (ids : List ℕ) (parts : List Original) → All (λ (o : Original). o.id < 2 ^ 32) d.originals
    → AreOriginals d ids parts → All (λ id. id < 2 ^ 32) ids
named_below d ids parts below are =
    subst (All (λ id. id < 2 ^ 32)) are.by_id
    (All-map (λ id. id < 2 ^ 32) (λ (o : Original). o.id) parts
    (λ k x within.
    All-contains (λ (o : Original). o.id < 2 ^ 32) d.originals (get_or parts k x) below (are.there k x within)))

value_fits : (d : Drawing) (kind : Kind) (parts : Parts) → All OnGrid d.points → All (λ (o : Original). o.id < 2 ^ 32) d.originals
    → HasParts d kind parts → AreAscending parts → IsValue (record { kind = kind; parts = kept_parts parts })
value_fits d kinds.Points (Points list) on below has ascend = record {
  of_kind = tt;
  parts = points_fit list ascend (λ k x within. All-contains OnGrid d.points (get_or list k x) on (has k x within));
}
value_fits d kinds.Points (Ids ids) on below has ascend = absurd has
value_fits d kinds.Lines (Points list) on below has ascend = absurd has
value_fits d kinds.Lines (Ids ids) on below (parts, are) ascend =
    record { of_kind = tt; parts = ids_fit ids ascend (named_below d ids parts below are) }
value_fits d kinds.Regions (Points list) on below has ascend = absurd has
value_fits d kinds.Regions (Ids ids) on below (parts, are, even) ascend =
    record { of_kind = tt; parts = ids_fit ids ascend (named_below d ids parts below are) }

-- a name has at most 32 bytes
name_fits : (name : List ℕ) → IsName name → length name < 256
name_fits [] is = absurd is
name_fits (b ∷ bs) is = omega (arith, is.2)

values_fit : (s : State) → IsValidState s → FitsInPages s → IsList IsNamed (map kept_entry s.values)
values_fit s valid fits =
    let below = ids_below s valid in
    fits_as_list IsNamed (map kept_entry s.values) (omega (arith, fits.few_values, length-map s.values kept_entry))
    (All-map IsNamed kept_entry s.values
    (λ k other within.
    let entry = get_or s.values k other in
    let (is_name, has) = valid.values_fit k other within in record {
      name = name_fits entry.0 is_name;
      value = value_fits s.drawing entry.1.kind entry.1.parts fits.points below has (valid.parts_ascend k other within);
    }))

-- ---- traces
-- their numbers are those of changes
traces_fit : (s : State) → IsValidState s → IsList IsKeptTrace (map kept_steps s.traces)
traces_fit s valid =
    let few : length s.traces < 2 ^ 64 = grind (arith, valid.latest.count) in
    fits_as_list IsKeptTrace (map kept_steps s.traces) (omega (arith, few, length-map s.traces kept_steps))
    (All-map IsKeptTrace kept_steps s.traces
    (λ k other within.
    let number = valid.latest.numbers k other within in
    let trace = valid.traces_fit k other within in record {
      number = omega (arith, number, within, valid.most_changes);
      steps = (omega (arith, trace.few), trace.each);
    }))

-- ---- all of it
-- its payload is that of the state
pub some_payload : (s : State) → IsValidState s → FitsInPages s → (bytes : List ℕ) × Opens bytes s
some_payload s valid fits = (
  payload (snapshot_for s),
  record {
    snapshot = snapshot_for s;
    is_snapshot = record {
      changes = omega (arith, valid.most_changes);
      next_id = omega (arith, valid.most_ids);
      points = points_fit s.drawing.points valid.points_ascend fits.points;
      originals = originals_fit s valid fits;
      values = values_fit s valid fits;
      traces = traces_fit s valid;
    };
    is_payload = refl;
    state_is = sym (state_again s);
    valid = subst IsValidState (sym (state_again s)) valid;
  },
)
