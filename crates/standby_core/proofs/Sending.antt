-- This file shows which frames are sent of one record more, and that they have a text.
use Rattle.std.proofs.Common.{◌≡◌, ◌<◌, ◌+◌, ℕ, List, [], ◌∷◌, ◌++◌, length, take, get_or, map, true, false, cond, nat_lt}
use Rattle.std.proofs.Common.{refl, sym, ap, ◌∙◌, inl, inr}
use Rattle.std.specs.List.{All, filter}
use Rattle.std.proofs.lemmas.List.{take_more, map-append, append-nil}
use Rattle.std.proofs.lemmas.List.Elements.{All-filter, All-map, filter-append}
use Rattle.std.proofs.lemmas.Bool.{lt-ltb, le-ltb, cases_lt}
use Rattle.record_codec.specs.declared.record.Record.{Record}
use Rattle.record_codec.specs.Fitting.{IsRecord}
use Rattle.standby_core.specs.declared.frame.Frame.TheVariants.{Rec}
use Rattle.standby_core.specs.Frames.{HasText}
use Rattle.standby_core.specs.Shipping.{last_number, records_above}

-- with one record more
above_more : (k : ℕ) (some : List Record) (r : Record)
    → records_above k (some ++ r ∷ []) ≡ records_above k some ++ cond (nat_lt k (last_number r)) (Rec r ∷ []) []
above_more k some r =
    let test = λ (q : Record). nat_lt k (last_number q) in
    let one : map Rec (filter test (r ∷ [])) ≡ cond (nat_lt k (last_number r)) (Rec r ∷ []) [] =
    elim (nat_lt k (last_number r))
    as (λ b. map Rec (cond b (r ∷ []) []) ≡ cond b (Rec r ∷ []) []) [ true ↦ refl | false ↦ refl ] in
    ap (map Rec) (filter-append test some (r ∷ [])) ∙ map-append Rec (filter test some) (filter test (r ∷ []))
    ∙ ap (λ l. records_above k some ++ l) one

pub above_next : (k i : ℕ) (records : List Record) (r : Record) → i < length records → r ≡ get_or records i r
    → k < last_number r → records_above k (take (i + 1) records) ≡ records_above k (take i records) ++ Rec r ∷ []
above_next k i records r within is above =
    ap (records_above k) (take_more records i r within)
    ∙ ap (λ q. records_above k (take i records ++ q ∷ [])) (sym is)
    ∙ above_more k (take i records) r
    ∙ ap (λ b. records_above k (take i records) ++ cond b (Rec r ∷ []) []) (lt-ltb k (last_number r) above)

not-ltb : (a b : ℕ) → (a < b → ⊥) → nat_lt a b ≡ false
not-ltb a b never =
    elim (cases_lt a b) [
      | inl below ↦ absurd (never below)
      | inr above ↦ le-ltb a b above
    ]

pub above_same : (k i : ℕ) (records : List Record) (r : Record) → i < length records → r ≡ get_or records i r
    → (k < last_number r → ⊥) → records_above k (take (i + 1) records) ≡ records_above k (take i records)
above_same k i records r within is below =
    ap (records_above k) (take_more records i r within)
    ∙ ap (λ q. records_above k (take i records ++ q ∷ [])) (sym is)
    ∙ above_more k (take i records) r
    ∙ ap (λ b. records_above k (take i records) ++ cond b (Rec r ∷ []) []) (not-ltb k (last_number r) below)
    ∙ append-nil (records_above k (take i records))

-- records with a text are sent as frames with one
pub above_have_text : (k : ℕ) (records : List Record) → All IsRecord records → All HasText (records_above k records)
above_have_text k records all =
    let test = λ (r : Record). nat_lt k (last_number r) in
    All-map HasText Rec (filter test records) (All-filter test IsRecord records all)
