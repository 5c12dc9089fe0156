-- This file shows that a line leads to one audit, so that a text has one verdict.
use Rattle.std.proofs.Common.{◌≡◌, ◌⊎◌, ◌↔◌, ℕ, zero, suc, ◌+◌, ◌*◌, ◌<◌, ◌^◌, min, List, [], ◌∷◌, ◌++◌, length, Contains, AllPairs}
use Rattle.std.proofs.Common.{refl, sym, ap, ap₂, subst, ◌∙◌, inl, inr, arith}
use Rattle.grid_base.specs.Point.{GridPoint, IsBefore}
use Rattle.grid_base.specs.MeetPoint.{IsCell, crossing_of}
use Rattle.grid_base.specs.Places.{RationalPoint}
use Rattle.grid_base.specs.Drawing.{Drawing}
use Rattle.grid_base.specs.declared.original.Original.{Original as AnOriginal}
use Rattle.grid_base.specs.declared.kinds.Step.{Step}
use Rattle.grid_base.specs.declared.kinds.Step.TheVariants as steps
use Rattle.grid_base.proofs.Balances.{factor_cancels}
use Rattle.grid_base.proofs.Elements.{Contains-here, Contains-later, Contains-cases, Contains-nil}
use Rattle.grid_base.proofs.Ends.{same_point}
use Rattle.grid_base.proofs.Orders.{IsBefore-asym}
use Rattle.grid_rational.proofs.Crossings.{crossing_is_place}
use Rattle.hook_chain.proofs.HookLaw.{one_hook}
use Rattle.hook_chain.specs.Redrawing.{redraw, round_corner, cut_at}
use Rattle.hook_chain.specs.Steps.{Permitted}
use Rattle.hook_chain.specs.Changed.{with_chain}
use Rattle.realm_audit.specs.Audits.{Audit, first_audit, next_count, Accepts, LineHolds, Runs}
use Rattle.realm_audit.specs.Verdicts.{AllAccepted, LeadsTo, FailsAt, IsVerdict}
use Rattle.realm_audit.specs.declared.item.Item.{Item}
use Rattle.realm_audit.specs.declared.item.Item.TheVariants.{Point, Unpoint, Original, Change, Remove, Segment, End}
use Rattle.realm_audit.specs.declared.item.Item.TheVariants as items
use Rattle.realm_audit.specs.declared.phase.Phase.TheVariants.{Stepping, Ended}
use Rattle.realm_audit.specs.declared.verdict.Verdict.{Verdict}
use Rattle.realm_audit.specs.declared.verdict.Verdict.TheVariants.{Sound, Unsound}
use Rattle.chain_laws.proofs.Ends.{one_segment}
use Rattle.realm_audit.proofs.OneItems.{one_item}

-- ---- ascending points
-- each point of the one list is in the other
abbrev AreIn : List GridPoint → List GridPoint → Type 0
AreIn ps qs = (p : GridPoint) → Contains ps p → Contains qs p

later_ascend : (p : GridPoint) (ps : List GridPoint) → AllPairs IsBefore (p ∷ ps) → AllPairs IsBefore ps
later_ascend p ps up = λ i j d before within. up (suc i) (suc j) d (omega arith) (omega arith)

first_before : (p q : GridPoint) (ps : List GridPoint) → AllPairs IsBefore (p ∷ ps) → Contains ps q → IsBefore p q
first_before p q ps up (k, within, is) = subst (IsBefore p) is (up zero (suc k) q (omega arith) (omega arith))

one_first : (p q : GridPoint) (ps qs : List GridPoint) → AllPairs IsBefore (p ∷ ps) → AllPairs IsBefore (q ∷ qs)
    → AreIn (p ∷ ps) (q ∷ qs) → AreIn (q ∷ qs) (p ∷ ps) → p ≡ q
one_first p q ps qs up also forth back = elim (Contains-cases q qs p (forth p (Contains-here p ps))) [
  | inl same ↦ sym same
  | inr p_later ↦ elim (Contains-cases p ps q (back q (Contains-here q qs))) [
    | inl same ↦ same
    | inr q_later ↦ absurd (IsBefore-asym p q (first_before p q ps up q_later) (first_before q p qs also p_later))
  ]
]

later_in : (p : GridPoint) (ps qs : List GridPoint) → AllPairs IsBefore (p ∷ ps) → AreIn (p ∷ ps) (p ∷ qs) → AreIn ps qs
later_in p ps qs up forth = λ q there. elim (Contains-cases p qs q (forth q (Contains-later p ps q there))) [
  | inl same ↦
      let before = subst (λ (r : GridPoint). IsBefore r q) same (first_before p q ps up there) in
      absurd (IsBefore-asym q q before before)
  | inr later ↦ later
]

-- two ascending lists of the same points are one
one_list : (ps qs : List GridPoint) → AllPairs IsBefore ps → AllPairs IsBefore qs → AreIn ps qs → AreIn qs ps → ps ≡ qs
one_list [] [] up also forth back = refl
one_list [] (q ∷ qs) up also forth back = absurd (Contains-nil q (back q (Contains-here q qs)))
one_list (p ∷ ps) [] up also forth back = absurd (Contains-nil p (forth p (Contains-here p ps)))
one_list (p ∷ ps) (q ∷ qs) up also forth back =
    let same = one_first p q ps qs up also forth back in
    let begins = λ (r : GridPoint). r ∷ qs in
    let forth_p = subst (λ r. AreIn (p ∷ ps) (begins r)) (sym same) forth in
    let back_p = subst (λ r. AreIn (begins r) (p ∷ ps)) (sym same) back in
    let also_p = subst (λ r. AllPairs IsBefore (begins r)) (sym same) also in
    ap₂ (λ (r : GridPoint) (l : List GridPoint). r ∷ l) same
    (one_list ps qs (later_ascend p ps up) (later_ascend q qs also) (later_in p ps qs up forth_p) (later_in p qs ps also_p back_p))

-- so are those of which one fact is told
one_list_by : (P : GridPoint → Type 0) (ps qs : List GridPoint) → AllPairs IsBefore ps → AllPairs IsBefore qs
    → ((p : GridPoint) → Contains ps p ↔ P p) → ((p : GridPoint) → Contains qs p ↔ P p) → ps ≡ qs
one_list_by P ps qs up also of_ps of_qs =
    one_list ps qs up also (λ p there. (of_qs p).1 ((of_ps p).0 there)) (λ p there. (of_ps p).1 ((of_qs p).0 there))

-- ---- a step leads to one drawing
one_corner : (q : RationalPoint) (y z : GridPoint) → 0 < q.w → IsCell q y → IsCell q z → y ≡ z
one_corner q y z real of_y of_z =
    let columns = factor_cancels (2 * y.x + 1) (2 * z.x + 1) q.w real (sym of_y.0 ∙ of_z.0) in
    let rows = factor_cancels (2 * y.y + 1) (2 * z.y + 1) q.w real (sym of_y.1 ∙ of_z.1) in
    same_point y z (omega arith) (omega arith)

one_drawing : (d e f : Drawing) (step : Step) → Permitted d step e → Permitted d step f → e ≡ f
one_drawing d e f (steps.Split p t) (point, piece, inside, path, hook, is) (point', piece', inside', path', hook', is') =
    is ∙ ap (λ (l : List GridPoint). redraw t l d) (one_hook t p path path' piece.0 hook hook') ∙ sym is'
one_drawing d e f (steps.Meet t u x) (piece_t, piece_u, order, cross, meet, path, other, hook_t, hook_u, is)
    (piece_t', piece_u', order', cross', meet', path', other', hook_t', hook_u', is') =
    is ∙ ap₂ (λ (l m : List GridPoint). redraw u m (redraw t l d)) (one_hook t x path path' piece_t.0 hook_t hook_t')
    (one_hook u x other other' piece_u.0 hook_u hook_u') ∙ sym is'
one_drawing d e f (steps.Corner t u) (piece_t, piece_u, cross, even_t, rises, even_u, falls, z, cell, is)
    (piece_t', piece_u', cross', even_t', rises', even_u', falls', y, cell', is') =
    let one = one_corner (crossing_of t u) z y (crossing_is_place t u cross).first.real cell cell' in
    is ∙ ap (λ (c : GridPoint). redraw u (round_corner u c) (redraw t (cut_at t c) d)) one ∙ sym is'

-- ---- a line leads to one audit
abbrev drawing_of : List GridPoint → List AnOriginal → Drawing
drawing_of points originals = record { points = points; originals = originals }

one_audit : (old a b : Audit) (item : Item) → LineHolds old item a → LineHolds old item b → a ≡ b
one_audit old a b (Point p) (takes, lacks, d, gains, is) (takes', lacks', e, gains', is') =
    let points = one_list_by (λ q. (q ≡ p) ⊎ Contains old.drawing.points q) d.points e.points gains.ascending gains'.ascending
    gains.points gains'.points in
    is ∙ ap (λ (f : Drawing). record old { drawing = f }) (ap₂ drawing_of points (gains.originals ∙ sym gains'.originals))
    ∙ sym is'
one_audit old a b (Unpoint p) (placing, there, d, loses, is) (placing', there', e, loses', is') =
    let points = one_list_by (λ q. Contains old.drawing.points q × (q ≡ p → ⊥)) d.points e.points loses.ascending
    loses'.ascending loses.points loses'.points in
    is ∙ ap (λ (f : Drawing). record old { drawing = f }) (ap₂ drawing_of points (loses.originals ∙ sym loses'.originals))
    ∙ sym is'
one_audit old a b (Original id chain) (opening, above, d, (s, valid, drawn), is)
    (opening', above', e, (t, valid', drawn'), is') =
    let same = one_segment chain s t (record { ordered = valid.ends; leads = valid.leads })
    (record { ordered = valid'.ends; leads = valid'.leads }) in
    let one = drawn ∙ ap (λ r. with_chain old.drawing id r chain) same ∙ sym drawn' in
    is ∙ ap (λ (f : Drawing). record old { drawing = f; greatest = id }) one ∙ sym is'
one_audit old a b Change held also = held.2 ∙ sym also.2
one_audit old a b (Remove id) held also = held.2 ∙ sym also.2
one_audit old a b (Segment id p q) held also = held.3 ∙ sym also.3
one_audit old a b (items.Step step) (takes, d, permitted, is) (takes', e, permitted', is') =
    let one = one_drawing old.drawing d e step permitted permitted' in
    is ∙ ap (λ (f : Drawing). record old { drawing = f; phase = Stepping; steps = next_count old.steps }) one ∙ sym is'
one_audit old a b End held also = held.2 ∙ sym also.2

-- so do items one after the other
pub one_run : (old a b : Audit) (list : List Item) → Runs old list a → Runs old list b → a ≡ b
one_run old a b [] first second = sym first ∙ second
one_run old a b (item ∷ list) (m, held, rest) (n, also, more) =
    one_run n a b list (subst (λ (o : Audit). Runs o list a) (one_audit old m n item held also) rest) more

-- and texts
one_accepted : (old a b : Audit) (text : List ℕ) → Accepts old text a → Accepts old text b → a ≡ b
one_accepted old a b text (item, is, held) (other, is_other, also) =
    one_audit old a b other (subst (λ (i : Item). LineHolds old i a) (one_item text item other is is_other) held) also

one_reached : (old a b : Audit) (texts : List (List ℕ)) → AllAccepted old texts a → AllAccepted old texts b → a ≡ b
one_reached old a b [] first second = sym first ∙ second
one_reached old a b (text ∷ texts) (m, held, rest) (n, also, more) =
    one_reached n a b texts (subst (λ (o : Audit). AllAccepted o texts a) (one_accepted old m n text held also) rest) more

-- ---- a text has one verdict
-- the text isn't accepted
abbrev Refuses : Audit → List ℕ → Type 0
Refuses audit text = (new : Audit) → Accepts audit text new → ⊥

-- where all texts are accepted none is refused
none_fails : (old new reached : Audit) (before : List (List ℕ)) (text : List ℕ) (after : List (List ℕ))
    → AllAccepted old (before ++ text ∷ after) new → AllAccepted old before reached → Refuses reached text → ⊥
none_fails old new reached [] text after (next, accepted, rest) here refuses =
    refuses next (subst (λ (a : Audit). Accepts a text next) here accepted)
none_fails old new reached (first ∷ before) text after (next, accepted, rest) (other, also, more) refuses =
    none_fails next new reached before text after rest
    (subst (λ (a : Audit). AllAccepted a before reached) (one_accepted old other next first also accepted) more) refuses

all_or_fails : (texts : List (List ℕ)) (audit : Audit) (n : ℕ) → LeadsTo texts audit → FailsAt texts n → ⊥
all_or_fails texts audit n leads (before, text, after, split, fails, at) =
    none_fails first_audit audit fails.reached before text after
    (subst (λ (l : List (List ℕ)). LeadsTo l audit) split leads) fails.accepted fails.fails

same_head : {X : Type 0} {x y : X} {xs ys : List X} → x ∷ xs ≡ y ∷ ys → x ≡ y
same_head {X} {x} {y} {xs} {ys} same = cc

same_tail : {X : Type 0} {x y : X} {xs ys : List X} → x ∷ xs ≡ y ∷ ys → xs ≡ ys
same_tail {X} {x} {y} {xs} {ys} same = cc

-- the first that is refused has one place
one_place : (old a b : Audit) (before before' : List (List ℕ)) (text text' : List ℕ) (after after' : List (List ℕ))
    → before ++ text ∷ after ≡ before' ++ text' ∷ after' → AllAccepted old before a → Refuses a text
    → AllAccepted old before' b → Refuses b text' → length before ≡ length before'
one_place old a b [] [] text text' after after' split to_a refuses to_b refuses' = refl
one_place old a b [] (first ∷ before) text text' after after' split here refuses (next, accepted, rest) refuses' =
    absurd (refuses next (subst (λ (o : Audit). Accepts o text next) here
    (subst (λ (t : List ℕ). Accepts old t next) (sym (same_head split)) accepted)))
one_place old a b (first ∷ before) [] text text' after after' split (next, accepted, rest) refuses here refuses' =
    absurd (refuses' next (subst (λ (o : Audit). Accepts o text' next) here
    (subst (λ (t : List ℕ). Accepts old t next) (same_head split) accepted)))
one_place old a b (first ∷ before) (first' ∷ before') text text' after after' split (m, held, rest) refuses (n, also, more)
    refuses' =
    let same = one_accepted old m n first' (subst (λ (t : List ℕ). Accepts old t m) (same_head split) held) also in
    let one = one_place n a b before before' text text' after after' (same_tail split)
    (subst (λ (o : Audit). AllAccepted o before a) same rest) refuses more refuses' in
    ap suc one

one_failure : (texts : List (List ℕ)) (m n : ℕ) → FailsAt texts m → FailsAt texts n → m ≡ n
one_failure texts m n (before, text, after, split, fails, at) (before', text', after', split', fails', at') =
    let same = one_place first_audit fails.reached fails'.reached before before' text text' after after' (sym split ∙ split')
    fails.accepted fails.fails fails'.accepted fails'.fails in
    at ∙ ap (λ (k : ℕ). next_count (min k (2 ^ 63))) same ∙ sym at'

-- a sound text isn't unsound
not_both : (texts : List (List ℕ)) (changes steps n : ℕ) → IsVerdict texts (Sound changes steps)
    → IsVerdict texts (Unsound n) → ⊥
not_both texts changes steps n (a, leads, ended, changed, stepped) (inl (b, also, going, at)) =
    going (subst (λ (o : Audit). o.phase ≡ Ended) (one_reached first_audit a b texts leads also) ended)
not_both texts changes steps n (a, leads, ended, changed, stepped) (inr fails) = all_or_fails texts a n leads fails

pub one_verdict : (texts : List (List ℕ)) (first second : Verdict) → IsVerdict texts first → IsVerdict texts second
    → first ≡ second
one_verdict texts (Sound c s) (Sound d t) (a, leads, ended, changed, stepped) (b, also, ended', changed', stepped') =
    let one = one_reached first_audit a b texts leads also in
    ap₂ Sound (changed ∙ ap (λ (o : Audit). o.changes) one ∙ sym changed')
    (stepped ∙ ap (λ (o : Audit). o.steps) one ∙ sym stepped')
one_verdict texts (Sound c s) (Unsound n) sound unsound = absurd (not_both texts c s n sound unsound)
one_verdict texts (Unsound n) (Sound c s) unsound sound = absurd (not_both texts c s n sound unsound)
one_verdict texts (Unsound m) (Unsound n) (inl (a, leads, going, at)) (inl (b, also, going', at')) =
    ap Unsound (at ∙ sym at')
one_verdict texts (Unsound m) (Unsound n) (inl (a, leads, going, at)) (inr fails) =
    absurd (all_or_fails texts a n leads fails)
one_verdict texts (Unsound m) (Unsound n) (inr fails) (inl (a, leads, going, at)) =
    absurd (all_or_fails texts a m leads fails)
one_verdict texts (Unsound m) (Unsound n) (inr fails) (inr also) = ap Unsound (one_failure texts m n fails also)
