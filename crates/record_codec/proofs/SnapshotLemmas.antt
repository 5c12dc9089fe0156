-- This file shows that snapshots are read exactly where their payloads stand.
use Rattle.std.proofs.Common.{◌≡◌, ℕ, ◌^◌, Bool, true, false, ◌&&◌, cond, eqb, List, [], ◌∷◌, Some, refl, sym, ap, ◌∙◌}
use Rattle.std.specs.Int.{w32, w64}
use Rattle.std.proofs.lemmas.Bool.{eqb-true}
use Rattle.grid_base.specs.Point.{GridPoint}
use Rattle.grid_base.specs.declared.kinds.Step.{Step}
use Rattle.grid_base.specs.declared.original.Original.{Original}
use Rattle.record_codec.specs.declared.snapshot.Named.{Named}
use Rattle.record_codec.specs.declared.snapshot.Kept.{Kept}
use Rattle.record_codec.specs.declared.snapshot.Snapshot.{Snapshot}
use Rattle.record_codec.specs.Reading.{whole}
use Rattle.record_codec.specs.Payload.{original, kept, lists, long_payload, payload, empty_snapshot, has_none, has_nothing}
use Rattle.record_codec.specs.Payload.{is_empty_state, IsOriginal, IsKeptTrace, IsSnapshot, original_at, kept_at, snapshot_at}
use Rattle.record_codec.proofs.Bytes.{IsBytes, four_bytes, eight_bytes}
use Rattle.record_codec.proofs.Codecs.{IsCodec, some_is, both_codec, made_codec, renamed_codec, number_codec, list_codec}
use Rattle.record_codec.proofs.PlaceLemmas.{and_true, point_codec}
use Rattle.record_codec.proofs.StepLemmas.{step_codec}
use Rattle.record_codec.proofs.RecordLemmas.{whole_is, whole_again}
use Rattle.record_codec.proofs.ValueLemmas.{named_codec}

-- ---- codecs

original_codec : IsCodec IsOriginal original original_at
unfolding original original_at
original_codec = renamed_codec IsOriginal
    (λ o has. record { id = has.0; from = has.1.0; to = has.1.1.0; chain = has.1.1.1 })
    (λ o is. (is.id, (is.from, (is.to, is.chain))))
    (made_codec (λ (x : ℕ × (GridPoint × (GridPoint × List GridPoint))). record { id = x.0; a = x.1.0; b = x.1.1.0; chain = x.1.1.1 })
    (λ o. (o.id, (o.a, (o.b, o.chain)))) (λ o. refl) (λ x. refl)
    (both_codec (number_codec w32 (2 ^ 32) four_bytes) (both_codec point_codec (both_codec point_codec (list_codec point_codec)))))

kept_codec : IsCodec IsKeptTrace kept kept_at
unfolding kept kept_at
kept_codec = renamed_codec IsKeptTrace (λ k has. record { number = has.0; steps = has.1 }) (λ k is. (is.number, is.steps))
    (made_codec (λ (x : ℕ × List Step). record { number = x.0; steps = x.1 }) (λ k. (k.number, k.steps)) (λ k. refl) (λ x. refl)
    (both_codec (number_codec w64 (2 ^ 64) eight_bytes) (list_codec step_codec)))

snapshot_codec : IsCodec IsSnapshot long_payload snapshot_at
unfolding lists long_payload snapshot_at
snapshot_codec =
    let number = number_codec w64 (2 ^ 64) eight_bytes in
    renamed_codec IsSnapshot
    (λ s has. record {
      changes = has.0;
      next_id = has.1.0;
      points = has.1.1.0;
      originals = has.1.1.1.0;
      values = has.1.1.1.1.0;
      traces = has.1.1.1.1.1;
    })
    (λ s is. (is.changes, (is.next_id, (is.points, (is.originals, (is.values, is.traces))))))
    (made_codec (λ (x : ℕ × (ℕ × (List GridPoint × (List Original × (List Named × List Kept))))).
    record { changes = x.0; next_id = x.1.0; points = x.1.1.0; originals = x.1.1.1.0; values = x.1.1.1.1.0; traces = x.1.1.1.1.1 })
    (λ s. (s.changes, (s.next_id, (s.points, (s.originals, (s.values, s.traces)))))) (λ s. refl) (λ x. refl)
    (both_codec number (both_codec number (both_codec (list_codec point_codec) (both_codec (list_codec original_codec)
    (both_codec (list_codec named_codec) (list_codec kept_codec)))))))

-- ---- the empty state

none_is : {A : Type 0} (xs : List A) → has_none xs ≡ true → xs ≡ []
none_is [] e = refl
none_is (x ∷ xs) e = absurd cc

-- a state that is tested to be empty is the empty state
pub is_empty_state-true : (s : Snapshot) → is_empty_state s ≡ true → s ≡ empty_snapshot
is_empty_state-true s e =
    let counts = and_true ((eqb s.changes 0) && (eqb s.next_id 1)) (has_nothing s) e in
    let numbers = and_true (eqb s.changes 0) (eqb s.next_id 1) counts.0 in
    let three = and_true ((has_none s.points && has_none s.originals) && has_none s.values) (has_none s.traces) counts.1 in
    let two = and_true (has_none s.points && has_none s.originals) (has_none s.values) three.0 in
    let one = and_true (has_none s.points) (has_none s.originals) two.0 in
    let changes : s.changes ≡ 0 = eqb-true s.changes 0 numbers.0 in
    let next_id : s.next_id ≡ 1 = eqb-true s.next_id 1 numbers.1 in
    let points : s.points ≡ [] = none_is s.points one.0 in
    let originals : s.originals ≡ [] = none_is s.originals one.1 in
    let values : s.values ≡ [] = none_is s.values two.1 in
    let traces : s.traces ≡ [] = none_is s.traces three.1 in
    λ i. record {
      changes = changes i;
      next_id = next_id i;
      points = points i;
      originals = originals i;
      values = values i;
      traces = traces i;
    }

long_is_something : (s : Snapshot) → long_payload s ≡ [] → ⊥
unfolding long_payload
long_is_something s e = cc

by_test : (s : Snapshot) (b : Bool) → is_empty_state s ≡ b → cond b [] (long_payload s) ≡ [] → s ≡ empty_snapshot
by_test s true is e = is_empty_state-true s is
by_test s false is e = absurd (long_is_something s e)

-- only the empty state has an empty payload
pub empty_payload : (s : Snapshot) → payload s ≡ [] → s ≡ empty_snapshot
empty_payload s e = by_test s (is_empty_state s) refl e

-- the payload of another state has all that the state has
pub payload-long : (s : Snapshot) → is_empty_state s ≡ false → payload s ≡ long_payload s
payload-long s e = rw e refl

something : (s : Snapshot) (b : Bool) → is_empty_state s ≡ b → (cond b [] (long_payload s) ≡ [] → ⊥) → b ≡ false
something s true is no_payload = absurd (no_payload refl)
something s false is no_payload = refl

-- ---- what a reader of payloads answers

-- what was read is a state of which the bytes are the payload
pub found : (bytes : List ℕ) (s : Snapshot) → IsBytes bytes → whole snapshot_at bytes ≡ Some s → is_empty_state s ≡ false
    → IsSnapshot s × (bytes ≡ payload s)
found bytes s is_bytes e not_empty =
    let t = whole_is snapshot_codec bytes s is_bytes e in
    (t.0, t.1 ∙ sym (payload-long s not_empty))

-- the state of which bytes are the payload is read
pub read_again : (bytes : List ℕ) (s : Snapshot) → IsSnapshot s → bytes ≡ payload s → (bytes ≡ [] → ⊥)
    → (is_empty_state s ≡ false) × (whole snapshot_at bytes ≡ Some s)
read_again bytes s is e some =
    let not_empty = something s (is_empty_state s) refl (λ none. some (e ∙ none)) in
    (not_empty, ap (whole snapshot_at) (e ∙ payload-long s not_empty) ∙ whole_again snapshot_codec s is)

same_long : (s t : Snapshot) → IsSnapshot s → IsSnapshot t → long_payload s ≡ long_payload t → s ≡ t
same_long s t is_s is_t e =
    some_is s t (sym (whole_again snapshot_codec s is_s) ∙ ap (whole snapshot_at) e ∙ whole_again snapshot_codec t is_t)

by_tests : (s t : Snapshot) (b c : Bool) → is_empty_state s ≡ b → is_empty_state t ≡ c → IsSnapshot s → IsSnapshot t
    → cond b [] (long_payload s) ≡ cond c [] (long_payload t) → s ≡ t
by_tests s t true true s_is t_is is_s is_t e = is_empty_state-true s s_is ∙ sym (is_empty_state-true t t_is)
by_tests s t true false s_is t_is is_s is_t e = absurd (long_is_something t (sym e))
by_tests s t false true s_is t_is is_s is_t e = absurd (long_is_something s e)
by_tests s t false false s_is t_is is_s is_t e = same_long s t is_s is_t e

-- a payload stands for one state alone
pub one_state : (s t : Snapshot) → IsSnapshot s → IsSnapshot t → payload s ≡ payload t → s ≡ t
one_state s t is_s is_t e = by_tests s t (is_empty_state s) (is_empty_state t) refl refl is_s is_t e
