-- This file shows what an index answers once a key is taken out or put in.
use Rattle.std.proofs.Common.{◌≡◌, ◌≢◌, ◌↔◌, ℕ, Bool, true, false, IsTrue, IsSome, is_some, Option, Some, None, cond}
use Rattle.std.proofs.Common.{refl, sym, ap, ◌∙◌, eq-eqb, true≢false}
use Rattle.std.specs.Bool.{OnTrue, OnFalse}
use Rattle.std.specs.Cmp.{unsigned_tied}
use Rattle.std.specs.FinMap as map
use Rattle.std.proofs.lemmas.Bool.{ne_eqb}
use Rattle.std.proofs.lemmas.Cmp.{nat_cmp_total}
use Rattle.grid_base.specs.Segment.{GridSegment}
use Rattle.realm_index.specs.Index.{Entries}

-- nothing is under this key, and what is under other keys stays
pub record IsTakenOut (old new : Entries) (key : ℕ) : Type 0 where
  pub gone : map.get new key ≡ None
  pub others : (k : ℕ) → k ≢ key → map.get new k ≡ map.get old k

-- s is under this key, and what is under other keys stays
pub record IsPutIn (old new : Entries) (key : ℕ) (s : GridSegment) : Type 0 where
  pub here : map.get new key ≡ Some s
  pub others : (k : ℕ) → k ≢ key → map.get new k ≡ map.get old k

-- what isn't anything is nothing
pub none_unless : (o : Option GridSegment) → ((s : GridSegment) → o ≡ Some s → ⊥) → o ≡ None
none_unless None never = refl
none_unless (Some s) never = absurd (never s refl)

-- what a test for something tells
pub none_where_not : (o : Option GridSegment) → is_some o ≡ false → o ≡ None
none_where_not None is = refl
none_where_not (Some s) is = absurd (cc)

pub some_where : (o : Option GridSegment) → is_some o ≡ true → (s : GridSegment) × (o ≡ Some s)
some_where None is = absurd (cc)
some_where (Some s) is = (s, refl)

-- what `remove` leaves, whether or not the key was there
pub taken_out : (old new : Entries) (key : ℕ) (found : Bool) → (IsTrue found ↔ IsSome (map.get old key))
    → OnTrue found (new ≡ map.remove old key) → OnFalse found (new ≡ old) → IsTakenOut old new key
taken_out old new key true says removed unchanged =
    let got = map.get-remove nat_cmp_total old key in
    record {
      gone = ap (λ m. map.get m key) removed ∙ got key
          ∙ ap (λ b. cond b None (map.get old key)) (unsigned_tied key key ∙ eq-eqb key key refl);
      others = λ k differ. ap (λ m. map.get m k) removed ∙ got k
          ∙ ap (λ b. cond b None (map.get old k)) (unsigned_tied k key ∙ ne_eqb k key differ);
    }
taken_out old new key false says removed unchanged = record {
  gone = ap (λ m. map.get m key) unchanged
      ∙ none_unless (map.get old key) (λ s some. true≢false (sym (says.1 (rw some refl))));
  others = λ k differ. ap (λ m. map.get m k) unchanged;
}

-- what `insert` leaves
pub put_in : (old : Entries) (key : ℕ) (s : GridSegment) → IsPutIn old (map.insert old key s) key s
put_in old key s =
    let got = map.get-insert nat_cmp_total old key s in
    record {
      here = got key ∙ ap (λ b. cond b (Some s) (map.get old key)) (unsigned_tied key key ∙ eq-eqb key key refl);
      others = λ k differ. got k ∙ ap (λ b. cond b (Some s) (map.get old k)) (unsigned_tied k key ∙ ne_eqb k key differ);
    }
