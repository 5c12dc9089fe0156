-- This file shows which file is chosen by the heads of both.
use Rattle.std.proofs.Common.{◌≡◌, inl, inr, ℕ, List, ap, subst}
use Rattle.std.specs.Prelude.{Option, Some, None, Result, Ok, Err}
use Rattle.outside_world.specs.declared.world.FileName.{FileName}
use Rattle.outside_world.specs.declared.world.FileName.TheVariants.{A, B}
use Rattle.outside_world.specs.declared.world.Failed.{Failed}
use Rattle.outside_world.specs.View.{View}
use Rattle.outside_world.specs.Calls.{Read}
use Rattle.record_codec.specs.declared.header.Header.{Header}
use Rattle.realm_pages.specs.Damages.{IsReadable, AreTwins}
use Rattle.realm_pages.specs.Choosing.{IsHeadOf, LacksHeadOf, HeadRead, IsChoice, Chosen}
use Rattle.realm_pages.specs.declared.damage.Damage.{Damage}
use Rattle.realm_pages.specs.declared.error.PagesError.{PagesError}
use Rattle.realm_pages.specs.declared.error.PagesError.TheVariants.{Damaged}
use Rattle.realm_pages.proofs.Asks.{asks_of, asks_then}

-- the front of a file was read, and its head is what is read of it
module _ {old new : View} {file : FileName} {at : ℕ} {buffer : List ℕ} {n : Result ℕ Failed} (read : Read old new file at buffer n) where
  pub head_read : {head : Option Header} → IsHeadOf (old.reads file) head → HeadRead old new file (Ok head)
  head_read head = record { asks = asks_of read.leaves; head = head; lacks = λ d is. absurd (cc) }

  pub head_lacks : {damage : Damage} → LacksHeadOf file (old.reads file) damage → HeadRead old new file (Err (Damaged damage))
  head_lacks {damage} lacks = record {
    asks = asks_of read.leaves;
    head = tt;
    lacks = λ d is. let same : damage ≡ d = cc in subst (λ x. LacksHeadOf file (old.reads file) x) same lacks;
  }

-- where there is a head the file is readable
readable : {file : List ℕ} (head : Option Header) → IsHeadOf file head → IsReadable file
readable None none counts = absurd (none counts)
readable (Some h) is counts = (h, is.head)

not_b : A ≡ B → ⊥
not_b is = cc

-- a head of A lacks,
pub lacks_in_a : {old new : View} {e : PagesError} → HeadRead old new A (Err e) → Chosen old new (Err e)
lacks_in_a {e = e} first = record {
  asks = first.asks;
  choice = tt;
  damaged = λ d told.
      let same : e ≡ Damaged d = cc in
      let lacks = first.lacks d (ap (λ x. Err x) same) in
      inl (record { file = A; is = lacks.is; counts = lacks.counts; lacks = lacks.lacks; before = λ is. absurd (not_b is) });
}

module _ {old mid new : View} {a : Option Header} (first : HeadRead old mid A (Ok a)) where
  -- or one of B,
  pub lacks_in_b : {e : PagesError} → HeadRead mid new B (Err e) → Chosen old new (Err e)
  lacks_in_b {e = e} second = record {
    asks = asks_then first.asks second.asks;
    choice = tt;
    damaged = λ d told.
        let same : e ≡ Damaged d = cc in
        let lacks = subst (λ l. LacksHeadOf B l d) (first.asks.files.reads B) (second.lacks d (ap (λ x. Err x) same)) in
        inl (record { file = B; is = lacks.is; counts = lacks.counts; lacks = lacks.lacks; before = λ is. readable a first.head });
  }

  module _ {b : Option Header} (second : HeadRead mid new B (Ok b)) where
    pub b_head : IsHeadOf (old.reads B) b
    b_head = subst (λ l. IsHeadOf l b) (first.asks.files.reads B) second.head

    -- or both count with one generation,
    pub twins : {damage : Damage} → AreTwins old.reads damage → Chosen old new (Err (Damaged damage))
    twins {damage} are = record {
      asks = asks_then first.asks second.asks;
      choice = tt;
      damaged = λ d told. let same : damage ≡ d = cc in inr (subst (λ x. AreTwins old.reads x) same are);
    }

    -- or one is chosen
    pub chosen : {choice : Option (FileName × Header)} → IsChoice old.reads choice → Chosen old new (Ok choice)
    chosen is = record { asks = asks_then first.asks second.asks; choice = is; damaged = λ d told. absurd (cc) }
