-- This file shows what is found once the pages of the newest file are read.
use Rattle.std.proofs.Common.{◌≡◌, inl, inr, ⊎_elim, ℕ, List, length, sym, ◌∙◌, ap, subst, arith}
use Rattle.std.specs.Prelude.{Option, Some, None, IfSome, Ok, Err, Vec}
use Rattle.std.specs.declared.alloc.Global.{Global}
use Rattle.outside_world.specs.declared.world.FileName.{FileName}
use Rattle.outside_world.specs.View.{View}
use Rattle.record_codec.specs.declared.header.Header.{Header}
use Rattle.record_codec.specs.declared.snapshot.Snapshot.{Snapshot}
use Rattle.record_codec.specs.Payload.{IsSnapshot, payload}
use Rattle.realm_journal.specs.Reading.{OnlyAsks}
use Rattle.realm_pages.specs.Generations.{Generation, page_count, header_of, gate_behind, gate_of}
use Rattle.realm_pages.specs.Files.{HasHead, HoldsFirst}
use Rattle.realm_pages.specs.Damages.{IsNewest, HasPageFault}
use Rattle.realm_pages.specs.Choosing.{Chosen}
use Rattle.realm_pages.specs.ReadingPages.{PagesRead}
use Rattle.realm_pages.specs.Finding.{HoldsNewest, IsFound, FoundNewest}
use Rattle.realm_pages.specs.declared.damage.Damage.TheVariants.{BadSnapshot}
use Rattle.realm_pages.specs.declared.error.PagesError.{PagesError}
use Rattle.realm_pages.specs.declared.error.PagesError.TheVariants.{Damaged}
use Rattle.realm_pages.specs.declared.found.Found.{Found}
use Rattle.realm_pages.proofs.Asks.{asks_then}
use Rattle.realm_pages.proofs.Counting.{fewest_once}

-- no file is chosen, as one lacks a head or both have one generation,
pub not_chosen : {old new : View} {e : PagesError} → Chosen old new (Err e) → FoundNewest old new (Err e)
not_chosen {e = e} chosen = record {
  asks = chosen.asks;
  none = λ is. absurd (cc);
  found = λ found is. absurd (cc);
  damaged = λ d told.
      let same : e ≡ Damaged d = cc in
      ⊎_elim (λ lacks. inl (inl lacks)) (λ twins. inl (inr (inl twins))) (chosen.damaged d (ap (λ x. Err x) same));
}

-- or as neither counts
pub neither : {old new : View} → Chosen old new (Ok None) → FoundNewest old new (Ok None)
neither chosen = record {
  asks = chosen.asks;
  none = λ is. chosen.choice;
  found = λ found is. absurd (cc);
  damaged = λ d is. absurd (cc);
}

-- a page of it is at fault,
pub broken : {old mid new : View} {file : FileName} {head : Header} {e : PagesError} → Chosen old mid (Ok (Some (file, head)))
    → PagesRead mid new file head (Err e) → FoundNewest old new (Err e)
broken {file = file} {head} {e} chosen read = record {
  asks = asks_then chosen.asks read.asks;
  none = λ is. absurd (cc);
  found = λ found is. absurd (cc);
  damaged = λ d told.
      let same : e ≡ Damaged d = cc in
      inl (inr (inr (record {
        file = file;
        head = head;
        newest = chosen.choice;
        fault = subst (λ l. HasPageFault file l head.length head.pages d) (chosen.asks.files.reads file)
            (read.fault d (ap (λ x. Err x) same));
      })));
}

-- a payload as long as the head says has this head,
pub head_is : (head : Header) (file bytes : List ℕ) → HasHead file head → HoldsFirst file head.length head.pages bytes
    → head ≡ header_of (record { version = head.version; number = head.generation; payload = bytes })
head_is head file bytes has hold =
    let count : head.pages ≡ page_count head.length = fewest_once head.length head.pages has.is_header.pages.0 in
    let long : head.length ≡ length bytes =
    omega (arith, hold.fills, has.is_header.pages.0.enough) in
    let fields : ℕ → ℕ → Header = λ pages size. record {
      version = head.version;
      generation = head.generation;
      pages = pages;
      length = size;
    } in
    ap (λ n. fields n head.length) count ∙ ap (λ n. fields (page_count n) n) long

module _ {old mid new : View} {file : FileName} {head : Header} (pages : Vec ℕ Global) (chosen : Chosen old mid (Ok (Some (file, head))))
    (read : PagesRead mid new file head (Ok pages)) where
  abbrev asked : OnlyAsks old new
  asked = asks_then chosen.asks read.asks

  -- its pages hold a generation,
  abbrev held : Generation
  held = record { version = head.version; number = head.generation; payload = pages.items }

  hold : HoldsFirst (old.reads file) head.length head.pages pages.items
  hold = subst (λ l. HoldsFirst l head.length head.pages pages.items) (chosen.asks.files.reads file) read.hold

  head_of_held : head ≡ header_of held
  head_of_held = head_is head (old.reads file) pages.items chosen.choice.counts.head hold

  holds_newest : HoldsNewest old.reads file held
  holds_newest = record {
    newest = subst (λ h. IsNewest old.reads file h) head_of_held chosen.choice;
    holds = record {
      counts = chosen.choice.counts.counts;
      head = subst (λ h. HasHead (old.reads file) h) head_of_held chosen.choice.counts.head;
      pages = subst (λ (h : Header). HoldsFirst (old.reads file) h.length h.pages pages.items) head_of_held hold;
    };
  }

  -- of which a state is read, or none,
  module _ (bytes : List ℕ) (same : bytes ≡ pages.items) (o : Option Snapshot) where
    pub bad_payload : o ≡ None → ((s : Snapshot) → IsSnapshot s → bytes ≡ payload s → o ≡ Some s)
        → FoundNewest old new (Err (Damaged (BadSnapshot file)))
    bad_payload nothing only = record {
      asks = asked;
      none = λ is. absurd (cc);
      found = λ found is. absurd (cc);
      damaged = λ d told. inr (record {
        file = file;
        generation = held;
        newest = holds_newest;
        none = λ s is_snapshot is. let read_again : o ≡ Some s = only s is_snapshot (same ∙ is) in cc;
        is = cc;
      });
    }

    module _ (s : Snapshot) where
      abbrev it : Found
      it = record {
        file = file;
        version = head.version;
        generation = head.generation;
        snapshot = s;
        end = gate_behind head.pages;
      }

      abbrev numbered : List ℕ → Generation
      numbered l = record { version = head.version; number = head.generation; payload = l }

      is_found : IsSnapshot s → pages.items ≡ payload s → IsFound old.reads it
      is_found is_snapshot is = record {
        is_snapshot = is_snapshot;
        holds = subst (λ l. HoldsNewest old.reads file (numbered l)) is holds_newest;
        end = ap (λ (h : Header). gate_behind h.pages) head_of_held ∙ ap (λ l. gate_of (numbered l)) is;
      }

      pub found : o ≡ Some s → IfSome o (λ s. IsSnapshot s × (bytes ≡ payload s)) → FoundNewest old new (Ok (Some it))
      found some shown =
          let (is_snapshot, is) = subst (λ x. IfSome x (λ s. IsSnapshot s × (bytes ≡ payload s))) some shown in
          record {
            asks = asked;
            none = λ told. absurd (cc);
            found = λ other told.
                let one : it ≡ other = cc in
                subst (λ x. IsFound old.reads x) one (is_found is_snapshot (sym same ∙ is));
            damaged = λ d told. absurd (cc);
          }
