-- This file shows that what file A stood for alone it stands for beside an empty file B.
use Rattle.std.proofs.Common.{◌≡◌, ◌≢◌, inl, ◌<◌, ℕ, List, [], Option, Some, None, refl, sym, subst, arith}
use Rattle.outside_world.specs.declared.world.FileName.{FileName}
use Rattle.outside_world.specs.declared.world.FileName.TheVariants.{A, B}
use Rattle.record_codec.specs.declared.header.Header.{Header}
use Rattle.record_codec.specs.Heads.{header_text}
use Rattle.realm_journal.specs.Gates.{IsWrittenAt}
use Rattle.realm_pages.specs.Generations.{page_count, header_of, gate_of}
use Rattle.realm_pages.specs.Files.{Counts, HasHead}
use Rattle.realm_pages.proofs.Counting.{is_head}
use Rattle.realm_files.specs.Meaning.{Meaning}
use Rattle.realm_files.specs.Rows.{AreRecords}
use Rattle.realm_files.specs.Stands.{StandsAt, NoneCounts, numbered}
use Rattle.realm_files.specs.Alone.{StoodAt, alone, place_alone, first_head}

no_pages : page_count 0 ≡ 0
unfolding page_count
no_pages = omega arith

-- an empty file doesn't count
empty_counts : Counts [] → ⊥
empty_counts counts = omega (arith, counts.has_more)

none_alone : {file : List ℕ} → (Counts file → ⊥) → NoneCounts (alone file)
none_alone none A = none
none_alone none B = empty_counts

first_is : header_of (numbered 1 1 []) ≡ first_head
first_is = λ i. record { version = 1; generation = 1; pages = no_pages i; length = 0 }

other_alone : (P : FileName → Type 0) (file : List ℕ) (other : FileName) → other ≢ A → Counts (alone file other) → P other
other_alone P file A differ counts = absurd (differ refl)
other_alone P file B differ counts = absurd (empty_counts counts)

module _ {S : Type 0} (m : Meaning S) (opens : m.opens [] m.empty) where
  pub stands_alone : (file : List ℕ) (state : S) (next : Option ℕ) → StoodAt m file state next
      → StandsAt m (alone file) state (place_alone next)
  stands_alone file state None stood = (none_alone stood.0, stood.1)
  stands_alone file state (Some next) stood =
      let head : HasHead file (header_of (numbered 1 1 [])) = record {
        is_header = is_head 1 1 0 (inl refl) (omega arith, omega arith) (omega arith);
        stands = subst (λ h. IsWrittenAt 1 (header_text h) file) (sym first_is) stood.has_head;
      } in
      let gate : 4096 ≡ gate_of (numbered 1 1 []) = omega (arith, no_pages) in
      record {
        payload = [];
        newest = record {
          newest = record {
            counts = record { counts = stood.counts; head = head };
            older = other_alone (λ f. (h : Header) × HasHead (alone file f) h × (h.generation < 1)) file;
          };
          holds = record {
            counts = stood.counts;
            head = head;
            pages = record { fills = omega arith; pages = λ k lt. absurd (omega (arith, lt, no_pages)) };
          };
        };
        first = m.empty;
        opens = opens;
        records = stood.records;
        lead = subst (λ at. AreRecords m m.empty stood.records at file state next) gate stood.lead;
      }
