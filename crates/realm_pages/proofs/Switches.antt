-- This file shows what a file holds while a generation is put on it.
use Rattle.std.proofs.Common.{◌≡◌, inl, inr, ⊎_elim, ℕ, ◌+◌, ◌*◌, ◌<◌, List, ◌∷◌, ◌++◌, length, take, drop, get_or}
use Rattle.std.proofs.Common.{refl, sym, ◌∙◌, ap, arith, append_assoc, length-append}
use Rattle.std.proofs.Math.Nat.{le_refl}
use Rattle.std.proofs.lemmas.List.{take_at, drop_at, drop-drop, get_or_at}
use Rattle.std.proofs.lemmas.Result.{on_ok_weaker}
use Rattle.std.specs.Prelude.{Result, Ok, Err, IsErr}
use Rattle.outside_world.specs.declared.world.FileName.{FileName}
use Rattle.outside_world.specs.View.{View}
use Rattle.outside_world.specs.Since.{WritesOnly}
use Rattle.outside_world.proofs.FileRuns.{writes_wider, writes_then}
use Rattle.page_codec.specs.Pages.{page_of}
use Rattle.record_codec.specs.Heads.{IsHeader, header_text}
use Rattle.realm_journal.specs.declared.error.JournalError.{JournalError}
use Rattle.realm_journal.specs.Gates.{open_gate, closed_gate, IsWholeAt}
use Rattle.realm_journal.specs.Appending.{IsPart, Appended}
use Rattle.realm_journal.specs.Shutting.{IsShutting, Shut}
use Rattle.realm_pages.specs.Generations.{Generation, page_count, header_of, gate_of, part_behind, pages_of, generation_text}
use Rattle.realm_pages.specs.Files.{page_at, HoldsAlone}
use Rattle.realm_pages.specs.Switching.{IsSwitching, Switched}
use Rattle.realm_pages.proofs.Counting.{enough}
use Rattle.realm_pages.proofs.HeadLength.{head_size}
use Rattle.realm_pages.proofs.Parts.{length_pages, page_stands}

module _ (g : Generation) where
  abbrev head : List ℕ
  head = header_text (header_of g)

  abbrev count : ℕ
  count = page_count (length g.payload)

  abbrev pages : List ℕ
  pages = pages_of count g.payload

  -- the place of the first record's gate
  pub gate_is : 0 + 1 + length (generation_text g) ≡ gate_of g
  gate_is =
      omega (arith, length-append head pages, head_size (header_of g), length_pages g.payload count (le_refl count))

  module _ (c rest : List ℕ) (is : c ≡ open_gate ∷ (generation_text g ++ closed_gate ∷ rest)) where
    abbrev tail : List ℕ
    tail = closed_gate ∷ rest

    -- gate and head, and then the pages
    parts : c ≡ (open_gate ∷ head) ++ (pages ++ tail)
    parts = is ∙ ap (λ l. open_gate ∷ l) (append_assoc head pages tail)

    size : length c ≡ gate_of g + 1 + length rest
    size = omega (arith, gate_is, ap length is, length-append (generation_text g) tail)

    page_is : (k : ℕ) → k < count → page_at (k + 1) c ≡ page_of (k + 1) (part_behind k g.payload)
    page_is k lt =
        let place : 4096 * (k + 1) ≡ 4096 + 4096 * k = omega arith in
        let long : length (open_gate ∷ head) ≡ 4096 = omega (arith, head_size (header_of g)) in
        ap (λ n. take 4096 (drop n c)) place
        ∙ ap (λ l. take 4096 l) (sym (drop-drop (4096 * k) 4096 c))
        ∙ ap (λ l. take 4096 (drop (4096 * k) l)) (ap (λ l. drop 4096 l) parts ∙ drop_at (open_gate ∷ head) (pages ++ tail) 4096 long)
        ∙ page_stands g.payload count tail (le_refl count) k lt

    gate_closed : get_or c (gate_of g) 0 ≡ closed_gate
    gate_closed =
        let front = open_gate ∷ generation_text g in
        let long : length front ≡ gate_of g = omega (arith, gate_is) in
        ap (λ l. get_or l (gate_of g) 0) is ∙ get_or_at front closed_gate rest 0 (gate_of g) long

    -- so the file holds the generation and no record
    holds_text : IsHeader (header_of g) → HoldsAlone c g
    holds_text has_head = record {
      holds = record {
        counts = record { has_more = omega (arith, size); is_open = ap (λ l. get_or l 0 0) is };
        head = record {
          is_header = has_head;
          stands = ap (λ l. take (length head) (drop 1 l)) parts ∙ take_at head (pages ++ tail) (length head) refl;
        };
        pages = record {
          fills = omega (arith, enough (length g.payload));
          pages = page_is;
        };
      };
      within = omega (arith, size);
      closed = λ is_open. let shut : get_or c (gate_of g) 0 ≡ closed_gate = gate_closed in cc;
    }

  -- while gate 0 is shut nothing counts that couldn't before
  shutting : {a : View} {file : FileName} (c : List ℕ) → IsShutting a file 0 c → IsSwitching a file g c
  shutting c (inl could) = inl could
  shutting c (inr barred) =
      inr (inl (λ counts. ⊎_elim (λ closed. closed counts.is_open) (λ short. omega (arith, short, counts.has_more)) barred.gate))

  shut_switching : {a b : View} {file : FileName} {r : Result Unit JournalError} → Shut a b file 0 r
      → WritesOnly a b file (IsSwitching a file g)
  shut_switching shut = writes_wider shutting shut.writes

  module _ (has_head : IsHeader (header_of g)) {a b c : View} {file : FileName} {text : List ℕ} {r : Result Unit JournalError}
      {s : Result ℕ JournalError} (shut : Shut a b file 0 r) (is : text ≡ generation_text g) (appended : Appended b c file 0 text s) where
    -- the text stands whole
    whole_holds : (e : List ℕ) → IsWholeAt 0 text e → HoldsAlone e g
    whole_holds e whole =
        holds_text e whole.0 (whole.1 ∙ ap (λ t. open_gate ∷ (t ++ closed_gate ∷ whole.0)) is) has_head

    -- then the file doesn't count, or it holds the generation
    appending : (e : List ℕ) → IsPart b file 0 text e → IsSwitching a file g e
    appending e part =
        ⊎_elim
        (λ closed. inr (inl (λ counts. closed.1 counts.is_open)))
        (λ whole. inr (inr (whole_holds e whole)))
        part.gate

    append_switching : WritesOnly a c file (IsSwitching a file g)
    append_switching = writes_then (shut_switching shut) (writes_wider appending appended.writes)

    -- it ends as the append does,
    pub switched : Switched a c file g s
    switched = record {
      writes = append_switching;
      whole = on_ok_weaker s (λ whole e image. whole_holds e (whole e image)) appended.whole;
      stable = appended.stable;
    }

-- or where the gate isn't shut
not_ok : (n : ℕ) → IsErr {T = ℕ} {E = JournalError} (Ok n) → ⊥
not_ok n is = cc

pub not_shut : {a b : View} {file : FileName} {g : Generation} {e : Result Unit JournalError} (r : Result ℕ JournalError) → IsErr r
    → Shut a b file 0 e → Switched a b file g r
not_shut (Ok n) no_error shut = absurd (not_ok n no_error)
not_shut {g = g} (Err e) is_error shut = record { writes = shut_switching g shut; whole = tt; stable = tt }
