-- This file shows what the front of a file tells of its head.
use Rattle.std.proofs.Common.{◌≡◌, ℕ, List, length, take, drop, get_or, min, sym, ◌∙◌, ap, arith}
use Rattle.std.proofs.lemmas.List.{length-take, get_or-take, drop-take}
use Rattle.record_codec.specs.declared.header.Header.{Header}
use Rattle.record_codec.specs.Heads.{IsHeader, header_text}
use Rattle.realm_pages.specs.Files.{Counts, HasHead}
use Rattle.realm_pages.proofs.HeadLength.{head_size}

module _ (whole front : List ℕ) (is : front ≡ take 4096 whole) where
  size : length front ≡ min 4096 (length whole)
  size = ap length is ∙ length-take 4096 whole

  gate : get_or front 0 0 ≡ get_or whole 0 0
  gate = ap (λ l. get_or l 0 0) is ∙ get_or-take 4096 whole 0 0 (omega arith)

  -- the front counts where the file does
  pub whole_counts : Counts front → Counts whole
  whole_counts counts = record { has_more = omega (arith, size, counts.has_more); is_open = sym gate ∙ counts.is_open }

  -- and has all of the head
  behind_gate : (h : Header) → take (length (header_text h)) (drop 1 whole) ≡ drop 1 front
  behind_gate h =
      ap (λ n. take n (drop 1 whole)) (head_size h) ∙ sym (drop-take 1 4095 whole) ∙ ap (λ l. drop 1 l) (sym is)

  pub has_head : (h : Header) {rest : List ℕ} → rest ≡ drop 1 front → IsHeader h → rest ≡ header_text h → HasHead whole h
  has_head h rest_is is_header text = record { is_header = is_header; stands = behind_gate h ∙ sym rest_is ∙ text }

  pub head_is : (h : Header) {rest : List ℕ} → rest ≡ drop 1 front → HasHead whole h → rest ≡ header_text h
  head_is h rest_is head = rest_is ∙ sym (behind_gate h) ∙ head.stands
