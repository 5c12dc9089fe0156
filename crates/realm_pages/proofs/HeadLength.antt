-- This file shows how long the head of a file is.
use Rattle.std.proofs.Common.{◌≡◌, ℕ, length, ◌++◌, arith, length-append}
use Rattle.std.proofs.lemmas.List.{length-replicate}
use Rattle.std.specs.Int.{w16, w64, to_be_bytes}
use Rattle.record_codec.specs.Heads.{header_text, name_of_format}
use Rattle.record_codec.specs.Spelling.{zeros}
use Rattle.record_codec.specs.declared.header.Header.{Header}
use Rattle.record_codec.proofs.Bytes.{two_bytes, eight_bytes}

pub head_size : (h : Header) → length (header_text h) ≡ 4095
unfolding header_text zeros
head_size h =
    let version = to_be_bytes w16 h.version in
    let one = to_be_bytes w64 h.generation in
    let two = to_be_bytes w64 h.pages in
    let three = to_be_bytes w64 h.length in
    omega (
      arith,
      length-append name_of_format (version ++ (one ++ (two ++ (three ++ zeros 4062)))),
      length-append version (one ++ (two ++ (three ++ zeros 4062))),
      length-append one (two ++ (three ++ zeros 4062)),
      length-append two (three ++ zeros 4062),
      length-append three (zeros 4062),
      two_bytes.len h.version,
      eight_bytes.len h.generation,
      eight_bytes.len h.pages,
      eight_bytes.len h.length,
      length-replicate {A = ℕ} 4062 0,
    )
