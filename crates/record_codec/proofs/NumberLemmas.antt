-- This file shows how numbers are read, and written over bytes.
use Rattle.std.proofs.Common.{◌≡◌, ℕ, List, ◌++◌, length, take, drop, refl, append_assoc, arith}
use Rattle.std.specs.Int.{w16, w32, w64, from_be_bytes, to_be_bytes}
use Rattle.std.proofs.Math.ListN.{drop_of_length-le}
use Rattle.std.proofs.lemmas.List.{take_at, drop_at, length-take, append-nil}
use borrow.Rule.Slice.PartMut.{put_mid, mid_of}
use Rattle.byteorder.specs.Endian.{big_number}
use Rattle.record_codec.specs.Spelling.{string}

-- ---- reading

pub big_number-two : (bytes : List ℕ) → big_number 2 bytes ≡ from_be_bytes w16 bytes
big_number-two bytes = omega arith

pub big_number-four : (bytes : List ℕ) → big_number 4 bytes ≡ from_be_bytes w32 bytes
big_number-four bytes = omega arith

pub big_number-eight : (bytes : List ℕ) → big_number 8 bytes ≡ from_be_bytes w64 bytes
big_number-eight bytes = omega arith

-- ---- writing

-- a text that is written over as many bytes leaves nothing of them
pub written_over : (bytes text part : List ℕ) (at size k : ℕ) → k ≡ size → part ≡ text ++ drop size (mid_of at k bytes)
    → put_mid at k bytes part ≡ take at bytes ++ (text ++ drop size (drop at bytes))
written_over bytes text part at size k same is =
    let behind = drop_of_length-le (mid_of at size bytes) {i = size} (omega (arith, length-take size (drop at bytes))) in
    rw (is, same, behind, append-nil text) refl

-- the length of a body is written over the eight bytes before it
pub length_before : (old body bytes : List ℕ) → bytes ≡ (old ++ to_be_bytes w64 0) ++ body
    → take (length old) bytes ++ string w64 (drop 8 (drop (length old) bytes)) ≡ old ++ string w64 body
length_before old body bytes is =
    let room = to_be_bytes w64 0 in
    rw (is, append_assoc old room body, take_at old (room ++ body) (length old) refl, drop_at old (room ++ body) (length old) refl) refl
