-- This file shows that frames and lines belong together one by one.
use Rattle.std.proofs.Common.{◌≡◌, ◌<◌, ◌+◌, ℕ, suc, length, length-append, List, [], ◌∷◌, ◌++◌, refl, sym, ap, subst, ◌∙◌, arith, lit<}
use Rattle.std.specs.Prelude.{◌≢◌, codes, Contains}
use Rattle.std.specs.List.{All}
use Rattle.std.proofs.lemmas.List.Elements.{All-append, All-from_recursion, All-contains}
use Rattle.std.proofs.lemmas.List.{append-nil}
use Rattle.hex.specs.Hex.{encode_lower, IsBytes}
use Rattle.record_codec.specs.declared.record.Record.{Record}
use Rattle.record_codec.specs.declared.snapshot.Snapshot.{Snapshot}
use Rattle.record_codec.specs.Fitting.{BeginsWith}
use Rattle.record_codec.specs.Spelling.{record_text}
use Rattle.record_codec.specs.Payload.{payload}
use Rattle.record_codec.proofs.RecordLemmas.{one_record}
use Rattle.record_codec.proofs.SnapshotLemmas.{one_state}
use Rattle.standby_core.specs.declared.frame.Frame.{Frame}
use Rattle.standby_core.specs.declared.frame.Frame.TheVariants.{Rec, Snap}
use Rattle.standby_core.specs.Digits.{AreDigitsOf}
use Rattle.standby_core.specs.Frames.{HasText, IsFrame, IsLineOf, content, line_of, word}
use Rattle.standby_core.proofs.LowerDigits.{bytes_once, no_line_end}

-- ---- one frame

digits_of : (f : Frame) → IsFrame f → AreDigitsOf (content f) (encode_lower (content f))
digits_of f is = record { are_bytes = is.of_bytes; are_digits = refl }

-- frames with the same digits have the same content
same_content : (f g : Frame) → IsFrame f → IsFrame g → encode_lower (content f) ≡ encode_lower (content g) → content f ≡ content g
same_content f g one also same =
    bytes_once (content f) (content g) (encode_lower (content f)) (digits_of f one)
    (record { are_bytes = also.of_bytes; are_digits = same })

abbrev front_of : List ℕ → ℕ
front_of [] = 0
front_of (x ∷ xs) = x

different : (m n : ℕ) → m ≡ n → m < n → ⊥
different m n same less = omega arith

-- no record's line is a state's
no_state : (r : Record) (s : Snapshot) → line_of (Rec r) ≡ line_of (Snap s) → ⊥
no_state r s lines = different 114 115 (ap front_of lines) (lit< tt)

pub one_frame : (f g : Frame) (line : List ℕ) → IsLineOf f line → IsLineOf g line → f ≡ g
one_frame (Rec r) (Rec s) line one also =
    let lines : line_of (Rec r) ≡ line_of (Rec s) = sym one.is_line ∙ also.is_line in
    let same : encode_lower (record_text r) ≡ encode_lower (record_text s) = cc in
    let text : record_text r ≡ record_text s = same_content (Rec r) (Rec s) one.is_frame also.is_frame same in
    ap Rec (one_record r s [] [] one.is_frame.has_text also.is_frame.has_text (ap (λ l. l ++ []) text)).0
one_frame (Snap s) (Snap t) line one also =
    let lines : line_of (Snap s) ≡ line_of (Snap t) = sym one.is_line ∙ also.is_line in
    let same : encode_lower (payload s) ≡ encode_lower (payload t) = cc in
    let text : payload s ≡ payload t = same_content (Snap s) (Snap t) one.is_frame also.is_frame same in
    ap Snap (one_state s t one.is_frame.has_text also.is_frame.has_text text)
one_frame (Rec r) (Snap s) line one also = absurd (no_state r s (sym one.is_line ∙ also.is_line))
one_frame (Snap s) (Rec r) line one also = absurd (no_state r s (sym also.is_line ∙ one.is_line))

pub one_line : (f : Frame) (x y : List ℕ) → IsLineOf f x → IsLineOf f y → x ≡ y
one_line f x y one also = one.is_line ∙ sym also.is_line

-- ---- no line end

differs : (c : ℕ) → 10 < c → c ≢ 10
differs c above e = omega arith

all_differ : (f : Frame) → IsBytes (content f) → All (λ c. c ≢ 10) (line_of f)
all_differ (Rec r) fit =
    let P = λ (c : ℕ). c ≢ 10 in
    let word : All P (codes "rec ") = All-from_recursion P (codes "rec ")
    (differs 114 (lit< tt), (differs 101 (lit< tt), (differs 99 (lit< tt), (differs 32 (lit< tt), tt)))) in
    All-append P (codes "rec ") (encode_lower (record_text r)) word (no_line_end (record_text r) fit)
all_differ (Snap s) fit =
    let P = λ (c : ℕ). c ≢ 10 in
    let word : All P (codes "snap ") = All-from_recursion P (codes "snap ") (
      differs 115 (lit< tt),
      (
        differs 110 (lit< tt),
        (
          differs 97 (lit< tt),
          (
            differs 112 (lit< tt),
            (differs 32 (lit< tt), tt),
          ),
        ),
      ),
    ) in
    All-append P (codes "snap ") (encode_lower (payload s)) word (no_line_end (payload s) fit)

pub holds_no_line_end : (f : Frame) (line : List ℕ) → IsLineOf f line → Contains line 10 → ⊥
holds_no_line_end f line is has =
    let all = all_differ f is.is_frame.of_bytes in
    All-contains (λ (c : ℕ). c ≢ 10) line 10 (subst (λ l. All (λ (c : ℕ). c ≢ 10) l) (sym is.is_line) all) has refl

-- ---- what is written

pub written : (f : Frame) (bytes line : List ℕ) → HasText f → bytes ≡ content f → IsBytes bytes
    → line ≡ word f ++ encode_lower bytes → IsLineOf f line
written f bytes line text are fit is = record {
  is_frame = record { has_text = text; of_bytes = subst IsBytes are fit };
  is_line = is ∙ ap (λ l. word f ++ encode_lower l) are;
}

-- ---- what is read

-- a front that is as long is all
all_of_front : (bytes text rest : List ℕ) → bytes ≡ text ++ rest → length text ≡ length bytes → bytes ≡ text
all_of_front bytes text [] is same = is ∙ append-nil text
all_of_front bytes text (x ∷ rest) is same =
    let longer : length bytes ≡ length text + suc (length rest) = ap length is ∙ length-append text (x ∷ rest) in
    absurd (omega (arith, longer, same))

pub whole_text : (r : Record) (bytes : List ℕ) → BeginsWith bytes (record_text r) → length (record_text r) ≡ length bytes
    → bytes ≡ record_text r
whole_text r bytes (rest, is) same = all_of_front bytes (record_text r) rest is same

-- the bytes of the digits are the content of a frame
pub frame_read : (f : Frame) (bytes digits : List ℕ) → HasText f → bytes ≡ content f → AreDigitsOf bytes digits
    → IsFrame f × AreDigitsOf (content f) digits
frame_read f bytes digits text are of = (
  record { has_text = text; of_bytes = subst IsBytes are of.are_bytes },
  subst (λ l. AreDigitsOf l digits) are of,
)
