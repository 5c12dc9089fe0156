-- Frames: records and states, each as one line.
use Rattle.std.specs.Prelude.{◌≡◌, ℕ, List, ◌++◌, codes}
use Rattle.hex.specs.Hex.{encode_lower, IsBytes}
use Rattle.record_codec.specs.Fitting.{IsRecord}
use Rattle.record_codec.specs.Payload.{IsSnapshot, payload}
use Rattle.record_codec.specs.Spelling.{record_text}
use Rattle.standby_core.specs.declared.frame.Frame.{Frame}
use Rattle.standby_core.specs.declared.frame.Frame.TheVariants.{Rec, Snap}

-- the record or the state of the frame has a text
abbrev pub HasText : Frame → Type 0
HasText (Rec r) = IsRecord r
HasText (Snap s) = IsSnapshot s

-- what the digits of the frame write: the text of its record, or the payload of its state
abbrev pub content : Frame → List ℕ
content (Rec r) = record_text r
content (Snap s) = payload s

-- the word of the frame, with the space behind it
abbrev pub word : Frame → List ℕ
word (Rec r) = codes "rec "
word (Snap s) = codes "snap "

-- the one line of the frame, without a line end: its word, and two digits in lower case for each byte
abbrev pub line_of : Frame → List ℕ
line_of f = word f ++ encode_lower (content f)

-- the frame has a text, which is made of bytes
pub record IsFrame (f : Frame) : Type 0 where
  pub has_text : HasText f
  pub of_bytes : IsBytes (content f)

-- this is a frame, and that its line
pub record IsLineOf (f : Frame) (line : List ℕ) : Type 0 where
  pub is_frame : IsFrame f
  pub is_line : line ≡ line_of f
