-- This file shows how the lines of frames are given one after another.
use Rattle.std.proofs.Common.{◌≡◌, ℕ, ◌+◌, ◌<◌, List, [], ◌∷◌, ◌++◌, length, take, drop, All, sym, ◌∙◌, ap, subst, append_assoc}
use Rattle.std.specs.Prelude.{slice_index_or}
use Rattle.std.proofs.lemmas.List.{append-nil, take_more, take-append-drop}
use Rattle.std.proofs.lemmas.List.Elements.{All-push}
use Rattle.outside_world.specs.View.{View}
use Rattle.standby_core.specs.declared.frame.Frame.{Frame}
use Rattle.standby_core.specs.Frames.{IsFrame, line_of}
use Rattle.rose_shell.specs.declared.status.Status.{Status}
use Rattle.rose_shell.specs.Giving.{GaveSome}
use Rattle.rose_shell.specs.Shipping.{lines_of_frames, ShippingEndsBy, GivesFrames}
use Rattle.rose_shell.proofs.Gifts.{gave_behind}

-- the lines of frames and of one more
lines_of_frames-append : (before : List Frame) (f : Frame)
    → lines_of_frames (before ++ f ∷ []) ≡ lines_of_frames before ++ (line_of f ++ 10 ∷ [])
lines_of_frames-append [] f = append-nil (line_of f ++ 10 ∷ [])
lines_of_frames-append (g ∷ before) f =
    ap (λ (l : List ℕ). (line_of g ++ 10 ∷ []) ++ l) (lines_of_frames-append before f)
    ∙ sym (append_assoc (line_of g ++ 10 ∷ []) (lines_of_frames before) (line_of f ++ 10 ∷ []))

-- the lines of some frames were given, and that of one more was begun
gave_line : {old mid new : View} {line unsent : List ℕ} (before : List Frame) (f : Frame)
    → GaveSome old mid (lines_of_frames before) [] → line ≡ line_of f ++ 10 ∷ [] → GaveSome mid new line unsent
    → GaveSome old new (lines_of_frames (before ++ f ∷ [])) unsent
gave_line {old} {mid} {new} {line} {unsent} before f one is two =
    subst (λ (l : List ℕ). GaveSome old new l unsent) (sym (lines_of_frames-append before f))
    (gave_behind one (subst (λ (l : List ℕ). GaveSome mid new l unsent) is two))

-- frames up to this one
module _ (frames : List Frame) (i : ℕ) (f : Frame) (lt : i < length frames) (is : f ≡ slice_index_or frames i f) where
  take_frame : take (i + 1) frames ≡ take i frames ++ f ∷ []
  take_frame = take_more frames i f lt ∙ ap (λ (g : Frame). take i frames ++ g ∷ []) (sym is)

  pub frames_to : All IsFrame (take i frames) → IsFrame f → All IsFrame (take (i + 1) frames)
  frames_to all one =
      subst (λ (l : List Frame). All IsFrame l) (sym take_frame)
      (All-push IsFrame (take i frames) f all one)

  pub gave_to : {old mid new : View} {line unsent : List ℕ} → GaveSome old mid (lines_of_frames (take i frames)) []
      → line ≡ line_of f ++ 10 ∷ [] → GaveSome mid new line unsent
      → GaveSome old new (lines_of_frames (take (i + 1) frames)) unsent
  gave_to {old} {new = new} {unsent = unsent} one line two =
      subst (λ (l : List Frame). GaveSome old new (lines_of_frames l) unsent) (sym take_frame)
      (gave_line (take i frames) f one line two)

-- so many of the frames were given, or begun
pub gives_first : {old new : View} {frames : List Frame} {unsent : List ℕ} {status : Status} (i : ℕ) → All IsFrame (take i frames)
    → GaveSome old new (lines_of_frames (take i frames)) unsent → ShippingEndsBy (drop i frames) unsent status
    → GivesFrames old new frames status
gives_first {frames = frames} {unsent} i all some ends = record {
  begun = take i frames;
  left = drop i frames;
  in_order = sym (take-append-drop i frames);
  are_frames = all;
  unsent = unsent;
  some = some;
  ends = ends;
}
