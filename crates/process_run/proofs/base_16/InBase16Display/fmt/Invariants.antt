-- This file says what has been written: two digits for each byte so far.
use Rattle.std.proofs.Common.{take}
use Rattle.std.specs.Fmt.{HasWritten, IsPlainFormatter}
use Rattle.process_run.specs.Base16.{bytes_text}
use Rattle.process_run.proofs.base_16.InBase16Display.fmt.Given as goal

abbrev pub invariant-loop-byte : goal.invariant-loop-byte
invariant-loop-byte g l =
    IsPlainFormatter l.initial.f
    → HasWritten g.W.Write.write_str_gives l.initial.f (bytes_text (take l.byte-index l.byte-items)) l.f
