use Rattle.std.proofs.Common.{◌≡◌, ◌++◌, string_bytes, take}
use Rattle.std.specs.List.{flat_map}
use Rattle.rose_query.specs.Replies.{step_line}
use Rattle.rose_query.proofs.printing.push_step_lines.Given as goal

-- the lines so far are written
abbrev pub invariant-loop-step : goal.invariant-loop-step
invariant-loop-step l = string_bytes l.text ≡ string_bytes l.fn.text ++ flat_map step_line (take l.step-index l.steps)
