use Rattle.std.proofs.Common.{ℕ, List, ◌++◌, ◌∙◌, ap}
use Rattle.rose_shell.proofs.Batches.{heard_short, heard_long}
use Rattle.rose_shell.proofs.waiting.hear.Goals as goal

-- nothing is kept of a line that is too long
pub returns-then-kept-gt-LONGEST_LINE : goal.returns-then-kept-gt-LONGEST_LINE
returns-then-kept-gt-LONGEST_LINE c = λ line is. heard_long line c.if-kept-gt-LONGEST_LINE.true is

-- and all of any other
pub returns : goal.returns
returns c = λ line is.
    let same = heard_short line c.if-kept-gt-LONGEST_LINE.false is in
    let none = c.new-bytes.ensures.items in
    let items = c.in_ok-extend_from_slice.ensures.items ∙ ap (λ (l : List ℕ). l ++ c.args.kept.now) none in
    let made = c.new.ensures in
    cc
