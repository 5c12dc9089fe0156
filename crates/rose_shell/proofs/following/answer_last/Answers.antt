use Rattle.std.proofs.Common.{◌≡◌, length, arith}
use Rattle.std.proofs.lemmas.Bool.Decides.{nat_tests}
use Rattle.rose_shell.proofs.LinesAlone.{did_no_last}
use Rattle.rose_shell.proofs.Followers.{rests_for_follower}
use Rattle.rose_shell.proofs.following.answer_last.Goals as goal

-- an empty line is none
pub returns-then-is_empty-clause-did : goal.returns-then-is_empty-clause-did
returns-then-is_empty-clause-did g c = λ t.
    let none : length c.args.line.now ≡ 0 = grind (arith, nat_tests, c.is_empty.ensures, c.if-is_empty.true) in
    did_no_last c.args.line.now none (rests_for_follower (c.requires.rest t))
