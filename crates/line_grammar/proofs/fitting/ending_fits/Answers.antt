use Rattle.std.proofs.Common.{◌≡◌, length, arith, IsTrue, nat_eq}
use Rattle.std.proofs.lemmas.Bool.Decides.{nat_tests}
use Rattle.line_grammar.specs.Fitting.{is_name_byte}
use Rattle.line_grammar.proofs.Runs.{run_only, run_all}
use Rattle.line_grammar.proofs.fitting.ending_fits.Goals as goal

-- the count of bytes from the front that pass is the whole length exactly where each passes
pub returns-then-bytes-lt32 : goal.returns-then-bytes-lt32
returns-then-bytes-lt32 c =
    let bytes = c.args.bytes.now in
    let counted = c.name_bytes.ensures.run in
    let none_fails = λ (h : IsTrue (nat_eq c.name_bytes.result (length bytes))).
    let same : c.name_bytes.result ≡ length bytes = grind (arith, nat_tests, h) in
    run_only is_name_byte 32 bytes (omega (arith, same, counted)) in
    let all = run_all is_name_byte 32 bytes (omega arith) in
    (λ h. (none_fails h, omega arith), λ h. let whole = all h.0 in grind (arith, nat_tests, whole, counted))
