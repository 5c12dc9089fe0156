-- This file shows that the padded text of a byte is its two digits.
use Rattle.std.proofs.Common.{arith, ap, subst, List, ℕ, Option, Some, ◌≡◌, ◌<◌}
use Rattle.std.proofs.lemmas.Fmt.{hex_byte}
use Rattle.std.specs.Fmt.{DisplaysOnOk, styled_digits_output}
use Rattle.process_run.specs.Base16.{byte_text}
use Rattle.process_run.proofs.base_16.TwoDigitsDisplay.fmt.Goals as goal

-- what the call writes is the text of its options, and these ask for two digits
pub returns-clause-writes : goal.returns-clause-writes
returns-clause-writes g c =
    let byte = c.args.self.now.0 in
    let small : byte < 256 = omega arith in
    let shown : styled_digits_output c.in_radix.result c.laid_out.result ≡ Some (byte_text byte) =
    simp (c.in_radix.ensures, c.laid_out.ensures) (ap Some (hex_byte _ byte small)) in
    let Shows : Option (List ℕ) → Type 0 =
    λ text. DisplaysOnOk g.W.Write.write_str_gives c.args.f.now c.write.result text c.write.new.self in
    subst Shows shown c.write.ensures.writes
