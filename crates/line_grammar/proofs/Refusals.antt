-- This file shows that a line is refused at the end of the longest front with which a command's text begins.
use Rattle.std.proofs.Common.{◌≡◌, ℕ, ◌-◌, ◌≤◌, List, ◌++◌, length, take, Ok, Err, refl, sym, ap, subst, ◌∙◌, arith}
use Rattle.line_grammar.specs.declared.command.Command.{Command}
use Rattle.line_grammar.proofs.Agree.{agree}
use Rattle.line_grammar.specs.Spelling.{command_text}
use Rattle.line_grammar.specs.Lines.{Says, Begins, IsFaultAt}
use Rattle.line_grammar.specs.Forms.{command_at}
use Rattle.line_grammar.proofs.Agreement.{agree-self, agree_front, agree_take}
use Rattle.line_grammar.proofs.Exact.{Exact, Stops, Spelled}
use Rattle.line_grammar.proofs.Commands.{exact_lines}

pub stops : (line : List ℕ) (left : ℕ) → command_at line ≡ Err left → Stops (λ c s. Says s c) line left
stops line left e = subst (Exact (λ c s. Says s c) line) e (exact_lines line)

pub spelled : (line : List ℕ) (c : Command) → command_at line ≡ Ok c → Spelled (λ c s. Says s c) line c
spelled line c e = subst (Exact (λ c s. Says s c) line) e (exact_lines line)

-- the line itself would agree with one more than its length
pub no_command : (line : List ℕ) (left : ℕ) → Stops (λ c s. Says s c) line left → (c : Command) → Says line c → ⊥
no_command line left x c h =
    let whole = agree-self line in
    let less = x.furthest c line h in
    omega (arith, whole, less)

begins_there : (line : List ℕ) (left : ℕ) → Stops (λ c s. Says s c) line left → Begins (take (length line - left) line)
begins_there line left x =
    let reached = x.reached in
    let at : agree line x.text ≡ length line - left = omega (arith, reached) in
    let front = agree_front line x.text (omega (arith, reached)) in
    (x.value, front.0, x.spelled.0, sym x.spelled.1 ∙ front.1 ∙ ap (λ (n : ℕ). take n line ++ front.0) at)

no_further : (line : List ℕ) (left : ℕ) → Stops (λ c s. Says s c) line left → (k : ℕ) → k ≤ length line → Begins (take k line)
    → k ≤ length line - left
no_further line left x k within b =
    let less = x.furthest b.0 (command_text b.0) (b.2, refl) in
    let shared : k ≤ agree line (command_text b.0) = rw (b.3) (agree_take k line b.1 within) in
    omega (arith, less, shared)

pub fault_at : (line : List ℕ) (left : ℕ) → Stops (λ c s. Says s c) line left → IsFaultAt line (length line - left)
fault_at line left x = record {
  within = omega arith;
  begins = begins_there line left x;
  no_more = no_further line left x;
}
