use Rattle.std.proofs.Common.{inl, inr, refl, ◌∙◌, ap, subst, List, ℕ}
use Rattle.rose_shell.specs.Faults.{status_of}
use Rattle.rose_shell.specs.Giving.{GaveSome}
use Rattle.rose_shell.proofs.telling.give_lines.Goals as goal

-- all was given
pub returns-in-Ok-clause-told : goal.returns-in-Ok-clause-told
returns-in-Ok-clause-told g c = λ tells.
    let gave = c.in-Ok.ensures.told tells in
    record {
      unsent = gave.unsent;
      some = subst
          (λ (l : List ℕ). GaveSome (g.W.Outside.view c.args.world.now) (g.W.Outside.view c.give_all.new.world) l gave.unsent)
          c.bytes.ensures gave.some;
      ends = inl (refl, gave.whole);
    }

-- or all but an end
pub returns-in-Err-clause-told : goal.returns-in-Err-clause-told
returns-in-Err-clause-told g c = λ tells.
    let gave = c.in-Err.ensures.told tells in
    record {
      unsent = gave.unsent;
      some = subst
          (λ (l : List ℕ). GaveSome (g.W.Outside.view c.args.world.now) (g.W.Outside.view c.give_all.new.world) l gave.unsent)
          c.bytes.ensures gave.some;
      ends = inr (c.from.ensures ∙ ap status_of c.in-Err.ensures.sink, gave.short);
    }
