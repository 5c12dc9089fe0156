use Rattle.std.proofs.Common.{◌∙◌, ap, sym, min, length}
use Rattle.outside_world.specs.Log.{now_of}
use Rattle.outside_world.specs.Steady.{Steady}
use Rattle.outside_world.proofs.ToldLog.{read_log}
use Rattle.outside_world.proofs.steady_world.SteadyWorldOutside.read_at.Goals as goal

-- the note leaves the file as it reads
pub returns-clause-told : goal.returns-clause-told
returns-clause-told c = λ tells.
    let reads = c.file.ensures.reads ∙ ap (λ (s : Steady). now_of s.log c.args.file) c.self.view_is in
    let size = c.fill.ensures.size ∙ ap (λ k. min k (length c.behind.result.now)) (sym c.fill.ensures.length) in
    read_log c.args.self.now.log c.look.new.self.log c.args.file c.args.at c.fill.result c.fill.new.buf
    c.behind.result.now c.file.result.now c.behind.ensures reads size c.fill.ensures.bytes (c.look.ensures.notes tells).noted
