use Rattle.std.proofs.Common.{◌++◌}
use Rattle.std.proofs.lemmas.Result.{IfOk-weaker}
use Rattle.rose_shell.specs.Lines.{last_line}
use Rattle.rose_shell.proofs.certificate.Certificate.reply.Goals as goal

-- what was heard is judged, and the verdict told
pub returns : goal.returns
returns c = record {
  tells = IfOk-weaker c.verdict_line.result _ _
      (λ reply is. λ texts part come. (
        c.verdict-verdict.result,
        c.hearing_is_judged.ensures.verdict _ (texts ++ last_line part) _ (c.in_ok-end_input.ensures.come texts part come)
            c.verdict-verdict.ensures,
        is,
      ))
      c.verdict_line.ensures;
}
