use Rattle.line_grammar.specs.Fitting.{is_name_byte}
use Rattle.line_grammar.proofs.Runs.{run_passes}
use Rattle.line_grammar.proofs.tokens.name.Goals as goal

-- what was cut off are the bytes of a name at the front
pub text_of_name-requires : goal.text_of_name-requires
text_of_name-requires c = rw (c.split_at.ensures.front, c.name_bytes.ensures.run) (run_passes is_name_byte 32 c.args.line.now)
