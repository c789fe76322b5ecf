use Rattle.std.proofs.lemmas.Result.{on_ok_weaker}
use Rattle.case_lines.proofs.answer_input.Goals as goal

pub returns : goal.returns
returns g c = on_ok_weaker c.answer_text.result (λ asked. (c.deref.result.now, asked)) c.answer_text.ensures
