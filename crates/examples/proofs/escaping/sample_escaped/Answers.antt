use Rattle.std.proofs.lemmas.Result.{IfOk-weaker}
use Rattle.std.specs.Char.{encode_utf8}
use Rattle.std.specs.Str.{chars}
use Rattle.examples.proofs.escaping.sample_escaped.Goals as goal

pub returns : goal.returns
unfolding chars encode_utf8
returns c = IfOk-weaker c.escaped.result _ _ (λ s e. e) c.escaped.ensures.text
