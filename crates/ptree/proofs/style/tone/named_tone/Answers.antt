use Rattle.std.proofs.Common.{rules}
use Rattle.ptree.specs.Color.{named_tone}
use Rattle.ptree.proofs.style.tone.named_tone.Goals as goal

pub returns : goal.returns
unfolding named_tone
returns c = search rules
