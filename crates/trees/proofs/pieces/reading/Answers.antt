use Rattle.trees.proofs.Common.{rules, config_of}
use Rattle.trees.specs.Named.{IsReadWith}
use Rattle.trees.proofs.Named.{none_tried}
use Rattle.trees.proofs.pieces.reading.Goals as goal

pub returns : goal.returns
returns c =
    let reads = IsReadWith (config_of c.args.config.now) c.args.text.now in
    none_tried (config_of c.args.config.now) c.args.text.now c.first_reading.result (search rules)
