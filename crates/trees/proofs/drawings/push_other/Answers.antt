use Rattle.trees.proofs.Common.{rules, config_of}
use Rattle.trees.specs.Named.{IsReadWith}
use Rattle.trees.proofs.Named.{adds_name}
use Rattle.trees.proofs.drawings.push_other.Goals as goal

pub returns : goal.returns
returns c =
    let p = c.in-Some.pieces in
    let read : IsReadWith (config_of c.args.config.now) c.args.text.now p = search rules in
    adds_name (config_of c.args.config.now) c.args.text.now p _ _ _ c.name.result.now read c.name.ensures c.in_ok-push_str.ensures.bytes c.in_ok-push_str-2.ensures.bytes
