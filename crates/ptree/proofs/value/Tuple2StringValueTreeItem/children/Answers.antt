use Rattle.ptree.specs.Value.{pair_of}
use Rattle.ptree.proofs.Values.ValuePairs.{kids_of_pair}
use Rattle.ptree.proofs.value.Tuple2StringValueTreeItem.children.Goals as goal

pub returns-clause-shapes : goal.returns-clause-shapes
returns-clause-shapes c = kids_of_pair pair_of (pair_of c.args.self.now) c.in_ok-pairs.field-0.items c.in_ok-pairs.ensures
