use Rattle.ptree.proofs.Values.ValuePairs.{data_of-Map}
use Rattle.ptree.proofs.value.Value.pairs.Goals as goal

pub returns-in-Map : goal.returns-in-Map
returns-in-Map c = rw (c.in-Map.is, data_of-Map c.in-Map.entries, ← c.deref-in-Map.ensures.value) c.entry_pairs.ensures
