use Rattle.std.proofs.Common.{sym}
use Rattle.examples.proofs.own_types.drawing_of_volume.Goals as goal

pub returns : goal.returns
returns c = rw (sym c.as_str.ensures.value, sym c.as_slice.ensures.value) c.tree_bytes.ensures
