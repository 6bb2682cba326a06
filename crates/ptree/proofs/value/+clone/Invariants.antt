use Rattle.std.proofs.Common.{◌≡◌, take, map}
use Rattle.ptree.specs.Value.{data_of, entry_of}
use Rattle.ptree.proofs.value.+clone.Given as goal

abbrev pub invariant-clone_items-loop-item : goal.invariant-clone_items-loop-item
invariant-clone_items-loop-item l = map data_of l.copies.items ≡ map data_of (take l.item-index l.item-items)

abbrev pub invariant-clone_entries-loop-key : goal.invariant-clone_entries-loop-key
invariant-clone_entries-loop-key l = map entry_of l.copies.items ≡ map entry_of (take l.key-index l.entries.items)
