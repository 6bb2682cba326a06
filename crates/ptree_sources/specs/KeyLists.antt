-- The keys of a file, as they are gathered one by one.
use Rattle.std.specs.Prelude.{◌≡◌, List, ◌++◌}
use Rattle.ptree.specs.Matched.{AreMatched}
use Rattle.ptree_sources.specs.Settings.{KeyValue, IsEntry}
use Rattle.ptree_sources.specs.declared.settings.keys.Entry.{Entry}

-- entries of these keys were added
pub record AddsKeys (old new : List Entry) (keys : List KeyValue) : Type 0 where
  pub more : List Entry
  pub added : new ≡ old ++ more
  pub matched : AreMatched IsEntry keys more

-- with entries of the keys that are left, the entries are those of all keys
pub record HasKeysBut (all left : List KeyValue) (found : List Entry) : Type 0 where
  pub go : (rest : List Entry) → AreMatched IsEntry left rest → AreMatched IsEntry all (found ++ rest)

-- entries were added that, with entries of the keys that are left, are those of all keys
pub record AddsKeysBut (all left : List KeyValue) (old new : List Entry) : Type 0 where
  pub more : List Entry
  pub added : new ≡ old ++ more
  pub but : HasKeysBut all left more
