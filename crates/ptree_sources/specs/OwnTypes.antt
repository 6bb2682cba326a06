-- What the library's own types mean.
use Rattle.std.specs.Prelude.{map, string_bytes}
use Rattle.ptree_sources.specs.declared.paths.Candidates.{Candidates}
use Rattle.ptree_sources.specs.Candidates as looked_for

-- the meaning of the paths that are tried
abbrev pub candidates_of : Candidates → looked_for.Candidates
candidates_of c = record { named = c.named; paths = map string_bytes c.paths.items }
