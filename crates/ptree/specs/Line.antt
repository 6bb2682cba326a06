-- What the buffer of an entry holds.
use Rattle.std.specs.Prelude.{ℕ, List, take, drop, ◌++◌}
use Rattle.ptree.specs.Drawing.{with_inserted}
use Rattle.ptree.specs.declared.output.line.LineBuffer.{LineBuffer}

-- the bytes that are gathered
abbrev pub line_bytes : LineBuffer → List ℕ
line_bytes l = take l.used l.room.items

-- bytes with a text inserted after each line feed that is after the first `start` bytes: the first
-- `width` bytes, and a further text
abbrev pub spread_bytes : ℕ → ℕ → List ℕ → List ℕ → List ℕ
spread_bytes start width further bytes = take start bytes ++ with_inserted (take width bytes ++ further) (drop start bytes)
