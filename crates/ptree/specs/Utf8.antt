-- Items whose drawings are UTF-8.
use Rattle.std.specs.Prelude.{IsUtf8}
use Rattle.ptree.specs.Address.{Address}
use Rattle.ptree.specs.Drawing.{Look, own_at}
use Rattle.ptree.specs.Shape.{Shape}

-- the own bytes at each address are UTF-8
abbrev pub HasUtf8Texts : Look → Shape → Type 0
HasUtf8Texts look x = (a : Address) → IsUtf8 (own_at look x a)
