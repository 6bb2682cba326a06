use Rattle.std.proofs.Common.{rules}
use Rattle.ptree_c.proofs.Rooms.{ends_put}
use Rattle.ptree_c.proofs.room.copy_ends.Goals as goal

pub returns : goal.returns
returns g c = search (rules, ends_put c.args.out.now c.args.text.now g.row.N c.requires.same c.requires.low c.requires.high)
