use Rattle.std.proofs.Common.{◌-◌, length, arith}
use Rattle.std.proofs.lemmas.List.{take_rest}
use Rattle.ptree.proofs.Drawing.Overlaid.{ends_overlaid}
use Rattle.ptree.proofs.output.place.place_ends.Goals as goal

pub returns-clause-text : goal.returns-clause-text
returns-clause-text g c = ends_overlaid c.args.room.now _ _ c.args.text.now c.args.at g.row.N (omega (arith, c.requires.fits)) c.requires.low c.requires.high c.place_front.ensures.text
    (rw (take_rest c.args.text.now (length c.args.text.now - g.row.N)) at c.place_front-2.ensures.text)
