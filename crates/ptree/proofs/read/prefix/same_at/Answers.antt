use Rattle.std.proofs.lemmas.Simd.{length-chunk}
use lib.Lanes.{chunk}
use Rattle.ptree.proofs.Reading.PrefixVectors.{same_by_mask}
use Rattle.ptree.proofs.read.prefix.same_at.Goals as goal

pub bitmask_asked-result : goal.bitmask_asked-result
bitmask_asked-result g c = c.requires.few

pub returns : goal.returns
returns g c =
    let a = c.args.a.now in
    let b = c.args.b.now in
    let place = c.args.place in
    let n = g.row.N in
    same_by_mask (chunk place n a) (chunk place n b) n (length-chunk place n a c.requires.left) (length-chunk place n b c.requires.right) c.requires.few
