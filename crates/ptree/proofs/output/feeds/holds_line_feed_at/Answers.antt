use Rattle.std.proofs.Common.{eqb, sym, ◌∙◌}
use Rattle.std.proofs.lemmas.Bool.{eqb-true, eqb-false, not-false}
use Rattle.std.proofs.lemmas.Simd.{bitmask_splat, none_from_empty_mask, length-chunk}
use lib.Lanes.{chunk}
use mir.Syntax.{w8}
use Rattle.ptree.proofs.output.feeds.holds_line_feed_at.Goals as goal

pub bitmask_asked-result : goal.bitmask_asked-result
bitmask_asked-result g c = c.requires.few

pub returns : goal.returns
returns g c = λ none k low high.
    let bytes = c.args.bytes.now in
    let within = c.requires.within in
    let mask = bitmask_splat w8 eqb (chunk c.args.place g.row.N bytes) g.row.N 10 (length-chunk c.args.place g.row.N bytes within) c.requires.few in
    eqb-false _ 10 (none_from_empty_mask (λ x. eqb x 10) bytes c.args.place g.row.N 0 within (sym mask ∙ eqb-true _ 0 (not-false _ none)) k low high)
