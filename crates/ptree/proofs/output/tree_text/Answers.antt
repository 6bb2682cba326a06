use Rattle.std.proofs.Common.{◌∙◌, sym, subst}
use Rattle.std.proofs.lemmas.Bool.{false≢true}
use Rattle.std.specs.Str.{IsUtf8}
use Rattle.ptree.specs.Drawing.{written_look}
use Rattle.ptree.proofs.Drawing.Laws.{one_drawing}
use Rattle.ptree.proofs.Drawing.Utf8Texts.{IsUtf8-drawing}
use Rattle.ptree.proofs.output.tree_text.Goals as goal

pub returns-clause-none : goal.returns-clause-none
returns-clause-none g c =
    let config = c.args.config.now in
    let same = one_drawing (written_look config) (g.T.Shaped.shape c.args.item.now) config.depth in
    λ drawing drawn utf8. false≢true (c.in-Err.ensures.succeeds (subst IsUtf8 (same drawing drawn ∙ sym (same c.in_ok-bytes.bytes.items c.in_ok-bytes.ensures)) utf8))

pub returns-clause-utf8 : goal.returns-clause-utf8
returns-clause-utf8 g c =
    let config = c.args.config.now in
    λ texts. c.in-Err.ensures.succeeds (IsUtf8-drawing config (g.T.Shaped.shape c.args.item.now) config.depth c.in_ok-bytes.bytes.items texts c.in_ok-bytes.ensures)
