use Rattle.trees.proofs.Common.{ap, flat_map, map-id, string_bytes, sym, ◌∙◌, encode_utf8_all, YieldsList-end}
use Rattle.std.proofs.lemmas.Iterator.{YieldsList-from_chars}
use Rattle.ptree_trees.proofs.Escapes.{char_pushed}
use Rattle.trees.specs.Shown.{shown_char}
use Rattle.trees.proofs.screen.shown.Goals as goal

pub loop-c-preserved : goal.loop-c-preserved
loop-c-preserved c = char_pushed shown_char c.loop-c.yielded c.in-Some.c (string_bytes c.loop-c.shown) (string_bytes c.push_shown.new.shown) c.loop-c.invariant c.in_ok-push_shown.ensures

pub returns : goal.returns
returns c =
    let end = YieldsList-end (YieldsList-from_chars c.args.lines.now c.utf8.lines cc) c.loop-c.yielded _ c.loop-c.yielded_by _ _ c.in-None.is c.next.ensures.steps in
    c.loop-c.invariant ∙ ap (λ cs. encode_utf8_all (flat_map shown_char cs)) (sym (map-id c.loop-c.yielded) ∙ end.0)
