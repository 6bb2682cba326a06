use Rattle.trees.proofs.Common.{◌∙◌, ℕ, List, lit<, map, ap, Bor, YieldsList-end, YieldsList-from_str_split}
use Rattle.trees.proofs.lists.parts_of.Goals as goal

pub returns : goal.returns
returns c =
    let end = YieldsList-end (YieldsList-from_str_split 0 c.args.text.now (lit< tt) (cc) (cc) (cc)) c.loop-part.yielded _ c.loop-part.yielded_by _ _ c.in-None.is c.next.ensures.steps in
    ap (map (λ (x : Bor (List ℕ)). x.now)) c.loop-part.invariant ∙ end.0
