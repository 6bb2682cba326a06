use Rattle.trees.proofs.Common.{◌≡◌, ◌∙◌, ℕ, Bool, List, IfOk, map, ap, sym, subst, Bor, YieldsList-end, YieldsList-from_lines}
use Rattle.trees.specs.Listing.{path_lines}
use Rattle.trees.proofs.lists.lines_of.Goals as goal

pub returns-then-ends_in_zero : goal.returns-then-ends_in_zero
returns-then-ends_in_zero c =
    subst (λ (b : Bool). IfOk c.parts_of.result (λ v. map (λ (x : Bor (List ℕ)). x.now) v.items ≡ path_lines b c.args.text.now)) (sym c.if-ends_in_zero.true) c.parts_of.ensures

pub returns : goal.returns
returns c =
    let end = YieldsList-end (YieldsList-from_lines c.args.text.now (cc)) c.loop-line.yielded _ c.loop-line.yielded_by _ _ c.in-None.is c.next.ensures.steps in
    subst (λ (b : Bool). map (λ (x : Bor (List ℕ)). x.now) c.loop-line.found.items ≡ path_lines b c.args.text.now) (sym c.if-ends_in_zero.false)
    (ap (map (λ (x : Bor (List ℕ)). x.now)) c.loop-line.invariant ∙ end.0)
