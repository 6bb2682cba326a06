use Rattle.trees.proofs.Common.{ℕ, eqb, List, lit<, sym, subst, rules, Bor, YieldsList-turn, YieldsList-end, YieldsList-from_str_split, All-push, All-map}
use Rattle.std.specs.List.{All, Any, slice_split}
use Rattle.trees.specs.ListingParts.{IsDeep}
use Rattle.trees.proofs.levels.deep_line.Goals as goal

pub returns-then-is_deep : goal.returns-then-is_deep
returns-then-is_deep c =
    let line = c.in-Some.line in
    let turn = YieldsList-turn (YieldsList-from_str_split 10 c.args.text.now (lit< tt) (cc) (cc) (cc)) c.loop-line.yielded _ c.loop-line.yielded_by _ _ line c.in-Some.is c.next.ensures.steps in
    let deep : IsDeep 5000 c.args.unit.now line.now = search rules in
    let some : Any (IsDeep 5000 c.args.unit.now) (slice_split (λ b. eqb b 10) c.args.text.now) = (_, line.now, turn.0, sym turn.1, deep) in
    search (rules, some)

pub loop-line-preserved : goal.loop-line-preserved
loop-line-preserved c =
    let shallow : IsDeep 5000 c.args.unit.now c.in-Some.line.now → ⊥ = search rules in
    All-push (λ (x : Bor (List ℕ)). IsDeep 5000 c.args.unit.now x.now → ⊥) c.loop-line.yielded c.in-Some.line c.loop-line.invariant shallow

pub returns : goal.returns
returns c =
    let end = YieldsList-end (YieldsList-from_str_split 10 c.args.text.now (lit< tt) (cc) (cc) (cc)) c.loop-line.yielded _ c.loop-line.yielded_by _ _ c.in-None.is c.next.ensures.steps in
    subst (All (λ l. IsDeep 5000 c.args.unit.now l → ⊥)) end.0 (All-map (λ l. IsDeep 5000 c.args.unit.now l → ⊥) (λ (x : Bor (List ℕ)). x.now) c.loop-line.yielded c.loop-line.invariant)
