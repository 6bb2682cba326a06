use Rattle.std.proofs.Common.{◌≡◌, true, List, [], ℕ, ◌+◌, get_or, map, take, sym, subst, rules, Bor}
use Rattle.trees.specs.Depending.{ends, is_need, needs_between}
use Rattle.trees.specs.DependingParts.{texts_of}
use Rattle.trees.proofs.Networks.{turn_same, turn_more}
use Rattle.trees.proofs.PairGraphs.{pair_known}
use Rattle.trees.proofs.deps.pairs.needs.Goals as goal
use Rattle.trees.proofs.deps.pairs.needs.Goals.{then-ne+in_ok-push, else-ne}

pub number-needing-requires-clause-known : goal.number-needing-requires-clause-known
number-needing-requires-clause-known c = (pair_known c.args.pairs.now (map (λ (n : Bor (List ℕ)). n.now) c.args.names.now) c.requires c.loop-first.first-index (record { ref_ptr = (0, 0); now = [] }, record { ref_ptr = (0, 0); now = [] }) c.loop-first-test.true).0

pub number-needed-requires-clause-known : goal.number-needed-requires-clause-known
number-needed-requires-clause-known c = (pair_known c.args.pairs.now (map (λ (n : Bor (List ℕ)). n.now) c.args.names.now) c.requires c.loop-first.first-index (record { ref_ptr = (0, 0); now = [] }, record { ref_ptr = (0, 0); now = [] }) c.loop-first-test.true).1

pub loop-first-preserved : goal.loop-first-preserved
loop-first-preserved c =
    let names = map (λ (n : Bor (List ℕ)). n.now) c.args.names.now in
    let ps = c.args.pairs.now in
    let i = c.loop-first.first-index in
    let none : Bor (List ℕ) = record { ref_ptr = (0, 0); now = [] } in
    let d : Bor (List ℕ) × Bor (List ℕ) = (none, none) in
    let old = c.loop-first.needs.items in
    elim c.if-ne.branch [
      | then-ne+in_ok-push w ↦
          let differ : is_need (texts_of (get_or ps i d)) ≡ true = search rules in
          subst (λ v. map ends v.items ≡ needs_between names (map texts_of (take (i + 1) ps))) (sym w.needs-is)
          (turn_more names ps i d c.loop-first-test.true old c.loop-first.invariant (record { needing = w.number-needing.result; needed = w.number-needed.result }) w.push.new.self.items differ w.in_ok-push.ensures.items w.number-needing.ensures w.number-needed.ensures)
      | else-ne w ↦
          subst (λ v. map ends v.items ≡ needs_between names (map texts_of (take (i + 1) ps))) (sym w.needs-is) (turn_same names ps i d c.loop-first-test.true old c.loop-first.invariant (search rules))
    ]
