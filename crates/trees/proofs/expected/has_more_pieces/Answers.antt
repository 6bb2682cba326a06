use Rattle.trees.proofs.Common.{◌≡◌, inl, inr, ℕ, List, subst, arith, rules, IsPrefixOf}
use Rattle.ptree.specs.Pieces.{Pieces, pieces_of}
use Rattle.trees.proofs.DeepLines.{passes_more, turns_too_deep}
use Rattle.trees.proofs.expected.has_more_pieces.Goals as goal

pub loop-level-preserved : goal.loop-level-preserved
loop-level-preserved c =
    let p : Pieces = pieces_of c.args.indent.now in
    let more = passes_more p c.args.line.now c.loop-level.rest.now _ c.in-Some.left.now c.loop-level._level c.loop-level.invariant.1 c.in-Some.ensures in
    (search rules, more)

pub returns-then-begins : goal.returns-then-begins
returns-then-begins c _ =
    let p : Pieces = pieces_of c.args.indent.now in
    let rest : List ℕ = c.loop-level.rest.now in
    let all : c.loop-level._level ≡ 5000 = omega (arith, c.loop-level-test.false, c.loop-level.auto._level-end) in
    let starts : IsPrefixOf p.regular rest = subst (λ z. IsPrefixOf z rest) c.as_str.ensures.value (c.begins.ensures.0 c.if-begins.true) in
    turns_too_deep p c.args.line.now rest c.loop-level._level c.loop-level.invariant.1 all (inl starts)

pub returns-else-begins : goal.returns-else-begins
returns-else-begins c is =
    let p : Pieces = pieces_of c.args.indent.now in
    let rest : List ℕ = c.loop-level.rest.now in
    let all : c.loop-level._level ≡ 5000 = omega (arith, c.loop-level-test.false, c.loop-level.auto._level-end) in
    let starts : IsPrefixOf p.last_regular rest = subst (λ z. IsPrefixOf z rest) c.as_str-else-begins.ensures.value (c.begins-else-begins.ensures.0 is) in
    turns_too_deep p c.args.line.now rest c.loop-level._level c.loop-level.invariant.1 all (inr starts)
