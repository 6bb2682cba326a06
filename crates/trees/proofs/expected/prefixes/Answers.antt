use Rattle.std.proofs.Common.{◌≡◌, ◌<◌, [], ℕ, List, length, get_or, map, sym, ap, ◌∙◌, string_bytes, subst, arith}
use Rattle.std.proofs.lemmas.List.{get_or-map, length-map}
use Rattle.ptree.specs.Pieces.{Pieces, pieces_of}
use Rattle.trees.specs.Expected.{EndsFront, AddsTexts}
use Rattle.trees.proofs.Beginnings.{behind_none, next_items}
use Rattle.trees.proofs.DistinctTexts.{texts_none}
use Rattle.trees.proofs.expected.prefixes.Goals as goal

pub loop-front-init : goal.loop-front-init
loop-front-init c =
    let p : Pieces = pieces_of c.args.indent.now in
    let all : List (List ℕ) = map string_bytes c.args.fronts.now in
    subst (λ z. AddsTexts (EndsFront p all 0) [] (map string_bytes z)) (sym c.new-prefixes.ensures.items) (texts_none (EndsFront p all 0) [] (behind_none p all))

pub loop-front-preserved : goal.loop-front-preserved
loop-front-preserved c =
    let p : Pieces = pieces_of c.args.indent.now in
    let items = c.args.fronts.now in
    let all : List (List ℕ) = map string_bytes items in
    let i : ℕ = c.loop-front.front-index in
    let inside : i < length items = omega (arith, c.loop-front-test.true) in
    let low : i < length all = rw length-map inside in
    let front : c.as_str.result.now ≡ get_or all i [] = c.as_str.ensures.value ∙ (ap string_bytes c.front-item.is ∙ sym (get_or-map string_bytes items i c.front-item.result [] inside)) in
    next_items p c.requires.readable all c.requires.fronts i c.as_str.result.now low front (map string_bytes c.loop-front.prefixes.items) (map string_bytes c.push_items.new.prefixes.items) c.loop-front.invariant c.in_ok-push_items.ensures

pub returns : goal.returns
returns c =
    let p : Pieces = pieces_of c.args.indent.now in
    let all : List (List ℕ) = map string_bytes c.args.fronts.now in
    let end : c.loop-front.front-index ≡ length c.args.fronts.now = omega (arith, c.loop-front-test.false, c.loop-front.auto.front-index-end) in
    subst (λ n. AddsTexts (EndsFront p all n) [] (map string_bytes c.loop-front.prefixes.items)) end c.loop-front.invariant
