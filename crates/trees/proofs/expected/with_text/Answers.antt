use Rattle.std.proofs.Common.{◌≡◌, ◌<◌, [], ◌∷◌, ◌++◌, ℕ, List, codes, length, get_or, map, take, sym, ap, ◌∙◌, string_bytes, arith, rules}
use Rattle.std.proofs.lemmas.List.{get_or-map, length-map, take_all, take_more}
use Rattle.trees.proofs.DistinctTexts.{bytes_push}
use Rattle.trees.proofs.expected.with_text.Goals as goal

pub loop-prefix-init : goal.loop-prefix-init
loop-prefix-init c = ap (map string_bytes) c.new-lines.ensures.items

pub loop-prefix-preserved : goal.loop-prefix-preserved
loop-prefix-preserved c =
    let items = c.args.prefixes.now in
    let texts : List (List ℕ) = map string_bytes items in
    let all : List (List ℕ) = map (λ prefix. prefix ++ codes "x") texts in
    let i : ℕ = c.loop-prefix.prefix-index in
    let inside : i < length items = omega (arith, c.loop-prefix-test.true) in
    let low : i < length texts = rw length-map inside in
    let text : string_bytes c.prefix-item.result ≡ get_or texts i [] = ap string_bytes c.prefix-item.is ∙ sym (get_or-map string_bytes items i c.prefix-item.result [] inside) in
    let line : string_bytes c.prefix-item.result ++ codes "x" ≡ get_or all i [] = ap (λ z. z ++ codes "x") text ∙ sym (get_or-map (λ prefix. prefix ++ codes "x") texts i [] [] low) in
    let pushed = bytes_push c.loop-prefix.lines.items c.push.new.self.items c.in_ok-format.field-0 (string_bytes c.prefix-item.result ++ codes "x") c.in_ok-push.ensures.items (search rules) in
    pushed ∙ (ap (λ z. z ++ (string_bytes c.prefix-item.result ++ codes "x") ∷ []) c.loop-prefix.invariant ∙ (ap (λ z. take i all ++ z ∷ []) line ∙ sym (take_more all i [] (rw length-map low))))

pub returns : goal.returns
returns c =
    let all : List (List ℕ) = map (λ prefix. prefix ++ codes "x") (map string_bytes c.args.prefixes.now) in
    c.loop-prefix.invariant ∙ take_all c.loop-prefix.prefix-index all (rw (length-map, length-map) (omega (arith, c.loop-prefix-test.false)))
