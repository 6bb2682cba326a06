use Rattle.std.proofs.Common.{◌≡◌, ◌∷◌, [], ◌++◌, ◌+◌, ℕ, suc, List, map, sym, ap, ◌∙◌, string_bytes, subst, arith, rules}
use Rattle.ptree.specs.Pieces.{Pieces, pieces_of}
use Rattle.trees.specs.Expected.{AreFronts, HasFronts, EndsBelow, AddsTexts}
use Rattle.trees.proofs.DistinctTexts.{bytes_push}
use Rattle.trees.proofs.Fronts.{AreFrontsTo, front_added, front_longer, fronts_below}
use Rattle.trees.proofs.FrontsTried.{HasTried, tried_more, tried_deeper, found_below, found_last, found_all}
use Rattle.trees.proofs.expected.fronts.Goals as goal
use Rattle.trees.proofs.expected.fronts.Goals.{then-passed-lt-LEVELS+in_ok-push_below, else-passed-lt-LEVELS}

pub returns-in_default : goal.returns-in_default
returns-in_default c =
    let p : Pieces = pieces_of c.args.indent.now in
    let line : List ℕ = c.args.line.now in
    let n : ℕ = c.loop-passed.passed in
    let front : List ℕ = string_bytes c.loop-passed.front in
    let rest : List ℕ = c.loop-passed.rest.now in
    let old : List (List ℕ) = map string_bytes c.loop-passed.fronts.items in
    let new : List (List ℕ) = map string_bytes c.push.new.self.items in
    let added : new ≡ old ++ front ∷ [] = bytes_push c.loop-passed.fronts.items c.push.new.self.items c.in_ok-from_str.field-0 front c.in_ok-push.ensures.items (search rules) in
    let are : AreFrontsTo p new front = front_added p old new front added c.loop-passed.invariant.1 in
    let have : HasTried p line n (suc n) new front rest = tried_more p c.requires line n old new front rest added c.loop-passed.invariant.2 in
    elim c.if-passed-lt-LEVELS.branch [
      | then-passed-lt-LEVELS+in_ok-push_below w ↦
          let all : List (List ℕ) = map string_bytes w.push_below.new.fronts.items in
          let more : AddsTexts (EndsBelow p front rest) new all = subst (λ z. AddsTexts (EndsBelow p z rest) new all) w.as_str-then-passed-lt-LEVELS.ensures.value w.in_ok-push_below.ensures in
          subst (λ v. AreFronts p (map string_bytes v.items) × HasFronts p line (map string_bytes v.items)) (sym w.fronts-is)
          (fronts_below p c.requires new all front rest are more, found_below p c.requires line n new all front rest have c.in_default.ensures more)
      | else-passed-lt-LEVELS w ↦
          subst (λ v. AreFronts p (map string_bytes v.items) × HasFronts p line (map string_bytes v.items)) (sym w.fronts-is)
          (are.are, found_last p c.requires line n new front rest have c.in_default.ensures (omega (arith, w.if-passed-lt-LEVELS.false)))
    ]

pub loop-passed-preserved : goal.loop-passed-preserved
loop-passed-preserved c =
    let p : Pieces = pieces_of c.args.indent.now in
    let line : List ℕ = c.args.line.now in
    let n : ℕ = c.loop-passed.passed in
    let front : List ℕ = string_bytes c.loop-passed.front in
    let rest : List ℕ = c.loop-passed.rest.now in
    let old : List (List ℕ) = map string_bytes c.loop-passed.fronts.items in
    let new : List (List ℕ) = map string_bytes c.push.new.self.items in
    let added : new ≡ old ++ front ∷ [] = bytes_push c.loop-passed.fronts.items c.push.new.self.items c.in_ok-from_str.field-0 front c.in_ok-push.ensures.items (search rules) in
    let are : AreFrontsTo p new front = front_added p old new front added c.loop-passed.invariant.1 in
    let have : HasTried p line n (suc n) new front rest = tried_more p c.requires line n old new front rest added c.loop-passed.invariant.2 in
    let longer : List ℕ = string_bytes c.push_str.new.self in
    let more : longer ≡ front ++ c.in-Some.piece.now = search rules in
    let (last, piece, goes) = c.in-Some.ensures in
    let is = more ∙ ap (λ z. front ++ z) piece in
    let deeper : HasTried p line (suc n) (suc n) new longer c.in-Some.left.now = tried_deeper p line n new front rest longer c.in-Some.left.now last is (goes ∙ ap (λ z. z ++ c.in-Some.left.now) piece) have in
    let level : suc n ≡ n + 1 = omega arith in
    (search rules, front_longer p c.requires new front longer (last, is) are, subst (λ m. HasTried p line m m new longer c.in-Some.left.now) level deeper)

pub returns : goal.returns
returns c =
    let p : Pieces = pieces_of c.args.indent.now in
    let fronts : List (List ℕ) = map string_bytes c.loop-passed.fronts.items in
    (c.loop-passed.invariant.1.are, found_all p c.requires c.args.line.now c.loop-passed.passed fronts (string_bytes c.loop-passed.front) c.loop-passed.rest.now c.loop-passed.invariant.2 (omega (arith, c.loop-passed-test.false)))
