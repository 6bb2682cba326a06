use Rattle.trees.proofs.Common.{◌≡◌, [], subst, sym, Appends}
use Rattle.ptree_trees.specs.Difference.{IsItemDifference}
use Rattle.trees.specs.declared.failure.Failure.TheVariants.{Memory}
use Rattle.trees.specs.Asked.{drawing_value, reading_value}
use Rattle.trees.specs.Merging.{IsComparison, TellsDifference}
use Rattle.trees.specs.Writing.{AppendsSome}
use Rattle.trees.proofs.Told.{same_texts}
use Rattle.trees.proofs.Writings.{compares, or_never, or_weaker}
use Rattle.trees.proofs.perform.show_first.Goals as goal

pub returns-clause-written : goal.returns-clause-written
returns-clause-written g c =
    let diff = c.args.diff in
    let (t, u, a, b, found) = c.in_ok-first.ensures.some in
    let is = IsComparison diff.shows_all (drawing_value c.args.found.now.sources diff.drawing) diff.drawing.screen.is_terminal t u in
    let old = g.W.Sink.contents c.args.out.now in
    let new = g.W.Sink.contents c.say.new.out in
    let text = c.as_str.result.now in
    let differ : IsItemDifference t u c.in-Some.first = rw c.in-Some.is at found in
    let told : TellsDifference t u text = rw c.as_str.ensures.value (c.in_ok-said.ensures t u differ) in
    compares c.args.found.now.sources c.args.left.now c.args.right.now diff t u old new c.say.result a b
    (or_weaker (Appends old new []) (Appends old new []) old new c.say.result (λ bytes. bytes ≡ text) is (λ e. e ≡ Memory) (λ e. e ≡ Memory) (λ done. done) (λ bytes same. rw c.requires.first (subst (TellsDifference t u) (sym same) told)) (λ e memory. memory)
    (or_never (AppendsSome old new (λ bytes. bytes ≡ text)) (Appends old new []) old new c.say.result (λ bytes. bytes ≡ text) (λ e. e ≡ Memory) c.say.ensures.told c.say.ensures.written))

pub returns-in_default-clause-different : goal.returns-in_default-clause-different
returns-in_default-clause-different g c =
    let (t, u, a, b, found) = c.in_ok-first.ensures.some in
    let same : t ≡ u = rw c.in_default.is at found in
    absurd (c.requires.differ (same_texts (reading_value c.args.found.now.sources c.args.diff.drawing.pieces) c.args.left.now c.args.right.now t u a b same))
