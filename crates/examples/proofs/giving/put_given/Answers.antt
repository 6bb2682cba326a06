use Rattle.std.proofs.Common.{◌≡◌, [], ◌∷◌, ◌++◌, ◌+◌, false, get_or, List, ℕ, drop, map, refl, sym, ap, ◌∙◌, subst, append_assoc, arith}
use Rattle.std.proofs.KnownBytes.{Appends-nil, Appends-trans}
use Rattle.std.proofs.lemmas.List.{append-nil, drop_all, drop_more}
use Rattle.std.specs.Io.KnownBytes.{Appends}
use Rattle.ptree.specs.GivenItems.{entry_behind, given_text}
use Rattle.ptree.specs.ItemWriter.{writer_look, path_of}
use Rattle.ptree.specs.Style.{painted_text}
use Rattle.examples.specs.Given.{given}
use Rattle.examples.specs.declared.giving.Given.{Given}
use Rattle.examples.proofs.giving.put_given.Goals as goal

pub loop-place-init : goal.loop-place-init
loop-place-init g c = record { same = refl; drawn = ([], refl, Appends-nil _) }

pub loop-place-preserved : goal.loop-place-preserved
loop-place-preserved g c =
    let shape = g.T.Shaped.shape in
    let look = writer_look c.args.writer.now in
    let inv = c.loop-place.invariant in
    let items = c.args.items.now in
    let place = c.loop-place.place in
    let item = c.index-items-place.result in
    let others = drop (place + 1) items in
    let path = path_of c.loop-place.writer in
    let i = given shape look item in
    let entry = entry_behind look path i.level i.last i.own in
    let after = given_text look (path_of c.put.new.self) (map (given shape look) others) in
    let same : get_or items place item ≡ item = sym c.index-items-place.is in
    let left : drop place items ≡ item ∷ others = drop_more items place item c.loop-place-test.true ∙ ap (λ i. i ∷ others) same in
    let split : given_text look path (map (given shape look) (drop place items)) ≡ entry ++ after =
    ap (λ xs. given_text look path (map (given shape look) xs)) left ∙ ap (λ p. entry ++ given_text look p (map (given shape look) others)) (sym c.in_ok-put.ensures.path) in
    record {
      same = c.put.ensures.look ∙ inv.same;
      drawn = (
        inv.drawn.0 ++ entry,
        append_assoc inv.drawn.0 entry after ∙ (ap (λ z. inv.drawn.0 ++ z) (sym split) ∙ inv.drawn.1),
        Appends-trans _ _ _ inv.drawn.0 entry inv.drawn.2
            (subst (λ k. Appends (g.W.Sink.contents c.loop-place.f) (g.W.Sink.contents c.put.new.f) (entry_behind k path item.level item.is_last ((shape item.item.now).own [] k.leaf))) inv.same c.in_ok-put.ensures.bytes),
      );
    }

pub returns : goal.returns
returns g c =
    let shape = g.T.Shaped.shape in
    let look = writer_look c.args.writer.now in
    let inv = c.loop-place.invariant in
    let items = c.args.items.now in
    let place = c.loop-place.place in
    let path = path_of c.loop-place.writer in
    let none : drop place items ≡ [] = drop_all place items (omega (arith, c.loop-place-test.false)) in
    let whole = sym (append-nil inv.drawn.0) ∙ (ap (λ xs. inv.drawn.0 ++ given_text look path (map (given shape look) xs)) (sym none) ∙ inv.drawn.1) in
    subst (λ (z : List ℕ). Appends (g.W.Sink.contents c.args.f.now) (g.W.Sink.contents c.loop-place.f) z) whole inv.drawn.2
