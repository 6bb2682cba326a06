use Rattle.trees.proofs.Common.{◌≡◌, ◌≢◌, ◌++◌, ℕ, List, true, false, refl, sym, rules, append_cancel_left, same_text, other_text}
use Rattle.ptree.specs.Pieces.{Pieces, turning_piece, pieces_of}
use Rattle.trees.specs.Expected.{EndsPieces}
use Rattle.trees.proofs.Beginnings.{one_piece, either_piece}
use Rattle.trees.proofs.DistinctTexts.{bytes_push, texts_one, texts_two}
use Rattle.trees.proofs.expected.push_items.Goals as goal

pub returns-then-eq : goal.returns-then-eq
returns-then-eq c =
    let front : List ℕ = c.args.front.now in
    let p : Pieces = pieces_of c.args.indent.now in
    let equal : turning_piece p true ≡ turning_piece p false = same_text (turning_piece p true) (turning_piece p false) c.if-eq.ensures in
    let pushed = bytes_push c.args.prefixes.now.items c.push.new.self.items c.in_ok-format.field-0 (front ++ turning_piece p false) c.in_ok-push.ensures.items (search rules) in
    texts_one (EndsPieces p front) _ _ (front ++ turning_piece p false) pushed (false, refl) (one_piece p equal front)

pub returns : goal.returns
returns c =
    let front : List ℕ = c.args.front.now in
    let p : Pieces = pieces_of c.args.indent.now in
    let apart : turning_piece p true ≢ turning_piece p false = other_text (turning_piece p true) (turning_piece p false) c.if-eq.ensures in
    let first = bytes_push c.args.prefixes.now.items c.push.new.self.items c.in_ok-format.field-0 (front ++ turning_piece p false) c.in_ok-push.ensures.items (search rules) in
    let second = bytes_push c.push.new.self.items c.push-2.new.self.items c.in_ok-format-2.field-0 (front ++ turning_piece p true) c.in_ok-push-2.ensures.items (search rules) in
    texts_two (EndsPieces p front) _ _ _ (front ++ turning_piece p false) (front ++ turning_piece p true) first second
    (λ e. apart (sym (append_cancel_left front (turning_piece p false) (turning_piece p true) e))) (false, refl) (true, refl) (either_piece p front)
