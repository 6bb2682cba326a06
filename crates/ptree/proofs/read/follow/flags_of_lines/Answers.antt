use Rattle.std.proofs.Common.{◌≡◌, ◌<◌, ℕ, true, List, [], ◌++◌, length, get_or, map, string_bytes, sym, ap, ◌∙◌, subst, arith}
use Rattle.std.proofs.lemmas.Bool.{false≢true}
use Rattle.std.proofs.lemmas.List.{get_or-map, length-map}
use Rattle.std.specs.Prelude.{◌↔◌}
use Rattle.ptree.specs.Continuation.{IsFollowedBy}
use Rattle.ptree.specs.Looks.{look_of}
use Rattle.ptree.specs.OpenDrawing.{WasRead}
use Rattle.ptree.proofs.Reading.OpenDrawings.{AreFirstFlags, was_read, follows_none, first_flags_push}
use Rattle.ptree.proofs.read.follow.flags_of_lines.Goals as goal
use Rattle.ptree.proofs.read.follow.flags_of_lines.Goals.{then-begins+in_ok-follows, else-begins}

pub read-requires-clause-after : goal.read-requires-clause-after
read-requires-clause-after c = ([], c.new-open.ensures (look_of c.args.frame.now.look) c.args.frame.now.depth)

pub goes_on_with-requires-clause-after : goal.goes_on_with-requires-clause-after
goes_on_with-requires-clause-after c =
    let k = look_of c.args.frame.now.look in
    let depth = c.args.frame.now.depth in
    let whole : List ℕ = c.split_lines.result.0.now in
    (whole, was_read k depth whole c.in_ok-begins.begins c.read.new.self (c.in_ok-begins.ensures [] (c.new-open.ensures k depth)) c.if-begins.true)

pub loop-line-preserved : goal.loop-line-preserved
loop-line-preserved c =
    let k = look_of c.args.frame.now.look in
    let depth = c.args.frame.now.depth in
    let text : List ℕ = c.args.text.now in
    let whole : List ℕ = c.split_lines.result.0.now in
    let part : List ℕ = c.split_lines.result.1.now in
    let is : text ≡ whole ++ part = c.split_lines.ensures.2 in
    let read : WasRead k depth whole c.in_ok-begins.begins c.read.new.self = c.in_ok-begins.ensures [] (c.new-open.ensures k depth) in
    let texts : List (List ℕ) = map string_bytes c.args.lines.now in
    let flags = c.loop-line.flags.items in
    let line : List ℕ = get_or texts (length flags) [] in
    let inside : c.loop-line.line-index < length c.args.lines.now = omega (arith, c.loop-line-test.true) in
    let given : string_bytes c.line-item.result ≡ line = ap string_bytes c.line-item.is ∙ (sym (get_or-map string_bytes c.args.lines.now c.loop-line.line-index c.line-item.result [] inside) ∙ ap (λ n. get_or texts n []) (sym c.loop-line.invariant.0)) in
    let next : (c.if-begins.follows ≡ true) ↔ IsFollowedBy k depth text line =
    elim c.if-begins.branch [
      | then-begins+in_ok-follows w ↦
          let both = w.in_ok-follows.ensures whole (was_read k depth whole c.in_ok-begins.begins c.read.new.self read w.if-begins.true) in
          subst (λ z. (z ≡ true) ↔ IsFollowedBy k depth text line) (sym w.follows-is)
          (subst (λ z. (w.in_ok-follows.follows ≡ true) ↔ IsFollowedBy k depth z line) (sym is) (subst (λ z. (w.in_ok-follows.follows ≡ true) ↔ IsFollowedBy k depth (whole ++ part) z) (w.as_str.ensures.value ∙ given) both))
      | else-begins w ↦
          subst (λ z. (z ≡ true) ↔ IsFollowedBy k depth text line) (sym w.follows-is)
          (λ e. absurd (false≢true (sym w.if-begins.false ∙ e)), λ goes. absurd (follows_none k depth text whole part line c.in_ok-begins.begins c.read.new.self is read w.if-begins.false goes))
    ] in
    let pushed = c.in_ok-push.ensures.items in
    let more : AreFirstFlags (IsFollowedBy k depth text) texts c.push.new.self.items =
    subst (AreFirstFlags (IsFollowedBy k depth text) texts) (sym pushed) (first_flags_push (IsFollowedBy k depth text) texts flags c.if-begins.follows c.loop-line.invariant.1 next) in
    (omega (arith, c.in_ok-push.ensures.len, c.loop-line.invariant.0, ap length pushed), more)

pub returns : goal.returns
returns c =
    let count : length c.loop-line.flags.items ≡ length (map string_bytes c.args.lines.now) = rw length-map (omega (arith, c.loop-line.invariant.0, c.loop-line-test.false, c.loop-line.auto.line-index-end)) in
    record { count = count; each = λ i low. c.loop-line.invariant.1 i (omega (arith, count, low)) }
